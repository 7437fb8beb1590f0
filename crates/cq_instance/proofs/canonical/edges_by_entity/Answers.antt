use Rattle.std.proofs.Common.{ℕ, ◌≡◌, ◌<◌, map, length, sym, ap, subst, ◌∙◌, arith}
use Rattle.std.specs.Prelude.{All}
use Rattle.std.proofs.lemmas.List.{length-map}
use Rattle.std.proofs.lemmas.List.Elements.{All-map}
use Rattle.cq_theory.specs.declared.schema.Edge.{Edge}
use Rattle.cq_instance.proofs.canonical.edges_by_entity.Goals as goal

pub grouped-requires : goal.grouped-requires
grouped-requires c =
    let here : c.as_slice.result.now ≡ map (λ (edge : Edge). edge.from) c.args.edges.now = c.as_slice.ensures.value ∙ c.in_ok-sources.ensures in
    record {
      within = subst (All (λ (e : ℕ). e < c.args.entities)) (sym here) (All-map (λ (e : ℕ). e < c.args.entities) (λ (edge : Edge). edge.from) c.args.edges.now c.requires.within);
      numbers = omega (arith, ap length here, length-map c.args.edges.now (λ (edge : Edge). edge.from), c.requires.few);
    }
