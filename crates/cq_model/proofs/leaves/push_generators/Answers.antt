use Rattle.std.proofs.Common.{ℕ, List, [], ◌∷◌, ◌++◌, ◌≡◌, ◌∙◌, take, sym, ap, subst, ◌+◌}
use Rattle.std.proofs.lemmas.List.{take_more}
use Rattle.cq_base.specs.declared.name.Name.{Name}
use Rattle.cq_theory.specs.declared.presentation.Sort.{Sort}
use Rattle.cq_model.specs.NodeListData.{NodeListData}
use Rattle.cq_model.specs.LeafPlaces.{AddsGenerators}
use Rattle.cq_model.proofs.AddedLeaves.{generators_plain, generators_entity}
use Rattle.cq_model.proofs.leaves.push_generators.Goals as goal
use Rattle.cq_model.proofs.leaves.push_generators.Goals.{in-Plain+in_ok-place-in-Plain, in-Entity}

pub loop-generator-preserved : goal.loop-generator-preserved
loop-generator-preserved c =
    let i : ℕ = c.loop-generator.generator-index in
    let given : List (Name × Sort) = c.args.generators.now in
    let g : Name × Sort = c.generator-item.result in
    let places : List ℕ = c.loop-generator.places.items in
    let longer : take (i + 1) given ≡ take i given ++ g ∷ [] = take_more given i g c.loop-generator-test.true ∙ ap (λ (x : Name × Sort). take i given ++ x ∷ []) (sym c.generator-item.is) in
    elim c.match-generator.branch [
      | in-Plain+in_ok-place-in-Plain w ↦
          subst (λ (p : NodeListData × (List (Name × Sort) × List ℕ)). AddsGenerators c.args.list.now p.0 p.1.0 p.1.1)
          (λ j. (
            sym w.list-is j,
            (
              sym (longer ∙ ap (λ (s : Sort). take i given ++ (g.0, s) ∷ []) w.in-Plain.is) j,
              sym (c.in_ok-push.ensures.items ∙ ap (λ n. places ++ n ∷ []) w.place-is) j,
            ),
          ))
          (generators_plain c.args.list.now c.loop-generator.list w.push.new.self (take i given) places g.0 w.in-Plain.kind w.in_ok-place-in-Plain.place c.loop-generator.invariant
          w.in_ok-place-in-Plain.ensures.place w.in_ok-place-in-Plain.ensures.added)
      | in-Entity w ↦
          subst (λ (p : NodeListData × (List (Name × Sort) × List ℕ)). AddsGenerators c.args.list.now p.0 p.1.0 p.1.1)
          (λ j. (
            sym w.list-is j,
            (
              sym (longer ∙ ap (λ (s : Sort). take i given ++ (g.0, s) ∷ []) w.in-Entity.is) j,
              sym (c.in_ok-push.ensures.items ∙ ap (λ n. places ++ n ∷ []) w.place-is) j,
            ),
          ))
          (generators_entity c.args.list.now c.loop-generator.list (take i given) places g.0 w.in-Entity.field-0 c.loop-generator.invariant)
    ]
