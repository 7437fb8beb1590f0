use Rattle.std.proofs.Common.{ℕ, List, ◌≡◌, map, sym, ap, subst, ◌∙◌, arith}
use Rattle.std.proofs.lemmas.List.{length-map}
use Rattle.cq_theory.specs.SchemaData.{SchemaData as Schema}
use Rattle.cq_theory.specs.declared.term.EntTerm.{EntTerm}
use Rattle.cq_theory.specs.Tables.{Tables, Assignment, AtRow, row_in, row_from}
use Rattle.std.specs.Prelude.{slice_index_or}
use Rattle.cq_instance.specs.declared.standing.Standing.{Standing}
use Rattle.cq_instance.specs.InstanceData.{InstanceData}
use Rattle.cq_instance.specs.Standing.{meaning}
use Rattle.cq_instance.specs.Terms.{IsOnWay, IsEntTermOf}
use Rattle.cq_instance.proofs.OnWay.{generator_known, begins}
use Rattle.cq_instance.proofs.instance.Instance.row_over.Goals as goal

pub standing_of-requires : goal.standing_of-requires
standing_of-requires c =
    let i : InstanceData = c.args.self.now in
    let standings : List Standing = c.args.standings.now in
    omega (arith, generator_known i.schema i.tables (map meaning standings) c.args.term.now c.requires.0 c.requires.1, length-map standings meaning)

-- the path of the term leads from the row for which its generator stands
way : (S : Schema) (M : Tables) (A : Assignment) (t : EntTerm) (e start : ℕ) (path : List ℕ) → start ≡ row_in (slice_index_or A t.generator (AtRow 0)) → path ≡ t.path → IsEntTermOf S M A t e → IsOnWay S M path start e
way S M A t e start path start_is path_is h =
    subst (λ (p : List ℕ). IsOnWay S M p start e) (sym path_is) (subst (λ r. IsOnWay S M t.path r e) (sym start_is) (begins S M A t e h))

pub row_along-requires : goal.row_along-requires
row_along-requires c =
    let i : InstanceData = c.args.self.now in
    let start_is = c.row_in-start.ensures ∙ ap row_in c.standing_of.ensures in
    (c.requires.0, way i.schema i.tables (map meaning c.args.standings.now) c.args.term.now c.requires.0 c.row_in-start.result c.as_slice.result.now start_is c.as_slice.ensures c.requires.1)

pub returns : goal.returns
returns c =
    let i : InstanceData = c.args.self.now in
    let start_is = c.row_in-start.ensures ∙ ap row_in c.standing_of.ensures in
    record {
      row = c.row_along.ensures.row ∙ (λ j. row_from i.tables (start_is j) (c.as_slice.ensures j));
      within = λ entity h. c.row_along.ensures.within entity
          (way i.schema i.tables (map meaning c.args.standings.now) c.args.term.now entity c.row_in-start.result c.as_slice.result.now start_is c.as_slice.ensures h);
    }
