use Rattle.std.proofs.Common.{ℕ, List, ◌≡◌, ◌<◌, ◌≤◌, length, get_or, ap, subst, ◌∙◌, arith}
use Rattle.std.specs.Prelude.{slice_index_or}
use Rattle.std.specs.List.{filter_map, enumerate_from}
use Rattle.std.proofs.lemmas.List.{length-map, take_all}
use Rattle.cq_base.specs.declared.name.Name.{Name}
use Rattle.cq_theory.specs.declared.presentation.Presentation.{Presentation}
use Rattle.cq_theory.specs.declared.presentation.Sort.{Sort}
use Rattle.cq_theory.specs.Listed.{generator_node}
use Rattle.cq_theory.specs.Sorts.{Generators}
use Rattle.cq_theory.specs.Tables.{Assignment, AtRow}
use Rattle.cq_instance.specs.declared.standing.Standing.{Standing}
use Rattle.cq_instance.specs.InstanceData.{InstanceData}
use Rattle.cq_instance.specs.Learning.{learned_from}
use Rattle.cq_instance.specs.Standing.{meaning}
use Rattle.cq_instance.proofs.CellsLearnt.{entity_learned, type_learned}
use Rattle.cq_instance.proofs.OnWay.{get_or-map}
use Rattle.cq_instance.proofs.null_terms.cells.learn_generators.Goals.{in-Plain, in-Entity}
use Rattle.cq_instance.proofs.null_terms.cells.learn_generators.Goals as goal

pub loop-number-preserved : goal.loop-number-preserved
loop-number-preserved c =
    let i : InstanceData = c.args.instance.now in
    let n : ℕ = c.loop-number.number in
    let g : Name × Sort = c.generator-item.result in
    let items_are : c.as_slice-generator-items.result.now ≡ i.presentation.generators =
    c.as_slice-generator-items.ensures ∙ ap (λ (p : Presentation). p.generators) c.presentation.ensures.presentation in
    let within : n < length i.presentation.generators = subst (λ (l : Generators). n < length l) items_are c.loop-number-test.true in
    let is : g ≡ get_or i.presentation.generators n g = c.generator-item.is ∙ ap (λ (l : Generators). get_or l n g) items_are in
    elim c.match-generator.branch [
      | in-Plain w ↦
          let standings : List Standing = c.standings-standings.result.now in
          let standing : Standing = w.index-standings-number.result in
          let bound : n < length standings = omega (arith, within, length-map standings meaning, ap length c.standings-standings.ensures.standings, c.standings-standings.ensures.instance.assigned) in
          type_learned i n g c.args.known.now.items c.loop-number.known.items c.match-generator.known.items within is c.loop-number.invariant w.in-Plain.field-0 (meaning standing) w.in-Plain.is
          (get_or-map meaning standings n (AtRow 0) standing bound w.index-standings-number.is ∙ ap (λ (A : Assignment). slice_index_or A n (AtRow 0)) c.standings-standings.ensures.standings)
          (ap (λ known. known.items) w.known-is ∙ w.learn_generator.ensures)
      | in-Entity w ↦
          entity_learned i n g c.args.known.now.items c.loop-number.known.items c.match-generator.known.items within is c.loop-number.invariant w.in-Entity.field-0 w.in-Entity.is
          (ap (λ known. known.items) w.known-is)
    ]

pub returns : goal.returns
returns c =
    let i : InstanceData = c.args.instance.now in
    let n : ℕ = c.loop-number.number in
    let items_are : c.as_slice-generator-items.result.now ≡ i.presentation.generators =
    c.as_slice-generator-items.ensures ∙ ap (λ (p : Presentation). p.generators) c.presentation.ensures.presentation in
    let end : length i.presentation.generators ≤ n = subst (λ (l : Generators). length l ≤ n) items_are c.loop-number-test.false in
    c.loop-number.invariant
    ∙ ap (λ (l : Generators). learned_from i c.args.known.now.items (filter_map (generator_node i.schema i.presentation i.names) (enumerate_from 0 l)))
    (take_all n i.presentation.generators end)
