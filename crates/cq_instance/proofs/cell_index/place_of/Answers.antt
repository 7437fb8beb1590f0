use Rattle.std.proofs.Common.{◌≡◌, false, List, sym, subst, ◌∙◌}
use Rattle.std.specs.Prelude.{All}
use Rattle.std.proofs.lemmas.List.{take_all}
use Rattle.cq_theory.specs.declared.value.Value.{Value}
use Rattle.cq_instance.specs.SameValue.{same_value}
use Rattle.cq_instance.specs.declared.cell_index.ValueRows.{ValueRows}
use Rattle.cq_instance.proofs.IndexedRows.{All_more}
use Rattle.cq_instance.proofs.cell_index.place_of.Goals as goal

pub loop-place-preserved : goal.loop-place-preserved
loop-place-preserved c =
    let v : Value = c.args.value.now in
    let groups : List ValueRows = c.args.groups.now in
    let group : ValueRows = c.index-groups-place.result in
    All_more (λ (g : ValueRows). same_value g.value v ≡ false) groups c.loop-place.place group c.loop-place-test.true c.index-groups-place.is c.loop-place.invariant
    (sym c.equals.ensures ∙ c.if-equals.false)

pub returns-clause-absent : goal.returns-clause-absent
returns-clause-absent c _ =
    subst (All (λ (g : ValueRows). same_value g.value c.args.value.now ≡ false)) (take_all c.loop-place.place c.args.groups.now c.loop-place-test.false) c.loop-place.invariant
