use Rattle.std.proofs.Common.{List, ◌≡◌, ◌==◌, filter, sym, ap, ◌∙◌, arith}
use Rattle.std.specs.List.{flat_map}
use Rattle.cq_theory.specs.declared.schema.ObsEq.{ObsEq}
use Rattle.cq_theory.specs.declared.term.EntTerm.{EntTerm}
use Rattle.cq_theory.specs.declared.term.TypeTerm.{TypeTerm}
use Rattle.cq_theory.specs.Canonical.{below}
use Rattle.cq_theory.specs.Tables.{count_of}
use Rattle.cq_instance.specs.InstanceData.{InstanceData, name_at}
use Rattle.cq_instance.specs.Learning.{learned_from, observed}
use Rattle.cq_instance.proofs.CellsLearnt.{row_by_row}
use Rattle.cq_instance.proofs.Learnt.{learned_below}
use Rattle.cq_instance.proofs.null_terms.sides.learn_entity.Goals as goal

pub loop-row-preserved : goal.loop-row-preserved
loop-row-preserved c =
    let i : InstanceData = c.args.instance.now in
    let f : EntTerm → List TypeTerm = λ t. flat_map (observed t) (filter (λ (e : ObsEq). e.entity == c.args.entity) i.schema.obs_eqs) in
    learned_below i (λ row. f (name_at i.names c.args.entity row)) c.loop-row.row c.args.known.now.items c.loop-row.known.items c.learn_row.new.known.items c.loop-row.invariant c.in_ok-learn_row.ensures

pub returns : goal.returns
returns c =
    let i : InstanceData = c.args.instance.now in
    let f : EntTerm → List TypeTerm = λ t. flat_map (observed t) (filter (λ (e : ObsEq). e.entity == c.args.entity) i.schema.obs_eqs) in
    let all : c.loop-row.row ≡ count_of i.tables c.args.entity = omega (arith, c.loop-row-test.false, c.loop-row.auto.row-end, c.count-row-end.ensures) in
    c.loop-row.invariant
    ∙ ap (learned_from i c.args.known.now.items)
    (ap (λ n. flat_map (λ row. f (name_at i.names c.args.entity row)) (below n)) all ∙ sym (row_by_row i c.is_instance.ensures c.args.entity f))
