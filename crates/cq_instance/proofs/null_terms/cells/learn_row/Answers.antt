use Rattle.std.proofs.Common.{ℕ, List, [], ◌∷◌, ◌<◌, IfSome, sym, ap, subst, ◌∙◌}
use Rattle.std.specs.List.{flat_map}
use Rattle.std.proofs.lemmas.List.{take_all}
use Rattle.std.proofs.lemmas.Option.{slice_get_within}
use Rattle.cq_theory.specs.declared.schema.Edge.{Edge}
use Rattle.cq_theory.specs.declared.term.EntTerm.{EntTerm}
use Rattle.cq_theory.specs.declared.term.TypeTerm.{TypeTerm}
use Rattle.cq_theory.specs.declared.term.TypeTerm.TheVariants.{Att}
use Rattle.cq_theory.specs.Tables.{count_of, row_of}
use Rattle.cq_instance.specs.InstanceData.{InstanceData, name_at}
use Rattle.cq_instance.specs.Learning.{learned_from}
use Rattle.cq_instance.proofs.CellsLearnt.{edge_at, row_nodes}
use Rattle.cq_instance.proofs.null_terms.cells.learn_row.Goals as goal

pub learn_cell-requires-clause-attribute : goal.learn_cell-requires-clause-attribute
learn_cell-requires-clause-attribute c =
    let i : InstanceData = c.args.instance.now in
    let edge = edge_at i.schema.attributes c.args.entity c.args.numbers.now c.loop-number.number-index c.requires.numbers c.loop-number-test.true in
    slice_get_within i.schema.attributes _ edge.0 edge.1

pub learn_cell-requires-clause-row : goal.learn_cell-requires-clause-row
learn_cell-requires-clause-row c =
    let i : InstanceData = c.args.instance.now in
    let edge = edge_at i.schema.attributes c.args.entity c.args.numbers.now c.loop-number.number-index c.requires.numbers c.loop-number-test.true in
    subst (λ o. IfSome o (λ (edge : Edge). c.args.row < count_of i.tables edge.from)) (sym edge.1) (subst (λ e. c.args.row < count_of i.tables e) (sym edge.2) c.requires.row)

pub learn_cell-requires-clause-name : goal.learn_cell-requires-clause-name
learn_cell-requires-clause-name c =
    let i : InstanceData = c.args.instance.now in
    ap (row_of i.tables i.assignment) c.name_of-name.ensures ∙ (c.is_instance.ensures.meant c.args.entity c.args.row c.requires.row).of_row

pub returns : goal.returns
returns c =
    let i : InstanceData = c.args.instance.now in
    let name : EntTerm = name_at i.names c.args.entity c.args.row in
    let f : ℕ → List TypeTerm = λ n. Att n name ∷ [] in
    c.loop-number.invariant
    ∙ ap (learned_from i c.args.known.now.items)
    (ap (flat_map f) (take_all c.loop-number.number-index c.args.numbers.now c.loop-number-test.false) ∙ row_nodes i c.args.entity name c.args.numbers.now c.requires.numbers)
