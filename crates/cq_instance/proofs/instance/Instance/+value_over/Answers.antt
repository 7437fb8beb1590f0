use Rattle.std.proofs.Common.{ℕ, List, [], ◌∷◌, ◌++◌, ◌≡◌, ◌<◌, map, take, get_or, IfOk, IfSome, find, rules, sym, ap, subst, ◌∙◌, arith}
use Rattle.std.specs.Prelude.{slice_get}
use Rattle.std.proofs.lemmas.List.{take_more, take_all, map-append, length-map}
use Rattle.std.proofs.lemmas.Option.{slice_get_within}
use Rattle.cq_theory.specs.declared.schema.Edge.{Edge}
use Rattle.cq_theory.specs.declared.term.TypeTerm.{TypeTerm, the_lemmas}
use Rattle.cq_theory.specs.declared.value.Value.{Value}
use Rattle.cq_theory.specs.declared.value.Entry.{Entry}
use Rattle.cq_theory.specs.declared.value.Algebra.{Algebra}
use Rattle.cq_theory.specs.Sorts.{type_of}
use Rattle.cq_theory.specs.Tables.{Assignment, count_of, is_for, entry_or_built, value_of, value_step}
use Rattle.cq_theory.proofs.TypeTerms.{fold-Fun}
use Rattle.cq_instance.specs.declared.standing.Standing.{Standing}
use Rattle.cq_instance.specs.InstanceData.{InstanceData}
use Rattle.cq_instance.specs.Standing.{meaning}
use Rattle.cq_instance.specs.Terms.{IsTypeTermOf}
use Rattle.cq_instance.proofs.TypedTerms.{type_at_some, typed_generator, typed_cell, args_typed, EachTyped}
use Rattle.cq_instance.proofs.OnWay.{typed_at}
use Rattle.cq_instance.proofs.instance.Instance.+value_over.Goals as goal

pub standing_of-requires : goal.standing_of-requires
standing_of-requires t c =
    let i : InstanceData = c.args.self.now in
    let standings : List Standing = c.args.standings.now in
    let h : IsTypeTermOf i.schema i.tables (map meaning standings) c.args.term.now c.requires.0 = c.requires.1 in
    let type_is = ap (type_of i.schema h.generators) (sym c.in-Gen.is) ∙ h.typed in
    let g = type_at_some (slice_get h.generators c.in-Gen.generator) c.requires.0 (typed_generator i.schema h.generators c.in-Gen.generator c.requires.0 type_is) in
    omega (arith, slice_get_within h.generators c.in-Gen.generator g.0 g.1, h.standings.count, length-map standings meaning)

pub row_over-requires : goal.row_over-requires
row_over-requires t c =
    let i : InstanceData = c.args.self.now in
    let h : IsTypeTermOf i.schema i.tables (map meaning c.args.standings.now) c.args.term.now c.requires.0 = c.requires.1 in
    let type_is = ap (type_of i.schema h.generators) (sym c.in-Att.is) ∙ h.typed in
    let cell = typed_cell i.schema h.generators c.in-Att.attribute c.in-Att.term c.requires.0 type_is in
    (cell.edge.from, record { generators = h.generators; standings = h.standings; of_entity = cell.of_entity })

pub cell-requires-clause-attribute : goal.cell-requires-clause-attribute
cell-requires-clause-attribute t c =
    let i : InstanceData = c.args.self.now in
    let h : IsTypeTermOf i.schema i.tables (map meaning c.args.standings.now) c.args.term.now c.requires.0 = c.requires.1 in
    let type_is = ap (type_of i.schema h.generators) (sym c.in-Att.is) ∙ h.typed in
    let cell = typed_cell i.schema h.generators c.in-Att.attribute c.in-Att.term c.requires.0 type_is in
    slice_get_within i.schema.attributes c.in-Att.attribute cell.edge cell.known

pub cell-requires-clause-row : goal.cell-requires-clause-row
cell-requires-clause-row t c =
    let i : InstanceData = c.args.self.now in
    let h : IsTypeTermOf i.schema i.tables (map meaning c.args.standings.now) c.args.term.now c.requires.0 = c.requires.1 in
    let type_is = ap (type_of i.schema h.generators) (sym c.in-Att.is) ∙ h.typed in
    let cell = typed_cell i.schema h.generators c.in-Att.attribute c.in-Att.term c.requires.0 type_is in
    let within = c.row_over.ensures.within cell.edge.from (record { generators = h.generators; standings = h.standings; of_entity = cell.of_entity }) in
    subst (λ o. IfSome o (λ (edge : Edge). c.row_over.result < count_of i.tables edge.from)) (sym cell.known) within

pub value_over-requires : goal.value_over-requires
value_over-requires t c =
    let i : InstanceData = c.args.self.now in
    let h : IsTypeTermOf i.schema i.tables (map meaning c.args.standings.now) c.args.term.now c.requires.0 = c.requires.1 in
    let arg : TypeTerm = c.arg-item.result in
    let type_is = ap (type_of i.schema h.generators) (sym c.in-Fun.is) ∙ h.typed in
    let each = args_typed i.schema h.generators c.in-Fun.function c.in-Fun.args c.requires.0 type_is in
    let items : List TypeTerm = c.as_slice-arg-items.result.now in
    let each_item : EachTyped i.schema h.generators items = subst (λ (ts : List TypeTerm). EachTyped i.schema h.generators ts) (sym c.as_slice-arg-items.ensures) each in
    let typed = typed_at i.schema h.generators items c.loop-arg.arg-index arg c.loop-arg-test.true c.arg-item.is each_item in
    (search (rules, the_lemmas), (typed.0, record { generators = h.generators; standings = h.standings; typed = typed.1 }))

pub loop-arg-preserved : goal.loop-arg-preserved
loop-arg-preserved t c =
    let i : InstanceData = c.args.self.now in
    let items : List TypeTerm = c.as_slice-arg-items.result.now in
    let n : ℕ = c.loop-arg.arg-index in
    let arg : TypeTerm = c.arg-item.result in
    let f : TypeTerm → Value = value_of i.tables (map meaning c.args.standings.now) in
    c.in_ok-push-in-Fun.ensures.items
    ∙ (λ j. c.loop-arg.invariant j ++ (c.in_ok-value_over-in-Fun.ensures ∙ ap f c.arg-item.is) j ∷ [])
    ∙ sym (ap (map f) (take_more items n arg c.loop-arg-test.true) ∙ map-append f (take n items) (get_or items n arg ∷ []))

pub returns-after-loop-arg : goal.returns-after-loop-arg
returns-after-loop-arg t c =
    let i : InstanceData = c.args.self.now in
    let A : Assignment = map meaning c.args.standings.now in
    let f : TypeTerm → Value = value_of i.tables A in
    let entries : c.entry_table.result.now.entries ≡ i.tables.algebra.entries = ap (λ (x : Algebra). x.entries) c.entry_table.ensures.table in
    let args_are : c.loop-arg.values.items ≡ map f c.in-Fun.args =
    c.loop-arg.invariant ∙ ap (map f) (take_all c.loop-arg.arg-index c.as_slice-arg-items.result.now c.loop-arg-test.false ∙ c.as_slice-arg-items.ensures) in
    let whole : value_of i.tables A c.args.term.now ≡ entry_or_built (find (is_for c.in-Fun.function (map f c.in-Fun.args)) i.tables.algebra.entries) c.in-Fun.function (map f c.in-Fun.args) =
    ap f c.in-Fun.is ∙ fold-Fun Value (value_step i.tables A) c.in-Fun.function c.in-Fun.args in
    let made = λ (es : List Entry) (vs : List Value). entry_or_built (find (is_for c.in-Fun.function vs) es) c.in-Fun.function vs in
    subst (λ (v : Value). IfOk c.applied.result (λ w. w ≡ v)) ((λ j. made (entries j) (args_are j)) ∙ sym whole) c.applied.ensures
