use Rattle.std.proofs.Common.{ℕ, List, ◌≡◌, ap, subst, ◌∙◌}
use Rattle.std.specs.List.{flat_map}
use Rattle.std.proofs.lemmas.List.{take_all}
use Rattle.cq_theory.specs.declared.schema.ObsEq.{ObsEq}
use Rattle.cq_theory.specs.declared.term.TypeTerm.{TypeTerm}
use Rattle.cq_theory.specs.Schema.{IsSchema}
use Rattle.cq_theory.specs.SchemaData.{SchemaData as Schema}
use Rattle.cq_instance.specs.InstanceData.{InstanceData, name_at}
use Rattle.cq_instance.specs.Learning.{learned_from, observed}
use Rattle.cq_instance.proofs.FoundEquations.{found_at, found_group}
use Rattle.cq_instance.proofs.SidesLearnt.{number_within, left_readable, right_readable, observed_more}
use Rattle.cq_instance.proofs.null_terms.sides.learn_row.Goals as goal

pub bounds-equations-number : goal.bounds-equations-number
bounds-equations-number c =
    let i : InstanceData = c.args.instance.now in
    let schema : IsSchema i.schema = subst IsSchema (c.deref.ensures ∙ c.schema-schema.ensures.schema) c.is_well_sorted.ensures in
    let same : c.as_slice-equations.result.now ≡ i.schema.obs_eqs = c.as_slice-equations.ensures ∙ ap (λ (s : Schema). s.obs_eqs) (c.behind-schema.view_is ∙ c.deref-2.ensures ∙ c.schema-schema.ensures.schema) in
    number_within i schema c.is_instance.ensures c.args.entity c.args.row c.requires.row c.args.numbers.now c.requires.numbers c.loop-number.number-index c.loop-number-test.true c.as_slice-equations.result.now same

pub learn_sides-requires-clause-left : goal.learn_sides-requires-clause-left
learn_sides-requires-clause-left c =
    let i : InstanceData = c.args.instance.now in
    let schema : IsSchema i.schema = subst IsSchema (c.deref.ensures ∙ c.schema-schema.ensures.schema) c.is_well_sorted.ensures in
    let same : c.as_slice-equations.result.now ≡ i.schema.obs_eqs = c.as_slice-equations.ensures ∙ ap (λ (s : Schema). s.obs_eqs) (c.behind-schema.view_is ∙ c.deref-2.ensures ∙ c.schema-schema.ensures.schema) in
    left_readable i schema c.is_instance.ensures c.args.entity c.args.row c.requires.row c.args.numbers.now c.requires.numbers c.loop-number.number-index c.loop-number-test.true c.as_slice-equations.result.now same
    c.index-equations-number.result c.index-equations-number.is c.name_of.result.now c.name_of.ensures

pub learn_sides-requires-clause-right : goal.learn_sides-requires-clause-right
learn_sides-requires-clause-right c =
    let i : InstanceData = c.args.instance.now in
    let schema : IsSchema i.schema = subst IsSchema (c.deref.ensures ∙ c.schema-schema.ensures.schema) c.is_well_sorted.ensures in
    let same : c.as_slice-equations.result.now ≡ i.schema.obs_eqs = c.as_slice-equations.ensures ∙ ap (λ (s : Schema). s.obs_eqs) (c.behind-schema.view_is ∙ c.deref-2.ensures ∙ c.schema-schema.ensures.schema) in
    right_readable i schema c.is_instance.ensures c.args.entity c.args.row c.requires.row c.args.numbers.now c.requires.numbers c.loop-number.number-index c.loop-number-test.true c.as_slice-equations.result.now same
    c.index-equations-number.result c.index-equations-number.is c.name_of.result.now c.name_of.ensures

pub loop-number-preserved : goal.loop-number-preserved
loop-number-preserved c =
    let i : InstanceData = c.args.instance.now in
    let schema : IsSchema i.schema = subst IsSchema (c.deref.ensures ∙ c.schema-schema.ensures.schema) c.is_well_sorted.ensures in
    let same : c.as_slice-equations.result.now ≡ i.schema.obs_eqs = c.as_slice-equations.ensures ∙ ap (λ (s : Schema). s.obs_eqs) (c.behind-schema.view_is ∙ c.deref-2.ensures ∙ c.schema-schema.ensures.schema) in
    observed_more i schema c.is_instance.ensures c.args.entity c.args.row c.requires.row c.args.numbers.now c.requires.numbers c.loop-number.number-index c.loop-number-test.true c.as_slice-equations.result.now same
    c.index-equations-number.result c.index-equations-number.is c.name_of.result.now c.name_of.ensures c.args.known.now.items c.loop-number.known.items c.learn_sides.new.known.items c.loop-number.invariant c.in_ok-learn_sides.ensures

pub returns : goal.returns
returns c =
    let i : InstanceData = c.args.instance.now in
    let f : ObsEq → List TypeTerm = observed (name_at i.names c.args.entity c.args.row) in
    let found : List ℕ → List ObsEq = found_at i.schema.obs_eqs in
    c.loop-number.invariant
    ∙ ap (λ (l : List ObsEq). learned_from i c.args.known.now.items (flat_map f l))
    (ap found (take_all c.loop-number.number-index c.args.numbers.now c.loop-number-test.false ∙ c.requires.numbers) ∙ found_group i.schema.obs_eqs c.args.entity)
