use Rattle.std.proofs.Common.{true, ◌≤◌, map, rules, sym, ap, subst, ◌∙◌}
use Rattle.cq_theory.specs.SchemaData.{SchemaData as Schema}
use Rattle.cq_theory.specs.Schema.{IsSchema}
use Rattle.cq_theory.specs.Tables.{Tables}
use Rattle.cq_theory.specs.declared.value.Algebra.{Algebra}
use Rattle.cq_theory.specs.Canonical.{canonical, canonical_assignment}
use Rattle.cq_instance.specs.InstanceData.{InstanceData, IsInstance}
use Rattle.cq_instance.specs.Given.{IsModel, size_of, tables, given}
use Rattle.cq_instance.specs.Standing.{meaning}
use Rattle.cq_instance.proofs.GivenTables.{parts_instance, made_initial, made_least}
use Rattle.cq_instance.proofs.instance.Instance.of_tables.Goals as goal

pub given_parts-requires-clause-model : goal.given_parts-requires-clause-model
given_parts-requires-clause-model c = subst (λ (s : Schema). IsModel s (tables c.args.sheet c.args.algebra)) (sym c.deref-2.ensures) c.requires

pub from_given-requires : goal.from_given-requires
from_given-requires c =
    let S : Schema = c.args.schema.value in
    let M : Tables = tables c.args.sheet c.args.algebra in
    let few : size_of M ≤ 16000000 = search rules in
    let with : Algebra → InstanceData = λ algebra. record {
      schema = S;
      presentation = c.in_ok-parts.parts.presentation;
      names = c.in_ok-parts.parts.names;
      tables = tables c.args.sheet algebra;
      assignment = map meaning c.in_ok-parts.parts.standings;
      given = true;
    } in
    subst (λ (a : Algebra). IsInstance (with a)) (sym c.in_ok-parts.ensures.algebra)
    (parts_instance S M (subst IsSchema c.deref.ensures c.is_well_sorted.ensures) c.requires
    c.in_ok-parts.parts.presentation c.in_ok-parts.parts.names (map meaning c.in_ok-parts.parts.standings)
    (c.in_ok-parts.ensures.presentation ∙ ap (λ (s : Schema). canonical s M) c.deref-2.ensures)
    (c.in_ok-parts.ensures.names ∙ ap (λ (s : Schema). (given s M).names) c.deref-2.ensures)
    (c.in_ok-parts.ensures.standings ∙ ap (λ (s : Schema). canonical_assignment s M) c.deref-2.ensures)
    few)

pub returns-clause-instance : goal.returns-clause-instance
returns-clause-instance c =
    let S : Schema = c.args.schema.value in
    let M : Tables = tables c.args.sheet c.args.algebra in
    let presentation = c.in_ok-parts.ensures.presentation ∙ ap (λ (s : Schema). canonical s M) c.deref-2.ensures in
    let names = c.in_ok-parts.ensures.names ∙ ap (λ (s : Schema). (given s M).names) c.deref-2.ensures in
    let standings = c.in_ok-parts.ensures.standings ∙ ap (λ (s : Schema). canonical_assignment s M) c.deref-2.ensures in
    c.from_given.ensures ∙ (λ j. record {
      schema = S;
      presentation = presentation j;
      names = names j;
      tables = tables c.args.sheet (c.in_ok-parts.ensures.algebra j);
      assignment = standings j;
      given = true;
    })

pub returns-clause-initial : goal.returns-clause-initial
returns-clause-initial c =
    let S : Schema = c.args.schema.value in
    let M : Tables = tables c.args.sheet c.args.algebra in
    made_initial S M (subst IsSchema c.deref.ensures c.is_well_sorted.ensures) c.requires
    c.in_ok-parts.parts.presentation c.in_ok-parts.parts.names (map meaning c.in_ok-parts.parts.standings)
    (c.in_ok-parts.ensures.presentation ∙ ap (λ (s : Schema). canonical s M) c.deref-2.ensures)
    (c.in_ok-parts.ensures.names ∙ ap (λ (s : Schema). (given s M).names) c.deref-2.ensures)
    (c.in_ok-parts.ensures.standings ∙ ap (λ (s : Schema). canonical_assignment s M) c.deref-2.ensures)
    c.from_given.result (c.from_given.ensures ∙ (λ j. record {
      schema = S;
      presentation = c.in_ok-parts.parts.presentation;
      names = c.in_ok-parts.parts.names;
      tables = tables c.args.sheet (c.in_ok-parts.ensures.algebra j);
      assignment = map meaning c.in_ok-parts.parts.standings;
      given = true;
    }))

pub returns-clause-least : goal.returns-clause-least
returns-clause-least c =
    let S : Schema = c.args.schema.value in
    let M : Tables = tables c.args.sheet c.args.algebra in
    made_least S M (subst IsSchema c.deref.ensures c.is_well_sorted.ensures) c.requires
    c.in_ok-parts.parts.presentation c.in_ok-parts.parts.names (map meaning c.in_ok-parts.parts.standings)
    (c.in_ok-parts.ensures.presentation ∙ ap (λ (s : Schema). canonical s M) c.deref-2.ensures)
    (c.in_ok-parts.ensures.names ∙ ap (λ (s : Schema). (given s M).names) c.deref-2.ensures)
    (c.in_ok-parts.ensures.standings ∙ ap (λ (s : Schema). canonical_assignment s M) c.deref-2.ensures)
    c.from_given.result (c.from_given.ensures ∙ (λ j. record {
      schema = S;
      presentation = c.in_ok-parts.parts.presentation;
      names = c.in_ok-parts.parts.names;
      tables = tables c.args.sheet (c.in_ok-parts.ensures.algebra j);
      assignment = map meaning c.in_ok-parts.parts.standings;
      given = true;
    }))
