use Rattle.std.proofs.Common.{ℕ, List, ◌≡◌, ◌<◌, length, sum, sym, ap, subst, ◌∙◌, arith}
use Rattle.std.specs.Prelude.{All}
use Rattle.cq_theory.specs.declared.schema.Edge.{Edge}
use Rattle.cq_theory.specs.SchemaData.{SchemaData as Schema}
use Rattle.cq_theory.specs.Schema.{IsSchema}
use Rattle.cq_theory.specs.Tables.{Tables}
use Rattle.cq_theory.specs.Canonical.{named}
use Rattle.cq_instance.specs.Given.{tables}
use Rattle.cq_instance.specs.Numbers as made
use Rattle.cq_instance.proofs.CanonicalEquations as canonical
use Rattle.cq_instance.proofs.CanonicalGenerators as generators
use Rattle.cq_instance.proofs.canonical.canonical_presentation.Goals as goal

pub number_tables-requires : goal.number_tables-requires
number_tables-requires c =
    let S : Schema = c.args.schema.now in
    let schema : IsSchema S = c.is_well_sorted.ensures in
    let entities : c.len-entities.result ≡ length S.entities = c.len-entities.ensures ∙ ap (λ (s : Schema). length s.entities) c.schema.view_is in
    let keys_are : c.as_slice-keys.result.now ≡ S.keys = c.as_slice-keys.ensures ∙ ap (λ (s : Schema). s.keys) c.schema.view_is in
    let attributes_are : c.as_slice-attributes.result.now ≡ S.attributes = c.as_slice-attributes.ensures ∙ ap (λ (s : Schema). s.attributes) c.schema.view_is in
    let Within : ℕ × List Edge → Type 0 = λ p. All (λ (edge : Edge). edge.from < p.0) p.1 in
    record {
      keys = subst Within (λ i. (sym entities i, sym keys_are i)) (λ n d h. (schema.keys n d h).0);
      few_keys = omega (arith, ap length keys_are, schema.key_numbers);
      attributes = subst Within (λ i. (sym entities i, sym attributes_are i)) (λ n d h. (schema.attributes n d h).0);
      few_attributes = omega (arith, ap length attributes_are, schema.attribute_numbers);
      few = omega (arith, ap sum c.as_slice-counts.ensures, c.requires.few);
    }

pub build_generators-requires : goal.build_generators-requires
build_generators-requires c =
    let S : Schema = c.args.schema.now in
    let schema : IsSchema S = c.is_well_sorted.ensures in
    let M : Tables = tables c.args.sheet.now c.args.algebra.now in
    let well = c.requires.model.well_formed in
    let count = generators.sorts_count S M well.entities in
    let same = ap length (canonical.generators_are S M well.entities) in
    let here : length (made.sorts c.as_slice-counts.result.now c.as_slice-nulls.result.now) ≡ length (made.sorts M.sheet.counts M.algebra.nulls) =
    λ i. length (made.sorts (c.as_slice-counts.ensures i) (c.as_slice-nulls.ensures i)) in
    record {
      entities = omega (arith, ap length c.as_slice-counts.ensures, well.entities, schema.entity_numbers);
      few = omega (arith, here, same, count, c.requires.few);
    }

pub build_equations-requires : goal.build_equations-requires
build_equations-requires c =
    let S : Schema = c.args.schema.now in
    let schema : IsSchema S = c.is_well_sorted.ensures in
    let M : Tables = tables c.args.sheet.now c.args.algebra.now in
    let entities : c.len-entities.result ≡ length S.entities = c.len-entities.ensures ∙ ap (λ (s : Schema). length s.entities) c.schema.view_is in
    let keys_are : c.as_slice-keys.result.now ≡ S.keys = c.as_slice-keys.ensures ∙ ap (λ (s : Schema). s.keys) c.schema.view_is in
    let attributes_are : c.as_slice-attributes.result.now ≡ S.attributes = c.as_slice-attributes.ensures ∙ ap (λ (s : Schema). s.attributes) c.schema.view_is in
    let nulls_are : length c.as_slice-nulls.result.now ≡ length M.algebra.nulls = ap length c.as_slice-nulls.ensures in
    let numbers_are : c.in_ok-numbers.numbers ≡ made.numbers_of (length S.entities) S.keys S.attributes M.sheet.counts (length M.algebra.nulls) =
    c.in_ok-numbers.ensures ∙ (λ i. made.numbers_of (entities i) (keys_are i) (attributes_are i) (c.as_slice-counts.ensures i) (nulls_are i)) in
    let well = c.requires.model.well_formed in
    record {
      room = subst (made.HaveRoom c.args.sheet.now) (sym numbers_are) (canonical.room S M schema well c.requires.few);
      entities = omega (arith, well.entities, schema.entity_numbers);
    }

pub returns : goal.returns
returns c =
    let S : Schema = c.args.schema.now in
    let schema : IsSchema S = c.is_well_sorted.ensures in
    let M : Tables = tables c.args.sheet.now c.args.algebra.now in
    let well = c.requires.model.well_formed in
    let entities : c.len-entities.result ≡ length S.entities = c.len-entities.ensures ∙ ap (λ (s : Schema). length s.entities) c.schema.view_is in
    let keys_are : c.as_slice-keys.result.now ≡ S.keys = c.as_slice-keys.ensures ∙ ap (λ (s : Schema). s.keys) c.schema.view_is in
    let attributes_are : c.as_slice-attributes.result.now ≡ S.attributes = c.as_slice-attributes.ensures ∙ ap (λ (s : Schema). s.attributes) c.schema.view_is in
    let nulls_are : length c.as_slice-nulls.result.now ≡ length M.algebra.nulls = ap length c.as_slice-nulls.ensures in
    let numbers_are : c.in_ok-numbers.numbers ≡ made.numbers_of (length S.entities) S.keys S.attributes M.sheet.counts (length M.algebra.nulls) =
    c.in_ok-numbers.ensures ∙ (λ i. made.numbers_of (entities i) (keys_are i) (attributes_are i) (c.as_slice-counts.ensures i) (nulls_are i)) in
    let of_rows = c.in_ok-generators.ensures ∙ (λ i. named (made.sorts (c.as_slice-counts.ensures i) (c.as_slice-nulls.ensures i))) ∙ ap named (canonical.generators_are S M well.entities) in
    let of_tables = c.in_ok-equations.ensures ∙ (λ i. made.equations c.args.sheet.now (numbers_are i) (c.as_slice.ensures i)) ∙ canonical.equations_are S M schema well in
    c.presentation_of.ensures ∙ (λ i. record { generators = of_rows i; equations = of_tables i })
