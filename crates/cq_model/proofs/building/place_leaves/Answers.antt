use Rattle.std.proofs.Common.{ℕ, List, [], Some, ◌≡◌, ◌<◌, ◌+◌, ◌*◌, ◌^◌, map, length, slice_index, slice_index_or, sym, ap, subst, ◌∙◌, arith}
use Rattle.std.specs.Prelude.{slice_get, All}
use Rattle.std.proofs.lemmas.List.{length-map}
use Rattle.cq_tables.specs.Content.{Content, made_of}
use Rattle.cq_tables.specs.Content.{entity_of as row_entity}
use Rattle.cq_theory.specs.Canonical.{below}
use Rattle.cq_theory.specs.declared.presentation.Presentation.{Presentation}
use Rattle.cq_theory.specs.declared.schema.Edge.{Edge}
use Rattle.cq_theory.specs.SchemaData.{SchemaData as Schema}
use Rattle.cq_theory.specs.Schema.{IsSchema}
use Rattle.cq_theory.specs.Sorts.{Generators}
use Rattle.cq_names.specs.declared.numbers.NumberedRows.{NumberedRows}
use Rattle.cq_model.specs.LeafPlaces.{sources, targets, AreFirsts, AddsLeaves, AddsGenerators}
use Rattle.cq_theory.specs.Groups.{positions}
use Rattle.cq_names.specs.Ranks.{rank}
use Rattle.cq_model.specs.Numbering.{types, starts}
use Rattle.cq_names.specs.RowNumbers.{row_entities}
use Rattle.cq_model.proofs.NamedLeaves.{attributes_by, groups_by, leaf_types, leaf_starts, sources_in, sources_few, attributes_within, attributes_count, groups_count, starts_count, rows_made, rows_once, members_entities, leaves_fit, leaves_made}
use Rattle.cq_model.proofs.building.place_leaves.Goals as goal

pub grouped-requires : goal.grouped-requires
grouped-requires c =
    let S : Schema = c.args.schema.now in
    let schema : IsSchema S = c.is_well_sorted.ensures in
    let entities : c.len-entities.result ≡ length S.entities = c.len-entities.ensures ∙ ap (λ (s : Schema). length s.entities) c.schema.view_is in
    let sources_are : c.in_ok-sources.sources.items ≡ sources S = c.in_ok-sources.ensures ∙ ap (map (λ (edge : Edge). edge.from)) (c.as_slice.ensures ∙ ap (λ (s : Schema). s.attributes) c.schema.view_is) in
    let here : c.as_slice-3.result.now ≡ sources S = c.as_slice-3.ensures.value ∙ sources_are in
    record {
      within = subst (λ (p : ℕ × List ℕ). All (λ e. e < p.0) p.1) (λ i. (sym entities i, sym here i)) (sources_in S schema);
      numbers = omega (arith, sources_few S schema, ap length here);
    }

pub count_nulls-requires : goal.count_nulls-requires
count_nulls-requires c =
    let S : Schema = c.args.schema.now in
    let schema : IsSchema S = c.is_well_sorted.ensures in
    let entities : c.len-entities.result ≡ length S.entities = c.len-entities.ensures ∙ ap (λ (s : Schema). length s.entities) c.schema.view_is in
    let sources_are : c.in_ok-sources.sources.items ≡ sources S = c.in_ok-sources.ensures ∙ ap (map (λ (edge : Edge). edge.from)) (c.as_slice.ensures ∙ ap (λ (s : Schema). s.attributes) c.schema.view_is) in
    let attributes_are : c.in_ok-attributes.attributes ≡ attributes_by S = c.in_ok-attributes.ensures ∙ (λ i. map (positions ((c.as_slice-3.ensures.value ∙ sources_are) i)) (below (entities i))) in
    let targets_are : c.as_slice-6.result.now ≡ targets S = c.as_slice-6.ensures.value ∙ c.in_ok-targets.ensures ∙ ap (map (λ (edge : Edge). edge.to)) (c.as_slice-2.ensures ∙ ap (λ (s : Schema). s.attributes) c.schema.view_is) in
    let m : Content = c.args.tables.now in
    let P : Presentation = c.args.presentation.now in
    let numbered : NumberedRows = c.args.numbered.now in
    let groups_are : c.as_slice-4.result.now ≡ groups_by S m numbered.rows = c.as_slice-4.ensures ∙ c.requires.2.numbers.groups_are in
    let attributes_five : c.as_slice-5.result.now ≡ attributes_by S = c.as_slice-5.ensures ∙ attributes_are in
    record {
      entities = ap length attributes_five ∙ attributes_count S ∙ sym (ap length groups_are ∙ groups_count S m numbered.rows);
      within = subst (λ (p : List (List ℕ) × List ℕ). All (λ places. All (λ a. a < length p.1) places) p.0) (λ i. (sym attributes_five i, sym targets_are i)) (attributes_within S);
    }

pub first_places-requires : goal.first_places-requires
first_places-requires c =
    let S : Schema = c.args.schema.now in
    let schema : IsSchema S = c.is_well_sorted.ensures in
    let entities : c.len-entities.result ≡ length S.entities = c.len-entities.ensures ∙ ap (λ (s : Schema). length s.entities) c.schema.view_is in
    let sources_are : c.in_ok-sources.sources.items ≡ sources S = c.in_ok-sources.ensures ∙ ap (map (λ (edge : Edge). edge.from)) (c.as_slice.ensures ∙ ap (λ (s : Schema). s.attributes) c.schema.view_is) in
    let attributes_are : c.in_ok-attributes.attributes ≡ attributes_by S = c.in_ok-attributes.ensures ∙ (λ i. map (positions ((c.as_slice-3.ensures.value ∙ sources_are) i)) (below (entities i))) in
    let targets_are : c.as_slice-6.result.now ≡ targets S = c.as_slice-6.ensures.value ∙ c.in_ok-targets.ensures ∙ ap (map (λ (edge : Edge). edge.to)) (c.as_slice-2.ensures ∙ ap (λ (s : Schema). s.attributes) c.schema.view_is) in
    let m : Content = c.args.tables.now in
    let P : Presentation = c.args.presentation.now in
    let numbered : NumberedRows = c.args.numbered.now in
    let groups_are : c.as_slice-4.result.now ≡ groups_by S m numbered.rows = c.as_slice-4.ensures ∙ c.requires.2.numbers.groups_are in
    let attributes_five : c.as_slice-5.result.now ≡ attributes_by S = c.as_slice-5.ensures ∙ attributes_are in
    let groups_length : length c.as_slice-4.result.now ≡ length S.entities = ap length groups_are ∙ groups_count S m numbered.rows in
    let types_are : c.in_ok-leaves.leaves.types.items ≡ leaf_types S m numbered.rows = c.in_ok-leaves.ensures.types ∙ (λ i. types (groups_are i) (attributes_five i) (targets_are i) (groups_length i)) in
    let starts_are : c.in_ok-leaves.leaves.starts.items ≡ leaf_starts S m numbered.rows = c.in_ok-leaves.ensures.starts ∙ (λ i. starts (groups_are i) (attributes_five i) (targets_are i) (groups_length i)) in
    let rows_are : c.as_slice-7.result.now ≡ numbered.rows = c.as_slice-7.ensures in
    let members_are : c.as_slice-8.result.now ≡ row_entities m numbered.rows = c.as_slice-8.ensures ∙ c.requires.2.numbers.members_are in
    let attributes_nine : c.as_slice-9.result.now ≡ attributes_by S = c.as_slice-9.ensures ∙ attributes_are in
    let few : length (leaf_types S m numbered.rows) < 2 ^ 63 = omega (arith, c.in_ok-leaves.leaves.types.ok.0, c.in_ok-leaves.leaves.types.ok.1, c.in_ok-leaves.leaves.types.small, ap length types_are) in
    record {
      rows = subst (λ (p : ℕ × List ℕ). All (λ row. row < p.0) p.1) (λ i. (sym c.made.ensures i, sym rows_are i)) (rows_made S P m c.requires.0 schema c.requires.1 numbered c.requires.2);
      members = subst (λ (p : List (List ℕ) × List ℕ). All (λ e. e < length p.0) p.1) (λ i. (sym attributes_nine i, sym members_are i))
          (subst (λ n. All (λ e. e < n) (row_entities m numbered.rows)) (sym (attributes_count S)) (members_entities S P m c.requires.0 schema c.requires.1 numbered c.requires.2));
      same = ap length members_are ∙ length-map numbered.rows (row_entity m) ∙ sym (ap length rows_are);
      starts = ap length starts_are ∙ starts_count S m numbered.rows ∙ sym (ap length attributes_nine ∙ attributes_count S);
      once = subst (λ (l : List ℕ). (i j r : ℕ) → slice_get l i ≡ Some r → slice_get l j ≡ Some r → i ≡ j) (sym rows_are) (rows_once S P m c.requires.0 schema c.requires.1 numbered c.requires.2);
      fits = subst (λ (p : List ℕ × (List ℕ × List (List ℕ))). (e : ℕ) → e < length p.1.1 → slice_index p.0 e + length (positions p.1.0 e) * length (slice_index_or p.1.1 e []) < 2 ^ 63)
          (λ i. (sym starts_are i, (sym members_are i, sym attributes_nine i)))
          (λ e inside. leaves_fit S P m c.requires.0 schema c.requires.1 numbered c.requires.2 few e (subst (λ n. e < n) (attributes_count S) inside));
    }

pub ranks-requires : goal.ranks-requires
ranks-requires c =
    let S : Schema = c.args.schema.now in
    let schema : IsSchema S = c.is_well_sorted.ensures in
    let entities : c.len-entities.result ≡ length S.entities = c.len-entities.ensures ∙ ap (λ (s : Schema). length s.entities) c.schema.view_is in
    let sources_are : c.in_ok-sources.sources.items ≡ sources S = c.in_ok-sources.ensures ∙ ap (map (λ (edge : Edge). edge.from)) (c.as_slice.ensures ∙ ap (λ (s : Schema). s.attributes) c.schema.view_is) in
    let here : c.as_slice-10.result.now ≡ sources S = c.as_slice-10.ensures.value ∙ sources_are in
    record {
      within = subst (λ (p : ℕ × List ℕ). All (λ e. e < p.0) p.1) (λ i. (sym entities i, sym here i)) (sources_in S schema);
      few = omega (arith, sources_few S schema, ap length here);
    }

pub returns : goal.returns
returns c = λ entries closed named.
    let S : Schema = c.args.schema.now in
    let schema : IsSchema S = c.is_well_sorted.ensures in
    let entities : c.len-entities.result ≡ length S.entities = c.len-entities.ensures ∙ ap (λ (s : Schema). length s.entities) c.schema.view_is in
    let sources_are : c.in_ok-sources.sources.items ≡ sources S = c.in_ok-sources.ensures ∙ ap (map (λ (edge : Edge). edge.from)) (c.as_slice.ensures ∙ ap (λ (s : Schema). s.attributes) c.schema.view_is) in
    let attributes_are : c.in_ok-attributes.attributes ≡ attributes_by S = c.in_ok-attributes.ensures ∙ (λ i. map (positions ((c.as_slice-3.ensures.value ∙ sources_are) i)) (below (entities i))) in
    let targets_are : c.as_slice-6.result.now ≡ targets S = c.as_slice-6.ensures.value ∙ c.in_ok-targets.ensures ∙ ap (map (λ (edge : Edge). edge.to)) (c.as_slice-2.ensures ∙ ap (λ (s : Schema). s.attributes) c.schema.view_is) in
    let m : Content = c.args.tables.now in
    let P : Presentation = c.args.presentation.now in
    let numbered : NumberedRows = c.args.numbered.now in
    let groups_are : c.as_slice-4.result.now ≡ groups_by S m numbered.rows = c.as_slice-4.ensures ∙ named.numbers.groups_are in
    let attributes_five : c.as_slice-5.result.now ≡ attributes_by S = c.as_slice-5.ensures ∙ attributes_are in
    let groups_length : length c.as_slice-4.result.now ≡ length S.entities = ap length groups_are ∙ groups_count S m numbered.rows in
    let types_are : c.in_ok-leaves.leaves.types.items ≡ leaf_types S m numbered.rows = c.in_ok-leaves.ensures.types ∙ (λ i. types (groups_are i) (attributes_five i) (targets_are i) (groups_length i)) in
    let starts_are : c.in_ok-leaves.leaves.starts.items ≡ leaf_starts S m numbered.rows = c.in_ok-leaves.ensures.starts ∙ (λ i. starts (groups_are i) (attributes_five i) (targets_are i) (groups_length i)) in
    let rows_are : c.as_slice-7.result.now ≡ numbered.rows = c.as_slice-7.ensures in
    let members_are : c.as_slice-8.result.now ≡ row_entities m numbered.rows = c.as_slice-8.ensures ∙ named.numbers.members_are in
    let attributes_nine : c.as_slice-9.result.now ≡ attributes_by S = c.as_slice-9.ensures ∙ attributes_are in
    let ten : c.as_slice-10.result.now ≡ sources S = c.as_slice-10.ensures.value ∙ sources_are in
    let firsts : AreFirsts (row_entities m numbered.rows) numbered.rows (attributes_by S) (leaf_starts S m numbered.rows) c.from_vec.result =
    subst (λ (p : (List ℕ × List ℕ) × (List (List ℕ) × (List ℕ × List ℕ))). AreFirsts p.0.0 p.0.1 p.1.0 p.1.1.0 p.1.1.1)
    (λ i. ((members_are i, rows_are i), (attributes_nine i, (starts_are i, sym c.from_vec.ensures i)))) c.in_ok-firsts.ensures.firsts in
    let count : length c.from_vec.result ≡ made_of m = ap length c.from_vec.ensures ∙ c.in_ok-firsts.ensures.count ∙ c.made.ensures in
    let ranks : c.from_vec-2.result ≡ map (λ a. rank (sources S) (slice_index (sources S) a) a) (below (length (sources S))) =
    c.from_vec-2.ensures ∙ c.in_ok-ranks.ensures ∙ (λ i. map (λ a. rank (ten i) (slice_index (ten i) a) a) (below (length (ten i)))) in
    let leaves : AddsLeaves c.new-list.result c.push_leaves.new.list (leaf_types S m numbered.rows) = subst (AddsLeaves c.new-list.result c.push_leaves.new.list) (c.as_slice-11.ensures.value ∙ types_are) c.in_ok-push_leaves.ensures in
    let generators : AddsGenerators c.push_leaves.new.list c.push_generators.new.list P.generators c.from_vec-3.result =
    subst (λ (p : Generators × List ℕ). AddsGenerators c.push_leaves.new.list c.push_generators.new.list p.0 p.1) (λ i. (c.as_slice-12.ensures i, sym c.from_vec-3.ensures i)) c.in_ok-generators.ensures in
    leaves_made S P m entries schema closed numbered named (record { firsts = c.from_vec.result; ranks = c.from_vec-2.result; generators = c.from_vec-3.result })
    c.new-list.result c.push_leaves.new.list c.push_generators.new.list firsts count ranks c.new-list.ensures leaves generators
