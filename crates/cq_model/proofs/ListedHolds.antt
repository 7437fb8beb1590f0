-- What is built without a clash is a model of the presentation, and its initial one.
use Rattle.std.proofs.Common.{ℕ, List, ◌++◌, Some, None, ◌≡◌, ◌<◌, map, length, get_or, refl, sym, ap, ◌∙◌, arith, slice_index_or}
use Rattle.std.specs.Prelude.{slice_get, slice_index, option_map}
use Rattle.std.proofs.lemmas.List.{length-map}
use Rattle.std.proofs.lemmas.List.FromFn.{length-enumerate_from}
use Rattle.std.proofs.lemmas.Option.{slice_get-get_or, slice_get_within}
use Rattle.std.specs.List.{enumerate_from}
use Rattle.cq_base.specs.declared.name.Name.{Name}
use Rattle.cq_tables.specs.Content.{Content}
use Rattle.cq_rows.proofs.Bridge.{map_some}
use Rattle.cq_flat.specs.declared.node.Node.{Node}
use Rattle.cq_flat.specs.Values.{Closure}
use Rattle.cq_model.specs.declared.places.Places.{Places}
use Rattle.cq_names.specs.Closed.{AreClosed}
use Rattle.cq_model.specs.NodeTerms.{leaf_terms}
use Rattle.cq_model.specs.Built.{IsClosureOf, IsBuilt, tables_of, assignment_of, key_column, cell_column, standing}
use Rattle.cq_theory.specs.declared.presentation.Presentation.{Presentation}
use Rattle.cq_theory.specs.declared.presentation.Sort.{Sort}
use Rattle.cq_theory.specs.declared.presentation.Sort.TheVariants.{Plain, Entity}
use Rattle.cq_theory.specs.declared.presentation.Equation.{Equation}
use Rattle.cq_theory.specs.declared.presentation.Equation.TheVariants.{Ent as EntEquation, Typ as TypEquation}
use Rattle.cq_theory.specs.SchemaData.{SchemaData as Schema}
use Rattle.cq_theory.specs.Schema.{IsSchema}
use Rattle.cq_theory.specs.Presentation.{IsPresentation}
use Rattle.cq_theory.specs.declared.term.EntTerm.{EntTerm}
use Rattle.cq_theory.specs.declared.term.TypeTerm.{TypeTerm}
use Rattle.cq_theory.specs.declared.term.Term.{Term}
use Rattle.cq_theory.specs.declared.term.Term.TheVariants.{Ent, Typ}
use Rattle.cq_theory.specs.declared.value.Value.TheVariants as value
use Rattle.cq_theory.specs.Sorts.{entity_at, type_at, entity_of, type_of, sort_of}
use Rattle.cq_theory.specs.Derivation.{given, left_of, right_of, Derives}
use Rattle.cq_theory.specs.Tables.{Tables, AtRow, AtValue, Assignment, count_of, row_of, value_of, meaning_of, HasSort, IsWellFormed, Holds, Initial}
use Rattle.cq_theory.proofs.Sound.{meaning_of-derived}
use Rattle.cq_instance.proofs.Lists.{get-map_from}
use Rattle.cq_model.proofs.BuiltRows.{key_columns, generator_rows, paths_hold, entity_equations_hold, one_row_derives, least_name}
use Rattle.cq_model.proofs.BuiltValues.{derived_value_of, node_values, one_value_derives, cell_columns, null_types, sound_entries, distinct_entries, generator_values, observations_hold}

module _ (S : Schema) (P : Presentation) (m : Content) (rows : List ℕ) (schema : IsSchema S) (presentation : IsPresentation S P) (closed : AreClosed S P m rows)
    (order : List (List ℕ)) (names : List (List EntTerm)) (numbers : List ℕ) (places : Places) (nodes : List Node) (equations : List (ℕ × ℕ)) (types : List ℕ)
    (built : IsBuilt S P m rows order names numbers places nodes equations types)
    (flat : Closure) (closure : IsClosureOf nodes equations flat) (consistent : flat.clash ≡ None) where
  abbrev M : Tables
  M = tables_of S P m rows order numbers places types flat

  abbrev A : Assignment
  A = assignment_of S P m rows order numbers places flat.values

  abbrev T : List TypeTerm
  T = leaf_terms S P names ++ built.made

  -- The model.

  pub well_formed : IsWellFormed S M
  well_formed = record {
    entities = length-map order length ∙ built.numbered.entities;
    keys = length-map (enumerate_from 0 S.keys) (key_column S P m rows order numbers) ∙ length-enumerate_from 0 S.keys;
    attributes = length-map (enumerate_from 0 S.attributes) (cell_column S P m rows order numbers places flat.values) ∙ length-enumerate_from 0 S.attributes;
    key_columns = key_columns S P m rows schema presentation closed order names numbers built.numbered places types flat;
    cell_columns = cell_columns S P m rows schema presentation closed order names numbers places nodes equations types built flat closure consistent;
    nulls = null_types S P m rows schema presentation closed order names numbers places nodes equations types built flat closure consistent;
    entries = sound_entries S P m rows schema presentation closed order names numbers places nodes equations types built flat closure consistent;
    distinct = distinct_entries S P m rows schema presentation closed order names numbers places nodes equations types built flat closure consistent;
  }

  has_sort : (n : ℕ) (g : Name × Sort) → slice_get P.generators n ≡ Some g → HasSort S M g.1 (slice_index_or A n (AtRow 0))
  has_sort n g found = go g.1 refl
    where
      go : (sort : Sort) → g.1 ≡ sort → HasSort S M sort (slice_index_or A n (AtRow 0))
      go (Plain type) is =
          generator_values S P m rows schema presentation closed order names numbers places nodes equations types built flat closure consistent n type
          (ap type_at found ∙ ap (λ (s : Sort). type_at (Some (g.0, s))) is)
      go (Entity e) is =
          generator_rows S P m rows schema presentation closed order names numbers built.numbered places types flat n e
          (ap entity_at found ∙ ap (λ (s : Sort). entity_at (Some (g.0, s))) is)

  equation_holds : (n : ℕ) (e : Equation) → slice_get P.equations n ≡ Some e → meaning_of M A (left_of e) ≡ meaning_of M A (right_of e)
  equation_holds n (EntEquation t u) found = ap AtRow (entity_equations_hold S P m rows schema presentation closed order names numbers built.numbered places types flat n t u found)
  equation_holds n (TypEquation t u) found =
      let derived : Derives S P (Typ t) (Typ u) = (given n, (TypEquation t u, found, refl, refl, tt, tt)) in
      ap AtValue (derived_value_of S P m rows schema presentation closed order names numbers places nodes equations types built flat closure consistent t u derived)

  pub holds : Holds S P M A
  holds = record {
    well_formed = well_formed;
    count = length-map (enumerate_from 0 P.generators) (λ (g : ℕ × (Name × Sort)). standing S P m rows order numbers places flat.values g.0 g.1.1) ∙ length-enumerate_from 0 P.generators;
    sorts = has_sort;
    schema = record {
      paths = paths_hold S P m rows schema presentation closed order names numbers built.numbered places types flat;
      observations = observations_hold S P m rows schema presentation closed order names numbers places nodes equations types built flat closure consistent;
    };
    equations = equation_holds;
  }

  -- It is initial.

  named_row : (e row : ℕ) → row < count_of M e → (t : EntTerm) × (entity_of S P.generators t ≡ Some e) × (row_of M A t ≡ row)
  named_row e row within =
      let name = least_name S P m rows schema presentation closed order names numbers built.numbered places types flat e row within in
      (name.0, name.2.of_entity, name.2.of_row)

  named_null : (n : ℕ) → n < length M.algebra.nulls → (t : TypeTerm) × (sort : Sort) × (sort_of S P.generators (Typ t) ≡ Some sort) × (value_of M A t ≡ value.Null n)
  named_null n within =
      let inside : n < length flat.nulls = omega (arith, length-map flat.nulls (slice_index types)) in
      let p : ℕ = get_or flat.nulls n 0 in
      let first = closure.labels.first n p (slice_get-get_or flat.nulls n 0 inside) in
      let values : map (value_of M A) T ≡ flat.values = node_values S P m rows schema presentation closed order names numbers places nodes equations types built flat closure consistent in
      let t = get-map_from (value_of M A) T p (value.Null n) (ap (λ vs. slice_get vs p) values ∙ first.has) in
      let here : p < length types = omega (arith, built.types_are.count, slice_get_within T p t.0 t.1) in
      let type : ℕ = get_or types p 0 in
      let typed : type_of S P.generators t.0 ≡ Some type = built.types_are.each p type t.0 t.1 (slice_get-get_or types p 0 here) in
      (t.0, Plain type, ap (option_map Plain) typed, t.2)

  one_meaning_derives : (t u : Term) (sort : Sort) → sort_of S P.generators t ≡ Some sort → sort_of S P.generators u ≡ Some sort → meaning_of M A t ≡ meaning_of M A u → Derives S P t u
  one_meaning_derives (Ent t) (Ent u) sort h h' same =
      let e = map_some Entity (entity_of S P.generators t) sort h in
      let e' = map_some Entity (entity_of S P.generators u) sort h' in
      let one : Entity e.0 ≡ Entity e'.0 = e.2 ∙ sym e'.2 in
      let one' : e.0 ≡ e'.0 = cc in
      let rows_same : row_of M A t ≡ row_of M A u = cc in
      one_row_derives S P m rows schema presentation closed order names numbers built.numbered places types flat t u e.0 e.1 (e'.1 ∙ ap (λ n. Some n) (sym one')) rows_same
  one_meaning_derives (Typ t) (Typ u) sort h h' same =
      let type = map_some Plain (type_of S P.generators t) sort h in
      let type' = map_some Plain (type_of S P.generators u) sort h' in
      let one : Plain type.0 ≡ Plain type'.0 = type.2 ∙ sym type'.2 in
      let one' : type.0 ≡ type'.0 = cc in
      let values_same : value_of M A t ≡ value_of M A u = cc in
      one_value_derives S P m rows schema presentation closed order names numbers places nodes equations types built flat closure consistent t u type.0 type.1 (type'.1 ∙ ap (λ n. Some n) (sym one')) values_same
  one_meaning_derives (Ent t) (Typ u) sort h h' same = cc
  one_meaning_derives (Typ t) (Ent u) sort h h' same = cc

  pub initial : Initial S P M A
  initial = record {
    holds = holds;
    rows = named_row;
    nulls = named_null;
    equal = λ t u sort h h'. (
      one_meaning_derives t u sort h h',
      λ derived. meaning_of-derived S P M A schema holds t u derived,
    );
  }
