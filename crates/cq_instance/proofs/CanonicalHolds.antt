-- The tables are a model of their canonical presentation, which is one over the schema.
use Rattle.std.proofs.Common.{ℕ, Bool, List, [], ◌∷◌, Option, Some, None, ◌≡◌, ◌<◌, ◌≤◌, ◌+◌, ◌==◌, if◌then◌else◌, inl, inr, map, length, sum, sym, ap, subst, ◌∙◌, arith}
use Rattle.std.specs.Prelude.{slice_get, slice_index_or, option_map, option_and_then, All}
use Rattle.std.specs.List.{flat_map, enumerate_from}
use Rattle.std.proofs.lemmas.Bool.{eqb-true, eq-eqb}
use Rattle.std.proofs.lemmas.List.FromFn.{length-range_with_len}
use Rattle.std.proofs.lemmas.Option.{slice_get_within, slice_get-get_or}
use Rattle.cq_base.specs.declared.name.Name.{Name}
use Rattle.cq_theory.specs.declared.constant.Con.TheVariants.{Named}
use Rattle.cq_theory.specs.declared.presentation.Equation.{Equation}
use Rattle.cq_theory.specs.declared.presentation.Sort.{Sort}
use Rattle.cq_theory.specs.declared.presentation.Sort.TheVariants.{Plain, Entity}
use Rattle.cq_theory.specs.declared.schema.Edge.{Edge}
use Rattle.cq_theory.specs.SchemaData.{SchemaData as Schema}
use Rattle.cq_theory.specs.declared.term.TypeTerm.TheVariants as term
use Rattle.cq_theory.specs.declared.value.Value.{Value}
use Rattle.cq_theory.specs.declared.value.Value.TheVariants as value
use Rattle.cq_theory.specs.declared.value.Entry.{Entry}
use Rattle.cq_theory.specs.TypeTerm as typ
use Rattle.cq_theory.specs.Value as val
use Rattle.cq_theory.specs.Sorts.{Generators, followed, target_of, entity_of, applied_type, type_of, type_step}
use Rattle.cq_theory.specs.Schema.{IsSchema}
use Rattle.cq_theory.specs.Presentation.{IsSort, IsEquation, IsPresentation}
use Rattle.cq_theory.specs.Derivation.{left_of, right_of}
use Rattle.cq_theory.specs.Tables.{Tables, AtRow, AtValue, Assignment, count_of, key_at, cell_at, value_step, meaning_of, applied, value_type, value_type_step, normal_of, normal_step, HasSort, IsSoundEntry, IsWellFormed, Satisfies, Holds}
use Rattle.cq_theory.specs.Canonical.{below, edges_from, row_generator, row_term, value_term, cell_equation, key_equation, row_equations, entity_equations, entry_equation, canonical, canonical_assignment}
use Rattle.cq_theory.proofs.Every.{Every, Every-at, Every-append, Every-flat_map, Every-map, from_filter, from_enumerated, at_range}
use Rattle.cq_theory.proofs.OnValues.{All_at, applied-entry}
use Rattle.cq_theory.proofs.TypeTerms.{fold-Att, fold-Fun}
use Rattle.cq_theory.proofs.Values as values
use Rattle.cq_instance.proofs.CanonicalGenerators as generators
use Rattle.cq_instance.proofs.CanonicalTerms as terms

-- the edges from an entity stand among all edges at their numbers
pub from_edges : (entity : ℕ) (edges : List Edge) (n : ℕ) (p : ℕ × Edge) → slice_get (edges_from entity edges) n ≡ Some p → (slice_get edges p.0 ≡ Some p.1) × (p.1.from ≡ entity)
from_edges entity edges n p h =
    let kept = from_filter (λ (q : ℕ × Edge). q.1.from == entity) (enumerate_from 0 edges) n p h in
    let at = from_enumerated 0 edges kept.0 p kept.1 in
    let number : kept.0 ≡ p.0 = omega (arith, at.1) in
    (ap (slice_get edges) (sym number) ∙ at.0, eqb-true p.1.from entity kept.2)

-- a number among those below n
pub from_below : (n i k : ℕ) → slice_get (below n) i ≡ Some k → k < n
from_below n i k h =
    let inside : i < n = omega (arith, slice_get_within (below n) i k h, length-range_with_len 0 n) in
    let both : Some (0 + i) ≡ Some k = sym (at_range 0 n i inside) ∙ h in
    let one : 0 + i ≡ k = cc in
    omega arith

-- an edge is followed from its own entity
pub followed_from : (edges : List Edge) (k : ℕ) (edge : Edge) (e : ℕ) → slice_get edges k ≡ Some edge → edge.from ≡ e → followed (slice_get edges k) e ≡ Some edge.to
followed_from edges k edge e at from = ap (λ o. followed o e) at ∙ ap (λ (b : Bool). if b then Some edge.to else None) (eq-eqb edge.from e from)

module _ (S : Schema) (M : Tables) where
  abbrev G : Generators
  G = (canonical S M).generators

  abbrev A : Assignment
  A = canonical_assignment S M

  abbrev nulls : List ℕ
  nulls = M.algebra.nulls

  abbrev type_in : Value → Option ℕ
  type_in = value_type S nulls

  -- what holds of the equation of each cell, each key and each entry holds of each equation
  pub every_equation : (Q : Equation → Type 0)
      → ((e row a : ℕ) (edge : Edge) → e < length S.entities → row < count_of M e → slice_get S.attributes a ≡ Some edge → edge.from ≡ e → Q (cell_equation S M e row (a, edge)))
      → ((e row k : ℕ) (edge : Edge) → e < length S.entities → row < count_of M e → slice_get S.keys k ≡ Some edge → edge.from ≡ e → Q (key_equation S M e row (k, edge)))
      → ((n : ℕ) (entry : Entry) → slice_get M.algebra.entries n ≡ Some entry → Q (entry_equation S M entry))
      → Every Q (canonical S M).equations
  every_equation Q on_cell on_key on_entry =
      Every-append Q (flat_map (entity_equations S M) (below (length S.entities))) (map (entry_equation S M) M.algebra.entries)
      (Every-flat_map Q (entity_equations S M) (below (length S.entities)) (λ i e at.
      let within = from_below (length S.entities) i e at in
      Every-flat_map Q (row_equations S M e) (below (count_of M e)) (λ j row there.
      let inside = from_below (count_of M e) j row there in
      Every-append Q (map (cell_equation S M e row) (edges_from e S.attributes)) (map (key_equation S M e row) (edges_from e S.keys))
      (Every-map Q (cell_equation S M e row) (edges_from e S.attributes) (λ n p here. let edge = from_edges e S.attributes n p here in on_cell e row p.0 p.1 within inside edge.0 edge.1))
      (Every-map Q (key_equation S M e row) (edges_from e S.keys) (λ n p here. let edge = from_edges e S.keys n p here in on_key e row p.0 p.1 within inside edge.0 edge.1)))))
      (Every-map Q (entry_equation S M) M.algebra.entries on_entry)

  module _ (schema : IsSchema S) (well : IsWellFormed S M) where
    abbrev same : length M.sheet.counts ≡ length S.entities
    same = well.entities

    pub record IsCell (a row : ℕ) (edge : Edge) : Type 0 where
      pub typed : type_in (cell_at M a row) ≡ Some edge.to
      pub normal : normal_of M (cell_at M a row) ≡ cell_at M a row

    pub cell_is : (e row a : ℕ) (edge : Edge) → row < count_of M e → slice_get S.attributes a ≡ Some edge → edge.from ≡ e → IsCell a row edge
    cell_is e row a edge inside at from =
        let column = well.cell_columns a edge at in
        let there : row < count_of M edge.from = subst (λ n. row < count_of M n) (sym from) inside in
        let cell = column.1 row (value.Const (Named 0)) (subst (λ n. row < n) (sym column.0) there) in
        record { typed = cell.0; normal = cell.1 }

    pub record IsKey (k row : ℕ) (edge : Edge) : Type 0 where
      pub within : edge.to < length S.entities
      pub inside : key_at M k row < count_of M edge.to

    pub key_is : (e row k : ℕ) (edge : Edge) → row < count_of M e → slice_get S.keys k ≡ Some edge → edge.from ≡ e → IsKey k row edge
    key_is e row k edge inside at from =
        let column = well.key_columns k edge at in
        let there : row < count_of M edge.from = subst (λ n. row < count_of M n) (sym from) inside in
        record {
          within = (All_at (λ (x : Edge). (x.from < length S.entities) × (x.to < length S.entities)) S.keys k edge schema.keys at).1;
          inside = column.1 row 0 (subst (λ n. row < n) (sym column.0) there);
        }

    entry_is : (n : ℕ) (entry : Entry) → slice_get M.algebra.entries n ≡ Some entry → IsSoundEntry S M entry
    entry_is n entry at = All_at (IsSoundEntry S M) M.algebra.entries n entry well.entries at

    -- The equations hold.

    abbrev HasOneMeaning : Equation → Type 0
    HasOneMeaning e = meaning_of M A (left_of e) ≡ meaning_of M A (right_of e)

    cell_holds : (e row a : ℕ) (edge : Edge) → e < length S.entities → row < count_of M e → slice_get S.attributes a ≡ Some edge → edge.from ≡ e → HasOneMeaning (cell_equation S M e row (a, edge))
    cell_holds e row a edge within inside at from =
        let cell = cell_is e row a edge inside at from in
        ap AtValue (fold-Att Value (value_step M A) a (row_term S M e row) ∙ ap (cell_at M a) (generators.row_term_row S M same e row within inside)
        ∙ sym (terms.value_term_value S M same (cell_at M a row) edge.to cell.typed ∙ cell.normal))

    key_holds : (e row k : ℕ) (edge : Edge) → e < length S.entities → row < count_of M e → slice_get S.keys k ≡ Some edge → edge.from ≡ e → HasOneMeaning (key_equation S M e row (k, edge))
    key_holds e row k edge within inside at from =
        let key = key_is e row k edge inside at from in
        ap AtRow (ap (key_at M k) (generators.row_term_row S M same e row within inside) ∙ sym (generators.row_term_row S M same edge.to (key_at M k row) key.within key.inside))

    entry_holds : (n : ℕ) (entry : Entry) → slice_get M.algebra.entries n ≡ Some entry → HasOneMeaning (entry_equation S M entry)
    entry_holds n entry at =
        let sound = entry_is n entry at in
        ap AtValue (fold-Fun Value (value_step M A) entry.function (map (value_term S M) entry.args)
        ∙ ap (applied M entry.function) (terms.value_terms_value S M same entry.function sound.function.result entry.args sound.typed ∙ terms.all_plain_normal M entry.args sound.plain.0)
        ∙ applied-entry S M well n entry at
        ∙ sym (terms.value_term_value S M same entry.value sound.function.result sound.same_type ∙ terms.plain_normal M entry.value sound.plain.1))

    -- Each generator stands for something of its sort.

    sorted : (n : ℕ) (g : Name × Sort) → slice_get G n ≡ Some g → HasSort S M g.1 (slice_index_or A n (AtRow 0))
    sorted n g at = elim (generators.from_generator S M same n g at) [
      | inl row ↦
          let stands : slice_index_or A n (AtRow 0) ≡ AtRow row.row = ap (λ m. slice_index_or A m (AtRow 0)) row.place ∙ generators.row_stands S M same row.entity row.row row.within row.inside in
          let is : (row.row < count_of M row.entity) ≡ HasSort S M g.1 (slice_index_or A n (AtRow 0)) = λ i. HasSort S M (sym row.sort_is i) (sym stands i) in
          subst (λ (T : Type 0). T) is row.inside
      | inr null ↦
          let within : null.label < length nulls = slice_get_within nulls null.label null.type null.typed in
          let stands : slice_index_or A n (AtRow 0) ≡ AtValue (value.Null null.label) = ap (λ m. slice_index_or A m (AtRow 0)) null.place ∙ generators.null_stands S M same null.label within in
          let typed : type_in (value.Null null.label) ≡ Some null.type = values.fold-Null (Option ℕ) (value_type_step S nulls) null.label ∙ null.typed in
          let normal : normal_of M (value.Null null.label) ≡ value.Null null.label = values.fold-Null Value (normal_step M) null.label in
          let is : HasSort S M (Plain null.type) (AtValue (value.Null null.label)) ≡ HasSort S M g.1 (slice_index_or A n (AtRow 0)) = λ i. HasSort S M (sym null.sort_is i) (sym stands i) in
          subst (λ (T : Type 0). T) is (typed, normal)
    ]

    pub holds : Satisfies S M → Holds S (canonical S M) M A
    holds satisfies = record {
      well_formed = well;
      count = generators.assignment_count S M same ∙ sym (generators.generator_count S M same);
      sorts = sorted;
      schema = satisfies;
      equations = λ n e at. Every-at HasOneMeaning (canonical S M).equations n e (every_equation HasOneMeaning cell_holds key_holds entry_holds) at;
    }

    -- The presentation is one over the schema.

    pub cell_type : (e row a : ℕ) (edge : Edge) → e < length S.entities → row < count_of M e → slice_get S.attributes a ≡ Some edge → edge.from ≡ e
        → type_of S G (term.Att a (row_term S M e row)) ≡ Some edge.to
    cell_type e row a edge within inside at from =
        fold-Att (Option ℕ) (type_step S G) a (row_term S M e row) ∙ ap (option_and_then (followed (slice_get S.attributes a))) (generators.row_term_entity S M same e row within inside)
        ∙ followed_from S.attributes a edge e at from

    pub key_entity : (e row k : ℕ) (edge : Edge) → e < length S.entities → row < count_of M e → slice_get S.keys k ≡ Some edge → edge.from ≡ e
        → entity_of S G (record { generator = row_generator S M e row; path = k ∷ [] }) ≡ Some edge.to
    key_entity e row k edge within inside at from =
        ap (option_and_then (target_of S.keys (k ∷ []))) (generators.row_entity S M same e row within inside) ∙ ap (option_and_then (target_of S.keys [])) (followed_from S.keys k edge e at from)

    pub entry_type : (n : ℕ) (entry : Entry) (sound : IsSoundEntry S M entry) → type_of S G (term.Fun entry.function (map (value_term S M) entry.args)) ≡ Some sound.function.result
    entry_type n entry sound =
        fold-Fun (Option ℕ) (type_step S G) entry.function (map (value_term S M) entry.args)
        ∙ ap (applied_type (slice_get S.typeside.functions entry.function)) (terms.value_terms_type S M same entry.args)
        ∙ sym (values.fold-Fun (Option ℕ) (value_type_step S nulls) entry.function entry.args) ∙ sound.typed

    module _ (cells_fit : All (λ column. All (λ v. val.symbols_of v ≤ 1024) column) M.sheet.cells) (entries_fit : All (λ (e : Entry). length e.args ≤ 1023) M.algebra.entries) where
      abbrev IsRight : Equation → Type 0
      IsRight = IsEquation S (canonical S M)

      cell_fits : (e row a : ℕ) (edge : Edge) → row < count_of M e → slice_get S.attributes a ≡ Some edge → edge.from ≡ e → val.symbols_of (cell_at M a row) ≤ 1024
      cell_fits e row a edge inside at from =
          let column = well.cell_columns a edge at in
          let there : row < count_of M edge.from = subst (λ n. row < count_of M n) (sym from) inside in
          let among : a < length M.sheet.cells = omega (arith, slice_get_within S.attributes a edge at, well.attributes) in
          cells_fit a [] among row (value.Const (Named 0)) (subst (λ n. row < n) (sym column.0) there)

      cell_right : (e row a : ℕ) (edge : Edge) → e < length S.entities → row < count_of M e → slice_get S.attributes a ≡ Some edge → edge.from ≡ e → IsRight (cell_equation S M e row (a, edge))
      cell_right e row a edge within inside at from =
          let cell = cell_is e row a edge inside at from in
          let left : typ.symbols_of (term.Att a (row_term S M e row)) ≡ 2 = fold-Att ℕ typ.symbols_step a (row_term S M e row) in
          let fits = cell_fits e row a edge inside at from in
          let right : typ.symbols_of (value_term S M (cell_at M a row)) ≡ val.symbols_of (cell_at M a row) = terms.value_term_symbols S M same (cell_at M a row) in
          record {
            sort = Plain edge.to;
            left = ap (option_map Plain) (cell_type e row a edge within inside at from);
            right = ap (option_map Plain) (terms.value_term_type S M same (cell_at M a row) ∙ cell.typed);
            left_fits = omega (arith, left);
            right_fits = omega (arith, right, fits);
          }

      key_right : (e row k : ℕ) (edge : Edge) → e < length S.entities → row < count_of M e → slice_get S.keys k ≡ Some edge → edge.from ≡ e → IsRight (key_equation S M e row (k, edge))
      key_right e row k edge within inside at from =
          let key = key_is e row k edge inside at from in
          record {
            sort = Entity edge.to;
            left = ap (option_map Entity) (key_entity e row k edge within inside at from);
            right = ap (option_map Entity) (generators.row_term_entity S M same edge.to (key_at M k row) key.within key.inside);
            left_fits = omega arith;
            right_fits = omega arith;
          }

      entry_right : (n : ℕ) (entry : Entry) → slice_get M.algebra.entries n ≡ Some entry → IsRight (entry_equation S M entry)
      entry_right n entry at =
          let sound = entry_is n entry at in
          let few : length entry.args ≤ 1023 = All_at (λ (e : Entry). length e.args ≤ 1023) M.algebra.entries n entry entries_fit at in
          let left : typ.symbols_of (term.Fun entry.function (map (value_term S M) entry.args)) ≡ length entry.args + 1 =
          fold-Fun ℕ typ.symbols_step entry.function (map (value_term S M) entry.args) ∙ ap (λ m. m + 1) (terms.plain_terms_symbols S M same entry.args sound.plain.0) in
          let right : typ.symbols_of (value_term S M entry.value) ≡ 1 = terms.plain_term_symbols S M same entry.value sound.plain.1 in
          record {
            sort = Plain sound.function.result;
            left = ap (option_map Plain) (entry_type n entry sound);
            right = ap (option_map Plain) (terms.value_term_type S M same entry.value ∙ sound.same_type);
            left_fits = omega (arith, left, few);
            right_fits = omega (arith, right);
          }

      sort_right : (n : ℕ) (g : Name × Sort) → slice_get G n ≡ Some g → IsSort S g.1
      sort_right n g at = elim (generators.from_generator S M same n g at) [
        | inl row ↦ subst (IsSort S) (sym row.sort_is) row.within
        | inr null ↦ subst (IsSort S) (sym null.sort_is) (All_at (λ m. m < length S.typeside.types) nulls null.label null.type well.nulls null.typed)
      ]

      pub presented : sum M.sheet.counts + length nulls ≤ 16000000 → IsPresentation S (canonical S M)
      presented few = record {
        generators = λ n d inside. sort_right n (slice_index_or G n d) (slice_get-get_or G n d inside);
        count = omega (arith, generators.generator_count S M same, few);
        equations = λ n e at. Every-at IsRight (canonical S M).equations n e (every_equation IsRight cell_right key_right entry_right) at;
      }
