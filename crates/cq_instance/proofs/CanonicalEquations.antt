-- The equations that are made of numbers are those of the canonical presentation.
use Rattle.std.proofs.Common.{ℕ, true, List, [], ◌∷◌, ◌++◌, Option, Some, ◌≡◌, ◌<◌, ◌≤◌, ◌+◌, ◌^◌, map, length, sum, refl, sym, ap, subst, ◌∙◌, arith}
use Rattle.std.specs.Prelude.{slice_get, slice_index, slice_index_or}
use Rattle.std.specs.List.{flat_map}
use Rattle.std.proofs.lemmas.Bool.{and_parts}
use Rattle.std.proofs.lemmas.List.FromFn.{get_or-map-range_with_len, get_or-range_with_len}
use Rattle.std.proofs.lemmas.Option.{slice_get_within, get_or_from_slice_get}
use Rattle.cq_theory.specs.declared.presentation.Equation.TheVariants.{Ent, Typ}
use Rattle.cq_theory.specs.declared.presentation.Sort.TheVariants.{Plain}
use Rattle.cq_theory.specs.declared.schema.Edge.{Edge}
use Rattle.cq_theory.specs.SchemaData.{SchemaData as Schema}
use Rattle.cq_theory.specs.declared.term.TypeTerm.{TypeTerm}
use Rattle.cq_theory.specs.declared.term.TypeTerm.TheVariants as term
use Rattle.cq_theory.specs.declared.value.Value.{Value}
use Rattle.cq_theory.specs.declared.value.Value.TheVariants as value
use Rattle.cq_theory.specs.declared.value.Entry.{Entry}
use Rattle.cq_theory.specs.Schema.{IsSchema}
use Rattle.cq_theory.specs.Sorts.{is_type, have_types}
use Rattle.cq_theory.specs.Tables.{Tables, AtRow, AtValue, count_of, key_at, cell_at, value_type, value_type_step, IsSoundEntry, IsWellFormed}
use Rattle.cq_theory.specs.Canonical.{below, edges_from, row_generator, value_term, value_term_step, cell_equation, key_equation, row_equations, entity_equations, entry_equation, canonical, canonical_assignment}
use Rattle.cq_theory.proofs.OnValues.{Each, on_values, All_at}
use Rattle.cq_theory.proofs.Sound.{is_type_some, applied_type_some}
use Rattle.cq_theory.proofs.Values as values
use Rattle.cq_instance.specs.declared.canonical.Numbers.{Numbers}
use Rattle.cq_theory.specs.Groups.{positions}
use Rattle.cq_instance.specs.Given.{size_of, given}
use Rattle.cq_instance.specs.Numbers as made
use Rattle.cq_terms.specs.ValueTerms as terms_of
use Rattle.cq_instance.proofs.EdgeNumbers.{edge_numbers}
use Rattle.cq_instance.proofs.Lists.{IsIn, get-map, get-map_from, map-map, map_same, flat_map_same, in_range, All_from}
use Rattle.cq_instance.proofs.Pushed.{start_fits}
use Rattle.cq_instance.proofs.CanonicalGenerators as generators
use Rattle.cq_instance.proofs.CanonicalHolds as model
use Rattle.cq_instance.proofs.CanonicalDerived.{count_within}

module _ (S : Schema) (M : Tables) (same : length M.sheet.counts ≡ length S.entities) where
  pub generators_are : made.sorts M.sheet.counts M.algebra.nulls ≡ generators.sorts S M same
  generators_are = ap (λ n. flat_map (made.row_sorts M.sheet.counts) (below n) ++ map Plain M.algebra.nulls) same

  pub names_are : map (made.names M.sheet.counts) (below (length M.sheet.counts)) ≡ (given S M).names
  names_are = ap (λ n. map (made.names M.sheet.counts) (below n)) same

  pub meanings_are : made.meanings M.sheet.counts (length M.algebra.nulls) ≡ canonical_assignment S M
  meanings_are =
      ap (λ n. flat_map (λ entity. map AtRow (below (slice_index M.sheet.counts entity))) (below n) ++ map (λ m. AtValue (value.Null m)) (below (length M.algebra.nulls))) same

module _ (S : Schema) (M : Tables) (schema : IsSchema S) (well : IsWellFormed S M) where
  abbrev same : length M.sheet.counts ≡ length S.entities
  same = well.entities

  abbrev counts : List ℕ
  counts = M.sheet.counts

  abbrev nulls : List ℕ
  nulls = M.algebra.nulls

  abbrev first : ℕ
  first = sum M.sheet.counts

  abbrev N : Numbers
  N = made.numbers_of (length S.entities) S.keys S.attributes M.sheet.counts (length M.algebra.nulls)

  start_at : (e : ℕ) → e < length S.entities → slice_index N.starts e ≡ made.start_of counts e
  start_at e within = get_or-map-range_with_len (made.start_of counts) 0 (length counts) e e 0 (omega (arith, same)) (omega arith)

  generator_at : (e row : ℕ) → e < length S.entities → slice_index N.starts e + row ≡ row_generator S M e row
  generator_at e row within = ap (λ n. n + row) (start_at e within)

  pub generator_fits : (e row : ℕ) → e < length S.entities → row < count_of M e → row_generator S M e row < first
  generator_fits e row within inside = let fits = start_fits counts e (omega (arith, same)) in omega (arith, fits, inside)

  -- the numbers of the edges from an entity
  numbers_at : (edges : List Edge) (e : ℕ) → e < length S.entities
      → slice_index_or (map (positions (map (λ (edge : Edge). edge.from) edges)) (below (length S.entities))) e [] ≡ map (λ (p : ℕ × Edge). p.0) (edges_from e edges)
  numbers_at edges e within =
      get_or-map-range_with_len (positions (map (λ (edge : Edge). edge.from) edges)) 0 (length S.entities) e e [] within (omega arith) ∙ sym (edge_numbers 0 edges e)

  -- Values.

  abbrev type_in : Value → Option ℕ
  type_in = value_type S nulls

  abbrev IsMade : Value → Type 0
  IsMade v = (type : ℕ) → type_in v ≡ Some type → terms_of.value_term first (length nulls) v ≡ value_term S M v

  all_made : (vs : List Value) (types : List ℕ) → Each IsMade vs → have_types (map type_in vs) types ≡ true → map (terms_of.value_term first (length nulls)) vs ≡ map (value_term S M) vs
  all_made [] types each h = refl
  all_made (v ∷ vs) [] each h = cc
  all_made (v ∷ vs) (type ∷ types) each h =
      let parts = and_parts (is_type (type_in v) type) (have_types (map type_in vs) types) h in
      let one : terms_of.value_term first (length nulls) v ≡ value_term S M v = each.0 type (is_type_some (type_in v) type parts.0) in
      let rest : map (terms_of.value_term first (length nulls)) vs ≡ map (value_term S M) vs = all_made vs types each.1 parts.1 in
      λ i. one i ∷ rest i

  args_made : (f type : ℕ) (vs : List Value) → Each IsMade vs → type_in (value.Fun f vs) ≡ Some type → map (terms_of.value_term first (length nulls)) vs ≡ map (value_term S M) vs
  args_made f type vs each h =
      let parts = applied_type_some (slice_get S.typeside.functions f) (map type_in vs) type (sym (values.fold-Fun (Option ℕ) (value_type_step S nulls) f vs) ∙ h) in
      all_made vs parts.0.args each parts.2

  value_is : (v : Value) → IsMade v
  value_is = on_values IsMade
      (λ c type h. values.fold-Const TypeTerm (terms_of.value_term_step first (length nulls)) c ∙ sym (values.fold-Const TypeTerm (value_term_step S M) c))
      (λ n type h.
      let typed : slice_get nulls n ≡ Some type = sym (values.fold-Null (Option ℕ) (value_type_step S nulls) n) ∙ h in
      values.fold-Null TypeTerm (terms_of.value_term_step first (length nulls)) n
      ∙ ap term.Gen (get_or-range_with_len first (length nulls) n 0 (slice_get_within nulls n type typed)) ∙ sym (values.fold-Null TypeTerm (value_term_step S M) n))
      (λ f vs each type h.
      values.fold-Fun TypeTerm (terms_of.value_term_step first (length nulls)) f vs ∙ ap (term.Fun f) (args_made f type vs each h) ∙ sym (values.fold-Fun TypeTerm (value_term_step S M) f vs))

  each_is : (vs : List Value) → Each IsMade vs
  each_is [] = tt
  each_is (v ∷ vs) = (value_is v, each_is vs)

  -- Rows.

  cell_made_is : (e row : ℕ) (p : ℕ × Edge) → e < length S.entities → row < count_of M e → IsIn p (edges_from e S.attributes)
      → made.cell_made M.sheet N (slice_index N.starts e + row) row p.0 ≡ cell_equation S M e row p
  cell_made_is e row p within inside among =
      let edge = model.from_edges e S.attributes among.place p among.is in
      let cell = model.cell_is S M schema well e row p.0 p.1 inside edge.0 edge.1 in
      let left : slice_index N.starts e + row ≡ row_generator S M e row = generator_at e row within in
      let right : terms_of.value_term first (length nulls) (cell_at M p.0 row) ≡ value_term S M (cell_at M p.0 row) = value_is (cell_at M p.0 row) p.1.to cell.typed in
      λ i. Typ (term.Att p.0 (record { generator = left i; path = [] })) (right i)

  target_is : (e row k : ℕ) (edge : Edge) → row < count_of M e → slice_get S.keys k ≡ Some edge → edge.from ≡ e → made.target_generator M.sheet N k row ≡ row_generator S M edge.to (key_at M k row)
  target_is e row k edge inside at from =
      let key = model.key_is S M schema well e row k edge inside at from in
      let target : slice_index N.targets k ≡ edge.to = get_or_from_slice_get N.targets k edge.to 0 (get-map (λ (x : Edge). x.to) S.keys k edge at) in
      ap (λ n. slice_index N.starts n + key_at M k row) target ∙ generator_at edge.to (key_at M k row) key.within

  key_made_is : (e row : ℕ) (p : ℕ × Edge) → e < length S.entities → row < count_of M e → IsIn p (edges_from e S.keys)
      → made.key_made M.sheet N (slice_index N.starts e + row) row p.0 ≡ key_equation S M e row p
  key_made_is e row p within inside among =
      let edge = model.from_edges e S.keys among.place p among.is in
      let left : slice_index N.starts e + row ≡ row_generator S M e row = generator_at e row within in
      let right : made.target_generator M.sheet N p.0 row ≡ row_generator S M p.1.to (key_at M p.0 row) = target_is e row p.0 p.1 inside edge.0 edge.1 in
      λ i. Ent (record { generator = left i; path = p.0 ∷ [] }) (record { generator = right i; path = [] })

  row_is : (e row : ℕ) → e < length S.entities → row < count_of M e → made.row_made M.sheet N e row ≡ row_equations S M e row
  row_is e row within inside =
      let g : ℕ = slice_index N.starts e + row in
      let cells : made.cells_made M.sheet N e row ≡ map (cell_equation S M e row) (edges_from e S.attributes) =
      ap (map (made.cell_made M.sheet N g row)) (numbers_at S.attributes e within)
      ∙ map-map (made.cell_made M.sheet N g row) (λ (p : ℕ × Edge). p.0) (edges_from e S.attributes)
      ∙ map_same (λ (p : ℕ × Edge). made.cell_made M.sheet N g row p.0) (cell_equation S M e row) (edges_from e S.attributes) (λ p among. cell_made_is e row p within inside among) in
      let keys : made.keys_made M.sheet N e row ≡ map (key_equation S M e row) (edges_from e S.keys) =
      ap (map (made.key_made M.sheet N g row)) (numbers_at S.keys e within)
      ∙ map-map (made.key_made M.sheet N g row) (λ (p : ℕ × Edge). p.0) (edges_from e S.keys)
      ∙ map_same (λ (p : ℕ × Edge). made.key_made M.sheet N g row p.0) (key_equation S M e row) (edges_from e S.keys) (λ p among. key_made_is e row p within inside among) in
      λ i. cells i ++ keys i

  rows_are : made.rows_made M.sheet N ≡ flat_map (entity_equations S M) (below (length S.entities))
  rows_are =
      ap (λ n. flat_map (made.entity_made M.sheet N) (below n)) same
      ∙ flat_map_same (made.entity_made M.sheet N) (entity_equations S M) (below (length S.entities)) (λ e among.
      flat_map_same (made.row_made M.sheet N e) (row_equations S M e) (below (count_of M e)) (λ row here.
      row_is e row (in_range (length S.entities) e among) (in_range (count_of M e) row here)))

  entry_made_is : (entry : Entry) → IsIn entry M.algebra.entries → terms_of.entry_equation first (length nulls) entry ≡ entry_equation S M entry
  entry_made_is entry among =
      let sound : IsSoundEntry S M entry = All_at (IsSoundEntry S M) M.algebra.entries among.place entry well.entries among.is in
      let left = args_made entry.function sound.function.result entry.args (each_is entry.args) sound.typed in
      let right = value_is entry.value sound.function.result sound.same_type in
      λ i. Typ (term.Fun entry.function (left i)) (right i)

  pub equations_are : made.equations M.sheet N M.algebra.entries ≡ (canonical S M).equations
  equations_are =
      let entries : map (terms_of.entry_equation first (length nulls)) M.algebra.entries ≡ map (entry_equation S M) M.algebra.entries =
      map_same (terms_of.entry_equation first (length nulls)) (entry_equation S M) M.algebra.entries entry_made_is in
      λ i. rows_are i ++ entries i

  pub room : size_of M ≤ 16000000 → made.HaveRoom M.sheet N
  room few = record {
    rows = λ e row inside.
        let within = count_within S M schema well e row inside in
        omega (arith, generator_at e row within, generator_fits e row within inside, few);
    keys = λ e row inside.
        let within = count_within S M schema well e row inside in
        All_from (λ k. made.target_generator M.sheet N k row < 2 ^ 32) (slice_index_or N.keys e []) (λ n k at.
        let from_list = get-map_from (λ (p : ℕ × Edge). p.0) (edges_from e S.keys) n k (ap (λ l. slice_get l n) (sym (numbers_at S.keys e within)) ∙ at) in
        let edge = model.from_edges e S.keys n from_list.0 from_list.1 in
        let key = model.key_is S M schema well e row from_list.0.0 from_list.0.1 inside edge.0 edge.1 in
        let fits : made.target_generator M.sheet N from_list.0.0 row < 2 ^ 32 =
        omega (arith, target_is e row from_list.0.0 from_list.0.1 inside edge.0 edge.1, generator_fits from_list.0.1.to (key_at M from_list.0.0 row) key.within key.inside, few) in
        subst (λ m. made.target_generator M.sheet N m row < 2 ^ 32) from_list.2 fits);
    null_room = omega (arith, few);
  }
