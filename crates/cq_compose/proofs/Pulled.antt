-- What the query of a mapping answers are the tables that the mapping pulls back.
use Rattle.std.proofs.Common.{ℕ, zero, suc, List, [], ◌∷◌, ◌++◌, Option, Some, None, ◌≡◌, ◌<◌, ◌+◌, map, length, get_or, refl, sym, ap, subst, ◌∙◌, arith, slice_index_or}
use Rattle.std.specs.Prelude.{slice_get, slice_index, option_map}
use Rattle.std.specs.List.{flat_map, enumerate_from}
use Rattle.std.proofs.lemmas.List.{length-map}
use Rattle.std.proofs.lemmas.List.FromFn.{length-enumerate_from, length-map-range_with_len, length-range_with_len, fill_by_all}
use Rattle.std.proofs.lemmas.Option.{slice_get-map, slice_get_within, slice_get-get_or, get_or_from_slice_get, option_and_then_some}
use Rattle.cq_base.specs.declared.name.Name.{Name}
use Rattle.cq_theory.specs.declared.presentation.Equation.{Equation}
use Rattle.cq_theory.specs.declared.schema.Edge.{Edge}
use Rattle.cq_theory.specs.declared.term.EntTerm.{EntTerm}
use Rattle.cq_theory.specs.declared.term.TypeTerm.{TypeTerm}
use Rattle.cq_theory.specs.declared.value.Value.{Value}
use Rattle.cq_theory.specs.declared.value.Value.TheVariants.{Const}
use Rattle.cq_theory.specs.declared.constant.Con.TheVariants.{Named}
use Rattle.cq_theory.specs.SchemaData.{SchemaData as Schema}
use Rattle.cq_theory.specs.Sorts.{followed, target_of}
use Rattle.cq_theory.specs.Canonical.{below}
use Rattle.cq_theory.specs.Derivation.{left_of, right_of}
use Rattle.cq_theory.specs.Tables.{Tables, AtRow, count_of, key_at, cell_at, row_from, row_of, value_of, meaning_of, IsWellFormed}
use Rattle.cq_theory.proofs.Every.{enumerated}
use Rattle.cq_theory.proofs.Grouped.{made_at}
use Rattle.cq_theory.proofs.Sound.{followed_some}
use Rattle.cq_blocks.specs.declared.block.Block.{Block}
use Rattle.cq_mapping.specs.MappingData.{MappingData as Mapping}
use Rattle.cq_mapping.specs.Mapping.{IsMapping}
use Rattle.cq_mapping.specs.Images.{entity_image, key_image, attribute_image}
use Rattle.cq_mapping.specs.Moved.{key_column, cell_column, delta_tables}
use Rattle.cq_query.specs.QueryData.{QueryData as Query}
use Rattle.cq_query.specs.Translation.{variables_at, tests_at, tests_in, terms_or_none, term_or_constant, assigned, attribute_term}
use Rattle.cq_query.specs.Answers.{tuples, AreFiltered, none, kept, stands, variable_counts, MeetsTests, AreAnswers, IsEval}
use Rattle.cq_compose.specs.MappingQuery.{from_variable, mapping_block, mapping_query}
use Rattle.cq_compose.proofs.Variable.{block_there, variables_there, attribute_within, attribute_found, key_within, key_found}

-- A path from a row leads to a row of its target.
row_within : (S : Schema) (M : Tables) → IsWellFormed S M → (path : List ℕ) (e target row : ℕ) → target_of S.keys path e ≡ Some target → row < count_of M e → row_from M row path < count_of M target
row_within S M well [] e target row h within = let same : e ≡ target = cc in subst (λ n. row < count_of M n) same within
row_within S M well (k ∷ path) e target row h within =
    option_and_then_some (target_of S.keys path) (followed (slice_get S.keys k) e) target h (λ middle first rest.
    let edge = followed_some (slice_get S.keys k) e middle first in
    let column = well.key_columns k edge.0 edge.1 in
    let inside : row < length (slice_index_or M.sheet.keys k []) = subst (λ n. row < n) (sym column.0) (subst (λ n. row < count_of M n) (sym edge.2) within) in
    let next : key_at M k row < count_of M edge.0.to = column.1 row 0 inside in
    row_within S M well path middle target (key_at M k row) rest (subst (λ n. key_at M k row < count_of M n) edge.3 next))

all_kept : {X : Type 0} (P : X → Type 0) (xs : List X) → ((x : X) → P x) → AreFiltered P xs xs
all_kept P [] h = none
all_kept P (x ∷ xs) h = kept (h x) (all_kept P xs h)

-- the tuples of one row each
ones : (count : ℕ) → tuples (count ∷ []) ≡ map (λ row. row ∷ []) (below count)
ones count = go (below count)
  where
    go : (rows : List ℕ) → flat_map (λ (row : ℕ). (row ∷ []) ∷ []) rows ≡ map (λ row. row ∷ []) rows
    go [] = refl
    go (row ∷ rows) = ap (λ l. (row ∷ []) ∷ l) (go rows)

-- what stands in a list that is made of the numbers below n
from_below : {X : Type 0} (f : ℕ → X) (n k : ℕ) (x : X) → slice_get (map f (below n)) k ≡ Some x → (k < n) × (x ≡ f k)
from_below f n k x h =
    let inside : k < length (map f (below n)) = slice_get_within (map f (below n)) k x h in
    let within : k < n = omega (arith, length-map-range_with_len f 0 n) in
    let both : Some x ≡ Some (f k) = sym h ∙ made_at f n k within in
    (within, (let same : x ≡ f k = cc in same))

-- one column for each edge, made of the edge and its number
column_at : {X : Type 0} (f : ℕ × Edge → X) (edges : List Edge) (n : ℕ) (edge : Edge) (d : X) → slice_get edges n ≡ Some edge → slice_index_or (map f (enumerate_from 0 edges)) n d ≡ f (n, edge)
column_at f edges n edge d at =
    let here : 0 + n ≡ n = omega arith in
    get_or_from_slice_get (map f (enumerate_from 0 edges)) n (f (n, edge)) d
    (slice_get-map f (enumerate_from 0 edges) n ∙ ap (option_map f) (enumerated 0 edges n edge at ∙ ap (λ m. let p : ℕ × Edge = (m, edge) in Some p) here))

module _ (F : Mapping) (mapping : IsMapping F) (M : Tables) (well : IsWellFormed F.target M) where
  abbrev Q : Query
  Q = mapping_query F

  abbrev N : Tables
  N = delta_tables F M

  abbrev count : ℕ
  count = length F.source.entities

  abbrev answers_at : ℕ → List (List ℕ)
  answers_at e = map (λ row. row ∷ []) (below (count_of M (entity_image F e)))

  abbrev answers : List (List (List ℕ))
  answers = map answers_at (below count)

  answers_there : (e : ℕ) → e < count → slice_index_or answers e [] ≡ answers_at e
  answers_there e within = get_or_from_slice_get answers e (answers_at e) [] (made_at answers_at count e within)

  count_there : (e : ℕ) → e < count → count_of N e ≡ count_of M (entity_image F e)
  count_there e within =
      get_or_from_slice_get (map (count_of M) F.entities) e (count_of M (entity_image F e)) 0
      (slice_get-map (count_of M) F.entities e ∙ ap (option_map (count_of M)) (slice_get-get_or F.entities e 0 (omega (arith, mapping.entities))))

  no_tests : (e : ℕ) → e < count → (rows : List ℕ) → MeetsTests Q M e rows
  no_tests e within rows n equation at =
      let none_there : tests_at Q e ≡ [] = ap tests_in (block_there F mapping e within) in
      let nothing : slice_get [] n ≡ Some equation = ap (λ l. slice_get l n) (sym none_there) ∙ at in
      absurd (no_equation n equation nothing)
    where
      no_equation : (n : ℕ) (x : Equation) → slice_get [] n ≡ Some x → ⊥
      no_equation n x h = cc

  answered : (e : ℕ) → e < count → AreAnswers Q M e (slice_index_or answers e [])
  answered e within =
      let all : tuples (variable_counts Q M e) ≡ answers_at e =
      ap (λ vs. tuples (map (λ (v : Name × ℕ). count_of M v.1) vs)) (variables_there F mapping e within) ∙ ones (count_of M (entity_image F e)) in
      subst (λ l. AreFiltered (MeetsTests Q M e) l (slice_index_or answers e [])) (sym all)
      (subst (AreFiltered (MeetsTests Q M e) (answers_at e)) (sym (answers_there e within)) (all_kept (MeetsTests Q M e) (answers_at e) (no_tests e within)))

  counted : N.sheet.counts ≡ map (λ e. length (slice_index_or answers e [])) (below count)
  counted =
      fill_by_all (λ e. length (slice_index_or answers e [])) (map (count_of M) F.entities) count 0 (length-map F.entities (count_of M) ∙ mapping.entities) (λ e within.
      count_there e within ∙ sym (ap length (answers_there e within) ∙ length-map-range_with_len (λ row. row ∷ []) 0 (count_of M (entity_image F e))))

  module _ (k row : ℕ) (edge : Edge) (rows : List ℕ) (at : slice_get F.source.keys k ≡ Some edge) (here : slice_get (slice_index_or answers edge.from []) row ≡ Some rows) where
    led : slice_get (slice_index_or answers edge.to []) (key_at N k row) ≡ Some (map (row_of M (stands Q M rows)) (assigned Q k))
    led =
        let within = key_within F mapping k edge at in
        let start = count_of M (entity_image F edge.from) in
        let answer = from_below (λ r. r ∷ []) start row rows (ap (λ l. slice_get l row) (sym (answers_there edge.from within.0)) ∙ here) in
        let end : row_from M row (key_image F k) < count_of M (entity_image F edge.to) =
        row_within F.target M well (key_image F k) (entity_image F edge.from) (entity_image F edge.to) row (mapping.key_images k edge at).leads answer.0 in
        let key : key_at N k row ≡ row_from M row (key_image F k) =
        ap (λ l. slice_index l row) (column_at (key_column F M) F.source.keys k edge [] at)
        ∙ get_or_from_slice_get (key_column F M (k, edge)) row (row_from M row (key_image F k)) 0 (made_at (λ r. row_from M r (key_image F k)) start row answer.0) in
        let terms : assigned Q k ≡ from_variable F (key_image F k) ∷ [] = ap terms_or_none (key_found F mapping k edge at) in
        ap (slice_get (slice_index_or answers edge.to [])) key ∙ ap (λ l. slice_get l (row_from M row (key_image F k))) (answers_there edge.to within.1)
        ∙ made_at (λ r. r ∷ []) (count_of M (entity_image F edge.to)) (row_from M row (key_image F k)) end
        ∙ sym (ap (λ rs. Some (map (row_of M (stands Q M rs)) (assigned Q k))) answer.1 ∙ ap (λ ts. Some (map (row_of M (AtRow row ∷ [])) ts)) terms)

  module _ (a row : ℕ) (edge : Edge) (rows : List ℕ) (at : slice_get F.source.attributes a ≡ Some edge) (here : slice_get (slice_index_or answers edge.from []) row ≡ Some rows) where
    valued : cell_at N a row ≡ value_of M (stands Q M rows) (attribute_term Q a)
    valued =
        let within = attribute_within F mapping a edge at in
        let start = count_of M (entity_image F edge.from) in
        let answer = from_below (λ r. r ∷ []) start row rows (ap (λ l. slice_get l row) (sym (answers_there edge.from within)) ∙ here) in
        let value : ℕ → Value = λ r. value_of M (AtRow r ∷ []) (attribute_image F a) in
        let term : attribute_term Q a ≡ attribute_image F a = ap term_or_constant (attribute_found F mapping a edge at) in
        ap (λ l. slice_index_or l row (Const (Named 0))) (column_at (cell_column F M) F.source.attributes a edge [] at)
        ∙ get_or_from_slice_get (cell_column F M (a, edge)) row (value row) (Const (Named 0)) (made_at value start row answer.0)
        ∙ sym (ap (λ rs. value_of M (stands Q M rs) (attribute_term Q a)) answer.1 ∙ ap (value_of M (AtRow row ∷ [])) term)

  pub pulled_back : IsEval Q M N
  pulled_back = record {
    answers = answers;
    each = answered;
    counts = counted;
    key_columns = λ k edge at.
        ap length (column_at (key_column F M) F.source.keys k edge [] at)
        ∙ length-map-range_with_len (λ row. row_from M row (key_image F k)) 0 (count_of M (entity_image F edge.from)) ∙ sym (count_there edge.from (key_within F mapping k edge at).0);
    cell_columns = λ a edge at.
        ap length (column_at (cell_column F M) F.source.attributes a edge [] at)
        ∙ length-map-range_with_len (λ row. value_of M (AtRow row ∷ []) (attribute_image F a)) 0 (count_of M (entity_image F edge.from)) ∙ sym (count_there edge.from (attribute_within F mapping a edge at));
    keys = led;
    cells = valued;
    algebra = refl;
    key_count = length-map (enumerate_from 0 F.source.keys) (key_column F M) ∙ length-enumerate_from 0 F.source.keys;
    cell_count = length-map (enumerate_from 0 F.source.attributes) (cell_column F M) ∙ length-enumerate_from 0 F.source.attributes;
  }
