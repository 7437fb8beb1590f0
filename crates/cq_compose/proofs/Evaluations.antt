-- A query has one evaluation at given tables.
use Rattle.std.proofs.Common.{ℕ, zero, suc, List, [], ◌∷◌, Some, ◌≡◌, ◌<◌, ◌+◌, map, length, refl, sym, ap, subst, ◌∙◌, arith}
use Rattle.std.specs.Prelude.{slice_get, slice_index, slice_index_or}
use Rattle.std.proofs.lemmas.Option.{slice_get_within, get_or_from_slice_get}
use Rattle.std.proofs.lemmas.List.FromFn.{get_or-map-range_with_len}
use Rattle.cq_theory.specs.declared.schema.Edge.{Edge}
use Rattle.cq_theory.specs.declared.constant.Con.TheVariants.{Named}
use Rattle.cq_theory.specs.declared.value.Value.TheVariants.{Const}
use Rattle.cq_theory.specs.Schema.{IsSchema}
use Rattle.cq_theory.specs.Tables.{Tables, count_of, key_at, row_of}
use Rattle.cq_theory.proofs.OnValues.{All_at}
use Rattle.cq_query.specs.QueryData.{QueryData as Query}
use Rattle.cq_query.specs.Translation.{assigned}
use Rattle.cq_query.specs.Answers.{stands, IsEval}
use Rattle.cq_query.proofs.Once.{one_answers, one_place, answers_once}
use Rattle.cq_compose.proofs.Agreeing.{same_below, same_lists}

member_at : {X : Type 0} (xs : List X) (n : ℕ) → n < length xs → (x : X) × (slice_get xs n ≡ Some x)
member_at [] n h = absurd (omega arith)
member_at (x ∷ xs) zero h = (x, refl)
member_at (x ∷ xs) (suc n) h = member_at xs n (omega arith)

module _ (Q : Query) (target : IsSchema Q.target) (M N X : Tables) (one : IsEval Q M N) (other : IsEval Q M X) where
  abbrev there : ℕ → List (List ℕ)
  there e = slice_index_or one.answers e []

  answers_same : (e : ℕ) → e < length Q.target.entities → there e ≡ slice_index_or other.answers e []
  answers_same e within = one_answers Q M e (there e) (slice_index_or other.answers e []) (one.each e within) (other.each e within)

  counts_same : N.sheet.counts ≡ X.sheet.counts
  counts_same = one.counts
      ∙ same_below (λ e. length (there e)) (λ e. length (slice_index_or other.answers e [])) 0 (length Q.target.entities) (λ e within. ap length (answers_same e (omega arith)))
      ∙ sym other.counts

  -- the answer of a row
  answer_at : (e row : ℕ) → e < length Q.target.entities → row < count_of N e → (rows : List ℕ) × (slice_get (there e) row ≡ Some rows)
  answer_at e row within inside =
      let here : 0 + e ≡ e = omega arith in
      let count : count_of N e ≡ length (there e) =
      ap (λ (counts : List ℕ). slice_index counts e) one.counts ∙ get_or-map-range_with_len (λ f. length (there f)) 0 (length Q.target.entities) e e 0 within here in
      member_at (there e) row (subst (λ n. row < n) count inside)

  key_column : (k : ℕ) (edge : Edge) → slice_get Q.target.keys k ≡ Some edge → slice_index_or N.sheet.keys k [] ≡ slice_index_or X.sheet.keys k []
  key_column k edge is = same_lists (slice_index_or N.sheet.keys k []) (slice_index_or X.sheet.keys k [])
      (one.key_columns k edge is ∙ ap (λ (counts : List ℕ). slice_index counts edge.from) counts_same ∙ sym (other.key_columns k edge is)) (λ row r r' at at'.
      let ends = All_at (λ (x : Edge). (x.from < length Q.target.entities) × (x.to < length Q.target.entities)) Q.target.keys k edge target.keys is in
      let inside : row < count_of N edge.from = subst (λ n. row < n) (one.key_columns k edge is) (slice_get_within (slice_index_or N.sheet.keys k []) row r at) in
      let rows = answer_at edge.from row ends.0 inside in
      let first : slice_get (there edge.to) (key_at N k row) ≡ Some (map (row_of M (stands Q M rows.0)) (assigned Q k)) = one.keys k row edge rows.0 is rows.1 in
      let second : slice_get (there edge.to) (key_at X k row) ≡ Some (map (row_of M (stands Q M rows.0)) (assigned Q k)) =
      ap (λ l. slice_get l (key_at X k row)) (answers_same edge.to ends.1)
      ∙ other.keys k row edge rows.0 is (ap (λ l. slice_get l row) (sym (answers_same edge.from ends.0)) ∙ rows.1) in
      sym (get_or_from_slice_get (slice_index_or N.sheet.keys k []) row r 0 at)
      ∙ one_place (there edge.to) (answers_once Q M edge.to (there edge.to) (one.each edge.to ends.1)) (key_at N k row) (key_at X k row) (map (row_of M (stands Q M rows.0)) (assigned Q k)) first second
      ∙ get_or_from_slice_get (slice_index_or X.sheet.keys k []) row r' 0 at')

  cell_column : (a : ℕ) (edge : Edge) → slice_get Q.target.attributes a ≡ Some edge → slice_index_or N.sheet.cells a [] ≡ slice_index_or X.sheet.cells a []
  cell_column a edge is = same_lists (slice_index_or N.sheet.cells a []) (slice_index_or X.sheet.cells a [])
      (one.cell_columns a edge is ∙ ap (λ (counts : List ℕ). slice_index counts edge.from) counts_same ∙ sym (other.cell_columns a edge is)) (λ row v v' at at'.
      let ends = All_at (λ (x : Edge). (x.from < length Q.target.entities) × (x.to < length Q.target.typeside.types)) Q.target.attributes a edge target.attributes is in
      let inside : row < count_of N edge.from = subst (λ n. row < n) (one.cell_columns a edge is) (slice_get_within (slice_index_or N.sheet.cells a []) row v at) in
      let rows = answer_at edge.from row ends.0 inside in
      sym (get_or_from_slice_get (slice_index_or N.sheet.cells a []) row v (Const (Named 0)) at)
      ∙ one.cells a row edge rows.0 is rows.1
      ∙ sym (other.cells a row edge rows.0 is (ap (λ l. slice_get l row) (sym (answers_same edge.from ends.0)) ∙ rows.1))
      ∙ get_or_from_slice_get (slice_index_or X.sheet.cells a []) row v' (Const (Named 0)) at')

  keys_same : N.sheet.keys ≡ X.sheet.keys
  keys_same = same_lists N.sheet.keys X.sheet.keys (one.key_count ∙ sym other.key_count) (λ k column column' at at'.
      let edge = member_at Q.target.keys k (subst (λ n. k < n) one.key_count (slice_get_within N.sheet.keys k column at)) in
      sym (get_or_from_slice_get N.sheet.keys k column [] at) ∙ key_column k edge.0 edge.1 ∙ get_or_from_slice_get X.sheet.keys k column' [] at')

  cells_same : N.sheet.cells ≡ X.sheet.cells
  cells_same = same_lists N.sheet.cells X.sheet.cells (one.cell_count ∙ sym other.cell_count) (λ a column column' at at'.
      let edge = member_at Q.target.attributes a (subst (λ n. a < n) one.cell_count (slice_get_within N.sheet.cells a column at)) in
      sym (get_or_from_slice_get N.sheet.cells a column [] at) ∙ cell_column a edge.0 edge.1 ∙ get_or_from_slice_get X.sheet.cells a column' [] at')

  pub one_evaluation : N ≡ X
  one_evaluation =
      let counts : N.sheet.counts ≡ X.sheet.counts = counts_same in
      let keys : N.sheet.keys ≡ X.sheet.keys = keys_same in
      let cells : N.sheet.cells ≡ X.sheet.cells = cells_same in
      let algebra : N.algebra ≡ X.algebra = one.algebra ∙ sym other.algebra in
      λ i. record { sheet = record { counts = counts i; keys = keys i; cells = cells i }; algebra = algebra i }
