-- The columns of well-formed tables.
use Rattle.std.proofs.Common.{ℕ, List, [], Some, ◌≡◌, ◌<◌, ◌≤◌, inl, inr, length, get_or, IfSome, sym, ap, subst, ◌∙◌, arith}
use Rattle.std.specs.Prelude.{slice_get}
use Rattle.std.proofs.lemmas.List.{get_or_default}
use Rattle.std.proofs.lemmas.Option.{slice_get_cases, slice_get-get_or}
use Rattle.cq_theory.specs.declared.schema.Edge.{Edge}

-- what an index into a list reads
pub read_at : {X : Type 0} (xs items : List X) (i : ℕ) (d : X) → items ≡ xs → i < length items → slice_get xs i ≡ Some (get_or items i d)
read_at {X} xs items i d same within = ap (λ (l : List X). slice_get l i) (sym same) ∙ slice_get-get_or items i d within

module _ {X : Type 0} (edges : List Edge) (columns : List (List X)) (count : ℕ → ℕ) (same : length columns ≡ length edges)
    (lengths : (k : ℕ) (edge : Edge) → slice_get edges k ≡ Some edge → length (get_or columns k []) ≡ count edge.from) where
  -- a row of the entity from which an edge leads stands in the edge's column
  pub row_within : (k row : ℕ) (column : List X) → k < length edges → IfSome (slice_get edges k) (λ edge. row < count edge.from) → column ≡ get_or columns k column → row < length column
  row_within k row column within of_entity is = elim (slice_get_cases edges k).1 [
    | inl found ↦
        let below : row < count found.0.from = subst (λ o. IfSome o (λ (edge : Edge). row < count edge.from)) found.2 of_entity in
        let inside : k < length columns = omega arith in
        let whole : length column ≡ count found.0.from = ap length (is ∙ get_or_default columns k column [] inside) ∙ lengths k found.0 found.2 in
        omega arith
    | inr past ↦ let beyond : length edges ≤ k = past.0 in absurd (omega arith)
  ]

  -- what an index into a column reads
  pub cell_read : (k row : ℕ) (column : List X) (x d : X) → k < length edges → IfSome (slice_get edges k) (λ edge. row < count edge.from) → column ≡ get_or columns k column
      → x ≡ get_or column row x → x ≡ get_or (get_or columns k []) row d
  cell_read k row column x d within of_entity is read =
      let inside : k < length columns = omega arith in
      read ∙ get_or_default column row x d (row_within k row column within of_entity is) ∙ ap (λ c. get_or c row d) (is ∙ get_or_default columns k column [] inside)
