-- What cells say, where each says one equation and adds no label.
use Rattle.std.proofs.Common.{ℕ, zero, suc, List, [], ◌∷◌, ◌++◌, Some, None, ◌≡◌, ◌<◌, ◌≤◌, ◌+◌, ◌-◌, map, length, refl, sym, ap, ◌∙◌, append_assoc, arith}
use Rattle.std.specs.Prelude.{slice_get, slice_index_or}
use Rattle.std.specs.List.{flat_map, enumerate_from, range_with_len}
use Rattle.cq_theory.specs.declared.presentation.Equation.{Equation}
use Rattle.cq_theory.specs.SchemaData.{SchemaData as Schema}
use Rattle.cq_theory.proofs.Every.{Every}
use Rattle.cq_import.specs.declared.columns.Column.{Column}
use Rattle.cq_import.specs.Cells.{Cell, Sheet, cell_equations, cell_fault, cell_in, cell_uses, cells_fault, equations_from, row_cells, rows_cells}
use Rattle.cq_import.specs.Faults.{or_else}
use Rattle.cq_import.specs.Labels.{Labels, with_uses}
use Rattle.cq_import.specs.Records.{Record, field_in}

-- the field behind others
at_end : (front : Record) (field : List ℕ) (rest : Record) → slice_index_or (front ++ field ∷ rest) (length front) [] ≡ field
at_end [] field rest = refl
at_end (f ∷ front) field rest = at_end front field rest

module _ (S : Schema) (sheets : List Sheet) (first : ℕ) (labels : Labels) where
  -- the cell has no fault, adds no label and says this
  pub record IsSaid (cell : Cell) (e : Equation) : Type 0 where
    pub fault : cell_fault sheets S.typeside None labels cell ≡ None
    pub kept : with_uses labels (cell_uses S.typeside cell) ≡ labels
    pub equation : cell_equations sheets S.typeside first labels cell ≡ e ∷ []

  abbrev pub AreSaid : List Cell → List Equation → Type 0
  AreSaid [] [] = Unit {0}
  AreSaid (cell ∷ cells) (e ∷ es) = IsSaid cell e × AreSaid cells es
  AreSaid _ _ = ⊥

  pub said-append : (cells others : List Cell) (es fs : List Equation) → AreSaid cells es → AreSaid others fs → AreSaid (cells ++ others) (es ++ fs)
  said-append [] others [] fs one more = more
  said-append (cell ∷ cells) others (e ∷ es) fs one more = (one.0, said-append cells others es fs one.1 more)
  said-append [] others (e ∷ es) fs one more = absurd one
  said-append (cell ∷ cells) others [] fs one more = absurd one

  pub said-flat_map : {X : Type 0} (f : X → List Cell) (g : X → List Equation) (xs : List X) → ((n : ℕ) (x : X) → slice_get xs n ≡ Some x → AreSaid (f x) (g x))
      → AreSaid (flat_map f xs) (flat_map g xs)
  said-flat_map f g [] each = tt
  said-flat_map f g (x ∷ xs) each = said-append (f x) (flat_map f xs) (g x) (flat_map g xs) (each 0 x refl) (said-flat_map f g xs (λ n y at. each (suc n) y at))

  pub no_fault : (cells : List Cell) (es : List Equation) → AreSaid cells es → cells_fault sheets S.typeside None labels cells ≡ None
  no_fault [] es said = refl
  no_fault (cell ∷ cells) [] said = absurd said
  no_fault (cell ∷ cells) (e ∷ es) said =
      ap (λ f. or_else f (cells_fault sheets S.typeside None (with_uses labels (cell_uses S.typeside cell)) cells)) said.0.fault
      ∙ ap (λ l. cells_fault sheets S.typeside None l cells) said.0.kept ∙ no_fault cells es said.1

  pub all_said : (cells : List Cell) (es : List Equation) → AreSaid cells es → equations_from sheets S.typeside first labels cells ≡ es
  all_said [] [] said = refl
  all_said [] (e ∷ es) said = absurd said
  all_said (cell ∷ cells) [] said = absurd said
  all_said (cell ∷ cells) (e ∷ es) said =
      ap (λ l. cell_equations sheets S.typeside first l cell ++ equations_from sheets S.typeside first l cells) said.0.kept
      ∙ ap (λ l. l ++ equations_from sheets S.typeside first labels cells) said.0.equation ∙ ap (λ l. e ∷ l) (all_said cells es said.1)

  -- the cells of a record, whose fields behind the first ones are those of the columns
  module _ (file : List ℕ) (generator number : ℕ) (fields : Record) (field_of : Column → List ℕ) (equation_of : Column → Equation) where
    -- a cell in this column says the equation of the column
    abbrev pub Says : Column → Type 0
    Says c = (cell : Cell) → cell.generator ≡ generator → cell.column ≡ c → cell.field ≡ field_of c → IsSaid cell (equation_of c)

    columns_said : (s : ℕ) (front : Record) (cs : List Column) → s ≡ length front + 1 → fields ≡ front ++ map field_of cs → Every Says cs
        → AreSaid (map (cell_in file generator number fields) (enumerate_from s cs)) (map equation_of cs)
    columns_said s front [] at are each = tt
    columns_said s front (c ∷ cs) at are each =
        let place : s - 1 ≡ length front = omega arith in
        let here : field_in fields (s - 1) ≡ field_of c = ap (field_in fields) place ∙ ap (λ l. slice_index_or l (length front) []) are ∙ at_end front (field_of c) (map field_of cs) in
        let longer : length (front ++ field_of c ∷ []) ≡ length front + 1 = one_longer front (field_of c) in (
          each.0 (cell_in file generator number fields (s, c)) refl refl here,
          columns_said (s + 1) (front ++ field_of c ∷ []) cs (omega arith) (are ∙ sym (append_assoc front (field_of c ∷ []) (map field_of cs))) each.1,
        )
      where
        one_longer : (xs : Record) (x : List ℕ) → length (xs ++ x ∷ []) ≡ length xs + 1
        one_longer [] x = refl
        one_longer (y ∷ xs) x = let more = one_longer xs x in omega arith

    pub row_said : (id : List ℕ) (cs : List Column) → fields ≡ id ∷ map field_of cs → Every Says cs → AreSaid (row_cells file cs generator number fields) (map equation_of cs)
    row_said id cs are each = columns_said 2 (id ∷ []) cs (omega arith) are each

  -- the cells of consecutive rows
  pub rows_said : (file : List ℕ) (cs : List Column) (r : ℕ → Record) (g : ℕ → List Equation) (base s n generator number : ℕ) → generator ≡ base + s
      → ((k : ℕ) → s ≤ k → k < s + n → (generator' number' : ℕ) → generator' ≡ base + k → AreSaid (row_cells file cs generator' number' (r k)) (g k))
      → AreSaid (rows_cells file cs generator number (map r (range_with_len s n))) (flat_map g (range_with_len s n))
  rows_said file cs r g base s zero generator number at each = tt
  rows_said file cs r g base s (suc n) generator number at each =
      said-append (row_cells file cs generator number (r s)) (rows_cells file cs (generator + 1) (number + 1) (map r (range_with_len (s + 1) n))) (g s) (flat_map g (range_with_len (s + 1) n))
      (each s (omega arith) (omega arith) generator number at)
      (rows_said file cs r g base (s + 1) n (generator + 1) (number + 1) (omega arith) (λ k low high. each k (omega arith) (omega arith)))
