-- What is observed of the cells of rows that stand in one list.
use Rattle.std.proofs.Common.{◌≡◌, ℕ, zero, suc, ◌<◌, ◌≤◌, Bool, false, List, [], ◌∷◌, ◌++◌, length, get_or, Option, Some, None, IsSome, refl, sym, ◌∙◌, ap, arith, ⊎_elim, inl, inr, length-append}
use Rattle.std.proofs.lemmas.Bool.{cases_lt, cases_Bool}
use Rattle.std.proofs.lemmas.List.{get_or_past, get_or_push, get_or_append_left}
use Rattle.std.proofs.lemmas.Option.{none-some}
use Rattle.std.specs.Option.{is_some}
use Rattle.cq_tables.specs.Content.{cell_of, step_of}
use Rattle.cq_tables.specs.Places.{values_below, stored_at, cells_by_row, place_of}
use Rattle.cq_tables.specs.Tables.{content}
use Rattle.cq_tables.proofs.Placing.{not_past}

length-values : {A : Type 0} (f : ℕ → A) (n : ℕ) → length (values_below f n) ≡ n
length-values f zero = refl
length-values f (suc n) = length-append (values_below f n) (f n ∷ []) ∙ omega (arith, length-values f n)

get_or-values : {A : Type 0} (f : ℕ → A) (n i : ℕ) (d : A) → i < n → get_or (values_below f n) i d ≡ f i
get_or-values f zero i d h = absurd (omega arith)
get_or-values f (suc n) i d h = elim (cases_lt i n) as (λ _. get_or (values_below f n ++ f n ∷ []) i d ≡ f i) [
  | inl l ↦ get_or_append_left (values_below f n) (f n ∷ []) d i (omega (arith, length-values f n)) ∙ get_or-values f n i d l
  | inr g ↦
      let e : i ≡ n = omega arith in
      get_or_push (values_below f n) (f n) d i (length-values f n ∙ sym e) ∙ ap f (sym e)
]

pub stored_goes : (keys : List (ℕ × ℕ)) (kinds : List ℕ) (cells : List (Option ℕ)) (r k : ℕ) → IsSome (step_of keys (get_or kinds r 0) k)
    → stored_at keys kinds cells r k ≡ get_or cells (place_of keys kinds r k) None
unfolding stored_at
stored_goes keys kinds cells r k h = rw h refl

pub stored_not : (keys : List (ℕ × ℕ)) (kinds : List ℕ) (cells : List (Option ℕ)) (r k : ℕ) → is_some (step_of keys (get_or kinds r 0) k) ≡ false
    → stored_at keys kinds cells r k ≡ None
unfolding stored_at
stored_not keys kinds cells r k h = rw h refl

module _ (e : ℕ) (keys : List (ℕ × ℕ)) (kinds : List ℕ) (alive : List Bool) (cells : List (Option ℕ)) where
  pub cell_stored : (r k : ℕ) → r < length kinds → cell_of (content e keys kinds alive cells) r k ≡ stored_at keys kinds cells r k
  unfolding cell_of cells_by_row
  cell_stored r k h = ap (λ row. get_or row k None) (get_or-values (λ n. values_below (stored_at keys kinds cells n) (length keys)) (length kinds) r [] h)
      ∙ ⊎_elim (λ l. get_or-values (stored_at keys kinds cells r) (length keys) k None l)
      (λ g. get_or_past (values_below (stored_at keys kinds cells r) (length keys)) k None (omega (arith, length-values (stored_at keys kinds cells r) (length keys)))
      ∙ sym (stored_not keys kinds cells r k (not_past keys (get_or kinds r 0) k g)))
      (cases_lt k (length keys))

  -- a row that was not made has no cells
  pub cell_unmade : (r k : ℕ) → length kinds ≤ r → cell_of (content e keys kinds alive cells) r k ≡ None
  unfolding cell_of cells_by_row
  cell_unmade r k h = ap (λ row. get_or row k None)
      (get_or_past (values_below (λ n. values_below (stored_at keys kinds cells n) (length keys)) (length kinds)) r []
      (omega (arith, length-values (λ n. values_below (stored_at keys kinds cells n) (length keys)) (length kinds))))

  pub cell_at : (r k : ℕ) → r < length kinds → IsSome (step_of keys (get_or kinds r 0) k) → cell_of (content e keys kinds alive cells) r k ≡ get_or cells (place_of keys kinds r k) None
  cell_at r k l h = cell_stored r k l ∙ stored_goes keys kinds cells r k h

  pub cell_not : (r k : ℕ) → is_some (step_of keys (get_or kinds r 0) k) ≡ false → cell_of (content e keys kinds alive cells) r k ≡ None
  cell_not r k h = ⊎_elim (λ l. cell_stored r k l ∙ stored_not keys kinds cells r k h) (cell_unmade r k) (cases_lt r (length kinds))

  -- where a filled cell stands
  pub record IsFilled (r k s : ℕ) : Type 0 where
    pub made : r < length kinds
    pub goes : IsSome (step_of keys (get_or kinds r 0) k)
    pub there : get_or cells (place_of keys kinds r k) None ≡ Some s

  pub filled : (r k s : ℕ) → cell_of (content e keys kinds alive cells) r k ≡ Some s → IsFilled r k s
  filled r k s h = elim (cases_lt r (length kinds)) as (λ _. IsFilled r k s) [
    | inl l ↦ elim (cases_Bool (is_some (step_of keys (get_or kinds r 0) k))) as (λ _. IsFilled r k s) [
      | inl g ↦ record { made = l; goes = g; there = sym (cell_at r k l g) ∙ h }
      | inr n ↦ absurd (none-some s (sym (cell_not r k n) ∙ h))
    ]
    | inr g ↦ absurd (none-some s (sym (cell_unmade r k g) ∙ h))
  ]
