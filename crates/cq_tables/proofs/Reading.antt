-- How rows and cells are read.
use Rattle.std.proofs.Common.{refl, ◌≡◌, ◌≢◌, ℕ, ◌+◌, ◌<◌, ◌≤◌, ◌⊎◌, Bool, true, List, length, get_or, Option, Some, None, IsSome, IfSome, sym, ◌∙◌, ap, arith}
use Rattle.std.proofs.lemmas.Bool.{eq-eqb}
use Rattle.std.proofs.lemmas.Option.{slice_get-get_or}
use Rattle.cq_tables.specs.Content.{keys_of, made_of, live_of, entity_of, entities_of, cell_of, step_of, IsHeld, IsWhole}
use Rattle.cq_tables.specs.Places.{rank_of, width_of, place_of}
use Rattle.cq_tables.specs.Tables.{content, IsLaid}
use Rattle.cq_tables.proofs.Placing.{place_in, place_is, start_next, rows_apart}
use Rattle.cq_tables.proofs.Stored.{cell_at}

module _ (e : ℕ) (keys : List (ℕ × ℕ)) (kinds : List ℕ) (alive : List Bool) (starts : List ℕ) (cells : List (Option ℕ)) (counts : List ℕ)
    (laid : IsLaid keys kinds alive starts cells counts) where
  -- a live row was made
  pub live_made : (r : ℕ) → IsWhole (content e keys kinds alive cells) → live_of (content e keys kinds alive cells) r ≡ true → r < length kinds
  unfolding made_of
  live_made r w h = w.made r h

  pub kind_in : (r kind : ℕ) → IsWhole (content e keys kinds alive cells) → r < length kinds → kind ≡ get_or kinds r 0 → kind < e
  unfolding made_of entity_of entities_of
  kind_in r kind w h q = rw q (w.kind r h)

  -- where the cell of a row at a key is read
  pub record IsPlace (r k place : ℕ) : Type 0 where
    pub is : place ≡ place_of keys kinds r k
    pub below : place < length cells

  pub place_read : (r k start slot : ℕ) → r < made_of (content e keys kinds alive cells) → IsSome (step_of (keys_of (content e keys kinds alive cells)) (entity_of (content e keys kinds alive cells) r) k)
      → start ≡ get_or starts r 0 → ((x : ℕ) → IsSome (step_of keys x k) → slot ≡ rank_of keys x k) → IsPlace r k (start + slot)
  unfolding made_of keys_of entity_of
  place_read r k start slot h goes at ranked =
      let sum : start + slot ≡ place_of keys kinds r k = rw (at, laid.begins r h, ranked (get_or kinds r 0) goes) (sym (place_is keys kinds r k)) in
      record { is = sum; below = rw sum (omega (arith, laid.all, place_in keys kinds r k (length kinds) h goes)) }

  pub place_as : (r k place : ℕ) → r < length kinds → IsSome (step_of (keys_of (content e keys kinds alive cells)) (entity_of (content e keys kinds alive cells) r) k)
      → place ≡ place_of keys kinds r k → IsPlace r k place
  unfolding keys_of entity_of
  place_as r k place h goes is = record { is = is; below = rw is (omega (arith, laid.all, place_in keys kinds r k (length kinds) h goes)) }

  pub cell_read : (r k place : ℕ) (o : Option ℕ) → r < length kinds → IsSome (step_of (keys_of (content e keys kinds alive cells)) (entity_of (content e keys kinds alive cells) r) k)
      → IsPlace r k place → o ≡ get_or cells place None → o ≡ cell_of (content e keys kinds alive cells) r k
  unfolding keys_of entity_of
  cell_read r k place o h goes p read = read ∙ ap (λ x. get_or cells x None) p.is ∙ sym (cell_at e keys kinds alive cells r k h goes)

  held_if : (r k : ℕ) (o : Option ℕ) → IsWhole (content e keys kinds alive cells) → live_of (content e keys kinds alive cells) r ≡ true → cell_of (content e keys kinds alive cells) r k ≡ o → IfSome o (IsHeld (content e keys kinds alive cells) r k)
  held_if r k None w l h = tt
  held_if r k (Some s) w l h = w.held r k s l h

  pub held_read : (r k : ℕ) (o : Option ℕ) → IsWhole (content e keys kinds alive cells) → live_of (content e keys kinds alive cells) r ≡ true → o ≡ cell_of (content e keys kinds alive cells) r k → IfSome o (IsHeld (content e keys kinds alive cells) r k)
  held_read r k o w l h = held_if r k o w l (sym h)

  -- the cells of a row are among all
  pub start_in : (r start width : ℕ) → r < length kinds → start ≡ get_or starts r 0 → width ≡ width_of keys (get_or kinds r 0) → start + width ≤ length cells
  start_in r start width h at wide = rw (at, laid.begins r h, wide) (omega (arith, laid.all, start_next keys kinds r (length kinds) h))

  pub starts_apart : (r t into out width : ℕ) → r ≢ t → r < length kinds → t < length kinds → get_or kinds r 0 ≡ get_or kinds t 0 → into ≡ get_or starts r 0 → out ≡ get_or starts t 0
      → width ≡ width_of keys (get_or kinds r 0) → (into + width ≤ out) ⊎ (out + width ≤ into)
  starts_apart r t into out width n hr ht same ai ao wide = rw (ai, ao, laid.begins r hr, laid.begins t ht, wide) (rw (← same) at (rows_apart keys kinds r t n))

-- a key that is given by the entities between which it goes
pub step_given : (keys : List (ℕ × ℕ)) (k e : ℕ) → k < length keys → (get_or keys k (0, 0)).0 ≡ e → step_of keys e k ≡ Some (get_or keys k (0, 0)).1
unfolding step_of
step_given keys k e h q = rw (slice_get-get_or keys k (0, 0) h, eq-eqb (get_or keys k (0, 0)).0 e q) refl
