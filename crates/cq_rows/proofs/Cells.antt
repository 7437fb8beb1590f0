-- Facts on rows and cells.
use Rattle.std.proofs.Common.{◌≡◌, ℕ, ◌+◌, ◌<◌, ◌≤◌, true, List, length, get_or, Some, None, refl, sym, ◌∙◌, ap, arith, ⊎_elim, ◌⊎◌, inl, inr}
use Rattle.std.proofs.lemmas.Bool.{cases_lt}
use Rattle.std.proofs.lemmas.List.{length-map}
use Rattle.std.proofs.lemmas.Option.{slice_get_past, none-some, same_Some, slice_get-map, slice_get_read, slice_get_within}
use Rattle.std.specs.Prelude.{slice_get, map, option_map}
use Rattle.cq_tables.specs.Content.{Content, keys_of, made_of, live_of, entity_of, cell_of, step_of, IsWhole}

step_past : (keys : List (ℕ × ℕ)) (e k : ℕ) → length keys ≤ k → step_of keys e k ≡ None
unfolding step_of
step_past keys e k h = rw (slice_get_past keys k h) refl

-- a filled cell is of a key
pub filled_below : (m : Content) (r k s : ℕ) → IsWhole m → cell_of m r k ≡ Some s → k < length (keys_of m)
filled_below m r k s w h =
    let held = w.held r k s (w.filled r k s h) h in
    ⊎_elim (λ p. p) (λ p. absurd (none-some (entity_of m s) (sym (step_past (keys_of m) (entity_of m r) k p) ∙ held.step))) (cases_lt k (length (keys_of m)))

-- a live row was made
pub live_made : (m : Content) (r : ℕ) → IsWhole m → live_of m r ≡ true → r < made_of m
live_made m r w h = w.made r h

-- an element of a list, and what a function makes of it
pub read_mapped : {A B : Type 0} (f : A → B) (xs : List A) (i : ℕ) (x : A) → i < length xs → x ≡ get_or xs i x → slice_get (map f xs) i ≡ Some (f x)
read_mapped f xs i x h e = slice_get-map f xs i ∙ ap (option_map f) (slice_get_read xs (length xs) i x refl h e)

pub found_mapped : {A B : Type 0} (f : A → B) (xs : List A) (i : ℕ) (x : A) (u : B) → i < length xs → x ≡ get_or xs i x → slice_get (map f xs) i ≡ Some u → u ≡ f x
found_mapped f xs i x u h e q = same_Some u (f x) (sym q ∙ read_mapped f xs i x h e)

pub found_at : {A B : Type 0} (f : A → B) (xs : List A) (i j : ℕ) (x : A) (u : B) → i < length xs → x ≡ get_or xs i x → j ≡ i → slice_get (map f xs) j ≡ Some u → u ≡ f x
found_at f xs i j x u h e q s = found_mapped f xs i x u h e (rw q at s)

pub below_or_at : (i n : ℕ) → i < n + 1 → (i < n) ⊎ (i ≡ n)
below_or_at i n h = ⊎_elim (λ l. inl l) (λ g. inr (omega arith)) (cases_lt i n)

pub mapped_within : {A B : Type 0} (f : A → B) (xs : List A) (i : ℕ) (u : B) → slice_get (map f xs) i ≡ Some u → i < length xs
mapped_within f xs i u h = rw length-map at (slice_get_within (map f xs) i u h)

-- the element of a list at an index
pub found_here : {A : Type 0} (xs : List A) (i j : ℕ) (x u : A) → i < length xs → x ≡ get_or xs i x → j ≡ i → slice_get xs j ≡ Some u → u ≡ x
found_here xs i j x u h e q s = same_Some u x (sym (rw q at s) ∙ slice_get_read xs (length xs) i x refl h e)
