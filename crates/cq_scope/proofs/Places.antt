-- Places in lists that get one member more.
use Rattle.std.proofs.Common.{ℕ, zero, suc, Bool, true, false, List, [], ◌∷◌, ◌++◌, Option, Some, None, ◌≡◌, ◌<◌, ◌≤◌, ◌⊎◌, inl, inr, length, refl, sym, ap, ◌∙◌, arith}
use Rattle.std.specs.Prelude.{slice_get, cond, option_map, position}
use Rattle.cq_base.proofs.Numbers.{position-cons}

module _ {X : Type 0} where
  -- a member that is there stays in its place
  pub get_left : (xs : List X) (y : X) (n : ℕ) (x : X) → slice_get xs n ≡ Some x → slice_get (xs ++ y ∷ []) n ≡ Some x
  get_left [] y n x h = cc
  get_left (z ∷ xs) y zero x h = h
  get_left (z ∷ xs) y (suc n) x h = get_left xs y n x h

  -- and the new one stands last
  pub get_last : (xs : List X) (y : X) (n : ℕ) → n ≡ length xs → slice_get (xs ++ y ∷ []) n ≡ Some y
  get_last [] y zero h = refl
  get_last [] y (suc n) h = absurd (omega arith)
  get_last (z ∷ xs) y zero h = absurd (omega arith)
  get_last (z ∷ xs) y (suc n) h = get_last xs y n (omega (arith, h))

  -- there are no others
  pub get_either : (xs : List X) (y : X) (n : ℕ) (x : X) → slice_get (xs ++ y ∷ []) n ≡ Some x → (slice_get xs n ≡ Some x) ⊎ ((n ≡ length xs) × (y ≡ x))
  get_either [] y zero x h = inr (refl, (let same : y ≡ x = cc in same))
  get_either [] y (suc n) x h = cc
  get_either (z ∷ xs) y zero x h = inl h
  get_either (z ∷ xs) y (suc n) x h =
      elim (get_either xs y n x h) [ inl left ↦ inl left | inr last ↦ inr (ap suc last.0, last.1) ]

  -- what is within a list is there
  pub get_some : (xs : List X) (n : ℕ) → n < length xs → (x : X) × (slice_get xs n ≡ Some x)
  get_some [] n h = absurd (omega arith)
  get_some (z ∷ xs) zero h = (z, refl)
  get_some (z ∷ xs) (suc n) h = get_some xs n (omega (arith, h))

  module _ (p : X → Bool) where
    kept_at : (b : Bool) (o o' : Option ℕ) (n : ℕ) → ((m : ℕ) → o ≡ Some m → o' ≡ Some m) → cond b (Some 0) (option_map suc o) ≡ Some n → cond b (Some 0) (option_map suc o') ≡ Some n
    kept_at true o o' n kept h = h
    kept_at false None o' n kept h = cc
    kept_at false (Some m) o' n kept h = ap (option_map suc) (kept m refl) ∙ h

    -- the first place of a member that passes stays
    pub position_left : (xs : List X) (y : X) (n : ℕ) → position p xs ≡ Some n → position p (xs ++ y ∷ []) ≡ Some n
    position_left [] y n h = cc
    position_left (x ∷ xs) y n h =
        position-cons p x (xs ++ y ∷ [])
        ∙ kept_at (p x) (position p xs) (position p (xs ++ y ∷ [])) n (λ m at. position_left xs y m at) (sym (position-cons p x xs) ∙ h)

    none_at : (b : Bool) (o : Option ℕ) → cond b (Some 0) (option_map suc o) ≡ None → (b ≡ false) × (o ≡ None)
    none_at true o h = cc
    none_at false None h = (refl, refl)
    none_at false (Some n) h = cc

    one_later : (b : Bool) (n : ℕ) → option_map suc (cond b (Some n) None) ≡ cond b (Some (suc n)) None
    one_later true n = refl
    one_later false n = refl

    alone_at : (b : Bool) → cond b (Some 0) (option_map suc None) ≡ cond b (Some 0) None
    alone_at true = refl
    alone_at false = refl

    -- where none passed, the new one is the first that may
    pub position_last : (xs : List X) (y : X) → position p xs ≡ None → position p (xs ++ y ∷ []) ≡ cond (p y) (Some (length xs)) None
    position_last [] y h = position-cons p y [] ∙ alone_at (p y)
    position_last (x ∷ xs) y h =
        let both = none_at (p x) (position p xs) (sym (position-cons p x xs) ∙ h) in
        position-cons p x (xs ++ y ∷ []) ∙ ap (λ b. cond b (Some 0) (option_map suc (position p (xs ++ y ∷ [])))) both.0
        ∙ ap (option_map suc) (position_last xs y both.1) ∙ one_later (p y) (length xs)
