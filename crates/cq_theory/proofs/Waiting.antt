-- A list that is read from its end, where what is read stands reversed: what an item more adds to what is made, and what
-- it leaves of the first fault.
use Rattle.std.proofs.Common.{ℕ, zero, suc, List, [], ◌∷◌, ◌++◌, Option, Some, None, ◌≡◌, ◌⊎◌, inl, inr, ◌<◌, ◌+◌, ◌-◌, map, take, length, get_or, refl, sym, ap, ◌∙◌, arith, append_assoc, append-nil}
use Rattle.std.specs.Prelude.{option_map, slice_get, reverse}
use Rattle.std.proofs.lemmas.List.{reverse-append, reverse-reverse, length-reverse, length-append}
use Rattle.std.proofs.lemmas.Option.{same_Some, slice_get_within, slice_get-get_or}
use Rattle.cq_theory.specs.declared.refusal.TermRefusal.{TermRefusal}
use Rattle.cq_theory.specs.declared.refusal.TheoryRefusal.{TheoryRefusal}
use Rattle.cq_theory.specs.declared.refusal.TheoryRefusal.TheVariants.{Memory}
use Rattle.cq_theory.specs.Resolve.{or_else, first_fault, in_part}

last_at : {A : Type 0} (xs : List A) (n : ℕ) (x : A) → slice_get xs n ≡ Some x → length xs ≡ suc n → xs ≡ take n xs ++ x ∷ []
last_at [] n x h long = absurd (omega arith)
last_at (y ∷ []) zero x h long = ap (λ z. z ∷ []) (same_Some y x h)
last_at (y ∷ z ∷ zs) zero x h long = absurd (omega arith)
last_at (y ∷ ys) (suc n) x h long = ap (λ l. y ∷ l) (last_at ys n x h (omega arith))

last_first : {A : Type 0} (xs : List A) (x : A) → slice_get xs (length xs - 1) ≡ Some x → xs ≡ take (length xs - 1) xs ++ x ∷ []
last_first xs x h =
    let within : length xs - 1 < length xs = slice_get_within xs (length xs - 1) x h in
    last_at xs (length xs - 1) x h (omega arith)

last_reversed : {A : Type 0} (xs : List A) (x : A) → slice_get xs (length xs - 1) ≡ Some x → reverse xs ≡ x ∷ reverse (take (length xs - 1) xs)
last_reversed xs x h = ap reverse (last_first xs x h) ∙ reverse-append (take (length xs - 1) xs) (x ∷ [])

none_left : {A : Type 0} (xs : List A) → slice_get xs (length xs - 1) ≡ None → xs ≡ []
none_left [] h = refl
none_left (y ∷ ys) h =
    let there : slice_get (y ∷ ys) (length (y ∷ ys) - 1) ≡ Some (get_or (y ∷ ys) (length (y ∷ ys) - 1) y) = slice_get-get_or (y ∷ ys) (length (y ∷ ys) - 1) y (omega arith) in
    cc (there, h)

pub some_left : {A : Type 0} (xs : List A) (x : A) → slice_get xs (length xs - 1) ≡ Some x → 0 < length xs
some_left xs x h = let within : length xs - 1 < length xs = slice_get_within xs (length xs - 1) x h in omega arith

-- one item fewer waits
pub one_fewer : {A : Type 0} (xs rest : List A) (x : A) → slice_get xs (length xs - 1) ≡ Some x → rest ≡ take (length xs - 1) xs → length xs ≡ length rest + 1
one_fewer xs rest x last taken =
    ap length (last_first xs x last) ∙ length-append (take (length xs - 1) xs) (x ∷ []) ∙ ap (λ l. length l + 1) (sym taken)

module _ {X Y : Type 0} (fault : X → Option TermRefusal) (f : X → Y) (xs : List X) (first : ℕ) where
  pub waiting_begins : (waiting : List X) (made : List Y) → waiting ≡ reverse xs → made ≡ []
      → (first + length waiting ≡ first + length xs) × (first_fault fault first (reverse waiting) ≡ first_fault fault first xs) × (made ++ map f (reverse waiting) ≡ map f xs)
  waiting_begins waiting made turned empty =
      let same : reverse waiting ≡ xs = ap reverse turned ∙ reverse-reverse xs in (
        ap (λ l. first + length l) turned ∙ ap (λ n. first + n) (length-reverse xs),
        ap (first_fault fault first) same,
        ap (λ l. l ++ map f (reverse waiting)) empty ∙ ap (map f) same,
      )

  pub waiting_step : (part : ℕ) (waiting rest : List X) (made more : List Y) (x : X) (y : Y)
      → slice_get waiting (length waiting - 1) ≡ Some x → rest ≡ take (length waiting - 1) waiting → fault x ≡ None → y ≡ f x → more ≡ made ++ y ∷ []
      → part + length waiting ≡ first + length xs → first_fault fault part (reverse waiting) ≡ first_fault fault first xs → made ++ map f (reverse waiting) ≡ map f xs
      → ((part + 1) + length rest ≡ first + length xs) × (first_fault fault (part + 1) (reverse rest) ≡ first_fault fault first xs) × (more ++ map f (reverse rest) ≡ map f xs)
  waiting_step part waiting rest made more x y last taken passed one now count left so_far =
      let turned : reverse waiting ≡ x ∷ reverse rest = last_reversed waiting x last ∙ ap (λ l. x ∷ reverse l) (sym taken) in
      let long : length waiting ≡ length rest + 1 = one_fewer waiting rest x last taken in (
        omega (arith, long, count),
        sym (ap (λ o. or_else (option_map (in_part part) o) (first_fault fault (part + 1) (reverse rest))) passed)
            ∙ sym (ap (first_fault fault part) turned) ∙ left,
        ap (λ l. l ++ map f (reverse rest)) (now ∙ ap (λ z. made ++ z ∷ []) one) ∙ append_assoc made (f x ∷ []) (map f (reverse rest))
            ∙ ap (λ l. made ++ map f l) (sym turned) ∙ so_far,
      )

  pub waiting_refused : (part : ℕ) (waiting : List X) (x : X) (r : TheoryRefusal) → slice_get waiting (length waiting - 1) ≡ Some x
      → first_fault fault part (reverse waiting) ≡ first_fault fault first xs
      → (r ≡ Memory) ⊎ (option_map (in_part part) (fault x) ≡ Some r) → (r ≡ Memory) ⊎ (first_fault fault first xs ≡ Some r)
  waiting_refused part waiting x r last left (inl h) = inl h
  waiting_refused part waiting x r last left (inr h) = inr (sym left ∙ ap (first_fault fault part) (last_reversed waiting x last)
      ∙ ap (λ o. or_else o (first_fault fault (part + 1) (reverse (take (length waiting - 1) waiting)))) h)

  pub waiting_ends : (part : ℕ) (waiting : List X) (made : List Y) → slice_get waiting (length waiting - 1) ≡ None
      → first_fault fault part (reverse waiting) ≡ first_fault fault first xs → made ++ map f (reverse waiting) ≡ map f xs
      → (first_fault fault first xs ≡ None) × (made ≡ map f xs)
  waiting_ends part waiting made none left so_far =
      let empty : waiting ≡ [] = none_left waiting none in (
        sym left ∙ ap (λ l. first_fault fault part (reverse l)) empty,
        sym (append-nil made) ∙ sym (ap (λ l. made ++ map f (reverse l)) empty) ∙ so_far,
      )
