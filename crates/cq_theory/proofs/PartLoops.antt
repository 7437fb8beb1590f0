-- Loops over parts: what a part adds to the lists that the earlier ones made, and what it leaves of the first fault.
use Rattle.std.proofs.Common.{ℕ, List, [], ◌∷◌, ◌++◌, Option, Some, None, ◌≡◌, ◌⊎◌, inl, inr, ◌<◌, ◌≤◌, ◌+◌, map, take, drop, length, get_or, sym, ap, ◌∙◌}
use Rattle.std.specs.Prelude.{option_map}
use Rattle.std.proofs.lemmas.List.{take_more, take_all, at_drop_more, at_drop_all, map-append}
use Rattle.cq_base.specs.declared.name.Name.{Name}
use Rattle.cq_theory.specs.declared.refusal.TermRefusal.{TermRefusal}
use Rattle.cq_theory.specs.declared.refusal.TheoryRefusal.{TheoryRefusal}
use Rattle.cq_theory.specs.declared.refusal.TheoryRefusal.TheVariants.{Memory}
use Rattle.cq_theory.specs.Resolve.{or_else, first_fault, in_part}
use Rattle.cq_theory.specs.Declaring.{first_part_fault}

module _ {X Y : Type 0} (f : X → Y) (xs : List X) (i : ℕ) where
  pub map_more : (x : X) (before after : List Y) (y : Y) → i < length xs → x ≡ get_or xs i x → before ≡ map f (take i xs) → y ≡ f x → after ≡ before ++ y ∷ [] → after ≡ map f (take (i + 1) xs)
  map_more x before after y within is so_far one now =
      now ∙ ap (λ l. l ++ y ∷ []) so_far ∙ ap (λ z. map f (take i xs) ++ z ∷ []) (one ∙ ap f is)
      ∙ sym (map-append f (take i xs) (get_or xs i x ∷ [])) ∙ sym (ap (map f) (take_more xs i x within))

  pub map_whole : (made : List Y) → length xs ≤ i → made ≡ map f (take i xs) → made ≡ map f xs
  map_whole made end so_far = so_far ∙ ap (map f) (take_all i xs end)

module _ {X : Type 0} (name : X → Name) (fault : List Name → ℕ → X → Option TheoryRefusal) (xs : List X) (i : ℕ) (earlier : List Name) (n : ℕ) (whole : Option TheoryRefusal) where
  part_step : (x : X) → i < length xs → x ≡ get_or xs i x
      → first_part_fault name fault earlier n (drop i xs) ≡ or_else (fault earlier n x) (first_part_fault name fault (earlier ++ name x ∷ []) (n + 1) (drop (i + 1) xs))
  part_step x within is = at_drop_more (first_part_fault name fault earlier n) xs i x within
      ∙ ap (λ p. or_else (fault earlier n p) (first_part_fault name fault (earlier ++ name p ∷ []) (n + 1) (drop (i + 1) xs))) (sym is)

  pub part_passed : (x : X) (after : List Name) → i < length xs → x ≡ get_or xs i x → after ≡ earlier ++ name x ∷ [] → fault earlier n x ≡ None
      → first_part_fault name fault earlier n (drop i xs) ≡ whole → first_part_fault name fault after (n + 1) (drop (i + 1) xs) ≡ whole
  part_passed x after within is now passed so_far =
      ap (λ l. first_part_fault name fault l (n + 1) (drop (i + 1) xs)) now
      ∙ sym (ap (λ o. or_else o (first_part_fault name fault (earlier ++ name x ∷ []) (n + 1) (drop (i + 1) xs))) passed)
      ∙ sym (part_step x within is) ∙ so_far

  pub part_refused : (x : X) (r : TheoryRefusal) → i < length xs → x ≡ get_or xs i x → first_part_fault name fault earlier n (drop i xs) ≡ whole
      → (r ≡ Memory) ⊎ (fault earlier n x ≡ Some r) → (r ≡ Memory) ⊎ (whole ≡ Some r)
  part_refused x r within is so_far (inl h) = inl h
  part_refused x r within is so_far (inr h) = inr (sym so_far ∙ part_step x within is
      ∙ ap (λ o. or_else o (first_part_fault name fault (earlier ++ name x ∷ []) (n + 1) (drop (i + 1) xs))) h)

  pub parts_passed : length xs ≤ i → first_part_fault name fault earlier n (drop i xs) ≡ whole → whole ≡ None
  parts_passed end so_far = sym so_far ∙ at_drop_all (first_part_fault name fault earlier n) xs i end

module _ {X : Type 0} (fault : X → Option TermRefusal) (xs : List X) (i : ℕ) (n : ℕ) (whole : Option TheoryRefusal) where
  fault_step : (x : X) → i < length xs → x ≡ get_or xs i x
      → first_fault fault n (drop i xs) ≡ or_else (option_map (in_part n) (fault x)) (first_fault fault (n + 1) (drop (i + 1) xs))
  fault_step x within is = at_drop_more (first_fault fault n) xs i x within
      ∙ ap (λ p. or_else (option_map (in_part n) (fault p)) (first_fault fault (n + 1) (drop (i + 1) xs))) (sym is)

  pub term_passed : (x : X) → i < length xs → x ≡ get_or xs i x → fault x ≡ None
      → first_fault fault n (drop i xs) ≡ whole → first_fault fault (n + 1) (drop (i + 1) xs) ≡ whole
  term_passed x within is passed so_far =
      sym (ap (λ o. or_else (option_map (in_part n) o) (first_fault fault (n + 1) (drop (i + 1) xs))) passed)
      ∙ sym (fault_step x within is) ∙ so_far

  pub term_refused : (x : X) (r : TheoryRefusal) → i < length xs → x ≡ get_or xs i x → first_fault fault n (drop i xs) ≡ whole
      → (r ≡ Memory) ⊎ (option_map (in_part n) (fault x) ≡ Some r) → (r ≡ Memory) ⊎ (whole ≡ Some r)
  term_refused x r within is so_far (inl h) = inl h
  term_refused x r within is so_far (inr h) = inr (sym so_far ∙ fault_step x within is
      ∙ ap (λ o. or_else o (first_fault fault (n + 1) (drop (i + 1) xs))) h)

  pub terms_passed : length xs ≤ i → first_fault fault n (drop i xs) ≡ whole → whole ≡ None
  terms_passed end so_far = sym so_far ∙ at_drop_all (first_fault fault n) xs i end
