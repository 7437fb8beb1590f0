-- Terms of nulls as they are learned, term by term.
use Rattle.std.proofs.Common.{ℕ, zero, suc, Bool, true, false, cond, List, [], ◌∷◌, ◌++◌, Option, Some, None, ◌≡◌, ◌<◌, ◌+◌, ◌==◌, map, take, length, get_or, slice_set, find, refl, sym, ap, ◌∙◌, arith, eq-eqb}
use Rattle.std.specs.Prelude.{slice_get, if◌then◌else◌}
use Rattle.std.specs.Option.{unwrap_or}
use Rattle.std.specs.List.{range_with_len, flat_map, enumerate_from}
use Rattle.std.proofs.lemmas.Bool.{ne_eqb, eqb-true}
use Rattle.std.proofs.lemmas.List.{append-nil, take_more}
use Rattle.std.proofs.lemmas.List.Sums.{fold-append}
use Rattle.std.proofs.lemmas.Grind.{flat_map-append}
use Rattle.cq_theory.specs.Canonical.{below}
use Rattle.cq_theory.specs.Resolve.{or_else}
use Rattle.cq_theory.specs.declared.constant.Con.TheVariants.{Named}
use Rattle.cq_theory.specs.declared.term.TypeTerm.{TypeTerm}
use Rattle.cq_theory.specs.declared.term.TypeTerm.TheVariants as term
use Rattle.cq_theory.specs.declared.value.Value.{Value}
use Rattle.cq_theory.specs.declared.value.Value.TheVariants.{Const, Null}
use Rattle.cq_theory.specs.Tables.{value_of}
use Rattle.cq_instance.specs.InstanceData.{InstanceData}
use Rattle.cq_instance.specs.Spelling.{is_null, means_null}
use Rattle.cq_instance.specs.Learning.{is_open, lacks, learned_of, learned, seen, learned_from}
use Rattle.cq_instance.proofs.Lists.{map-map}
use Rattle.cq_instance.proofs.Pushed.{below_more}

or_none : {X : Type 0} (x : Option X) → or_else x None ≡ x
or_none None = refl
or_none (Some x) = refl

-- a value that is no null teaches nothing
unmoved_from : (v : Value) (t : TypeTerm) → ((label : ℕ) → is_null label v ≡ false) → (s : ℕ) (known : List (Option TypeTerm)) → map (learned_of v t) (enumerate_from s known) ≡ known
unmoved_from v t none s [] = refl
unmoved_from v t none s (x ∷ known) =
    let first : learned_of v t (s, x) ≡ x = ap (λ (b : Bool). or_else x (if b then Some t else None)) (none s) ∙ or_none x in
    let rest : map (learned_of v t) (enumerate_from (s + 1) known) ≡ known = unmoved_from v t none (s + 1) known in
    λ j. first j ∷ rest j

pub unmoved : (v : Value) (t : TypeTerm) (known : List (Option TypeTerm)) → ((label : ℕ) → is_null label v ≡ false) → learned v t known ≡ known
unmoved v t known none = unmoved_from v t none 0 known

module _ (n : ℕ) (t : TypeTerm) where
  abbrev Settled : ℕ → List (Option TypeTerm) → Type 0
  Settled s known = (k : ℕ) → s + k ≡ n → slice_get known k ≡ Some None → ⊥

  settled_one : (s : ℕ) (x : Option TypeTerm) → ((s ≡ n) → x ≡ None → ⊥) → (b : Bool) → (n == s) ≡ b → or_else x (if b then Some t else None) ≡ x
  settled_one s (Some u) h b e = refl
  settled_one s None h true e = absurd (h (sym (eqb-true n s e)) refl)
  settled_one s None h false e = refl

  -- a null with a term, or with no place, keeps it
  settled_from : (s : ℕ) (known : List (Option TypeTerm)) → Settled s known → map (learned_of (Null n) t) (enumerate_from s known) ≡ known
  settled_from s [] h = refl
  settled_from s (x ∷ known) h =
      let start : s + 0 ≡ s = omega arith in
      let first : learned_of (Null n) t (s, x) ≡ x =
      settled_one s x (λ same none. h 0 (start ∙ same) (ap (λ y. Some y) none)) (n == s) refl in
      let rest : map (learned_of (Null n) t) (enumerate_from (s + 1) known) ≡ known =
      settled_from (s + 1) known (λ k at none. let there : s + suc k ≡ n = omega (arith, at) in h (suc k) there none) in
      λ j. first j ∷ rest j

  pub settled : (known : List (Option TypeTerm)) → (slice_get known n ≡ Some None → ⊥) → learned (Null n) t known ≡ known
  settled known h = settled_from 0 known (λ k at none. let here : k ≡ n = omega (arith, at) in h (ap (slice_get known) (sym here) ∙ none))

  placed_from : (s k : ℕ) (known : List (Option TypeTerm)) → s + k ≡ n → slice_get known k ≡ Some None → map (learned_of (Null n) t) (enumerate_from s known) ≡ slice_set known k (Some t)
  placed_from s k [] at h = cc
  placed_from s zero (x ∷ known) at h =
      let here : n ≡ s = omega (arith, at) in
      let none : x ≡ None = cc in
      let first : learned_of (Null n) t (s, x) ≡ Some t = (λ j. or_else (none j) (if eq-eqb n s here j then Some t else None)) in
      let rest : map (learned_of (Null n) t) (enumerate_from (s + 1) known) ≡ known =
      settled_from (s + 1) known (λ m there _. absurd (omega (arith, at, there))) in
      λ j. first j ∷ rest j
  placed_from s (suc k) (x ∷ known) at h =
      let other : (n == s) ≡ false = ne_eqb n s (λ same. omega (arith, at, same)) in
      let first : learned_of (Null n) t (s, x) ≡ x = ap (λ (b : Bool). or_else x (if b then Some t else None)) other ∙ or_none x in
      let next : s + 1 + k ≡ n = omega (arith, at) in
      let rest = placed_from (s + 1) k known next h in
      λ j. first j ∷ rest j

  -- a null without a term gets this one
  pub placed : (known : List (Option TypeTerm)) → slice_get known n ≡ Some None → learned (Null n) t known ≡ slice_set known n (Some t)
  placed known h = let start : 0 + n ≡ n = omega arith in placed_from 0 n known start h

-- what is no null without a term teaches nothing
pub not_lacking : (v : Value) (t : TypeTerm) (known : List (Option TypeTerm)) → lacks known v ≡ false → learned v t known ≡ known
not_lacking (Const c) t known h = unmoved (Const c) t known (λ label. refl)
not_lacking (Null n) t known h = settled n t known (λ none. let clash : true ≡ false = sym (ap is_open none) ∙ h in cc)
not_lacking v t known h = unmoved v t known (λ label. refl)

open_is : (o : Option (Option TypeTerm)) → is_open o ≡ true → o ≡ Some None
open_is None h = cc
open_is (Some None) h = refl
open_is (Some (Some t)) h = cc

-- a null without a term
pub lacking : (known : List (Option TypeTerm)) (v : Value) (n : ℕ) → v ≡ Null n → lacks known v ≡ true → slice_get known n ≡ Some None
lacking known v n is h = open_is (slice_get known n) (sym (ap (lacks known) is) ∙ h)

-- only a null lacks a term
pub lacks_null : (known : List (Option TypeTerm)) (v : Value) → lacks known v ≡ true → ((n : ℕ) → v ≡ Null n → ⊥) → ⊥
lacks_null known (Const c) h other = cc
lacks_null known (Null n) h other = other n refl
lacks_null known _ h other = cc

-- members that are mapped and numbered again
enumerated_again : {X Y : Type 0} (f : ℕ × X → Y) (s : ℕ) (xs : List X) → enumerate_from s (map f (enumerate_from s xs)) ≡ map (λ (k : ℕ × X). (k.0, f k)) (enumerate_from s xs)
enumerated_again f s [] = refl
enumerated_again f s (x ∷ xs) = ap (λ l. (s, f (s, x)) ∷ l) (enumerated_again f (s + 1) xs)

module _ (i : InstanceData) where
  abbrev known_for : List TypeTerm → ℕ × Option TypeTerm → Option TypeTerm
  known_for terms k = or_else k.1 (find (means_null i k.0) terms)

  first_of : (b : Bool) (t : TypeTerm) (x rest : Option TypeTerm) → or_else (or_else x (if b then Some t else None)) rest ≡ or_else x (cond b (Some t) rest)
  first_of b t (Some u) rest = refl
  first_of true t None rest = refl
  first_of false t None rest = refl

  own : (s : ℕ) (known : List (Option TypeTerm)) → known ≡ map (known_for []) (enumerate_from s known)
  own s [] = refl
  own s (x ∷ known) =
      let first : x ≡ or_else x None = sym (or_none x) in
      let rest : known ≡ map (known_for []) (enumerate_from (s + 1) known) = own (s + 1) known in
      λ j. first j ∷ rest j

  -- what is known in the end is what was known, or the first term that means the null
  learned_all : (terms : List TypeTerm) (known : List (Option TypeTerm)) → learned_from i known terms ≡ map (known_for terms) (enumerate_from 0 known)
  learned_all [] known = own 0 known
  learned_all (t ∷ terms) known =
      let v : Value = value_of i.tables i.assignment t in
      learned_all terms (learned v t known)
      ∙ ap (map (known_for terms)) (enumerated_again (learned_of v t) 0 known)
      ∙ map-map (known_for terms) (λ (k : ℕ × Option TypeTerm). (k.0, learned_of v t k)) (enumerate_from 0 known)
      ∙ (λ j. map (λ (k : ℕ × Option TypeTerm). first_of (is_null k.0 v) t k.1 (find (means_null i k.0) terms) j) (enumerate_from 0 known))

  nothing_numbered : (s n : ℕ) → enumerate_from s (map (λ (_ : ℕ). let none : Option TypeTerm = None in none) (range_with_len s n)) ≡ map (λ k. (k, None)) (range_with_len s n)
  nothing_numbered s zero = refl
  nothing_numbered s (suc n) = ap (λ l. (s, None) ∷ l) (nothing_numbered (s + 1) n)

  abbrev or_constant : Option TypeTerm → TypeTerm
  or_constant o = unwrap_or o (term.Const (Named 0))

  -- from nothing, the first of the terms that mean each null are learned
  pub first_terms : (terms : List TypeTerm) (n : ℕ) (known : List (Option TypeTerm)) → known ≡ learned_from i (map (λ _. None) (below n)) terms
      → map or_constant known ≡ map (λ label. or_constant (find (means_null i label) terms)) (below n)
  first_terms terms n known are =
      ap (map or_constant) (are ∙ learned_all terms (map (λ _. None) (below n)) ∙ ap (map (known_for terms)) (nothing_numbered 0 n)
      ∙ map-map (known_for terms) (λ k. (k, None)) (below n))
      ∙ map-map or_constant (λ k. known_for terms (k, None)) (below n)

  -- a loop over a list, one member on
  pub learned_more : {X : Type 0} (f : X → List TypeTerm) (xs : List X) (n : ℕ) (x : X) (start now next : List (Option TypeTerm)) → n < length xs → x ≡ get_or xs n x
      → now ≡ learned_from i start (flat_map f (take n xs)) → next ≡ learned_from i now (f x) → next ≡ learned_from i start (flat_map f (take (n + 1) xs))
  learned_more f xs n x start now next within is before here =
      let longer : take (n + 1) xs ≡ take n xs ++ x ∷ [] = take_more xs n x within ∙ ap (λ y. take n xs ++ y ∷ []) (sym is) in
      let last : flat_map f (take (n + 1) xs) ≡ flat_map f (take n xs) ++ f x =
      ap (flat_map f) longer ∙ flat_map-append f (take n xs) (x ∷ []) ∙ ap (λ l. flat_map f (take n xs) ++ l) (append-nil (f x)) in
      here ∙ ap (λ k. learned_from i k (f x)) before ∙ sym (fold-append (seen i) start (flat_map f (take n xs)) (f x)) ∙ ap (learned_from i start) (sym last)

  -- a loop over the numbers below a count, one number on
  pub learned_below : (f : ℕ → List TypeTerm) (n : ℕ) (start now next : List (Option TypeTerm))
      → now ≡ learned_from i start (flat_map f (below n)) → next ≡ learned_from i now (f n) → next ≡ learned_from i start (flat_map f (below (n + 1)))
  learned_below f n start now next before here =
      let last : flat_map f (below (n + 1)) ≡ flat_map f (below n) ++ f n =
      ap (flat_map f) (below_more n) ∙ flat_map-append f (below n) (n ∷ []) ∙ ap (λ l. flat_map f (below n) ++ l) (append-nil (f n)) in
      here ∙ ap (λ k. learned_from i k (f n)) before ∙ sym (fold-append (seen i) start (flat_map f (below n)) (f n)) ∙ ap (learned_from i start) (sym last)

  -- one list of terms after another
  pub learned_then : (start now next : List (Option TypeTerm)) (first second : List TypeTerm) → now ≡ learned_from i start first → next ≡ learned_from i now second → next ≡ learned_from i start (first ++ second)
  learned_then start now next first second before here = here ∙ ap (λ k. learned_from i k second) before ∙ sym (fold-append (seen i) start first second)
