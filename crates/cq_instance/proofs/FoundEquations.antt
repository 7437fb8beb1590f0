-- The observation equations of an entity, found by their numbers.
use Rattle.std.proofs.Common.{ℕ, suc, Bool, true, false, cond, List, [], ◌∷◌, ◌++◌, Option, Some, None, ◌≡◌, ◌<◌, ◌+◌, ◌==◌, length, take, get_or, refl, sym, ap, ◌∙◌, arith}
use Rattle.std.specs.Prelude.{filter, slice_get}
use Rattle.std.specs.List.{flat_map}
use Rattle.std.proofs.lemmas.List.{append-nil, take_more}
use Rattle.std.proofs.lemmas.List.Concat.{flat_map-append}
use Rattle.cq_theory.specs.declared.schema.ObsEq.{ObsEq}
use Rattle.cq_theory.specs.Groups.{positions_from, positions, obs_eq_sources}

-- what stands at a number
abbrev pub listed : {X : Type 0} → Option X → List X
listed None = []
listed (Some x) = x ∷ []

-- what stands at some numbers
abbrev pub found_at : {X : Type 0} → List X → List ℕ → List X
found_at xs numbers = flat_map (λ n. listed (slice_get xs n)) numbers

-- one number more
pub found_more : {X : Type 0} (xs : List X) (numbers : List ℕ) (i n : ℕ) (x : X) → i < length numbers → n ≡ get_or numbers i 0 → slice_get xs n ≡ Some x
    → found_at xs (take (i + 1) numbers) ≡ found_at xs (take i numbers) ++ x ∷ []
found_more xs numbers i n x inside is at =
    let longer : take (i + 1) numbers ≡ take i numbers ++ n ∷ [] = take_more numbers i 0 inside ∙ ap (λ m. take i numbers ++ m ∷ []) (sym is) in
    ap (found_at xs) longer ∙ flat_map-append (λ m. listed (slice_get xs m)) (take i numbers) (n ∷ [])
    ∙ ap (λ (l : List _). found_at xs (take i numbers) ++ l) (append-nil (listed (slice_get xs n)) ∙ ap listed at)

module _ (equations : List ObsEq) (entity : ℕ) where
  here_or_not : (s : ℕ) (e : ObsEq) (b : Bool) (ns : List ℕ) (rest : List ObsEq) → slice_get equations s ≡ Some e → found_at equations ns ≡ rest
      → found_at equations (cond b (s ∷ ns) ns) ≡ cond b (e ∷ rest) rest
  here_or_not s e true ns rest at same = ap (λ o. listed o ++ found_at equations ns) at ∙ ap (λ (l : List ObsEq). e ∷ l) same
  here_or_not s e false ns rest at same = same

  from : (s : ℕ) (rest : List ObsEq) → ((n : ℕ) → slice_get rest n ≡ slice_get equations (s + n))
      → found_at equations (positions_from s (obs_eq_sources rest) entity) ≡ filter (λ e. e.entity == entity) rest
  from s [] same = refl
  from s (e ∷ rest) same =
      let start : s + 0 ≡ s = omega arith in
      here_or_not s e (e.entity == entity) (positions_from (s + 1) (obs_eq_sources rest) entity) (filter (λ e. e.entity == entity) rest) (sym (same 0 ∙ ap (slice_get equations) start))
      (from (s + 1) rest (λ n. let next : s + suc n ≡ s + 1 + n = omega arith in same (suc n) ∙ ap (slice_get equations) next))

  -- the numbers of an entity's equations find them
  pub found_group : found_at equations (positions (obs_eq_sources equations) entity) ≡ filter (λ e. e.entity == entity) equations
  found_group = from 0 equations (λ n. let start : n ≡ 0 + n = omega arith in ap (slice_get equations) start)
