-- The duties of a query, numbered through all entities.
use Rattle.std.proofs.Common.{ℕ, Result, Err, zero, suc, List, [], ◌∷◌, ◌++◌, Some, ◌≡◌, ◌<◌, ◌+◌, map, length, get_or, ap, subst, ◌∙◌, arith, length-append}
use Rattle.std.specs.Prelude.{slice_get}
use Rattle.std.specs.List.{flat_map, range_with_len}
use Rattle.std.proofs.lemmas.List.{length-map}
use Rattle.std.proofs.lemmas.Option.{slice_get_within}
use Rattle.cq_check.specs.Answers.{IsWellSorted, AreMetOf}
use Rattle.cq_check.specs.declared.refusal.CheckRefusal.{CheckRefusal}
use Rattle.cq_check.proofs.Lists.{extends_append, image_at, item_at}
use Rattle.cq_query.specs.QueryData.{QueryData as Query}
use Rattle.cq_query.specs.IsQuery.{IsQuery}
use Rattle.cq_query.specs.Duties.{duties, duties_below, all_duties, frozen, Sound}
use Rattle.cq_query.proofs.SortedDuties.{duties_sorted}
use Rattle.cq_theory.specs.declared.presentation.Equation.{Equation}

behind : {X : Type 0} (xs ys : List X) (n : ℕ) (y : X) → slice_get ys n ≡ Some y → slice_get (xs ++ ys) (length xs + n) ≡ Some y
behind [] ys n y h = let here : n ≡ 0 + n = omega arith in subst (λ m. slice_get ys m ≡ Some y) here h
behind (x ∷ xs) ys n y h =
    let there : suc (length xs + n) ≡ suc (length xs) + n = omega arith in
    subst (λ m. slice_get (x ∷ (xs ++ ys)) m ≡ Some y) there (behind xs ys n y h)

module _ {X : Type 0} (f : ℕ → List X) where
  -- the parts of the first k numbers have those of the first one before them
  one_part_more : (s k : ℕ) → length (flat_map f (range_with_len s (k + 1))) ≡ length (flat_map f (range_with_len s k)) + length (f (s + k))
  one_part_more s zero =
      let here : s ≡ s + 0 = omega arith in
      let size : length (f s ++ []) ≡ length (f s) + 0 = length-append (f s) [] in
      let last : length (f s) ≡ length (f (s + 0)) = ap (λ m. length (f m)) here in
      omega (arith, size, last)
  one_part_more s (suc k) =
      let there : s + 1 + k ≡ s + suc k = omega arith in
      let next : suc k + 1 ≡ suc (k + 1) = omega arith in
      let long : length (flat_map f (range_with_len s (suc (k + 1)))) ≡ length (f s) + length (flat_map f (range_with_len (s + 1) (k + 1))) = length-append (f s) (flat_map f (range_with_len (s + 1) (k + 1))) in
      let short : length (flat_map f (range_with_len s (suc k))) ≡ length (f s) + length (flat_map f (range_with_len (s + 1) k)) = length-append (f s) (flat_map f (range_with_len (s + 1) k)) in
      let rest : length (flat_map f (range_with_len (s + 1) (k + 1))) ≡ length (flat_map f (range_with_len (s + 1) k)) + length (f (s + 1 + k)) = one_part_more (s + 1) k in
      let last : length (f (s + 1 + k)) ≡ length (f (s + suc k)) = ap (λ m. length (f m)) there in
      ap (λ m. length (flat_map f (range_with_len s m))) next ∙ (let sum : length (flat_map f (range_with_len s (suc (k + 1)))) ≡ length (flat_map f (range_with_len s (suc k))) + length (f (s + suc k)) = omega (arith, long, short, rest, last) in sum)

  -- a member of a part stands behind the parts before
  in_its_part : (s n k p : ℕ) (x : X) → k < n → slice_get (f (s + k)) p ≡ Some x → slice_get (flat_map f (range_with_len s n)) (length (flat_map f (range_with_len s k)) + p) ≡ Some x
  in_its_part s zero k p x within at = absurd (omega arith)
  in_its_part s (suc n) zero p x within at =
      let here : s + 0 ≡ s = omega arith in
      let first : p ≡ 0 + p = omega arith in
      subst (λ m. slice_get (flat_map f (range_with_len s (suc n))) m ≡ Some x) first
      (extends_append (f s) (flat_map f (range_with_len (s + 1) n)) p x (subst (λ m. slice_get (f m) p ≡ Some x) here at))
  in_its_part s (suc n) (suc k) p x within at =
      let there : s + suc k ≡ s + 1 + k = omega arith in
      let rest = in_its_part (s + 1) n k p x (omega (arith, within)) (subst (λ m. slice_get (f m) p ≡ Some x) there at) in
      let short : length (flat_map f (range_with_len s (suc k))) ≡ length (f s) + length (flat_map f (range_with_len (s + 1) k)) = length-append (f s) (flat_map f (range_with_len (s + 1) k)) in
      let place : length (f s) + (length (flat_map f (range_with_len (s + 1) k)) + p) ≡ length (flat_map f (range_with_len s (suc k))) + p = omega (arith, short) in
      subst (λ m. slice_get (flat_map f (range_with_len s (suc n))) m ≡ Some x) place
      (behind (f s) (flat_map f (range_with_len (s + 1) n)) (length (flat_map f (range_with_len (s + 1) k)) + p) x rest)

module _ (Q : Query) where
  abbrev with_entity : ℕ → List (ℕ × Equation)
  with_entity entity = map (λ e. (entity, e)) (duties Q entity)

  -- a duty of an entity is numbered behind those of the entities before
  pub duty_found : (entity p : ℕ) (e : Equation) → entity < length Q.target.entities → slice_get (duties Q entity) p ≡ Some e → slice_get (all_duties Q) (length (duties_below Q entity) + p) ≡ Some (entity, e)
  duty_found entity p e within at =
      let here : entity ≡ 0 + entity = omega arith in
      in_its_part with_entity 0 (length Q.target.entities) entity p (entity, e) within
      (subst (λ m. slice_get (with_entity m) p ≡ Some (entity, e)) here (image_at (λ e. (entity, e)) (duties Q entity) p e at))

  -- the duty that a loop over an entity's duties has at a place
  pub duty_read : (entity number index : ℕ) (items : List Equation) (duty : Equation) → entity < length Q.target.entities → number ≡ length (duties_below Q entity) + index
      → items ≡ duties Q entity → index < length items → duty ≡ get_or items index duty → slice_get (all_duties Q) number ≡ Some (entity, duty)
  duty_read entity number index items duty within number_is items_are inside is =
      ap (slice_get (all_duties Q)) number_is ∙ duty_found entity index duty within (item_at (duties Q entity) items index duty items_are inside is)

  pub duties_counted : (entity : ℕ) → length (duties_below Q (entity + 1)) ≡ length (duties_below Q entity) + length (duties Q entity)
  duties_counted entity =
      let here : 0 + entity ≡ entity = omega arith in
      one_part_more with_entity 0 entity ∙ ap (λ m. length (duties_below Q entity) + length (with_entity m)) here
      ∙ ap (λ n. length (duties_below Q entity) + n) (length-map (duties Q entity) (λ e. (entity, e)))

  -- where all duties are derivable, the query is sound
  pub all_met : AreMetOf Q (length (all_duties Q)) → Sound Q
  all_met met entity n e within at =
      let found = duty_found entity n e within at in
      met (length (duties_below Q entity) + n) (entity, e) (slice_get_within (all_duties Q) (length (duties_below Q entity) + n) (entity, e) found) found

  pub one_sort : IsQuery Q → (entity n : ℕ) (e : Equation) → slice_get (duties Q entity) n ≡ Some e → IsWellSorted Q.source (frozen Q entity) e
  one_sort query entity n e at = let sides = duties_sorted Q query entity n e at in record { sort = sides.0; left = sides.1; right = sides.2 }

-- the refusal of a call that gives a number, as that of one that gives nothing
pub same_refusal : (a b : CheckRefusal) → ◌≡◌ {A = Result ℕ CheckRefusal} (Err a) (Err b) → ◌≡◌ {A = Result (Unit {0}) CheckRefusal} (Err a) (Err b)
same_refusal a b h = let same : a ≡ b = cc in ap Err same
