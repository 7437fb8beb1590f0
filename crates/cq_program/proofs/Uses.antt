-- What used names stand for, one by one.
use Rattle.std.proofs.Common.{◌≡◌, ◌<◌, ◌≤◌, ◌+◌, ℕ, suc, Bool, true, false, List, [], ◌∷◌, ◌++◌, Option, Some, None, length, take, drop, get_or, refl, sym, ap, ◌∙◌, subst, drop-cons, arith}
use Rattle.std.proofs.lemmas.List.{drop_all, take-append-drop, take_more}
use Rattle.std.specs.Prelude.{All, Ok, Err, if◌then◌else◌, map, not}
use Rattle.std.proofs.lemmas.List.Elements.{All-nil, All-cons, All-head, All-tail}
use Rattle.cq_base.specs.declared.name.Name.{Name}
use Rattle.cq_base.specs.declared.place.Place.{Place}
use Rattle.cq_base.specs.Names.{same_name}
use Rattle.cq_syntax.specs.declared.part.Spot.{Spot}
use Rattle.cq_environment.specs.declared.refusal.ProgramRefusal.{ProgramRefusal}
use Rattle.cq_environment.specs.Meanings.{Checked, and_then}
use Rattle.cq_program.specs.Posed.{all_used, first_other}
use Rattle.cq_environment.specs.Environment.{TellsChecked}
use Rattle.cq_program.proofs.Given.{refused_after, refused_then}

-- what one more and the rest give together, each gives
pub record AreTwo {K A : Type 0} (key : K) (one : Checked A) (others : Checked (List (K × A))) (all : List (K × A)) : Type 0 where
  pub first : A
  pub rest : List (K × A)
  pub one_is : one ≡ Ok first
  pub others_are : others ≡ Ok rest
  pub together : (key, first) ∷ rest ≡ all

pub two : {K A : Type 0} (key : K) (one : Checked A) (others : Checked (List (K × A))) (all : List (K × A))
    → and_then one (λ a. and_then others (λ rest. Ok ((key, a) ∷ rest))) ≡ Ok all → AreTwo key one others all
two key (Ok a) (Ok rest) all h = record { first = a; rest = rest; one_is = refl; others_are = refl; together = cc }
two key (Ok a) (Err broken) all h = absurd (cc h)
two key (Err broken) others all h = absurd (cc h)

split_at : {X : Type 0} (xs : List X) (i : ℕ) (x : X) → i < length xs → x ≡ get_or xs i x → xs ≡ take i xs ++ x ∷ drop (suc i) xs
split_at {X} xs i x inside is =
    sym (take-append-drop i xs) ∙ ap (λ (l : List X). take i xs ++ l) (drop-cons xs i x inside ∙ ap (λ (y : X). y ∷ drop (suc i) xs) (sym is))

module _ {K A : Type 0} (key : Spot → K) (find : Spot → Checked A) where
  used_more : (spots : List Spot) (spot : Spot) (found : List (K × A)) (a : A) → all_used key find spots ≡ Ok found → find spot ≡ Ok a
      → all_used key find (spots ++ spot ∷ []) ≡ Ok (found ++ (key spot, a) ∷ [])
  used_more [] spot found a are is =
      let none : [] ≡ found = cc in
      ap (λ (one : Checked A). and_then one (λ i. and_then (all_used key find []) (λ rest. Ok ((key spot, i) ∷ rest)))) is
      ∙ ap (λ (l : List (K × A)). Ok (l ++ (key spot, a) ∷ [])) none
  used_more (x ∷ spots) spot found a are is =
      let t = two (key x) (find x) (all_used key find spots) found are in
      ap (λ (one : Checked A). and_then one (λ i. and_then (all_used key find (spots ++ spot ∷ [])) (λ rest. Ok ((key x, i) ∷ rest)))) t.one_is
      ∙ ap (λ (others : Checked (List (K × A))). and_then others (λ rest. Ok ((key x, t.first) ∷ rest))) (used_more spots spot t.rest a t.others_are is)
      ∙ ap (λ (l : List (K × A)). Ok (l ++ (key spot, a) ∷ [])) t.together

  used_refused : (spots : List Spot) (spot : Spot) (after : List Spot) (found : List (K × A)) (answer : ProgramRefusal) → all_used key find spots ≡ Ok found → TellsChecked answer (find spot)
      → TellsChecked answer (all_used key find (spots ++ spot ∷ after))
  used_refused [] spot after found answer are refuses =
      refused_then answer (find spot) (λ a. and_then (all_used key find after) (λ rest. Ok ((key spot, a) ∷ rest))) refuses
  used_refused (x ∷ spots) spot after found answer are refuses =
      let t = two (key x) (find x) (all_used key find spots) found are in
      refused_after answer (find x) t.first (λ a. and_then (all_used key find (spots ++ spot ∷ after)) (λ rest. Ok ((key x, a) ∷ rest))) t.one_is
      (refused_then answer (all_used key find (spots ++ spot ∷ after)) (λ rest. Ok ((key x, t.first) ∷ rest)) (used_refused spots spot after t.rest answer t.others_are refuses))

  -- the name at place i is refused, or is one more
  pub used_refused_at : (spots : List Spot) (i : ℕ) (spot : Spot) (found : List (K × A)) (answer : ProgramRefusal) → i < length spots → spot ≡ get_or spots i spot
      → all_used key find (take i spots) ≡ Ok found → TellsChecked answer (find spot) → TellsChecked answer (all_used key find spots)
  used_refused_at spots i spot found answer inside is are refuses =
      subst (λ (l : List Spot). TellsChecked answer (all_used key find l)) (sym (split_at spots i spot inside is))
      (used_refused (take i spots) spot (drop (suc i) spots) found answer are refuses)

  pub used_given_at : (spots : List Spot) (i : ℕ) (spot : Spot) (found more : List (K × A)) (a : A) → i < length spots → spot ≡ get_or spots i spot
      → all_used key find (take i spots) ≡ Ok found → find spot ≡ Ok a → more ≡ found ++ (key spot, a) ∷ [] → all_used key find (take (i + 1) spots) ≡ Ok more
  used_given_at spots i spot found more a inside is are used longer =
      let one : take (i + 1) spots ≡ take i spots ++ spot ∷ [] = take_more spots i spot inside ∙ ap (λ (x : Spot). take i spots ++ x ∷ []) (sym is) in
      ap (all_used key find) one ∙ used_more (take i spots) spot found a are used ∙ ap (λ (l : List (K × A)). Ok l) (sym longer)

  -- as many are found as names are used
  pub used_count : (spots : List Spot) (found : List (K × A)) → all_used key find spots ≡ Ok found → length found ≡ length spots
  used_count [] found are = let none : [] ≡ found = cc in ap length (sym none)
  used_count (x ∷ spots) found are =
      let t = two (key x) (find x) (all_used key find spots) found are in
      ap length (sym t.together) ∙ ap (λ (n : ℕ). suc n) (used_count spots t.rest t.others_are)

  -- what holds of each that is used
  pub used_hold : (P : K × A → Type 0) → ((spot : Spot) (a : A) → find spot ≡ Ok a → P (key spot, a)) → (spots : List Spot) (found : List (K × A)) → all_used key find spots ≡ Ok found → All P found
  used_hold P holds [] found are = let none : [] ≡ found = cc in subst (All P) none (All-nil P)
  used_hold P holds (x ∷ spots) found are =
      let t = two (key x) (find x) (all_used key find spots) found are in
      subst (All P) t.together (All-cons P (key x, t.first) t.rest (holds x t.first t.one_is) (used_hold P holds spots t.rest t.others_are))

-- where none is over something else, each is over this
fits_first : (b : Bool) (rest : Option Place) (place : Place) → (if b then rest else Some place) ≡ None → (false ≡ not b) × (rest ≡ None)
fits_first true rest place h = (refl, h)
fits_first false rest place h = absurd (cc h)

holds_of : (b : Bool) → false ≡ not b → b ≡ true
holds_of true h = refl
holds_of false h = absurd (cc h)

fails_of : (b : Bool) → true ≡ not b → b ≡ false
fails_of true h = absurd (cc h)
fails_of false h = refl

module _ {K A : Type 0} (at : K → Place) (over : A → Name) (n : Name) where
  pub none_other : (P Q : K × A → Type 0) → ((one : K × A) → P one → false ≡ not (same_name n (over one.1)) → Q one) → (all : List (K × A)) → All P all → first_other at over n all ≡ None → All Q all
  none_other P Q holds [] each none = All-nil Q
  none_other P Q holds (x ∷ xs) each none =
      let fits = fits_first (same_name n (over x.1)) (first_other at over n xs) (at x.0) none in
      All-cons Q x xs (holds x (All-head P x xs each) fits.0) (none_other P Q holds xs (All-tail P x xs each) fits.1)

  -- one more in the search
  module _ {X : Type 0} (view : X → K × A) (xs : List X) where
    module _ (i : ℕ) (x : X) (inside : i < length xs) (is : x ≡ get_or xs i x) where
      from_here : map view (drop i xs) ≡ view x ∷ map view (drop (suc i) xs)
      from_here = ap (map view) (drop-cons xs i x inside) ∙ ap (λ (y : X). view y ∷ map view (drop (suc i) xs)) (sym is)

      abbrev other_or : Bool → Option Place
      other_or b = if b then first_other at over n (map view (drop (suc i) xs)) else Some (at (view x).0)

      pub same_at : first_other at over n (map view xs) ≡ first_other at over n (map view (drop i xs)) → false ≡ not (same_name n (over (view x).1))
          → first_other at over n (map view xs) ≡ first_other at over n (map view (drop (i + 1) xs))
      same_at so_far fits =
          let next : suc i ≡ i + 1 = omega arith in
          so_far ∙ ap (first_other at over n) from_here ∙ ap other_or (holds_of (same_name n (over (view x).1)) fits) ∙ ap (λ (k : ℕ). first_other at over n (map view (drop k xs))) next

      pub other_at : first_other at over n (map view xs) ≡ first_other at over n (map view (drop i xs)) → true ≡ not (same_name n (over (view x).1))
          → first_other at over n (map view xs) ≡ Some (at (view x).0)
      other_at so_far other = so_far ∙ ap (first_other at over n) from_here ∙ ap other_or (fails_of (same_name n (over (view x).1)) other)

    pub no_other : (i : ℕ) → length xs ≤ i → first_other at over n (map view xs) ≡ first_other at over n (map view (drop i xs)) → first_other at over n (map view xs) ≡ None
    no_other i past so_far = so_far ∙ ap (λ (l : List X). first_other at over n (map view l)) (drop_all i xs past)
