-- The types of labels, and the generators that stand for them.
use Rattle.std.proofs.Common.{ℕ, suc, Bool, true, false, not, List, [], ◌∷◌, ◌++◌, Option, Some, None, ◌≡◌, ◌<◌, ◌+◌, cond, map, length, refl, sym, ap, ◌∙◌, append_assoc, arith}
use Rattle.std.specs.Prelude.{slice_get, nat_eq, nat_lt, unwrap_or, if◌then◌else◌, ◌==◌}
use Rattle.std.specs.List.{position_or_len}
use Rattle.std.specs.Map.{lookup}
use Rattle.std.proofs.lemmas.Bool.{eqb-true, eq-eqb}
use Rattle.std.proofs.lemmas.Bool.Decides.{nat_tests}
use Rattle.std.proofs.lemmas.List.{append-nil, length-map}
use Rattle.std.proofs.lemmas.Option.{slice_get_within}
use Rattle.cq_theory.specs.Sorts.{Generators, type_at}
use Rattle.cq_theory.proofs.Every.{Every}
use Rattle.cq_import.specs.declared.labels.Trouble.TheVariants.{Wrong}
use Rattle.cq_import.specs.Labels.{Use, Labels, Room, known_trouble, place_of_label, trouble_at, type_of_label, use_trouble, uses_trouble, with_new, with_use, with_uses}
use Rattle.cq_import.proofs.Places.{get-append_front}
use Rattle.cq_import.proofs.Rooms.{neither}

-- this label has this type
abbrev pub Has : Labels → Use → Type 0
Has labels u = type_of_label labels u.0 ≡ Some u.1

-- some labels, and perhaps more behind them
pub record IsLonger (old new : Labels) : Type 0 where
  pub more : Labels
  pub is : new ≡ old ++ more

module _ {X : Type 0} (test : ℕ → Bool) where
  found_longer : (xs ys : List (ℕ × X)) (x : X) → lookup test xs ≡ Some x → lookup test (xs ++ ys) ≡ Some x
  found_longer [] ys x h = cc
  found_longer (e ∷ xs) ys x h = at_test (test e.0) h (found_longer xs ys x)
    where
      at_test : (b : Bool) → cond b (Some e.1) (lookup test xs) ≡ Some x → (lookup test xs ≡ Some x → lookup test (xs ++ ys) ≡ Some x)
          → cond b (Some e.1) (lookup test (xs ++ ys)) ≡ Some x
      at_test true h' next = h'
      at_test false h' next = next h'

  found_behind : (xs ys : List (ℕ × X)) → lookup test xs ≡ None → lookup test (xs ++ ys) ≡ lookup test ys
  found_behind [] ys h = refl
  found_behind (e ∷ xs) ys h = at_test (test e.0) h (found_behind xs ys)
    where
      at_test : (b : Bool) → cond b (Some e.1) (lookup test xs) ≡ None → (lookup test xs ≡ None → lookup test (xs ++ ys) ≡ lookup test ys)
          → cond b (Some e.1) (lookup test (xs ++ ys)) ≡ lookup test ys
      at_test true h' next = cc
      at_test false h' next = next h'

pub longer_itself : (labels : Labels) → IsLonger labels labels
longer_itself labels = record { more = []; is = sym (append-nil labels) }

longer_new : (labels : Labels) (u : Use) (o : Option ℕ) → IsLonger labels (with_new labels u o)
longer_new labels u None = record { more = u ∷ []; is = refl }
longer_new labels u (Some known) = longer_itself labels

longer_then : (a b c : Labels) → IsLonger a b → IsLonger b c → IsLonger a c
longer_then a b c first second = record {
  more = first.more ++ second.more;
  is = second.is ∙ ap (λ l. l ++ second.more) first.is ∙ append_assoc a first.more second.more;
}

-- labels are only added
pub longer_after : (labels : Labels) (us : List Use) → IsLonger labels (with_uses labels us)
longer_after labels [] = longer_itself labels
longer_after labels (u ∷ us) =
    longer_then labels (with_use labels u) (with_uses (with_use labels u) us) (longer_new labels u (type_of_label labels u.0)) (longer_after (with_use labels u) us)

pub has_longer : (old new : Labels) (u : Use) → IsLonger old new → Has old u → Has new u
has_longer old new u longer has = ap (λ l. type_of_label l u.0) longer.is ∙ found_longer (nat_eq u.0) old longer.more u.1 has

same_known : (type known : ℕ) → known_trouble type known ≡ None → known ≡ type
same_known type known none = at_test (type == known) refl none
  where
    at_test : (b : Bool) → (type == known) ≡ b → (if b then None else Some Wrong) ≡ None → known ≡ type
    at_test true e h = sym (eqb-true type known e)
    at_test false e h = cc

has_new : (room : Room) (labels : Labels) (u : Use) (o : Option ℕ) → type_of_label labels u.0 ≡ o → trouble_at room labels u o ≡ None → Has (with_new labels u o) u
has_new room labels u None e none = found_behind (nat_eq u.0) labels (u ∷ []) e ∙ ap (λ b. cond b (Some u.1) None) (eq-eqb u.0 u.0 refl)
has_new room labels u (Some known) e none = e ∙ ap (λ (n : ℕ). Some n) (same_known u.1 known none)

-- uses without trouble are labels of their types from then on
pub have_uses : (room : Room) (labels : Labels) (us : List Use) → uses_trouble room labels us ≡ None → Every (Has (with_uses labels us)) us
have_uses room labels [] none = tt
have_uses room labels (u ∷ us) none =
    let both = neither (use_trouble room labels u) (uses_trouble room (with_use labels u) us) none in (
      has_longer (with_use labels u) (with_uses (with_use labels u) us) u (longer_after (with_use labels u) us) (has_new room labels u (type_of_label labels u.0) refl both.0),
      have_uses room (with_use labels u) us both.1,
    )

-- where all labels are given, none is added
given_new : (labels : Labels) (u : Use) (o : Option ℕ) → trouble_at None labels u o ≡ None → with_new labels u o ≡ labels
given_new labels u None none = cc none
given_new labels u (Some known) none = refl

pub given_uses : (labels : Labels) (us : List Use) → uses_trouble None labels us ≡ None → with_uses labels us ≡ labels
given_uses labels [] none = refl
given_uses labels (u ∷ us) none =
    let both = neither (use_trouble None labels u) (uses_trouble None (with_use labels u) us) none in
    let same : with_use labels u ≡ labels = given_new labels u (type_of_label labels u.0) both.0 in
    ap (λ l. with_uses l us) same ∙ given_uses labels us (ap (λ l. uses_trouble None l us) (sym same) ∙ both.1)

-- the generators from `first` on are those of the labels
abbrev pub AreNamed : Generators → ℕ → Labels → Type 0
AreNamed G first labels = (n : ℕ) (u : Use) → slice_get labels n ≡ Some u → type_at (slice_get G (first + n)) ≡ Some u.1

pub named_before : (G : Generators) (first : ℕ) (old new : Labels) → IsLonger old new → AreNamed G first new → AreNamed G first old
named_before G first old new longer named n u at = named n u (ap (λ l. slice_get l n) longer.is ∙ get-append_front old longer.more n u at)

-- the first place of a label
abbrev first_place : Labels → ℕ → ℕ
first_place labels label = position_or_len (nat_eq label) (map (λ (v : Use). v.0) labels)

abbrev IsPlaced : Labels → ℕ → ℕ → Type 0
IsPlaced labels label type = (u : Use) × (slice_get labels (first_place labels label) ≡ Some u) × (u.1 ≡ type)

place_found : (labels : Labels) (label type : ℕ) → type_of_label labels label ≡ Some type → IsPlaced labels label type
place_found [] label type h = cc
place_found (e ∷ labels) label type h = at_test (nat_eq label e.0) h (place_found labels label type)
  where
    at_test : (b : Bool) → cond b (Some e.1) (type_of_label labels label) ≡ Some type → (type_of_label labels label ≡ Some type → IsPlaced labels label type)
        → (u : Use) × (slice_get (e ∷ labels) (cond (not b) (1 + first_place labels label) 0) ≡ Some u) × (u.1 ≡ type)
    at_test true h' next = let same : e.1 ≡ type = cc in (e, refl, same)
    at_test false h' next =
        let found = next h' in
        let one : 1 + first_place labels label ≡ suc (first_place labels label) = omega arith in
        (found.0, ap (slice_get (e ∷ labels)) one ∙ found.1, found.2)

is_less : (n m : ℕ) → n < m → nat_lt n m ≡ true
is_less n m h = grind (arith, nat_tests)

-- the generator of a label has the label's type
pub place_named : (G : Generators) (first : ℕ) (labels : Labels) (u : Use) → AreNamed G first labels → Has labels u → type_at (slice_get G (first + place_of_label labels u.0)) ≡ Some u.1
place_named G first labels u named has =
    let found = place_found labels u.0 u.1 has in
    let names = map (λ (v : Use). v.0) labels in
    let place = first_place labels u.0 in
    let inside : place < length names = omega (arith, slice_get_within labels place found.0 found.1, length-map labels (λ (v : Use). v.0)) in
    let here : place_of_label labels u.0 ≡ place = ap (λ b. unwrap_or (cond b (Some place) None) 0) (is_less place (length names) inside) in
    ap (λ n. type_at (slice_get G (first + n))) here ∙ named place found.0 found.1 ∙ ap (λ (n : ℕ). Some n) found.2
