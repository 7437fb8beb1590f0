-- One row more is reached.
use Rattle.std.proofs.Common.{ℕ, zero, suc, Bool, true, false, List, [], ◌∷◌, ◌++◌, Some, ◌≡◌, ◌<◌, ◌⊎◌, inl, inr, length, refl, sym, subst, ◌∙◌}
use Rattle.std.specs.Prelude.{slice_get, slice_set}
use Rattle.std.proofs.lemmas.Bool.{cases_eq}
use Rattle.std.proofs.lemmas.List.{length-set, get_or-set_same, get_or-set_other}
use Rattle.std.proofs.lemmas.Option.{same_Some}
use Rattle.cq_theory.specs.declared.term.EntTerm.{EntTerm}
use Rattle.cq_growth.specs.declared.levels.Member.{Member}
use Rattle.cq_growth.specs.Levels.{IsReached, IsIn, Reaches}

pub get_front : {X : Type 0} (xs ys : List X) (i : ℕ) (x : X) → slice_get xs i ≡ Some x → slice_get (xs ++ ys) i ≡ Some x
get_front [] ys i x h = cc
get_front (y ∷ xs) ys zero x h = h
get_front (y ∷ xs) ys (suc i) x h = get_front xs ys i x h

pub get_last : {X : Type 0} (xs : List X) (x : X) → slice_get (xs ++ x ∷ []) (length xs) ≡ Some x
get_last [] x = refl
get_last (y ∷ ys) x = get_last ys x

pub front_or_last : {X : Type 0} (xs : List X) (x : X) (i : ℕ) (y : X) → slice_get (xs ++ x ∷ []) i ≡ Some y → (slice_get xs i ≡ Some y) ⊎ (y ≡ x)
front_or_last [] x zero y h = inr (sym (same_Some x y h))
front_or_last [] x (suc i) y h = inl h
front_or_last (z ∷ zs) x zero y h = inl h
front_or_last (z ∷ zs) x (suc i) y h = front_or_last zs x i y h

abbrev pub member_of : ℕ → EntTerm → Member
member_of row name = record { row = row; name = name }

-- what is known when a row is reached
pub record IsReachedNow (old : List Member) (marks : List Bool) (new : List Member) (marks' : List Bool) (row : ℕ) (name : EntTerm) : Type 0 where
  pub marked : length marks' ≡ length marks
  pub kept : (r : ℕ) → IsReached marks r → IsReached marks' r
  pub here : IsReached marks' row
  pub members : (r : ℕ) → IsIn old r → IsIn new r
  pub origin : (n : ℕ) (x : Member) → slice_get new n ≡ Some x → ((j : ℕ) × (slice_get old j ≡ Some x)) ⊎ (x ≡ member_of row name)
  pub listed : (r : ℕ) → IsReached marks' r → IsReached marks r ⊎ IsIn new r

module _ (old : List Member) (marks : List Bool) (row : ℕ) (name : EntTerm) (within : row < length marks) where
  reached_before : IsReached marks row → IsReachedNow old marks old marks row name
  reached_before h = record {
    marked = refl;
    kept = λ r i. i;
    here = h;
    members = λ r i. i;
    origin = λ n x i. inl (n, i);
    listed = λ r i. inl i;
  }

  abbrev more : List Member
  more = old ++ member_of row name ∷ []

  here_now : IsReached (slice_set marks row true) row
  here_now = get_or-set_same marks row true false within

  kept_now : (r : ℕ) → IsReached marks r → IsReached (slice_set marks row true) r
  kept_now r h = elim (cases_eq r row) [
    | inl e ↦ subst (IsReached (slice_set marks row true)) (sym e) here_now
    | inr ne ↦ get_or-set_other marks row r true false ne ∙ h
  ]

  in_more : (r : ℕ) → IsIn old r → IsIn more r
  in_more r h = (h.0, h.1, get_front old (member_of row name ∷ []) h.0 h.1 h.2, h.3)

  listed_now : (r : ℕ) → IsReached (slice_set marks row true) r → IsReached marks r ⊎ IsIn more r
  listed_now r h = elim (cases_eq r row) [
    | inl e ↦ inr (length old, member_of row name, get_last old (member_of row name), sym e)
    | inr ne ↦ inl (sym (get_or-set_other marks row r true false ne) ∙ h)
  ]

  reached_new : IsReachedNow old marks more (slice_set marks row true) row name
  reached_new = record {
    marked = length-set marks row true;
    kept = kept_now;
    here = here_now;
    members = in_more;
    origin = λ n x h. elim (front_or_last old (member_of row name) n x h) [ inl a ↦ inl (n, a) | inr b ↦ inr b ];
    listed = listed_now;
  }

  pub reached_now : (new : List Member) (marks' : List Bool) → Reaches old marks new marks' row name → IsReachedNow old marks new marks' row name
  reached_now new marks' (inl h) =
      subst (λ (y : List Member × List Bool). IsReachedNow old marks y.0 y.1 row name) (λ i. (sym h.1 i, sym h.2 i)) (reached_before h.0)
  reached_now new marks' (inr h) =
      subst (λ (y : List Member × List Bool). IsReachedNow old marks y.0 y.1 row name) (λ i. (sym h.0 i, sym h.1 i)) reached_new
