-- The assignments of one foreign key, put into a table one after another.
use Rattle.std.proofs.Common.{ℕ, Bool, true, false, List, [], ◌∷◌, ◌++◌, Option, Some, None, ◌≡◌, ◌<◌, ◌+◌, ◌&&◌, nat_eq, if◌then◌else◌, take, length, get_or, refl, sym, ap, ◌∙◌}
use Rattle.std.specs.Prelude.{option_and_then, option_map, is_some}
use Rattle.std.specs.Map.{lookup}
use Rattle.std.proofs.lemmas.Bool.{eqb-true}
use Rattle.std.proofs.lemmas.List.{take_more}
use Rattle.std.proofs.lemmas.Cmp.{nat_list_eq_equiv}
use Rattle.cq_base.specs.declared.name.Name.{Name}
use Rattle.cq_base.specs.Names.{same_name}
use Rattle.cq_theory.specs.Resolve.{or_else}
use Rattle.cq_blocks.specs.Blocks.{first_of}

pub or_none : {X : Type 0} (o : Option X) → or_else o None ≡ o
or_none None = refl
or_none (Some x) = refl

or_else_assoc : {X : Type 0} (a b c : Option X) → or_else (or_else a b) c ≡ or_else a (or_else b c)
or_else_assoc None b c = refl
or_else_assoc (Some x) b c = refl

first_of-append : {X R : Type 0} (f : X → Option R) (xs : List X) (x : X) → first_of f (xs ++ x ∷ []) ≡ or_else (first_of f xs) (f x)
first_of-append f [] x = or_none (f x)
first_of-append f (y ∷ ys) x = ap (or_else (f y)) (first_of-append f ys x) ∙ sym (or_else_assoc (f y) (first_of f ys) (f x))

-- one more place
pub first_more : {X R : Type 0} (f : X → Option R) (xs : List X) (i : ℕ) (d : X) → i < length xs → first_of f (take (i + 1) xs) ≡ or_else (first_of f (take i xs)) (f (get_or xs i d))
first_more f xs i d within = ap (first_of f) (take_more xs i d within) ∙ first_of-append f (take i xs) (get_or xs i d)

-- what stands at the first place of which something is given is what is given first
pub given_first : {X R : Type 0} (f : X → Option R) (xs : List X) → option_and_then f (first_of (λ x. option_map (λ _. x) (f x)) xs) ≡ first_of f xs
given_first f [] = refl
given_first {X} {R} f (x ∷ xs) = by_case (f x) refl (given_first f xs)
  where
    by_case : (o : Option R) → f x ≡ o → option_and_then f (first_of (λ x. option_map (λ _. x) (f x)) xs) ≡ first_of f xs
        → option_and_then f (or_else (option_map (λ _. x) o) (first_of (λ x. option_map (λ _. x) (f x)) xs)) ≡ or_else o (first_of f xs)
    by_case None is rest = rest
    by_case (Some r) is rest = is

same_is : (q v : List ℕ) → same_name q v ≡ true → q ≡ v
same_is [] [] h = refl
same_is [] (y ∷ ys) h = cc
same_is (x ∷ xs) [] h = cc
same_is (x ∷ xs) (y ∷ ys) h =
    let parts = both (nat_eq x y) (same_name xs ys) h in
    λ i. eqb-true x y parts.0 i ∷ same_is xs ys parts.1 i
  where
    both : (a b : Bool) → (a && b) ≡ true → (a ≡ true) × (b ≡ true)
    both true b h' = (refl, h')
    both false b h' = cc

module _ (table : List (Name × ℕ)) (v : Name) (place : ℕ) where
  abbrev at : Name → Option ℕ
  at q = lookup (same_name q) table

  -- a variable that has a place keeps it
  pub kept : is_some (at v) ≡ true → (q : Name) → at q ≡ or_else (at q) (if same_name q v then Some place else None)
  kept there q = by_case (same_name q v) refl
    where
      found : (o : Option ℕ) → is_some o ≡ true → o ≡ or_else o (Some place)
      found None h = cc
      found (Some n) h = refl

      by_case : (b : Bool) → same_name q v ≡ b → at q ≡ or_else (at q) (if b then Some place else None)
      by_case false is = sym (or_none (at q))
      by_case true is = found (at q) (ap (λ n. is_some (at n)) (same_is q v is) ∙ there)

  -- another gets one
  pub put_first : is_some (at v) ≡ false → (now : List (Name × ℕ)) → ((q : Name) → lookup (same_name q) now ≡ (if same_name v q then Some place else at q))
      → (q : Name) → lookup (same_name q) now ≡ or_else (at q) (if same_name q v then Some place else None)
  put_first none now put q = put q ∙ ap (λ b. if b then Some place else at q) (nat_list_eq_equiv.symm v q) ∙ by_case (same_name q v) refl
    where
      found : (o : Option ℕ) → is_some o ≡ false → Some place ≡ or_else o (Some place)
      found None h = refl
      found (Some n) h = cc

      by_case : (b : Bool) → same_name q v ≡ b → (if b then Some place else at q) ≡ or_else (at q) (if b then Some place else None)
      by_case false is = sym (or_none (at q))
      by_case true is = found (at q) (ap (λ n. is_some (at n)) (same_is q v is) ∙ none)

pub with_key : {R : Type 0} (a b : Bool) (r : R) (place : ℕ) → a ≡ true → (if b then Some place else None) ≡ option_map (λ _. place) (if a && b then Some r else None)
with_key true true r place h = refl
with_key true false r place h = refl
with_key false b r place h = cc

pub without_key : {R : Type 0} (a b : Bool) (r : R) (place : ℕ) → a ≡ false → option_map (λ _. place) (if a && b then Some r else None) ≡ None
without_key true b r place h = cc
without_key false b r place h = refl
