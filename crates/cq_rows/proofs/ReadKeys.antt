-- Loops that mark the keys which equations read.
use Rattle.std.proofs.Common.{◌≡◌, ℕ, ◌+◌, ◌<◌, ◌≤◌, Bool, false, List, length, get_or, set, Some, map, sym, ◌∙◌, ⊎_elim, inl, inr}
use Rattle.std.proofs.lemmas.Bool.{cases_eq}
use Rattle.std.proofs.lemmas.List.{get_or-set_same, get_or-set_other, get_or_past}
use Rattle.std.proofs.lemmas.Option.{same_Some}
use Rattle.std.specs.Prelude.{slice_get}
use Rattle.cq_theory.specs.declared.presentation.Equation.{Equation}
use Rattle.cq_theory.specs.declared.presentation.Equation.TheVariants.{Ent as EntEquation}
use Rattle.cq_rows.specs.Plain.{entity_sides}
use Rattle.cq_rows.specs.Theory.{Term}
use Rattle.cq_rows.specs.Unread.{is_free, HasNone}
use Rattle.cq_rows.proofs.Cells.{below_or_at, read_mapped}
use Rattle.cq_rows.proofs.Equations.{sides_ent}

-- keys that are read stay so
abbrev pub StayRead : List Bool → List Bool → Type 0
StayRead old new = (k : ℕ) → is_free old k ≡ false → is_free new k ≡ false

pub none_stays : (old new : List Bool) (p : List ℕ) → StayRead old new → HasNone old p → HasNone new p
none_stays old new p stay h i k at = stay k (h i k at)

pub past_is_read : (free : List Bool) (key : ℕ) → length free ≤ key → is_free free key ≡ false
past_is_read free key past = get_or_past free key false past

set_is_read : (free : List Bool) (key : ℕ) → key < length free → is_free (set free key false) key ≡ false
set_is_read free key within = get_or-set_same free key false false within

pub set_stays : (free : List Bool) (key : ℕ) → key < length free → StayRead free (set free key false)
set_stays free key within k h = elim (cases_eq k key) as (λ _. is_free (set free key false) k ≡ false) [
  | inl e ↦ rw e (set_is_read free key within)
  | inr ne ↦ get_or-set_other free key k false false ne ∙ h
]

-- the keys of a path below a place
abbrev pub ReadBelow : List Bool → List ℕ → ℕ → Type 0
ReadBelow free path n = (i k : ℕ) → i < n → slice_get path i ≡ Some k → is_free free k ≡ false

pub read_more : (old new : List Bool) (path : List ℕ) (n key : ℕ) → slice_get path n ≡ Some key → StayRead old new → is_free new key ≡ false → ReadBelow old path n → ReadBelow new path (n + 1)
read_more old new path n key found stay here h i k below at =
    ⊎_elim (λ l. stay k (h i k l at)) (λ e. let same : key ≡ k = same_Some key k (sym found ∙ (rw e at at)) in rw (← same) here) (below_or_at i n below)

pub read_set : (free : List Bool) (path : List ℕ) (n key : ℕ) → slice_get path n ≡ Some key → key < length free → ReadBelow free path n → ReadBelow (set free key false) path (n + 1)
read_set free path n key found inside h = read_more free (set free key false) path n key found (set_stays free key inside) (set_is_read free key inside) h

pub read_past : (free : List Bool) (path : List ℕ) (n key : ℕ) → slice_get path n ≡ Some key → length free ≤ key → ReadBelow free path n → ReadBelow free path (n + 1)
read_past free path n key found past h = read_more free free path n key found (λ k e. e) (past_is_read free key past) h

-- equations of the presentation below a place
abbrev pub GivenBelow : List Bool → List Equation → ℕ → Type 0
GivenBelow free xs n = (i : ℕ) (t u : Term) → i < n → slice_get (map entity_sides xs) i ≡ Some (Some (t, u)) → HasNone free t.path × HasNone free u.path

-- what stands at a place
sides_at : (xs : List Equation) (n i : ℕ) (x : Equation) (t u : Term) → n < length xs → x ≡ get_or xs n x → i ≡ n → slice_get (map entity_sides xs) i ≡ Some (Some (t, u)) → x ≡ EntEquation t u
sides_at xs n i x t u within is e at = sides_ent x t u (same_Some (entity_sides x) (Some (t, u)) (sym (read_mapped entity_sides xs n x within is) ∙ (rw e at at)))

pub given_skip : (free : List Bool) (items xs : List Equation) (n : ℕ) (x : Equation) → items ≡ xs → n < length xs → x ≡ get_or items n x → ((t u : Term) → x ≡ EntEquation t u → ⊥) → GivenBelow free xs n → GivenBelow free xs (n + 1)
given_skip free items xs n x are within is never h i t u below at =
    ⊎_elim (λ l. h i t u l at) (λ e. absurd (never t u (sides_at xs n i x t u within (rw are at is) e at))) (below_or_at i n below)

same_equation : (t u a b : Term) → EntEquation t u ≡ EntEquation a b → (t ≡ a) × (u ≡ b)
same_equation t u a b h = (cc, cc)

pub given_more : (old half new : List Bool) (items xs : List Equation) (n : ℕ) (x : Equation) (a b : Term) → items ≡ xs → n < length xs → x ≡ get_or items n x → x ≡ EntEquation a b → StayRead old half → StayRead half new
    → HasNone half a.path → HasNone new b.path → GivenBelow old xs n → GivenBelow new xs (n + 1)
given_more old half new items xs n x a b are within is sides first second left right h i t u below at = ⊎_elim
    (λ l. let o = h i t u l at in (none_stays half new t.path second (none_stays old half t.path first o.0), none_stays half new u.path second (none_stays old half u.path first o.1)))
    (λ e. let o = same_equation t u a b (sym (sides_at xs n i x t u within (rw are at is) e at) ∙ sides) in rw (o.0, o.1) (none_stays half new a.path second left, right))
    (below_or_at i n below)
