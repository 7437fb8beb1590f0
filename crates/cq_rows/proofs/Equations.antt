-- An equation of the presentation, as a loop reads it.
use Rattle.std.proofs.Common.{refl, ◌≡◌, ◌<◌, ℕ, List, length, get_or, Option, Some, ap, map, sym, ◌∙◌}
use Rattle.std.proofs.lemmas.Option.{same_Some, none-some}
use Rattle.std.specs.Prelude.{slice_get, slice_index}
use Rattle.cq_tables.specs.Content.{Content, keys_of}
use Rattle.cq_theory.specs.declared.presentation.Equation.{Equation}
use Rattle.cq_theory.specs.declared.presentation.Equation.TheVariants.{Ent as EntEquation, Typ as TypEquation}
use Rattle.cq_rows.specs.Theory.{Term, Theory, IsTheory}
use Rattle.cq_rows.specs.Plain.{entity_sides}
use Rattle.cq_rows.specs.Rows.{HaveRows, Agree, GivenHolds}
use Rattle.cq_rows.proofs.Cells.{read_mapped}
use Rattle.cq_rows.proofs.Sorts.{IsSide, side_of}

pub record IsRead (s : Theory) (m : Content) (rows : List ℕ) (i : ℕ) (t u : Term) : Type 0 where
  pub found : slice_get s.given i ≡ Some (Some (t, u))
  pub target : ℕ
  pub left : IsSide m rows t target
  pub right : IsSide m rows u target

pub read_equation : (s : Theory) (m : Content) (rows : List ℕ) → IsTheory s → HaveRows s m rows → keys_of m ≡ s.keys → length rows ≡ length s.generators
    → (xs : List Equation) (i : ℕ) (x : Equation) (t u : Term) → s.given ≡ map entity_sides xs → i < length xs → x ≡ get_or xs i x → x ≡ EntEquation t u → IsRead s m rows i t u
read_equation s m rows th h k n xs i x t u e l is sides =
    let f : slice_get s.given i ≡ Some (Some (t, u)) = rw e (read_mapped entity_sides xs i x l is ∙ ap (λ y. Some (entity_sides y)) sides) in
    let q = th.given i t u f in
    record {
      found = f;
      target = q.target;
      left = side_of s m rows t q.target h k n q.left;
      right = side_of s m rows u q.target h k n q.right;
    }

-- the equations below i hold
abbrev pub HoldUnder : Theory → Content → List ℕ → ℕ → Type 0
HoldUnder s m rows i = (j : ℕ) (t u : Term) → j < i → slice_get s.given j ≡ Some (Some (t, u)) → Agree m (slice_index rows t.generator) t.path (slice_index rows u.generator) u.path

same_pair : (p q : Term × Term) → Some (Some p) ≡ Some (Some q) → p ≡ q
same_pair p q e = same_Some p q (same_Some (Some p) (Some q) e)

same_sides : (t u a b : Term) → ◌≡◌ {A = Option (Option (Term × Term))} (Some (Some (t, u))) (Some (Some (a, b))) → (a ≡ t) × (b ≡ u)
same_sides t u a b e =
    let p : ◌≡◌ {A = Term × Term} (t, u) (a, b) = same_pair (t, u) (a, b) e in
    (sym (ap (λ (y : Term × Term). y.0) p), sym (ap (λ (y : Term × Term). y.1) p))

-- the sides of an equation between entity terms
pub sides_ent : (x : Equation) (t u : Term) → entity_sides x ≡ Some (t, u) → x ≡ EntEquation t u
sides_ent (EntEquation a b) t u h =
    let p : ◌≡◌ {A = Term × Term} (a, b) (t, u) = same_Some (a, b) (t, u) h in
    rw (ap (λ (y : Term × Term). y.0) p, ap (λ (y : Term × Term). y.1) p) refl
sides_ent (TypEquation a b) t u h = absurd (none-some (t, u) h)

-- an equation that was read holds
pub given_holds : (s : Theory) (m : Content) (rows : List ℕ) (i : ℕ) (t u : Term) → slice_get s.given i ≡ Some (Some (t, u))
    → Agree m (slice_index rows t.generator) t.path (slice_index rows u.generator) u.path → GivenHolds s m rows i
given_holds s m rows i t u found here a b f x y tx ty =
    let q = same_sides t u a b (sym found ∙ f) in
    here x y (rw q.0 at tx) (rw q.1 at ty)

-- an equation between type terms says nothing of rows
pub given_holds_other : (s : Theory) (m : Content) (rows : List ℕ) (i : ℕ) → ((t u : Term) → slice_get s.given i ≡ Some (Some (t, u)) → ⊥) → GivenHolds s m rows i
given_holds_other s m rows i none t u f x y tx ty = absurd (none t u f)

-- what an equation that a loop reads is not
pub no_sides : (s : Theory) (xs : List Equation) (i : ℕ) (x : Equation) → s.given ≡ map entity_sides xs → i < length xs → x ≡ get_or xs i x → ((t u : Term) → x ≡ EntEquation t u → ⊥)
    → (t u : Term) → slice_get s.given i ≡ Some (Some (t, u)) → ⊥
no_sides s xs i x e l is never t u f =
    never t u (sides_ent x t u (same_Some (entity_sides x) (Some (t, u)) (sym (read_mapped entity_sides xs i x l is) ∙ (rw e at f))))
