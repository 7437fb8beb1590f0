-- The functions that have a node as an argument.
use Rattle.std.proofs.Common.{◌≡◌, ◌≢◌, ℕ, ◌+◌, ◌<◌, List, [], ◌∷◌, ◌++◌, length, get_or, take, Some, sym, ◌∙◌, ap, refl, arith, ◌⊎◌, inl, inr, ⊎_elim}
use Rattle.std.proofs.lemmas.Bool.{cases_eq, cases_lt, eq-eqb, ne_eqb}
use Rattle.std.proofs.lemmas.Option.{slice_get_within}
use Rattle.std.specs.Prelude.{slice_get, if◌then◌else◌, ◌==◌}
use Rattle.cq_flat.specs.declared.node.Node.{Node}
use Rattle.cq_flat.specs.declared.node.Node.TheVariants.{Fun}
use Rattle.cq_flat.specs.Partition.{Has}
use Rattle.cq_flat.specs.Closing.{AddsUses, AreUses}
use Rattle.cq_flat.proofs.Members.{has_none, has_left, has_last, has_push, has_more}

-- a number is put at the end of one list
module _ (old new : List (List ℕ)) (x node : ℕ) (e : (k : ℕ) → get_or new k [] ≡ (if k == x then get_or old x [] ++ node ∷ [] else get_or old k [])) where
  same : get_or new x [] ≡ get_or old x [] ++ node ∷ []
  same = e x ∙ rw (eq-eqb x x refl) refl

  other : (k : ℕ) → k ≢ x → get_or new k [] ≡ get_or old k []
  other k n = e k ∙ rw (ne_eqb k x n) refl

  pub pushed_kept : (k a : ℕ) → Has (get_or old k []) a → Has (get_or new k []) a
  pushed_kept k a h = elim (cases_eq k x) as (λ _. Has (get_or new k []) a) [
    | inl i ↦ rw (i, same) (has_left (get_or old x []) (node ∷ []) a (rw i at h))
    | inr n ↦ rw (other k n) h
  ]

  pub pushed_here : Has (get_or new x []) node
  pushed_here = rw same (has_last (get_or old x []) node)

  pub pushed_fewer : (k a : ℕ) → Has (get_or new k []) a → Has (get_or old k []) a ⊎ (a ≡ node)
  pushed_fewer k a h = elim (cases_eq k x) as (λ _. Has (get_or old k []) a ⊎ (a ≡ node)) [
    | inl i ↦ ⊎_elim (λ o. inl (rw i o)) (λ o. inr (sym o)) (has_push (get_or old x []) node a (rw (i, same) at h))
    | inr n ↦ inl (rw (other k n) at h)
  ]

pub adds_none : (lists : List (List ℕ)) (node : ℕ) → AddsUses lists lists node []
adds_none lists node = record { kept = λ k a h. h; added = λ x h. absurd (has_none x h); fewer = λ k a h. inl h }

pub adds_more : (old mid new : List (List ℕ)) (node : ℕ) (args : List ℕ) (i : ℕ) → i < length args
    → ((k : ℕ) → get_or new k [] ≡ (if k == get_or args i 0 then get_or mid (get_or args i 0) [] ++ node ∷ [] else get_or mid k []))
    → AddsUses old mid node (take i args) → AddsUses old new node (take (i + 1) args)
adds_more old mid new node args i l e u =
    let x : ℕ = get_or args i 0 in
    record {
      kept = λ k a h. pushed_kept mid new x node e k a (u.kept k a h);
      added = λ y h. ⊎_elim (λ o. pushed_kept mid new x node e y node (u.added y o)) (λ o. rw (← o) (pushed_here mid new x node e)) (has_more args i y l h);
      fewer = λ k a h. ⊎_elim (λ o. u.fewer k a o) inr (pushed_fewer mid new x node e k a h);
    }

-- of the first n nodes
pub record HasUsesBelow (nodes : List Node) (uses : List (List ℕ)) (n : ℕ) : Type 0 where
  pub listed : (a f x : ℕ) (args : List ℕ) → a < n → slice_get nodes a ≡ Some (Fun f args) → Has args x → Has (get_or uses x []) a
  pub within : (k a : ℕ) → Has (get_or uses k []) a → a < n

pub uses_none : (nodes : List Node) → HasUsesBelow nodes [] 0
uses_none nodes = record {
  listed = λ a f x args l is h. absurd (omega (arith, l));
  within = λ k a h. absurd (has_none a h);
}

pub uses_plain : (nodes : List Node) (uses : List (List ℕ)) (n : ℕ) → ((f : ℕ) (args : List ℕ) → slice_get nodes n ≡ Some (Fun f args) → ⊥) → HasUsesBelow nodes uses n → HasUsesBelow nodes uses (n + 1)
uses_plain nodes uses n plain u = record {
  listed = λ a f x args l is h. elim (cases_lt a n) as (λ _. Has (get_or uses x []) a) [
    | inl b ↦ u.listed a f x args b is h
    | inr g ↦ let e : a ≡ n = omega arith in absurd (plain f args (rw e at is))
  ];
  within = λ k a h. omega (arith, u.within k a h);
}

pub uses_more : (nodes : List Node) (uses uses' : List (List ℕ)) (n g : ℕ) (own : List ℕ) → slice_get nodes n ≡ Some (Fun g own) → AddsUses uses uses' n own → HasUsesBelow nodes uses n → HasUsesBelow nodes uses' (n + 1)
uses_more nodes uses uses' n g own here adds u = record {
  listed = λ a f x args l is h. elim (cases_lt a n) as (λ _. Has (get_or uses' x []) a) [
    | inl b ↦ adds.kept x a (u.listed a f x args b is h)
    | inr q ↦
        let e : a ≡ n = omega arith in
        let i : Some (Fun f args) ≡ Some (Fun g own) = sym is ∙ ap (slice_get nodes) e ∙ here in
        let o : args ≡ own = cc in
        rw e (adds.added x (rw o at h))
  ];
  within = λ k a h. ⊎_elim (λ o. omega (arith, u.within k a o)) (λ o. omega (arith, o)) (adds.fewer k a h);
}

pub uses_all : (nodes : List Node) (uses : List (List ℕ)) (n : ℕ) → n ≡ length nodes → HasUsesBelow nodes uses n → AreUses nodes uses
uses_all nodes uses n e u = record {
  listed = λ a f x args is h. u.listed a f x args (omega (arith, e, slice_get_within nodes a (Fun f args) is)) is h;
  within = λ k a h. omega (arith, e, u.within k a h);
}
