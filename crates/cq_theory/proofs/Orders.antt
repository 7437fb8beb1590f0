-- Lists in a strict order that have the same members are equal, and entity terms have such an order.
use Rattle.std.proofs.Common.{ℕ, zero, suc, true, false, List, [], ◌∷◌, Some, ◌≡◌, ◌<◌, ◌⊎◌, length, get_or, refl, sym, ap, subst, ◌∙◌, inl, inr, arith}
use Rattle.std.specs.Prelude.{slice_get}
use Rattle.std.specs.Cmp.{IsTotalOrder}
use Rattle.std.specs.Ordering.{is_gt, is_lt, nat_cmp, ordering_then, ordering_reverse}
use Rattle.std.specs.declared.cmp.Ordering.{Ordering}
use Rattle.std.specs.declared.cmp.Ordering.TheVariants.{Less, Equal, Greater}
use Rattle.std.specs.Cmp.Lexicographic.{slice_cmp, on_texts}
use Rattle.std.proofs.lemmas.Cmp.{nat_cmp_total, then_total, on_total, tied_itself}
use Rattle.std.proofs.lemmas.Map.Lookups.{exact_unsigned, exact_bytes}
use Rattle.cq_theory.specs.declared.term.EntTerm.{EntTerm}
use Rattle.cq_theory.specs.EntTerm.{depth_of}
use Rattle.cq_theory.specs.Listed.{term_cmp}

-- x stands at some place of xs
abbrev pub IsIn : {X : Type 0} → X → List X → Type 0
IsIn x xs = (n : ℕ) × (slice_get xs n ≡ Some x)

module _ {X : Type 0} (Before : X → X → Type 0) where
  abbrev pub IsOrdered : List X → Type 0
  IsOrdered xs = (i j : ℕ) (x y : X) → i < j → slice_get xs i ≡ Some x → slice_get xs j ≡ Some y → Before x y

  abbrev pub Includes : List X → List X → Type 0
  Includes xs ys = (n : ℕ) (x : X) → slice_get xs n ≡ Some x → IsIn x ys

  head_or_before : (z : X) (zs : List X) → IsOrdered (z ∷ zs) → (n : ℕ) (x : X) → slice_get (z ∷ zs) n ≡ Some x → (z ≡ x) ⊎ Before z x
  head_or_before z zs ordered zero x h = let same : z ≡ x = cc in inl same
  head_or_before z zs ordered (suc n) x h = inr (ordered 0 (suc n) z x (omega arith) refl h)

  module _ (irreflexive : (x : X) → Before x x → ⊥) (asymmetric : (x y : X) → Before x y → Before y x → ⊥) where
    same_head : (x y : X) (xs ys : List X) → IsOrdered (x ∷ xs) → IsOrdered (y ∷ ys) → IsIn x (y ∷ ys) → IsIn y (x ∷ xs) → x ≡ y
    same_head x y xs ys o p i j =
        elim (head_or_before x xs o j.0 y j.1) [
          | inl same ↦ same
          | inr before ↦ elim (head_or_before y ys p i.0 x i.1) [ inl same ↦ sym same | inr after ↦ absurd (asymmetric x y before after) ]
        ]

    in_rest : (x y : X) (xs ys : List X) → x ≡ y → IsOrdered (x ∷ xs) → Includes (x ∷ xs) (y ∷ ys) → Includes xs ys
    in_rest x y xs ys same o i n z at =
        let before : Before x z = o 0 (suc n) x z (omega arith) refl at in
        past (i (suc n) z at).0 (i (suc n) z at).1
      where
        past : (m : ℕ) → slice_get (y ∷ ys) m ≡ Some z → IsIn z ys
        past zero here = let one : y ≡ z = cc in absurd (irreflexive x (subst (Before x) (sym (same ∙ one)) (o 0 (suc n) x z (omega arith) refl at)))
        past (suc m) there = (m, there)

    rest_ordered : (x : X) (xs : List X) → IsOrdered (x ∷ xs) → IsOrdered xs
    rest_ordered x xs o i j y z less at at' = o (suc i) (suc j) y z (omega arith) at at'

    pub one_order : (xs ys : List X) → IsOrdered xs → IsOrdered ys → Includes xs ys → Includes ys xs → xs ≡ ys
    one_order [] [] o p i j = refl
    one_order [] (y ∷ ys) o p i j = let none : slice_get [] (j 0 y refl).0 ≡ Some y = (j 0 y refl).1 in cc
    one_order (x ∷ xs) [] o p i j = let none : slice_get [] (i 0 x refl).0 ≡ Some x = (i 0 x refl).1 in cc
    one_order (x ∷ xs) (y ∷ ys) o p i j =
        let first : x ≡ y = same_head x y xs ys o p (i 0 x refl) (j 0 y refl) in
        let rest : xs ≡ ys = one_order xs ys (rest_ordered x xs o) (rest_ordered y ys p) (in_rest x y xs ys first o i) (in_rest y x ys xs (sym first) p j) in
        λ k. first k ∷ rest k

term_total : IsTotalOrder term_cmp
term_total = then_total (on_total depth_of nat_cmp_total) (then_total (on_total (λ (t : EntTerm). t.generator) nat_cmp_total) (on_texts (λ (t : EntTerm). t.path)))

then_equal : (o p : Ordering) → ordering_then o p ≡ Equal → (o ≡ Equal) × (p ≡ Equal)
then_equal Less p h = cc
then_equal Equal p h = (refl, h)
then_equal Greater p h = cc

-- terms that tie are equal
same_terms : (t u : EntTerm) → term_cmp t u ≡ Equal → t ≡ u
same_terms t u h =
    let outer = then_equal (nat_cmp (depth_of t) (depth_of u)) (ordering_then (nat_cmp t.generator u.generator) (slice_cmp nat_cmp t.path u.path)) h in
    let inner = then_equal (nat_cmp t.generator u.generator) (slice_cmp nat_cmp t.path u.path) outer.1 in
    let generators : t.generator ≡ u.generator = exact_unsigned t.generator u.generator inner.0 in
    let paths : t.path ≡ u.path = exact_bytes t.path u.path inner.1 in
    λ i. record { generator = generators i; path = paths i }

is_less : (o : Ordering) → is_lt o ≡ true → o ≡ Less
is_less Less h = refl
is_less Equal h = cc
is_less Greater h = cc

abbrev pub IsBefore : EntTerm → EntTerm → Type 0
IsBefore t u = is_lt (term_cmp t u) ≡ true

pub before-irreflexive : (t : EntTerm) → IsBefore t t → ⊥
before-irreflexive t h =
    let less : term_cmp t t ≡ Less = is_less (term_cmp t t) h in
    let tied : term_cmp t t ≡ Equal = tied_itself term_total t in
    cc

pub before-asymmetric : (t u : EntTerm) → IsBefore t u → IsBefore u t → ⊥
before-asymmetric t u h h' =
    let less : term_cmp t u ≡ Less = is_less (term_cmp t u) h in
    let back : ordering_reverse (term_cmp u t) ≡ ordering_reverse Less = ap ordering_reverse (is_less (term_cmp u t) h') in
    let turned : term_cmp t u ≡ ordering_reverse (term_cmp u t) = term_total.antisymm t u in
    let both : Less ≡ Greater = sym less ∙ turned ∙ back in
    cc

tied : (o p : Ordering) → o ≡ ordering_reverse p → is_gt o ≡ false → is_gt p ≡ false → o ≡ Equal
tied Equal p e h h' = refl
tied Greater p e h h' = cc
tied Less Less e h h' = cc
tied Less Equal e h h' = cc
tied Less Greater e h h' = cc

-- of two terms of which neither is greater than the other, the two are one
pub both_least : (t u : EntTerm) → is_gt (term_cmp t u) ≡ false → is_gt (term_cmp u t) ≡ false → t ≡ u
both_least t u h h' = same_terms t u (tied (term_cmp t u) (term_cmp u t) (term_total.antisymm t u) h h')

-- lists of one length with the same item at each place
pub same_lists : {X : Type 0} (d : X) (xs ys : List X) → length xs ≡ length ys → ((n : ℕ) → n < length xs → get_or xs n d ≡ get_or ys n d) → xs ≡ ys
same_lists d [] [] h same = refl
same_lists d [] (y ∷ ys) h same = absurd (omega arith)
same_lists d (x ∷ xs) [] h same = absurd (omega arith)
same_lists d (x ∷ xs) (y ∷ ys) h same =
    let first : x ≡ y = same 0 (omega arith) in
    let rest : xs ≡ ys = same_lists d xs ys (omega arith) (λ n within. same (suc n) (omega arith)) in
    λ i. first i ∷ rest i
