-- Constants: equality, order and types.
use Rattle.std.proofs.Common.{ℕ, Bool, true, false, List, Option, Some, None, ◌≡◌, ◌<◌, ◌||◌, ◌⊎◌, inl, inr, length, refl, sym, ap, subst, ◌∙◌}
use Rattle.std.specs.Prelude.{cond, All, IfSome, is_some, option_map, slice_get}
use Rattle.std.specs.Ordering.{is_lt, is_gt, is_eq, ordering_reverse}
use Rattle.std.specs.declared.cmp.Ordering.{Ordering}
use Rattle.std.specs.declared.cmp.Ordering.TheVariants.{Less, Equal, Greater}
use Rattle.std.proofs.lemmas.Cmp.{tied_itself, upto}
use Rattle.std.proofs.lemmas.Map.Lookups.{exact_unsigned, exact_bytes}
use Rattle.std.proofs.lemmas.Option.{slice_get_within, get_or_from_slice_get}
use Rattle.cq_base.specs.declared.name.Name.{Name}
use Rattle.cq_base.specs.Names.{number_of}
use Rattle.cq_theory.specs.declared.constant.Con.{Con}
use Rattle.cq_theory.specs.declared.constant.Con.TheVariants.{Named, Open}
use Rattle.cq_theory.specs.Constant.{same_con, con_cmp, con_total, con_ties, con_equal, IsLesser, IsAtMost}
use Rattle.cq_theory.specs.TypesideData.{TypesideData as Typeside}
use Rattle.cq_theory.specs.Typeside.{IsTypeside, is_reserved, constant_names, constant_type}

is_equal : (o : Ordering) → is_eq o ≡ true → o ≡ Equal
is_equal Less h = cc
is_equal Equal h = refl
is_equal Greater h = cc

is_less : (o : Ordering) → is_lt o ≡ true → o ≡ Less
is_less Less h = refl
is_less Equal h = cc
is_less Greater h = cc

-- constants that the order doesn't tell apart are equal
pub con_tied : (c d : Con) → con_cmp c d ≡ Equal → c ≡ d
con_tied (Named m) (Named n) h = ap Named (exact_unsigned m n h)
con_tied (Named m) (Open t) h = cc
con_tied (Open s) (Named n) h = cc
con_tied (Open s) (Open t) h = ap Open (exact_bytes s t h)

-- the test of equality is true exactly where the constants are equal
pub same_con_true : (c d : Con) → same_con c d ≡ true → c ≡ d
same_con_true c d h = con_tied c d (is_equal (con_cmp c d) (sym (con_ties c d) ∙ h))

pub same_con_itself : (c : Con) → same_con c c ≡ true
same_con_itself c = con_equal.refl c

-- the order is irreflexive and transitive, and of two constants that aren't equal one is the lesser
pub lesser-irreflexive : (c : Con) → IsLesser c c → ⊥
lesser-irreflexive c h = let itself : is_lt (con_cmp c c) ≡ false = ap is_lt (tied_itself con_total c) in cc

pub lesser-transitive : (b c d : Con) → IsLesser b c → IsLesser c d → IsLesser b d
lesser-transitive b c d h k = ap is_lt (con_total.trans b c d (is_less (con_cmp b c) h) (is_less (con_cmp c d) k))

pub con_cases : (c d : Con) → IsLesser c d ⊎ ((c ≡ d) ⊎ IsLesser d c)
con_cases c d = at_order (con_cmp c d) refl
  where
    at_order : (o : Ordering) → con_cmp c d ≡ o → IsLesser c d ⊎ ((c ≡ d) ⊎ IsLesser d c)
    at_order Less e = inl (ap is_lt e)
    at_order Equal e = inr (inl (con_tied c d e))
    at_order Greater e = inr (inr (ap is_lt (con_total.antisymm d c ∙ ap ordering_reverse e)))

-- two constants are equal or not
pub con_decided : (c d : Con) → (c ≡ d) ⊎ (c ≡ d → ⊥)
con_decided c d =
    elim (con_cases c d) [
      | inl less ↦ inr (λ same. lesser-irreflexive d (subst (λ z. IsLesser z d) same less))
      | inr other ↦ elim other [ inl same ↦ inl same | inr more ↦ inr (λ same. lesser-irreflexive d (subst (IsLesser d) same more)) ]
    ]

pub same_con_other : (c d : Con) → (c ≡ d → ⊥) → same_con c d ≡ false
same_con_other c d other = at_test (same_con c d) refl
  where
    at_test : (b : Bool) → same_con c d ≡ b → b ≡ false
    at_test true e = absurd (other (same_con_true c d e))
    at_test false e = refl

pub greater-lesser : (c d : Con) → is_gt (con_cmp c d) ≡ true → IsLesser d c
greater-lesser c d h = at_order (con_cmp c d) refl h
  where
    at_order : (o : Ordering) → con_cmp c d ≡ o → is_gt o ≡ true → IsLesser d c
    at_order Less e k = cc
    at_order Equal e k = cc
    at_order Greater e k = ap is_lt (con_total.antisymm d c ∙ ap ordering_reverse e)

pub lesser-at_most : (c d : Con) → IsLesser c d → IsAtMost c d
lesser-at_most c d h = ap is_gt (is_less (con_cmp c d) h)

pub at_most-itself : (c : Con) → IsAtMost c c
at_most-itself c = ap is_gt (tied_itself con_total c)

pub at_most-transitive : (b c d : Con) → IsAtMost b c → IsAtMost c d → IsAtMost b d
at_most-transitive = upto con_total

pub at_most-not_lesser : (c d : Con) → IsAtMost c d → IsLesser d c → ⊥
at_most-not_lesser c d h k = let back : is_gt (con_cmp c d) ≡ true = ap is_gt (con_total.antisymm c d ∙ ap ordering_reverse (is_less (con_cmp d c) k)) in cc

pub at_most-unless : (c d : Con) → (IsLesser d c → ⊥) → IsAtMost c d
at_most-unless c d h =
    elim (con_cases c d) [
      | inl less ↦ lesser-at_most c d less
      | inr other ↦ elim other [ inl same ↦ subst (IsAtMost c) same (at_most-itself c) | inr more ↦ absurd (h more) ]
    ]

pub at_most-lesser : (b c d : Con) → IsAtMost b c → IsLesser c d → IsLesser b d
at_most-lesser b c d h k =
    elim (con_cases b c) [
      | inl less ↦ lesser-transitive b c d less k
      | inr other ↦ elim other [ inl same ↦ subst (λ z. IsLesser z d) (sym same) k | inr more ↦ absurd (at_most-not_lesser b c h more) ]
    ]

pub at_most-both : (c d : Con) → IsAtMost c d → IsAtMost d c → c ≡ d
at_most-both c d h k =
    elim (con_cases c d) [
      | inl less ↦ absurd (at_most-not_lesser d c k less)
      | inr other ↦ elim other [ inl same ↦ same | inr more ↦ absurd (at_most-not_lesser c d h more) ]
    ]

-- a declared constant that has a type is in range
pub named_within : (T : Typeside) (n type : ℕ) → constant_type T (Named n) ≡ Some type → n < length T.constants
named_within T n type h = at_constant (slice_get T.constants n) refl h
  where
    at_constant : (o : Option (Name × ℕ)) → slice_get T.constants n ≡ o → option_map (λ (constant : Name × ℕ). constant.1) o ≡ Some type → n < length T.constants
    at_constant None is e = cc
    at_constant (Some constant) is e = slice_get_within T.constants n constant is

-- a claim on all members, at one of them
at_member : {X : Type 0} (P : X → Type 0) (xs : List X) (n : ℕ) (x : X) → All P xs → slice_get xs n ≡ Some x → P x
at_member P xs n x all h = subst P (get_or_from_slice_get xs n x x h) (all n x (slice_get_within xs n x h))

-- the type of a constant is one of the types
pub constant_type-within : (T : Typeside) → IsTypeside T → (c : Con) (type : ℕ) → constant_type T c ≡ Some type → type < length T.types
constant_type-within T made (Named n) type h = at_constant (slice_get T.constants n) refl h
  where
    at_constant : (o : Option (Name × ℕ)) → slice_get T.constants n ≡ o → option_map (λ (constant : Name × ℕ). constant.1) o ≡ Some type → type < length T.types
    at_constant None is e = cc
    at_constant (Some constant) is e =
        let same : constant.1 ≡ type = cc in
        subst (λ k. k < length T.types) same (at_member (λ (k : Name × ℕ). k.1 < length T.types) T.constants n constant made.constants is)
constant_type-within T made (Open text) type h = at_test (is_reserved text || is_some (number_of (constant_names T) text)) h
  where
    at_open : (o : Option ℕ) → T.open_type ≡ o → o ≡ Some type → type < length T.types
    at_open None is e = cc
    at_open (Some k) is e =
        let same : k ≡ type = cc in
        subst (λ n. n < length T.types) same (subst (λ o. IfSome o (λ n. n < length T.types)) is made.open_type)

    at_test : (b : Bool) → cond b None T.open_type ≡ Some type → type < length T.types
    at_test true e = cc
    at_test false e = at_open T.open_type refl e

-- a text has the open type where it isn't reserved and isn't declared
pub open_typed : (T : Typeside) (text : Name) (type : ℕ) → is_reserved text ≡ false → number_of (constant_names T) text ≡ None → T.open_type ≡ Some type → constant_type T (Open text) ≡ Some type
open_typed T text type free undeclared is =
    ap (λ b. cond (b || is_some (number_of (constant_names T) text)) None T.open_type) free ∙ ap (λ o. cond (is_some o) None T.open_type) undeclared ∙ is
