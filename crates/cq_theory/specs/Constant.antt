-- Constants: declared ones by their numbers, and texts, which are open ones.
use Rattle.std.specs.Prelude.{ℕ, Bool, true, false, List, [], Some, ◌≡◌, ◌==◌}
use Rattle.std.specs.Cmp.{IsTotalOrder, IsEquivalence, IsPartialOrder, unsigned_ties, partial_order_from_agreeing_total}
use Rattle.std.specs.Cmp.Lexicographic.{slice_cmp, texts_ties}
use Rattle.std.specs.Ordering.{nat_cmp, ordering_then, then_cmp, on, eq_by_cmp, is_lt, is_gt}
use Rattle.std.specs.declared.cmp.Ordering.{Ordering}
use Rattle.std.specs.declared.cmp.Ordering.TheVariants.{Less, Equal, Greater}
use Rattle.std.proofs.Common.{refl, sym, subst}
use Rattle.std.proofs.lemmas.Cmp.{nat_cmp_total, nat_list_cmp_total, then_total, on_total, eq_by_cmp_equiv}
use Rattle.cq_base.specs.Names.{same_name}
use Rattle.cq_theory.specs.declared.constant.Con.{Con}
use Rattle.cq_theory.specs.declared.constant.Con.TheVariants.{Named, Open}

-- the same declared constant, or the same text
abbrev pub same_con : Con → Con → Bool
same_con (Named m) (Named n) = m == n
same_con (Named m) (Open t) = false
same_con (Open s) (Named n) = false
same_con (Open s) (Open t) = same_name s t

-- the order of constants: the declared ones first, by number, then the open ones, by their bytes
abbrev pub con_cmp : Con → Con → Ordering
con_cmp (Named m) (Named n) = nat_cmp m n
con_cmp (Named m) (Open t) = Less
con_cmp (Open s) (Named n) = Greater
con_cmp (Open s) (Open t) = slice_cmp nat_cmp s t

abbrev pub IsLesser : Con → Con → Type 0
IsLesser c d = is_lt (con_cmp c d) ≡ true

abbrev pub IsAtMost : Con → Con → Type 0
IsAtMost c d = is_gt (con_cmp c d) ≡ false

-- The order is total: it compares kinds, then numbers, then texts.
abbrev kind_of : Con → ℕ
kind_of (Named n) = 0
kind_of (Open t) = 1

abbrev number_in : Con → ℕ
number_in (Named n) = n
number_in (Open t) = 0

abbrev text_in : Con → List ℕ
text_in (Named n) = []
text_in (Open t) = t

abbrev by_parts : Con → Con → Ordering
by_parts = then_cmp (on kind_of nat_cmp) (then_cmp (on number_in nat_cmp) (on text_in (slice_cmp nat_cmp)))

then_equal : (o : Ordering) → ordering_then o Equal ≡ o
then_equal Less = refl
then_equal Equal = refl
then_equal Greater = refl

by_parts-is : (c d : Con) → by_parts c d ≡ con_cmp c d
by_parts-is (Named m) (Named n) = then_equal (nat_cmp m n)
by_parts-is (Named m) (Open t) = refl
by_parts-is (Open s) (Named n) = refl
by_parts-is (Open s) (Open t) = refl

pub con_total : IsTotalOrder con_cmp
con_total = subst IsTotalOrder (λ i c d. by_parts-is c d i) (then_total (on_total kind_of nat_cmp_total)
    (then_total (on_total number_in nat_cmp_total) (on_total text_in nat_list_cmp_total)))

-- equal constants are those that the order doesn't tell apart
pub con_ties : (c d : Con) → same_con c d ≡ eq_by_cmp con_cmp c d
con_ties (Named m) (Named n) = unsigned_ties m n
con_ties (Named m) (Open t) = refl
con_ties (Open s) (Named n) = refl
con_ties (Open s) (Open t) = texts_ties s t

pub con_equal : IsEquivalence same_con
con_equal = subst IsEquivalence (λ i c d. sym (con_ties c d) i) (eq_by_cmp_equiv con_total)

pub con_order : IsPartialOrder same_con (λ c d. Some (con_cmp c d))
con_order = partial_order_from_agreeing_total con_cmp con_total (λ c d. refl) con_ties
