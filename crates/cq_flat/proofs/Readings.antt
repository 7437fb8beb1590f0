-- What is read of classes that are exact.
use Rattle.std.proofs.Common.{◌≡◌, ℕ, ◌<◌, List, length, get_or, Option, Some, None, sym, ◌∙◌, ap, subst, refl, arith, inl, inr, ⊎_elim}
use Rattle.std.proofs.lemmas.Bool.{cases_lt}
use Rattle.std.proofs.lemmas.List.{get_or_default, get_or_past}
use Rattle.std.proofs.lemmas.Option.{slice_get_within, slice_get-get_or, same_Some}
use Rattle.std.specs.Prelude.{slice_get, All}
use Rattle.cq_theory.specs.declared.value.Value.{Value}
use Rattle.cq_theory.specs.declared.value.Value.TheVariants as value
use Rattle.cq_theory.specs.Tables.{IsPlain}
use Rattle.cq_theory.specs.declared.constant.Con.{Con}
use Rattle.cq_theory.specs.declared.constant.Con.TheVariants.{Named}
use Rattle.cq_theory.specs.Constant.{IsAtMost}
use Rattle.cq_theory.proofs.Constants.{lesser-at_most, at_most-both, at_most-transitive, at_most-not_lesser, at_most-lesser, at_most-unless}
use Rattle.cq_flat.specs.declared.node.Node.{Node}
use Rattle.cq_flat.specs.declared.node.Node.TheVariants.{Const}
use Rattle.cq_flat.specs.Congruence.{Congruent, symmetric, constants}
use Rattle.cq_flat.specs.Closing.{AreExact}
use Rattle.cq_flat.specs.Constants.{AreLeast, IsLeastExcess, IsExcess}
use Rattle.cq_flat.specs.Labels.{AreApart, AreClassValues}
use Rattle.cq_flat.specs.Values.{HasConstant, IsLeastConstant, AreValues, AreEqualConstants, IsLeastClash, IsClash, value_at}
use Rattle.cq_flat.specs.Entries.{AreValuesOf}

module _ (nodes : List Node) (equations : List (ℕ × ℕ)) (classes : List ℕ) (x : AreExact nodes equations classes) where
  abbrev class : ℕ → ℕ
  class a = get_or classes a 0

  pub within_all : All (λ k. k < length nodes) classes
  within_all k d l =
      let h : k < length nodes = omega (arith, l, x.count) in
      rw (get_or_default classes k d 0 l) (x.within k h)

  one_class : (a b : ℕ) → a < length nodes → b < length nodes → Congruent nodes equations a b → class a ≡ class b
  one_class a b la lb c = (x.exact a b la lb).1 c

  module _ (least : List (Option Con)) (s : AreLeast nodes classes (length nodes) least) where
    abbrev least_of : ℕ → Option Con
    least_of k = get_or least k None

    least_within : (k : ℕ) (c : Con) → least_of k ≡ Some c → k < length nodes
    least_within k c e = elim (cases_lt k (length nodes)) as (λ _. k < length nodes) [
      | inl l ↦ l
      | inr g ↦ let i : None ≡ Some c = sym (get_or_past least k None (omega (arith, g, s.count))) ∙ e in absurd (cc)
    ]

    pub apart : AreApart least
    apart j k c e f =
        let p = (s.each j (least_within j c e)).held c e in
        let q = (s.each k (least_within k c f)).held c f in
        sym p.2 ∙ one_class p.0 q.0 (slice_get_within nodes p.0 (Const c) p.1) (slice_get_within nodes q.0 (Const c) q.1) (constants c p.1 q.1) ∙ q.2

    -- the least constant of a node's class, and the constants that are equal to the node
    constant_of : (a : ℕ) (c : Con) → a < length nodes → least_of (class a) ≡ Some c → HasConstant nodes equations a c
    constant_of a c l e =
        let o = (s.each (class a) (x.within a l)).held c e in
        record { at = o.0; is = o.1; equal = (x.exact a o.0 l (slice_get_within nodes o.0 (Const c) o.1)).0 (sym o.2) }

    below_constant : (a : ℕ) (d : Con) → a < length nodes → HasConstant nodes equations a d → (c : Con) × (least_of (class a) ≡ Some c) × IsAtMost c d
    below_constant a d l h =
        let b = slice_get_within nodes h.at (Const d) h.is in
        (s.each (class a) (x.within a l)).least h.at d b h.is (sym (one_class a h.at l b h.equal))

    least_constant : (a : ℕ) (c : Con) → a < length nodes → least_of (class a) ≡ Some c → IsLeastConstant nodes equations a c
    least_constant a c l e = record {
      has = constant_of a c l e;
      least = λ d h.
          let o = below_constant a d l h in
          let i : Some o.0 ≡ Some c = sym o.1 ∙ e in
          let j : o.0 ≡ c = cc in
          subst (λ z. IsAtMost z d) j o.2;
    }

    constant_least : (a : ℕ) (c : Con) → a < length nodes → IsLeastConstant nodes equations a c → least_of (class a) ≡ Some c
    constant_least a c l h =
        let o = below_constant a c l h.has in
        let i : o.0 ≡ c = at_most-both o.0 c o.2 (h.least o.0 (constant_of a o.0 l o.1)) in
        o.1 ∙ ap Some i

    module _ (values : List Value) (v : AreClassValues classes least values) where
      pub values_hold : AreValues nodes equations values
      values_hold = record {
        count = v.count ∙ x.count;
        equal = λ a b la lb.
            let p = v.equal a b (omega (arith, la, x.count)) (omega (arith, lb, x.count)) in
            let q = x.exact a b la lb in
            (λ e. q.0 (p.0 e), λ c. p.1 (q.1 c));
        constant = λ a c l.
            let p = v.constant a c (omega (arith, l, x.count)) in
            (λ e. least_constant a c l (p.0 e), λ h. p.1 (constant_least a c l h));
        plain = v.plain;
      }

      all_plain : All IsPlain values
      all_plain k d l = v.plain k (get_or values k d) (slice_get-get_or values k d l)

      at : (a : ℕ) → a < length nodes → slice_get values a ≡ Some (value_at values a)
      at a l = slice_get-get_or values a (value.Const (Named 0)) (omega (arith, l, v.count, x.count))

      pub values_serve : AreValuesOf (length nodes) classes values
      values_serve = record {
        classes_count = x.count;
        values_count = v.count ∙ x.count;
        plain = all_plain;
        equal = λ a b la lb.
            let p = v.equal a b (omega (arith, la, x.count)) (omega (arith, lb, x.count)) in
            (λ e. p.0 (at a la ∙ ap Some e ∙ sym (at b lb)), λ e. same_Some (value_at values a) (value_at values b) (sym (at a la) ∙ p.1 e ∙ at b lb));
      }

    -- the least constant of the class of two equal constants
    record Shared (c d : Con) (h : AreEqualConstants nodes equations c d) : Type 0 where
      shared : Con
      of_left : least_of (class h.left) ≡ Some shared
      of_right : least_of (class h.right) ≡ Some shared
      le_left : IsAtMost shared c
      le_right : IsAtMost shared d

    share : (c d : Con) (h : AreEqualConstants nodes equations c d) → Shared c d h
    share c d h =
        let ll = slice_get_within nodes h.left (Const c) h.left_is in
        let lr = slice_get_within nodes h.right (Const d) h.right_is in
        let one = one_class h.left h.right ll lr h.equal in
        let p = (s.each (class h.left) (x.within h.left ll)).least h.left c ll h.left_is refl in
        let q = (s.each (class h.left) (x.within h.left ll)).least h.right d lr h.right_is (sym one) in
        let i : Some q.0 ≡ Some p.0 = sym q.1 ∙ p.1 in
        let j : q.0 ≡ p.0 = cc in
        record { shared = p.0; of_left = p.1; of_right = ap least_of (sym one) ∙ p.1; le_left = p.2; le_right = subst (λ z. IsAtMost z d) j q.2 }

    no_clash : IsExcess nodes classes least (length nodes) None → (c d : Con) → AreEqualConstants nodes equations c d → c ≡ d
    no_clash none c d h =
        let o = share c d h in
        let l : IsAtMost c o.shared = at_most-unless c o.shared (λ g. none h.left o.shared c (slice_get_within nodes h.left (Const c) h.left_is) (h.left_is, o.of_left, g)) in
        let r : IsAtMost d o.shared = at_most-unless d o.shared (λ g. none h.right o.shared d (slice_get_within nodes h.right (Const d) h.right_is) (h.right_is, o.of_right, g)) in
        at_most-both c o.shared l o.le_left ∙ sym (at_most-both d o.shared r o.le_right)

    some_clash : (p : Con × Con) → IsLeastExcess nodes classes least (length nodes) p → IsLeastClash nodes equations p
    some_clash p e =
        let within = slice_get_within nodes e.node (Const p.1) e.exceeds.0 in
        let h = constant_of e.node p.0 within e.exceeds.1 in
        record {
          greater = e.exceeds.2;
          equal = record { left = h.at; right = e.node; left_is = h.is; right_is = e.exceeds.0; equal = symmetric h.equal };
          least = λ c d l q.
              let o = share c d q in
              let m = e.least q.right o.shared d (slice_get_within nodes q.right (Const d) q.right_is) (q.right_is, o.of_right, at_most-lesser o.shared c d o.le_left l) in
              ⊎_elim (λ f. at_most-transitive p.0 o.shared c (lesser-at_most p.0 o.shared f) o.le_left) (λ f. subst (λ z. IsAtMost z c) (sym f.0) o.le_left) m;
          next = λ d l q.
              let o = share p.0 d q in
              let m = e.least q.right o.shared d (slice_get_within nodes q.right (Const d) q.right_is) (q.right_is, o.of_right, at_most-lesser o.shared p.0 d o.le_left l) in
              ⊎_elim (λ f. absurd (at_most-not_lesser o.shared p.0 o.le_left f)) (λ f. f.1) m;
        }

    pub clash_holds : (clash : Option (Con × Con)) → IsExcess nodes classes least (length nodes) clash → IsClash nodes equations clash
    clash_holds None e = no_clash e
    clash_holds (Some p) e = some_clash p e
