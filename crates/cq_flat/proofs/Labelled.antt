-- What the labels and values of all nodes say.
use Rattle.std.proofs.Common.{◌≡◌, ◌≢◌, ℕ, ◌<◌, List, length, get_or, Option, Some, None, sym, ◌∙◌, ap, refl, arith, ◌⊎◌, inl, inr, ⊎_elim}
use Rattle.std.proofs.lemmas.Option.{slice_get_within, get_or_from_slice_get}
use Rattle.std.specs.Prelude.{slice_get}
use Rattle.cq_theory.specs.declared.constant.Con.{Con}
use Rattle.cq_theory.specs.declared.value.Value.{Value}
use Rattle.cq_theory.specs.declared.value.Value.TheVariants.{Const, Null}
use Rattle.cq_theory.specs.Tables.{IsPlain}
use Rattle.cq_flat.specs.Labels.{AreApart, AreClassValues, AreLabelled}
use Rattle.cq_flat.specs.Values.{AreLabels}

module _ (classes : List ℕ) (least : List (Option Con)) (n : ℕ) (labels : List (Option ℕ)) (nulls : List ℕ) (values : List Value) (s : AreLabelled classes least n labels nulls values) where
  class : ℕ → ℕ
  class a = get_or classes a 0

  least_at : ℕ → Option Con
  least_at a = get_or least (get_or classes a 0) None

  -- a constant, or a null with the label of its class
  cases : (a : ℕ) → a < n → ((c : Con) × (get_or least (get_or classes a 0) None ≡ Some c) × (slice_get values a ≡ Some (Const c)))
      ⊎ ((l : ℕ) × (get_or labels (get_or classes a 0) None ≡ Some l) × (slice_get values a ≡ Some (Null l)) × (get_or least (get_or classes a 0) None ≡ None))
  cases a h = by (get_or least (get_or classes a 0) None) refl where
    by : (o : Option Con) → get_or least (get_or classes a 0) None ≡ o → ((c : Con) × (get_or least (get_or classes a 0) None ≡ Some c) × (slice_get values a ≡ Some (Const c)))
        ⊎ ((l : ℕ) × (get_or labels (get_or classes a 0) None ≡ Some l) × (slice_get values a ≡ Some (Null l)) × (get_or least (get_or classes a 0) None ≡ None))
    by None e = let o = s.null a h e in inr (o.0, o.1, o.2, e)
    by (Some c) e = inl (c, e, s.constant a c h e)

  has_null : (label node : ℕ) → slice_get nulls label ≡ Some node → slice_get values node ≡ Some (Null label)
  has_null label node e =
      let l = slice_get_within nulls label node e in
      let at = get_or_from_slice_get nulls label node 0 e in
      let o = rw at at (s.owner label l) in
      let p = s.label (get_or classes node 0) label o.1 in
      let q = s.null node o.0 p.2 in
      let i : Some q.0 ≡ Some label = sym q.1 ∙ o.1 in
      let j : q.0 ≡ label = cc in
      q.2 ∙ ap (λ z. Some (Null z)) j

  not_before : (label node m : ℕ) → slice_get nulls label ≡ Some node → m < node → slice_get values m ≢ Some (Null label)
  not_before label node m e h v =
      let l = slice_get_within nulls label node e in
      let at = get_or_from_slice_get nulls label node 0 e in
      let o = rw at at (s.owner label l) in
      let b : m < n = omega (arith, h, o.0) in
      ⊎_elim (λ k. let i : Some (Const k.0) ≡ Some (Null label) = sym k.2 ∙ v in absurd (cc))
      (λ k.
      let i : Some (Null k.0) ≡ Some (Null label) = sym k.2 ∙ v in
      let j : k.0 ≡ label = cc in
      let p = s.label (get_or classes m 0) label (k.1 ∙ ap Some j) in
      s.first label m l (rw at h) (sym p.1))
      (cases m b)

  pub labels_are : AreLabels values nulls
  labels_are = record { labels = s.order; first = λ label node e. record { has = has_null label node e; first = λ m h. not_before label node m e h } }

  module _ (all : n ≡ length classes) (apart : AreApart least) where
    same_class : (a b : ℕ) → a < n → b < n → slice_get values a ≡ slice_get values b → get_or classes a 0 ≡ get_or classes b 0
    same_class a b la lb v = ⊎_elim
        (λ k. ⊎_elim
        (λ m.
        let i : Some (Const k.0) ≡ Some (Const m.0) = sym k.2 ∙ v ∙ m.2 in
        let j : k.0 ≡ m.0 = cc in
        apart (get_or classes a 0) (get_or classes b 0) m.0 (k.1 ∙ ap Some j) m.1)
        (λ m. let i : Some (Const k.0) ≡ Some (Null m.0) = sym k.2 ∙ v ∙ m.2 in absurd (cc))
        (cases b lb))
        (λ k. ⊎_elim
        (λ m. let i : Some (Null k.0) ≡ Some (Const m.0) = sym k.2 ∙ v ∙ m.2 in absurd (cc))
        (λ m.
        let i : Some (Null k.0) ≡ Some (Null m.0) = sym k.2 ∙ v ∙ m.2 in
        let j : k.0 ≡ m.0 = cc in
        let p = s.label (get_or classes a 0) m.0 (k.1 ∙ ap Some j) in
        let q = s.label (get_or classes b 0) m.0 m.1 in
        sym p.1 ∙ q.1)
        (cases b lb))
        (cases a la)

    same_value : (a b : ℕ) → a < n → b < n → get_or classes a 0 ≡ get_or classes b 0 → slice_get values a ≡ slice_get values b
    same_value a b la lb e = ⊎_elim
        (λ k. k.2 ∙ sym (s.constant b k.0 lb (ap (λ z. get_or least z None) (sym e) ∙ k.1)))
        (λ k.
        let m = s.null b lb (ap (λ z. get_or least z None) (sym e) ∙ k.3) in
        let i : Some k.0 ≡ Some m.0 = sym k.1 ∙ ap (λ z. get_or labels z None) e ∙ m.1 in
        let j : k.0 ≡ m.0 = cc in
        k.2 ∙ ap (λ z. Some (Null z)) j ∙ sym m.2)
        (cases a la)

    is_constant : (a : ℕ) (c : Con) → a < n → slice_get values a ≡ Some (Const c) → get_or least (get_or classes a 0) None ≡ Some c
    is_constant a c l v = ⊎_elim
        (λ k. let i : Some (Const k.0) ≡ Some (Const c) = sym k.2 ∙ v in let j : k.0 ≡ c = cc in k.1 ∙ ap Some j)
        (λ k. let i : Some (Null k.0) ≡ Some (Const c) = sym k.2 ∙ v in absurd (cc))
        (cases a l)

    is_plain : (a : ℕ) (v : Value) → slice_get values a ≡ Some v → IsPlain v
    is_plain a v e = ⊎_elim
        (λ k. let i : Some v ≡ Some (Const k.0) = sym e ∙ k.2 in let j : v ≡ Const k.0 = cc in rw j tt)
        (λ k. let i : Some v ≡ Some (Null k.0) = sym e ∙ k.2 in let j : v ≡ Null k.0 = cc in rw j tt)
        (cases a (omega (arith, slice_get_within values a v e, s.made)))

    pub values_are : AreClassValues classes least values
    values_are = record {
      count = s.made ∙ all;
      equal = λ a b la lb. (same_class a b (omega (arith, la, all)) (omega (arith, lb, all)), same_value a b (omega (arith, la, all)) (omega (arith, lb, all)));
      constant = λ a c l. (is_constant a c (omega (arith, l, all)), s.constant a c (omega (arith, l, all)));
      plain = is_plain;
    }
