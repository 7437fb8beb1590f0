-- One more node gets its value.
use Rattle.std.proofs.Common.{◌≡◌, ◌≢◌, ℕ, ◌+◌, ◌<◌, false, eqb, ltb, List, [], ◌∷◌, ◌++◌, length, get_or, replicate, Option, Some, None, sym, ◌∙◌, ap, refl, arith, inl, inr, ◌||◌}
use Rattle.std.proofs.Math.ListN.{set}
use Rattle.std.proofs.lemmas.Bool.{cases_eq, cases_lt, eq-eqb, ne_eqb, lt-ltb, le-ltb}
use Rattle.std.proofs.lemmas.List.{length-set, get_or-set_same, get_or-set_other, get_or-replicate, length-replicate, length_push, get_or_append_left, get_or_push, get_or_past}
use Rattle.std.proofs.lemmas.List.Elements.{filter_map-append}
use Rattle.std.proofs.lemmas.List.Folds.{list_any-append}
use Rattle.std.specs.Prelude.{slice_get, nat_eq}
use Rattle.std.specs.List.{filter_map, list_any, range_with_len}
use Rattle.cq_theory.specs.declared.constant.Con.{Con}
use Rattle.cq_theory.specs.declared.value.Value.{Value}
use Rattle.cq_theory.specs.declared.value.Value.TheVariants.{Const, Null}
use Rattle.cq_theory.specs.Listed.{firsts, null_label}
use Rattle.cq_flat.specs.Labels.{AreLabelled}
use Rattle.cq_flat.proofs.Firsts.{firsts_push, slice_get-left, slice_get-last}
use Rattle.cq_flat.proofs.Rings.{range_more}

module _ (classes : List ℕ) (least : List (Option Con)) where
  abbrev class : ℕ → ℕ
  class a = get_or classes a 0

  abbrev least_of : ℕ → Option Con
  least_of k = get_or least k None

  pub labelled_none : AreLabelled classes least 0 (replicate (length classes) None) [] []
  labelled_none = record {
    count = length-replicate (length classes) None;
    made = refl;
    constant = λ a c l e. absurd (omega (arith, l));
    null = λ a l e. absurd (omega (arith, l));
    owner = λ k l. absurd (omega (arith, l));
    label = λ k l e. let i = sym (empty (length classes) k) ∙ e in absurd (cc);
    first = λ k a l h. absurd (omega (arith, l));
    known = λ k. sym (le-ltb k 0 (omega arith));
    order = refl;
  } where
    empty : (n k : ℕ) → get_or {A = Option ℕ} (replicate n None) k None ≡ None
    empty n k = elim (cases_lt k n) as (λ _. get_or {A = Option ℕ} (replicate n None) k None ≡ None) [
      | inl l ↦ get_or-replicate n k None None l
      | inr g ↦ get_or_past (replicate n None) k None (omega (arith, g, length-replicate {A = Option ℕ} n None))
    ]

  module _ (n : ℕ) (labels : List (Option ℕ)) (nulls : List ℕ) (values : List Value) (s : AreLabelled classes least n labels nulls values) where
    labels_of : (v : Value) → filter_map null_label (values ++ v ∷ []) ≡ filter_map null_label values ++ filter_map null_label (v ∷ [])
    labels_of v = filter_map-append null_label values (v ∷ [])

    -- the class has a constant
    pub labelled_constant : (c : Con) → least_of (class n) ≡ Some c → AreLabelled classes least (n + 1) labels nulls (values ++ Const c ∷ [])
    labelled_constant c e = record {
      count = s.count;
      made = length_push values (Const c) ∙ ap (λ z. z + 1) s.made;
      constant = λ a d l h. elim (cases_lt a n) as (λ _. slice_get (values ++ Const c ∷ []) a ≡ Some (Const d)) [
        | inl m ↦ slice_get-left values (Const c ∷ []) a (Const d) (s.constant a d m h)
        | inr g ↦
            let i : a ≡ n = omega arith in
            let j : Some c ≡ Some d = sym e ∙ ap (λ z. least_of (class z)) (sym i) ∙ h in
            let k : c ≡ d = cc in
            slice_get-last values a (Const c) (s.made ∙ sym i) ∙ ap (λ z. Some (Const z)) k
      ];
      null = λ a l h. elim (cases_lt a n) as (λ _. (label : ℕ) × (get_or labels (class a) None ≡ Some label) × (slice_get (values ++ Const c ∷ []) a ≡ Some (Null label))) [
        | inl m ↦ let o = s.null a m h in (o.0, o.1, slice_get-left values (Const c ∷ []) a (Null o.0) o.2)
        | inr g ↦
            let i : a ≡ n = omega arith in
            let j : Some c ≡ None = sym e ∙ ap (λ z. least_of (class z)) (sym i) ∙ h in
            absurd (cc)
      ];
      owner = λ k l. let o = s.owner k l in (omega (arith, o.0), o.1);
      label = s.label;
      first = s.first;
      known = λ k. ap (list_any (λ x. nat_eq x k)) (labels_of (Const c) ∙ append_none (filter_map null_label values)) ∙ s.known k;
      order = ap (firsts nat_eq) (labels_of (Const c) ∙ append_none (filter_map null_label values)) ∙ s.order;
    } where
      append_none : (xs : List ℕ) → xs ++ [] ≡ xs
      append_none [] = refl
      append_none (x ∷ xs) = ap (λ zs. x ∷ zs) (append_none xs)

    -- what changes where the class has a label, and where it gets the next one
    module _ (labels' : List (Option ℕ)) (nulls' : List ℕ) (own : ℕ) (e : least_of (class n) ≡ None)
        (kept : (k l : ℕ) → get_or labels k None ≡ Some l → get_or labels' k None ≡ Some l)
        (here : get_or labels' (class n) None ≡ Some own) where
      constant_null : (a : ℕ) (c : Con) → a < n + 1 → least_of (class a) ≡ Some c → slice_get (values ++ Null own ∷ []) a ≡ Some (Const c)
      constant_null a c l h = elim (cases_lt a n) as (λ _. slice_get (values ++ Null own ∷ []) a ≡ Some (Const c)) [
        | inl m ↦ slice_get-left values (Null own ∷ []) a (Const c) (s.constant a c m h)
        | inr g ↦
            let i : a ≡ n = omega arith in
            let j : None ≡ Some c = sym e ∙ ap (λ z. least_of (class z)) (sym i) ∙ h in
            absurd (cc)
      ]

      null_null : (a : ℕ) → a < n + 1 → least_of (class a) ≡ None → (label : ℕ) × (get_or labels' (class a) None ≡ Some label) × (slice_get (values ++ Null own ∷ []) a ≡ Some (Null label))
      null_null a l h = elim (cases_lt a n) as (λ _. (label : ℕ) × (get_or labels' (class a) None ≡ Some label) × (slice_get (values ++ Null own ∷ []) a ≡ Some (Null label))) [
        | inl m ↦ let o = s.null a m h in (o.0, kept (class a) o.0 o.1, slice_get-left values (Null own ∷ []) a (Null o.0) o.2)
        | inr g ↦
            let i : a ≡ n = omega arith in
            (own, ap (λ z. get_or labels' (class z) None) i ∙ here, slice_get-last values a (Null own) (s.made ∙ sym i))
      ]

    pub labelled_again : (own : ℕ) → least_of (class n) ≡ None → get_or labels (class n) None ≡ Some own → AreLabelled classes least (n + 1) labels nulls (values ++ Null own ∷ [])
    labelled_again own e here =
        let below = (s.label (class n) own here).0 in
        record {
          count = s.count;
          made = length_push values (Null own) ∙ ap (λ z. z + 1) s.made;
          constant = constant_null labels nulls own e (λ k l h. h) here;
          null = null_null labels nulls own e (λ k l h. h) here;
          owner = λ k l. let o = s.owner k l in (omega (arith, o.0), o.1);
          label = s.label;
          first = s.first;
          known = λ k. ap (list_any (λ x. nat_eq x k)) (labels_of (Null own)) ∙ list_any-append (λ x. nat_eq x k) (filter_map null_label values) (own ∷ []) ∙ ap (λ b. b || (nat_eq own k || false)) (s.known k) ∙ still k below;
          order = ap (firsts nat_eq) (labels_of (Null own)) ∙ firsts_push nat_eq (filter_map null_label values) own ∙ rw (s.known own, lt-ltb own (length nulls) below) s.order;
        } where
          still : (k : ℕ) → own < length nulls → (ltb k (length nulls) || (eqb own k || false)) ≡ ltb k (length nulls)
          still k below = elim (cases_lt k (length nulls)) as (λ _. (ltb k (length nulls) || (eqb own k || false)) ≡ ltb k (length nulls)) [
            | inl l ↦ rw (lt-ltb k (length nulls) l) refl
            | inr g ↦ rw (le-ltb k (length nulls) g, ne_eqb own k (λ i. omega (arith, i, g, below))) refl
          ]

    module _ (within : class n < length labels) (e : least_of (class n) ≡ None) (no : get_or labels (class n) None ≡ None) where
      abbrev next : ℕ
      next = length nulls

      abbrev after : List (Option ℕ)
      after = set labels (class n) (Some next)

      kept_next : (k l : ℕ) → get_or labels k None ≡ Some l → get_or after k None ≡ Some l
      kept_next k l h = get_or-set_other labels (class n) k (Some next) None (λ i. let j : None ≡ Some l = sym no ∙ ap (λ z. get_or labels z None) (sym i) ∙ h in absurd (cc)) ∙ h

      here_next : get_or after (class n) None ≡ Some next
      here_next = get_or-set_same labels (class n) (Some next) None within

      null_left : (k : ℕ) → k < next → get_or (nulls ++ n ∷ []) k 0 ≡ get_or nulls k 0
      null_left k l = get_or_append_left nulls (n ∷ []) 0 k l

      null_last : get_or (nulls ++ n ∷ []) next 0 ≡ n
      null_last = get_or_push nulls n 0 next refl

      label_next : (k l : ℕ) → get_or after k None ≡ Some l → (l < length (nulls ++ n ∷ [])) × (class (get_or (nulls ++ n ∷ []) l 0) ≡ k) × (least_of k ≡ None)
      label_next k l h = elim (cases_eq k (class n)) as (λ _. (l < length (nulls ++ n ∷ [])) × (class (get_or (nulls ++ n ∷ []) l 0) ≡ k) × (least_of k ≡ None)) [
        | inl i ↦
            let j : Some next ≡ Some l = sym here_next ∙ ap (λ z. get_or after z None) (sym i) ∙ h in
            let m : next ≡ l = cc in
            (omega (arith, m, length_push nulls n), ap class (ap (λ z. get_or (nulls ++ n ∷ []) z 0) (sym m) ∙ null_last) ∙ sym i, ap least_of i ∙ e)
        | inr m ↦
            let o = s.label k l (sym (get_or-set_other labels (class n) k (Some next) None m) ∙ h) in
            (omega (arith, o.0, length_push nulls n), ap class (null_left l o.0) ∙ o.1, o.2)
      ]

      owner_next : (k : ℕ) → k < length (nulls ++ n ∷ []) → (get_or (nulls ++ n ∷ []) k 0 < n + 1) × (get_or after (class (get_or (nulls ++ n ∷ []) k 0)) None ≡ Some k)
      owner_next k l = elim (cases_lt k next) as (λ _. (get_or (nulls ++ n ∷ []) k 0 < n + 1) × (get_or after (class (get_or (nulls ++ n ∷ []) k 0)) None ≡ Some k)) [
        | inl h ↦ let o = s.owner k h in rw (null_left k h) (omega (arith, o.0), kept_next (class (get_or nulls k 0)) k o.1)
        | inr g ↦
            let i : k ≡ next = omega (arith, l, g, length_push nulls n) in
            rw (i, null_last) (omega arith, here_next)
      ]

      first_next : (k a : ℕ) → k < length (nulls ++ n ∷ []) → a < get_or (nulls ++ n ∷ []) k 0 → class a ≢ class (get_or (nulls ++ n ∷ []) k 0)
      first_next k a l h q = elim (cases_lt k next) as (λ _. ⊥) [
        | inl m ↦ s.first k a m (rw (null_left k m) at h) (q ∙ ap class (null_left k m))
        | inr g ↦
            let i : k ≡ next = omega (arith, l, g, length_push nulls n) in
            let b : a < n = rw (i, null_last) at h in
            let same : class a ≡ class n = q ∙ ap class (ap (λ z. get_or (nulls ++ n ∷ []) z 0) i ∙ null_last) in
            let o = s.null a b (ap least_of same ∙ e) in
            let j : None ≡ Some o.0 = sym no ∙ ap (λ z. get_or labels z None) (sym same) ∙ o.1 in
            absurd (cc)
      ]

      known_next : (k : ℕ) → (ltb k next || (eqb next k || false)) ≡ ltb k (length (nulls ++ n ∷ []))
      known_next k = elim (cases_lt k next) as (λ _. (ltb k next || (eqb next k || false)) ≡ ltb k (length (nulls ++ n ∷ []))) [
        | inl l ↦ rw (lt-ltb k next l, lt-ltb k (length (nulls ++ n ∷ [])) (omega (arith, l, length_push nulls n))) refl
        | inr g ↦ elim (cases_eq next k) as (λ _. (ltb k next || (eqb next k || false)) ≡ ltb k (length (nulls ++ n ∷ []))) [
          | inl i ↦ rw (le-ltb k next g, eq-eqb next k i, lt-ltb k (length (nulls ++ n ∷ [])) (omega (arith, i, length_push nulls n))) refl
          | inr m ↦ rw (le-ltb k next g, ne_eqb next k m, le-ltb k (length (nulls ++ n ∷ [])) (omega (arith, g, m, length_push nulls n))) refl
        ]
      ]

      pub labelled_next : AreLabelled classes least (n + 1) after (nulls ++ n ∷ []) (values ++ Null next ∷ [])
      labelled_next = record {
        count = length-set labels (class n) (Some next) ∙ s.count;
        made = length_push values (Null next) ∙ ap (λ z. z + 1) s.made;
        constant = constant_null after (nulls ++ n ∷ []) next e kept_next here_next;
        null = null_null after (nulls ++ n ∷ []) next e kept_next here_next;
        owner = owner_next;
        label = label_next;
        first = first_next;
        known = λ k. ap (list_any (λ x. nat_eq x k)) (labels_of (Null next)) ∙ list_any-append (λ x. nat_eq x k) (filter_map null_label values) (next ∷ []) ∙ ap (λ b. b || (nat_eq next k || false)) (s.known k) ∙ known_next k;
        order = ap (firsts nat_eq) (labels_of (Null next)) ∙ firsts_push nat_eq (filter_map null_label values) next ∙ rw (s.known next, le-ltb next next (omega arith)) (ap (λ z. z ++ next ∷ []) s.order ∙ sym (range_more next)) ∙ ap (range_with_len 0) (sym (length_push nulls n));
      }
