-- One more node gets its value, where each class has one value.
use Rattle.std.proofs.Common.{◌≡◌, ◌≢◌, ℕ, zero, suc, ◌+◌, ◌<◌, ◌≤◌, List, [], ◌∷◌, ◌++◌, length, get_or, replicate, map, Option, Some, None, sym, ◌∙◌, ap, subst, refl, arith, ◌⊎◌, inl, inr, ⊎_elim}
use Rattle.std.proofs.Math.ListN.{set}
use Rattle.std.proofs.lemmas.Bool.{cases_eq, cases_lt, eq-eqb, ne_eqb}
use Rattle.std.proofs.lemmas.List.{map-append, length_push, get_or_append_left, get_or_push, get_or-set_same, get_or-set_other, get_or_default}
use Rattle.std.specs.Prelude.{All, if◌then◌else◌, ◌==◌}
use Rattle.cq_theory.specs.declared.constant.Con.{Con}
use Rattle.cq_theory.specs.declared.constant.Con.TheVariants.{Named}
use Rattle.cq_theory.specs.declared.value.Value.{Value}
use Rattle.cq_theory.specs.declared.value.Value.TheVariants.{Const, Null}
use Rattle.cq_flat.specs.Labels.{AreApart, AreClassValues, AreLabelled}
use Rattle.cq_flat.specs.Places.{IsNewValue}
use Rattle.cq_flat.specs.Values.{AreLabels, value_at}
use Rattle.cq_flat.proofs.Labelling.{labelled_none, labelled_constant, labelled_again, labelled_next}
use Rattle.cq_flat.proofs.Labelled.{labels_are, values_are}

-- the value of a class: its least constant, or a null with its label
abbrev pub IsValueOf : List (Option Con) → List (Option ℕ) → ℕ → Value → Type 0
IsValueOf least labels k v =
    ((c : Con) × (get_or least k None ≡ Some c) × (v ≡ Const c)) ⊎ ((l : ℕ) × (get_or least k None ≡ None) × (get_or labels k None ≡ Some l) × (v ≡ Null l))

-- the values of the first n nodes, each kept once, and the place of the value of each of their classes
pub record IsValuing (classes : List ℕ) (least : List (Option Con)) (n : ℕ) (placed nulls places : List ℕ) (different : List Value) : Type 0 where
  pub labels : List (Option ℕ)
  pub labelled : AreLabelled classes least n labels nulls (map (value_at different) places)
  pub each : (k p : ℕ) → get_or placed k (length classes) ≡ p → p < length classes → (p < length different) × IsValueOf least labels k (value_at different p)
  pub known : (k l : ℕ) → get_or labels k None ≡ Some l → get_or placed k (length classes) < length classes
  pub within : (i : ℕ) → i < length places → get_or places i 0 < length different
  pub few : length different ≤ n

-- more different values
map_longer : (different : List Value) (v : Value) (places : List ℕ) → ((i : ℕ) → i < length places → get_or places i 0 < length different)
    → map (value_at (different ++ v ∷ [])) places ≡ map (value_at different) places
map_longer different v [] h = refl
map_longer different v (p ∷ ps) h =
    let a : value_at (different ++ v ∷ []) p ≡ value_at different p = get_or_append_left different (v ∷ []) (Const (Named 0)) p (h 0 (omega arith)) in
    rw (a, map_longer different v ps (λ i l. h (suc i) (omega (arith, l)))) refl

within_push : (m : ℕ) (places : List ℕ) (p : ℕ) → p < m → ((i : ℕ) → i < length places → get_or places i 0 < m) → (i : ℕ) → i < length (places ++ p ∷ []) → get_or (places ++ p ∷ []) i 0 < m
within_push m places p l h i k = elim (cases_lt i (length places)) as (λ _. get_or (places ++ p ∷ []) i 0 < m) [
  | inl b ↦ rw (get_or_append_left places (p ∷ []) 0 i b) (h i b)
  | inr g ↦ rw (get_or_push places p 0 i (omega (arith, g, k, length_push places p))) l
]

module _ (classes : List ℕ) (least : List (Option Con)) where
  abbrev class : ℕ → ℕ
  class a = get_or classes a 0

  pub valuing_none : IsValuing classes least 0 [] [] [] []
  valuing_none =
      let s = labelled_none classes least in
      record {
        labels = replicate (length classes) None;
        labelled = s;
        each = λ k p e l. absurd (omega (arith, e, l));
        known = λ k l e. absurd (omega (arith, (s.label k l e).0));
        within = λ i l. absurd (omega (arith, l));
        few = omega arith;
      }

  module _ (n : ℕ) (placed nulls places : List ℕ) (different : List Value) (s : IsValuing classes least n placed nulls places different) where
    -- the class of the node has a value
    pub valuing_again : (p : ℕ) → p ≡ get_or placed (class n) (length classes) → p < length classes → IsValuing classes least (n + 1) placed nulls (places ++ p ∷ []) different
    valuing_again p e l = record {
      labels = s.labels;
      labelled = rw (map-append (value_at different) places (p ∷ [])) labelled;
      each = s.each;
      known = s.known;
      within = within_push (length different) places p o.0 s.within;
      few = omega (arith, s.few);
    } where
      o : (p < length different) × IsValueOf least s.labels (class n) (value_at different p)
      o = s.each (class n) p (sym e) l

      labelled : AreLabelled classes least (n + 1) s.labels nulls (map (value_at different) places ++ value_at different p ∷ [])
      labelled = ⊎_elim
          (λ k. subst (λ v. AreLabelled classes least (n + 1) s.labels nulls (map (value_at different) places ++ v ∷ [])) (sym k.2)
          (labelled_constant classes least n s.labels nulls (map (value_at different) places) s.labelled k.0 k.1))
          (λ k. subst (λ v. AreLabelled classes least (n + 1) s.labels nulls (map (value_at different) places ++ v ∷ [])) (sym k.3)
          (labelled_again classes least n s.labels nulls (map (value_at different) places) s.labelled k.0 k.1 k.2))
          o.1

    -- the class of the node gets a value
    module _ (here : class n < length classes) (below : n < length classes) (none : length classes ≤ get_or placed (class n) (length classes)) (v : Value) (placed' : List ℕ)
        (e : (k : ℕ) → get_or placed' k (length classes) ≡ (if k == class n then length different else get_or placed k (length classes))) where
      at_class : get_or placed' (class n) (length classes) ≡ length different
      at_class = e (class n) ∙ rw (eq-eqb (class n) (class n) refl) refl

      at_other : (k : ℕ) → k ≢ class n → get_or placed' k (length classes) ≡ get_or placed k (length classes)
      at_other k q = e k ∙ rw (ne_eqb k (class n) q) refl

      placed_class : get_or placed' (class n) (length classes) < length classes
      placed_class = omega (arith, at_class, s.few, below)

      places_are : map (value_at (different ++ v ∷ [])) (places ++ length different ∷ []) ≡ map (value_at different) places ++ v ∷ []
      places_are =
          map-append (value_at (different ++ v ∷ [])) places (length different ∷ [])
          ∙ ap (λ xs. xs ++ value_at (different ++ v ∷ []) (length different) ∷ []) (map_longer different v places s.within)
          ∙ ap (λ x. map (value_at different) places ++ x ∷ []) (get_or_push different v (Const (Named 0)) (length different) refl)

      module _ (labels : List (Option ℕ)) (is : IsValueOf least labels (class n) v) (same : (k : ℕ) → k ≢ class n → get_or labels k None ≡ get_or s.labels k None) where
        each_new : (k p : ℕ) → get_or placed' k (length classes) ≡ p → p < length classes → (p < length (different ++ v ∷ [])) × IsValueOf least labels k (value_at (different ++ v ∷ []) p)
        each_new k p i l = elim (cases_eq k (class n)) as (λ _. (p < length (different ++ v ∷ [])) × IsValueOf least labels k (value_at (different ++ v ∷ []) p)) [
          | inl j ↦
              let q : p ≡ length different = sym i ∙ ap (λ z. get_or placed' z (length classes)) j ∙ at_class in
              rw (q, j, get_or_push different v (Const (Named 0)) (length different) refl) (omega (arith, length_push different v), is)
          | inr j ↦
              let o = s.each k p (sym (at_other k j) ∙ i) l in (
                omega (arith, o.0, length_push different v),
                rw (get_or_append_left different (v ∷ []) (Const (Named 0)) p o.0)
                    (⊎_elim (λ m. inl m) (λ m. inr (m.0, m.1, same k j ∙ m.2, m.3)) o.1),
              )
        ]

        known_new : (k l : ℕ) → get_or labels k None ≡ Some l → get_or placed' k (length classes) < length classes
        known_new k l i = elim (cases_eq k (class n)) as (λ _. get_or placed' k (length classes) < length classes) [
          | inl j ↦ rw j placed_class
          | inr j ↦ rw (at_other k j) (s.known k l (sym (same k j) ∙ i))
        ]

        valued : (nulls' : List ℕ) → AreLabelled classes least (n + 1) labels nulls' (map (value_at different) places ++ v ∷ []) → IsValuing classes least (n + 1) placed' nulls' (places ++ length different ∷ []) (different ++ v ∷ [])
        valued nulls' labelled = record {
          labels = labels;
          labelled = rw places_are labelled;
          each = each_new;
          known = known_new;
          within = within_push (length (different ++ v ∷ [])) places (length different) (omega (arith, length_push different v)) (λ i l. omega (arith, s.within i l, length_push different v));
          few = omega (arith, s.few, length_push different v);
        }

      no_label : get_or s.labels (class n) None ≡ None
      no_label = by (get_or s.labels (class n) None) refl where
        by : (o : Option ℕ) → get_or s.labels (class n) None ≡ o → get_or s.labels (class n) None ≡ None
        by None i = i
        by (Some l) i = absurd (omega (arith, s.known (class n) l i, none))

      abbrev values : List Value
      values = map (value_at different) places

      pub valuing_new : (nulls' : List ℕ) → IsNewValue (get_or least (class n) None) nulls nulls' n v → IsValuing classes least (n + 1) placed' nulls' (places ++ length different ∷ []) (different ++ v ∷ [])
      valuing_new nulls' g = ⊎_elim constant null g where
        constant : (c : Con) × (get_or least (class n) None ≡ Some c) × (v ≡ Const c) × (nulls' ≡ nulls) → IsValuing classes least (n + 1) placed' nulls' (places ++ length different ∷ []) (different ++ v ∷ [])
        constant o = valued s.labels (inl (o.0, o.1, o.2)) (λ k q. refl) nulls'
            (rw (o.3, o.2) (labelled_constant classes least n s.labels nulls values s.labelled o.0 o.1))

        null : (get_or least (class n) None ≡ None) × (v ≡ Null (length nulls)) × (nulls' ≡ nulls ++ n ∷ []) → IsValuing classes least (n + 1) placed' nulls' (places ++ length different ∷ []) (different ++ v ∷ [])
        null o =
            let within : class n < length s.labels = omega (arith, here, s.labelled.count) in
            valued (set s.labels (class n) (Some (length nulls)))
            (inr (length nulls, o.0, get_or-set_same s.labels (class n) (Some (length nulls)) None within, o.1))
            (λ k q. get_or-set_other s.labels (class n) k (Some (length nulls)) None q) nulls'
            (rw (o.2, o.1) (labelled_next classes least n s.labels nulls values s.labelled within o.0 no_label))

  module _ (placed nulls places : List ℕ) (different : List Value) (s : IsValuing classes least (length classes) placed nulls places different) where
    pub valued_labels : AreLabels (map (value_at different) places) nulls
    valued_labels = labels_are classes least (length classes) s.labels nulls (map (value_at different) places) s.labelled

    pub valued_values : AreApart least → AreClassValues classes least (map (value_at different) places)
    valued_values apart = values_are classes least (length classes) s.labels nulls (map (value_at different) places) s.labelled refl apart

    pub valued_placed : All (λ p. p < length different) places
    valued_placed k d l = rw (get_or_default places k d 0 l) (s.within k l)
