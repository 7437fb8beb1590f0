-- One component of a term, followed from the end of the term's path.
use Rattle.std.proofs.Common.{ℕ, zero, suc, List, [], ◌∷◌, ◌++◌, Option, Some, None, ◌≡◌, ◌<◌, ◌≤◌, ◌+◌, map, length, refl, sym, ap, subst, ◌∙◌, append_assoc, arith, slice_index_or}
use Rattle.std.specs.Prelude.{slice_get, option_map}
use Rattle.std.specs.List.{range_with_len}
use Rattle.std.proofs.lemmas.List.{length-map, append-nil}
use Rattle.std.proofs.lemmas.List.FromFn.{length-map-range_with_len, length-range_with_len}
use Rattle.std.proofs.lemmas.Option.{slice_get-map, slice_get_within, get_or_from_slice_get}
use Rattle.cq_base.specs.declared.name.Name.{Name}
use Rattle.cq_theory.specs.declared.term.EntTerm.{EntTerm}
use Rattle.cq_theory.specs.EntTerm.{alone, extended}
use Rattle.cq_theory.specs.Canonical.{below}
use Rattle.cq_theory.proofs.Every.{at_range}
use Rattle.cq_theory.proofs.Grouped.{made_at}
use Rattle.cq_query.specs.QueryData.{QueryData as Query}
use Rattle.cq_query.specs.Puts.{put, term_or_first, generators_from}
use Rattle.cq_query.specs.Translation.{variables_at, assigned, along}
use Rattle.cq_compose.specs.Composite.{width, first_of, components_of, components, component_entities}
use Rattle.cq_compose.proofs.Places.{flat_at, no_mapped}
use Rattle.cq_compose.proofs.Pairwise.{member_there}

pub first_or_index : (ts : List EntTerm) (n : ℕ) → term_or_first (slice_get ts n) ≡ slice_index_or ts n (alone 0)
first_or_index [] n = refl
first_or_index (t ∷ ts) zero = refl
first_or_index (t ∷ ts) (suc n) = first_or_index ts n

no_index : {X : Type 0} (xs : List X) (n : ℕ) (d : X) → slice_get xs n ≡ None → slice_index_or xs n d ≡ d
no_index [] n d h = refl
no_index (x ∷ xs) zero d h = cc
no_index (x ∷ xs) (suc n) d h = no_index xs n d h

module _ (Q : Query) where
  -- one key more at the end of a path
  pub along-last : (terms : List EntTerm) (path : List ℕ) (k : ℕ) → along Q terms (path ++ k ∷ []) ≡ map (put (along Q terms path)) (assigned Q k)
  along-last terms [] k = refl
  along-last terms (j ∷ path) k = along-last (map (put terms) (assigned Q j)) path k

  pub length-along : (terms : List EntTerm) (path : List ℕ) (k : ℕ) → length (along Q terms (path ++ k ∷ [])) ≡ length (assigned Q k)
  length-along terms path k = ap length (along-last terms path k) ∙ length-map (assigned Q k) (put (along Q terms path))

  pub last_component : (terms : List EntTerm) (path : List ℕ) (k n : ℕ) (t : EntTerm) → slice_get (assigned Q k) n ≡ Some t
      → slice_index_or (along Q terms (path ++ k ∷ [])) n (alone 0) ≡ extended (slice_index_or (along Q terms path) t.generator (alone 0)) t.path
  last_component terms path k n t at =
      ap (λ l. slice_index_or l n (alone 0)) (along-last terms path k)
      ∙ get_or_from_slice_get (map (put (along Q terms path)) (assigned Q k)) n (put (along Q terms path) t) (alone 0)
      (slice_get-map (put (along Q terms path)) (assigned Q k) n ∙ ap (option_map (put (along Q terms path))) at)
      ∙ ap (λ s. extended s t.path) (first_or_index (along Q terms path) t.generator)

  pub no_component : (terms : List EntTerm) (path : List ℕ) (k n : ℕ) → slice_get (assigned Q k) n ≡ None → slice_index_or (along Q terms (path ++ k ∷ [])) n (alone 0) ≡ alone 0
  no_component terms path k n none =
      ap (λ l. slice_index_or l n (alone 0)) (along-last terms path k)
      ∙ no_index (map (put (along Q terms path)) (assigned Q k)) n (alone 0) (no_mapped (put (along Q terms path)) (assigned Q k) n none)

module _ (Q W : Query) (u : ℕ) where
  pub width_is : (y : ℕ) (v : Name × ℕ) → slice_get (variables_at W u) y ≡ Some v → length (components Q W u y) ≡ length (variables_at Q v.1)
  width_is y v at = ap (λ o. length (components_of Q W u y o)) at ∙ length-map-range_with_len alone (first_of Q W u y) (length (variables_at Q v.1))

  pub no_width : (y : ℕ) → slice_get (variables_at W u) y ≡ None → length (components Q W u y) ≡ 0
  no_width y none = ap (λ o. length (components_of Q W u y o)) none

  module _ (y : ℕ) (v : Name × ℕ) (at : slice_get (variables_at W u) y ≡ Some v) (n : ℕ) (within : n < length (components Q W u y)) where
    inside : n < length (variables_at Q v.1)
    inside = omega (arith, within, width_is y v at)

    pub component_at : slice_get (components Q W u y) n ≡ Some (alone (first_of Q W u y + n))
    component_at =
        ap (λ o. slice_get (components_of Q W u y o) n) at ∙ slice_get-map alone (range_with_len (first_of Q W u y) (width Q W v)) n
        ∙ ap (option_map alone) (at_range (first_of Q W u y) (width Q W v) n inside)

    same_width : (i : ℕ) (a b : Name × ℕ) → slice_get (variables_at W u) i ≡ Some a → slice_get (variables_at W u) i ≡ Some b
        → length (map (λ (z : Name × ℕ). z.1) (variables_at Q a.1)) ≡ width Q W b
    same_width i a b left right =
        let one : Some a ≡ Some b = sym left ∙ right in
        let same : a ≡ b = cc in
        length-map (variables_at Q a.1) (λ (z : Name × ℕ). z.1) ∙ ap (width Q W) same

    -- a component is one of all
    pub component_within : first_of Q W u y + n < length (component_entities Q W u)
    component_within =
        let member = member_there (variables_at Q v.1) n inside in
        slice_get_within (component_entities Q W u) (first_of Q W u y + n) member.0.1
        (flat_at (λ (w : Name × ℕ). map (λ (z : Name × ℕ). z.1) (variables_at Q w.1)) (width Q W) (variables_at W u) (variables_at W u) same_width refl y v n member.0.1 at
        (slice_get-map (λ (z : Name × ℕ). z.1) (variables_at Q v.1) n ∙ ap (option_map (λ (z : Name × ℕ). z.1)) member.1))

  -- the start of a variable's components
  pub start_at : (starts : List ℕ) → starts ≡ map (first_of Q W u) (below (length (variables_at W u))) → (y start : ℕ) → slice_get starts y ≡ Some start
      → (v : Name × ℕ) × (slice_get (variables_at W u) y ≡ Some v) × (start ≡ first_of Q W u y)
  start_at starts are y start at =
      let there : slice_get (map (first_of Q W u) (below (length (variables_at W u)))) y ≡ Some start = ap (λ l. slice_get l y) (sym are) ∙ at in
      let count = length-map-range_with_len (first_of Q W u) 0 (length (variables_at W u)) in
      let inside : y < length (variables_at W u) = omega (arith, count, slice_get_within (map (first_of Q W u) (below (length (variables_at W u)))) y start there) in
      let v = member_there (variables_at W u) y inside in
      let both : Some start ≡ Some (first_of Q W u y) = sym there ∙ made_at (first_of Q W u) (length (variables_at W u)) y inside in
      (v.0, v.1, (let same : start ≡ first_of Q W u y = cc in same))

  module _ (starts : List ℕ) (are : starts ≡ map (first_of Q W u) (below (length (variables_at W u)))) (few : length (component_entities Q W u) ≤ 16000000) (y n : ℕ) where
    pub generator_there : (start : ℕ) → slice_get starts y ≡ Some start → n < length (components Q W u y)
        → (start + n < 16000000) × (start + n ≡ (slice_index_or (components Q W u y) n (alone 0)).generator)
    generator_there start at within =
        let begins = start_at starts are y start at in
        let one : slice_index_or (components Q W u y) n (alone 0) ≡ alone (first_of Q W u y + n) =
        get_or_from_slice_get (components Q W u y) n (alone (first_of Q W u y + n)) (alone 0) (component_at y begins.0 begins.1 n within) in
        (omega (arith, begins.2, few, component_within y begins.0 begins.1 n within), (λ i. begins.2 i + n) ∙ ap (λ (t : EntTerm). t.generator) (sym one))

    pub generator_past : length (components Q W u y) ≤ n → 0 ≡ (slice_index_or (components Q W u y) n (alone 0)).generator
    generator_past past = ap (λ (t : EntTerm). t.generator) (sym (past_index (components Q W u y) n past))
      where
        past_index : (ts : List EntTerm) (m : ℕ) → length ts ≤ m → slice_index_or ts m (alone 0) ≡ alone 0
        past_index [] m h = refl
        past_index (t ∷ ts) zero h = absurd (omega arith)
        past_index (t ∷ ts) (suc m) h = past_index ts m (omega arith)

    pub generator_missing : slice_get starts y ≡ None → 0 ≡ (slice_index_or (components Q W u y) n (alone 0)).generator
    generator_missing none = at_variable (slice_get (variables_at W u) y) refl
      where
        count : length starts ≡ length (variables_at W u)
        count = ap length are ∙ length-map-range_with_len (first_of Q W u) 0 (length (variables_at W u))

        at_variable : (o : Option (Name × ℕ)) → slice_get (variables_at W u) y ≡ o → 0 ≡ (slice_index_or (components Q W u y) n (alone 0)).generator
        at_variable None is = ap (λ o. (slice_index_or (components_of Q W u y o) n (alone 0)).generator) (sym is)
        at_variable (Some v) is =
            let inside = slice_get_within (variables_at W u) y v is in
            let start = member_there starts y (omega (arith, count, inside)) in
            let clash : None ≡ Some start.0 = sym none ∙ start.1 in
            cc

  -- the components of a variable follow no key
  pub no_keys : (y n : ℕ) → (slice_index_or (components Q W u y) n (alone 0)).path ≡ []
  no_keys y n = at_variable (slice_get (variables_at W u) y) refl
    where
      all_alone : (ns : List ℕ) (m : ℕ) → (slice_index_or (map alone ns) m (alone 0)).path ≡ []
      all_alone [] m = refl
      all_alone (k ∷ ns) zero = refl
      all_alone (k ∷ ns) (suc m) = all_alone ns m

      at_variable : (o : Option (Name × ℕ)) → slice_get (variables_at W u) y ≡ o → (slice_index_or (components Q W u y) n (alone 0)).path ≡ []
      at_variable None is = ap (λ o. (slice_index_or (components_of Q W u y o) n (alone 0)).path) is
      at_variable (Some v) is = ap (λ o. (slice_index_or (components_of Q W u y o) n (alone 0)).path) is ∙ all_alone (range_with_len (first_of Q W u y) (width Q W v)) n
