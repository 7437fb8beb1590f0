-- A listed model is the listed model of its canonical presentation.
use Rattle.std.proofs.Common.{ℕ, zero, suc, Bool, true, false, not, List, [], ◌∷◌, ◌++◌, Option, Some, None, ◌≡◌, ◌<◌, ◌≤◌, ◌+◌, append_assoc, append-nil, cond, filter, inl, inr, map, sum, length, refl, sym, ap, subst, ◌∙◌, arith}
use Rattle.std.specs.Prelude.{get_or, nat_eq, slice_get, slice_index_or}
use Rattle.std.specs.List.{cons_option, enumerate_from, filter_map, flat_map, range_with_len}
use Rattle.std.specs.Ordering.{is_lt}
use Rattle.std.proofs.lemmas.Bool.{cases_lt, eq-eqb, eqb-true}
use Rattle.std.proofs.lemmas.List.{length-map}
use Rattle.std.proofs.lemmas.List.FromFn.{length-range_with_len}
use Rattle.std.proofs.lemmas.Option.{get_or_from_slice_get, slice_get-get_or, slice_get_within}
use Rattle.cq_theory.specs.declared.presentation.Presentation.{Presentation}
use Rattle.cq_theory.specs.declared.term.EntTerm.{EntTerm}
use Rattle.cq_theory.specs.declared.term.TypeTerm.{TypeTerm}
use Rattle.cq_theory.specs.declared.term.TypeTerm.TheVariants as term
use Rattle.cq_theory.specs.declared.value.Entry.{Entry}
use Rattle.cq_theory.specs.Canonical.{below, canonical, canonical_assignment, edges_from, row_term}
use Rattle.cq_theory.specs.Listed.{IsLeastName, Lists, cell_nodes, equation_nodes, firsts, generator_node, names_of, nodes, null_label, observation_nodes, term_cmp}
use Rattle.cq_theory.specs.Schema.{IsSchema}
use Rattle.cq_theory.specs.SchemaData.{SchemaData as Schema}
use Rattle.cq_theory.specs.Tables.{Assignment, IsPlain, IsWellFormed, Satisfies, Tables, count_of, value_of}
use Rattle.cq_theory.proofs.Every.{Every, Every-append, Every-at, Every-filter_map, Every-flat_map, Every-from_All, Every-map, Every-parts, at_range}
use Rattle.cq_theory.proofs.OnValues.{entry_for}
use Rattle.cq_instance.proofs.CanonicalDerived as derived
use Rattle.cq_instance.proofs.CanonicalNames.{least_name}
use Rattle.cq_instance.proofs.Lists.{firsts-range, get-map}
use Rattle.cq_instance.proofs.TermOrder.{is_lt-before}
use Rattle.cq_instance.specs.Given.{row_names}
use Rattle.cq_return.proofs.Alike.{alike_every, alike_found}
use Rattle.cq_return.proofs.Fine.{AreFine, HasPlain, IsLabel, entry_among, entry_at, entry_of_Att, found-append, label_at, same_entry}
use Rattle.cq_return.proofs.Firsts.{among, among_firsts, firsts-append, firsts_each, none_left, same_firsts}
use Rattle.cq_return.proofs.ListedParts.{AreNulls, all_nulls, equations_fine, null_nodes}
use Rattle.cq_return.proofs.ListedRows.{cells_alike, names_are, observations_alike}

none_found : {X Y : Type 0} (f : X → Option Y) (xs : List X) → Every (λ x. f x ≡ None) xs → filter_map f xs ≡ []
none_found f [] each = refl
none_found f (x ∷ xs) each = ap (λ o. cons_option o (filter_map f xs)) each.0 ∙ none_found f xs each.1

eq_itself : (n : ℕ) → nat_eq n n ≡ true
eq_itself n = eq-eqb n n refl

eq_then : (a b c : ℕ) → nat_eq a b ≡ true → nat_eq b c ≡ true → nat_eq a c ≡ true
eq_then a b c h k = eq-eqb a c (eqb-true a b h ∙ eqb-true b c k)

-- entries that are apart stay
keep : (e : Entry) (es : List Entry) → ((n : ℕ) (x : Entry) → slice_get es n ≡ Some x → same_entry e x ≡ false) → filter (λ x. not (same_entry e x)) es ≡ es
keep e [] each = refl
keep e (x ∷ es) each = ap (λ b. cond (not b) (x ∷ filter (λ y. not (same_entry e y)) es) (filter (λ y. not (same_entry e y)) es)) (each 0 x refl) ∙ ap (λ l. x ∷ l) (keep e es (λ n y at. each (suc n) y at))

alone : (es : List Entry) → ((m n : ℕ) (x y : Entry) → m < n → slice_get es m ≡ Some x → slice_get es n ≡ Some y → same_entry x y ≡ false) → firsts same_entry es ≡ es
alone [] each = refl
alone (e ∷ es) each =
    ap (λ l. e ∷ filter (λ y. not (same_entry e y)) l) (alone es (λ m n x y before at there. each (suc m) (suc n) x y (omega arith) at there))
    ∙ ap (λ l. e ∷ l) (keep e es (λ n x at. each 0 (suc n) e x (omega arith) refl at))

module _ (S : Schema) (M : Tables) (schema : IsSchema S) (well : IsWellFormed S M) (satisfies : Satisfies S M) (P : Presentation) (A : Assignment) (lists : Lists S P M A) where
  abbrev B : Assignment
  B = canonical_assignment S M

  abbrev C : Presentation
  C = canonical S M

  abbrev own : List (List EntTerm)
  own = map (row_names S M) (below (length S.entities))

  abbrev m : ℕ
  m = length M.algebra.nulls

  -- the parts of the nodes
  abbrev cells : List TypeTerm
  cells = flat_map (cell_nodes S C own) (below (length S.entities))

  abbrev gens : List TypeTerm
  gens = filter_map (generator_node S C own) (enumerate_from 0 C.generators)

  abbrev eqs : List TypeTerm
  eqs = flat_map (equation_nodes S C own) C.equations

  abbrev obs : List TypeTerm
  obs = flat_map (observation_nodes S C own) (below (length S.entities))

  abbrev cells0 : List TypeTerm
  cells0 = flat_map (cell_nodes S P lists.names) (below (length S.entities))

  abbrev gens0 : List TypeTerm
  gens0 = filter_map (generator_node S P lists.names) (enumerate_from 0 P.generators)

  abbrev eqs0 : List TypeTerm
  eqs0 = flat_map (equation_nodes S P lists.names) P.equations

  abbrev obs0 : List TypeTerm
  obs0 = flat_map (observation_nodes S P lists.names) (below (length S.entities))

  abbrev Plain0 : TypeTerm → Type 0
  Plain0 t = IsPlain (value_of M A t)

  every_plain0 : Every Plain0 (((cells0 ++ gens0) ++ eqs0) ++ obs0)
  every_plain0 = Every-from_All Plain0 (nodes S P lists.names) lists.plain

  front0 : Every Plain0 ((cells0 ++ gens0) ++ eqs0) × Every Plain0 obs0
  front0 = Every-parts Plain0 ((cells0 ++ gens0) ++ eqs0) obs0 every_plain0

  pub plain_cells : Every (HasPlain S M schema well) cells
  plain_cells = alike_every M A B IsPlain cells0 cells (cells_alike S M schema well P A lists)
      (Every-parts Plain0 cells0 gens0 (Every-parts Plain0 (cells0 ++ gens0) eqs0 front0.0).0).0

  plain_obs : Every (HasPlain S M schema well) obs
  plain_obs = alike_every M A B IsPlain obs0 obs (observations_alike S M schema well P A lists) front0.1

  fine_eqs : AreFine S M schema well M.algebra.entries (flat_map (equation_nodes S C own) C.equations)
  fine_eqs = equations_fine S M schema well plain_cells

  nulls_in_order : AreNulls S M schema well 0 (length M.algebra.nulls)
  nulls_in_order = all_nulls S M schema well

  gens_are : gens ≡ map term.Gen (range_with_len (sum M.sheet.counts + 0) (length M.algebra.nulls))
  gens_are = let none : sum M.sheet.counts ≡ sum M.sheet.counts + 0 = omega arith in null_nodes S M schema well ∙ ap (λ n. map term.Gen (range_with_len n (length M.algebra.nulls))) none

  plain_nodes : Every (HasPlain S M schema well) (((cells ++ gens) ++ eqs) ++ obs)
  plain_nodes =
      Every-append (HasPlain S M schema well) ((cells ++ gens) ++ eqs) obs
      (Every-append (HasPlain S M schema well) (cells ++ gens) eqs
      (Every-append (HasPlain S M schema well) cells gens plain_cells (subst (Every (HasPlain S M schema well)) (sym gens_are) nulls_in_order.plain)) fine_eqs.plain) plain_obs

  -- labels
  abbrev label0 : TypeTerm → Option ℕ
  label0 t = null_label (value_of M A t)

  abbrev label : TypeTerm → Option ℕ
  label = label_at S M schema well

  parted : {Y : Type 0} (f : TypeTerm → Option Y) (a b c d : List TypeTerm) → filter_map f (((a ++ b) ++ c) ++ d) ≡ filter_map f a ++ (filter_map f b ++ (filter_map f c ++ filter_map f d))
  parted f a b c d =
      found-append f ((a ++ b) ++ c) d ∙ ap (λ l. l ++ filter_map f d) (found-append f (a ++ b) c ∙ ap (λ l. l ++ filter_map f c) (found-append f a b))
      ∙ append_assoc (filter_map f a ++ filter_map f b) (filter_map f c) (filter_map f d) ∙ append_assoc (filter_map f a) (filter_map f b) (filter_map f c ++ filter_map f d)

  all_labels0 : firsts nat_eq (filter_map label0 cells0 ++ (filter_map label0 gens0 ++ (filter_map label0 eqs0 ++ filter_map label0 obs0))) ≡ below (length M.algebra.nulls)
  all_labels0 = ap (firsts nat_eq) (sym (parted label0 cells0 gens0 eqs0 obs0)) ∙ lists.nulls

  same_cells : filter_map label0 cells0 ≡ filter_map label cells
  same_cells = alike_found M A B null_label cells0 cells (cells_alike S M schema well P A lists)

  same_obs : filter_map label0 obs0 ≡ filter_map label obs
  same_obs = alike_found M A B null_label obs0 obs (observations_alike S M schema well P A lists)

  obs_labels : Every (IsLabel S M schema well) (filter_map label obs)
  obs_labels =
      let whole = filter_map label0 cells0 ++ (filter_map label0 gens0 ++ (filter_map label0 eqs0 ++ filter_map label0 obs0)) in
      let each = subst (λ l. Every (λ y. among nat_eq l y ≡ true) whole) all_labels0 (among_firsts nat_eq eq_itself eq_then whole) in
      let behind = (Every-parts (IsLabel S M schema well) (filter_map label0 cells0) (filter_map label0 gens0 ++ (filter_map label0 eqs0 ++ filter_map label0 obs0)) each).1 in
      let later = (Every-parts (IsLabel S M schema well) (filter_map label0 gens0) (filter_map label0 eqs0 ++ filter_map label0 obs0) behind).1 in
      subst (Every (IsLabel S M schema well)) same_obs (Every-parts (IsLabel S M schema well) (filter_map label0 eqs0) (filter_map label0 obs0) later).1

  nulls_are : firsts nat_eq (filter_map label (((cells ++ gens) ++ eqs) ++ obs)) ≡ below (length M.algebra.nulls)
  nulls_are =
      let cells_again : filter_map label cells ≡ filter_map label0 cells0 = sym same_cells in
      let gen_labels : filter_map label gens ≡ below m = ap (filter_map label) gens_are ∙ nulls_in_order.labels in
      ap (firsts nat_eq) (parted label cells gens eqs obs ∙ (λ j. cells_again j ++ (gen_labels j ++ (filter_map label eqs ++ filter_map label obs))))
      ∙ same_firsts nat_eq eq_itself (filter_map label0 cells0) (filter_map label0 gens0 ++ (filter_map label0 eqs0 ++ filter_map label0 obs0)) (below m)
      (filter_map label eqs ++ filter_map label obs) all_labels0 (firsts-range 0 m) (Every-append (IsLabel S M schema well) (filter_map label eqs) (filter_map label obs) fine_eqs.labels obs_labels)

  -- entries
  abbrev entry : TypeTerm → Option Entry
  entry = entry_at S M schema well

  apart : (k n : ℕ) (x y : Entry) → k < n → slice_get M.algebra.entries k ≡ Some x → slice_get M.algebra.entries n ≡ Some y → same_entry x y ≡ false
  apart k n x y before at there = at_test (same_entry x y) refl
    where
      far : (x.function ≡ y.function → x.args ≡ y.args → ⊥)
      far =
          let Q : Entry → Entry → Type 0 = λ a b. a.function ≡ b.function → a.args ≡ b.args → ⊥ in
          let both : Q (slice_index_or M.algebra.entries k x) (slice_index_or M.algebra.entries n x) = well.distinct k n x before (slice_get_within M.algebra.entries n y there) in
          subst (λ (a : Entry). Q a y) (get_or_from_slice_get M.algebra.entries k x x at)
          (subst (λ (b : Entry). Q (slice_index_or M.algebra.entries k x) b) (get_or_from_slice_get M.algebra.entries n y x there) both)

      at_test : (b : Bool) → same_entry x y ≡ b → same_entry x y ≡ false
      at_test false e = e
      at_test true e = let for_it = entry_for x.function x.args y e in absurd (far (sym for_it.0) for_it.1)

  no_cell_entries : filter_map entry cells ≡ []
  no_cell_entries = none_found entry cells (Every-flat_map (λ t. entry t ≡ None) (cell_nodes S C own) (below (length S.entities)) (λ n e at.
      Every-flat_map (λ t. entry t ≡ None) (λ t. map (λ a. term.Att a.0 t) (edges_from e S.attributes)) (names_of S C own e) (λ k t there.
      Every-map (λ u. entry u ≡ None) (λ a. term.Att a.0 t) (edges_from e S.attributes) (λ i a here. entry_of_Att S M schema well a.0 t))))

  obs_entries : Every (λ o. among same_entry M.algebra.entries o ≡ true) (filter_map entry obs)
  obs_entries = Every-filter_map (λ o. among same_entry M.algebra.entries o ≡ true) entry obs (λ n t o at is. entry_among S M schema well t (Every-at (HasPlain S M schema well) obs n t plain_obs at) o is)

  entries_are : firsts same_entry (filter_map entry (((cells ++ gens) ++ eqs) ++ obs)) ≡ M.algebra.entries
  entries_are =
      let gen_entries : filter_map entry gens ≡ [] = ap (filter_map entry) gens_are ∙ nulls_in_order.entries in
      let none = none_left same_entry M.algebra.entries (firsts same_entry (filter_map entry obs)) (firsts_each same_entry (λ o. among same_entry M.algebra.entries o ≡ true) (filter_map entry obs) obs_entries) in
      let own_alone = alone M.algebra.entries apart in
      ap (firsts same_entry) (parted entry cells gens eqs obs ∙ (λ j. no_cell_entries j ++ (gen_entries j ++ (fine_eqs.entries j ++ filter_map entry obs))))
      ∙ firsts-append same_entry M.algebra.entries (filter_map entry obs)
      ∙ (λ j. own_alone j ++ none j)
      ∙ append-nil M.algebra.entries

  -- names
  row_of_list : (e row : ℕ) (t : EntTerm) → slice_get (slice_index_or own e []) row ≡ Some t → (e < length S.entities) × (row < count_of M e) × (t ≡ row_term S M e row)
  row_of_list e row t at = elim (cases_lt e (length S.entities)) [
    | inl within ↦
        let here = ap (λ l. slice_get l row) (sym (names_are S M schema well e within)) ∙ at in
        let inside : row < count_of M e = omega (arith, slice_get_within (row_names S M e) row t here, length-map (below (count_of M e)) (row_term S M e), length-range_with_len 0 (count_of M e)) in
        let row_is : 0 + row ≡ row = omega arith in
        let there = get-map (row_term S M e) (below (count_of M e)) row row (at_range 0 (count_of M e) row inside ∙ ap (λ n. Some n) row_is) in
        let both : Some t ≡ Some (row_term S M e row) = sym here ∙ there in
        let same : t ≡ row_term S M e row = cc in
        (within, inside, same)
    | inr past ↦
        let none : slice_index_or own e [] ≡ [] = beyond own e (let size = length-map (below (length S.entities)) (row_names S M) in let range = length-range_with_len 0 (length S.entities) in omega arith) in
        let empty : slice_get [] row ≡ Some t = ap (λ (l : List EntTerm). slice_get l row) (sym none) ∙ at in
        cc
  ]
    where
      beyond : (xs : List (List EntTerm)) (k : ℕ) → length xs ≤ k → slice_index_or xs k [] ≡ []
      beyond [] k h = refl
      beyond (x ∷ xs) zero h = absurd (omega arith)
      beyond (x ∷ xs) (suc k) h = beyond xs k (omega arith)

  no_count : (xs : List ℕ) (k : ℕ) → length xs ≤ k → slice_index_or xs k 0 ≡ 0
  no_count [] k h = refl
  no_count (x ∷ xs) zero h = absurd (omega arith)
  no_count (x ∷ xs) (suc k) h = no_count xs k (omega arith)

  no_names : (xs : List (List EntTerm)) (k : ℕ) → length xs ≤ k → slice_index_or xs k [] ≡ []
  no_names [] k h = refl
  no_names (x ∷ xs) zero h = absurd (omega arith)
  no_names (x ∷ xs) (suc k) h = no_names xs k (omega arith)

  own_size : length (map (row_names S M) (below (length S.entities))) ≡ length S.entities
  own_size = length-map (below (length S.entities)) (row_names S M) ∙ length-range_with_len 0 (length S.entities)

  counted : (e : ℕ) → length (slice_index_or (map (row_names S M) (below (length S.entities))) e []) ≡ count_of M e
  counted e = elim (cases_lt e (length S.entities)) [
    | inl within ↦
        ap length (names_are S M schema well e within) ∙ length-map (below (count_of M e)) (row_term S M e) ∙ length-range_with_len 0 (count_of M e)
    | inr past ↦
        let size = own_size in
        let same = well.entities in
        ap length (no_names own e (omega arith)) ∙ sym (no_count M.sheet.counts e (omega arith))
  ]

  named : (e row : ℕ) → row < count_of M e
      → (t : EntTerm) × (slice_get (slice_index_or (map (row_names S M) (below (length S.entities))) e []) row ≡ Some t) × IsLeastName S (canonical S M) M (canonical_assignment S M) e row t
  named e row inside = elim (cases_lt e (length S.entities)) [
    | inl within ↦
        let row_is : 0 + row ≡ row = omega arith in (
          row_term S M e row,
          ap (λ l. slice_get l row) (names_are S M schema well e within)
              ∙ get-map (row_term S M e) (below (count_of M e)) row row (at_range 0 (count_of M e) row inside ∙ ap (λ n. Some n) row_is),
          least_name S M schema well e row inside,
        )
    | inr past ↦
        let same = well.entities in
        absurd (omega (arith, inside, no_count M.sheet.counts e (omega arith)))
  ]

  ordered : (e row next : ℕ) (t u : EntTerm) → row < next → slice_get (slice_index_or (map (row_names S M) (below (length S.entities))) e []) row ≡ Some t
      → slice_get (slice_index_or (map (row_names S M) (below (length S.entities))) e []) next ≡ Some u → is_lt (term_cmp t u) ≡ true
  ordered e row next t u before at there =
      let first = row_of_list e row t at in
      let second = row_of_list e next u there in
      (λ j. is_lt (term_cmp (first.2 j) (second.2 j))) ∙ is_lt-before (row_term S M e row) (row_term S M e next) (inr (refl, inl (omega arith)))

  pub lists_again : Lists S (canonical S M) M (canonical_assignment S M)
  lists_again = record {
    initial = derived.initial S M schema well satisfies;
    names = map (row_names S M) (below (length S.entities));
    named = named;
    entities = own_size;
    counted = counted;
    ordered = ordered;
    plain = λ k d within.
        Every-at (HasPlain S M schema well) (((cells ++ gens) ++ eqs) ++ obs) k (get_or (((cells ++ gens) ++ eqs) ++ obs) k d) plain_nodes (slice_get-get_or (((cells ++ gens) ++ eqs) ++ obs) k d within);
    nulls = nulls_are;
    entries = entries_are;
  }
