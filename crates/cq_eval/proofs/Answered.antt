-- The answers that are made are the answers, and the tables that are made are those of eval.
use Rattle.std.proofs.Common.{ℕ, zero, suc, Bool, true, false, cond, List, [], ◌∷◌, Option, Some, None, ◌≡◌, ◌<◌, ◌≤◌, ◌+◌, ◌||◌, map, filter, length, get_or, refl, sym, ap, subst, ◌∙◌, arith}
use Rattle.std.specs.Prelude.{slice_get, slice_index, slice_index_or, position, nat_eq, is_some, All, nat_lt}
use Rattle.std.specs.Option.{unwrap_or}
use Rattle.std.specs.List.{list_all, list_any, enumerate_from}
use Rattle.std.specs.Cmp.Lexicographic.{pointwise, nat_list_eq_equiv, pointwise_decides}
use Rattle.std.proofs.lemmas.Bool.{and_parts, and_from, ltb-false}
use Rattle.std.proofs.lemmas.Bool.Decides.{Decides-eqb}
use Rattle.std.proofs.lemmas.List.{length-map}
use Rattle.std.proofs.lemmas.List.FromFn.{length-map-range_with_len, get_or-map-range_with_len, fill_by_all, length-enumerate_from}
use Rattle.std.proofs.lemmas.List.Quantifiers.{position-Some}
use Rattle.std.proofs.lemmas.Option.{get_or_from_slice_get, slice_get-get_or}
use Rattle.cq_base.proofs.Numbers.{position-any}
use Rattle.cq_theory.specs.declared.constant.Con.TheVariants.{Named}
use Rattle.cq_theory.specs.declared.schema.Edge.{Edge}
use Rattle.cq_theory.specs.declared.value.Value.{Value}
use Rattle.cq_theory.specs.declared.value.Value.TheVariants.{Const}
use Rattle.cq_theory.specs.declared.value.Sheet.{Sheet}
use Rattle.cq_theory.specs.declared.value.Algebra.{Algebra}
use Rattle.cq_theory.specs.SchemaData.{SchemaData as Schema}
use Rattle.cq_theory.specs.Canonical.{below}
use Rattle.cq_theory.specs.Tables.{Tables, AtRow, count_of, key_at, cell_at, value_of, IsWellFormed, Satisfies}
use Rattle.cq_theory.specs.Value.{symbols_of}
use Rattle.cq_theory.proofs.OnValues.{All_at}
use Rattle.cq_instance.specs.Given.{IsModel, tables, has_long_cell, is_oversized, size_of}
use Rattle.cq_instance.proofs.Lists.{All_from, get-map}
use Rattle.cq_instance.proofs.Enumerated.{numbered_at}
use Rattle.cq_query.specs.QueryData.{QueryData as Query}
use Rattle.cq_query.specs.IsQuery.{IsQuery}
use Rattle.cq_query.specs.Duties.{Sound}
use Rattle.cq_query.specs.Translation.{tests_at, attribute_term}
use Rattle.cq_query.specs.Answers.{tuples, AreFiltered, none, kept, left_out, AreAnswers, MeetsTests, variable_counts, IsEval}
use Rattle.cq_query.specs.Leading.{led}
use Rattle.cq_query.proofs.Answering.{among_answers}
use Rattle.cq_query.proofs.Once.{one_place, one_answers, answers_once}
use Rattle.cq_query.proofs.Holding.{led_answer}
use Rattle.cq_query.proofs.Evaluated as evaluated
use Rattle.cq_eval.specs.Testing.{holds_at}
use Rattle.cq_eval.specs.Made.{answers_of, StandOnce, place_in, made_keys, made_cells, made_tables}
use Rattle.cq_eval.specs.Refused.{HasMany}
use Rattle.cq_eval.proofs.Tested.{from_test, to_test}

-- a filter by a test that decides P
module _ {X : Type 0} (p : X → Bool) (P : X → Type 0) (from : (x : X) → p x ≡ true → P x) (to : (x : X) → P x → p x ≡ true) where
  one_more : (x : X) (xs ys : List X) (b : Bool) → p x ≡ b → AreFiltered P xs ys → AreFiltered P (x ∷ xs) (cond b (x ∷ ys) ys)
  one_more x xs ys true h rest = kept (from x h) rest
  one_more x xs ys false h rest = left_out (λ q. let both : true ≡ false = sym (to x q) ∙ h in cc) rest

  pub filter_are : (xs : List X) → AreFiltered P xs (filter p xs)
  filter_are [] = none
  filter_are (x ∷ xs) = one_more x xs (filter p xs) (p x) refl (filter_are xs)

-- all members of a list pass
module _ {X : Type 0} (f : X → Bool) where
  pub all_at : (xs : List X) → list_all f xs ≡ true → (n : ℕ) (x : X) → slice_get xs n ≡ Some x → f x ≡ true
  all_at [] h n x at = cc
  all_at (y ∷ xs) h zero x at = let same : y ≡ x = cc in ap f (sym same) ∙ (and_parts (f y) (list_all f xs) h).0
  all_at (y ∷ xs) h (suc n) x at = all_at xs (and_parts (f y) (list_all f xs) h).1 n x at

  pub all_from_each : (xs : List X) → ((n : ℕ) (x : X) → slice_get xs n ≡ Some x → f x ≡ true) → list_all f xs ≡ true
  all_from_each [] h = refl
  all_from_each (y ∷ xs) h = and_from (f y) (list_all f xs) (h 0 y refl) (all_from_each xs (λ n x at. h (suc n) x at))

module _ (Q : Query) (M : Tables) where
  pub answers_are : (entity : ℕ) → AreAnswers Q M entity (answers_of Q M entity)
  answers_are entity = filter_are (λ rows. list_all (holds_at M rows) (tests_at Q entity)) (MeetsTests Q M entity)
      (λ rows h n e at. from_test M rows e (all_at (holds_at M rows) (tests_at Q entity) h n e at))
      (λ rows h. all_from_each (holds_at M rows) (tests_at Q entity) (λ n e at. to_test M rows e (h n e at)))
      (tuples (variable_counts Q M entity))

  pub stand_once : (entity : ℕ) → StandOnce (answers_of Q M entity)
  stand_once entity p q rows at there = one_place (answers_of Q M entity) (answers_once Q M entity (answers_of Q M entity) (answers_are entity)) p q rows at there

  pub has_many : (entity : ℕ) → 1000000 < length (answers_of Q M entity) → HasMany Q M entity
  has_many entity h = record { answers = answers_of Q M entity; are_answers = answers_are entity; many = h }

  pub not_many : (entity : ℕ) → length (answers_of Q M entity) ≤ 1000000 → HasMany Q M entity → ⊥
  not_many entity few h =
      let same : h.answers ≡ answers_of Q M entity = one_answers Q M entity h.answers (answers_of Q M entity) h.are_answers (answers_are entity) in
      absurd (omega (arith, few, h.many, ap length same))

-- the place of a list that stands among others
pub same_rows : (xs ys : List ℕ) → pointwise nat_eq xs ys ≡ true → xs ≡ ys
same_rows xs ys h = (pointwise_decides Decides-eqb xs ys).0 h

pub any_at : {X : Type 0} (p : X → Bool) (xs : List X) (n : ℕ) (x : X) → slice_get xs n ≡ Some x → p x ≡ true → list_any p xs ≡ true
any_at p [] n x at h = cc
any_at p (y ∷ xs) zero x at h = let same : y ≡ x = cc in ap (λ b. b || list_any p xs) (ap p same ∙ h)
any_at p (y ∷ xs) (suc n) x at h = ap (λ b. p y || b) (any_at p xs n x at h) ∙ or_true (p y)
  where
    or_true : (b : Bool) → (b || true) ≡ true
    or_true true = refl
    or_true false = refl

pub place_found : (lists : List (List ℕ)) (p : ℕ) (rows : List ℕ) → slice_get lists p ≡ Some rows → slice_get lists (place_in lists rows) ≡ Some rows
place_found lists p rows at = found (position (pointwise nat_eq rows) lists) refl
  where
    found : (o : Option ℕ) → position (pointwise nat_eq rows) lists ≡ o → slice_get lists (unwrap_or o 0) ≡ Some rows
    found None is =
        let some = position-any (pointwise nat_eq rows) lists ∙ any_at (pointwise nat_eq rows) lists p rows at (nat_list_eq_equiv.refl rows) in
        let both : is_some {T = ℕ} None ≡ true = ap is_some (sym is) ∙ some in cc
    found (Some i) is =
        let here = position-Some (pointwise nat_eq rows) lists i [] is in
        slice_get-get_or lists i [] here.0 ∙ ap (λ l. Some l) (sym (same_rows rows (get_or lists i []) here.1))

none_at : {X : Type 0} (p : X → Bool) (xs : List X) (n : ℕ) (x : X) → slice_get xs n ≡ Some x → list_any p xs ≡ false → p x ≡ false
none_at p xs n x at h = by (p x) refl
  where
    by : (b : Bool) → p x ≡ b → b ≡ false
    by false e = refl
    by true e = let both : true ≡ false = sym (any_at p xs n x at e) ∙ h in cc

-- the tables that are made
module _ (Q : Query) (M : Tables) (query : IsQuery Q) where
  abbrev N : Tables
  N = made_tables Q M

  abbrev listed : List (List (List ℕ))
  listed = map (answers_of Q M) (below (length Q.target.entities))

  pub listed_at : (entity : ℕ) → entity < length Q.target.entities → slice_index_or listed entity [] ≡ answers_of Q M entity
  listed_at entity within = let here : 0 + entity ≡ entity = omega arith in get_or-map-range_with_len (answers_of Q M) 0 (length Q.target.entities) entity entity [] within here

  count_at : (entity : ℕ) → entity < length Q.target.entities → count_of N entity ≡ length (answers_of Q M entity)
  count_at entity within =
      let here : 0 + entity ≡ entity = omega arith in
      get_or-map-range_with_len (λ e. length (answers_of Q M e)) 0 (length Q.target.entities) entity entity 0 within here

  pub key_ends : (k : ℕ) (edge : Edge) → slice_get Q.target.keys k ≡ Some edge → (edge.from < length Q.target.entities) × (edge.to < length Q.target.entities)
  key_ends k edge h = All_at (λ (x : Edge). (x.from < length Q.target.entities) × (x.to < length Q.target.entities)) Q.target.keys k edge query.target.keys h

  pub attribute_source : (a : ℕ) (edge : Edge) → slice_get Q.target.attributes a ≡ Some edge → edge.from < length Q.target.entities
  attribute_source a edge h = (All_at (λ (x : Edge). (x.from < length Q.target.entities) × (x.to < length Q.target.typeside.types)) Q.target.attributes a edge query.target.attributes h).0

  counts_are : map (λ e. length (answers_of Q M e)) (below (length Q.target.entities)) ≡ map (λ e. length (slice_index_or listed e [])) (below (length Q.target.entities))
  counts_are = fill_by_all (λ e. length (slice_index_or listed e [])) (map (λ e. length (answers_of Q M e)) (below (length Q.target.entities))) (length Q.target.entities) 0
      (length-map-range_with_len (λ e. length (answers_of Q M e)) 0 (length Q.target.entities))
      (λ k within.
      let here : 0 + k ≡ k = omega arith in
      get_or-map-range_with_len (λ e. length (answers_of Q M e)) 0 (length Q.target.entities) k k 0 within here ∙ ap length (sym (listed_at k within)))

  key_list : (k : ℕ) (edge : Edge) → slice_get Q.target.keys k ≡ Some edge → slice_index_or N.sheet.keys k [] ≡ made_keys Q M (k, edge)
  key_list k edge h = numbered_at (made_keys Q M) Q.target.keys k edge [] h

  cell_list : (a : ℕ) (edge : Edge) → slice_get Q.target.attributes a ≡ Some edge → slice_index_or N.sheet.cells a [] ≡ made_cells Q M (a, edge)
  cell_list a edge h = numbered_at (made_cells Q M) Q.target.attributes a edge [] h

  answer_at : (entity row : ℕ) (rows : List ℕ) → entity < length Q.target.entities → slice_get (slice_index_or listed entity []) row ≡ Some rows → slice_get (answers_of Q M entity) row ≡ Some rows
  answer_at entity row rows within at = ap (λ l. slice_get l row) (sym (listed_at entity within)) ∙ at

  module _ (sound : Sound Q) (well : IsWellFormed Q.source M) (satisfies : Satisfies Q.source M) where
    leads : (k row : ℕ) (edge : Edge) (rows : List ℕ) → slice_get Q.target.keys k ≡ Some edge → slice_get (slice_index_or listed edge.from []) row ≡ Some rows
        → slice_get (slice_index_or listed edge.to []) (key_at N k row) ≡ Some (led Q M k rows)
    leads k row edge rows h at =
        let ends = key_ends k edge h in
        let here = answer_at edge.from row rows ends.0 at in
        let answer = (among_answers Q M edge.from (answers_of Q M edge.from) (answers_are Q M edge.from) rows).0 (row, here) in
        let target = (among_answers Q M edge.to (answers_of Q M edge.to) (answers_are Q M edge.to) (led Q M k rows)).1 (led_answer Q M query well satisfies sound k edge h rows answer) in
        let f : List ℕ → ℕ = λ r. place_in (answers_of Q M edge.to) (led Q M k r) in
        let cell : key_at N k row ≡ f rows =
        ap (λ l. slice_index l row) (key_list k edge h) ∙ get_or_from_slice_get (map f (answers_of Q M edge.from)) row (f rows) 0 (get-map f (answers_of Q M edge.from) row rows here) in
        ap (λ l. slice_get l (key_at N k row)) (listed_at edge.to ends.1)
        ∙ ap (slice_get (answers_of Q M edge.to)) cell ∙ place_found (answers_of Q M edge.to) target.0 (led Q M k rows) target.1

    cells_are : (a row : ℕ) (edge : Edge) (rows : List ℕ) → slice_get Q.target.attributes a ≡ Some edge → slice_get (slice_index_or listed edge.from []) row ≡ Some rows
        → cell_at N a row ≡ value_of M (map AtRow rows) (attribute_term Q a)
    cells_are a row edge rows h at =
        let here = answer_at edge.from row rows (attribute_source a edge h) at in
        let f : List ℕ → Value = λ r. value_of M (map AtRow r) (attribute_term Q a) in
        ap (λ l. slice_index_or l row (Const (Named 0))) (cell_list a edge h)
        ∙ get_or_from_slice_get (map f (answers_of Q M edge.from)) row (f rows) (Const (Named 0)) (get-map f (answers_of Q M edge.from) row rows here)

    pub made_eval : IsEval Q M N
    made_eval = record {
      answers = listed;
      each = λ entity within. subst (AreAnswers Q M entity) (sym (listed_at entity within)) (answers_are Q M entity);
      counts = counts_are;
      key_columns = λ k edge h. ap length (key_list k edge h) ∙ length-map (answers_of Q M edge.from) (λ rows. place_in (answers_of Q M edge.to) (led Q M k rows)) ∙ sym (count_at edge.from (key_ends k edge h).0);
      cell_columns = λ a edge h. ap length (cell_list a edge h) ∙ length-map (answers_of Q M edge.from) (λ rows. value_of M (map AtRow rows) (attribute_term Q a)) ∙ sym (count_at edge.from (attribute_source a edge h));
      keys = leads;
      cells = cells_are;
      algebra = refl;
      key_count = length-map (enumerate_from 0 Q.target.keys) (made_keys Q M) ∙ length-enumerate_from 0 Q.target.keys;
      cell_count = length-map (enumerate_from 0 Q.target.attributes) (made_cells Q M) ∙ length-enumerate_from 0 Q.target.attributes;
    }

    module _ (entries_fit : All (λ e. length e.args ≤ 1023) M.algebra.entries) (short : has_long_cell N ≡ false) where
      cells_fit : All (λ column. All (λ v. symbols_of v ≤ 1024) column) N.sheet.cells
      cells_fit = All_from (λ column. All (λ v. symbols_of v ≤ 1024) column) N.sheet.cells (λ n column at.
          All_from (λ v. symbols_of v ≤ 1024) column (λ m v here.
          ltb-false 1024 (symbols_of v) (none_at (λ w. nat_lt 1024 (symbols_of w)) column m v here (none_at (list_any (λ w. nat_lt 1024 (symbols_of w))) N.sheet.cells n column at short))))

      pub made_model : IsModel Q.target N
      made_model = record {
        well_formed = evaluated.well_formed Q query M well satisfies N made_eval;
        satisfies = evaluated.satisfied Q query M well satisfies N made_eval sound;
        cells_fit = cells_fit;
        entries_fit = entries_fit;
      }

      pub given_model : (S : Schema) (sheet : Sheet) (algebra : Algebra) → S ≡ Q.target → sheet ≡ N.sheet → algebra ≡ M.algebra → IsModel S (tables sheet algebra)
      given_model S sheet algebra target_is sheet_is algebra_is =
          let same : IsModel Q.target N ≡ IsModel S (tables sheet algebra) = λ i. IsModel (sym target_is i) (tables (sym sheet_is i) (sym algebra_is i)) in
          subst (λ (X : Type 0). X) same made_model

pub neither : (a b : Bool) → (a || b) ≡ false → (a ≡ false) × (b ≡ false)
neither true b h = cc
neither false b h = (refl, h)

pub short_cells : (N : Tables) → is_oversized N ≡ false → has_long_cell N ≡ false
short_cells N h = (neither (nat_lt 16000000 (size_of N)) (has_long_cell N) h).1
