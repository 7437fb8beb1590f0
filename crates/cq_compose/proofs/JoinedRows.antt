-- What terms over a block of the second query mean at rows of the first query's tables, and their components at the answers of these rows.
use Rattle.std.proofs.Common.{ℕ, suc, List, [], ◌∷◌, ◌++◌, Option, Some, ◌≡◌, ◌<◌, map, length, refl, sym, ap, subst, ◌∙◌}
use Rattle.std.specs.Prelude.{slice_get, slice_index_or}
use Rattle.std.specs.List.{flat_map}
use Rattle.std.proofs.lemmas.List.{map-append}
use Rattle.std.proofs.lemmas.Option.{option_and_then_some, get_or_from_slice_get}
use Rattle.cq_base.specs.declared.name.Name.{Name}
use Rattle.cq_theory.specs.declared.presentation.Equation.{Equation}
use Rattle.cq_theory.specs.declared.presentation.Equation.TheVariants as equation
use Rattle.cq_theory.specs.declared.presentation.Sort.TheVariants.{Plain, Entity}
use Rattle.cq_theory.specs.SchemaData.{SchemaData as Schema}
use Rattle.cq_theory.specs.declared.term.EntTerm.{EntTerm}
use Rattle.cq_theory.specs.declared.term.TypeTerm.{TypeTerm}
use Rattle.cq_theory.specs.declared.value.Value.{Value}
use Rattle.cq_theory.specs.declared.value.Algebra.{Algebra}
use Rattle.cq_theory.specs.Sorts.{target_of, entity_at, entity_of, type_of}
use Rattle.cq_theory.specs.Derivation.{left_of, right_of}
use Rattle.cq_theory.specs.Tables.{Tables, AtRow, AtValue, Assignment, row_in, value_in, count_of, row_from, row_of, value_of, value_step, meaning_of, applied}
use Rattle.cq_theory.proofs.TypeTerms.{fold-Const, fold-Att, fold-Fun, Each}
use Rattle.cq_theory.proofs.ResolvedSorts.{map_some}
use Rattle.cq_blocks.specs.declared.block.Block.{Block}
use Rattle.cq_query.specs.QueryData.{QueryData as Query}
use Rattle.cq_query.specs.Puts.{generators_from}
use Rattle.cq_query.specs.Translation.{variables_at, tests_at, attribute_term}
use Rattle.cq_query.specs.IsQuery.{IsQuery}
use Rattle.cq_query.specs.Answers.{IsTuple, variable_counts, stands, MeetsTests, IsEval}
use Rattle.cq_query.proofs.Holding.{tuple_at, variable_count}
use Rattle.cq_query.proofs.Meaning.{put_value}
use Rattle.cq_query.proofs.Once.{one_place, answers_once}
use Rattle.cq_query.proofs.SortedDuties.{All_in}
use Rattle.cq_query.proofs.Standing.{generators_at, variable_at, no_type_at}
use Rattle.cq_compose.specs.Composite.{width, first_of, components, term_components, translated, translated_step, translated_test}
use Rattle.cq_compose.proofs.Typed.{on_typed}
use Rattle.cq_compose.proofs.Putting.{get_mapped}
use Rattle.cq_compose.proofs.Fitting.{attribute_typed}
use Rattle.cq_compose.proofs.Agreeing.{one_member}
use Rattle.cq_compose.proofs.Places.{flat_at}
use Rattle.cq_compose.proofs.Components.{components_are, component_fits, second_query, variable_within, term_stand}
use Rattle.cq_compose.proofs.Tuples.{paired, paired_at, paired_length, answer_of, joined}
use Rattle.cq_compose.proofs.Landing.{target_within, standing_rows, HoldsAt, rows_hold, rows_same, answers_at, answer_there, answer_length, lands}

same_some : {X : Type 0} (o : Option X) (x y : X) → o ≡ Some x → o ≡ Some y → x ≡ y
same_some o x y h k = cc

module _ (Q : Query) (U : Schema) (blocks : List Block) (query : IsQuery Q) (second : IsQuery (second_query Q U blocks)) (M N : Tables) (eval : IsEval Q M N)
    (u : ℕ) (within : u < length U.entities) (rows : List ℕ) (tuple : IsTuple rows (variable_counts (second_query Q U blocks) N u)) where
  abbrev W : Query
  W = second_query Q U blocks

  abbrev answers : ℕ → List (List ℕ)
  answers = answers_at Q query M N eval

  -- the answers that the rows number, one behind another
  abbrev pub all_of : List ℕ
  all_of = joined answers (variables_at W u) rows

  abbrev there : Assignment
  there = stands W N rows

  abbrev here : Assignment
  here = stands Q M all_of

  row_at : (y : ℕ) (v : Name × ℕ) → slice_get (variables_at W u) y ≡ Some v → (row : ℕ) × (slice_get rows y ≡ Some row) × (row < count_of N v.1)
  row_at y v is = tuple_at rows (variable_counts W N u) tuple y (count_of N v.1) (get_mapped (λ (w : Name × ℕ). count_of N w.1) (variables_at W u) y v is)

  is_within : (y : ℕ) (v : Name × ℕ) → slice_get (variables_at W u) y ≡ Some v → v.1 < length Q.target.entities
  is_within y v is = variable_within Q U blocks second u y v within is

  sizes : (i : ℕ) (p : ℕ × ℕ) (v : Name × ℕ) → slice_get (paired (variables_at W u) rows) i ≡ Some p → slice_get (variables_at W u) i ≡ Some v → length (answer_of answers p) ≡ width Q W v
  sizes i p v at is =
      let row = row_at i v is in
      let same : p ≡ (v.1, row.0) = same_some (slice_get (paired (variables_at W u) rows) i) p (v.1, row.0) at (paired_at (variables_at W u) rows i v row.0 is row.1) in
      ap (λ (q : ℕ × ℕ). length (answer_of answers q)) same ∙ answer_length Q query M N eval v.1 row.0 (is_within i v is) row.2

  -- the components of a variable name the answer that its row numbers
  variable_rows : (y : ℕ) (v : Name × ℕ) (row : ℕ) → slice_get (variables_at W u) y ≡ Some v → slice_get rows y ≡ Some row → row < count_of N v.1
      → map (row_of M here) (components Q W u y) ≡ slice_index_or (answers v.1) row []
  variable_rows y v row is at inside =
      ap (map (row_of M here)) (components_are Q W u y v is)
      ∙ ap (λ n. map (row_of M here) (generators_from (first_of Q W u y) n)) (sym (answer_length Q query M N eval v.1 row (is_within y v is) inside))
      ∙ standing_rows M all_of (first_of Q W u y) (slice_index_or (answers v.1) row []) (λ n r at'.
      flat_at (answer_of answers) (width Q W) (paired (variables_at W u) rows) (variables_at W u) sizes
      (paired_length (variables_at W u) rows (variable_count W N u rows tuple)) y (v.1, row) n r (paired_at (variables_at W u) rows y v row is at) at')

  -- and so do the components of each term
  pub term_rows : (t : EntTerm) (e : ℕ) → entity_of Q.target (generators_at W u) t ≡ Some e → slice_get (answers e) (row_of N there t) ≡ Some (map (row_of M here) (term_components Q W u t))
  term_rows t e h = option_and_then_some (target_of Q.target.keys t.path) (entity_at (slice_get (generators_at W u) t.generator)) e h (λ start begins rest.
      let v = variable_at W u t.generator start begins in
      let row = row_at t.generator v.0 v.1 in
      let reads : row_in (slice_index_or there t.generator (AtRow 0)) ≡ row.0 = ap row_in (get_or_from_slice_get there t.generator (AtRow row.0) (AtRow 0) (get_mapped AtRow rows t.generator row.0 row.1)) in
      let answer : slice_get (answers v.0.1) row.0 ≡ Some (map (row_of M here) (components Q W u t.generator)) =
      answer_there Q query M N eval v.0.1 row.0 (is_within t.generator v.0 v.1) row.2 ∙ ap (λ l. Some l) (sym (variable_rows t.generator v.0 row.0 v.1 row.1 row.2)) in
      let path : target_of Q.target.keys t.path v.0.1 ≡ Some e = ap (target_of Q.target.keys t.path) v.2 ∙ rest in
      ap (λ r. slice_get (answers e) (row_from N r t.path)) reads
      ∙ lands Q query M N eval here t.path v.0.1 e row.0 (components Q W u t.generator) path (component_fits Q W u t.generator v.0 v.1).stand.count answer)

  -- the entity of a term is one of the first query's target
  term_within : (t : EntTerm) (e : ℕ) → entity_of Q.target (generators_at W u) t ≡ Some e → e < length Q.target.entities
  term_within t e h = option_and_then_some (target_of Q.target.keys t.path) (entity_at (slice_get (generators_at W u) t.generator)) e h (λ start begins rest.
      let v = variable_at W u t.generator start begins in
      target_within Q.target query.target.keys t.path start e (subst (λ n. n < length Q.target.entities) v.2 (is_within t.generator v.0 v.1)) rest)

  -- values are those of the terms' translations
  pub term_values : (t : TypeTerm) (type : ℕ) → type_of Q.target (generators_at W u) t ≡ Some type → value_of N there t ≡ value_of M here (translated Q W u t)
  term_values = on_typed Q.target (generators_at W u) (λ t. value_of N there t ≡ value_of M here (translated Q W u t))
      (λ n type h. absurd (no_type_at W u n type h))
      (λ c type h. fold-Const Value (value_step N there) c ∙ sym (ap (value_of M here) (fold-Const TypeTerm (translated_step Q W u) c) ∙ fold-Const Value (value_step M here) c))
      (λ a t edge is led h.
      fold-Att Value (value_step N there) a t ∙ eval.cells a (row_of N there t) edge (map (row_of M here) (term_components Q W u t)) is (term_rows t edge.from led)
      ∙ sym (put_value Q M here (term_components Q W u t) edge.from (term_stand Q U blocks query u t edge.from led).count (attribute_term Q a) edge.to (attribute_typed Q query a edge is))
      ∙ sym (ap (value_of M here) (fold-Att TypeTerm (translated_step Q W u) a t)))
      (λ f ts type h each.
      fold-Fun Value (value_step N there) f ts
      ∙ ap (λ (g : Algebra). applied (record { sheet = N.sheet; algebra = g }) f (map (value_of N there) ts)) eval.algebra
      ∙ ap (applied M f) (all_values ts each)
      ∙ sym (ap (value_of M here) (fold-Fun TypeTerm (translated_step Q W u) f ts) ∙ fold-Fun Value (value_step M here) f (map (translated Q W u) ts)))
    where
      all_values : (ts : List TypeTerm) → Each (λ t. value_of N there t ≡ value_of M here (translated Q W u t)) ts → map (value_of N there) ts ≡ map (value_of M here) (map (translated Q W u) ts)
      all_values [] each = refl
      all_values (t ∷ ts) each =
          let one : value_of N there t ≡ value_of M here (translated Q W u t) = each.0 in
          let rest = all_values ts each.1 in
          λ i. one i ∷ rest i

  -- each where equation of the second query holds where those that it gives hold
  one_test : (n : ℕ) (e : Equation) → slice_get (tests_at W u) n ≡ Some e → meaning_of N there (left_of e) ≡ meaning_of N there (right_of e) → All_in (HoldsAt M here) (translated_test Q W u e)
  one_test n (equation.Ent t v) is equal =
      let test = (second.each_frozen u within).equations n (equation.Ent t v) is in
      let left = map_some Entity (entity_of Q.target (generators_at W u) t) test.sort test.left in
      let right = map_some Entity (entity_of Q.target (generators_at W u) v) test.sort test.right in
      let same : right.0 ≡ left.0 = let both_are : Entity right.0 ≡ Entity left.0 = right.2 ∙ sym left.2 in cc in
      let row : row_of N there t ≡ row_of N there v = ap row_in equal in
      rows_hold M here (term_components Q W u t) (term_components Q W u v)
      (same_some (slice_get (answers left.0) (row_of N there t)) _ _ (term_rows t left.0 left.1)
      (ap (slice_get (answers left.0)) row ∙ ap (λ e. slice_get (answers e) (row_of N there v)) (sym same) ∙ term_rows v right.0 right.1))
  one_test n (equation.Typ t v) is equal =
      let test = (second.each_frozen u within).equations n (equation.Typ t v) is in
      let left = map_some Plain (type_of Q.target (generators_at W u) t) test.sort test.left in
      let right = map_some Plain (type_of Q.target (generators_at W u) v) test.sort test.right in
      one_member (HoldsAt M here) (equation.Typ (translated Q W u t) (translated Q W u v)) (ap AtValue (sym (term_values t left.0 left.1) ∙ ap value_in equal ∙ term_values v right.0 right.1))

  test_back : (n : ℕ) (e : Equation) → slice_get (tests_at W u) n ≡ Some e → All_in (HoldsAt M here) (translated_test Q W u e) → meaning_of N there (left_of e) ≡ meaning_of N there (right_of e)
  test_back n (equation.Ent t v) is holds =
      let test = (second.each_frozen u within).equations n (equation.Ent t v) is in
      let left = map_some Entity (entity_of Q.target (generators_at W u) t) test.sort test.left in
      let right = map_some Entity (entity_of Q.target (generators_at W u) v) test.sort test.right in
      let same : right.0 ≡ left.0 = let both_are : Entity right.0 ≡ Entity left.0 = right.2 ∙ sym left.2 in cc in
      let count : length (term_components Q W u t) ≡ length (term_components Q W u v) =
      (term_stand Q U blocks query u t left.0 left.1).count ∙ ap (λ e. length (variables_at Q e)) (sym same) ∙ sym (term_stand Q U blocks query u v right.0 right.1).count in
      let equal : map (row_of M here) (term_components Q W u t) ≡ map (row_of M here) (term_components Q W u v) = rows_same M here (term_components Q W u t) (term_components Q W u v) count holds in
      ap AtRow (one_place (answers left.0) (answers_once Q M left.0 (answers left.0) (eval.each left.0 (term_within t left.0 left.1))) (row_of N there t) (row_of N there v)
      (map (row_of M here) (term_components Q W u t)) (term_rows t left.0 left.1)
      (ap (λ e. slice_get (answers e) (row_of N there v)) (sym same) ∙ term_rows v right.0 right.1 ∙ ap (λ l. Some l) (sym equal)))
  test_back n (equation.Typ t v) is holds =
      let test = (second.each_frozen u within).equations n (equation.Typ t v) is in
      let left = map_some Plain (type_of Q.target (generators_at W u) t) test.sort test.left in
      let right = map_some Plain (type_of Q.target (generators_at W u) v) test.sort test.right in
      ap AtValue (term_values t left.0 left.1 ∙ ap value_in (holds 0 (equation.Typ (translated Q W u t) (translated Q W u v)) refl) ∙ sym (term_values v right.0 right.1))

  -- the rows at which the keys' and other terms of a list stand, as the answers that they number
  pub list_rows : (vs : List (Name × ℕ)) (ts : List EntTerm) → length ts ≡ length vs
      → ((n : ℕ) (t : EntTerm) (v : Name × ℕ) → slice_get ts n ≡ Some t → slice_get vs n ≡ Some v → entity_of Q.target (generators_at W u) t ≡ Some v.1)
      → joined answers vs (map (row_of N there) ts) ≡ map (row_of M here) (flat_map (term_components Q W u) ts)
  list_rows [] [] same h = refl
  list_rows [] (t ∷ ts) same h = cc
  list_rows (v ∷ vs) [] same h = refl
  list_rows (v ∷ vs) (t ∷ ts) same h =
      let one : slice_index_or (answers v.1) (row_of N there t) [] ≡ map (row_of M here) (term_components Q W u t) =
      get_or_from_slice_get (answers v.1) (row_of N there t) (map (row_of M here) (term_components Q W u t)) [] (term_rows t v.1 (h 0 t v refl refl)) in
      let rest : joined answers vs (map (row_of N there) ts) ≡ map (row_of M here) (flat_map (term_components Q W u) ts) = list_rows vs ts (let fewer : length ts ≡ length vs = cc in fewer) (λ n s w at at'. h (suc n) s w at at') in
      (λ i. one i ++ rest i) ∙ sym (map-append (row_of M here) (term_components Q W u t) (flat_map (term_components Q W u) ts))

-- the equations that the second query's where equations give hold at some rows
abbrev pub TestsHold : Query → Query → Tables → ℕ → List ℕ → Type 0
TestsHold Q W M u rows = (n : ℕ) (e : Equation) → slice_get (tests_at W u) n ≡ Some e → All_in (HoldsAt M (stands Q M rows)) (translated_test Q W u e)

module _ (Q : Query) (U : Schema) (blocks : List Block) (query : IsQuery Q) (second : IsQuery (second_query Q U blocks)) (M N : Tables) (eval : IsEval Q M N)
    (u : ℕ) (within : u < length U.entities) (rows : List ℕ) (tuple : IsTuple rows (variable_counts (second_query Q U blocks) N u)) where
  pub tests_hold : MeetsTests (second_query Q U blocks) N u rows → TestsHold Q (second_query Q U blocks) M u (all_of Q U blocks query second M N eval u within rows tuple)
  tests_hold meets n e is = one_test Q U blocks query second M N eval u within rows tuple n e is (meets n e is)

  pub tests_back : TestsHold Q (second_query Q U blocks) M u (all_of Q U blocks query second M N eval u within rows tuple) → MeetsTests (second_query Q U blocks) N u rows
  tests_back holds n e is = test_back Q U blocks query second M N eval u within rows tuple n e is (holds n e is)
