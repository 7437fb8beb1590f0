-- The composite of two queries answers what the second answers over what the first answers.
use Rattle.std.proofs.Common.{ℕ, suc, List, [], ◌∷◌, ◌++◌, Some, ◌≡◌, ◌<◌, ◌≤◌, ◌+◌, ◌↔◌, map, length, take, drop, refl, sym, ap, subst, ◌∙◌, arith}
use Rattle.std.specs.Prelude.{slice_get, slice_index_or, sum, codes, decimal}
use Rattle.std.specs.List.{flat_map, enumerate_from}
use Rattle.std.proofs.lemmas.List.{length-map, map-append}
use Rattle.std.proofs.lemmas.List.FromFn.{get_or-map-range_with_len}
use Rattle.cq_base.specs.declared.name.Name.{Name}
use Rattle.cq_theory.specs.declared.schema.Edge.{Edge}
use Rattle.cq_theory.specs.SchemaData.{SchemaData as Schema}
use Rattle.cq_theory.specs.Canonical.{below}
use Rattle.cq_theory.specs.Tables.{Tables, Assignment, count_of, key_at, cell_at, row_of, value_of}
use Rattle.cq_theory.proofs.Every.{Every-weaker, from_enumerated}
use Rattle.cq_theory.proofs.Faults.{made_of}
use Rattle.cq_theory.proofs.OnValues.{All_at}
use Rattle.cq_blocks.specs.declared.block.Block.{Block}
use Rattle.cq_query.specs.QueryData.{QueryData as Query}
use Rattle.cq_query.specs.Puts.{put_equation}
use Rattle.cq_query.specs.Translation.{variables_at, tests_at, assigned, attribute_term}
use Rattle.cq_query.specs.IsQuery.{IsQuery}
use Rattle.cq_query.specs.Answers.{tuples, IsTuple, AreFiltered, stands, variable_counts, MeetsTests, AreAnswers, IsEval}
use Rattle.cq_query.proofs.Answering.{among_answers}
use Rattle.cq_query.proofs.Holding.{variable_count}
use Rattle.cq_query.proofs.Meaning.{put_holds}
use Rattle.cq_query.proofs.Once.{one_answers}
use Rattle.cq_query.proofs.SortedDuties.{All_in, all_append, all_flat_map}
use Rattle.cq_query.proofs.Standing.{assigned_stand}
use Rattle.cq_compose.specs.Composite.{width, first_of, components, translated_test, component_entities, composite}
use Rattle.cq_compose.proofs.Putting.{get_mapped}
use Rattle.cq_compose.proofs.Fitting.{attribute_typed}
use Rattle.cq_compose.proofs.Agreeing.{all_mapped, same_below}
use Rattle.cq_compose.proofs.Components.{variables_are, tests_are, assigned_are, attribute_are, components_are, component_fits, component_test, translated_test_in, variable_count_is, second_query, variable_within}
use Rattle.cq_compose.proofs.Filtered.{filtered_both, filtered_mapped, filtered_alike}
use Rattle.cq_compose.proofs.Tuples.{tuples_are, joined, AreAllMet, all_met, met_at, met_from, part_fits}
use Rattle.cq_compose.proofs.Landing.{part_rows, HoldsAt, holds_put, answers_at, count_is}
use Rattle.cq_compose.proofs.Evaluations.{one_evaluation}
use Rattle.cq_compose.proofs.JoinedRows.{term_values, list_rows, TestsHold, tests_hold, tests_back}

-- the counts of the variables of a composite's block
module _ (Q : Query) (M : Tables) where
  numbered_counts : (s : ℕ) (entities : List ℕ)
      → map (λ (v : Name × ℕ). count_of M v.1) (map (λ (p : ℕ × ℕ). let v : Name × ℕ = (codes "x" ++ decimal p.0, p.1) in v) (enumerate_from s entities)) ≡ map (count_of M) entities
  numbered_counts s [] = refl
  numbered_counts s (e ∷ entities) = ap (λ l. count_of M e ∷ l) (numbered_counts (s + 1) entities)

  entity_counts : (vs : List (Name × ℕ)) → map (count_of M) (map (λ (v : Name × ℕ). v.1) vs) ≡ map (λ (v : Name × ℕ). count_of M v.1) vs
  entity_counts [] = refl
  entity_counts (v ∷ vs) = ap (λ l. count_of M v.1 ∷ l) (entity_counts vs)

  component_counts : (vs : List (Name × ℕ)) → map (count_of M) (flat_map (λ (y : Name × ℕ). map (λ (v : Name × ℕ). v.1) (variables_at Q y.1)) vs) ≡ flat_map (λ (v : Name × ℕ). variable_counts Q M v.1) vs
  component_counts [] = refl
  component_counts (v ∷ vs) =
      let one : map (count_of M) (map (λ (w : Name × ℕ). w.1) (variables_at Q v.1)) ≡ variable_counts Q M v.1 = entity_counts (variables_at Q v.1) in
      let rest = component_counts vs in
      map-append (count_of M) (map (λ (w : Name × ℕ). w.1) (variables_at Q v.1)) (flat_map (λ (y : Name × ℕ). map (λ (w : Name × ℕ). w.1) (variables_at Q y.1)) vs) ∙ (λ i. one i ++ rest i)

  counts_are : (W : Query) (u : ℕ) → variable_counts (composite Q W) M u ≡ flat_map (λ (v : Name × ℕ). variable_counts Q M v.1) (variables_at W u)
  counts_are W u =
      ap (map (λ (v : Name × ℕ). count_of M v.1)) (variables_are Q W u)
      ∙ numbered_counts 1 (component_entities Q W u) ∙ component_counts (variables_at W u)

module _ (Q : Query) (U : Schema) (blocks : List Block) (query : IsQuery Q) (second : IsQuery (second_query Q U blocks)) (M N : Tables) (eval : IsEval Q M N) where
  abbrev W : Query
  W = second_query Q U blocks

  abbrev C : Query
  C = composite Q W

  abbrev answers : ℕ → List (List ℕ)
  answers = answers_at Q query M N eval

  abbrev joined_at : ℕ → List ℕ → List ℕ
  joined_at u = joined answers (variables_at W u)

  module _ (u : ℕ) (within : u < length U.entities) where
    -- the tests of a composite's block hold at rows where those of each variable and those that the second query's give hold
    module _ (rows : List ℕ) (tuple : IsTuple rows (variable_counts C M u)) where
      abbrev here : Assignment
      here = stands C M rows

      variable_part : (y : ℕ) (v : Name × ℕ) → slice_get (variables_at W u) y ≡ Some v → map (row_of M here) (components Q W u y) ≡ take (width Q W v) (drop (first_of Q W u y) rows)
      variable_part y v is =
          let size : length rows ≡ sum (map (width Q W) (variables_at W u)) = variable_count C M u rows tuple ∙ variable_count_is Q W u in
          let fits : first_of Q W u y + width Q W v ≤ sum (map (width Q W) (variables_at W u)) = part_fits Q M answers (variables_at W u) y v is in
          let inside : first_of Q W u y + width Q W v ≤ length rows = subst (λ n. first_of Q W u y + width Q W v ≤ n) (sym size) fits in
          ap (map (row_of M here)) (components_are Q W u y v is) ∙ part_rows M rows (first_of Q W u y) (width Q W v) inside

      component_holds : AreAllMet Q M answers (variables_at W u) rows → (y : ℕ) (v : Name × ℕ) → slice_get (variables_at W u) y ≡ Some v
          → All_in (λ e. HoldsAt M here (put_equation (components Q W u y) e)) (tests_at Q v.1)
      component_holds met y v is n e at =
          let test = (query.each_frozen v.1 (variable_within Q U blocks second u y v within is)).equations n e at in
          holds_put M here Q (components Q W u y) v.1 (component_fits Q W u y v is).stand.count e (test.sort, test.left, test.right)
          (subst (λ (l : List ℕ). MeetsTests Q M v.1 l) (sym (variable_part y v is)) (met_at Q M answers (variables_at W u) rows met y v is) n e at)

      all_tests : AreAllMet Q M answers (variables_at W u) rows × TestsHold Q W M u rows → MeetsTests C M u rows
      all_tests h = subst (All_in (HoldsAt M here)) (sym (tests_are Q W u)) (all_append (HoldsAt M here)
          (flat_map (λ (y : ℕ × (Name × ℕ)). map (put_equation (components Q W u y.0)) (tests_at Q y.1.1)) (enumerate_from 0 (variables_at W u)))
          (flat_map (translated_test Q W u) (tests_at W u))
          (all_flat_map (HoldsAt M here) (λ (y : ℕ × (Name × ℕ)). map (put_equation (components Q W u y.0)) (tests_at Q y.1.1)) (enumerate_from 0 (variables_at W u)) (λ n y at.
          let from = from_enumerated 0 (variables_at W u) n y at in
          all_mapped (HoldsAt M here) (put_equation (components Q W u y.0)) (tests_at Q y.1.1)
          (component_holds h.0 y.0 y.1 (ap (slice_get (variables_at W u)) (from.1 ∙ none_before n) ∙ from.0))))
          (all_flat_map (HoldsAt M here) (translated_test Q W u) (tests_at W u) h.1))
        where
          none_before : (n : ℕ) → 0 + n ≡ n
          none_before n = omega arith

      tests_parts : MeetsTests C M u rows → AreAllMet Q M answers (variables_at W u) rows × TestsHold Q W M u rows
      tests_parts meets = (
        met_from Q M answers (variables_at W u) rows (λ y v is.
            subst (λ (l : List ℕ). MeetsTests Q M v.1 l) (variable_part y v is) (λ n e at.
            let test = (query.each_frozen v.1 (variable_within Q U blocks second u y v within is)).equations n e at in
            let place = component_test Q W u y n v e is at in
            put_holds Q M here (components Q W u y) v.1 (component_fits Q W u y v is).stand.count e (test.sort, test.left, test.right)
            (meets place.0 (put_equation (components Q W u y) e) place.1))),
        λ n e is m f at.
            let place = translated_test_in Q W u n e f is (m, at) in
            meets place.0 f place.1,
      )

    -- how many answers the second query's variables have rows
    number_counts : map (λ (v : Name × ℕ). length (answers v.1)) (variables_at W u) ≡ variable_counts W N u
    number_counts = same_counts (variables_at W u) (λ y v is. sym (count_is Q query M N eval v.1 (variable_within Q U blocks second u y v within is)))
      where
        same_counts : (vs : List (Name × ℕ)) → ((y : ℕ) (v : Name × ℕ) → slice_get vs y ≡ Some v → length (answers v.1) ≡ count_of N v.1)
            → map (λ (v : Name × ℕ). length (answers v.1)) vs ≡ map (λ (v : Name × ℕ). count_of N v.1) vs
        same_counts [] h = refl
        same_counts (v ∷ vs) h =
            let first : length (answers v.1) ≡ count_of N v.1 = h 0 v refl in
            let rest = same_counts vs (λ y w is. h (suc y) w is) in
            λ i. first i ∷ rest i

    abbrev IsBoth : List ℕ → Type 0
    IsBoth rows = AreAllMet Q M answers (variables_at W u) rows × TestsHold Q W M u rows

    -- the composite's answers are those that the second query's answers number
    pub joined_answers : (found : List (List ℕ)) → AreAnswers W N u found → AreAnswers C M u (map (joined_at u) found)
    joined_answers found are =
        let met : AreFiltered (AreAllMet Q M answers (variables_at W u)) (tuples (variable_counts C M u)) (map (joined_at u) (tuples (variable_counts W N u))) =
        subst (λ (l : List ℕ). AreFiltered (AreAllMet Q M answers (variables_at W u)) (tuples l) (map (joined_at u) (tuples (variable_counts W N u)))) (sym (counts_are Q M W u))
        (subst (λ (l : List ℕ). AreFiltered (AreAllMet Q M answers (variables_at W u)) (tuples (flat_map (λ (v : Name × ℕ). variable_counts Q M v.1) (variables_at W u))) (map (joined_at u) (tuples l))) number_counts
        (all_met Q M answers (variables_at W u) (λ y v is. eval.each v.1 (variable_within Q U blocks second u y v within is)))) in
        let tested : AreFiltered (TestsHold Q W M u) (map (joined_at u) (tuples (variable_counts W N u))) (map (joined_at u) found) =
        filtered_mapped (MeetsTests W N u) (TestsHold Q W M u) (joined_at u) are
        (Every-weaker (λ rows. IsTuple rows (variable_counts W N u)) (λ rows. MeetsTests W N u rows ↔ TestsHold Q W M u (joined_at u rows)) (λ rows tuple.
        (tests_hold Q U blocks query second M N eval u within rows tuple, tests_back Q U blocks query second M N eval u within rows tuple))
        (tuples (variable_counts W N u)) (tuples_are (variable_counts W N u))) in
        filtered_alike IsBoth (MeetsTests C M u)
        (filtered_both (AreAllMet Q M answers (variables_at W u)) (TestsHold Q W M u) met (map (joined_at u) found) tested)
        (Every-weaker (λ rows. IsTuple rows (variable_counts C M u)) (λ rows. IsBoth rows ↔ MeetsTests C M u rows) (λ rows tuple. (all_tests rows tuple, tests_parts rows tuple))
        (tuples (variable_counts C M u)) (tuples_are (variable_counts C M u)))

  module _ (R : Tables) (next : IsEval W N R) where
    abbrev next_at : ℕ → List (List ℕ)
    next_at u = slice_index_or next.answers u []

    abbrev all_answers : List (List (List ℕ))
    all_answers = map (λ u. map (joined_at u) (next_at u)) (below (length U.entities))

    read_at : (u : ℕ) → u < length U.entities → slice_index_or all_answers u [] ≡ map (joined_at u) (next_at u)
    read_at u within =
        let here : 0 + u ≡ u = omega arith in
        get_or-map-range_with_len (λ e. map (joined_at e) (next_at e)) 0 (length U.entities) u u [] within here

    is_tuple : (u row : ℕ) (rows : List ℕ) → u < length U.entities → slice_get (next_at u) row ≡ Some rows → IsTuple rows (variable_counts W N u)
    is_tuple u row rows within at = ((among_answers W N u (next_at u) (next.each u within) rows).0 (row, at)).0

    counts_same : R.sheet.counts ≡ map (λ u. length (slice_index_or all_answers u [])) (below (length U.entities))
    counts_same = next.counts ∙ same_below (λ u. length (next_at u)) (λ u. length (slice_index_or all_answers u [])) 0 (length U.entities) (λ u within.
        let inside : u < length U.entities = omega arith in
        sym (ap length (read_at u inside) ∙ length-map (next_at u) (joined_at u)))

    keys_same : (k row : ℕ) (edge : Edge) (rows : List ℕ) → slice_get U.keys k ≡ Some edge → slice_get (slice_index_or all_answers edge.from []) row ≡ Some rows
        → slice_get (slice_index_or all_answers edge.to []) (key_at R k row) ≡ Some (map (row_of M (stands C M rows)) (assigned C k))
    keys_same k row edge rows is at =
        let ends = All_at (λ (x : Edge). (x.from < length U.entities) × (x.to < length U.entities)) U.keys k edge second.target.keys is in
        let from = made_of (joined_at edge.from) (next_at edge.from) row rows (ap (λ l. slice_get l row) (sym (read_at edge.from ends.0)) ∙ at) in
        let tuple = is_tuple edge.from row from.0 ends.0 from.1 in
        let key = assigned_stand W second k edge is in
        let led : List ℕ = map (row_of N (stands W N from.0)) (assigned W k) in
        ap (λ l. slice_get l (key_at R k row)) (read_at edge.to ends.1)
        ∙ get_mapped (joined_at edge.to) (next_at edge.to) (key_at R k row) led (next.keys k row edge from.0 is from.1)
        ∙ ap (λ l. Some l) (list_rows Q U blocks query second M N eval edge.from ends.0 from.0 tuple (variables_at W edge.to) (assigned W k) key.count key.each
        ∙ ap (map (row_of M (stands C M (joined_at edge.from from.0)))) (sym (assigned_are Q W k edge is))
        ∙ ap (λ l. map (row_of M (stands C M l)) (assigned C k)) (sym from.2))

    cells_same : (a row : ℕ) (edge : Edge) (rows : List ℕ) → slice_get U.attributes a ≡ Some edge → slice_get (slice_index_or all_answers edge.from []) row ≡ Some rows
        → cell_at R a row ≡ value_of M (stands C M rows) (attribute_term C a)
    cells_same a row edge rows is at =
        let ends = All_at (λ (x : Edge). (x.from < length U.entities) × (x.to < length U.typeside.types)) U.attributes a edge second.target.attributes is in
        let from = made_of (joined_at edge.from) (next_at edge.from) row rows (ap (λ l. slice_get l row) (sym (read_at edge.from ends.0)) ∙ at) in
        let tuple = is_tuple edge.from row from.0 ends.0 from.1 in
        next.cells a row edge from.0 is from.1
        ∙ term_values Q U blocks query second M N eval edge.from ends.0 from.0 tuple (attribute_term W a) edge.to (attribute_typed W second a edge is)
        ∙ ap (value_of M (stands C M (joined_at edge.from from.0))) (sym (attribute_are Q W a edge is))
        ∙ ap (λ l. value_of M (stands C M l) (attribute_term C a)) (sym from.2)

    composite_eval : IsEval C M R
    composite_eval = record {
      answers = all_answers;
      each = λ u within. subst (AreAnswers C M u) (sym (read_at u within)) (joined_answers u within (next_at u) (next.each u within));
      counts = counts_same;
      key_columns = next.key_columns;
      cell_columns = next.cell_columns;
      keys = keys_same;
      cells = cells_same;
      algebra = next.algebra ∙ eval.algebra;
      key_count = next.key_count;
      cell_count = next.cell_count;
    }

-- what the second query answers over what the first answers is what the composite answers
pub composite_answers : (Q W : Query) → IsQuery Q → IsQuery W → Q.target ≡ W.source → (M N R : Tables) → IsEval Q M N → IsEval W N R → IsEval (composite Q W) M R
composite_answers Q W query second same M N R eval next =
    composite_eval Q W.target W.blocks query
    (subst (λ (T : Schema). IsQuery (record { source = T; target = W.target; blocks = W.blocks })) (sym same) second) M N eval R
    (subst (λ (T : Schema). IsEval (record { source = T; target = W.target; blocks = W.blocks }) N R) (sym same) next)

-- and no other tables are
pub composite_alone : (Q W : Query) → IsQuery Q → IsQuery W → Q.target ≡ W.source → (M N R X : Tables) → IsEval Q M N → IsEval W N R → IsEval (composite Q W) M X → X ≡ R
composite_alone Q W query second same M N R X eval next given =
    one_evaluation (composite Q W) second.target M X R given (composite_answers Q W query second same M N R eval next)

-- as many as the second has
pub composite_count : (Q W : Query) → IsQuery Q → IsQuery W → Q.target ≡ W.source → (M N : Tables) → IsEval Q M N → (u : ℕ) → u < length W.target.entities
    → (found others : List (List ℕ)) → AreAnswers (composite Q W) M u found → AreAnswers W N u others → length found ≡ length others
composite_count Q W query second same M N eval u within found others are are' =
    let there = subst (λ (T : Schema). IsQuery (record { source = T; target = W.target; blocks = W.blocks })) (sym same) second in
    let all = joined_answers Q W.target W.blocks query there M N eval u within others are' in
    ap length (one_answers (composite Q W) M u found (map (joined (answers_at Q query M N eval) (variables_at W u)) others) are all)
    ∙ length-map others (joined (answers_at Q query M N eval) (variables_at W u))

-- three queries in a row
pub composite_thrice : (Q W V : Query) → IsQuery Q → IsQuery W → IsQuery V → IsQuery (composite Q W) → IsQuery (composite W V) → Q.target ≡ W.source → W.target ≡ V.source
    → (M N R X : Tables) → IsEval Q M N → IsEval W N R → IsEval V R X → IsEval (composite (composite Q W) V) M X × IsEval (composite Q (composite W V)) M X
composite_thrice Q W V first second third front back same same' M N R X a b c = (
  composite_answers (composite Q W) V front third same' M R X (composite_answers Q W first second same M N R a b) c,
  composite_answers Q (composite W V) first back same M N X a (composite_answers W V second third same' N R X b c),
)

-- what a query that is the composite answers
pub made_answers : (Q W made : Query) → IsQuery Q → IsQuery W → W.source ≡ Q.target → made ≡ composite Q W → (M N R : Tables) → IsEval Q M N → IsEval W N R → IsEval made M R
made_answers Q W made query second same is M N R eval next = subst (λ (X : Query). IsEval X M R) (sym is) (composite_answers Q W query second (sym same) M N R eval next)
