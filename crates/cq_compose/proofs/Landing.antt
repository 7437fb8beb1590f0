-- Where the rows of the tables of a query stand: a path of foreign keys leads to the answer that the terms along it give.
use Rattle.std.proofs.Common.{ℕ, zero, suc, List, [], ◌∷◌, Some, ◌≡◌, ◌<◌, ◌≤◌, ◌+◌, map, length, take, drop, get_or, refl, sym, ap, subst, ◌∙◌, arith}
use Rattle.std.specs.Prelude.{slice_get, slice_index, slice_index_or, All}
use Rattle.std.proofs.Math.Seq.{drop-cons}
use Rattle.std.proofs.lemmas.List.{length-map}
use Rattle.std.proofs.lemmas.List.FromFn.{get_or-map-range_with_len}
use Rattle.std.proofs.lemmas.Option.{option_and_then_some, slice_get-get_or, get_or_from_slice_get}
use Rattle.cq_theory.specs.declared.presentation.Equation.{Equation}
use Rattle.cq_theory.specs.declared.presentation.Equation.TheVariants as equation
use Rattle.cq_theory.specs.declared.presentation.Sort.TheVariants.{Plain, Entity}
use Rattle.cq_theory.specs.declared.schema.Edge.{Edge}
use Rattle.cq_theory.specs.SchemaData.{SchemaData as Schema}
use Rattle.cq_theory.specs.declared.term.EntTerm.{EntTerm}
use Rattle.cq_theory.specs.EntTerm.{alone}
use Rattle.cq_theory.specs.Sorts.{followed, target_of, entity_of, type_of}
use Rattle.cq_theory.specs.Derivation.{left_of, right_of}
use Rattle.cq_theory.specs.Tables.{Tables, AtRow, AtValue, Assignment, row_in, value_in, count_of, key_at, row_from, row_of, meaning_of}
use Rattle.cq_theory.proofs.OnValues.{All_at}
use Rattle.cq_theory.proofs.ResolvedSorts.{map_some}
use Rattle.cq_theory.proofs.Sound.{followed_some}
use Rattle.cq_query.specs.QueryData.{QueryData as Query}
use Rattle.cq_query.specs.Puts.{put, put_equation, generators_from}
use Rattle.cq_query.specs.Translation.{variables_at, assigned, along}
use Rattle.cq_query.specs.Duties.{equal_terms}
use Rattle.cq_query.specs.IsQuery.{IsQuery}
use Rattle.cq_query.specs.Answers.{IsEval, stands}
use Rattle.cq_query.proofs.Answering.{among_answers}
use Rattle.cq_query.proofs.Holding.{variable_count}
use Rattle.cq_query.proofs.Meaning.{put_row, put_value}
use Rattle.cq_query.proofs.SortedDuties.{All_in}
use Rattle.cq_query.proofs.Standing.{HasOneSort, generators_at, assigned_stand}
use Rattle.cq_compose.proofs.Putting.{get_mapped}
use Rattle.cq_compose.proofs.Fitting.{AreSorted, stand_sorted}

-- a path from an entity of a schema leads to one
pub target_within : (S : Schema) → All (λ (x : Edge). (x.from < length S.entities) × (x.to < length S.entities)) S.keys
    → (path : List ℕ) (entity target : ℕ) → entity < length S.entities → target_of S.keys path entity ≡ Some target → target < length S.entities
target_within S keys [] entity target within h = let same : entity ≡ target = cc in subst (λ e. e < length S.entities) same within
target_within S keys (k ∷ path) entity target within h = option_and_then_some (target_of S.keys path) (followed (slice_get S.keys k) entity) target h (λ middle led rest.
    let edge = followed_some (slice_get S.keys k) entity middle led in
    let ends = All_at (λ (x : Edge). (x.from < length S.entities) × (x.to < length S.entities)) S.keys k edge.0 keys edge.1 in
    target_within S keys path middle target (subst (λ e. e < length S.entities) edge.3 ends.1) rest)

-- rows that stand among other rows, read by the generators of their places
pub standing_rows : (M : Tables) (all : List ℕ) (s : ℕ) (rows : List ℕ) → ((n row : ℕ) → slice_get rows n ≡ Some row → slice_get all (s + n) ≡ Some row)
    → map (row_of M (map AtRow all)) (generators_from s (length rows)) ≡ rows
standing_rows M all s [] h = refl
standing_rows M all s (row ∷ rows) h =
    let here : s ≡ s + 0 = omega arith in
    let found : slice_get all s ≡ Some row = ap (slice_get all) here ∙ h 0 row refl in
    let first : row_of M (map AtRow all) (alone s) ≡ row = ap row_in (get_or_from_slice_get (map AtRow all) s (AtRow row) (AtRow 0) (get_mapped AtRow all s row found)) in
    let rest : map (row_of M (map AtRow all)) (generators_from (s + 1) (length rows)) ≡ rows = standing_rows M all (s + 1) rows (λ n r at.
    let there : s + 1 + n ≡ s + suc n = omega arith in ap (slice_get all) there ∙ h (suc n) r at) in
    λ i. first i ∷ rest i

pub part_rows : (M : Tables) (all : List ℕ) (s n : ℕ) → s + n ≤ length all → map (row_of M (map AtRow all)) (generators_from s n) ≡ take n (drop s all)
part_rows M all s zero h = refl
part_rows M all s (suc n) h =
    let inside : s < length all = omega arith in
    let found : slice_get all s ≡ Some (get_or all s 0) = slice_get-get_or all s 0 inside in
    let first : row_of M (map AtRow all) (alone s) ≡ get_or all s 0 = ap row_in (get_or_from_slice_get (map AtRow all) s (AtRow (get_or all s 0)) (AtRow 0) (get_mapped AtRow all s (get_or all s 0) found)) in
    let next : s + 1 ≡ suc s = omega arith in
    let fits : s + 1 + n ≤ length all = omega arith in
    let rest : map (row_of M (map AtRow all)) (generators_from (s + 1) n) ≡ take n (drop (suc s) all) = part_rows M all (s + 1) n fits ∙ ap (λ m. take n (drop m all)) next in
    (λ i. first i ∷ rest i) ∙ sym (ap (take (suc n)) (drop-cons all s 0 inside))

-- terms beside one another name the same rows exactly where the equations between them hold
module _ (M : Tables) (A : Assignment) where
  abbrev pub HoldsAt : Equation → Type 0
  HoldsAt e = meaning_of M A (left_of e) ≡ meaning_of M A (right_of e)

  pub rows_hold : (ts us : List EntTerm) → map (row_of M A) ts ≡ map (row_of M A) us → All_in HoldsAt (equal_terms ts us)
  rows_hold [] us h n e at = cc
  rows_hold (t ∷ ts) [] h n e at = cc
  rows_hold (t ∷ ts) (u ∷ us) h zero e at =
      let same : equation.Ent t u ≡ e = cc in
      let equal : row_of M A t ≡ row_of M A u = cc in
      subst HoldsAt same (ap AtRow equal)
  rows_hold (t ∷ ts) (u ∷ us) h (suc n) e at =
      let rest : map (row_of M A) ts ≡ map (row_of M A) us = cc in
      rows_hold ts us rest n e at

  pub rows_same : (ts us : List EntTerm) → length ts ≡ length us → All_in HoldsAt (equal_terms ts us) → map (row_of M A) ts ≡ map (row_of M A) us
  rows_same [] [] same h = refl
  rows_same [] (u ∷ us) same h = absurd (omega arith)
  rows_same (t ∷ ts) [] same h = absurd (omega arith)
  rows_same (t ∷ ts) (u ∷ us) same h =
      let first : row_of M A t ≡ row_of M A u = ap row_in (h 0 (equation.Ent t u) refl) in
      let rest : map (row_of M A) ts ≡ map (row_of M A) us = rows_same ts us (omega arith) (λ n e at. h (suc n) e at) in
      λ i. first i ∷ rest i

  -- an equation that is put holds where the equation holds at the rows that the terms name
  pub holds_put : (Q : Query) (terms : List EntTerm) (entity : ℕ) → length terms ≡ length (variables_at Q entity) → (e : Equation) → HasOneSort Q (generators_at Q entity) e
      → meaning_of M (stands Q M (map (row_of M A) terms)) (left_of e) ≡ meaning_of M (stands Q M (map (row_of M A) terms)) (right_of e) → HoldsAt (put_equation terms e)
  holds_put Q terms entity count (equation.Ent t u) h equal =
      let left = map_some Entity (entity_of Q.source (generators_at Q entity) t) h.0 h.1 in
      let right = map_some Entity (entity_of Q.source (generators_at Q entity) u) h.0 h.2 in
      ap AtRow (put_row Q M A terms entity count t left.0 left.1 ∙ ap row_in equal ∙ sym (put_row Q M A terms entity count u right.0 right.1))
  holds_put Q terms entity count (equation.Typ t u) h equal =
      let left = map_some Plain (type_of Q.source (generators_at Q entity) t) h.0 h.1 in
      let right = map_some Plain (type_of Q.source (generators_at Q entity) u) h.0 h.2 in
      ap AtValue (put_value Q M A terms entity count t left.0 left.1 ∙ ap value_in equal ∙ sym (put_value Q M A terms entity count u right.0 right.1))

module _ (Q : Query) (query : IsQuery Q) (M N : Tables) (eval : IsEval Q M N) where
  abbrev pub answers_at : ℕ → List (List ℕ)
  answers_at e = slice_index_or eval.answers e []

  pub count_is : (e : ℕ) → e < length Q.target.entities → count_of N e ≡ length (answers_at e)
  count_is e within =
      let here : 0 + e ≡ e = omega arith in
      ap (λ (counts : List ℕ). slice_index counts e) eval.counts ∙ get_or-map-range_with_len (λ f. length (answers_at f)) 0 (length Q.target.entities) e e 0 within here

  -- each row has its answer, with a row for each variable
  pub answer_there : (e row : ℕ) → e < length Q.target.entities → row < count_of N e → slice_get (answers_at e) row ≡ Some (slice_index_or (answers_at e) row [])
  answer_there e row within inside = slice_get-get_or (answers_at e) row [] (subst (λ n. row < n) (count_is e within) inside)

  pub answer_length : (e row : ℕ) → e < length Q.target.entities → row < count_of N e → length (slice_index_or (answers_at e) row []) ≡ length (variables_at Q e)
  answer_length e row within inside =
      let answer = (among_answers Q M e (answers_at e) (eval.each e within) (slice_index_or (answers_at e) row [])).0 (row, answer_there e row within inside) in
      variable_count Q M e (slice_index_or (answers_at e) row []) answer.0

  module _ (A : Assignment) where
    led_rows : (terms : List EntTerm) (entity : ℕ) → length terms ≡ length (variables_at Q entity) → (us : List EntTerm) → AreSorted Q entity us
        → map (row_of M A) (map (put terms) us) ≡ map (row_of M (stands Q M (map (row_of M A) terms))) us
    led_rows terms entity count [] h = refl
    led_rows terms entity count (u ∷ us) h =
        let e = h 0 u refl in
        let first : row_of M A (put terms u) ≡ row_of M (stands Q M (map (row_of M A) terms)) u = put_row Q M A terms entity count u e.0 e.1 in
        let rest : map (row_of M A) (map (put terms) us) ≡ map (row_of M (stands Q M (map (row_of M A) terms))) us = led_rows terms entity count us (λ n t at. h (suc n) t at) in
        λ i. first i ∷ rest i

    -- a path leads to the answer that the terms along it name
    pub lands : (path : List ℕ) (entity target row : ℕ) (terms : List EntTerm) → target_of Q.target.keys path entity ≡ Some target → length terms ≡ length (variables_at Q entity)
        → slice_get (answers_at entity) row ≡ Some (map (row_of M A) terms) → slice_get (answers_at target) (row_from N row path) ≡ Some (map (row_of M A) (along Q terms path))
    lands [] entity target row terms h count at = let same : entity ≡ target = cc in ap (λ e. slice_get (answers_at e) row) (sym same) ∙ at
    lands (k ∷ path) entity target row terms h count at = option_and_then_some (target_of Q.target.keys path) (followed (slice_get Q.target.keys k) entity) target h (λ middle led rest.
        let edge = followed_some (slice_get Q.target.keys k) entity middle led in
        let key = assigned_stand Q query k edge.0 edge.1 in
        let from : length terms ≡ length (variables_at Q edge.0.from) = count ∙ ap (λ e. length (variables_at Q e)) (sym edge.2) in
        let begins : slice_get (answers_at edge.0.from) row ≡ Some (map (row_of M A) terms) = ap (λ e. slice_get (answers_at e) row) edge.2 ∙ at in
        let next : slice_get (answers_at middle) (key_at N k row) ≡ Some (map (row_of M A) (map (put terms) (assigned Q k))) =
        ap (λ e. slice_get (answers_at e) (key_at N k row)) (sym edge.3) ∙ eval.keys k row edge.0 (map (row_of M A) terms) edge.1 begins
        ∙ ap (λ l. Some l) (sym (led_rows terms edge.0.from from (assigned Q k) (stand_sorted Q edge.0.from edge.0.to (assigned Q k) key))) in
        let size : length (map (put terms) (assigned Q k)) ≡ length (variables_at Q middle) = length-map (assigned Q k) (put terms) ∙ key.count ∙ ap (λ e. length (variables_at Q e)) edge.3 in
        lands path middle target (key_at N k row) (map (put terms) (assigned Q k)) rest size next)
