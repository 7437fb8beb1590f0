-- The presentation of coeval holds where the copies of rows name answers, as keys and cells ask for.
use Rattle.std.proofs.Common.{ℕ, zero, suc, List, [], ◌∷◌, ◌++◌, Option, Some, ◌≡◌, ◌<◌, ◌+◌, map, length, refl, sym, ap, subst, ◌∙◌, arith}
use Rattle.std.specs.Prelude.{slice_get, slice_index, slice_index_or}
use Rattle.std.specs.List.{flat_map}
use Rattle.cq_base.specs.declared.name.Name.{Name}
use Rattle.cq_theory.specs.declared.constant.Con.TheVariants.{Named}
use Rattle.cq_theory.specs.declared.presentation.Equation.{Equation}
use Rattle.cq_theory.specs.declared.presentation.Equation.TheVariants.{Ent as EntEquation, Typ as TypEquation}
use Rattle.cq_theory.specs.declared.presentation.Sort.{Sort}
use Rattle.cq_theory.specs.declared.presentation.Sort.TheVariants.{Plain, Entity}
use Rattle.cq_theory.specs.declared.schema.Edge.{Edge}
use Rattle.cq_theory.specs.declared.term.EntTerm.{EntTerm}
use Rattle.cq_theory.specs.declared.value.Value.{Value}
use Rattle.cq_theory.specs.declared.value.Value.TheVariants.{Const}
use Rattle.cq_theory.specs.declared.value.Entry.{Entry}
use Rattle.cq_theory.specs.Canonical.{below}
use Rattle.cq_theory.specs.Derivation.{left_of, right_of}
use Rattle.cq_theory.specs.Groups.{positions}
use Rattle.cq_theory.specs.Sorts.{entity_of, type_of}
use Rattle.cq_theory.specs.Tables.{Tables, AtRow, AtValue, Assignment, row_in, value_in, count_of, key_at, cell_at, row_of, value_of, value_step, meaning_of, applied, HasSort, IsWellFormed, Satisfies, Holds}
use Rattle.cq_theory.proofs.Faults.{made_of}
use Rattle.cq_theory.proofs.ResolvedSorts.{map_some}
use Rattle.cq_theory.proofs.TypeTerms.{fold-Fun}
use Rattle.cq_instance.proofs.CanonicalHolds.{from_below}
use Rattle.cq_terms.specs.ValueTerms.{entry_equation}
use Rattle.cq_query.specs.QueryData.{QueryData as Query}
use Rattle.cq_query.specs.Puts.{put, put_type, put_equation}
use Rattle.cq_query.specs.Translation.{key_sources, attribute_sources, variables_at, tests_at, assigned, attribute_term, term_or_constant}
use Rattle.cq_query.specs.Duties.{equal_terms}
use Rattle.cq_query.specs.IsQuery.{IsQuery}
use Rattle.cq_query.specs.Answers.{stands}
use Rattle.cq_query.specs.Leading.{IsAnswer, led}
use Rattle.cq_query.specs.Coeval.{row_terms, null_start, key_equations, key_equations_at, cell_equation, row_equations, entity_equations, coeval_of}
use Rattle.cq_query.proofs.Meaning.{put_row, put_value}
use Rattle.cq_query.proofs.SortedDuties.{All_in, all_append, all_flat_map, from_position}
use Rattle.cq_query.proofs.Standing.{HasOneSort, Stand, generators_at, assigned_stand, within_length}
use Rattle.cq_adjoint.specs.Copies.{copied_value}
use Rattle.cq_adjoint.proofs.Copied.{stand}

-- the generators of coeval stand for what is of their sorts, so that copies name answers, as keys and cells ask for
pub record AreAnswered (Q : Query) (M N : Tables) (B : Assignment) : Type 0 where
  pub count : length B ≡ length (coeval_of Q M).generators
  pub sorts : (n : ℕ) (g : Name × Sort) → slice_get (coeval_of Q M).generators n ≡ Some g → HasSort Q.source N g.1 (slice_index_or B n (AtRow 0))
  pub answer : (e row : ℕ) → e < length Q.target.entities → row < count_of M e → IsAnswer Q N e (map (row_of N B) (row_terms Q M.sheet.counts e row))
  pub key : (k : ℕ) (edge : Edge) → slice_get Q.target.keys k ≡ Some edge → (row : ℕ) → row < count_of M edge.from
      → map (row_of N B) (row_terms Q M.sheet.counts edge.to (key_at M k row)) ≡ led Q N k (map (row_of N B) (row_terms Q M.sheet.counts edge.from row))
  pub cell : (a : ℕ) (edge : Edge) → slice_get Q.target.attributes a ≡ Some edge → (row : ℕ) → row < count_of M edge.from
      → value_of N (stands Q N (map (row_of N B) (row_terms Q M.sheet.counts edge.from row))) (attribute_term Q a) ≡ value_of N B (copied_value Q M (cell_at M a row))
  pub entry : (k : ℕ) (e : Entry) → slice_get M.algebra.entries k ≡ Some e → applied N e.function (map (value_of N B) (map (copied_value Q M) e.args)) ≡ value_of N B (copied_value Q M e.value)

module _ (Q : Query) (query : IsQuery Q) (M N : Tables) (B : Assignment) (well : IsWellFormed Q.source N) (satisfies : Satisfies Q.source N) (are : AreAnswered Q M N B) where
  abbrev n : ℕ
  n = length Q.target.entities

  abbrev counts : List ℕ
  counts = M.sheet.counts

  abbrev nulls : ℕ
  nulls = length M.algebra.nulls

  abbrev IsHeld : Equation → Type 0
  IsHeld x = meaning_of N B (left_of x) ≡ meaning_of N B (right_of x)

  -- terms beside one another that name the same rows
  equal_held : (ts us : List EntTerm) → map (row_of N B) ts ≡ map (row_of N B) us → All_in IsHeld (equal_terms ts us)
  equal_held [] us same k x at = cc
  equal_held (t ∷ ts) [] same k x at = cc
  equal_held (t ∷ ts) (u ∷ us) same zero x at =
      let first : row_of N B t ≡ row_of N B u = cc in
      let is : EntEquation t u ≡ x = cc in
      subst IsHeld is (ap AtRow first)
  equal_held (t ∷ ts) (u ∷ us) same (suc k) x at =
      let rest : map (row_of N B) ts ≡ map (row_of N B) us = cc in
      equal_held ts us rest k x at

  module _ (e row : ℕ) (within : e < n) (inside : row < count_of M e) where
    abbrev ts : List EntTerm
    ts = row_terms Q counts e row

    abbrev named : Assignment
    named = stands Q N (map (row_of N B) ts)

    standing : Stand Q (coeval_of Q M).generators ts e
    standing = stand Q M e row within inside

    -- an equation that holds at the rows holds as it is put
    put_held : (x : Equation) → HasOneSort Q (generators_at Q e) x → meaning_of N named (left_of x) ≡ meaning_of N named (right_of x) → IsHeld (put_equation ts x)
    put_held (EntEquation t u) h equal =
        let left = map_some Entity (entity_of Q.source (generators_at Q e) t) h.0 h.1 in
        let right = map_some Entity (entity_of Q.source (generators_at Q e) u) h.0 h.2 in
        ap AtRow (put_row Q N B ts e standing.count t left.0 left.1 ∙ ap row_in equal ∙ sym (put_row Q N B ts e standing.count u right.0 right.1))
    put_held (TypEquation t u) h equal =
        let left = map_some Plain (type_of Q.source (generators_at Q e) t) h.0 h.1 in
        let right = map_some Plain (type_of Q.source (generators_at Q e) u) h.0 h.2 in
        ap AtValue (put_value Q N B ts e standing.count t left.0 left.1 ∙ ap value_in equal ∙ sym (put_value Q N B ts e standing.count u right.0 right.1))

    tests_held : All_in IsHeld (map (put_equation ts) (tests_at Q e))
    tests_held k x at =
        let test = made_of (put_equation ts) (tests_at Q e) k x at in
        let presented = (query.each_frozen e within).equations k test.0 test.1 in
        subst IsHeld (sym test.2) (put_held test.0 (presented.sort, presented.left, presented.right) ((are.answer e row within inside).1 k test.0 test.1))

    key_held : (k : ℕ) (edge : Edge) → slice_get Q.target.keys k ≡ Some edge → edge.from ≡ e → All_in IsHeld (key_equations Q M.sheet e row k)
    key_held k edge is from =
        subst (λ (o : Option Edge). All_in IsHeld (key_equations_at Q M.sheet e row k o)) (sym is)
        (equal_held (row_terms Q counts edge.to (key_at M k row)) (map (put ts) (assigned Q k))
        (are.key k edge is row (subst (λ m. row < count_of M m) (sym from) inside) ∙ ap (λ m. led Q N k (map (row_of N B) (row_terms Q counts m row))) from ∙ sym (led_put k edge is from)))
      where
        go : (k : ℕ) (edge : Edge) (is : slice_get Q.target.keys k ≡ Some edge) (from : edge.from ≡ e) (us : List EntTerm)
            → ((m : ℕ) (t : EntTerm) → slice_get us m ≡ Some t → row_of N B (put ts t) ≡ row_of N named t) → map (row_of N B) (map (put ts) us) ≡ map (row_of N named) us
        go k edge is from [] h = refl
        go k edge is from (t ∷ us) h =
            let first : row_of N B (put ts t) ≡ row_of N named t = h zero t refl in
            let rest = go k edge is from us (λ m u at. h (suc m) u at) in
            λ i. first i ∷ rest i

        led_put : (k : ℕ) (edge : Edge) → slice_get Q.target.keys k ≡ Some edge → edge.from ≡ e → map (row_of N B) (map (put ts) (assigned Q k)) ≡ led Q N k (map (row_of N B) ts)
        led_put k edge is from =
            let key = assigned_stand Q query k edge is in
            go k edge is from (assigned Q k) (λ m t at.
            let v = within_length (variables_at Q edge.to) (assigned Q k) m t at (sym key.count) in
            let sorted : entity_of Q.source (generators_at Q e) t ≡ Some v.0.1 = ap (λ (f : ℕ). entity_of Q.source (generators_at Q f) t) (sym from) ∙ key.each m t v.0 at v.1 in
            put_row Q N B ts e standing.count t v.0.1 sorted)

    keys_held : All_in IsHeld (flat_map (key_equations Q M.sheet e row) (positions (key_sources Q) e))
    keys_held = all_flat_map IsHeld (key_equations Q M.sheet e row) (positions (key_sources Q) e) (λ r k at.
        let edge = from_position (λ (y : Edge). y.from) Q.target.keys e r k at in
        key_held k edge.0 edge.1 edge.2)

    cell_held : (a : ℕ) (edge : Edge) → slice_get Q.target.attributes a ≡ Some edge → edge.from ≡ e → IsHeld (cell_equation Q M.sheet nulls e row a)
    cell_held a edge is from =
        let one = query.attributes a edge is in
        let typed : type_of Q.source (generators_at Q e) (attribute_term Q a) ≡ Some edge.to =
        ap (λ (f : ℕ). type_of Q.source (generators_at Q f) (attribute_term Q a)) (sym from) ∙ ap (λ o. type_of Q.source (generators_at Q edge.from) (term_or_constant o)) one.found ∙ one.typed in
        ap AtValue (put_value Q N B ts e standing.count (attribute_term Q a) edge.to typed
        ∙ ap (λ m. value_of N (stands Q N (map (row_of N B) (row_terms Q counts m row))) (attribute_term Q a)) (sym from)
        ∙ are.cell a edge is row (subst (λ m. row < count_of M m) (sym from) inside))

    cells_held : All_in IsHeld (map (cell_equation Q M.sheet nulls e row) (positions (attribute_sources Q) e))
    cells_held k x at =
        let a = made_of (cell_equation Q M.sheet nulls e row) (positions (attribute_sources Q) e) k x at in
        let edge = from_position (λ (y : Edge). y.from) Q.target.attributes e k a.0 a.1 in
        subst IsHeld (sym a.2) (cell_held a.0 edge.0 edge.1 edge.2)

    row_held : All_in IsHeld (row_equations Q M.sheet nulls e row)
    row_held =
        all_append IsHeld
        (map (put_equation ts) (tests_at Q e) ++ flat_map (key_equations Q M.sheet e row) (positions (key_sources Q) e))
        (map (cell_equation Q M.sheet nulls e row) (positions (attribute_sources Q) e))
        (all_append IsHeld (map (put_equation ts) (tests_at Q e)) (flat_map (key_equations Q M.sheet e row) (positions (key_sources Q) e)) tests_held keys_held) cells_held

  entries_held : All_in IsHeld (map (entry_equation (null_start Q counts) nulls) M.algebra.entries)
  entries_held k x at =
      let entry = made_of (entry_equation (null_start Q counts) nulls) M.algebra.entries k x at in
      subst IsHeld (sym entry.2) (ap AtValue (fold-Fun Value (value_step N B) entry.0.function (map (copied_value Q M) entry.0.args) ∙ are.entry k entry.0 entry.1))

  pub coeval_holds : Holds Q.source (coeval_of Q M) N B
  coeval_holds = record {
    well_formed = well;
    count = are.count;
    sorts = are.sorts;
    schema = satisfies;
    equations = all_append IsHeld (flat_map (entity_equations Q M.sheet nulls) (below n)) (map (entry_equation (null_start Q counts) nulls) M.algebra.entries)
        (all_flat_map IsHeld (entity_equations Q M.sheet nulls) (below n) (λ k e at.
        all_flat_map IsHeld (row_equations Q M.sheet nulls e) (below (slice_index counts e)) (λ j row there.
        row_held e row (from_below n k e at) (from_below (slice_index counts e) j row there))))
        entries_held;
  }
