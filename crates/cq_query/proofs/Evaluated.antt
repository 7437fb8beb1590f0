-- The tables of eval are well formed over the query's target, and satisfy it where the query is sound.
use Rattle.std.proofs.Common.{ℕ, zero, suc, true, List, [], ◌∷◌, Option, Some, ◌≡◌, ◌<◌, ◌+◌, map, length, get_or, refl, sym, ap, subst, ◌∙◌, arith}
use Rattle.std.specs.Prelude.{slice_get, slice_index, slice_index_or, All, AllPairs}
use Rattle.std.specs.List.{range_with_len}
use Rattle.std.proofs.lemmas.List.{length-map}
use Rattle.std.proofs.lemmas.List.FromFn.{length-map-range_with_len, get_or-map-range_with_len}
use Rattle.std.proofs.lemmas.Option.{option_and_then_some, slice_get_within, slice_get-get_or, get_or_from_slice_get}
use Rattle.cq_theory.specs.TypesideData.{TypesideData as Typeside}
use Rattle.cq_theory.specs.declared.presentation.Equation.{Equation}
use Rattle.cq_theory.specs.declared.presentation.Equation.TheVariants.{Ent as EntEquation, Typ as TypEquation}
use Rattle.cq_theory.specs.declared.schema.Edge.{Edge}
use Rattle.cq_theory.specs.declared.schema.PathEq.{PathEq}
use Rattle.cq_theory.specs.declared.schema.ObsEq.{ObsEq}
use Rattle.cq_theory.specs.SchemaData.{SchemaData as Schema}
use Rattle.cq_theory.specs.declared.term.EntTerm.{EntTerm}
use Rattle.cq_theory.specs.declared.term.TypeTerm.{TypeTerm}
use Rattle.cq_theory.specs.declared.term.TypeTerm.TheVariants as term
use Rattle.cq_theory.specs.declared.term.TypeTerm.TheOpen as layer
use Rattle.cq_theory.specs.declared.value.Value.{Value}
use Rattle.cq_theory.specs.declared.constant.Con.TheVariants.{Named}
use Rattle.cq_theory.specs.declared.value.Value.TheVariants.{Const}
use Rattle.cq_theory.specs.declared.value.Entry.{Entry}
use Rattle.cq_theory.specs.declared.value.Algebra.{Algebra}
use Rattle.cq_theory.specs.Derivation.{left_of, right_of}
use Rattle.cq_theory.specs.Schema.{one_of}
use Rattle.cq_theory.specs.Sorts.{followed, target_of, entity_at, type_at, entity_of, is_type, have_types, type_of, type_step}
use Rattle.cq_theory.specs.Tables.{Tables, AtRow, Assignment, row_in, value_in, count_of, key_at, cell_at, row_from, row_of, value_of, value_step, meaning_of, applied, value_type, normal_of, IsKeyColumn, IsCellColumn, IsSoundEntry, IsWellFormed, Satisfies}
use Rattle.cq_theory.proofs.TypeTerms.{fold-Gen, fold-Const, fold-Att, fold-Fun, Each, on_terms}
use Rattle.cq_theory.proofs.Sound.{followed_some, both, is_type_some, applied_type_some}
use Rattle.cq_theory.proofs.Typing.{value_typed}
use Rattle.cq_theory.proofs.OnValues.{All_at}
use Rattle.cq_query.specs.QueryData.{QueryData as Query}
use Rattle.cq_theory.specs.EntTerm.{alone}
use Rattle.cq_query.specs.Puts.{generators_from, put}
use Rattle.cq_query.specs.Translation.{variables_at, variable_terms, assigned, attribute_term, term_or_constant, along, translated, translated_step}
use Rattle.cq_query.specs.Duties.{equal_terms, frozen, Sound}
use Rattle.cq_query.specs.IsQuery.{IsQuery}
use Rattle.cq_query.specs.Answers.{IsEval, stands}
use Rattle.cq_query.specs.Leading.{IsAnswer, led}
use Rattle.cq_query.proofs.Answering.{IsIn, later, among_answers}
use Rattle.cq_query.proofs.Once.{one_place, answers_once}
use Rattle.cq_query.proofs.Standing.{Stand, generators_at, within_length, assigned_stand, along_stand, variables_stand}
use Rattle.cq_query.proofs.Meaning.{put_row, put_value}
use Rattle.cq_query.proofs.Holding.{variable_count, frozen_holds, duty_holds, path_duty_in, observation_duty_in}
use Rattle.cq_query.proofs.Normal.{value_normal}

all_from : {X : Type 0} (P : X → Type 0) (xs : List X) → ((n : ℕ) (x : X) → slice_get xs n ≡ Some x → P x) → All P xs
all_from P xs h n d within = h n (get_or xs n d) (slice_get-get_or xs n d within)

member_at : {X : Type 0} (xs : List X) (n : ℕ) → n < length xs → (x : X) × (slice_get xs n ≡ Some x)
member_at [] n h = absurd (omega arith)
member_at (x ∷ xs) zero h = (x, refl)
member_at (x ∷ xs) (suc n) h = member_at xs n (omega arith)

module _ (Q : Query) (query : IsQuery Q) (M : Tables) where
  -- the rows at the end of a path of keys from the rows of an answer
  abbrev pub ended : List ℕ → List ℕ → List ℕ
  ended rows [] = rows
  ended rows (k ∷ path) = ended (led Q M k rows) path

  module _ (A : Assignment) where
    -- terms are put for the variables of a key's source
    led_terms : (k : ℕ) (edge : Edge) → slice_get Q.target.keys k ≡ Some edge → (terms : List EntTerm) → length terms ≡ length (variables_at Q edge.from)
        → map (row_of M A) (map (put terms) (assigned Q k)) ≡ led Q M k (map (row_of M A) terms)
    led_terms k edge is terms count = go (assigned Q k) (λ n t at.
        let v = within_length (variables_at Q edge.to) (assigned Q k) n t at (sym key.count) in
        put_row Q M A terms edge.from count t v.0.1 (key.each n t v.0 at v.1))
      where
        key : Stand Q (generators_at Q edge.from) (assigned Q k) edge.to
        key = assigned_stand Q query k edge is

        go : (ts : List EntTerm) → ((n : ℕ) (t : EntTerm) → slice_get ts n ≡ Some t → row_of M A (put terms t) ≡ row_of M (stands Q M (map (row_of M A) terms)) t)
            → map (row_of M A) (map (put terms) ts) ≡ map (row_of M (stands Q M (map (row_of M A) terms))) ts
        go [] h = refl
        go (t ∷ ts) h =
            let first : row_of M A (put terms t) ≡ row_of M (stands Q M (map (row_of M A) terms)) t = h zero t refl in
            let rest = go ts (λ n u at. h (suc n) u at) in
            λ i. first i ∷ rest i

    along_rows : (path : List ℕ) (terms : List EntTerm) (entity target : ℕ) → target_of Q.target.keys path entity ≡ Some target → length terms ≡ length (variables_at Q entity)
        → map (row_of M A) (along Q terms path) ≡ ended (map (row_of M A) terms) path
    along_rows [] terms entity target h count = refl
    along_rows (k ∷ path) terms entity target h count = option_and_then_some (target_of Q.target.keys path) (followed (slice_get Q.target.keys k) entity) target h (λ middle first rest.
        let edge = followed_some (slice_get Q.target.keys k) entity middle first in
        let from : length terms ≡ length (variables_at Q edge.0.from) = count ∙ ap (λ e. length (variables_at Q e)) (sym edge.2) in
        let size : length (map (put terms) (assigned Q k)) ≡ length (variables_at Q middle) =
        length-map (assigned Q k) (put terms) ∙ (assigned_stand Q query k edge.0 edge.1).count ∙ ap (λ e. length (variables_at Q e)) edge.3 in
        along_rows path (map (put terms) (assigned Q k)) middle target rest size ∙ ap (λ rows. ended rows path) (led_terms k edge.0 edge.1 terms from))

  -- the variables of a block name the rows that they stand for
  variable_rows : (entity : ℕ) (rows : List ℕ) → length rows ≡ length (variables_at Q entity) → map (row_of M (stands Q M rows)) (variable_terms Q entity) ≡ rows
  variable_rows entity rows same = ap (λ n. map (row_of M (stands Q M rows)) (generators_from 0 n)) (sym same) ∙ go 0 rows (λ n r at.
      let here : 0 + n ≡ n = omega arith in
      ap (λ m. row_in (slice_index_or (map AtRow rows) m (AtRow 0))) here ∙ from_rows rows n r at)
    where
      from_rows : (xs : List ℕ) (n r : ℕ) → slice_get xs n ≡ Some r → row_in (slice_index_or (map AtRow xs) n (AtRow 0)) ≡ r
      from_rows [] n r at = cc
      from_rows (x ∷ xs) zero r at = cc
      from_rows (x ∷ xs) (suc n) r at = from_rows xs n r at

      go : (s : ℕ) (xs : List ℕ) → ((n r : ℕ) → slice_get xs n ≡ Some r → row_in (slice_index_or (map AtRow rows) (s + n) (AtRow 0)) ≡ r)
          → map (row_of M (stands Q M rows)) (map alone (range_with_len s (length xs))) ≡ xs
      go s [] h = refl
      go s (x ∷ xs) h =
          let here : s + 0 ≡ s = omega arith in
          let first : row_of M (stands Q M rows) (alone s) ≡ x = ap (λ n. row_in (slice_index_or (map AtRow rows) n (AtRow 0))) (sym here) ∙ h 0 x refl in
          let rest : map (row_of M (stands Q M rows)) (map alone (range_with_len (s + 1) (length xs))) ≡ xs = go (s + 1) xs (λ n r at.
          let there : s + 1 + n ≡ s + suc n = omega arith in
          ap (λ m. row_in (slice_index_or (map AtRow rows) m (AtRow 0))) there ∙ h (suc n) r at) in
          λ i. first i ∷ rest i

  -- terms beside one another that mean the same
  equal_rows : (A : Assignment) (ts us : List EntTerm) → length ts ≡ length us
      → ((e : Equation) → IsIn e (equal_terms ts us) → meaning_of M A (left_of e) ≡ meaning_of M A (right_of e)) → map (row_of M A) ts ≡ map (row_of M A) us
  equal_rows A [] [] same h = refl
  equal_rows A [] (u ∷ us) same h = absurd (omega arith)
  equal_rows A (t ∷ ts) [] same h = absurd (omega arith)
  equal_rows A (t ∷ ts) (u ∷ us) same h =
      let first : row_of M A t ≡ row_of M A u = ap row_in (h (EntEquation t u) (0, refl)) in
      let rest : map (row_of M A) ts ≡ map (row_of M A) us = equal_rows A ts us (omega arith) (λ e is. h e (later e (EntEquation t u) (equal_terms ts us) is)) in
      λ i. first i ∷ rest i

  module _ (well : IsWellFormed Q.source M) (satisfies : Satisfies Q.source M) (N : Tables) (eval : IsEval Q M N) where
    abbrev T : Schema
    T = Q.target

    abbrev answers_at : ℕ → List (List ℕ)
    answers_at entity = slice_index_or eval.answers entity []

    count_is : (entity : ℕ) → entity < length T.entities → count_of N entity ≡ length (answers_at entity)
    count_is entity within =
        let here : 0 + entity ≡ entity = omega arith in
        ap (λ (counts : List ℕ). slice_index counts entity) eval.counts ∙ get_or-map-range_with_len (λ e. length (answers_at e)) 0 (length T.entities) entity entity 0 within here

    answer_at : (entity row : ℕ) → entity < length T.entities → row < count_of N entity → (rows : List ℕ) × (slice_get (answers_at entity) row ≡ Some rows)
    answer_at entity row within inside = member_at (answers_at entity) row (subst (λ n. row < n) (count_is entity within) inside)

    is_answer : (entity row : ℕ) (rows : List ℕ) → entity < length T.entities → slice_get (answers_at entity) row ≡ Some rows → IsAnswer Q M entity rows
    is_answer entity row rows within at = (among_answers Q M entity (answers_at entity) (eval.each entity within) rows).0 (row, at)

    edge_within : (edges : List Edge) (bound k : ℕ) (edge : Edge) → All (λ (x : Edge). (x.from < length T.entities) × (x.to < bound)) edges → slice_get edges k ≡ Some edge → (edge.from < length T.entities) × (edge.to < bound)
    edge_within edges bound k edge all h = All_at (λ (x : Edge). (x.from < length T.entities) × (x.to < bound)) edges k edge all h

    -- columns
    column_row : (k row r : ℕ) → slice_get (slice_index_or N.sheet.keys k []) row ≡ Some r → key_at N k row ≡ r
    column_row k row r at = get_or_from_slice_get (slice_index_or N.sheet.keys k []) row r 0 at

    key_column_is : (k : ℕ) (edge : Edge) → slice_get T.keys k ≡ Some edge → IsKeyColumn T N edge (slice_index_or N.sheet.keys k [])
    key_column_is k edge h =
        let ends = edge_within T.keys (length T.entities) k edge query.target.keys h in
        let column = slice_index_or N.sheet.keys k [] in (
          eval.key_columns k edge h,
          all_from (λ r. r < count_of N edge.to) column (λ row r at.
              let inside : row < count_of N edge.from = subst (λ n. row < n) (eval.key_columns k edge h) (slice_get_within column row r at) in
              let rows = answer_at edge.from row ends.0 inside in
              let lands : slice_get (answers_at edge.to) r ≡ Some (led Q M k rows.0) = ap (slice_get (answers_at edge.to)) (sym (column_row k row r at)) ∙ eval.keys k row edge rows.0 h rows.1 in
              subst (λ n. r < n) (sym (count_is edge.to ends.1)) (slice_get_within (answers_at edge.to) r (led Q M k rows.0) lands)),
        )

    type_moved : (v : Value) → value_type T N.algebra.nulls v ≡ value_type Q.source M.algebra.nulls v
    type_moved v =
        ap (λ (y : Typeside). value_type (record { typeside = y; entities = []; keys = []; attributes = []; path_eqs = []; obs_eqs = [] }) N.algebra.nulls v) (sym query.typeside)
        ∙ ap (λ (g : Algebra). value_type Q.source g.nulls v) eval.algebra

    normal_moved : (v : Value) → normal_of N v ≡ normal_of M v
    normal_moved v = ap (λ (g : Algebra). normal_of (record { sheet = N.sheet; algebra = g }) v) eval.algebra

    attribute_is : (a : ℕ) (edge : Edge) → slice_get T.attributes a ≡ Some edge → type_of Q.source (generators_at Q edge.from) (attribute_term Q a) ≡ Some edge.to
    attribute_is a edge h = let is = query.attributes a edge h in ap (λ o. type_of Q.source (generators_at Q edge.from) (term_or_constant o)) is.found ∙ is.typed

    cell_column_is : (a : ℕ) (edge : Edge) → slice_get T.attributes a ≡ Some edge → IsCellColumn T N edge (slice_index_or N.sheet.cells a [])
    cell_column_is a edge h =
        let ends = edge_within T.attributes (length T.typeside.types) a edge query.target.attributes h in
        let column = slice_index_or N.sheet.cells a [] in (
          eval.cell_columns a edge h,
          all_from (λ v. (value_type T N.algebra.nulls v ≡ Some edge.to) × (normal_of N v ≡ v)) column (λ row v at.
              let inside : row < count_of N edge.from = subst (λ n. row < n) (eval.cell_columns a edge h) (slice_get_within column row v at) in
              let rows = answer_at edge.from row ends.0 inside in
              let holds = frozen_holds Q M query well satisfies edge.from rows.0 (is_answer edge.from row rows.0 ends.0 rows.1) in
              let value : v ≡ value_of M (stands Q M rows.0) (attribute_term Q a) = sym (get_or_from_slice_get column row v (Const (Named 0)) at) ∙ eval.cells a row edge rows.0 h rows.1 in (
                type_moved v ∙ ap (value_type Q.source M.algebra.nulls) value ∙ value_typed Q.source (frozen Q edge.from) M (stands Q M rows.0) holds (attribute_term Q a) edge.to (attribute_is a edge h),
                normal_moved v ∙ ap (normal_of M) value ∙ value_normal Q.source (frozen Q edge.from) M (stands Q M rows.0) holds (attribute_term Q a) edge.to (attribute_is a edge h) ∙ sym value,
              )),
        )

    entry_moved : (e : Entry) → IsSoundEntry Q.source M e → IsSoundEntry T N e
    entry_moved e sound = record {
      function = sound.function;
      known = ap (λ (y : Typeside). slice_get y.functions e.function) (sym query.typeside) ∙ sound.known;
      plain = sound.plain;
      typed = type_moved _ ∙ sound.typed;
      same_type = type_moved e.value ∙ sound.same_type;
    }

    pub well_formed : IsWellFormed T N
    well_formed = record {
      entities = ap length eval.counts ∙ length-map-range_with_len (λ e. length (answers_at e)) 0 (length T.entities);
      keys = eval.key_count;
      attributes = eval.cell_count;
      key_columns = key_column_is;
      cell_columns = cell_column_is;
      nulls = subst (λ (g : Algebra). All (λ n. n < length T.typeside.types) g.nulls) (sym eval.algebra) (subst (λ (y : Typeside). All (λ n. n < length y.types) M.algebra.nulls) query.typeside well.nulls);
      entries = subst (λ (g : Algebra). All (IsSoundEntry T N) g.entries) (sym eval.algebra)
          (all_from (IsSoundEntry T N) M.algebra.entries (λ n e at. entry_moved e (All_at (IsSoundEntry Q.source M) M.algebra.entries n e well.entries at)));
      distinct = subst (λ (g : Algebra). AllPairs (λ e f. e.function ≡ f.function → e.args ≡ f.args → ⊥) g.entries) (sym eval.algebra) well.distinct;
    }

    -- a path leads to the answer that its keys give
    path_lands : (path : List ℕ) (entity target row : ℕ) (rows : List ℕ) → target_of T.keys path entity ≡ Some target → slice_get (answers_at entity) row ≡ Some rows
        → slice_get (answers_at target) (row_from N row path) ≡ Some (ended rows path)
    path_lands [] entity target row rows h at = let same : entity ≡ target = cc in ap (λ e. slice_get (answers_at e) row) (sym same) ∙ at
    path_lands (k ∷ path) entity target row rows h at = option_and_then_some (target_of T.keys path) (followed (slice_get T.keys k) entity) target h (λ middle first rest.
        let edge = followed_some (slice_get T.keys k) entity middle first in
        let begins : slice_get (answers_at edge.0.from) row ≡ Some rows = ap (λ e. slice_get (answers_at e) row) edge.2 ∙ at in
        let next : slice_get (answers_at middle) (key_at N k row) ≡ Some (led Q M k rows) = ap (λ e. slice_get (answers_at e) (key_at N k row)) (sym edge.3) ∙ eval.keys k row edge.0 rows edge.1 begins in
        path_lands path middle target (key_at N k row) (led Q M k rows) rest next)

    -- the terms at the end of a path name the rows there
    ended_terms : (path : List ℕ) (entity target : ℕ) (rows : List ℕ) → target_of T.keys path entity ≡ Some target → length rows ≡ length (variables_at Q entity)
        → map (row_of M (stands Q M rows)) (along Q (variable_terms Q entity) path) ≡ ended rows path
    ended_terms path entity target rows h same =
        along_rows (stands Q M rows) path (variable_terms Q entity) entity target h (variables_stand Q entity).count ∙ ap (λ rs. ended rs path) (variable_rows entity rows same)

    target_within : (path : List ℕ) (entity target : ℕ) → entity < length T.entities → target_of T.keys path entity ≡ Some target → target < length T.entities
    target_within [] entity target within h = let same : entity ≡ target = cc in subst (λ e. e < length T.entities) same within
    target_within (k ∷ path) entity target within h = option_and_then_some (target_of T.keys path) (followed (slice_get T.keys k) entity) target h (λ middle first rest.
        let edge = followed_some (slice_get T.keys k) entity middle first in
        let ends = edge_within T.keys (length T.entities) k edge.0 query.target.keys edge.1 in
        target_within path middle target (subst (λ e. e < length T.entities) edge.3 ends.1) rest)

    -- what the query's terms mean at an answer is what the target's terms mean at its row
    module _ (entity row : ℕ) (rows : List ℕ) (at : slice_get (answers_at entity) row ≡ Some rows) (same : length rows ≡ length (variables_at Q entity)) where
      abbrev here : Assignment
      here = AtRow row ∷ []

      abbrev there : Assignment
      there = stands Q M rows

      abbrev IsTranslated : TypeTerm → Type 0
      IsTranslated t = (type : ℕ) → type_of T (one_of entity) t ≡ Some type → value_of N here t ≡ value_of M there (translated Q (variable_terms Q entity) t)

      no_variable : (n type : ℕ) → type_at (slice_get (one_of entity) n) ≡ Some type → ⊥
      no_variable zero type h = cc
      no_variable (suc n) type h = cc

      variable_begins : (n start : ℕ) → entity_at (slice_get (one_of entity) n) ≡ Some start → (n ≡ 0) × (entity ≡ start)
      variable_begins zero start h = (refl, cc)
      variable_begins (suc n) start h = cc

      args_translated : (ts : List TypeTerm) (types : List ℕ) → have_types (map (type_of T (one_of entity)) ts) types ≡ true → Each IsTranslated ts
          → map (value_of N here) ts ≡ map (value_of M there) (map (translated Q (variable_terms Q entity)) ts)
      args_translated [] types h each = refl
      args_translated (t ∷ ts) [] h each = cc
      args_translated (t ∷ ts) (type ∷ types) h each =
          let parts : (is_type (type_of T (one_of entity) t) type ≡ true) × (have_types (map (type_of T (one_of entity)) ts) types ≡ true) = both _ _ h in
          let first : value_of N here t ≡ value_of M there (translated Q (variable_terms Q entity) t) = each.0 type (is_type_some (type_of T (one_of entity) t) type parts.0) in
          let rest : map (value_of N here) ts ≡ map (value_of M there) (map (translated Q (variable_terms Q entity)) ts) = args_translated ts types parts.1 each.1 in
          λ i. first i ∷ rest i

      att_translated : (a : ℕ) (t : EntTerm) → IsTranslated (term.Att a t)
      att_translated a t type h =
          let looked_up : type_step T (one_of entity) (layer.Att a t) ≡ Some type = sym (fold-Att (Option ℕ) (type_step T (one_of entity)) a t) ∙ h in
          option_and_then_some (followed (slice_get T.attributes a)) (entity_of T (one_of entity) t) type looked_up (λ target led_to last.
          option_and_then_some (target_of T.keys t.path) (entity_at (slice_get (one_of entity) t.generator)) target led_to (λ start first rest.
          let edge = followed_some (slice_get T.attributes a) target type last in
          let variable = variable_begins t.generator start first in
          let leads : target_of T.keys t.path entity ≡ Some edge.0.from = ap (target_of T.keys t.path) variable.1 ∙ rest ∙ ap (λ e. Some e) (sym edge.2) in
          let begins : row_in (slice_index_or here t.generator (AtRow 0)) ≡ row = ap (λ n. row_in (slice_index_or here n (AtRow 0))) variable.0 in
          let reached : ℕ = row_from N row t.path in
          let lands : slice_get (answers_at edge.0.from) reached ≡ Some (ended rows t.path) = path_lands t.path entity edge.0.from row rows leads at in
          let stand : Stand Q (generators_at Q entity) (along Q (variable_terms Q entity) t.path) edge.0.from = along_stand Q query (generators_at Q entity) t.path (variable_terms Q entity) entity edge.0.from leads (variables_stand Q entity) in
          let named_rows : map (row_of M there) (along Q (variable_terms Q entity) t.path) ≡ ended rows t.path = ended_terms t.path entity edge.0.from rows leads same in
          fold-Att Value (value_step N here) a t ∙ ap (λ r. cell_at N a (row_from N r t.path)) begins
          ∙ eval.cells a reached edge.0 (ended rows t.path) edge.1 lands
          ∙ ap (λ rs. value_of M (stands Q M rs) (attribute_term Q a)) (sym named_rows)
          ∙ sym (put_value Q M there (along Q (variable_terms Q entity) t.path) edge.0.from stand.count (attribute_term Q a) edge.0.to (attribute_is a edge.0 edge.1))
          ∙ sym (ap (value_of M there) (fold-Att TypeTerm (translated_step Q (variable_terms Q entity)) a t))))

      pub value_translated : (t : TypeTerm) → IsTranslated t
      value_translated = on_terms IsTranslated
          (λ n type h. absurd (no_variable n type (sym (fold-Gen (Option ℕ) (type_step T (one_of entity)) n) ∙ h)))
          (λ c type h.
          fold-Const Value (value_step N here) c
          ∙ sym (ap (value_of M there) (fold-Const TypeTerm (translated_step Q (variable_terms Q entity)) c) ∙ fold-Const Value (value_step M there) c))
          att_translated
          (λ f ts each type h.
          let f' = applied_type_some (slice_get T.typeside.functions f) (map (type_of T (one_of entity)) ts) type (sym (fold-Fun (Option ℕ) (type_step T (one_of entity)) f ts) ∙ h) in
          fold-Fun Value (value_step N here) f ts
          ∙ ap (λ (g : Algebra). applied (record { sheet = N.sheet; algebra = g }) f (map (value_of N here) ts)) eval.algebra
          ∙ ap (applied M f) (args_translated ts f'.0.args f'.2 each)
          ∙ sym (ap (value_of M there) (fold-Fun TypeTerm (translated_step Q (variable_terms Q entity)) f ts)
          ∙ fold-Fun Value (value_step M there) f (map (translated Q (variable_terms Q entity)) ts)))

    module _ (sound : Sound Q) where
      paths_hold : (n : ℕ) (e : PathEq) → slice_get T.path_eqs n ≡ Some e → (row : ℕ) → row < count_of N e.entity → row_from N row e.left ≡ row_from N row e.right
      paths_hold n e is row inside =
          let sides = query.target.path_eqs n e is in
          let rows = answer_at e.entity row sides.entity inside in
          let answer = is_answer e.entity row rows.0 sides.entity rows.1 in
          let same : length rows.0 ≡ length (variables_at Q e.entity) = variable_count Q M e.entity rows.0 answer.0 in
          let A : Assignment = stands Q M rows.0 in
          let left : List EntTerm = along Q (variable_terms Q e.entity) e.left in
          let right : List EntTerm = along Q (variable_terms Q e.entity) e.right in
          let left_stand : Stand Q (generators_at Q e.entity) left sides.target = along_stand Q query (generators_at Q e.entity) e.left (variable_terms Q e.entity) e.entity sides.target sides.left (variables_stand Q e.entity) in
          let right_stand : Stand Q (generators_at Q e.entity) right sides.target = along_stand Q query (generators_at Q e.entity) e.right (variable_terms Q e.entity) e.entity sides.target sides.right (variables_stand Q e.entity) in
          let equal : map (row_of M A) left ≡ map (row_of M A) right = equal_rows A left right (left_stand.count ∙ sym right_stand.count) (λ x member.
          duty_holds Q M query well satisfies sound e.entity rows.0 sides.entity answer x (path_duty_in Q n e is x member)) in
          let ends : ended rows.0 e.left ≡ ended rows.0 e.right =
          sym (ended_terms e.left e.entity sides.target rows.0 sides.left same) ∙ equal ∙ ended_terms e.right e.entity sides.target rows.0 sides.right same in
          let target : sides.target < length T.entities = target_within e.left e.entity sides.target sides.entity sides.left in
          one_place (answers_at sides.target) (answers_once Q M sides.target (answers_at sides.target) (eval.each sides.target target)) (row_from N row e.left) (row_from N row e.right) (ended rows.0 e.right)
          (path_lands e.left e.entity sides.target row rows.0 sides.left rows.1 ∙ ap (λ rs. Some rs) ends)
          (path_lands e.right e.entity sides.target row rows.0 sides.right rows.1)

      observations_hold : (n : ℕ) (e : ObsEq) → slice_get T.obs_eqs n ≡ Some e → (row : ℕ) → row < count_of N e.entity → value_of N (AtRow row ∷ []) e.left ≡ value_of N (AtRow row ∷ []) e.right
      observations_hold n e is row inside =
          let sides = query.target.obs_eqs n e is in
          let rows = answer_at e.entity row sides.entity inside in
          let answer = is_answer e.entity row rows.0 sides.entity rows.1 in
          let same : length rows.0 ≡ length (variables_at Q e.entity) = variable_count Q M e.entity rows.0 answer.0 in
          let duty : Equation = TypEquation (translated Q (variable_terms Q e.entity) e.left) (translated Q (variable_terms Q e.entity) e.right) in
          let equal = duty_holds Q M query well satisfies sound e.entity rows.0 sides.entity answer duty (observation_duty_in Q n e is duty (0, refl)) in
          value_translated e.entity row rows.0 rows.1 same e.left sides.type sides.left ∙ ap value_in equal ∙ sym (value_translated e.entity row rows.0 rows.1 same e.right sides.type sides.right)

      pub satisfied : Satisfies T N
      satisfied = record { paths = paths_hold; observations = observations_hold }
