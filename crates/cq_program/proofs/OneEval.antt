-- The tables of a query's answers are one, and what is told of too many or too large answers.
use Rattle.std.proofs.Common.{ℕ, zero, suc, Bool, true, false, List, [], ◌∷◌, Option, Some, None, ◌≡◌, ◌<◌, ◌⊎◌, inl, inr, map, length, get_or, refl, sym, ap, subst, ◌∙◌, arith}
use Rattle.std.specs.Prelude.{slice_get, slice_index_or, option_map}
use Rattle.std.proofs.lemmas.Bool.{cases_lt, cases_order}
use Rattle.std.proofs.lemmas.List.{same_lists, length-map}
use Rattle.std.proofs.lemmas.List.FromFn.{get_or-map-range_with_len}
use Rattle.std.proofs.lemmas.Option.{get_or_from_slice_get, slice_get-get_or, slice_get_within}
use Rattle.cq_theory.specs.Canonical.{below}
use Rattle.cq_theory.specs.declared.schema.Edge.{Edge}
use Rattle.cq_theory.specs.declared.value.Value.{Value}
use Rattle.cq_theory.specs.declared.value.Value.TheVariants.{Const}
use Rattle.cq_theory.specs.declared.constant.Con.TheVariants.{Named}
use Rattle.cq_theory.specs.Schema.{IsSchema}
use Rattle.cq_theory.specs.Tables.{Tables, count_of, key_at, cell_at, row_of}
use Rattle.cq_theory.proofs.OnValues.{All_at}
use Rattle.cq_instance.specs.Given.{is_oversized}
use Rattle.cq_instance.proofs.Lists.{IsIn, map_same}
use Rattle.cq_instance.proofs.CanonicalHolds.{from_below}
use Rattle.cq_query.specs.QueryData.{QueryData}
use Rattle.cq_query.specs.Translation.{assigned}
use Rattle.cq_query.specs.Answers.{IsEval, stands}
use Rattle.cq_query.proofs.Once.{one_answers, answers_once, one_place}
use Rattle.cq_eval.specs.Refused.{HasMany, IsFirstMany, IsTooLarge, TellsEval}
use Rattle.cq_eval.specs.declared.refusal.EvalRefusal.{EvalRefusal}
use Rattle.cq_eval.specs.declared.refusal.EvalRefusal.TheVariants as eval
use Rattle.cq_environment.specs.declared.reason.Reason.{Reason}
use Rattle.cq_environment.specs.declared.reason.Reason.TheVariants.{TooManyAnswers, Oversized}
use Rattle.cq_base.specs.declared.name.Name.{Name}
use Rattle.cq_base.specs.declared.place.Place.{Place}
use Rattle.cq_environment.specs.declared.refusal.ProgramRefusal.{ProgramRefusal}
use Rattle.cq_environment.specs.declared.refusal.ProgramRefusal.TheVariants as program_refusal
use Rattle.cq_program.specs.Posed.{an_eval}
use Rattle.cq_environment.specs.Environment.{Tells}
use Rattle.cq_program.specs.Judging.{TellsUnmade}
use Rattle.cq_program.specs.Program.{IsEvalWithin, TellsMany, TellsAnswers}

-- a column of a list of columns that is as long as the list of edges
column_at : {X : Type 0} (edges : List Edge) (columns : List (List X)) (k : ℕ) → length columns ≡ length edges → k < length columns → (edge : Edge) × (slice_get edges k ≡ Some edge)
column_at [] columns k same inside = absurd (omega (arith, same, inside))
column_at (edge ∷ edges) columns k same inside =
    let within : k < length (edge ∷ edges) = omega (arith, same, inside) in
    (get_or (edge ∷ edges) k edge, slice_get-get_or (edge ∷ edges) k edge within)

-- two lists of columns beside one list of edges are one where the columns of each edge are
same_columns : {X : Type 0} (edges : List Edge) (columns others : List (List X)) → length columns ≡ length edges → length others ≡ length edges
    → ((k : ℕ) (edge : Edge) → slice_get edges k ≡ Some edge → slice_index_or columns k [] ≡ slice_index_or others k []) → columns ≡ others
same_columns {X} edges columns others count count' each =
    same_lists columns others (count ∙ sym count') (λ k d inside.
    let at = column_at edges columns k count inside in
    let inside' : k < length others = omega (arith, count, count', inside) in
    let here : get_or columns k d ≡ get_or columns k [] = get_or_from_slice_get columns k (get_or columns k []) d (slice_get-get_or columns k [] inside) in
    let there : get_or others k [] ≡ get_or others k d = sym (get_or_from_slice_get others k (get_or others k []) d (slice_get-get_or others k [] inside')) in
    here ∙ each k at.0 at.1 ∙ there)

-- a row of an entity has an answer
module _ (Q : QueryData) (M N N' : Tables) (target : IsSchema Q.target) (one : IsEval Q M N) (other : IsEval Q M N') where
  abbrev answers_at : IsEval Q M N → ℕ → List (List ℕ)
  answers_at eval entity = slice_index_or eval.answers entity []

  same_answers : (entity : ℕ) → entity < length Q.target.entities → slice_index_or one.answers entity [] ≡ slice_index_or other.answers entity []
  same_answers entity within =
      one_answers Q M entity (slice_index_or one.answers entity []) (slice_index_or other.answers entity []) (one.each entity within) (other.each entity within)

  same_counts : N.sheet.counts ≡ N'.sheet.counts
  same_counts =
      one.counts
      ∙ map_same (λ (entity : ℕ). length (slice_index_or one.answers entity [])) (λ (entity : ℕ). length (slice_index_or other.answers entity [])) (below (length Q.target.entities))
      (λ entity is. ap length (same_answers entity (from_below (length Q.target.entities) is.place entity is.is)))
      ∙ sym other.counts

  same_count : (entity : ℕ) → count_of N entity ≡ count_of N' entity
  same_count entity = ap (λ (counts : List ℕ). slice_index_or counts entity 0) same_counts

  -- how many rows an entity has
  count_is : (entity : ℕ) → entity < length Q.target.entities → count_of N entity ≡ length (slice_index_or one.answers entity [])
  count_is entity within =
      ap (λ (counts : List ℕ). slice_index_or counts entity 0) one.counts
      ∙ get_or-map-range_with_len (λ (e : ℕ). length (slice_index_or one.answers e [])) 0 (length Q.target.entities) entity entity 0 within (omega arith)

  key_from : (k : ℕ) (edge : Edge) → slice_get Q.target.keys k ≡ Some edge → (edge.from < length Q.target.entities) × (edge.to < length Q.target.entities)
  key_from k edge is = All_at (λ (e : Edge). (e.from < length Q.target.entities) × (e.to < length Q.target.entities)) Q.target.keys k edge target.keys is

  -- the answer of a row
  answer_of : (entity row : ℕ) → entity < length Q.target.entities → row < count_of N entity → slice_get (slice_index_or one.answers entity []) row ≡ Some (get_or (slice_index_or one.answers entity []) row [])
  answer_of entity row within inside =
      slice_get-get_or (slice_index_or one.answers entity []) row [] (subst (λ (n : ℕ). row < n) (count_is entity within) inside)

  same_key : (k row : ℕ) (edge : Edge) → slice_get Q.target.keys k ≡ Some edge → row < count_of N edge.from → key_at N k row ≡ key_at N' k row
  same_key k row edge is inside =
      let ends = key_from k edge is in
      let rows = get_or (slice_index_or one.answers edge.from []) row [] in
      let at : slice_get (slice_index_or one.answers edge.from []) row ≡ Some rows = answer_of edge.from row ends.0 inside in
      let at' : slice_get (slice_index_or other.answers edge.from []) row ≡ Some rows =
      subst (λ (l : List (List ℕ)). slice_get l row ≡ Some rows) (same_answers edge.from ends.0) at in
      let led = map (row_of M (stands Q M rows)) (assigned Q k) in
      one_place (slice_index_or one.answers edge.to []) (answers_once Q M edge.to (slice_index_or one.answers edge.to []) (one.each edge.to ends.1)) (key_at N k row) (key_at N' k row) led
      (one.keys k row edge rows is at)
      (subst (λ (l : List (List ℕ)). slice_get l (key_at N' k row) ≡ Some led) (sym (same_answers edge.to ends.1)) (other.keys k row edge rows is at'))

  same_cell : (a row : ℕ) (edge : Edge) → slice_get Q.target.attributes a ≡ Some edge → row < count_of N edge.from → cell_at N a row ≡ cell_at N' a row
  same_cell a row edge is inside =
      let ends = All_at (λ (e : Edge). (e.from < length Q.target.entities) × (e.to < length Q.target.typeside.types)) Q.target.attributes a edge target.attributes is in
      let rows = get_or (slice_index_or one.answers edge.from []) row [] in
      let at : slice_get (slice_index_or one.answers edge.from []) row ≡ Some rows = answer_of edge.from row ends.0 inside in
      let at' : slice_get (slice_index_or other.answers edge.from []) row ≡ Some rows =
      subst (λ (l : List (List ℕ)). slice_get l row ≡ Some rows) (same_answers edge.from ends.0) at in
      one.cells a row edge rows is at ∙ sym (other.cells a row edge rows is at')

  -- columns that are as long as one another and agree at each row
  same_column : {X : Type 0} (default : X) (count : ℕ) (column column' : List X) → length column ≡ count → length column' ≡ count
      → ((row : ℕ) → row < count → slice_index_or column row default ≡ slice_index_or column' row default) → column ≡ column'
  same_column {X} default count column column' long long' each =
      same_lists column column' (long ∙ sym long') (λ row d inside.
      let within : row < count = omega (arith, long, inside) in
      let inside' : row < length column' = omega (arith, long, long', inside) in
      get_or_from_slice_get column row (get_or column row default) d (slice_get-get_or column row default inside)
      ∙ each row within
      ∙ sym (get_or_from_slice_get column' row (get_or column' row default) d (slice_get-get_or column' row default inside')))

  same_keys : N.sheet.keys ≡ N'.sheet.keys
  same_keys = same_columns Q.target.keys N.sheet.keys N'.sheet.keys one.key_count other.key_count (λ k edge is.
      same_column 0 (count_of N edge.from) (slice_index_or N.sheet.keys k []) (slice_index_or N'.sheet.keys k []) (one.key_columns k edge is) (other.key_columns k edge is ∙ sym (same_count edge.from))
      (λ row inside. same_key k row edge is inside))

  same_cells : N.sheet.cells ≡ N'.sheet.cells
  same_cells = same_columns Q.target.attributes N.sheet.cells N'.sheet.cells one.cell_count other.cell_count (λ a edge is.
      same_column (Const (Named 0)) (count_of N edge.from) (slice_index_or N.sheet.cells a []) (slice_index_or N'.sheet.cells a []) (one.cell_columns a edge is) (other.cell_columns a edge is ∙ sym (same_count edge.from))
      (λ row inside. same_cell a row edge is inside))

  pub one_eval : N ≡ N'
  one_eval = λ i. record {
    sheet = record { counts = same_counts i; keys = same_keys i; cells = same_cells i };
    algebra = (one.algebra ∙ sym other.algebra) i;
  }

-- what stands within the limits passes none
pub within_answers : (Q : QueryData) (M N : Tables) (reason : Reason) → IsEvalWithin Q M N → TellsAnswers Q M reason → ⊥
within_answers Q M N reason within tells = elim tells [
  | inl many ↦ within.few many.entity many.first.within many.first.many
  | inr large ↦
      let same : N ≡ large.1.tables = one_eval Q M N large.1.tables within.target within.eval large.1.are_tables in
      let fits : is_oversized large.1.tables ≡ false = subst (λ (T : Tables). is_oversized T ≡ false) same within.fits in
      let both : false ≡ true = sym fits ∙ large.1.oversized in
      cc
]

one_entity : (Q : QueryData) (M : Tables) (n m : ℕ) → IsFirstMany Q M n → IsFirstMany Q M m → n ≡ m
one_entity Q M n m one other = elim (cases_order n m) [
  | inl same ↦ same
  | inr rest ↦ elim rest [
    | inl less ↦ absurd (other.first n less one.many)
    | inr more ↦ absurd (one.first m more other.many)
  ]
]

one_many : (Q : QueryData) (M : Tables) (reason other : Reason) → TellsMany Q M reason → TellsMany Q M other → reason ≡ other
one_many Q M reason other tells tells' =
    let same : tells.entity ≡ tells'.entity = one_entity Q M tells.entity tells'.entity tells.first tells'.first in
    let names : Some tells.name ≡ Some tells'.name = sym tells.there ∙ ap (slice_get Q.target.entities) same ∙ tells'.there in
    let one : tells.name ≡ tells'.name = cc in
    tells.told ∙ ap TooManyAnswers one ∙ sym tells'.told

-- of answers one thing is told
pub one_answer_told : (Q : QueryData) (M : Tables) (reason other : Reason) → TellsAnswers Q M reason → TellsAnswers Q M other → reason ≡ other
one_answer_told Q M reason other tells tells' = elim tells [
  | inl many ↦ elim tells' [
    | inl many' ↦ one_many Q M reason other many many'
    | inr large' ↦ absurd (large'.1.none many.entity many.first.within many.first.many)
  ]
  | inr large ↦ elim tells' [
    | inl many' ↦ absurd (large.1.none many'.entity many'.first.within many'.first.many)
    | inr large' ↦ large.0 ∙ sym large'.0
  ]
]

some_of : {A B : Type 0} (f : A → B) (o : Option A) (b : B) → option_map f o ≡ Some b → (a : A) × (o ≡ Some a) × (f a ≡ b)
some_of f None b h = absurd (cc h)
some_of f (Some a) b h = (a, refl, cc)

-- the refusal with the name of the first entity that has too many answers tells why there are no tables
pub unmade_many : (depth : ℕ) (at : Place) (name : Name) (Q : QueryData) (M : Tables) (entity : ℕ) (refusal : ProgramRefusal) → IsFirstMany Q M entity
    → Tells refusal (option_map (λ (n : Name). (at, TooManyAnswers n)) (slice_get Q.target.entities entity)) → TellsUnmade depth at (an_eval name Q M) refusal
unmade_many depth at name Q M entity (program_refusal.Broken place reason) first told =
    let t = some_of (λ (n : Name). let x : Place × Reason = (at, TooManyAnswers n) in x) (slice_get Q.target.entities entity) (place, reason) told in
    let here : at ≡ place = ap (λ (x : Place × Reason). x.0) t.2 in
    let what : TooManyAnswers t.0 ≡ reason = ap (λ (x : Place × Reason). x.1) t.2 in
    (sym here, inl (inl (record { entity = entity; name = t.0; there = t.1; told = sym what; first = first })))
unmade_many depth at name Q M entity (program_refusal.Read file cause) first told = told
unmade_many depth at name Q M entity program_refusal.Memory first told = tt

-- the same of tables that are too large
unmade_large_answers : (depth : ℕ) (at : Place) (name : Name) (Q : QueryData) (M : Tables) (refusal : ProgramRefusal) → IsTooLarge Q M
    → Tells refusal (Some (at, Oversized)) → TellsUnmade depth at (an_eval name Q M) refusal
unmade_large_answers depth at name Q M (program_refusal.Broken place reason) large told =
    let one : (at, Oversized) ≡ (place, reason) = cc in
    let here : at ≡ place = ap (λ (x : Place × Reason). x.0) one in
    let what : Oversized ≡ reason = ap (λ (x : Place × Reason). x.1) one in
    (sym here, inl (inr (sym what, large)))
unmade_large_answers depth at name Q M (program_refusal.Read file cause) large told = told
unmade_large_answers depth at name Q M program_refusal.Memory large told = tt

unmade_memory : (depth : ℕ) (at : Place) (name : Name) (Q : QueryData) (M : Tables) (refusal : ProgramRefusal) → Tells refusal None → TellsUnmade depth at (an_eval name Q M) refusal
unmade_memory depth at name Q M (program_refusal.Broken place reason) told = absurd (cc told)
unmade_memory depth at name Q M (program_refusal.Read file cause) told = told
unmade_memory depth at name Q M program_refusal.Memory told = tt

-- what is told of a refusal of eval tells why there are no tables
pub unmade_answers : (depth : ℕ) (at : Place) (name : Name) (Q : QueryData) (M : Tables) (r : EvalRefusal) (refusal : ProgramRefusal) → TellsEval Q M r
    → ((n : ℕ) → r ≡ eval.TooManyAnswers n → Tells refusal (option_map (λ (x : Name). (at, TooManyAnswers x)) (slice_get Q.target.entities n)))
    → (r ≡ eval.TooLarge → Tells refusal (Some (at, Oversized))) → (r ≡ eval.Memory → Tells refusal None) → TellsUnmade depth at (an_eval name Q M) refusal
unmade_answers depth at name Q M (eval.TooManyAnswers n) refusal tells many large memory = unmade_many depth at name Q M n refusal tells (many n refl)
unmade_answers depth at name Q M eval.TooLarge refusal tells many large memory = unmade_large_answers depth at name Q M refusal tells (large refl)
unmade_answers depth at name Q M eval.Memory refusal tells many large memory = unmade_memory depth at name Q M refusal (memory refl)

-- an entity that is told is one of the target
pub told_within : (Q : QueryData) (M : Tables) (r : EvalRefusal) → TellsEval Q M r → (n : ℕ) → r ≡ eval.TooManyAnswers n → n < length Q.target.entities
told_within Q M r tells n is = (subst (TellsEval Q M) is tells).within
