-- What the numbered rows say of entity terms.
use Rattle.std.proofs.Common.{ℕ, zero, suc, true, List, [], ◌∷◌, Option, Some, None, ◌≡◌, ◌<◌, map, length, refl, sym, ap, subst, ◌∙◌, slice_index_or, get_or, eq-eqb, if◌then◌else◌}
use Rattle.std.specs.Prelude.{slice_get, slice_index, option_and_then, IsSome}
use Rattle.std.proofs.lemmas.Option.{same_Some, option_and_then_some, get_or_from_slice_get, slice_get-get_or, slice_get_within}
use Rattle.std.proofs.lemmas.List.{length-map}
use Rattle.cq_base.specs.declared.name.Name.{Name}
use Rattle.cq_tables.specs.Content.{Content, live_of, trace_of, cell_of, step_of, keys_of, IsHeld}
use Rattle.cq_tables.specs.Content.{entity_of as row_entity}
use Rattle.cq_rows.specs.Rows.{row_of_term}
use Rattle.cq_rows.proofs.Bridge.{step_same, map_some}
use Rattle.cq_flat.specs.Values.{Closure}
use Rattle.cq_model.specs.declared.places.Places.{Places}
use Rattle.cq_names.specs.Closed.{AreClosed}
use Rattle.cq_names.specs.LeastNames.{rows_at, terms_at, IsLeast, AreNumbered}
use Rattle.cq_model.specs.Built.{tables_of, assignment_of, number_in, key_column, standing}
use Rattle.cq_instance.proofs.TypedTerms.{entity_at_some}
use Rattle.cq_instance.proofs.Enumerated.{numbered_at}
use Rattle.cq_instance.proofs.Lists.{get-map, All_from, get-map_from}
use Rattle.cq_theory.specs.declared.presentation.Presentation.{Presentation}
use Rattle.cq_theory.specs.declared.presentation.Sort.{Sort}
use Rattle.cq_theory.specs.declared.presentation.Sort.TheVariants.{Entity}
use Rattle.cq_theory.specs.declared.presentation.Equation.TheVariants.{Ent as EntEquation}
use Rattle.cq_theory.specs.declared.schema.Edge.{Edge}
use Rattle.cq_theory.specs.declared.schema.PathEq.{PathEq}
use Rattle.cq_theory.specs.SchemaData.{SchemaData as Schema}
use Rattle.cq_theory.specs.Schema.{IsSchema}
use Rattle.cq_theory.specs.Presentation.{IsPresentation}
use Rattle.cq_theory.specs.declared.term.EntTerm.{EntTerm}
use Rattle.cq_theory.specs.declared.term.Term.TheVariants.{Ent}
use Rattle.cq_theory.specs.Sorts.{followed, entity_of, entity_at, target_of}
use Rattle.cq_theory.specs.Derivation.{Derives}
use Rattle.cq_theory.proofs.Sound.{followed_some}
use Rattle.cq_theory.specs.Tables.{Tables, AtRow, Assignment, row_in, count_of, key_at, row_from, row_of, IsKeyColumn, HasSort}
use Rattle.cq_theory.specs.Listed.{IsLeastName}

filled_cell : (o : Option ℕ) → IsSome o → (s : ℕ) × (o ≡ Some s)
filled_cell None h = cc
filled_cell (Some s) h = (s, refl)

-- the length of one of several lists
length_at : {X : Type 0} (lists : List (List X)) (n : ℕ) → slice_index (map length lists) n ≡ length (slice_index_or lists n [])
length_at [] n = refl
length_at (l ∷ lists) zero = refl
length_at (l ∷ lists) (suc n) = length_at lists n

module _ (S : Schema) (P : Presentation) (m : Content) (rows : List ℕ) (schema : IsSchema S) (presentation : IsPresentation S P) (closed : AreClosed S P m rows)
    (order : List (List ℕ)) (names : List (List EntTerm)) (numbers : List ℕ) (numbered : AreNumbered S P m rows order names numbers)
    (places : Places) (types : List ℕ) (flat : Closure) where
  abbrev M : Tables
  M = tables_of S P m rows order numbers places types flat

  abbrev A : Assignment
  A = assignment_of S P m rows order numbers places flat.values

  -- a key of a live row's entity leads to a live row of its target
  cell_leads : (k r middle : ℕ) → live_of m r ≡ true → followed (slice_get S.keys k) (row_entity m r) ≡ Some middle
      → (s : ℕ) × (cell_of m r k ≡ Some s) × (live_of m s ≡ true) × (row_entity m s ≡ middle)
  cell_leads k r middle live leads =
      let step : step_of (keys_of m) (row_entity m r) k ≡ Some middle = ap (λ keys. step_of keys (row_entity m r) k) closed.keys ∙ step_same S P (row_entity m r) k ∙ leads in
      let cell : (s : ℕ) × (cell_of m r k ≡ Some s) = filled_cell (cell_of m r k) (closed.filled r k middle live step) in
      let held : IsHeld m r k cell.0 = closed.whole.held r k cell.0 live cell.1 in
      (cell.0, cell.1, held.live, same_Some _ _ (sym held.step ∙ step))

  -- so does a path
  from_leads : (path : List ℕ) (r target : ℕ) → live_of m r ≡ true → target_of S.keys path (row_entity m r) ≡ Some target
      → (s : ℕ) × (trace_of m r path ≡ Some s) × (live_of m s ≡ true) × (row_entity m s ≡ target)
  from_leads [] r target live leads = (r, refl, live, same_Some _ _ leads)
  from_leads (k ∷ path) r target live leads =
      option_and_then_some (target_of S.keys path) (followed (slice_get S.keys k) (row_entity m r)) target leads (λ middle first rest.
      let cell = cell_leads k r middle live first in
      let further = from_leads path cell.0 target cell.2 (ap (target_of S.keys path) cell.3 ∙ rest) in
      (further.0, ap (option_and_then (λ s. trace_of m s path)) cell.1 ∙ further.1, further.2, further.3))

  -- the row of a generator, from which the path of a term leads
  record Starts (t : EntTerm) (e : ℕ) : Type 0 where
    start : ℕ
    found : entity_at (slice_get P.generators t.generator) ≡ Some start
    live : live_of m (slice_index rows t.generator) ≡ true
    entity : row_entity m (slice_index rows t.generator) ≡ start
    leads : target_of S.keys t.path (row_entity m (slice_index rows t.generator)) ≡ Some e

  starts : (t : EntTerm) (e : ℕ) → entity_of S P.generators t ≡ Some e → Starts t e
  starts t e h = option_and_then_some (target_of S.keys t.path) (entity_at (slice_get P.generators t.generator)) e h (λ start first rest.
      let row = closed.entries.entity t.generator start first in
      record { start = start; found = first; live = row.0; entity = row.1; leads = ap (target_of S.keys t.path) row.1 ∙ rest })

  -- each entity term leads to a live row of its entity
  pub leads : (t : EntTerm) (e : ℕ) → entity_of S P.generators t ≡ Some e → (r : ℕ) × (row_of_term m rows t ≡ Some r) × (live_of m r ≡ true) × (row_entity m r ≡ e)
  leads t e h = let s = starts t e h in from_leads t.path (slice_index rows t.generator) e s.live s.leads

  pub counts_are : (e : ℕ) → count_of M e ≡ length (rows_at order e)
  counts_are e = length_at order e

  -- the number of a live row is that of a row of its entity
  number_within : (r e : ℕ) → live_of m r ≡ true → row_entity m r ≡ e → slice_index numbers r < count_of M e
  number_within r e live entity =
      let within : slice_index numbers r < length (rows_at order (row_entity m r)) = slice_get_within (rows_at order (row_entity m r)) (slice_index numbers r) r (numbered.all r live) in
      subst (λ d. slice_index numbers r < count_of M d) entity (subst (λ n. slice_index numbers r < n) (sym (counts_are (row_entity m r))) within)

  -- two live rows of one entity with one number are one
  one_number : (r s e : ℕ) → live_of m r ≡ true → live_of m s ≡ true → row_entity m r ≡ e → row_entity m s ≡ e → slice_index numbers r ≡ slice_index numbers s → r ≡ s
  one_number r s e live live' entity entity' same =
      same_Some r s (sym (numbered.all r live) ∙ (λ i. slice_get (rows_at order ((entity ∙ sym entity') i)) (same i)) ∙ numbered.all s live')

  -- the row of a number
  row_at : (e row : ℕ) → row < count_of M e → (r : ℕ) × (slice_get (rows_at order e) row ≡ Some r) × (live_of m r ≡ true) × (row_entity m r ≡ e) × (slice_index numbers r ≡ row)
  row_at e row within =
      let inside : row < length (rows_at order e) = subst (λ n. row < n) (counts_are e) within in
      let r : ℕ = get_or (rows_at order e) row 0 in
      let found : slice_get (rows_at order e) row ≡ Some r = slice_get-get_or (rows_at order e) row 0 inside in
      let live = numbered.live e row r found in
      (r, found, live.0, live.1, numbered.numbered e row r found)

  -- a key's column at the number of a row
  key_number : (k r s : ℕ) (edge : Edge) → slice_get S.keys k ≡ Some edge → edge.from ≡ row_entity m r → live_of m r ≡ true → cell_of m r k ≡ Some s
      → key_at M k (slice_index numbers r) ≡ slice_index numbers s
  key_number k r s edge found from live cell =
      let column : slice_index_or M.sheet.keys k [] ≡ key_column S P m rows order numbers (k, edge) = numbered_at (key_column S P m rows order numbers) S.keys k edge [] found in
      let at : slice_get (rows_at order edge.from) (slice_index numbers r) ≡ Some r = ap (λ e. slice_get (rows_at order e) (slice_index numbers r)) from ∙ numbered.all r live in
      ap (λ c. slice_index c (slice_index numbers r)) column
      ∙ get_or_from_slice_get (key_column S P m rows order numbers (k, edge)) (slice_index numbers r) (number_in numbers (cell_of m r k)) 0
      (get-map (λ q. number_in numbers (cell_of m q k)) (rows_at order edge.from) (slice_index numbers r) r at)
      ∙ ap (number_in numbers) cell

  -- what a generator of an entity stands for
  pub assigned_row : (n e : ℕ) → entity_at (slice_get P.generators n) ≡ Some e → slice_index_or A n (AtRow 0) ≡ AtRow (slice_index numbers (slice_index rows n))
  assigned_row n e found =
      let g = entity_at_some (slice_get P.generators n) e found in
      numbered_at (λ (g : ℕ × (Name × Sort)). standing S P m rows order numbers places flat.values g.0 g.1.1) P.generators n g.0 (AtRow 0) g.1
      ∙ ap (standing S P m rows order numbers places flat.values n) g.2

  -- a path leads in the tables from a row's number to the number of the row to which it leads
  pub row_from_is : (path : List ℕ) (r s target : ℕ) → live_of m r ≡ true → target_of S.keys path (row_entity m r) ≡ Some target → trace_of m r path ≡ Some s
      → row_from M (slice_index numbers r) path ≡ slice_index numbers s
  row_from_is [] r s target live leads traced = ap (slice_index numbers) (same_Some r s traced)
  row_from_is (k ∷ path) r s target live leads traced =
      option_and_then_some (target_of S.keys path) (followed (slice_get S.keys k) (row_entity m r)) target leads (λ middle first rest.
      let cell = cell_leads k r middle live first in
      let edge = followed_some (slice_get S.keys k) (row_entity m r) middle first in
      let onward : trace_of m cell.0 path ≡ Some s = ap (option_and_then (λ q. trace_of m q path)) (sym cell.1) ∙ traced in
      ap (λ n. row_from M n path) (key_number k r cell.0 edge.0 edge.1 edge.2 live cell.1)
      ∙ row_from_is path cell.0 s target cell.2 (ap (target_of S.keys path) cell.3 ∙ rest) onward)

  pub row_of_is : (t : EntTerm) (e r : ℕ) → entity_of S P.generators t ≡ Some e → row_of_term m rows t ≡ Some r → row_of M A t ≡ slice_index numbers r
  row_of_is t e r h traced =
      let s = starts t e h in
      ap (λ meaning. row_from M (row_in meaning) t.path) (assigned_row t.generator s.start s.found)
      ∙ row_from_is t.path (slice_index rows t.generator) r e s.live s.leads traced

  -- an entity term leads to a row of its entity
  pub row_within : (t : EntTerm) (e : ℕ) → entity_of S P.generators t ≡ Some e → row_of M A t < count_of M e
  row_within t e h =
      let r = leads t e h in
      subst (λ n. n < count_of M e) (sym (row_of_is t e r.0 h r.1)) (number_within r.0 e r.2 r.3)

  pub key_columns : (k : ℕ) (edge : Edge) → slice_get S.keys k ≡ Some edge → IsKeyColumn S M edge (slice_index_or M.sheet.keys k [])
  key_columns k edge found =
      let number : ℕ → ℕ = λ r. number_in numbers (cell_of m r k) in
      subst (IsKeyColumn S M edge) (sym (numbered_at (key_column S P m rows order numbers) S.keys k edge [] found)) (
        length-map (rows_at order edge.from) number ∙ sym (counts_are edge.from),
        All_from (λ row. row < count_of M edge.to) (map number (rows_at order edge.from)) (λ n row at.
            let r = get-map_from number (rows_at order edge.from) n row at in
            let live = numbered.live edge.from n r.0 r.1 in
            let there : followed (Some edge) (row_entity m r.0) ≡ Some edge.to = ap (λ b. if b then Some edge.to else None) (eq-eqb edge.from (row_entity m r.0) (sym live.1)) in
            let cell = cell_leads k r.0 edge.to live.0 (ap (λ o. followed o (row_entity m r.0)) found ∙ there) in
            let is : slice_index numbers cell.0 ≡ row = ap (number_in numbers) (sym cell.1) ∙ r.2 in
            subst (λ q. q < count_of M edge.to) is (number_within cell.0 edge.to cell.2 cell.3)),
      )

  pub generator_rows : (n e : ℕ) → entity_at (slice_get P.generators n) ≡ Some e → HasSort S M (Entity e) (slice_index_or A n (AtRow 0))
  generator_rows n e found =
      let row = closed.entries.entity n e found in
      subst (HasSort S M (Entity e)) (sym (assigned_row n e found)) (number_within (slice_index rows n) e row.0 row.1)

  pub paths_hold : (n : ℕ) (e : PathEq) → slice_get S.path_eqs n ≡ Some e → (row : ℕ) → row < count_of M e.entity → row_from M row e.left ≡ row_from M row e.right
  paths_hold n e found row within =
      let sides = schema.path_eqs n e found in
      let at = row_at e.entity row within in
      let left : target_of S.keys e.left (row_entity m at.0) ≡ Some sides.target = ap (target_of S.keys e.left) at.3 ∙ sides.left in
      let right : target_of S.keys e.right (row_entity m at.0) ≡ Some sides.target = ap (target_of S.keys e.right) at.3 ∙ sides.right in
      let a = from_leads e.left at.0 sides.target at.2 left in
      let b = from_leads e.right at.0 sides.target at.2 right in
      let one : a.0 ≡ b.0 = closed.paths at.0 n e at.2 found at.3 a.0 b.0 a.1 b.1 in
      ap (λ q. row_from M q e.left) (sym at.4)
      ∙ row_from_is e.left at.0 a.0 sides.target at.2 left a.1
      ∙ ap (slice_index numbers) one
      ∙ sym (row_from_is e.right at.0 b.0 sides.target at.2 right b.1)
      ∙ ap (λ q. row_from M q e.right) at.4

  pub entity_equations_hold : (n : ℕ) (t u : EntTerm) → slice_get P.equations n ≡ Some (EntEquation t u) → row_of M A t ≡ row_of M A u
  entity_equations_hold n t u found =
      let sides = presentation.equations n (EntEquation t u) found in
      let left = map_some Entity (entity_of S P.generators t) sides.sort sides.left in
      let right = map_some Entity (entity_of S P.generators u) sides.sort sides.right in
      let a = leads t left.0 left.1 in
      let b = leads u right.0 right.1 in
      let one : a.0 ≡ b.0 = closed.equations n t u found a.0 b.0 a.1 b.1 in
      row_of_is t left.0 a.0 left.1 a.1 ∙ ap (slice_index numbers) one ∙ sym (row_of_is u right.0 b.0 right.1 b.1)

  pub one_row_derives : (t u : EntTerm) (e : ℕ) → entity_of S P.generators t ≡ Some e → entity_of S P.generators u ≡ Some e → row_of M A t ≡ row_of M A u → Derives S P (Ent t) (Ent u)
  one_row_derives t u e left right same =
      let a = leads t e left in
      let b = leads u e right in
      let same_number : slice_index numbers a.0 ≡ slice_index numbers b.0 = sym (row_of_is t e a.0 left a.1) ∙ same ∙ row_of_is u e b.0 right b.1 in
      let one : a.0 ≡ b.0 = one_number a.0 b.0 e a.2 b.2 a.3 b.3 same_number in
      closed.sound t u e e b.0 left right (a.1 ∙ ap (λ r. Some r) one) b.1

  -- a row's name is its least one
  pub least_name : (e row : ℕ) → row < count_of M e → (t : EntTerm) × (slice_get (terms_at names e) row ≡ Some t) × IsLeastName S P M A e row t
  least_name e row within =
      let at = row_at e row within in
      let inside : row < length (terms_at names e) = subst (λ n. row < n) (counts_are e ∙ sym (numbered.counted e)) within in
      let t : EntTerm = get_or (terms_at names e) row (record { generator = 0; path = [] }) in
      let named : slice_get (terms_at names e) row ≡ Some t = slice_get-get_or (terms_at names e) row (record { generator = 0; path = [] }) inside in
      let least : IsLeast S P m rows at.0 t = numbered.named e row at.0 t at.1 named in
      let of_entity : entity_of S P.generators t ≡ Some e = least.entity ∙ ap (λ d. Some d) at.3 in (
        t,
        named,
        record {
          of_entity = of_entity;
          of_row = row_of_is t e at.0 of_entity least.row ∙ at.4;
          least = λ u of_entity' of_row'.
              let b = leads u e of_entity' in
              let one : b.0 ≡ at.0 = one_number b.0 at.0 e b.2 at.2 b.3 at.3 (sym (row_of_is u e b.0 of_entity' b.1) ∙ of_row' ∙ sym at.4) in
              least.least u e of_entity' (b.1 ∙ ap (λ r. Some r) one);
        },
      )
