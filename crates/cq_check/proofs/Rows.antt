-- Where entity terms lead in rows that were made for a presentation.
use Rattle.std.proofs.Common.{ℕ, true, List, [], ◌∷◌, Option, Some, None, ◌≡◌, map, refl, sym, ap, subst, ◌∙◌}
use Rattle.std.specs.Prelude.{slice_get, slice_index, option_and_then, IsSome}
use Rattle.std.proofs.lemmas.Option.{same_Some, option_and_then_some}
use Rattle.cq_tables.specs.Content.{Content, live_of, trace_of, cell_of, step_of, end_of, keys_of, IsHeld, IsWhole}
use Rattle.cq_tables.specs.Content.{entity_of as row_entity}
use Rattle.cq_rows.specs.Plain.{ends_of}
use Rattle.cq_rows.specs.Rows.{AllFilled, row_of_term}
use Rattle.cq_rows.proofs.Bridge.{step_same, end_same}
use Rattle.cq_rows.proofs.Tracing.{trace-append, trace_leads}
use Rattle.cq_check.specs.Frame.{IsFrame, AreOneRow, AllTracedWithin, IsApart}
use Rattle.cq_theory.specs.declared.presentation.Presentation.{Presentation}
use Rattle.cq_theory.specs.declared.presentation.Equation.{Equation}
use Rattle.cq_theory.specs.declared.presentation.Equation.TheVariants.{Ent as EntEquation, Typ as TypEquation}
use Rattle.cq_theory.specs.declared.schema.PathEq.{PathEq}
use Rattle.cq_theory.specs.SchemaData.{SchemaData as Schema}
use Rattle.cq_theory.specs.Schema.{IsSchema}
use Rattle.cq_theory.specs.Presentation.{IsPresentation}
use Rattle.cq_theory.specs.declared.term.EntTerm.{EntTerm}
use Rattle.cq_theory.specs.declared.term.Term.{Term}
use Rattle.cq_theory.specs.declared.term.Term.TheVariants.{Ent, Typ}
use Rattle.cq_theory.specs.EntTerm.{extended}
use Rattle.cq_theory.specs.Sorts.{followed, target_of, entity_at, entity_of}
use Rattle.cq_theory.specs.Derivation.{Derivation, reflexivity, symmetry, transitivity, key, attribute, function, given, path_equation, observation, IsWithin, Concludes, Derives, left_of, right_of}
use Rattle.cq_theory.proofs.Bounded.{term_depth-within}
use Rattle.cq_theory.proofs.Closings.{entity_of-extended}
use Rattle.cq_check.proofs.Typed.{entity_sorted}

some_of : (o : Option ℕ) → IsSome o → (a : ℕ) × (o ≡ Some a)
some_of None h = cc
some_of (Some a) h = (a, refl)

-- keys lead as they do whatever the generators are
no_generators : Presentation
no_generators = record { generators = []; equations = [] }

-- where all cells are filled, each path of the schema leads to some row
module _ (S : Schema) (m : Content) (whole : IsWhole m) (keys : keys_of m ≡ map ends_of S.keys) where
  pub path_ends : (path : List ℕ) (e target : ℕ) → target_of S.keys path e ≡ Some target → end_of (keys_of m) e path ≡ Some target
  path_ends path e target leads = ap (λ ks. end_of ks e path) keys ∙ end_same S no_generators path e ∙ leads

  module _ (filled : AllFilled m) where
    path_leads : (path : List ℕ) (r target : ℕ) → live_of m r ≡ true → target_of S.keys path (row_entity m r) ≡ Some target → IsSome (trace_of m r path)
    path_leads [] r target live leads = refl
    path_leads (k ∷ path) r target live leads =
        option_and_then_some (target_of S.keys path) (followed (slice_get S.keys k) (row_entity m r)) target leads (λ middle first rest.
        let step : step_of (keys_of m) (row_entity m r) k ≡ Some middle = ap (λ ks. step_of ks (row_entity m r) k) keys ∙ step_same S no_generators (row_entity m r) k ∙ first in
        let cell : (s : ℕ) × (cell_of m r k ≡ Some s) = some_of (cell_of m r k) (filled r k middle live step) in
        let held : IsHeld m r k cell.0 = whole.held r k cell.0 live cell.1 in
        let entity : row_entity m cell.0 ≡ middle = same_Some _ _ (sym held.step ∙ step) in
        let further : IsSome (trace_of m cell.0 path) = path_leads path cell.0 target held.live (ap (target_of S.keys path) entity ∙ rest) in
        subst (λ (o : Option ℕ). IsSome (option_and_then (λ s. trace_of m s path) o)) (sym cell.1) further)

module _ (S : Schema) (P : Presentation) (m : Content) (rows : List ℕ) (frame : IsFrame S P m rows) where
  -- the row of a generator, from which the path of a term leads
  pub record Starts (t : EntTerm) (e : ℕ) : Type 0 where
    pub start : ℕ
    pub found : entity_at (slice_get P.generators t.generator) ≡ Some start
    pub live : live_of m (slice_index rows t.generator) ≡ true
    pub entity : row_entity m (slice_index rows t.generator) ≡ start
    pub leads : target_of S.keys t.path (row_entity m (slice_index rows t.generator)) ≡ Some e

  pub starts : (t : EntTerm) (e : ℕ) → entity_of S P.generators t ≡ Some e → Starts t e
  starts t e h = option_and_then_some (target_of S.keys t.path) (entity_at (slice_get P.generators t.generator)) e h (λ start first rest.
      let row = frame.entries.entity t.generator start first in
      record { start = start; found = first; live = row.0; entity = row.1; leads = ap (target_of S.keys t.path) row.1 ∙ rest })

  -- the row of a term is live and of its entity
  pub row_leads : (t : EntTerm) (e r : ℕ) → entity_of S P.generators t ≡ Some e → row_of_term m rows t ≡ Some r → (live_of m r ≡ true) × (row_entity m r ≡ e)
  row_leads t e r h traced =
      let s = starts t e h in
      let led = trace_leads m (slice_index rows t.generator) r t.path frame.whole s.live traced in
      (led.live, same_Some _ _ (sym led.end ∙ path_ends S m frame.whole frame.keys t.path (row_entity m (slice_index rows t.generator)) e s.leads))

  -- where all cells are filled, each term leads to a row
  pub filled_traced : AllFilled m → AllTracedWithin S P m rows None
  filled_traced filled t e h w = let s = starts t e h in path_leads S m frame.whole frame.keys filled t.path (slice_index rows t.generator) e s.live s.leads

  pub row_along : (t : EntTerm) (path : List ℕ) → row_of_term m rows (extended t path) ≡ option_and_then (λ a. trace_of m a path) (row_of_term m rows t)
  row_along t path = trace-append m (slice_index rows t.generator) t.path path

  module _ (schema : IsSchema S) (presentation : IsPresentation S P) (bound : Option ℕ) (traced : AllTracedWithin S P m rows bound) where
    pub traced_row : (t : EntTerm) (e : ℕ) → entity_of S P.generators t ≡ Some e → IsWithin bound (Ent t) → (r : ℕ) × (row_of_term m rows t ≡ Some r)
    traced_row t e h within = some_of (row_of_term m rows t) (traced t e h within)

    abbrev means_row : Term → Option ℕ
    means_row (Ent t) = row_of_term m rows t
    means_row (Typ t) = None

    abbrev IsOneRow : Term → Term → Type 0
    IsOneRow t u = means_row t ≡ means_row u

    from_equation : (t u t' u' : Term) → t ≡ t' → u ≡ u' → IsOneRow t' u' → IsOneRow t u
    from_equation t u t' u' e f h = ap means_row e ∙ h ∙ sym (ap means_row f)

    given_row : (n : ℕ) (e : Equation) → slice_get P.equations n ≡ Some e → IsWithin bound (left_of e) → IsWithin bound (right_of e) → IsOneRow (left_of e) (right_of e)
    given_row n (EntEquation t u) found left right =
        let sides = presentation.equations n (EntEquation t u) found in
        let d = entity_sorted (entity_of S P.generators t) sides.sort sides.left in
        let e = entity_sorted (entity_of S P.generators u) sides.sort sides.right in
        let a = traced_row t d.0 d.1 left in
        let b = traced_row u e.0 e.1 right in
        a.1 ∙ ap (λ r. Some r) (frame.equations n t u found a.0 b.0 a.1 b.1) ∙ sym b.1
    given_row n (TypEquation t u) found left right = refl

    path_row : (n : ℕ) (at : EntTerm) (e : PathEq) → slice_get S.path_eqs n ≡ Some e → entity_of S P.generators at ≡ Some e.entity → IsWithin bound (Ent at)
        → IsWithin bound (Ent (extended at e.left)) → IsWithin bound (Ent (extended at e.right)) → IsOneRow (Ent (extended at e.left)) (Ent (extended at e.right))
    path_row n at e found of_entity within left right =
        let sides = schema.path_eqs n e found in
        let x = traced_row at e.entity of_entity within in
        let led = row_leads at e.entity x.0 of_entity x.1 in
        let a = traced_row (extended at e.left) sides.target (entity_of-extended S P at e.left ∙ ap (option_and_then (target_of S.keys e.left)) of_entity ∙ sides.left) left in
        let b = traced_row (extended at e.right) sides.target (entity_of-extended S P at e.right ∙ ap (option_and_then (target_of S.keys e.right)) of_entity ∙ sides.right) right in
        let from_left : trace_of m x.0 e.left ≡ Some a.0 = sym (ap (option_and_then (λ r. trace_of m r e.left)) x.1) ∙ sym (row_along at e.left) ∙ a.1 in
        let from_right : trace_of m x.0 e.right ≡ Some b.0 = sym (ap (option_and_then (λ r. trace_of m r e.right)) x.1) ∙ sym (row_along at e.right) ∙ b.1 in
        a.1 ∙ ap (λ r. Some r) (frame.paths x.0 n e led.0 found led.1 a.0 b.0 from_left from_right) ∙ sym b.1

    one_row : (d : Derivation) (t u : Term) → Concludes S P bound d t u → IsOneRow t u
    one_row (reflexivity s) t u h = from_equation t u s s h.2 h.3 refl
    one_row (symmetry d) t u h = sym (one_row d u t h)
    one_row (transitivity d e) t u h = one_row d t h.0 h.1 ∙ one_row e h.0 u h.2
    one_row (key k d) t u h =
        from_equation t u _ _ h.3 h.4
        (row_along h.0 (k ∷ []) ∙ ap (option_and_then (λ r. trace_of m r (k ∷ []))) (one_row d (Ent h.0) (Ent h.1) h.2) ∙ sym (row_along h.1 (k ∷ [])))
    one_row (attribute n d) t u h = from_equation t u _ _ h.3 h.4 refl
    one_row (function f ds) t u h = from_equation t u _ _ h.3 h.4 refl
    one_row (given n) t u h =
        from_equation t u _ _ h.2 h.3 (given_row n h.0 h.1 (subst (λ (x : Term). IsWithin bound x) h.2 h.4) (subst (λ (x : Term). IsWithin bound x) h.3 h.5))
    one_row (path_equation n at) t u h =
        from_equation t u _ _ h.4 h.5
        (path_row n at h.0 h.1 h.2 h.3 (subst (λ (x : Term). IsWithin bound x) h.4 h.6) (subst (λ (x : Term). IsWithin bound x) h.5 h.7))
    one_row (observation n at) t u h = from_equation t u _ _ h.4 h.5 refl

    -- derivably equal entity terms lead to one row
    pub derived_row : (d : Derivation) (t u : EntTerm) → Concludes S P bound d (Ent t) (Ent u) → row_of_term m rows t ≡ row_of_term m rows u
    derived_row d t u h = one_row d (Ent t) (Ent u) h

  -- both sides of an equation of a derivation are within the bound
  pub both_within : (bound : Option ℕ) (d : Derivation) (t u : Term) → Concludes S P bound d t u → IsWithin bound t × IsWithin bound u
  both_within None d t u h = (tt, tt)
  both_within (Some k) d t u h = term_depth-within S P k t u (d, h)

  -- terms of one row are derivably equal
  pub equal_rows : (t u : EntTerm) (d e : ℕ) → entity_of S P.generators t ≡ Some d → entity_of S P.generators u ≡ Some e → AreOneRow m rows t u → Derives S P (Ent t) (Ent u)
  equal_rows t u d e h h' one = frame.sound t u d e one.0 h h' one.1 one.2

  -- and terms of two rows, or of none, are not derivably equal within a bound up to which all terms lead to rows
  pub apart_rows : IsSchema S → IsPresentation S P → (t u : EntTerm) (d e : ℕ) → entity_of S P.generators t ≡ Some d → entity_of S P.generators u ≡ Some e → (AreOneRow m rows t u → ⊥)
      → IsApart S P m rows (Ent t) (Ent u)
  apart_rows schema presentation t u d e h h' apart bound traced derivation concludes =
      let within = both_within bound derivation (Ent t) (Ent u) concludes in
      let a = traced_row schema presentation bound traced t d h within.0 in
      apart (a.0, a.1, sym (derived_row schema presentation bound traced derivation t u concludes) ∙ a.1)
