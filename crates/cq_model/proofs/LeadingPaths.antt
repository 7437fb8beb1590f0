-- Where all cells are filled, each path of the schema leads from a live row to a live row.
use Rattle.std.proofs.Common.{ℕ, true, List, [], ◌∷◌, Option, Some, None, ◌≡◌, map, refl, sym, ap, subst, ◌∙◌}
use Rattle.std.specs.Prelude.{slice_get, option_and_then, IsSome}
use Rattle.std.proofs.lemmas.Option.{same_Some, option_and_then_some}
use Rattle.cq_tables.specs.Content.{Content, live_of, trace_of, cell_of, step_of, end_of, keys_of, IsHeld, IsWhole}
use Rattle.cq_tables.specs.Content.{entity_of as row_entity}
use Rattle.cq_rows.specs.Plain.{ends_of}
use Rattle.cq_rows.specs.Rows.{AllFilled}
use Rattle.cq_rows.proofs.Bridge.{step_same, end_same}
use Rattle.cq_theory.specs.declared.presentation.Presentation.{Presentation}
use Rattle.cq_theory.specs.SchemaData.{SchemaData as Schema}
use Rattle.cq_theory.specs.Sorts.{followed, target_of}

filled_cell : (o : Option ℕ) → IsSome o → (s : ℕ) × (o ≡ Some s)
filled_cell None h = cc
filled_cell (Some s) h = (s, refl)

-- keys lead as they do whatever the generators are
no_generators : Presentation
no_generators = record { generators = []; equations = [] }

module _ (S : Schema) (m : Content) (whole : IsWhole m) (keys : keys_of m ≡ map ends_of S.keys) (filled : AllFilled m) where
  -- a key of a live row's entity leads to a live row of its target
  pub key_leads : (k r middle : ℕ) → live_of m r ≡ true → followed (slice_get S.keys k) (row_entity m r) ≡ Some middle
      → (s : ℕ) × (cell_of m r k ≡ Some s) × (live_of m s ≡ true) × (row_entity m s ≡ middle)
  key_leads k r middle live leads =
      let step : step_of (keys_of m) (row_entity m r) k ≡ Some middle = ap (λ ks. step_of ks (row_entity m r) k) keys ∙ step_same S no_generators (row_entity m r) k ∙ leads in
      let cell : (s : ℕ) × (cell_of m r k ≡ Some s) = filled_cell (cell_of m r k) (filled r k middle live step) in
      let held : IsHeld m r k cell.0 = whole.held r k cell.0 live cell.1 in
      (cell.0, cell.1, held.live, same_Some _ _ (sym held.step ∙ step))

  -- so does a path
  pub path_leads : (path : List ℕ) (r target : ℕ) → live_of m r ≡ true → target_of S.keys path (row_entity m r) ≡ Some target
      → (s : ℕ) × (trace_of m r path ≡ Some s) × (live_of m s ≡ true) × (row_entity m s ≡ target)
  path_leads [] r target live leads = (r, refl, live, same_Some _ _ leads)
  path_leads (k ∷ path) r target live leads =
      option_and_then_some (target_of S.keys path) (followed (slice_get S.keys k) (row_entity m r)) target leads (λ middle first rest.
      let cell = key_leads k r middle live first in
      let further = path_leads path cell.0 target cell.2 (ap (target_of S.keys path) cell.3 ∙ rest) in
      (further.0, ap (option_and_then (λ s. trace_of m s path)) cell.1 ∙ further.1, further.2, further.3))

  -- which the tables can follow too
  pub path_ends : (path : List ℕ) (e target : ℕ) → target_of S.keys path e ≡ Some target → IsSome (end_of (keys_of m) e path)
  path_ends path e target leads =
      let ends : end_of (keys_of m) e path ≡ Some target = ap (λ ks. end_of ks e path) keys ∙ end_same S no_generators path e ∙ leads in
      subst (λ (o : Option ℕ). IsSome o) (sym ends) refl
