-- Columns that are read edge by edge.
use Rattle.std.proofs.Common.{ℕ, List, [], Option, Some, None, ◌≡◌, ◌<◌, ◌==◌, if◌then◌else◌, map, length, get_or, refl, sym, ap, subst, ◌∙◌, eq-eqb}
use Rattle.std.specs.Prelude.{slice_get, option_and_then, All, IsSome}
use Rattle.std.proofs.lemmas.List.{get_or_default}
use Rattle.std.proofs.lemmas.Option.{slice_get-get_or}
use Rattle.cq_rows.specs.Plain.{ends_of}
use Rattle.cq_tables.specs.Content.{step_of}
use Rattle.cq_theory.specs.declared.schema.Edge.{Edge}
use Rattle.cq_names.specs.LeastNames.{rows_at}
use Rattle.cq_instance.proofs.Lists.{get-map, All_from}

module _ (edges : List Edge) (order : List (List ℕ)) (i : ℕ) (edge : Edge) (here : i < length edges) (is : edge ≡ get_or edges i edge) where
  pub edge_found : slice_get edges i ≡ Some edge
  edge_found = slice_get-get_or edges i edge here ∙ ap (λ e. Some e) (sym is)

  -- the rows of the entity from which the edge leads
  pub rows_read : (rows : List ℕ) → All (λ e. e.from < length order) edges → rows ≡ get_or order edge.from rows → rows ≡ rows_at order edge.from
  rows_read rows within read =
      let inside : edge.from < length order = subst (λ (e : Edge). e.from < length order) (sym is) (within i edge here) in
      read ∙ get_or_default order edge.from rows [] inside

  -- the step of a live row of that entity
  pub step_found : (keys : List (ℕ × ℕ)) (e : ℕ) → keys ≡ map ends_of edges → e ≡ edge.from → IsSome (step_of keys e i)
  unfolding step_of
  step_found keys e keys_are of_entity =
      let there : step_of keys e i ≡ Some edge.to =
      ap (λ (l : List (ℕ × ℕ)). step_of l e i) keys_are
      ∙ ap (option_and_then (λ (p : ℕ × ℕ). if p.0 == e then Some p.1 else None)) (get-map ends_of edges i edge edge_found)
      ∙ ap (λ b. if b then Some edge.to else None) (eq-eqb edge.from e (sym of_entity)) in
      let P : Option ℕ → Type 0 = λ o. IsSome o in
      subst P (sym there) refl

-- what holds of each row of an entity
pub All_rows : (P : ℕ → Type 0) (order : List (List ℕ)) (e : ℕ) (rows : List ℕ) → rows ≡ rows_at order e → ((n r : ℕ) → slice_get (rows_at order e) n ≡ Some r → P r) → All P rows
All_rows P order e rows is each = All_from P rows (λ n r at. each n r (ap (λ l. slice_get l n) (sym is) ∙ at))
