-- A well-sorted schema and a presentation over it, as what speaks of entity terms.
use Rattle.std.proofs.Common.{◌≡◌, ℕ, ◌<◌, List, length, map, Some, All, sym, ◌∙◌, ap}
use Rattle.std.proofs.lemmas.List.{length-map}
use Rattle.std.proofs.lemmas.List.Elements.{All-get_or, All-map}
use Rattle.std.proofs.lemmas.Option.{none-some, same_Some, slice_get-map, slice_get_within, get_or_from_slice_get}
use Rattle.std.specs.Prelude.{slice_get}
use Rattle.cq_base.specs.declared.name.Name.{Name}
use Rattle.cq_tables.specs.Content.{step_of}
use Rattle.cq_theory.specs.declared.presentation.Sort.{Sort}
use Rattle.cq_theory.specs.declared.presentation.Sort.TheVariants.{Plain, Entity}
use Rattle.cq_theory.specs.declared.presentation.Equation.TheVariants.{Ent as EntEquation}
use Rattle.cq_theory.specs.declared.presentation.Presentation.{Presentation}
use Rattle.cq_theory.specs.declared.schema.Edge.{Edge}
use Rattle.cq_theory.specs.SchemaData.{SchemaData}
use Rattle.cq_theory.specs.declared.term.EntTerm.{EntTerm}
use Rattle.cq_theory.specs.Schema.{IsSchema, IsPathEq}
use Rattle.cq_theory.specs.Presentation.{IsPresentation, IsSort, IsEquation as IsSorted}
use Rattle.cq_theory.specs.Sorts.{entity_of}
use Rattle.cq_rows.specs.Theory.{Rule, IsTheory, IsRule, IsEquation}
use Rattle.cq_rows.specs.Plain.{theory_of, ends_of, generator_entity, entity_in}
use Rattle.cq_rows.proofs.Bridge.{has_key, step_same, end_same, sort_same, given_is, map_some}

-- an element of a list of which all elements have a property
all_at : {X : Type 0} (Q : X → Type 0) (xs : List X) (i : ℕ) (x : X) → All Q xs → slice_get xs i ≡ Some x → Q x
all_at Q xs i x all f = rw (get_or_from_slice_get xs i x x f) at (All-get_or Q xs i x (slice_get_within xs i x f) all)

entity_sort : (y : Sort) (e : ℕ) → entity_in y ≡ Some e → y ≡ Entity e
entity_sort (Plain n) e h = absurd (none-some e h)
entity_sort (Entity n) e h = ap Entity (same_Some n e h)

same_entity : (d e : ℕ) → Entity d ≡ Entity e → d ≡ e
same_entity d e h = cc

-- the ends of each key are entities
pub ends_in : (S : SchemaData) → IsSchema S → All (λ (k : ℕ × ℕ). (k.0 < length S.entities) × (k.1 < length S.entities)) (map ends_of S.keys)
ends_in S wS = All-map (λ (k : ℕ × ℕ). (k.0 < length S.entities) × (k.1 < length S.entities)) ends_of S.keys wS.keys

module _ (S : SchemaData) (P : Presentation) (wS : IsSchema S) (wP : IsPresentation S P) where
  keys_in : (k e d : ℕ) → step_of (map ends_of S.keys) e k ≡ Some d → (e < length S.entities) × (d < length S.entities)
  keys_in k e d h =
      let edge = has_key (slice_get S.keys k) e d (sym (step_same S P e k) ∙ h) in
      let both = all_at (λ (x : Edge). (x.from < length S.entities) × (x.to < length S.entities)) S.keys k edge.0 wS.keys edge.1 in
      (rw (← edge.2) both.0, rw (← edge.3) both.1)

  rules_in : (i : ℕ) (r : Rule) → slice_get S.path_eqs i ≡ Some r → IsRule (theory_of S P) r
  rules_in i r f =
      let e : IsPathEq S r = wS.path_eqs i r f in
      record { target = e.target; left = end_same S P r.left r.entity ∙ e.left; right = end_same S P r.right r.entity ∙ e.right }

  generators_in : (g e : ℕ) → slice_get (map generator_entity P.generators) g ≡ Some (Some e) → e < length S.entities
  generators_in g e f =
      let m = map_some generator_entity (slice_get P.generators g) (Some e) (sym (slice_get-map generator_entity P.generators g) ∙ f) in
      let x : Name × Sort = m.0 in
      let sort = all_at (λ (y : Name × Sort). IsSort S y.1) P.generators g x wP.generators m.1 in
      rw (entity_sort x.1 e m.2) at sort

  given_in : (i : ℕ) (t u : EntTerm) → slice_get (theory_of S P).given i ≡ Some (Some (t, u)) → IsEquation (theory_of S P) t u
  given_in i t u f =
      let e : IsSorted S P (EntEquation t u) = wP.equations i (EntEquation t u) (given_is S P i t u f) in
      let l = map_some Entity (entity_of S P.generators t) e.sort e.left in
      let r = map_some Entity (entity_of S P.generators u) e.sort e.right in
      record {
        target = l.0;
        left = sort_same S P t ∙ l.1;
        right = sort_same S P u ∙ r.1 ∙ ap (λ x. Some x) (same_entity r.0 l.0 (r.2 ∙ sym l.2));
      }

  pub theory_is : IsTheory (theory_of S P)
  theory_is = record {
    few = rw length-map wS.key_numbers;
    keys = keys_in;
    rules = rules_in;
    generators = generators_in;
    given = given_in;
  }
