-- What the type of a term says of its parts.
use Rattle.std.proofs.Common.{ℕ, zero, suc, true, List, [], ◌∷◌, Option, Some, None, ◌≡◌, map, refl, sym, ap, ◌∙◌}
use Rattle.std.specs.Prelude.{slice_get, option_and_then, option_map}
use Rattle.std.proofs.lemmas.Option.{option_and_then_some}
use Rattle.cq_theory.specs.declared.presentation.Sort.{Sort}
use Rattle.cq_theory.specs.declared.presentation.Sort.TheVariants.{Plain, Entity}
use Rattle.cq_theory.specs.declared.schema.Edge.{Edge}
use Rattle.cq_theory.specs.declared.term.EntTerm.{EntTerm}
use Rattle.cq_theory.specs.declared.term.TypeTerm.{TypeTerm}
use Rattle.cq_theory.specs.declared.term.TypeTerm.TheVariants.{Gen, Att, Fun}
use Rattle.cq_theory.specs.SchemaData.{SchemaData as Schema}
use Rattle.cq_theory.specs.Schema.{one_of}
use Rattle.cq_theory.specs.Sorts.{Generators, followed, entity_at, type_at, entity_of, is_type, have_types, type_of, type_step}
use Rattle.cq_theory.proofs.TypeTerms.{fold-Gen, fold-Att, fold-Fun}
use Rattle.cq_theory.proofs.Sound.{followed_some, both, is_type_some, applied_type_some}

-- the one variable has no type, and its number is 0
pub no_type_variable : (e n type : ℕ) → type_at (slice_get (one_of e) n) ≡ Some type → ⊥
no_type_variable e zero type h = cc
no_type_variable e (suc n) type h = cc

pub first_variable : (e n start : ℕ) → entity_at (slice_get (one_of e) n) ≡ Some start → n ≡ 0
first_variable e zero start h = refl
first_variable e (suc n) start h = cc

pub entity_sorted : (o : Option ℕ) (sort : Sort) → option_map Entity o ≡ Some sort → (e : ℕ) × (o ≡ Some e)
entity_sorted None sort h = cc
entity_sorted (Some e) sort h = (e, refl)

pub type_sorted : (o : Option ℕ) (sort : Sort) → option_map Plain o ≡ Some sort → (type : ℕ) × (o ≡ Some type)
type_sorted None sort h = cc
type_sorted (Some type) sort h = (type, refl)

-- no sort is that of an entity and of a type
pub not_both : (o p : Option ℕ) (sort : Sort) → option_map Entity o ≡ Some sort → option_map Plain p ≡ Some sort → ⊥
not_both None p sort h h' = cc
not_both (Some e) None sort h h' = cc
not_both (Some e) (Some type) sort h h' = let wrong : Entity e ≡ Plain type = cc in cc

module _ (S : Schema) (G : Generators) where
  abbrev pub IsTyped : TypeTerm → Type 0
  IsTyped t = (type : ℕ) × (type_of S G t ≡ Some type)

  abbrev pub EachTyped : List TypeTerm → Type 0
  EachTyped [] = Unit {0}
  EachTyped (t ∷ ts) = IsTyped t × EachTyped ts

  each_typed : (ts : List TypeTerm) (types : List ℕ) → have_types (map (type_of S G) ts) types ≡ true → EachTyped ts
  each_typed [] types h = tt
  each_typed (t ∷ ts) [] h = cc
  each_typed (t ∷ ts) (type ∷ types) h =
      let parts : (is_type (type_of S G t) type ≡ true) × (have_types (map (type_of S G) ts) types ≡ true) = both _ _ h in
      ((type, is_type_some (type_of S G t) type parts.0), each_typed ts types parts.1)

  pub args_typed : (f : ℕ) (ts : List TypeTerm) (type : ℕ) → type_of S G (Fun f ts) ≡ Some type → EachTyped ts
  args_typed f ts type h =
      let found = applied_type_some (slice_get S.typeside.functions f) (map (type_of S G) ts) type (sym (fold-Fun (Option ℕ) (type_step S G) f ts) ∙ h) in
      each_typed ts found.0.args found.2

  pub typed_at : (ts : List TypeTerm) → EachTyped ts → (i : ℕ) (t : TypeTerm) → slice_get ts i ≡ Some t → IsTyped t
  typed_at [] each i t at = cc
  typed_at (u ∷ us) each zero t at = let same : u ≡ t = cc in (each.0.0, ap (type_of S G) (sym same) ∙ each.0.1)
  typed_at (u ∷ us) each (suc i) t at = typed_at us each.1 i t at

  -- the attribute of a typed cell, and the entity of its term
  pub record IsTypedCell (a : ℕ) (t : EntTerm) : Type 0 where
    pub edge : Edge
    pub known : slice_get S.attributes a ≡ Some edge
    pub of_entity : entity_of S G t ≡ Some edge.from

  pub typed_cell : (a : ℕ) (t : EntTerm) (type : ℕ) → type_of S G (Att a t) ≡ Some type → IsTypedCell a t
  typed_cell a t type h =
      let looked_up : option_and_then (followed (slice_get S.attributes a)) (entity_of S G t) ≡ Some type = sym (fold-Att (Option ℕ) (type_step S G) a t) ∙ h in
      option_and_then_some (followed (slice_get S.attributes a)) (entity_of S G t) type looked_up (λ e of_entity leads.
      let edge = followed_some (slice_get S.attributes a) e type leads in
      record { edge = edge.0; known = edge.1; of_entity = of_entity ∙ ap (λ n. Some n) (sym edge.2) })

  pub typed_generator : (n type : ℕ) → type_of S G (Gen n) ≡ Some type → type_at (slice_get G n) ≡ Some type
  typed_generator n type h = sym (fold-Gen (Option ℕ) (type_step S G) n) ∙ h
