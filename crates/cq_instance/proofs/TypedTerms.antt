-- Type terms layer by layer, and what their types say of them.
use Rattle.std.proofs.Common.{ℕ, true, List, [], ◌∷◌, Option, Some, None, ◌≡◌, ◌<◌, map, length, refl, sym, ap, subst, ◌∙◌}
use Rattle.std.specs.Prelude.{slice_get, option_and_then, option_map, All}
use Rattle.std.proofs.lemmas.Option.{option_and_then_some}
use Rattle.cq_base.specs.declared.name.Name.{Name}
use Rattle.cq_theory.proofs.Constants.{constant_type-within}
use Rattle.cq_theory.specs.declared.constant.Con.{Con}
use Rattle.cq_theory.specs.declared.presentation.Presentation.{Presentation}
use Rattle.cq_theory.specs.declared.presentation.Sort.{Sort}
use Rattle.cq_theory.specs.declared.presentation.Sort.TheVariants.{Plain, Entity}
use Rattle.cq_theory.specs.declared.schema.Edge.{Edge}
use Rattle.cq_theory.specs.declared.typeside.Fun.{Fun as Function}
use Rattle.cq_theory.specs.declared.term.EntTerm.{EntTerm}
use Rattle.cq_theory.specs.declared.term.TypeTerm.{TypeTerm}
use Rattle.cq_theory.specs.declared.term.TypeTerm.TheVariants.{Gen, Const, Att, Fun, rolls-Gen, rolls-Const, rolls-Fun}
use Rattle.cq_theory.specs.declared.term.TypeTerm.TheOpen as layer
use Rattle.cq_theory.specs.declared.term.TypeTerm.TheViews.{out-TypeTerm, out-roll-TypeTerm}
use Rattle.cq_theory.specs.SchemaData.{SchemaData as Schema}
use Rattle.cq_theory.specs.Schema.{IsSchema}
use Rattle.cq_theory.specs.Presentation.{IsSort, IsPresentation}
use Rattle.cq_theory.specs.Sorts.{Generators, followed, entity_at, type_at, entity_of, is_type, have_types, type_of, type_step}
use Rattle.cq_theory.proofs.TypeTerms.{fold-Gen, fold-Const, fold-Att, fold-Fun, on_terms}
use Rattle.cq_theory.proofs.Sound.{followed_some, both, is_type_some, applied_type_some}
use Rattle.cq_instance.proofs.Lists.{All_at}

-- the generator that has an entity
pub entity_at_some : (o : Option (Name × Sort)) (e : ℕ) → entity_at o ≡ Some e → (g : Name × Sort) × (o ≡ Some g) × (g.1 ≡ Entity e)
entity_at_some None e h = cc
entity_at_some (Some g) e h = (g, refl, go g.1 h)
  where
    go : (sort : Sort) → entity_at (Some (g.0, sort)) ≡ Some e → sort ≡ Entity e
    go (Plain n) h = cc
    go (Entity n) h = let same : n ≡ e = cc in ap Entity same

pub out-Gen : (n : ℕ) → out-TypeTerm (Gen n) ≡ layer.Gen n
out-Gen n = ap out-TypeTerm (sym (rolls-Gen n)) ∙ out-roll-TypeTerm (layer.Gen n)

pub out-Const : (c : Con) → out-TypeTerm (Const c) ≡ layer.Const c
out-Const c = ap out-TypeTerm (sym (rolls-Const c)) ∙ out-roll-TypeTerm (layer.Const c)

pub out-Fun : (f : ℕ) (ts : List TypeTerm) → out-TypeTerm (Fun f ts) ≡ layer.Fun f ts
out-Fun f ts = ap out-TypeTerm (sym (rolls-Fun f ts)) ∙ out-roll-TypeTerm (layer.Fun f ts)

pub type_at_some : (o : Option (Name × Sort)) (type : ℕ) → type_at o ≡ Some type → (g : Name × Sort) × (o ≡ Some g) × (g.1 ≡ Plain type)
type_at_some None type h = cc
type_at_some (Some g) type h = (g, refl, go g.1 h)
  where
    go : (sort : Sort) → type_at (Some (g.0, sort)) ≡ Some type → sort ≡ Plain type
    go (Plain n) h = let same : n ≡ type = cc in ap Plain same
    go (Entity n) h = cc

module _ (S : Schema) (G : Generators) where
  abbrev pub IsTyped : TypeTerm → Type 0
  IsTyped t = (type : ℕ) × (type_of S G t ≡ Some type)

  abbrev pub EachTyped : List TypeTerm → Type 0
  EachTyped [] = Unit {0}
  EachTyped (t ∷ ts) = IsTyped t × EachTyped ts

  each_typed : (ts : List TypeTerm) (types : List ℕ) → have_types (map (type_of S G) ts) types ≡ true → EachTyped ts
  each_typed [] types h = tt
  each_typed (t ∷ ts) [] h = cc
  each_typed (t ∷ ts) (type ∷ types) h =
      let parts : (is_type (type_of S G t) type ≡ true) × (have_types (map (type_of S G) ts) types ≡ true) = both _ _ h in
      ((type, is_type_some (type_of S G t) type parts.0), each_typed ts types parts.1)

  -- the function of a typed application
  pub typed_function : (f : ℕ) (ts : List TypeTerm) (type : ℕ) → type_of S G (Fun f ts) ≡ Some type
      → (function : Function) × (slice_get S.typeside.functions f ≡ Some function) × (have_types (map (type_of S G) ts) function.args ≡ true) × (function.result ≡ type)
  typed_function f ts type h = applied_type_some (slice_get S.typeside.functions f) (map (type_of S G) ts) type (sym (fold-Fun (Option ℕ) (type_step S G) f ts) ∙ h)

  pub args_typed : (f : ℕ) (ts : List TypeTerm) (type : ℕ) → type_of S G (Fun f ts) ≡ Some type → EachTyped ts
  args_typed f ts type h = let found = typed_function f ts type h in each_typed ts found.0.args found.2

  -- the attribute of a typed cell, and the entity of its term
  pub record IsTypedCell (a : ℕ) (t : EntTerm) (type : ℕ) : Type 0 where
    pub edge : Edge
    pub known : slice_get S.attributes a ≡ Some edge
    pub of_entity : entity_of S G t ≡ Some edge.from
    pub to : edge.to ≡ type

  pub typed_cell : (a : ℕ) (t : EntTerm) (type : ℕ) → type_of S G (Att a t) ≡ Some type → IsTypedCell a t type
  typed_cell a t type h =
      let looked_up : option_and_then (followed (slice_get S.attributes a)) (entity_of S G t) ≡ Some type = sym (fold-Att (Option ℕ) (type_step S G) a t) ∙ h in
      option_and_then_some (followed (slice_get S.attributes a)) (entity_of S G t) type looked_up (λ e of_entity leads.
      let edge = followed_some (slice_get S.attributes a) e type leads in
      record { edge = edge.0; known = edge.1; of_entity = of_entity ∙ ap (λ n. Some n) (sym edge.2); to = edge.3 })

  pub typed_generator : (n type : ℕ) → type_of S G (Gen n) ≡ Some type → type_at (slice_get G n) ≡ Some type
  typed_generator n type h = sym (fold-Gen (Option ℕ) (type_step S G) n) ∙ h

module _ (S : Schema) (P : Presentation) (schema : IsSchema S) (presentation : IsPresentation S P) where
  option_map_some : {X Y : Type 0} (f : X → Y) (o : Option X) (y : Y) → option_map f o ≡ Some y → (x : X) × (o ≡ Some x) × (f x ≡ y)
  option_map_some f None y h = cc
  option_map_some f (Some x) y h = (x, refl, cc)

  -- the type of a term is one of the typeside
  pub type_within : (t : TypeTerm) (type : ℕ) → type_of S P.generators t ≡ Some type → type < length S.typeside.types
  type_within = on_terms (λ t. (type : ℕ) → type_of S P.generators t ≡ Some type → type < length S.typeside.types)
      (λ n type h.
      let g = type_at_some (slice_get P.generators n) type (typed_generator S P.generators n type h) in
      subst (IsSort S) g.2 (All_at (λ (g : Name × Sort). IsSort S g.1) P.generators n g.0 presentation.generators g.1))
      (λ c type h.
      constant_type-within S.typeside schema.typeside c type (sym (fold-Const (Option ℕ) (type_step S P.generators) c) ∙ h))
      (λ a t type h.
      let cell = typed_cell S P.generators a t type h in
      subst (λ type. type < length S.typeside.types) cell.to
      (All_at (λ (edge : Edge). (edge.from < length S.entities) × (edge.to < length S.typeside.types)) S.attributes a cell.edge schema.attributes cell.known).1)
      (λ f ts each type h.
      let found = typed_function S P.generators f ts type h in
      subst (λ type. type < length S.typeside.types) found.3
      (All_at (λ (function : Function). All (λ type. type < length S.typeside.types) function.args × (function.result < length S.typeside.types)) S.typeside.functions f found.0
      schema.typeside.functions found.1).1)
