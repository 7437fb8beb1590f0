-- Paths that are followed in well-formed tables.
use Rattle.std.proofs.Common.{ℕ, zero, suc, List, [], ◌∷◌, Option, Some, None, ◌≡◌, ◌<◌, map, length, get_or, IfSome, refl, sym, ap, subst, ◌∙◌, arith}
use Rattle.std.specs.Prelude.{slice_get, slice_index_or, option_map}
use Rattle.std.proofs.lemmas.Option.{slice_get_within, slice_get-get_or, get_or_from_slice_get, option_and_then_some}
use Rattle.cq_theory.specs.declared.presentation.Presentation.{Presentation}
use Rattle.cq_theory.specs.declared.presentation.Sort.{Sort}
use Rattle.cq_theory.specs.declared.presentation.Sort.TheVariants.{Plain, Entity}
use Rattle.cq_theory.specs.declared.schema.Edge.{Edge}
use Rattle.cq_theory.specs.declared.term.EntTerm.{EntTerm}
use Rattle.cq_theory.specs.declared.term.TypeTerm.{TypeTerm}
use Rattle.cq_theory.specs.declared.term.Term.TheVariants.{Ent, Typ}
use Rattle.cq_theory.specs.SchemaData.{SchemaData as Schema}
use Rattle.cq_theory.specs.Sorts.{Generators, followed, target_of, entity_at, entity_of, type_of, IsGround}
use Rattle.cq_theory.specs.Tables.{Tables, Meaning, AtRow, AtValue, Assignment, count_of, key_at, row_in, IsWellFormed, HasSort}
use Rattle.cq_theory.proofs.Sound.{followed_some}
use Rattle.cq_instance.specs.InstanceData.{InstanceData, IsInstance}
use Rattle.cq_instance.specs.Terms.{IsOnWay, AreStandings, IsEntTermOf, IsTypeTermOf}
use Rattle.cq_instance.proofs.Lists.{get-map}
use Rattle.cq_instance.proofs.TypedTerms.{entity_at_some, IsTyped, EachTyped}

option_map_some : {X Y : Type 0} (f : X → Y) (o : Option X) (y : Y) → option_map f o ≡ Some y → (x : X) × (o ≡ Some x) × (f x ≡ y)
option_map_some f None y h = cc
option_map_some f (Some x) y h = (x, refl, cc)

-- a term over the presentation has an entity, or a type
pub ground_entity : (S : Schema) (P : Presentation) (t : EntTerm) → IsGround S P (Ent t) → (e : ℕ) × (entity_of S P.generators t ≡ Some e)
ground_entity S P t ground = let e = option_map_some Entity (entity_of S P.generators t) ground.0 ground.1 in (e.0, e.1)

pub ground_type : (S : Schema) (P : Presentation) (t : TypeTerm) → IsGround S P (Typ t) → IsTyped S P.generators t
ground_type S P t ground = let type = option_map_some Plain (type_of S P.generators t) ground.0 ground.1 in (type.0, type.1)

pub entity_ground : (S : Schema) (P : Presentation) (t : EntTerm) (e : ℕ) → entity_of S P.generators t ≡ Some e → IsGround S P (Ent t)
entity_ground S P t e h = (Entity e, ap (option_map Entity) h)

pub type_ground : (S : Schema) (P : Presentation) (t : TypeTerm) → IsTyped S P.generators t → IsGround S P (Typ t)
type_ground S P t typed = (Plain typed.0, ap (option_map Plain) typed.1)

-- what stands at a place of a mapped list
pub get_or-map : {X Y : Type 0} (f : X → Y) (xs : List X) (n : ℕ) (d : Y) (x : X) → n < length xs → x ≡ get_or xs n x → f x ≡ get_or (map f xs) n d
get_or-map f xs n d x within is = sym (get_or_from_slice_get (map f xs) n (f x) d (get-map f xs n x (slice_get-get_or xs n x within ∙ ap (λ y. Some y) (sym is))))

module _ (S : Schema) (M : Tables) (well_formed : IsWellFormed S M) where
  -- one key further
  pub record IsNext (k row : ℕ) (path : List ℕ) (target : ℕ) : Type 0 where
    pub known : k < length S.keys
    pub of_entity : IfSome (slice_get S.keys k) (λ edge. row < count_of M edge.from)
    pub on_way : IsOnWay S M path (key_at M k row) target

  pub next : (k row target : ℕ) (path : List ℕ) → IsOnWay S M (k ∷ path) row target → IsNext k row path target
  next k row target path h = option_and_then_some (target_of S.keys path) (followed (slice_get S.keys k) h.entity) target h.leads (λ middle first rest.
      let edge = followed_some (slice_get S.keys k) h.entity middle first in
      let within : row < count_of M edge.0.from = subst (λ n. row < count_of M n) (sym edge.2) h.within in
      let column = well_formed.key_columns k edge.0 edge.1 in
      let inside : row < length (slice_index_or M.sheet.keys k []) = subst (λ n. row < n) (sym column.0) within in
      let beyond : key_at M k row < count_of M edge.0.to = column.1 row 0 inside in
      record {
        known = slice_get_within S.keys k edge.0 edge.1;
        of_entity = subst (λ o. IfSome o (λ (edge : Edge). row < count_of M edge.from)) (sym edge.1) within;
        on_way = record { entity = middle; within = subst (λ n. key_at M k row < count_of M n) edge.3 beyond; leads = rest };
      })

row_in-within : (S : Schema) (M : Tables) (m : Meaning) (e : ℕ) → HasSort S M (Entity e) m → row_in m < count_of M e
row_in-within S M (AtRow r) e h = h
row_in-within S M (AtValue v) e h = absurd h

-- The generator of an entity term stands for a row, from which the path leads.
module _ (S : Schema) (M : Tables) (A : Assignment) (t : EntTerm) (e : ℕ) (h : IsEntTermOf S M A t e) where
  pub generator_known : t.generator < length A
  generator_known = option_and_then_some (target_of S.keys t.path) (entity_at (slice_get h.generators t.generator)) e h.of_entity (λ start first rest.
      let g = entity_at_some (slice_get h.generators t.generator) start first in
      omega (arith, slice_get_within h.generators t.generator g.0 g.1, h.standings.count))

  pub begins : IsOnWay S M t.path (row_in (slice_index_or A t.generator (AtRow 0))) e
  begins = option_and_then_some (target_of S.keys t.path) (entity_at (slice_get h.generators t.generator)) e h.of_entity (λ start first rest.
      let g = entity_at_some (slice_get h.generators t.generator) start first in
      let m = slice_index_or A t.generator (AtRow 0) in
      record {
        entity = start;
        within = row_in-within S M m start (subst (λ (sort : Sort). HasSort S M sort m) g.2 (h.standings.sorts t.generator g.0 g.1));
        leads = rest;
      })

-- The generators of an instance's presentation stand for what the instance says.
module _ (i : InstanceData) (is : IsInstance i) where
  standings_are : AreStandings i.schema i.tables i.presentation.generators i.assignment
  standings_are = record { count = is.assigned; sorts = is.sorts }

  pub ent_term_of : (t : EntTerm) (e : ℕ) → entity_of i.schema i.presentation.generators t ≡ Some e → IsEntTermOf i.schema i.tables i.assignment t e
  ent_term_of t e h = record { generators = i.presentation.generators; standings = standings_are; of_entity = h }

  pub type_term_of : (t : TypeTerm) (type : ℕ) → type_of i.schema i.presentation.generators t ≡ Some type → IsTypeTermOf i.schema i.tables i.assignment t type
  type_term_of t type h = record { generators = i.presentation.generators; standings = standings_are; typed = h }

-- each argument has a type
pub typed_at : (S : Schema) (G : Generators) (ts : List TypeTerm) (n : ℕ) (t : TypeTerm) → n < length ts → t ≡ get_or ts n t → EachTyped S G ts → IsTyped S G t
typed_at S G ts n t within is each = go ts n (slice_get-get_or ts n t within ∙ ap (λ u. Some u) (sym is)) each
  where
    go : (us : List TypeTerm) (k : ℕ) → slice_get us k ≡ Some t → EachTyped S G us → IsTyped S G t
    go [] k at each = cc
    go (u ∷ us) zero at each = let same : u ≡ t = cc in subst (IsTyped S G) same each.0
    go (u ∷ us) (suc k) at each = go us k at each.1
