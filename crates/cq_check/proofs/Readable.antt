-- Which terms can be read over rows.
use Rattle.std.proofs.Common.{ℕ, zero, suc, true, List, [], ◌∷◌, Option, Some, None, ◌≡◌, ◌<◌, ◌≤◌, ◌+◌, map, length, refl, sym, ap, subst, ◌∙◌, arith}
use Rattle.std.specs.Prelude.{slice_get, slice_index, IsSome}
use Rattle.std.proofs.lemmas.Option.{option_and_then_some, slice_get_within}
use Rattle.cq_tables.specs.Content.{Content, live_of, made_of, keys_of, end_of, IsWhole}
use Rattle.cq_tables.specs.Content.{entity_of as row_entity}
use Rattle.cq_rows.specs.Plain.{ends_of}
use Rattle.cq_check.specs.Frame.{IsFrame}
use Rattle.cq_check.specs.Reading.{AreReadable, IsReadable, IsReadablePath}
use Rattle.cq_check.proofs.Rows.{path_ends}
use Rattle.cq_check.proofs.Typed.{no_type_variable, first_variable, args_typed, typed_at, typed_cell, typed_generator}
use Rattle.cq_theory.specs.declared.presentation.Presentation.{Presentation}
use Rattle.cq_theory.specs.SchemaData.{SchemaData as Schema}
use Rattle.cq_theory.specs.Schema.{one_of}
use Rattle.cq_theory.specs.declared.term.EntTerm.{EntTerm}
use Rattle.cq_theory.specs.declared.term.TypeTerm.{TypeTerm}
use Rattle.cq_theory.specs.declared.term.TypeTerm.TheVariants.{Gen, Att, Fun}
use Rattle.cq_theory.specs.Sorts.{Generators, target_of, entity_at, type_at, type_of}

-- what a look-up in a list finds is within it
found_within : {X : Type 0} (f : Option X → Option ℕ) → f None ≡ None → (xs : List X) (n e : ℕ) → f (slice_get xs n) ≡ Some e → n < length xs
found_within f nothing xs n e h = go (slice_get xs n) refl
  where
    go : (o : Option _) → slice_get xs n ≡ o → n < length xs
    go None is = let wrong : None ≡ Some e = sym nothing ∙ ap f (sym is) ∙ h in cc
    go (Some x) is = slice_get_within xs n x is

variable_entity : (e n start : ℕ) → entity_at (slice_get (one_of e) n) ≡ Some start → e ≡ start
variable_entity e zero start h = cc
variable_entity e (suc n) start h = cc

-- terms over a presentation of which the rows were made
pub frame_readable : (S : Schema) (P : Presentation) (m : Content) (entries : List ℕ) (count : ℕ) → IsFrame S P m entries → made_of m + length P.generators ≤ count → AreReadable m entries count S P.generators
frame_readable S P m entries count frame enough = record {
  whole = frame.whole;
  keys = frame.keys;
  nodes = omega (arith, enough);
  known = λ g e h. omega (arith, frame.entries.count, found_within entity_at refl P.generators g e h);
  live = λ g e h. (frame.entries.entity g e h).0;
  entity = λ g e h. (frame.entries.entity g e h).1;
  leaf = λ g type h. omega (arith, enough, found_within type_at refl P.generators g type h);
}

-- terms over one variable of a row's entity
pub row_readable : (S : Schema) (m : Content) (row count : ℕ) → IsWhole m → keys_of m ≡ map ends_of S.keys → live_of m row ≡ true → made_of m ≤ count → AreReadable m (row ∷ []) count S (one_of (row_entity m row))
row_readable S m row count whole keys live enough = record {
  whole = whole;
  keys = keys;
  nodes = enough;
  known = λ g e h. let first : g ≡ 0 = first_variable (row_entity m row) g e h in omega (arith, first);
  live = λ g e h. let first : g ≡ 0 = first_variable (row_entity m row) g e h in ap (λ n. live_of m (slice_index (row ∷ []) n)) first ∙ live;
  entity = λ g e h. let first : g ≡ 0 = first_variable (row_entity m row) g e h in ap (λ n. row_entity m (slice_index (row ∷ []) n)) first ∙ variable_entity (row_entity m row) g e h;
  leaf = λ g type h. absurd (no_type_variable (row_entity m row) g type h);
}

pub readable_more : (S : Schema) (G : Generators) (m : Content) (rows : List ℕ) (count more : ℕ) → count ≤ more → AreReadable m rows count S G → AreReadable m rows more S G
readable_more S G m rows count more enough h = record {
  whole = h.whole;
  keys = h.keys;
  nodes = omega (arith, enough, h.nodes);
  known = h.known;
  live = h.live;
  entity = h.entity;
  leaf = λ g type at. omega (arith, enough, h.leaf g type at);
}

module _ (m : Content) (rows : List ℕ) where
  pub IsReadable-more : (count more : ℕ) (t : TypeTerm) → count ≤ more → IsReadable m rows count t → IsReadable m rows more t
  IsReadable-more count more t enough h = record {
    schema = h.schema;
    generators = h.generators;
    readable = readable_more h.schema h.generators m rows count more enough h.readable;
    type = h.type;
    sort = h.sort;
  }

  pub readable_typed : (S : Schema) (G : Generators) (count : ℕ) (t : TypeTerm) (type : ℕ) → AreReadable m rows count S G → type_of S G t ≡ Some type → IsReadable m rows count t
  readable_typed S G count t type h sort = record { schema = S; generators = G; readable = h; type = type; sort = sort }

  pub readable_cell : (count a : ℕ) (u : EntTerm) (t : TypeTerm) → t ≡ Att a u → IsReadable m rows count t → IsReadablePath m rows count u
  readable_cell count a u t is h =
      let cell = typed_cell h.schema h.generators a u h.type (ap (type_of h.schema h.generators) (sym is) ∙ h.sort) in
      record { schema = h.schema; generators = h.generators; readable = h.readable; entity = cell.edge.from; sort = cell.of_entity }

  pub readable_argument : (count f : ℕ) (ts : List TypeTerm) (t : TypeTerm) → t ≡ Fun f ts → IsReadable m rows count t → (i : ℕ) (u : TypeTerm) → slice_get ts i ≡ Some u → IsReadable m rows count u
  readable_argument count f ts t is h i u at =
      let typed = typed_at h.schema h.generators ts (args_typed h.schema h.generators f ts h.type (ap (type_of h.schema h.generators) (sym is) ∙ h.sort)) i u at in
      record { schema = h.schema; generators = h.generators; readable = h.readable; type = typed.0; sort = typed.1 }

  pub readable_leaf : (count n : ℕ) (t : TypeTerm) → t ≡ Gen n → IsReadable m rows count t → made_of m + n < count
  readable_leaf count n t is h = h.readable.leaf n h.type (typed_generator h.schema h.generators n h.type (ap (type_of h.schema h.generators) (sym is) ∙ h.sort))

  -- the row from which a path leads
  pub record IsStart (t : EntTerm) : Type 0 where
    pub known : t.generator < length rows
    pub live : live_of m (slice_index rows t.generator) ≡ true
    pub path : IsSome (end_of (keys_of m) (row_entity m (slice_index rows t.generator)) t.path)

  pub readable_start : (count : ℕ) (t : EntTerm) → IsReadablePath m rows count t → IsStart t
  readable_start count t h =
      option_and_then_some (target_of h.schema.keys t.path) (entity_at (slice_get h.generators t.generator)) h.entity h.sort (λ start first rest.
      let kind : row_entity m (slice_index rows t.generator) ≡ start = h.readable.entity t.generator start first in
      let ends = path_ends h.schema m h.readable.whole h.readable.keys t.path (row_entity m (slice_index rows t.generator)) h.entity (ap (target_of h.schema.keys t.path) kind ∙ rest) in
      record {
        known = h.readable.known t.generator start first;
        live = h.readable.live t.generator start first;
        path = subst (λ (o : Option ℕ). IsSome o) (sym ends) refl;
      })
