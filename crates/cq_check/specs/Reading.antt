-- Terms that can be read over rows.
use Rattle.std.specs.Prelude.{ℕ, true, List, Some, ◌≡◌, ◌<◌, ◌≤◌, ◌+◌, map, length, slice_get, slice_index}
use Rattle.cq_tables.specs.Content.{Content, live_of, keys_of, made_of, IsWhole}
use Rattle.cq_tables.specs.Content.{entity_of as row_entity}
use Rattle.cq_rows.specs.Plain.{ends_of}
use Rattle.cq_theory.specs.SchemaData.{SchemaData as Schema}
use Rattle.cq_theory.specs.declared.term.EntTerm.{EntTerm}
use Rattle.cq_theory.specs.declared.term.TypeTerm.{TypeTerm}
use Rattle.cq_theory.specs.Sorts.{Generators, entity_at, type_at, entity_of, type_of}

module _ (m : Content) (rows : List ℕ) (count : ℕ) where
  -- `rows` has a live row of its entity for each generator that has one, and each row and each generator of a type has a node among the
  -- first ones
  pub record AreReadable (S : Schema) (G : Generators) : Type 0 where
    pub whole : IsWhole m
    pub keys : keys_of m ≡ map ends_of S.keys
    pub nodes : made_of m ≤ count
    pub known : (g e : ℕ) → entity_at (slice_get G g) ≡ Some e → g < length rows
    pub live : (g e : ℕ) → entity_at (slice_get G g) ≡ Some e → live_of m (slice_index rows g) ≡ true
    pub entity : (g e : ℕ) → entity_at (slice_get G g) ≡ Some e → row_entity m (slice_index rows g) ≡ e
    pub leaf : (g type : ℕ) → type_at (slice_get G g) ≡ Some type → made_of m + g < count

  -- a type term over such generators
  pub record IsReadable (t : TypeTerm) : Type 0 where
    pub schema : Schema
    pub generators : Generators
    pub readable : AreReadable schema generators
    pub type : ℕ
    pub sort : type_of schema generators t ≡ Some type

  -- an entity term over such generators
  pub record IsReadablePath (t : EntTerm) : Type 0 where
    pub schema : Schema
    pub generators : Generators
    pub readable : AreReadable schema generators
    pub entity : ℕ
    pub sort : entity_of schema generators t ≡ Some entity
