-- Terms over generators that stand for rows and values of tables.
use Rattle.std.specs.Prelude.{ℕ, List, ◌≡◌, ◌<◌, Some, length, slice_get, slice_index_or}
use Rattle.cq_base.specs.declared.name.Name.{Name}
use Rattle.cq_theory.specs.declared.presentation.Sort.{Sort}
use Rattle.cq_theory.specs.declared.term.EntTerm.{EntTerm}
use Rattle.cq_theory.specs.declared.term.TypeTerm.{TypeTerm}
use Rattle.cq_theory.specs.SchemaData.{SchemaData as Schema}
use Rattle.cq_theory.specs.Sorts.{Generators, target_of, entity_of, type_of}
use Rattle.cq_theory.specs.Tables.{Tables, Assignment, AtRow, count_of, HasSort}

module _ (S : Schema) (M : Tables) where
  -- the path leads from an entity of the row to the target
  pub record IsOnWay (path : List ℕ) (row target : ℕ) : Type 0 where
    pub entity : ℕ
    pub within : row < count_of M entity
    pub leads : target_of S.keys path entity ≡ Some target

  -- what the generators stand for is of their sorts
  pub record AreStandings (G : Generators) (A : Assignment) : Type 0 where
    pub count : length A ≡ length G
    pub sorts : (n : ℕ) (g : Name × Sort) → slice_get G n ≡ Some g → HasSort S M g.1 (slice_index_or A n (AtRow 0))

  module _ (A : Assignment) where
    -- a term of an entity over generators that stand for these
    pub record IsEntTermOf (t : EntTerm) (entity : ℕ) : Type 0 where
      pub generators : Generators
      pub standings : AreStandings generators A
      pub of_entity : entity_of S generators t ≡ Some entity

    -- a term of a type over generators that stand for these
    pub record IsTypeTermOf (t : TypeTerm) (type : ℕ) : Type 0 where
      pub generators : Generators
      pub standings : AreStandings generators A
      pub typed : type_of S generators t ≡ Some type
