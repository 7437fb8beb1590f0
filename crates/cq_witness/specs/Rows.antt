-- What is told of rows that are too many.
use Rattle.std.specs.Prelude.{ℕ, List, ◌++◌, ◌≡◌, ◌+◌, length, decimal, slice_get}
use Rattle.cq_growth.specs.Counts.{IsMost}
use Rattle.cq_growth.specs.Limits.{IsBeforeWide, IsLastWithin}
use Rattle.cq_growth.specs.declared.counts.Most.{Most}
use Rattle.cq_growth.specs.declared.limits.Within.{Within}
use Rattle.cq_rows.specs.declared.grow.Partial.{Partial}
use Rattle.cq_rows.specs.Saturated.{IsSaturated, SomeWide}
use Rattle.cq_text.specs.Transcript.{name_or_empty}
use Rattle.cq_theory.specs.declared.presentation.Presentation.{Presentation}
use Rattle.cq_theory.specs.SchemaData.{SchemaData as Schema}
use Rattle.cq_witness.specs.Phrases.{words}
use Rattle.cq_witness.specs.declared.phrases.Phrase.TheVariants as phrase

module _ (S : Schema) where
  abbrev pub entity_text : ℕ → List ℕ
  entity_text entity = name_or_empty (slice_get S.entities entity)

  -- how many rows the entity has
  abbrev pub count_text : Most → List ℕ
  count_text most = decimal most.count ++ words phrase.RowsOf ++ entity_text most.entity

  -- the rows of the entity that has most at a depth
  abbrev pub most_text : ℕ → Most → List ℕ
  most_text depth most = words phrase.OfDepth ++ decimal depth ++ words phrase.ThereAre ++ count_text most ++ words phrase.NoneMore

  -- that there are too many at a depth, and what there is to mend
  abbrev pub wide_text : ℕ → Most → List ℕ
  wide_text depth most = words phrase.WithDepth ++ decimal depth ++ words phrase.TooMany ++ entity_text most.entity ++ words phrase.Split

  -- the rows of the entity that has most at a depth, and that there are too many at another; nothing, where there are no entities
  pub data TellsWithin (within : Within) (wide : ℕ) (old new : List ℕ) : Type 0 where
    most : (most : Most) → IsMost within.rows.tables (length S.entities) most
        → new ≡ old ++ (most_text within.depth most ++ wide_text wide most) → TellsWithin within wide old new
    empty : length S.entities ≡ 0 → new ≡ old → TellsWithin within wide old new

-- The last depth at which the rows are not too many is told, with the entity that has most of them there; or one before a depth at which
-- they are; and nothing where they are at no depth too many, or there are no entities.
pub data TellsRows (S : Schema) (P : Presentation) (depth : ℕ) (old new : List ℕ) : Type 0 where
  passed : (within : Within) → IsLastWithin S P depth within → TellsWithin S within (within.depth + 1) old new → TellsRows S P depth old new
  later : (within : Within) → IsBeforeWide S P depth within → TellsWithin S within depth old new → TellsRows S P depth old new
  at_once : SomeWide S P 0 → new ≡ old ++ words phrase.AtOnce → TellsRows S P depth old new
  kept : (p : Partial) → IsSaturated S P depth p → new ≡ old → TellsRows S P depth old new
