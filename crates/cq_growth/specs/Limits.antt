-- Where rows become too many.
use Rattle.std.specs.Prelude.{ℕ, Option, Some, None, ◌+◌, ◌<◌, ◌≡◌}
use Rattle.cq_rows.specs.Saturated.{IsSaturated, SomeWide}
use Rattle.cq_rows.specs.declared.grow.Partial.{Partial}
use Rattle.cq_theory.specs.declared.presentation.Presentation.{Presentation}
use Rattle.cq_theory.specs.SchemaData.{SchemaData as Schema}
use Rattle.cq_growth.specs.declared.limits.Within.{Within}
use Rattle.cq_growth.specs.declared.limits.Growth.{Growth}
use Rattle.cq_growth.specs.declared.limits.Growth.TheVariants.{Kept, Passed, Later, AtOnce}

-- what is told where rows were last not too many
abbrev pub growth_of : Option Within → Growth
growth_of None = AtOnce
growth_of (Some within) = Passed within

-- the rows at a depth, where the next has too many
pub record IsLastWithin (S : Schema) (P : Presentation) (depth : ℕ) (within : Within) : Type 0 where
  pub before : within.depth < depth
  pub rows : IsSaturated S P within.depth within.rows
  pub wide : SomeWide S P (within.depth + 1)

-- the rows at a depth, where those of a later one are too many
pub record IsBeforeWide (S : Schema) (P : Presentation) (depth : ℕ) (within : Within) : Type 0 where
  pub before : within.depth < depth
  pub rows : IsSaturated S P within.depth within.rows
  pub wide : SomeWide S P depth

abbrev pub TellsGrowth : Schema → Presentation → ℕ → Growth → Type 0
TellsGrowth S P depth Kept = (p : Partial) × IsSaturated S P depth p
TellsGrowth S P depth (Passed within) = IsLastWithin S P depth within
TellsGrowth S P depth (Later within) = IsBeforeWide S P depth within
TellsGrowth S P depth AtOnce = SomeWide S P 0

-- what is kept before a stage: nothing, or the rows of the stage before it
abbrev pub IsSoFar : Schema → Presentation → ℕ → Option Within → Type 0
IsSoFar S P stage None = stage ≡ 0
IsSoFar S P stage (Some within) = (within.depth + 1 ≡ stage) × IsSaturated S P within.depth within.rows
