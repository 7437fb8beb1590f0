-- What is told where rows become too many.
use Rattle.std.proofs.Common.{ℕ, Option, Some, None, ◌≡◌, ◌<◌, ◌+◌, sym, subst, arith}
use Rattle.cq_rows.specs.Saturated.{IsSaturated, SomeWide}
use Rattle.cq_rows.specs.declared.grow.Partial.{Partial}
use Rattle.cq_theory.specs.declared.presentation.Presentation.{Presentation}
use Rattle.cq_theory.specs.SchemaData.{SchemaData as Schema}
use Rattle.cq_growth.specs.Limits.{TellsGrowth, IsSoFar, growth_of}
use Rattle.cq_growth.specs.declared.limits.Within.{Within}
use Rattle.cq_growth.specs.declared.limits.Growth.TheVariants.{Later}

module _ (S : Schema) (P : Presentation) (depth : ℕ) where
  pub tells_passed : (stage : ℕ) (last : Option Within) → stage < depth + 1 → IsSoFar S P stage last → SomeWide S P stage → TellsGrowth S P depth (growth_of last)
  tells_passed stage None less first wide = subst (SomeWide S P) first wide
  tells_passed stage (Some within) less so_far wide = record {
    before = omega (arith, so_far.0, less);
    rows = so_far.1;
    wide = subst (SomeWide S P) (sym so_far.0) wide;
  }

  pub tells_kept : (stage : ℕ) (last : Option Within) → stage ≡ depth + 1 → IsSoFar S P stage last → (p : Partial) × IsSaturated S P depth p
  tells_kept stage None end first = absurd (omega (arith, end, first))
  tells_kept stage (Some within) end so_far =
      let same : within.depth ≡ depth = omega (arith, end, so_far.0) in
      (within.rows, subst (λ n. IsSaturated S P n within.rows) same so_far.1)

  pub tells_later : (stage : ℕ) (within : Within) → stage < depth + 1 → IsSoFar S P stage (Some within) → SomeWide S P depth → TellsGrowth S P depth (Later within)
  tells_later stage within less so_far wide = record { before = omega (arith, so_far.0, less); rows = so_far.1; wide = wide }
