-- The nearest of the names so far.
use Rattle.std.proofs.Common.{◌≡◌, ◌<◌, ◌≤◌, ℕ, List, get_or}
use Rattle.cq_base.specs.declared.name.Name.{Name}
use Rattle.cq_near.specs.Nearest.{edits, most_edits}

-- one of the names before a number is so many edits away, and near
pub record IsFound (name : Name) (names : List Name) (before least found : ℕ) : Type 0 where
  pub other : Name
  pub within : found < before
  pub there : other ≡ get_or names found other
  pub is_least : least ≡ edits name other
  pub near : least ≤ most_edits name
