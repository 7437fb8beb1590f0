use Rattle.std.proofs.Common.{◌≡◌, ◌+◌, ◌<◌, ◌≤◌, ℕ, length, get_or}
use Rattle.std.specs.Prelude.{MatchOption}
use Rattle.cq_base.specs.declared.name.Name.{Name}
use Rattle.cq_near.specs.Nearest.{edits, most_edits}
use Rattle.cq_near.proofs.Finding.{IsFound}
use Rattle.cq_near.proofs.choice.nearest.Given as goal

abbrev pub invariant-loop-number : goal.invariant-loop-number
invariant-loop-number l =
    MatchOption l.found (l.least ≡ most_edits l.name + 1) (IsFound l.name l.names l.number l.least)
    × ((k : ℕ) (d : Name) → k < l.number → l.least ≤ edits l.name (get_or l.names k d))
