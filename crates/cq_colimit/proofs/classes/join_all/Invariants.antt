use Rattle.std.proofs.Common.{ℕ, ◌≡◌, length, drop}
use Rattle.cq_colimit.specs.Classes.{with_links, first_of}
use Rattle.cq_colimit.specs.Forest.{IsDown, IsForest}
use Rattle.cq_colimit.proofs.classes.join_all.Given as goal

abbrev pub invariant-loop-link : goal.invariant-loop-link
invariant-loop-link l =
    (length l.parents ≡ length l.initial.parents) × IsDown l.parents
    × ((first : ℕ → ℕ) × (with_links first (drop l.link-index l.links) ≡ first_of l.links) × IsForest first l.parents)
