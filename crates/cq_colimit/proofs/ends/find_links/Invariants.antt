use Rattle.std.proofs.Common.{◌≡◌, ◌<◌, ◌+◌, drop, take, map}
use Rattle.std.specs.Prelude.{All}
use Rattle.cq_colimit.specs.Ends.{link_of, pairs_fault}
use Rattle.cq_colimit.proofs.ends.find_links.Given as goal

abbrev pub invariant-loop-pair : goal.invariant-loop-pair
invariant-loop-pair l =
    (l.part ≡ l.first + l.pair-index)
    × (l.links.items ≡ map (link_of l.parts) (take l.pair-index l.pairs))
    × All (λ link. (link.0 < l.entities) × (link.1 < l.entities)) l.links.items
    × (pairs_fault l.parts l.part (drop l.pair-index l.pairs) ≡ pairs_fault l.parts l.first l.pairs)
