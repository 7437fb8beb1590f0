use Rattle.std.proofs.Common.{◌≡◌, map, take, length}
use Rattle.cq_theory.specs.Canonical.{below}
use Rattle.cq_blocks.proofs.Blocking.{tests_given}
use Rattle.cq_blocks.proofs.blocks.build_tests.Given as goal

abbrev pub invariant-loop-part : goal.invariant-loop-part
invariant-loop-part l = map (λ list. list.items) l.lists.items ≡ map (tests_given l.source l.entities l.scopes (take l.part-index l.clauses)) (below (length l.scopes))
