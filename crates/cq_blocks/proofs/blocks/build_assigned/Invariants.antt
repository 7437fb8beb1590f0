use Rattle.std.proofs.Common.{◌≡◌, map, take}
use Rattle.std.specs.Prelude.{option_copied}
use Rattle.cq_blocks.specs.Blocks.{entity_made, assigned_in}
use Rattle.cq_blocks.proofs.blocks.build_assigned.Given as goal

abbrev pub invariant-loop-var : goal.invariant-loop-var
invariant-loop-var l = l.made.items ≡ map (λ v. entity_made l.making.source.now (option_copied l.scope) (assigned_in l.making.target.now l.making.clauses.now l.key v.0)) (take l.var-index l.vars)
