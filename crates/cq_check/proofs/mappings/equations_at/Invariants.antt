use Rattle.std.proofs.Common.{◌≡◌, map, take, Some}
use Rattle.cq_check.specs.Entities.{equation_at}
use Rattle.cq_check.proofs.mappings.equations_at.Given as goal

abbrev pub invariant-loop-place : goal.invariant-loop-place
invariant-loop-place l = map (λ e. Some e.now) l.equations.items ≡ map (equation_at l.duties) (take l.place-index l.places)
