use Rattle.std.proofs.Common.{length}
use Rattle.cq_compose.proofs.frame.+push_component.Given as goal

abbrev pub decreases-push_component : goal.decreases-push_component
decreases-push_component l = length l.path.now
