use Rattle.std.proofs.Common.{◌≡◌, ◌++◌, take}
use Rattle.cq_transform.specs.Gluing.{glued_images}
use Rattle.cq_push.proofs.pushouts.push_glued.Given as goal

abbrev pub invariant-loop-place : goal.invariant-loop-place
invariant-loop-place l = l.made.items ≡ l.initial.made.items ++ glued_images l.first (take l.place l.lefts) (take l.place l.rights)
