use Rattle.std.proofs.Common.{ℕ, map, refl}
use Rattle.cq_theory.specs.declared.value.Value.TheVariants as value
use Rattle.cq_theory.specs.Tables.{AtValue}
use Rattle.cq_instance.specs.Standing.{meaning}
use Rattle.cq_instance.specs.declared.standing.Standing.TheVariants.{Value}
use Rattle.cq_instance.proofs.Pushed.{standing_more}
use Rattle.cq_instance.proofs.canonical.generators.push_null_standings.Goals as goal

pub loop-label-preserved : goal.loop-label-preserved
loop-label-preserved c =
    standing_more (λ (n : ℕ). AtValue (value.Null n)) (map meaning c.args.made.now.items) c.loop-label.made.items _ c.loop-label.label (Value (value.Null c.loop-label.label)) c.loop-label.invariant
    c.in_ok-push.ensures.items refl
