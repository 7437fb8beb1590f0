use Rattle.std.proofs.Common.{◌-◌, ◌^◌, ◌*◌, ◌<◌, drop, min, ap, ◌∙◌, arith}
use Rattle.std.proofs.lemmas.Bool.{ltb-true}
use Rattle.cq_eval.specs.Join.{combinations}
use Rattle.cq_eval.proofs.Untested.{step_more, over}
use Rattle.cq_eval.proofs.free.is_over.Goals as goal

pub loop-place-preserved : goal.loop-place-preserved
loop-place-preserved c =
    step_more c.args.counts.now c.loop-place.place (omega (arith, c.loop-place-test.true)) c.loop-place.choices c.saturating_mul-choices.result
    (combinations (drop c.args.bound c.args.counts.now)) (2 ^ 64 - 1) c.loop-place.invariant
    (c.saturating_mul-choices.ensures ∙ ap (λ n. min (c.loop-place.choices * n) (2 ^ 64 - 1)) c.number_at-count.ensures)

pub returns : goal.returns
returns c = λ h.
    over c.args.counts.now c.args.bound c.loop-place.place c.args.found c.loop-place.choices (omega (arith, c.loop-place-test.false)) c.loop-place.invariant c.requires
    (let more : 1000000 - c.args.found < c.loop-place.choices = ltb-true (1000000 - c.args.found) c.loop-place.choices h in omega (arith, more, c.requires))
