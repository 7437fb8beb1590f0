use Rattle.std.proofs.Common.{ℕ, ◌≡◌, ◌∙◌, List, length, replicate, subst, sym, ap, arith, rules}
use Rattle.cq_rows.specs.Unread.{AreCounts}
use Rattle.cq_rows.proofs.Counting.{AreCounts-start}
use Rattle.cq_rows.proofs.ahead.count_paths.Goals as goal

pub loop-step-init : goal.loop-step-init
loop-step-init c =
    let ones : c.in_ok-counts.counts.items ≡ replicate c.args.entities 1 = search rules in
    record {
      size = search rules;
      each = subst (λ (l : List ℕ). AreCounts c.args.keys.now c.args.free.now 0 l) (sym ones) (AreCounts-start c.args.keys.now c.args.free.now 0 c.args.entities);
    }

pub longer-requires-clause-range : goal.longer-requires-clause-range
longer-requires-clause-range c =
    let size : length c.deref.result.now ≡ c.args.entities = ap length c.deref.ensures.value ∙ c.loop-step.invariant.size in
    rw size c.requires.range

pub returns : goal.returns
returns c =
    let last : c.loop-step._step ≡ c.args.depth = omega (arith, c.loop-step-test.false, c.loop-step.auto) in
    subst (λ n. AreCounts c.args.keys.now c.args.free.now n c.loop-step.counts.items) last c.loop-step.invariant.each
