use Rattle.std.proofs.Common.{ℕ, ◌≡◌, ◌+◌, ◌<◌, ◌≤◌, ◌∙◌, true, List, length, get_or, replicate, subst, sym, arith, rules}
use Rattle.std.proofs.lemmas.List.{length-set}
use Rattle.std.proofs.lemmas.Option.{slice_get-get_or}
use Rattle.std.proofs.lemmas.Grind.{common_steps}
use Rattle.cq_rows.specs.Unread.{is_free}
use Rattle.cq_rows.proofs.Counting.{IsBelow, ones_few, below_none, below_skip, below_all, counts_more, range_at}
use Rattle.cq_rows.proofs.ahead.longer.Goals as goal

pub loop-number-init : goal.loop-number-init
loop-number-init c =
    let ones : c.in_ok-next.next.items ≡ replicate (length c.args.counts.now) 1 = search rules in
    record {
      size = search rules;
      each = λ n counted e. subst (λ (l : List ℕ). IsBelow c.args.keys.now c.args.free.now e (n + 1) 0 (get_or l e 0)) (sym ones)
          (below_none c.args.keys.now c.args.free.now e (n + 1) 0 (get_or (replicate (length c.args.counts.now) 1) e 0) (ones_few (length c.args.counts.now) e));
    }

pub loop-number-preserved-then-not-free-number : goal.loop-number-preserved-then-not-free-number
loop-number-preserved-then-not-free-number c = record {
  size = c.loop-number.invariant.size;
  each = λ n counted e. below_skip c.args.keys.now c.args.free.now e (n + 1) c.loop-number.number (get_or c.loop-number.next.items e 0) (c.loop-number.invariant.each n counted e);
}

pub loop-number-preserved : goal.loop-number-preserved
loop-number-preserved c =
    let keys = c.args.keys.now in
    let free = c.args.free.now in
    let number = c.loop-number.number in
    let key = get_or keys number (0, 0) in
    let is : is_free free number ≡ true = grind (arith, common_steps) in
    let within : key.0 < length c.loop-number.next.items = omega (arith, range_at keys (length c.args.counts.now) number c.requires.range c.loop-number-test.true, c.loop-number.invariant.size) in
    let few : c.saturating_add-sum.result ≤ get_or c.loop-number.next.items key.0 0 + get_or c.args.counts.now key.1 0 = grind (arith, common_steps) in
    record {
      size = length-set c.loop-number.next.items key.0 c.saturating_add-sum.result ∙ c.loop-number.invariant.size;
      each = λ n counted. counts_more keys free c.args.counts.now c.loop-number.next.items number c.saturating_add-sum.result key
          (slice_get-get_or keys number (0, 0) c.loop-number-test.true) is within few n counted (c.loop-number.invariant.each n counted);
    }

pub returns-clause-counts : goal.returns-clause-counts
returns-clause-counts c = λ n counted e. below_all c.args.keys.now c.args.free.now e (n + 1) c.loop-number.number (get_or c.loop-number.next.items e 0) (c.loop-number.invariant.each n counted e)
