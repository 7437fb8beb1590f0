use Rattle.std.proofs.Common.{ℕ, List, sym, subst}
use Rattle.cq_growth.specs.Repeats.{IsShortest, IsTwice}
use Rattle.cq_witness.proofs.Told.{tells_other, tells_repeats}
use Rattle.cq_witness.proofs.depth.append_term.Goals as goal

pub returns-in_default : goal.returns-in_default
returns-in_default c =
    let none = λ (block : List ℕ) (h : IsTwice c.args.term.now.path block). c.in_default.ensures block (subst (λ (path : List ℕ). IsTwice path block) (sym c.as_slice.ensures) h) in
    tells_other c.args.schema.now c.args.presentation.now c.args.term.now _ _ _ none c.in_ok-append_new.ensures c.in_ok-append_other.ensures

pub returns : goal.returns
returns c =
    let shortest = subst (λ (path : List ℕ). IsShortest path c.in-Some.block.now) c.as_slice.ensures c.in-Some.ensures in
    tells_repeats c.args.schema.now c.args.presentation.now c.args.term.now c.in-Some.block.now _ _ _ _ _ shortest c.in_ok-append_new.ensures c.in_ok-append_repeat.ensures c.in_ok-append_end.ensures c.in_ok-append_rule.ensures
