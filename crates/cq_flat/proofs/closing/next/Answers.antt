use Rattle.std.proofs.Common.{◌≡◌, [], refl, arith, ◌∙◌, sym, slice_index}
use Rattle.std.proofs.lemmas.Grind.{common_steps}
use Rattle.cq_flat.proofs.Skipping.{skipping_none, skipping_more, skips_pair, skips_none, taken}
use Rattle.cq_flat.proofs.closing.next.Goals as goal

pub loop-a-init : goal.loop-a-init
loop-a-init c = skipping_none _ c.args.pending.now.items

pub class_of-left-requires : goal.class_of-left-requires
class_of-left-requires c =
    (c.requires c.in-Some.a c.in-Some.b (taken _ c.args.pending.now.items c.loop-a.pending.items c.pop.new.self.items c.in-Some.a c.in-Some.b c.in-Some.ensures.items c.loop-a.invariant)).0

pub class_of-right-requires : goal.class_of-right-requires
class_of-right-requires c =
    (c.requires c.in-Some.a c.in-Some.b (taken _ c.args.pending.now.items c.loop-a.pending.items c.pop.new.self.items c.in-Some.a c.in-Some.b c.in-Some.ensures.items c.loop-a.invariant)).1

pub loop-a-preserved : goal.loop-a-preserved
loop-a-preserved c =
    skipping_more (slice_index c.args.classes.now) c.args.pending.now.items c.loop-a.pending.items c.pop.new.self.items c.in-Some.a c.in-Some.b c.in-Some.ensures.items c.loop-a.invariant
    (sym c.class_of-left.ensures ∙ c.if-left-right.false ∙ c.class_of-right.ensures)

pub returns-then-left-right : goal.returns-then-left-right
returns-then-left-right c =
    rw (c.class_of-left.ensures, c.class_of-right.ensures)
    (skips_pair (slice_index c.args.classes.now) c.args.pending.now.items c.loop-a.pending.items c.pop.new.self.items c.in-Some.a c.in-Some.b c.in-Some.ensures.items c.loop-a.invariant
    (λ e. c.if-left-right.true (c.class_of-left.ensures ∙ e ∙ sym c.class_of-right.ensures)))

pub returns : goal.returns
returns c =
    let none : c.pop.new.self.items ≡ [] = grind (arith, common_steps) in
    let was : c.loop-a.pending.items ≡ [] = grind (arith, common_steps) in
    rw none (skips_none (slice_index c.args.classes.now) c.args.pending.now.items [] refl (rw was at c.loop-a.invariant))
