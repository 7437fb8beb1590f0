use Rattle.std.proofs.Common.{List, ap, refl, sym, subst, length, ◌∙◌}
use Rattle.std.specs.Prelude.{slice_get}
use Rattle.std.proofs.lemmas.Option.{slice_get_read}
use Rattle.cq_growth.specs.declared.levels.Member.{Member}
use Rattle.cq_growth.specs.Levels.{IsNextOf, IsNext}
use Rattle.cq_growth.proofs.Nexts.{next_none, next_more, next_all}
use Rattle.cq_growth.proofs.levels.next_level.Goals as goal

pub loop-member-init : goal.loop-member-init
loop-member-init c =
    subst (λ (new : List Member). IsNextOf c.args.tables.now 0 c.deref-member-items.result.now c.args.level.reached.items new c.args.level.reached.items) (sym c.new.ensures.items)
    (next_none c.args.tables.now c.deref-member-items.result.now c.args.level.reached.items)

pub loop-member-preserved : goal.loop-member-preserved
loop-member-preserved c =
    let items = c.deref-member-items.result.now in
    let there = slice_get_read items (length items) c.loop-member.member-index c.member-item.result refl c.loop-member-test.true c.member-item.is in
    next_more c.args.tables.now c.requires.whole items c.args.level.reached.items c.loop-member.member-index c.member-item.result
    c.loop-member.next.members.items c.expand.new.next.members.items c.loop-member.next.reached.items c.expand.new.next.reached.items there c.in_ok-expand.ensures c.loop-member.invariant

pub expand-requires : goal.expand-requires
expand-requires c =
    let items = c.deref-member-items.result.now in
    let there = slice_get_read items (length items) c.loop-member.member-index c.member-item.result refl c.loop-member-test.true c.member-item.is in
    record {
      whole = c.requires.whole;
      marks = c.loop-member.invariant.marked ∙ c.requires.marks;
      live = c.requires.live c.loop-member.member-index c.member-item.result (ap (λ (l : List Member). slice_get l c.loop-member.member-index) (sym c.deref-member-items.ensures.value) ∙ there);
    }

pub returns : goal.returns
returns c =
    let items = c.deref-member-items.result.now in
    subst (λ (old : List Member). IsNext c.args.tables.now old c.args.level.reached.items c.loop-member.next.members.items c.loop-member.next.reached.items) c.deref-member-items.ensures.value
    (next_all c.args.tables.now c.requires.whole items c.args.level.reached.items c.loop-member.member-index c.loop-member.next.members.items c.loop-member.next.reached.items c.loop-member-test.false c.loop-member.invariant)
