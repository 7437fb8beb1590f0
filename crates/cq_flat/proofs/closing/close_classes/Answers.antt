use Rattle.std.proofs.Common.{◌≡◌, length, arith, refl, sym, subst, ◌∙◌, ap, inl, inr, ⊎_elim}
use Rattle.std.proofs.lemmas.Bool.{false≢true}
use Rattle.cq_flat.proofs.Merged.{taken_within, taken_roots, closing_merged, roots_fall, closing_end, congruent_within}
use Rattle.cq_flat.proofs.Refreshed.{closing_settled, closing_refreshed}
use Rattle.cq_flat.proofs.Steps.{waits_none, fewer_merged, fewer_refreshed}
use Rattle.cq_flat.specs.Closing.{AreExact}
use Rattle.cq_flat.specs.State.{AnyNode}
use Rattle.cq_flat.proofs.closing.close_classes.Goals as goal

pub next-requires : goal.next-requires
next-requires c = λ a b h.
    let w = congruent_within c.args.nodes.now c.args.equations.items c.requires.sides (c.loop-alloc.invariant.sound.pairs a b h) in
    let n : length c.as_slice.result.now ≡ length c.args.nodes.now = ap length c.as_slice.ensures.value ∙ c.loop-alloc.invariant.shape.count in
    (omega (arith, w.0, n), omega (arith, w.1, n))

pub merge-requires-clause-left : goal.merge-requires-clause-left
merge-requires-clause-left c =
    let w = taken_within c.args.nodes.now c.requires.arguments c.args.equations.items c.requires.sides AnyNode c.loop-alloc.closing c.loop-alloc.invariant c.next.new.pending c.in-Some.left c.in-Some.right
    (rw c.as_slice.ensures.value at c.in-Some.ensures) in
    omega (arith, w.0, c.loop-alloc.invariant.shape.count)

pub merge-requires-clause-right : goal.merge-requires-clause-right
merge-requires-clause-right c =
    let w = taken_within c.args.nodes.now c.requires.arguments c.args.equations.items c.requires.sides AnyNode c.loop-alloc.closing c.loop-alloc.invariant c.next.new.pending c.in-Some.left c.in-Some.right
    (rw c.as_slice.ensures.value at c.in-Some.ensures) in
    omega (arith, w.1, c.loop-alloc.invariant.shape.count)

pub merge-requires-clause-left_root : goal.merge-requires-clause-left_root
merge-requires-clause-left_root c =
    (taken_roots c.args.nodes.now c.requires.arguments c.args.equations.items c.requires.sides AnyNode c.loop-alloc.closing c.loop-alloc.invariant c.next.new.pending c.in-Some.left c.in-Some.right
    (rw c.as_slice.ensures.value at c.in-Some.ensures)).0

pub merge-requires-clause-right_root : goal.merge-requires-clause-right_root
merge-requires-clause-right_root c =
    (taken_roots c.args.nodes.now c.requires.arguments c.args.equations.items c.requires.sides AnyNode c.loop-alloc.closing c.loop-alloc.invariant c.next.new.pending c.in-Some.left c.in-Some.right
    (rw c.as_slice.ensures.value at c.in-Some.ensures)).1

pub loop-alloc-smaller-in-Continue-branch-2 : goal.loop-alloc-smaller-in-Continue-branch-2
loop-alloc-smaller-in-Continue-branch-2 c =
    let k = rw c.as_slice.ensures.value at c.in-Some.ensures in
    fewer_merged (length c.args.nodes.now) c.loop-alloc.closing c.merge.new.self (⊎_elim
    (λ m. roots_fall c.args.nodes.now c.requires.arguments c.args.equations.items c.requires.sides AnyNode c.loop-alloc.closing c.loop-alloc.invariant c.next.new.pending c.in-Some.left c.in-Some.right k
    c.in-Some.left c.in-Some.right (inl (refl, refl)) c.merge.new.self m)
    (λ m. roots_fall c.args.nodes.now c.requires.arguments c.args.equations.items c.requires.sides AnyNode c.loop-alloc.closing c.loop-alloc.invariant c.next.new.pending c.in-Some.left c.in-Some.right k
    c.in-Some.right c.in-Some.left (inr (refl, refl)) c.merge.new.self m)
    c.in_ok-merge-in-Some.ensures)

pub loop-alloc-preserved-in-Continue-branch-2 : goal.loop-alloc-preserved-in-Continue-branch-2
loop-alloc-preserved-in-Continue-branch-2 c =
    let k = rw c.as_slice.ensures.value at c.in-Some.ensures in
    ⊎_elim
    (λ m. closing_merged c.args.nodes.now c.requires.arguments c.args.equations.items c.requires.sides AnyNode c.loop-alloc.closing c.loop-alloc.invariant c.next.new.pending c.in-Some.left c.in-Some.right k
    c.in-Some.left c.in-Some.right (inl (refl, refl)) c.merge.new.self m)
    (λ m. closing_merged c.args.nodes.now c.requires.arguments c.args.equations.items c.requires.sides AnyNode c.loop-alloc.closing c.loop-alloc.invariant c.next.new.pending c.in-Some.left c.in-Some.right k
    c.in-Some.right c.in-Some.left (inr (refl, refl)) c.merge.new.self m)
    c.in_ok-merge-in-Some.ensures

pub loop-alloc-smaller : goal.loop-alloc-smaller
loop-alloc-smaller c =
    let k = rw c.as_slice.ensures.value at c.in-None.ensures in
    fewer_refreshed (length c.args.nodes.now) c.args.nodes.now c.loop-alloc.closing c.next.new.pending c.refresh.new.self
    (λ p s. false≢true (sym (c.is_open.ensures.1 (waits_none c.loop-alloc.closing.pending.items p, waits_none c.loop-alloc.closing.stale.items s)) ∙ c.loop-alloc-test.true))
    c.in_ok-refresh-in-None.ensures (k.none refl)

pub loop-alloc-preserved : goal.loop-alloc-preserved
loop-alloc-preserved c =
    closing_refreshed c.args.nodes.now c.args.equations.items (record c.loop-alloc.closing { pending = c.next.new.pending })
    (closing_settled c.args.nodes.now c.args.equations.items c.requires.sides AnyNode c.loop-alloc.closing c.loop-alloc.invariant c.next.new.pending
    (rw c.as_slice.ensures.value at c.in-None.ensures)) c.refresh.new.self c.in_ok-refresh-in-None.ensures

pub returns : goal.returns
returns c =
    let o = c.is_open.ensures.0 c.loop-alloc-test.false in
    subst (AreExact c.args.nodes.now c.args.equations.items) (sym c.into_classes.ensures)
    (closing_end c.args.nodes.now c.args.equations.items c.loop-alloc.closing c.loop-alloc.invariant o.0 o.1)
