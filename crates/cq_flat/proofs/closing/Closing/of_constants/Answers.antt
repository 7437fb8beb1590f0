use Rattle.std.proofs.Common.{◌≡◌, length, refl, sym, ap, arith, ◌+◌, ◌∙◌, Some, inl, inr, ⊎_elim}
use Rattle.std.proofs.lemmas.Option.{slice_get_read, same_Some}
use Rattle.cq_flat.specs.State.{IsClosing, IsEarlyConstant}
use Rattle.cq_flat.proofs.Merged.{congruent_within, taken_within, taken_roots, closing_merged}
use Rattle.cq_flat.proofs.Refreshed.{closing_settled}
use Rattle.cq_flat.proofs.Starting.{closing_alone, closing_plain, closing_entered}
use Rattle.cq_flat.proofs.closing.Closing.of_constants.Goals as goal
use Rattle.cq_flat.proofs.closing.Closing.of_constants.Goals.{in-Const+in_ok-enter_one+in-Some+in_ok-merge, in-Const+in_ok-enter_one+in_default-next, in_default}

pub loop-node-init : goal.loop-node-init
loop-node-init c = closing_alone c.args.nodes.now c.args.equations.items c.in_ok-closing.closing c.in_ok-closing.ensures

pub next-requires : goal.next-requires
next-requires c = λ a b h.
    let s = closing_entered c.args.nodes.now c.args.equations.items c.loop-node.node c.loop-node.closing c.enter_one.new.self c.in_ok-enter_one.ensures c.loop-node.invariant in
    let w = congruent_within c.args.nodes.now c.args.equations.items c.requires.sides (s.sound.pairs a b h) in
    let n : length c.as_slice.result.now ≡ length c.args.nodes.now = ap length c.as_slice.ensures.value ∙ s.shape.count in
    (omega (arith, w.0, n), omega (arith, w.1, n))

pub merge-requires-clause-left : goal.merge-requires-clause-left
merge-requires-clause-left c =
    let s = closing_entered c.args.nodes.now c.args.equations.items c.loop-node.node c.loop-node.closing c.enter_one.new.self c.in_ok-enter_one.ensures c.loop-node.invariant in
    let w = taken_within c.args.nodes.now c.requires.arguments c.args.equations.items c.requires.sides (IsEarlyConstant c.args.nodes.now (c.loop-node.node + 1)) c.enter_one.new.self s c.next.new.pending c.in-Some.left c.in-Some.right
    (rw c.as_slice.ensures.value at c.in-Some.ensures) in
    omega (arith, w.0, s.shape.count)

pub merge-requires-clause-right : goal.merge-requires-clause-right
merge-requires-clause-right c =
    let s = closing_entered c.args.nodes.now c.args.equations.items c.loop-node.node c.loop-node.closing c.enter_one.new.self c.in_ok-enter_one.ensures c.loop-node.invariant in
    let w = taken_within c.args.nodes.now c.requires.arguments c.args.equations.items c.requires.sides (IsEarlyConstant c.args.nodes.now (c.loop-node.node + 1)) c.enter_one.new.self s c.next.new.pending c.in-Some.left c.in-Some.right
    (rw c.as_slice.ensures.value at c.in-Some.ensures) in
    omega (arith, w.1, s.shape.count)

pub merge-requires-clause-left_root : goal.merge-requires-clause-left_root
merge-requires-clause-left_root c =
    let s = closing_entered c.args.nodes.now c.args.equations.items c.loop-node.node c.loop-node.closing c.enter_one.new.self c.in_ok-enter_one.ensures c.loop-node.invariant in
    (taken_roots c.args.nodes.now c.requires.arguments c.args.equations.items c.requires.sides (IsEarlyConstant c.args.nodes.now (c.loop-node.node + 1)) c.enter_one.new.self s c.next.new.pending c.in-Some.left c.in-Some.right
    (rw c.as_slice.ensures.value at c.in-Some.ensures)).0

pub merge-requires-clause-right_root : goal.merge-requires-clause-right_root
merge-requires-clause-right_root c =
    let s = closing_entered c.args.nodes.now c.args.equations.items c.loop-node.node c.loop-node.closing c.enter_one.new.self c.in_ok-enter_one.ensures c.loop-node.invariant in
    (taken_roots c.args.nodes.now c.requires.arguments c.args.equations.items c.requires.sides (IsEarlyConstant c.args.nodes.now (c.loop-node.node + 1)) c.enter_one.new.self s c.next.new.pending c.in-Some.left c.in-Some.right
    (rw c.as_slice.ensures.value at c.in-Some.ensures)).1

pub loop-node-preserved : goal.loop-node-preserved
loop-node-preserved c =
    let is = slice_get_read c.args.nodes.now (length c.args.nodes.now) c.loop-node.node c.index-nodes-node.result refl c.loop-node-test.true c.index-nodes-node.is in
    elim c.match-content.branch [
      | in-Const+in_ok-enter_one+in-Some+in_ok-merge w ↦
          let s = closing_entered c.args.nodes.now c.args.equations.items c.loop-node.node c.loop-node.closing w.enter_one.new.self w.in_ok-enter_one.ensures c.loop-node.invariant in
          let k = rw w.as_slice.ensures.value at w.in-Some.ensures in
          rw w.closing-is (⊎_elim
          (λ m. closing_merged c.args.nodes.now c.requires.arguments c.args.equations.items c.requires.sides (IsEarlyConstant c.args.nodes.now (c.loop-node.node + 1)) w.enter_one.new.self s w.next.new.pending w.in-Some.left w.in-Some.right k
          w.in-Some.left w.in-Some.right (inl (refl, refl)) w.merge.new.self m)
          (λ m. closing_merged c.args.nodes.now c.requires.arguments c.args.equations.items c.requires.sides (IsEarlyConstant c.args.nodes.now (c.loop-node.node + 1)) w.enter_one.new.self s w.next.new.pending w.in-Some.left w.in-Some.right k
          w.in-Some.right w.in-Some.left (inr (refl, refl)) w.merge.new.self m)
          w.in_ok-merge.ensures)
      | in-Const+in_ok-enter_one+in_default-next w ↦
          let s = closing_entered c.args.nodes.now c.args.equations.items c.loop-node.node c.loop-node.closing w.enter_one.new.self w.in_ok-enter_one.ensures c.loop-node.invariant in
          rw w.closing-is
          (closing_settled c.args.nodes.now c.args.equations.items c.requires.sides (IsEarlyConstant c.args.nodes.now (c.loop-node.node + 1)) w.enter_one.new.self s w.next.new.pending
          (rw w.as_slice.ensures.value at w.in_default-next.ensures))
      | in_default w ↦
          rw w.closing-is (closing_plain c.args.nodes.now c.args.equations.items c.loop-node.node c.loop-node.closing (λ d e. w.in_default.not-Const d (same_Some _ _ (sym is ∙ e))) c.loop-node.invariant)
    ]

pub returns : goal.returns
returns c =
    let n : c.loop-node.node ≡ length c.args.nodes.now = omega arith in
    rw n at c.loop-node.invariant
