use Rattle.std.proofs.Common.{◌≡◌, ℕ, ◌<◌, length, get_or, arith, refl, sym, ap, ◌∙◌, Some, replicate, rules}
use Rattle.std.proofs.lemmas.Option.{slice_get_read, same_Some}
use Rattle.cq_flat.specs.Constants.{constant_at, constants_at, lesser}
use Rattle.cq_flat.proofs.Leasts.{least_none, least_plain, least_more}
use Rattle.cq_flat.proofs.Placed.{placed_none, placed_set, placed_at, placed_count}
use Rattle.cq_flat.proofs.constants.least_constants.Goals as goal
use Rattle.cq_flat.proofs.constants.least_constants.Goals.{in-Const, in_default}

pub loop-node-init : goal.loop-node-init
loop-node-init c =
    let e : c.in_ok-least.least.items ≡ replicate (length c.args.nodes.now) (length c.args.nodes.now) = c.in_ok-least.ensures.items_if_clones_equal (search rules) in
    rw (e, placed_none c.args.nodes.now (length c.args.nodes.now)) (least_none c.args.nodes.now c.args.classes.now)

pub loop-node-preserved : goal.loop-node-preserved
loop-node-preserved c =
    let is = slice_get_read c.args.nodes.now (length c.args.nodes.now) c.loop-node.node c.index-nodes-node.result refl c.loop-node-test.true c.index-nodes-node.is in
    elim c.match-content.branch [
      | in-Const w ↦
          let k : ℕ = get_or c.args.classes.now c.loop-node.node 0 in
          let h : k < length c.args.nodes.now = c.requires.within c.loop-node.node 0 (omega arith) in
          let l : k < length c.loop-node.least.items = omega (arith, h, c.loop-node.invariant.count, placed_count c.args.nodes.now c.loop-node.least.items) in
          let at = placed_at c.args.nodes.now c.loop-node.least.items k w.index.result.now l ∙ sym (ap (constant_at c.args.nodes.now) w.index.ensures) in
          let written = placed_set c.args.nodes.now c.loop-node.least.items k w.lesser_of.result _ (w.lesser_of.ensures ∙ ap (λ o. Some (lesser o w.in-Const.constant)) (sym at)) in
          rw (w.least-is, written) (least_more c.args.nodes.now c.args.classes.now c.loop-node.node (constants_at c.args.nodes.now c.loop-node.least.items) c.loop-node.invariant w.in-Const.constant (is ∙ ap Some w.in-Const.is) h)
      | in_default w ↦ rw w.least-is (least_plain c.args.nodes.now c.args.classes.now c.loop-node.node (constants_at c.args.nodes.now c.loop-node.least.items) c.loop-node.invariant (λ d e. w.in_default.not-Const d (same_Some _ _ (sym is ∙ e))))
    ]

pub returns : goal.returns
returns c =
    let n : c.loop-node.node ≡ length c.args.nodes.now = omega arith in
    rw n at c.loop-node.invariant
