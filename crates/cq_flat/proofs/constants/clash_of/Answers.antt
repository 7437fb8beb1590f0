use Rattle.std.proofs.Common.{ℕ, ◌<◌, arith, get_or, length, refl, sym, ap, ◌∙◌, ◌+◌, Some}
use Rattle.std.proofs.lemmas.Option.{slice_get_read, same_Some}
use Rattle.cq_flat.specs.Constants.{IsExcess, constants_at}
use Rattle.cq_flat.proofs.Placed.{placed_at}
use Rattle.cq_flat.proofs.Leasts.{excess_none, excess_plain, excess_more}
use Rattle.cq_flat.proofs.constants.clash_of.Goals as goal
use Rattle.cq_flat.proofs.constants.clash_of.Goals.{in-Const+in_ok-clash, in_default}

pub loop-node-init : goal.loop-node-init
loop-node-init c = excess_none c.args.nodes.now c.args.classes.now (constants_at c.args.nodes.now c.args.least.now)

pub loop-node-preserved : goal.loop-node-preserved
loop-node-preserved c =
    let is = slice_get_read c.args.nodes.now (length c.args.nodes.now) c.loop-node.node c.index-nodes-node.result refl c.loop-node-test.true c.index-nodes-node.is in
    elim c.match-content.branch as (λ _. IsExcess c.args.nodes.now c.args.classes.now (constants_at c.args.nodes.now c.args.least.now) (c.loop-node.node + 1) c.match-content.clash) [
      | in-Const+in_ok-clash w ↦
          let k : ℕ = get_or c.args.classes.now c.loop-node.node 0 in
          let within : k < length c.args.least.now = omega (arith, c.requires.within c.loop-node.node 0 (omega arith), c.requires.least) in
          let at = placed_at c.args.nodes.now c.args.least.now k 0 within ∙ sym w.constant_at-least.ensures in
          rw (w.clash-is, w.in_ok-clash.ensures)
          (excess_more c.args.nodes.now c.args.classes.now (constants_at c.args.nodes.now c.args.least.now) c.loop-node.node c.loop-node.clash w.in-Const.constant _ (is ∙ ap Some w.in-Const.is) at c.loop-node.invariant)
      | in_default w ↦ rw w.clash-is (excess_plain c.args.nodes.now c.args.classes.now (constants_at c.args.nodes.now c.args.least.now) c.loop-node.node c.loop-node.clash (λ d e x. w.in_default.not-Const d (same_Some _ _ (sym is ∙ x.0))) c.loop-node.invariant)
    ]
