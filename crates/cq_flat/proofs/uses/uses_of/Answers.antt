use Rattle.std.proofs.Common.{length, arith, refl, sym, ap, ◌∙◌, Some}
use Rattle.std.proofs.lemmas.Option.{slice_get_read, same_Some}
use Rattle.cq_flat.proofs.Using.{uses_none, uses_more, uses_plain, uses_all}
use Rattle.cq_flat.proofs.uses.uses_of.Goals as goal
use Rattle.cq_flat.proofs.uses.uses_of.Goals.{in-Fun+in_ok-add_uses, in_default}

pub loop-node-init : goal.loop-node-init
loop-node-init c = rw c.new-uses.ensures (uses_none c.args.nodes.now)

pub loop-node-preserved : goal.loop-node-preserved
loop-node-preserved c =
    let is = slice_get_read c.args.nodes.now (length c.args.nodes.now) c.loop-node.node c.index-nodes-node.result refl c.loop-node-test.true c.index-nodes-node.is in
    elim c.match-content.branch [
      | in-Fun+in_ok-add_uses w ↦ rw w.uses-is (uses_more c.args.nodes.now c.loop-node.uses w.add_uses.new.uses c.loop-node.node _ _ (is ∙ ap Some w.in-Fun.is) (rw w.as_slice.ensures at w.in_ok-add_uses.ensures) c.loop-node.invariant)
      | in_default w ↦ rw w.uses-is (uses_plain c.args.nodes.now c.loop-node.uses c.loop-node.node (λ f args e. w.in_default.not-Fun f args (same_Some _ _ (sym is ∙ e))) c.loop-node.invariant)
    ]

pub returns : goal.returns
returns c = uses_all c.args.nodes.now c.loop-node.uses c.loop-node.node (omega arith) c.loop-node.invariant
