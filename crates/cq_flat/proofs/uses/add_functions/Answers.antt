use Rattle.std.proofs.Common.{◌≡◌, length, arith, refl, sym, ap, ◌∙◌, Some}
use Rattle.std.proofs.lemmas.Option.{slice_get_read, same_Some}
use Rattle.cq_flat.proofs.Functions.{functions_none, functions_plain, functions_more}
use Rattle.cq_flat.proofs.uses.add_functions.Goals as goal
use Rattle.cq_flat.proofs.uses.add_functions.Goals.{in-Fun+in_ok-push, in_default}

pub loop-node-init : goal.loop-node-init
loop-node-init c = functions_none c.args.nodes.now c.args.numbers.now.items

pub loop-node-preserved : goal.loop-node-preserved
loop-node-preserved c =
    let is = slice_get_read c.args.nodes.now (length c.args.nodes.now) c.loop-node.node c.index-nodes-node.result refl c.loop-node-test.true c.index-nodes-node.is in
    elim c.match-content.branch [
      | in-Fun+in_ok-push w ↦ rw (w.numbers-is, w.in_ok-push.ensures.items) (functions_more c.args.nodes.now c.args.numbers.now.items c.loop-node.node c.loop-node.numbers.items c.loop-node.invariant)
      | in_default w ↦ rw w.numbers-is (functions_plain c.args.nodes.now c.args.numbers.now.items c.loop-node.node c.loop-node.numbers.items c.loop-node.invariant (λ f args e. w.in_default.not-Fun f args (same_Some _ _ (sym is ∙ e))))
    ]

pub returns : goal.returns
returns c =
    let n : c.loop-node.node ≡ length c.args.nodes.now = omega arith in
    rw n at c.loop-node.invariant
