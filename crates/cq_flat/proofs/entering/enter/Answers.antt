use Rattle.std.proofs.Common.{length, refl, ◌∙◌, sym}
use Rattle.std.proofs.lemmas.Option.{slice_get_read}
use Rattle.cq_flat.proofs.Entered.{enters_first, enters_again}
use Rattle.cq_flat.proofs.entering.enter.Goals as goal

pub returns-in_ok-push : goal.returns-in_ok-push
returns-in_ok-push c =
    let is = slice_get_read c.args.nodes.now (length c.args.nodes.now) c.args.node c.index-nodes-node.result refl c.requires.node c.index-nodes-node.is in
    enters_again c.args.nodes.now c.requires.arguments _ c.args.table.now c.put.new.self c.args.pending.now.items c.args.node c.index-nodes-node.result c.in-Some.key
    is (sym c.in_ok-key.ensures ∙ c.in-Some.is) c.in_ok-earlier.ensures.put
    c.push.new.self.items c.in-Some-2.earlier (sym c.in_ok-earlier.ensures.earlier ∙ c.in-Some-2.is) c.in_ok-push.ensures.items

pub returns-in_default-2 : goal.returns-in_default-2
returns-in_default-2 c =
    let is = slice_get_read c.args.nodes.now (length c.args.nodes.now) c.args.node c.index-nodes-node.result refl c.requires.node c.index-nodes-node.is in
    enters_first c.args.nodes.now c.requires.arguments _ c.args.table.now c.put.new.self c.args.pending.now.items c.args.node c.index-nodes-node.result c.in-Some.key
    is (sym c.in_ok-key.ensures ∙ c.in-Some.is) c.in_ok-earlier.ensures.put (sym c.in_ok-earlier.ensures.earlier ∙ c.in_default-2.is)
