use Rattle.std.proofs.Common.{◌≡◌, length, arith, refl, sym, ap, ◌∙◌, Some}
use Rattle.std.proofs.lemmas.List.{length-map}
use Rattle.cq_flat.specs.Values.{value_at}
use Rattle.std.proofs.lemmas.Option.{slice_get_read}
use Rattle.std.specs.Prelude.{is_some}
use Rattle.cq_flat.specs.Places.{values_in}
use Rattle.cq_flat.proofs.Arguments.{args_within}
use Rattle.cq_flat.proofs.Listing.{listing_none, listing_plain, listing_again, listing_first, listing_all}
use Rattle.cq_flat.proofs.entries.entries_of.Goals as goal

pub loop-node-init : goal.loop-node-init
loop-node-init c = rw (c.new-table.ensures, c.new-entries.ensures.items) (listing_none c.args.nodes.now c.args.classes.now (values_in c.args.values.now))

pub loop-node-preserved-in_default : goal.loop-node-preserved-in_default
loop-node-preserved-in_default c =
    let is = slice_get_read c.args.nodes.now (length c.args.nodes.now) c.loop-node.node c.index-nodes-node.result refl c.loop-node-test.true c.index-nodes-node.is in
    listing_plain c.args.nodes.now c.requires.arguments c.args.classes.now (values_in c.args.values.now) c.requires.values c.loop-node.node c.loop-node.table c.loop-node.entries.items c.loop-node.invariant c.index-nodes-node.result is c.in_default.not-Fun

pub function_key-requires : goal.function_key-requires
function_key-requires c =
    let is = slice_get_read c.args.nodes.now (length c.args.nodes.now) c.loop-node.node c.index-nodes-node.result refl c.loop-node-test.true c.index-nodes-node.is in
    rw (c.as_slice.ensures, c.requires.values.classes_count) (args_within c.args.nodes.now c.requires.arguments c.loop-node.node _ _ (is ∙ ap Some c.in-Fun.is))

pub entry-requires-clause-args : goal.entry-requires-clause-args
entry-requires-clause-args c =
    let is = slice_get_read c.args.nodes.now (length c.args.nodes.now) c.loop-node.node c.index-nodes-node.result refl c.loop-node-test.true c.index-nodes-node.is in
    let n : length c.args.values.now.places.items ≡ length c.args.nodes.now = sym (length-map c.args.values.now.places.items (value_at c.args.values.now.different.items)) ∙ c.requires.values.values_count in
    rw (c.as_slice-in-loop-node.ensures, n) (args_within c.args.nodes.now c.requires.arguments c.loop-node.node _ _ (is ∙ ap Some c.in-Fun.is))

pub loop-node-preserved-then-is_some : goal.loop-node-preserved-then-is_some
loop-node-preserved-then-is_some c =
    let is = slice_get_read c.args.nodes.now (length c.args.nodes.now) c.loop-node.node c.index-nodes-node.result refl c.loop-node-test.true c.index-nodes-node.is in
    let earlier = rw (c.in_ok-key.ensures, c.as_slice.ensures) at c.in_ok-put.ensures.earlier in
    let put = rw (c.in_ok-key.ensures, c.as_slice.ensures) at c.in_ok-put.ensures.put in
    listing_again c.args.nodes.now c.requires.arguments c.args.classes.now (values_in c.args.values.now) c.requires.values c.loop-node.node c.loop-node.table c.loop-node.entries.items c.loop-node.invariant
    c.in-Fun.function c.in-Fun.args (is ∙ ap Some c.in-Fun.is) c.put.new.self put (ap is_some (sym earlier) ∙ sym c.is_some.ensures ∙ c.if-is_some.true)

pub loop-node-preserved : goal.loop-node-preserved
loop-node-preserved c =
    let is = slice_get_read c.args.nodes.now (length c.args.nodes.now) c.loop-node.node c.index-nodes-node.result refl c.loop-node-test.true c.index-nodes-node.is in
    let earlier = rw (c.in_ok-key.ensures, c.as_slice.ensures) at c.in_ok-put.ensures.earlier in
    let put = rw (c.in_ok-key.ensures, c.as_slice.ensures) at c.in_ok-put.ensures.put in
    rw (c.in_ok-push.ensures.items, c.in_ok-entry.ensures, c.as_slice-in-loop-node.ensures)
    (listing_first c.args.nodes.now c.requires.arguments c.args.classes.now (values_in c.args.values.now) c.requires.values c.loop-node.node c.loop-node.table c.loop-node.entries.items c.loop-node.invariant
    c.in-Fun.function c.in-Fun.args (is ∙ ap Some c.in-Fun.is) c.put.new.self put (ap is_some (sym earlier) ∙ sym c.is_some.ensures ∙ c.if-is_some.false))

pub returns : goal.returns
returns c = listing_all c.args.nodes.now c.args.classes.now (values_in c.args.values.now) c.loop-node.node c.loop-node.table c.loop-node.entries.items (omega arith) c.loop-node.invariant
