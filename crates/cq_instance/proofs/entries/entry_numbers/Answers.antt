use Rattle.std.proofs.Common.{ℕ, ◌%◌, ap, ◌∙◌}
use Rattle.cq_theory.proofs.PartLoops.{map_more, map_whole}
use Rattle.cq_instance.specs.Digests.{digest_of_application}
use Rattle.cq_instance.specs.EntryLists.{entry_number}
use Rattle.cq_instance.proofs.entries.entry_numbers.Goals as goal

pub loop-entry-preserved : goal.loop-entry-preserved
loop-entry-preserved c =
    let digest = c.application_digest-digest.ensures ∙ ap (digest_of_application c.args.hashing c.entry-item.result.function) c.as_slice.ensures in
    map_more (entry_number c.args.hashing c.args.count) c.args.entries.now c.loop-entry.entry-index c.entry-item.result c.loop-entry.made.items _ _ c.loop-entry-test.true c.entry-item.is c.loop-entry.invariant
    (ap (λ (d : ℕ). d % c.args.count) digest) c.in_ok-push.ensures.items

pub returns : goal.returns
returns c = map_whole (entry_number c.args.hashing c.args.count) c.args.entries.now c.loop-entry.entry-index c.loop-entry.made.items c.loop-entry-test.false c.loop-entry.invariant
