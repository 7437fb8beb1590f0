use Rattle.std.proofs.Common.{ℕ, List, length, map, arith, ◌≡◌, ◌∙◌}
use Rattle.cq_theory.specs.Canonical.{below}
use Rattle.cq_theory.specs.declared.value.Entry.{Entry}
use Rattle.cq_instance.specs.EntryLists.{AreEntryLists}
use Rattle.cq_theory.specs.Groups.{positions}
use Rattle.cq_instance.proofs.Positions.{if_ok}
use Rattle.cq_instance.proofs.EntryPlaces.{entry_numbers_within, are_entry_lists}
use Rattle.cq_instance.proofs.entries.entry_lists.Goals as goal

pub grouped-requires-clause-within : goal.grouped-requires-clause-within
grouped-requires-clause-within c =
    entry_numbers_within c.args.hashing (length c.args.entries.now) c.args.entries.now c.as_slice.result.now (omega (arith, c.if-count-eq0.false)) (c.as_slice.ensures.value ∙ c.in_ok-numbers.ensures)

pub returns : goal.returns
returns c =
    let entries : List Entry = c.args.entries.now in
    let numbers : List ℕ = c.as_slice.result.now in
    if_ok c.grouped.result (λ (lists : List (List ℕ)). lists ≡ map (positions numbers) (below (length entries))) (AreEntryLists c.args.hashing entries)
    (λ lists made. are_entry_lists c.args.hashing entries numbers lists (c.as_slice.ensures.value ∙ c.in_ok-numbers.ensures) made) c.grouped.ensures
