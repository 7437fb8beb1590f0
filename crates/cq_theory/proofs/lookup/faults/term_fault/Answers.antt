use Rattle.std.proofs.Common.{sym, ◌∙◌}
use Rattle.cq_theory.proofs.KnownTerms.{term_fault-sorted}
use Rattle.cq_theory.proofs.lookup.faults.term_fault.Goals as goal

pub returns-in-Some : goal.returns-in-Some
returns-in-Some c = c.sorted_rule.ensures
    ∙ term_fault-sorted c.args.schema.now c.args.names.now c.args.sorts.now c.args.raw.now c.in-Some.field-0 (sym c.sort_of_raw.ensures ∙ c.in-Some.is)
