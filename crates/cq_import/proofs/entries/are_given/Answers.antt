use Rattle.std.proofs.Common.{Some, sym, ap, ◌∙◌}
use Rattle.cq_import.specs.Entries.{trouble_in}
use Rattle.cq_import.specs.Labels.{uses_in}
use Rattle.cq_import.proofs.LabelPlaces.{given_uses}
use Rattle.cq_import.proofs.entries.are_given.Goals as goal

pub returns-in-None-clause-kept : goal.returns-in-None-clause-kept
returns-in-None-clause-kept c = λ given.
    c.in_ok-note_labels.ensures.noted c.in-None.is
    ∙ given_uses c.args.labels.now (uses_in c.args.typeside.now c.args.value.now c.args.sort) (sym c.in_ok-note_labels.ensures.told ∙ c.in-None.is)

pub returns-in-Some-clause-wrong : goal.returns-in-Some-clause-wrong
returns-in-Some-clause-wrong c = λ not_given fault. ap (λ o. trouble_in o fault) (sym c.in_ok-note_labels.ensures.told ∙ c.in-Some.is)
