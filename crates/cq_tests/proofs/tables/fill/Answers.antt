use Rattle.std.proofs.Common.{◌≡◌, refl, sym, ◌∙◌, ap, Some}
use Rattle.cq_tests.specs.declared.tables.TheConstants.{KEYS}
use Rattle.cq_tables.proofs.Reading.{step_given}
use Rattle.cq_tests.proofs.tables.fill.Goals as goal

pub cell-requires-clause-key : goal.cell-requires-clause-key
cell-requires-clause-key g c =
    rw (c.requires.keys, step_given KEYS c.args.key _ c.requires.key (sym c.if-entity-source.false ∙ c.entity.ensures)) refl

pub set_cell-requires-clause-key : goal.set_cell-requires-clause-key
set_cell-requires-clause-key g c =
    rw c.requires.keys (step_given KEYS c.args.key _ c.requires.key (sym c.if-entity-source.false ∙ c.entity.ensures)
    ∙ ap Some (sym c.if-entity-target.false ∙ c.entity-else-entity-source.ensures))
