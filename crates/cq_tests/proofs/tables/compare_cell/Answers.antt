use Rattle.std.proofs.Common.{◌≡◌, refl, sym, ◌∙◌, arith}
use Rattle.cq_tests.specs.declared.tables.TheConstants.{KEYS}
use Rattle.cq_tables.proofs.Reading.{step_given}
use Rattle.cq_tests.proofs.tables.compare_cell.Goals as goal

pub cell-requires-clause-key : goal.cell-requires-clause-key
cell-requires-clause-key g c =
    rw (c.requires.keys, step_given KEYS c.args.key _ c.requires.key (sym c.if-entity-source.true ∙ c.entity.ensures)) refl
