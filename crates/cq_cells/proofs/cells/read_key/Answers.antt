use Rattle.std.proofs.Common.{sym, ◌∙◌}
use Rattle.std.proofs.lemmas.Result.{on_ok_weaker}
use Rattle.cq_cells.proofs.Celling.{key_missing}
use Rattle.cq_cells.proofs.cells.read_key.Goals as goal

pub returns : goal.returns
returns c = λ generator.
    on_ok_weaker c.add_fault.result
    (key_missing c.args.over.now c.args.pass.now c.add_fault.new.pass c.args.cell.now generator c.requires.going c.requires.column.0 c.args.target c.requires.column.1
    (c.add_fault.ensures.going ∙ c.requires.going) c.add_fault.ensures.labels (sym c.is_empty.ensures ∙ c.if-is_empty.false) (λ name. sym c.if-branch.false ∙ c.in_ok-has_record.ensures name))
    c.add_fault.ensures.listed
