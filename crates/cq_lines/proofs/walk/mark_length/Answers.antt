use Rattle.std.proofs.Common.{sym, ◌∙◌}
use Rattle.cq_lines.proofs.Marks.{marked, short_text, unmarked}
use Rattle.cq_lines.proofs.walk.mark_length.Goals as goal

pub returns-then-text-lt3-clause-rest : goal.returns-then-text-lt3-clause-rest
returns-then-text-lt3-clause-rest c = short_text c.args.text.now c.if-text-lt3.true

pub returns-then-is_mark-clause-rest : goal.returns-then-is_mark-clause-rest
returns-then-is_mark-clause-rest c = marked c.args.text.now c.if-text-lt3.false (sym c.is_mark.ensures ∙ c.if-is_mark.true)

pub returns-else-is_mark-clause-rest : goal.returns-else-is_mark-clause-rest
returns-else-is_mark-clause-rest c = unmarked c.args.text.now c.if-text-lt3.false (sym c.is_mark.ensures ∙ c.if-is_mark.false)
