use Rattle.std.proofs.Common.{map}
use Rattle.cq_check.proofs.Questions.{AsksFirst}
use Rattle.cq_check.proofs.asking.ask_all.Given as goal

abbrev pub invariant-loop-place : goal.invariant-loop-place
invariant-loop-place l =
    AsksFirst l.rows.schema.now l.rows.presentation.now l.rows.tables.now l.rows.entries.now l.initial.list l.list (map (λ e. e.now) l.equations) l.asked.items l.place
