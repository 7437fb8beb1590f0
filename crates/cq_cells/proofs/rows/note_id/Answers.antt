use Rattle.std.proofs.Common.{ap, ◌∙◌}
use Rattle.std.proofs.lemmas.Result.{MatchResult-weaker}
use Rattle.cq_base.specs.Names.{number_of}
use Rattle.cq_cells.proofs.Indexing.{index_on_ok}
use Rattle.cq_cells.proofs.rows.note_id.Goals as goal

pub returns-clause-known : goal.returns-clause-known
returns-clause-known c = λ ids index.
    MatchResult-weaker c.note.result c.note.ensures.known (λ before is. is ∙ index.finds _ ∙ ap (number_of ids) c.in_ok-id.ensures) (λ e ok. ok)

pub returns-clause-index : goal.returns-clause-index
returns-clause-index c = λ ids index many.
    index_on_ok c.note.result ids _ _ c.args.number _ _ index many c.in_ok-id.ensures c.note.ensures.known c.note.ensures.kept c.note.ensures.noted
