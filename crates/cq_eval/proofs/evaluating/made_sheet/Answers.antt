use Rattle.std.proofs.Common.{map, length, ap, ◌≡◌, ◌∙◌}
use Rattle.cq_instance.proofs.Lists.{map-map}
use Rattle.cq_theory.specs.Canonical.{below}
use Rattle.cq_theory.specs.Tables.{Tables}
use Rattle.cq_query.specs.QueryData.{QueryData as Query}
use Rattle.cq_eval.specs.Made.{answers_of}
use Rattle.cq_eval.proofs.evaluating.made_sheet.Goals as goal

pub returns-in-Ok-clause-sheet : goal.returns-in-Ok-clause-sheet
returns-in-Ok-clause-sheet c =
    let Q : Query = c.args.query.now in
    let M : Tables = c.args.instance.now.tables in
    let counts : c.in_ok-counts.counts ≡ map (λ e. length (answers_of Q M e)) (below (length Q.target.entities)) =
    c.in_ok-counts.ensures ∙ ap (map length) c.requires.answers ∙ map-map length (answers_of Q M) (below (length Q.target.entities)) in
    λ j. record { counts = counts j; keys = c.in_ok-keys.ensures j; cells = c.in-Ok.ensures.columns j }
