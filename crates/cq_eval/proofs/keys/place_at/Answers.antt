use Rattle.std.proofs.Common.{ℕ, List, map, ap, ◌∙◌}
use Rattle.cq_theory.specs.Tables.{AtRow, row_of}
use Rattle.cq_eval.specs.Made.{place_in}
use Rattle.cq_eval.proofs.keys.place_at.Goals as goal

pub returns : goal.returns
returns c =
    c.place_of.ensures.place
    ∙ ap (place_in c.args.target.now) (c.in_ok-named.ensures ∙ ap (λ (r : List ℕ). map (row_of c.args.instance.now.tables (map AtRow r)) c.args.terms.now) c.in_ok-choice.ensures)
