use Rattle.std.proofs.Common.{ℕ, List, Ok, Err, ap, ◌∙◌}
use Rattle.cq_eval.specs.Made.{place_in}
use Rattle.cq_eval.proofs.Placed.{searched_in}
use Rattle.cq_eval.proofs.table.Answers.place_of.Goals as goal

pub returns-in-Ok-clause-place : goal.returns-in-Ok-clause-place
returns-in-Ok-clause-place c =
    let rows : List ℕ = c.args.rows.now in
    searched_in c.self.inside.rows.items c.as_slice.result.now c.as_slice.ensures.value c.self.invariant.0 c.self.invariant.1 rows (Ok c.in-Ok.place) c.in-Ok.ensures.bound c.in-Ok.ensures.position
    ∙ ap (λ (l : List (List ℕ)). place_in l rows) c.self.view_is

pub returns-in-Err-clause-place : goal.returns-in-Err-clause-place
returns-in-Err-clause-place c =
    let rows : List ℕ = c.args.rows.now in
    searched_in c.self.inside.rows.items c.as_slice.result.now c.as_slice.ensures.value c.self.invariant.0 c.self.invariant.1 rows (Err c.in-Err.field-0) c.in-Err.ensures.bound c.in-Err.ensures.position
    ∙ ap (λ (l : List (List ℕ)). place_in l rows) c.self.view_is
