use Rattle.std.proofs.Common.{ℕ, List, ◌≡◌, ◌++◌, map, take, sym, ap, ◌∙◌}
use Rattle.std.proofs.lemmas.List.{take-map, take_all}
use Rattle.cq_theory.specs.Tables.{row_in}
use Rattle.cq_instance.specs.declared.standing.Standing.{Standing}
use Rattle.cq_instance.specs.Standing.{meaning}
use Rattle.cq_eval.proofs.choice.Choice.behind.Goals as goal

pub returns : goal.returns
returns c =
    let row : Standing → ℕ = λ s. row_in (meaning s) in
    let standings : List Standing = c.self.inside.standings.items in
    let items : c.first_of-standing-items.result.now ≡ take c.args.bound standings = c.first_of-standing-items.ensures ∙ ap (take c.args.bound) c.as_slice.ensures.value in
    let rows : c.loop-standing.rows.items ≡ take c.args.bound c.args.self.now =
    c.loop-standing.invariant ∙ ap (map row) (take_all c.loop-standing.standing-index c.first_of-standing-items.result.now c.loop-standing-test.false ∙ items)
    ∙ sym (take-map row c.args.bound standings) ∙ ap (take c.args.bound) c.self.view_is in
    c.from_vec.ensures ∙ c.in_ok-extend_from_slice.ensures.items ∙ (λ i. rows i ++ c.rest_of.ensures i)
