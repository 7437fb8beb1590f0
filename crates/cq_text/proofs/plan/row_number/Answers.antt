use Rattle.std.proofs.Common.{ℕ, ◌+◌, ◌≡◌, take, subst, ◌∙◌}
use Rattle.std.specs.Prelude.{IfOk, sum}
use Rattle.cq_text.proofs.Plans.{start_at}
use Rattle.cq_text.proofs.plan.row_number.Goals as goal

pub returns : goal.returns
returns c =
    let i = c.args.instance.now in
    let start : c.index.result.now ≡ sum (take c.args.entity i.tables.sheet.counts) =
    c.index.ensures ∙ start_at i c.args.plan.now c.requires.plan c.args.entity c.index.result.now c.requires.entity in
    subst (λ n. IfOk c.sum_of.result (λ total. total ≡ n)) (λ j. start j + c.from.ensures j) c.sum_of.ensures
