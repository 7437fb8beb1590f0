use Rattle.std.proofs.Common.{Some, sym, ap, ◌∙◌}
use Rattle.cq_environment.specs.declared.environment.Bound.{Bound}
use Rattle.cq_environment.specs.Meanings.{Environment, meant_by, moved_under}
use Rattle.cq_environment.specs.Environment.{environment_of, meant}
use Rattle.cq_environment.proofs.Entries.{replaced}
use Rattle.cq_environment.proofs.making.replace.Goals as goal

pub returns : goal.returns
returns c =
    let before = c.args.env.now.names.entries in
    let env : Environment = environment_of before in
    ap environment_of c.in_ok-insert.ensures.entries
    ∙ replaced before c.in_ok-key.key c.in_ok-bound.bound
    (ap (meant_by env) c.in_ok-key.ensures.cases ∙ c.requires.meaning ∙ ap (λ (b : Bound). Some (meant b.meaning)) (sym c.in_ok-bound.ensures.ok))
    (ap (moved_under env) c.in_ok-key.ensures.cases ∙ c.requires.moved ∙ ap (λ (b : Bound). b.moved) (sym c.in_ok-bound.ensures.ok))
