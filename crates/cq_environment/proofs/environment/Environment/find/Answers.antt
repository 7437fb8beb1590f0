use Rattle.std.proofs.Common.{Some, ap, ◌∙◌}
use Rattle.cq_environment.specs.declared.environment.Bound.{Bound}
use Rattle.cq_environment.specs.Environment.{meant}
use Rattle.cq_environment.proofs.Entries.{meant_by-lookup, meant_in}
use Rattle.cq_environment.proofs.environment.Environment.find.Goals as goal

pub returns-in-Some : goal.returns-in-Some
returns-in-Some c =
    ap (λ (b : Bound). Some (meant b.meaning)) c.deref.ensures ∙ ap meant_in c.in-Some.ensures.value ∙ meant_by-lookup c.args.self.now.names.entries c.args.name.now

pub returns-in-None : goal.returns-in-None
returns-in-None c = ap meant_in c.in-None.ensures.value ∙ meant_by-lookup c.args.self.now.names.entries c.args.name.now
