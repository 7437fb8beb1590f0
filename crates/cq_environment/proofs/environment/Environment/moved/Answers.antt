use Rattle.std.proofs.Common.{ap, ◌∙◌}
use Rattle.cq_environment.specs.declared.environment.Bound.{Bound}
use Rattle.cq_environment.proofs.Entries.{moved_in, moved_under-lookup}
use Rattle.cq_environment.proofs.environment.Environment.moved.Goals as goal

pub returns-in-Some : goal.returns-in-Some
returns-in-Some c =
    c.as_ref.ensures.value ∙ ap (λ (b : Bound). b.moved) c.deref.ensures ∙ ap moved_in c.in-Some.ensures.value
    ∙ moved_under-lookup c.args.self.now.names.entries c.args.name.now

pub returns-in-None : goal.returns-in-None
returns-in-None c = ap moved_in c.in-None.ensures.value ∙ moved_under-lookup c.args.self.now.names.entries c.args.name.now
