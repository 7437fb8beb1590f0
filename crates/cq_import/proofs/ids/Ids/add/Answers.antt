use Rattle.std.proofs.Common.{◌∙◌, is_some, not, sym, ap}
use Rattle.cq_base.specs.Names.{number_of, same_name}
use Rattle.cq_base.proofs.Numbers.{position-any}
use Rattle.cq_import.proofs.ids.Ids.add.Goals as goal

pub returns-clause-known : goal.returns-clause-known
returns-clause-known c =
    c.in_ok-is_new.ensures.added
    ∙ ap not (sym (position-any (same_name c.args.id) c.self.inside.ids.keys) ∙ ap (λ l. is_some (number_of l c.args.id)) c.self.view_is)
