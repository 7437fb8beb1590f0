use Rattle.cq_colimit.proofs.Giving.{not_given}
use Rattle.cq_colimit.proofs.given.give_first.Goals as goal

pub returns-else-firsts-number : goal.returns-else-firsts-number
returns-else-firsts-number c = λ links is.
    not_given c.args.part.now links c.args.firsts.now c.args.number c.args.name.now c.args.made.now.items is c.requires c.if-firsts-number.false
