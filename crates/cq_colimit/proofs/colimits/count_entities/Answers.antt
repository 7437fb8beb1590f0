use Rattle.std.proofs.Common.{◌-◌, ◌∙◌, length, sym}
use Rattle.cq_colimit.proofs.Totals.{last_fits, last_is, none_is}
use Rattle.cq_colimit.proofs.colimits.count_entities.Goals as goal

pub entities_through-requires : goal.entities_through-requires
entities_through-requires c =
    last_fits c.requires.0 c.args.parts.now c.requires.1 c.requires.2 (length c.args.parts.now - 1) c.in-Some.part.now (sym c.in-Some.ensures.value)

pub returns-in-Some : goal.returns-in-Some
returns-in-Some c = λ given places. c.entities_through.ensures ∙ last_is given c.args.parts.now places c.in-Some.part.now (sym c.in-Some.ensures.value)

pub returns-in-None : goal.returns-in-None
returns-in-None c = λ given places. none_is given c.args.parts.now places (sym c.in-None.ensures.value)
