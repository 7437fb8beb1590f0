-- One side of an equation.
use Rattle.cq_theory.specs.declared.term.Term.{Term}
use Rattle.cq_theory.specs.declared.term.Term.TheVariants.{Ent, Typ}
use Rattle.cq_steps.specs.declared.side.Side.{Side}
use Rattle.cq_steps.specs.declared.side.Side.TheVariants.{Ent as EntSide, Typ as TypSide}

abbrev pub term_of : Side → Term
term_of (EntSide t) = Ent t.now
term_of (TypSide t) = Typ t.now
