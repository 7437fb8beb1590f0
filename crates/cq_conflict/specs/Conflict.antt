-- The equation between two constants.
use Rattle.cq_theory.specs.declared.constant.Con.{Con}
use Rattle.cq_theory.specs.declared.presentation.Equation.{Equation}
use Rattle.cq_theory.specs.declared.presentation.Equation.TheVariants.{Typ}
use Rattle.cq_theory.specs.declared.term.TypeTerm.TheVariants.{Const}

abbrev pub equation_of_constants : Con → Con → Equation
equation_of_constants c d = Typ (Const c) (Const d)
