-- Values as terms, in which the generator of each null stands for it.
use Rattle.std.specs.Prelude.{ℕ, map}
use Rattle.cq_theory.specs.declared.presentation.Equation.{Equation}
use Rattle.cq_theory.specs.declared.presentation.Equation.TheVariants.{Typ}
use Rattle.cq_theory.specs.declared.term.TypeTerm.{TypeTerm}
use Rattle.cq_theory.specs.declared.term.TypeTerm.TheVariants as term
use Rattle.cq_theory.specs.declared.value.Value.{Value}
use Rattle.cq_theory.specs.declared.value.Value.TheOpen.{Value-F, Const, Null, Fun}
use Rattle.cq_theory.specs.declared.value.Value.TheFolds.{fold-Value}
use Rattle.cq_theory.specs.declared.value.Entry.{Entry}

module _ (generator : ℕ → ℕ) where
  abbrev pub value_term_step : Value-F TypeTerm → TypeTerm
  value_term_step (Const c) = term.Const c
  value_term_step (Null n) = term.Gen (generator n)
  value_term_step (Fun f args) = term.Fun f args

  abbrev pub value_term : Value → TypeTerm
  value_term = fold-Value TypeTerm value_term_step

  -- a function of values is a value
  abbrev pub entry_equation : Entry → Equation
  entry_equation entry = Typ (term.Fun entry.function (map value_term entry.args)) (value_term entry.value)
