-- Values as terms, where the generators of the nulls are those from some number on.
use Rattle.std.specs.Prelude.{ℕ, slice_index}
use Rattle.std.specs.List.{range_with_len}
use Rattle.cq_theory.specs.declared.presentation.Equation.{Equation}
use Rattle.cq_theory.specs.declared.term.TypeTerm.{TypeTerm}
use Rattle.cq_theory.specs.declared.value.Value.{Value}
use Rattle.cq_theory.specs.declared.value.Value.TheOpen.{Value-F}
use Rattle.cq_theory.specs.declared.value.Entry.{Entry}
use Rattle.cq_theory.specs.ValueTerms as values

module _ (first count : ℕ) where
  abbrev pub generator_from : ℕ → ℕ
  generator_from n = slice_index (range_with_len first count) n

  abbrev pub value_term_step : Value-F TypeTerm → TypeTerm
  value_term_step = values.value_term_step generator_from

  abbrev pub value_term : Value → TypeTerm
  value_term = values.value_term generator_from

  abbrev pub entry_equation : Entry → Equation
  entry_equation = values.entry_equation generator_from
