-- Terms with other terms in place of their generators.
use Rattle.std.specs.Prelude.{ℕ, List, map, Option, Some, None, slice_get}
use Rattle.std.specs.List.{range_with_len}
use Rattle.cq_theory.specs.declared.presentation.Equation.{Equation}
use Rattle.cq_theory.specs.declared.term.EntTerm.{EntTerm}
use Rattle.cq_theory.specs.declared.term.TypeTerm.{TypeTerm}
use Rattle.cq_theory.specs.declared.term.TypeTerm.TheVariants as term
use Rattle.cq_theory.specs.declared.term.TypeTerm.TheOpen.{TypeTerm-F}
use Rattle.cq_theory.specs.declared.term.TypeTerm.TheFolds.{fold-TypeTerm}
use Rattle.cq_theory.specs.EntTerm.{alone, extended}
use Rattle.cq_theory.specs.Carried.{carried_step, carried_equation}

-- that many generators, from `first` on
abbrev pub generators_from : ℕ → ℕ → List EntTerm
generators_from first count = map alone (range_with_len first count)

-- a term that is there, or the first generator, which stands only for generators out of range
abbrev pub term_or_first : Option EntTerm → EntTerm
term_or_first None = alone 0
term_or_first (Some t) = t

module _ (terms : List EntTerm) where
  -- the term with number n in place of generator n
  abbrev pub put : EntTerm → EntTerm
  put t = extended (term_or_first (slice_get terms t.generator)) t.path

  abbrev pub put_type_step : TypeTerm-F TypeTerm → TypeTerm
  put_type_step = carried_step term.Gen (λ a t. term.Att a (put t))

  -- the same in a type term, whose entity generators alone are replaced
  abbrev pub put_type : TypeTerm → TypeTerm
  put_type = fold-TypeTerm TypeTerm put_type_step

  abbrev pub put_equation : Equation → Equation
  put_equation = carried_equation put put_type
