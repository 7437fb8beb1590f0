-- Terms and equations whose generators stand behind others.
use Rattle.std.specs.Prelude.{ℕ, ◌+◌}
use Rattle.cq_theory.specs.declared.presentation.Equation.{Equation}
use Rattle.cq_theory.specs.declared.term.EntTerm.{EntTerm}
use Rattle.cq_theory.specs.declared.term.TypeTerm.{TypeTerm}
use Rattle.cq_theory.specs.declared.term.TypeTerm.TheVariants as term
use Rattle.cq_theory.specs.declared.term.TypeTerm.TheOpen.{TypeTerm-F}
use Rattle.cq_theory.specs.declared.term.TypeTerm.TheFolds.{fold-TypeTerm}
use Rattle.cq_theory.specs.declared.term.Term.{Term}
use Rattle.cq_theory.specs.Carried.{carried_step, carried_term, carried_equation}

-- each generator has `first` other generators before it
module _ (first : ℕ) where
  abbrev pub shifted_ent : EntTerm → EntTerm
  shifted_ent t = record { generator = first + t.generator; path = t.path }

  abbrev pub shifted_type_step : TypeTerm-F TypeTerm → TypeTerm
  shifted_type_step = carried_step (λ n. term.Gen (first + n)) (λ a t. term.Att a (shifted_ent t))

  abbrev pub shifted_type : TypeTerm → TypeTerm
  shifted_type = fold-TypeTerm TypeTerm shifted_type_step

  abbrev pub shifted_term : Term → Term
  shifted_term = carried_term shifted_ent shifted_type

  abbrev pub shifted_equation : Equation → Equation
  shifted_equation = carried_equation shifted_ent shifted_type
