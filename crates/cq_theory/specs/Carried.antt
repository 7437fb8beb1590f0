-- Terms carried along where generators, foreign keys and attributes are sent somewhere: substitution, images under a
-- mapping, translation by a query, gluing and composites are uses of this.
use Rattle.std.specs.Prelude.{ℕ}
use Rattle.cq_theory.specs.declared.presentation.Equation.{Equation}
use Rattle.cq_theory.specs.declared.presentation.Equation.TheVariants as equation
use Rattle.cq_theory.specs.declared.term.EntTerm.{EntTerm}
use Rattle.cq_theory.specs.declared.term.TypeTerm.{TypeTerm}
use Rattle.cq_theory.specs.declared.term.TypeTerm.TheVariants as term
use Rattle.cq_theory.specs.declared.term.TypeTerm.TheOpen.{TypeTerm-F, Gen, Const, Att, Fun}
use Rattle.cq_theory.specs.declared.term.Term.{Term}
use Rattle.cq_theory.specs.declared.term.Term.TheVariants.{Ent, Typ}

-- where a generator of a type goes, and an attribute of an entity term
module _ (generator : ℕ → TypeTerm) (attribute : ℕ → EntTerm → TypeTerm) where
  abbrev pub carried_step : TypeTerm-F TypeTerm → TypeTerm
  carried_step (Gen n) = generator n
  carried_step (Const c) = term.Const c
  carried_step (Att a t) = attribute a t
  carried_step (Fun f args) = term.Fun f args

-- where entity terms and type terms go
module _ (entity : EntTerm → EntTerm) (type : TypeTerm → TypeTerm) where
  abbrev pub carried_term : Term → Term
  carried_term (Ent t) = Ent (entity t)
  carried_term (Typ t) = Typ (type t)

  abbrev pub carried_equation : Equation → Equation
  carried_equation (equation.Ent t u) = equation.Ent (entity t) (entity u)
  carried_equation (equation.Typ t u) = equation.Typ (type t) (type u)
