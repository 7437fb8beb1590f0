-- Tests of where equations, and how many variables they need.
use Rattle.std.specs.Prelude.{ℕ, Bool, List, ◌+◌, ◌==◌, map, min, max}
use Rattle.cq_theory.specs.declared.term.EntTerm.{EntTerm}
use Rattle.cq_theory.specs.declared.term.TypeTerm.{TypeTerm}
use Rattle.cq_theory.specs.declared.term.TypeTerm.TheOpen.{TypeTerm-F, Gen, Const, Att, Fun}
use Rattle.cq_theory.specs.declared.term.TypeTerm.TheFolds.{fold-TypeTerm}
use Rattle.cq_theory.specs.declared.presentation.Equation.{Equation}
use Rattle.cq_theory.specs.declared.presentation.Equation.TheVariants.{Ent, Typ}
use Rattle.cq_theory.specs.Term.{greatest}
use Rattle.cq_theory.specs.SchemaData.{SchemaData as Schema}
use Rattle.cq_theory.specs.Tables.{Tables, AtRow, Assignment, row_of, value_of}
use Rattle.cq_instance.specs.SameValue.{same_value}
use Rattle.cq_instance.specs.Terms.{IsEntTermOf, IsTypeTermOf}

module _ (M : Tables) (rows : List ℕ) where
  -- the variables stand for these rows
  abbrev at_rows : Assignment
  at_rows = map AtRow rows

  -- the where equation holds
  abbrev pub holds_at : Equation → Bool
  holds_at (Ent t u) = row_of M at_rows t == row_of M at_rows u
  holds_at (Typ t u) = same_value (value_of M at_rows t) (value_of M at_rows u)

-- the sides are terms over variables that stand for these rows
abbrev pub IsTestAt : Schema → Tables → List ℕ → Equation → Type 0
IsTestAt S M rows (Ent t u) = (entity : ℕ) × IsEntTermOf S M (map AtRow rows) t entity
    × IsEntTermOf S M (map AtRow rows) u entity
IsTestAt S M rows (Typ t u) = (type : ℕ) × IsTypeTermOf S M (map AtRow rows) t type
    × IsTypeTermOf S M (map AtRow rows) u type

-- how many of the first variables a term needs
abbrev pub reach_of_entity : EntTerm → ℕ
reach_of_entity t = t.generator + 1

abbrev pub reach_step : TypeTerm-F ℕ → ℕ
reach_step (Gen n) = n + 1
reach_step (Const c) = 0
reach_step (Att a t) = reach_of_entity t
reach_step (Fun f reaches) = greatest reaches

abbrev pub reach_of : TypeTerm → ℕ
reach_of = fold-TypeTerm ℕ reach_step

abbrev pub reach : Equation → ℕ
reach (Ent t u) = max (reach_of_entity t) (reach_of_entity u)
reach (Typ t u) = max (reach_of t) (reach_of u)

-- when a where equation is tested: as soon as the variables that it needs are bound, and at the latest when all are
abbrev pub stage : ℕ → Equation → ℕ
stage width e = min width (reach e)
