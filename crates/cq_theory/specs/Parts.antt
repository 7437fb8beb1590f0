-- The first fault of the parts of a presentation.
use Rattle.std.specs.Prelude.{ℕ, List, [], if◌then◌else◌, map, length, Option, Some, None, is_none, nat_le}
use Rattle.cq_base.specs.declared.name.Name.{Name}
use Rattle.cq_base.specs.declared.raw.Raw.{Raw}
use Rattle.cq_theory.specs.declared.presentation.Sort.{Sort}
use Rattle.cq_theory.specs.declared.presentation.Sort.TheVariants.{Plain}
use Rattle.cq_theory.specs.declared.refusal.TheoryRefusal.{TheoryRefusal}
use Rattle.cq_theory.specs.declared.refusal.TheoryRefusal.TheVariants.{Unknown, TooLarge}
use Rattle.cq_theory.specs.SchemaData.{SchemaData as Schema}
use Rattle.cq_theory.specs.declared.presentation.Equation.{Equation}
use Rattle.cq_theory.specs.declared.presentation.Equation.TheVariants.{Ent as EntEquation, Typ as TypEquation}
use Rattle.cq_theory.specs.declared.presentation.Presentation.{Presentation}
use Rattle.cq_theory.specs.declared.constant.Con.TheVariants.{Named}
use Rattle.cq_theory.specs.declared.term.TypeTerm.TheVariants.{Const}
use Rattle.cq_theory.specs.declared.term.Term.{Term}
use Rattle.cq_theory.specs.declared.term.Term.TheVariants.{Ent, Typ}
use Rattle.cq_theory.specs.Resolved.{resolved}
use Rattle.cq_theory.specs.Declaring.{first_part_fault, duplicate_or}
use Rattle.cq_theory.specs.Resolve.{or_else, sort_named, equation_fault, first_fault}

abbrev pub sort_or_first : Option Sort → Sort
sort_or_first None = Plain 0
sort_or_first (Some sort) = sort

-- the least rule that generator n breaks, after the earlier names
abbrev pub generator_fault : Schema → List Name → ℕ → Name × Name → Option TheoryRefusal
generator_fault S earlier n part =
    duplicate_or earlier n part.0
    (if is_none (sort_named S part.1) then Some (Unknown n)
    else (if nat_le 16000000 n then Some (TooLarge n)
    else None))

-- the first generator that breaks a rule, counted from n, with the least rule that it breaks
abbrev pub first_generator_fault : Schema → List Name → ℕ → List (Name × Name) → Option TheoryRefusal
first_generator_fault S earlier n parts = first_part_fault (λ part. part.0) (generator_fault S) earlier n parts

abbrev pub generator_names : List (Name × Name) → List Name
generator_names parts = map (λ part. part.0) parts

abbrev pub generator_sorts : Schema → List (Name × Name) → List Sort
generator_sorts S parts = map (λ part. sort_or_first (sort_named S part.1)) parts

-- the first part that breaks a rule, with the least rule that it breaks: the generators, and then the equations
abbrev pub presentation_fault : Schema → List (Name × Name) → List (Raw × Raw) → Option TheoryRefusal
presentation_fault S generators equations =
    or_else (first_generator_fault S [] 0 generators)
    (first_fault (equation_fault S (generator_names generators) (generator_sorts S generators)) (length generators) equations)

-- an equation of two terms of one kind; two of different kinds stand here only in parts that break a rule
abbrev pub equation_of : Term → Term → Equation
equation_of (Ent t) (Ent u) = EntEquation t u
equation_of (Typ t) (Typ u) = TypEquation t u
equation_of _ _ = TypEquation (Const (Named 0)) (Const (Named 0))

-- the presentation that the parts give, where they break no rule
abbrev pub presented : Schema → List (Name × Name) → List (Raw × Raw) → Presentation
presented S generators equations = record {
  generators = map (λ part. (part.0, sort_or_first (sort_named S part.1))) generators;
  equations = map (λ e. equation_of (resolved S (generator_names generators) (generator_sorts S generators) e.0)
      (resolved S (generator_names generators) (generator_sorts S generators) e.1)) equations;
}
