-- Well-sorted equations.
use Rattle.std.specs.Prelude.{ℕ, List, Some, ◌≡◌, slice_get}
use Rattle.cq_theory.specs.declared.presentation.Sort.{Sort}
use Rattle.cq_theory.specs.declared.presentation.Equation.{Equation}
use Rattle.cq_theory.specs.SchemaData.{SchemaData as Schema}
use Rattle.cq_theory.specs.Derivation.{left_of, right_of}
use Rattle.cq_theory.specs.Sorts.{Generators, sort_of}

-- both sides are terms of one sort over the generators
pub record HasOneSort (S : Schema) (G : Generators) (e : Equation) : Type 0 where
  pub sort : Sort
  pub left : sort_of S G (left_of e) ≡ Some sort
  pub right : sort_of S G (right_of e) ≡ Some sort

abbrev pub AreSorted : Schema → Generators → List Equation → Type 0
AreSorted S G equations = (n : ℕ) (e : Equation) → slice_get equations n ≡ Some e → HasOneSort S G e
