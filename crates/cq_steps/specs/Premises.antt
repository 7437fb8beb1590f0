-- Premises by how many they are.
use Rattle.std.specs.Prelude.{List, [], ◌∷◌, Option, None}
use Rattle.cq_theory.specs.declared.presentation.Equation.{Equation}

-- the one premise
abbrev pub only_of : List (Option Equation) → Option Equation
only_of (p ∷ []) = p
only_of _ = None

-- the two premises
abbrev pub both_of : List (Option Equation) → Option Equation × Option Equation
both_of (p ∷ q ∷ []) = (p, q)
both_of _ = (None, None)
