-- Parts that declare names, one after another in one table.
use Rattle.std.specs.Prelude.{ℕ, List, [], ◌∷◌, ◌++◌, ◌+◌, if◌then◌else◌, Option, Some, None, is_some}
use Rattle.cq_base.specs.declared.name.Name.{Name}
use Rattle.cq_base.specs.Names.{number_of}
use Rattle.cq_theory.specs.declared.refusal.TheoryRefusal.{TheoryRefusal}
use Rattle.cq_theory.specs.declared.refusal.TheoryRefusal.TheVariants.{Duplicate}
use Rattle.cq_theory.specs.Resolve.{or_else}

-- The first of the parts, counted from n, that breaks a rule, with the least rule that it breaks.
-- The fault of a part is given by the names of the table before it and by its number.
abbrev pub first_part_fault : {X : Type 0} → (X → Name) → (List Name → ℕ → X → Option TheoryRefusal) → List Name → ℕ → List X
    → Option TheoryRefusal
first_part_fault name fault earlier n [] = None
first_part_fault name fault earlier n (x ∷ xs) = or_else (fault earlier n x)
    (first_part_fault name fault (earlier ++ name x ∷ []) (n + 1) xs)

-- part n declares a name that stands already in its table, or it breaks another rule
abbrev pub duplicate_or : List Name → ℕ → Name → Option TheoryRefusal → Option TheoryRefusal
duplicate_or earlier n name other = if is_some (number_of earlier name) then Some (Duplicate n) else other

-- a number that is there, or 0, which stands only in what parts with faults would give
abbrev pub number_or_zero : Option ℕ → ℕ
number_or_zero None = 0
number_or_zero (Some n) = n
