-- Refusals of parts by other numbers.
use Rattle.std.specs.Prelude.{ℕ}
use Rattle.cq_theory.specs.declared.refusal.TheoryRefusal.{TheoryRefusal}
use Rattle.cq_theory.specs.declared.refusal.TheoryRefusal.TheVariants.{Duplicate, Unknown, WrongCount, WrongSort}
use Rattle.cq_theory.specs.declared.refusal.TheoryRefusal.TheVariants.{Reserved, TooLarge, Memory}

-- the number of the part that breaks a rule
abbrev pub number_in : TheoryRefusal → ℕ
number_in (Duplicate n) = n
number_in (Unknown n) = n
number_in (WrongCount n) = n
number_in (WrongSort n) = n
number_in (Reserved n) = n
number_in (TooLarge n) = n
number_in Memory = 0

-- the same rule, broken by another part
abbrev pub with_part : ℕ → TheoryRefusal → TheoryRefusal
with_part m (Duplicate n) = Duplicate m
with_part m (Unknown n) = Unknown m
with_part m (WrongCount n) = WrongCount m
with_part m (WrongSort n) = WrongSort m
with_part m (Reserved n) = Reserved m
with_part m (TooLarge n) = TooLarge m
with_part m Memory = Memory
