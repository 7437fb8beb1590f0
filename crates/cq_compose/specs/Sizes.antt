-- Where a composite is refused.
use Rattle.std.specs.Prelude.{Bool, true, ◌≡◌}
use Rattle.cq_theory.specs.declared.refusal.SizeRefusal.{SizeRefusal}
use Rattle.cq_theory.specs.declared.refusal.SizeRefusal.TheVariants.{TooLarge, Memory}

-- the refusal tells that a limit is passed, or want of memory
abbrev pub TellsSize : Bool → SizeRefusal → Type 0
TellsSize passed TooLarge = passed ≡ true
TellsSize passed Memory = Unit {0}
