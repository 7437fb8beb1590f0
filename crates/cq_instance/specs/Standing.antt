-- What a generator stands for.
use Rattle.cq_theory.specs.Tables.{Meaning, AtRow, AtValue}
use Rattle.cq_instance.specs.declared.standing.Standing.{Standing}
use Rattle.cq_instance.specs.declared.standing.Standing.TheVariants as standing

-- a row, or a value
abbrev pub meaning : Standing → Meaning
meaning (standing.Row r) = AtRow r
meaning (standing.Value v) = AtValue v
