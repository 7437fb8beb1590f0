-- The test of values for equality.
use Rattle.std.specs.Prelude.{Bool, true, false, ◌==◌, ◌&&◌}
use base.Stored.{Gv, gnil, gnum, gcons}
use Rattle.cq_theory.specs.contracts.value.Value as value
use Rattle.cq_theory.specs.declared.value.Value.{Value}

-- the same tree of numbers
abbrev pub same_code : Gv → Gv → Bool
same_code gnil gnil = true
same_code (gnum m) (gnum n) = m == n
same_code (gcons a b) (gcons c d) = same_code a c && same_code b d
same_code _ _ = false

-- the same value: values are told apart by their codes, which are trees of numbers
unfoldable pub same_value : Value → Value → Bool
same_value v w = same_code (value.the_row.coded.code v) (value.the_row.coded.code w)
