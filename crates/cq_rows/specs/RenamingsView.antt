-- The view of `Renamings`.
use Rattle.std.specs.Prelude.{ℕ, List}
use Rattle.cq_rows.specs.Forest.{renamed_by, AreClasses}
use Rattle.cq_rows.specs.declared.renamings.Renamings.TheInside.{Inside}

abbrev pub view_of : Inside → List ℕ
view_of n = renamed_by n.parent.items n.at.items

abbrev pub IsKept : Inside → Type 0
IsKept n = AreClasses n.parent.items n.at.items
