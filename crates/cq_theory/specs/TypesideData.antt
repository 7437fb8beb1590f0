-- What contracts see of a typeside.
use Rattle.std.specs.Prelude.{ℕ, List, Option}
use Rattle.cq_base.specs.declared.name.Name.{Name}
use Rattle.cq_theory.specs.declared.typeside.Fun.{Fun}

pub record TypesideData : Type 0 where
  pub types : List Name
  pub constants : List (Name × ℕ)
  pub functions : List Fun
  pub open_type : Option ℕ
