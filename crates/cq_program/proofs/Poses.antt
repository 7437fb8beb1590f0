-- The first two checks of a declaration, and those of its body.
use Rattle.std.proofs.Common.{◌≡◌, Bool, true, false, Option, Some, None, refl, ap, ◌∙◌, sym}
use Rattle.std.specs.Prelude.{if◌then◌else◌, is_some, option_map, Ok, Err}
use Rattle.cq_base.specs.declared.place.Place.{Place}
use Rattle.cq_environment.specs.declared.reason.Reason.{Reason}
use Rattle.cq_syntax.specs.declared.program.Decl.{Decl}
use Rattle.cq_environment.specs.declared.reason.Reason.TheVariants.{NameTaken}
use Rattle.cq_environment.specs.Meanings.{Environment, Checked, meant_by}
use Rattle.cq_program.specs.Checks.{Stated, body_stated, stated_by}

-- a name that is found is declared
found : {X Y : Type 0} (f : X → Y) (o : Option X) → is_some (option_map f o) ≡ is_some o
found f None = refl
found f (Some x) = refl

pub is_declared : {X Y : Type 0} (f : X → Y) (o : Option X) (p : Option Y) (b : Bool) → option_map f o ≡ p → is_some o ≡ b → is_some p ≡ b
is_declared f o p b is h = ap is_some (sym is) ∙ found f o ∙ h

abbrev after_name : Environment → Decl → Bool → Checked Stated
after_name env d b = if b then Err (d.name_place, NameTaken) else body_stated env d.place d.name d.body

pub name_taken : (env : Environment) (d : Decl) → is_some (meant_by env d.name) ≡ true → stated_by env d ≡ Err (d.name_place, NameTaken)
unfolding stated_by
name_taken env d h = ap (after_name env d) h

pub stated_on : (env : Environment) (d : Decl) → is_some (meant_by env d.name) ≡ false → stated_by env d ≡ body_stated env d.place d.name d.body
unfolding stated_by
stated_on env d h = ap (after_name env d) h

fresh_at : (b : Bool) (body : Checked Stated) (stated : Stated) (p : Place × Reason) → (if b then Err p else body) ≡ Ok stated → b ≡ false
fresh_at true body stated p h = cc
fresh_at false body stated p h = refl

-- what is stated has a new name
pub fresh : (env : Environment) (d : Decl) (stated : Stated) → stated_by env d ≡ Ok stated → is_some (meant_by env d.name) ≡ false
unfolding stated_by
fresh env d stated h = fresh_at (is_some (meant_by env d.name)) (body_stated env d.place d.name d.body) stated (d.name_place, NameTaken) h
