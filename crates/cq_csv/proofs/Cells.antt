-- What stands in an attribute's column.
use Rattle.std.proofs.Common.{ℕ, List, ◌++◌, ◌≡◌, refl, sym, subst}
use Rattle.std.specs.Prelude.{codes}
use Rattle.cq_theory.specs.TypesideData.{TypesideData as Typeside}
use Rattle.cq_theory.specs.declared.value.Value.{Value}
use Rattle.cq_theory.specs.declared.value.Value.TheVariants.{Fun}
use Rattle.cq_theory.specs.ValueText.{value_text}
use Rattle.cq_csv.specs.Files.{cell_field}

pub cell_field-built : (T : Typeside) (v : Value) (f : ℕ) (vs : List Value) → v ≡ Fun f vs → cell_field T v ≡ codes "=" ++ value_text T v
cell_field-built T v f vs is = subst (λ w. cell_field T w ≡ codes "=" ++ value_text T w) (sym is) refl
