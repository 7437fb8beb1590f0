-- The numbers of the names of parts.
use Rattle.std.proofs.Common.{List, [], ◌∷◌, ◌≡◌, refl, ap, ◌∙◌}
use Rattle.std.specs.Prelude.{option_and_then, slice_get}
use Rattle.cq_base.specs.declared.name.Name.{Name}
use Rattle.cq_base.specs.declared.raw.Raw.{Raw}
use Rattle.cq_base.specs.Names.{number_of}
use Rattle.cq_scope.specs.declared.names.Firsts.{Firsts}
use Rattle.cq_scope.specs.Firsts.{AreFirstsOf}
use Rattle.cq_terms.specs.Generators.{names_of}
use Rattle.cq_transform.specs.Images.{given}
use Rattle.cq_witness.specs.Images.{parts_as_generators}

names_given : (parts : List (Name × Raw)) → names_of (parts_as_generators parts) ≡ given parts
names_given [] = refl
names_given (part ∷ parts) = ap (λ (l : List Name). part.0 ∷ l) (names_given parts)

pub found_number : (parts : List (Name × Raw)) (firsts : Firsts) (name : Name) → AreFirstsOf (parts_as_generators parts) firsts
    → option_and_then (slice_get firsts.numbers) (number_of firsts.scope.names name) ≡ number_of (given parts) name
found_number parts firsts name are = are.finds name ∙ ap (λ (l : List Name). number_of l name) (names_given parts)
