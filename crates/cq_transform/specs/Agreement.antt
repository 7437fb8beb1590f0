-- Homomorphisms that agree with what generators stand for.
use Rattle.std.specs.Prelude.{ℕ, List, Some, ◌≡◌, slice_get, slice_index_or}
use Rattle.cq_base.specs.declared.name.Name.{Name}
use Rattle.cq_theory.specs.declared.presentation.Sort.{Sort}
use Rattle.cq_theory.specs.declared.presentation.Sort.TheVariants.{Plain, Entity}
use Rattle.cq_theory.specs.declared.presentation.Presentation.{Presentation}
use Rattle.cq_theory.specs.declared.value.Value.{Value}
use Rattle.cq_theory.specs.SchemaData.{SchemaData as Schema}
use Rattle.cq_theory.specs.Tables.{Tables, Meaning, AtRow, AtValue, Assignment}
use Rattle.cq_theory.specs.Homomorphism.{row_image, value_image}

-- where rows and nulls send what a generator of this sort stands for
abbrev pub meaning_image : Schema → Tables → Tables → List (List ℕ) → List Value → Sort → Meaning → Meaning
meaning_image S M N rows nulls (Entity entity) (AtRow row) = AtRow (row_image S M N rows nulls entity row)
meaning_image S M N rows nulls (Plain type) (AtRow row) = AtRow row
meaning_image S M N rows nulls (Entity entity) (AtValue v) = AtValue (value_image S M N rows nulls v)
meaning_image S M N rows nulls (Plain type) (AtValue v) = AtValue (value_image S M N rows nulls v)

module _ (S : Schema) (P : Presentation) (M N : Tables) (A B : Assignment) (rows : List (List ℕ)) (nulls : List Value) where
  -- what each generator stands for in M is sent to what it stands for in N
  abbrev pub Agrees : Type 0
  Agrees = (n : ℕ) (g : Name × Sort) → slice_get P.generators n ≡ Some g
      → meaning_image S M N rows nulls g.1 (slice_index_or A n (AtRow 0)) ≡ slice_index_or B n (AtRow 0)
