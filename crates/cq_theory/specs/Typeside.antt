-- Well-sorted typesides, and the types of constants.
use Rattle.std.specs.Prelude.{ℕ, Bool, true, false, List, [], ◌∷◌, Option, None, ◌≡◌, ◌<◌, ◌^◌, ◌==◌, ◌||◌, if◌then◌else◌, is_some}
use Rattle.std.specs.Prelude.{option_map, slice_get, map, length, All, IfSome}
use Rattle.cq_base.specs.declared.name.Name.{Name}
use Rattle.cq_base.specs.Names.{AreDistinct, number_of}
use Rattle.cq_theory.specs.declared.constant.Con.{Con}
use Rattle.cq_theory.specs.declared.constant.Con.TheVariants.{Named, Open}
use Rattle.cq_theory.specs.TypesideData.{TypesideData as Typeside}

abbrev pub constant_names : Typeside → List Name
constant_names T = map (λ constant. constant.0) T.constants

abbrev pub function_names : Typeside → List Name
function_names T = map (λ f. f.name) T.functions

-- a text that names no constant: the empty one, and each that begins with `?` or `=`
abbrev pub is_reserved : Name → Bool
is_reserved [] = true
is_reserved (byte ∷ bytes) = (byte == 63) || (byte == 61)

-- The type of a constant. A text is a constant of the open type, where there is one, the text isn't reserved and no declared constant has
-- it.
-- As a name it has at most 255 bytes of UTF-8.
abbrev pub constant_type : Typeside → Con → Option ℕ
constant_type T (Named n) = option_map (λ constant. constant.1) (slice_get T.constants n)
constant_type T (Open text) = if is_reserved text || is_some (number_of (constant_names T) text) then None else T.open_type

-- The names of each table are distinct, each type that a constant or a function has is one of the types, and so is the open type,
-- and the lists are short enough for numbers of 32 bits.
pub record IsTypeside (T : Typeside) : Type 0 where
  pub type_numbers : length T.types < 2 ^ 32
  pub constant_numbers : length T.constants < 2 ^ 32
  pub function_numbers : length T.functions < 2 ^ 32
  pub distinct_types : AreDistinct T.types
  pub distinct_constants : AreDistinct (constant_names T)
  pub distinct_functions : AreDistinct (function_names T)
  pub unreserved : All (λ constant. is_reserved constant.0 ≡ false) T.constants
  pub constants : All (λ constant. constant.1 < length T.types) T.constants
  pub functions : All (λ f. All (λ type. type < length T.types) f.args × (f.result < length T.types)) T.functions
  pub open_type : IfSome T.open_type (λ type. type < length T.types)
