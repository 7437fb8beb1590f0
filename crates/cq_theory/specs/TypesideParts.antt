-- The first fault of the parts of a typeside, and the typeside that they give.
use Rattle.std.specs.Prelude.{ℕ, Bool, List, [], ◌+◌, ◌||◌, if◌then◌else◌, map, length, Option, Some, None, is_none}
use Rattle.std.specs.List.{list_any}
use Rattle.cq_base.specs.declared.name.Name.{Name}
use Rattle.cq_base.specs.Names.{number_of}
use Rattle.cq_theory.specs.declared.refusal.TheoryRefusal.{TheoryRefusal}
use Rattle.cq_theory.specs.declared.refusal.TheoryRefusal.TheVariants.{Unknown, Reserved}
use Rattle.cq_theory.specs.declared.parts.TypesideParts.{TypesideParts}
use Rattle.cq_theory.specs.declared.typeside.Fun.{Fun}
use Rattle.cq_theory.specs.TypesideData.{TypesideData as Typeside}
use Rattle.cq_theory.specs.Typeside.{is_reserved}
use Rattle.cq_theory.specs.Resolve.{or_else}
use Rattle.cq_theory.specs.Declaring.{first_part_fault, duplicate_or, number_or_zero}

abbrev pub type_fault : List Name → ℕ → Name → Option TheoryRefusal
type_fault earlier n name = duplicate_or earlier n name None

-- the type of the constant isn't declared, or its text names no constant
abbrev pub constant_fault : List Name → List Name → ℕ → Name × Name → Option TheoryRefusal
constant_fault types earlier n part =
    duplicate_or earlier n part.0
    (if is_none (number_of types part.1) then Some (Unknown n)
    else (if is_reserved part.0 then Some (Reserved n)
    else None))

-- the open type, whose part is n, isn't declared
abbrev pub literals_fault : List Name → ℕ → Option Name → Option TheoryRefusal
literals_fault types n None = None
literals_fault types n (Some name) = if is_none (number_of types name) then Some (Unknown n) else None

-- the name of the open type is one part, where there is one
abbrev pub literals_count : Option Name → ℕ
literals_count None = 0
literals_count (Some name) = 1

abbrev pub first_constant : TypesideParts → ℕ
first_constant parts = length parts.types + literals_count parts.literals

abbrev pub has_unknown_type : List Name → List Name → Bool
has_unknown_type types names = list_any (λ name. is_none (number_of types name)) names

-- a type of the function isn't declared
abbrev pub function_fault : List Name → List Name → ℕ → Name × List Name × Name → Option TheoryRefusal
function_fault types earlier n part =
    duplicate_or earlier n part.0
    (if has_unknown_type types part.1 || is_none (number_of types part.2) then Some (Unknown n)
    else None)

abbrev pub types_fault : List Name → Option TheoryRefusal
types_fault types = first_part_fault (λ name. name) type_fault [] 0 types

abbrev pub constants_fault : List Name → ℕ → List (Name × Name) → Option TheoryRefusal
constants_fault types n constants = first_part_fault (λ part. part.0) (constant_fault types) [] n constants

abbrev pub functions_fault : List Name → ℕ → List (Name × List Name × Name) → Option TheoryRefusal
functions_fault types n functions = first_part_fault (λ part. part.0) (function_fault types) [] n functions

-- the first part that breaks a rule, with the least rule that it breaks: the types, then the open type, the constants and the functions
abbrev pub typeside_fault : TypesideParts → Option TheoryRefusal
typeside_fault parts =
    or_else (types_fault parts.types)
    (or_else (literals_fault parts.types (length parts.types) parts.literals)
    (or_else (constants_fault parts.types (first_constant parts) parts.constants)
    (functions_fault parts.types (first_constant parts + length parts.constants) parts.functions)))

abbrev pub type_number : List Name → Name → ℕ
type_number types name = number_or_zero (number_of types name)

abbrev pub open_number : List Name → Option Name → Option ℕ
open_number types None = None
open_number types (Some name) = number_of types name

abbrev pub made_constant : List Name → Name × Name → Name × ℕ
made_constant types part = (part.0, type_number types part.1)

abbrev pub made_function : List Name → Name × List Name × Name → Fun
made_function types part = record { name = part.0; args = map (type_number types) part.1; result = type_number types part.2 }

-- the typeside that the parts give, where they break no rule
abbrev pub typeside_made : TypesideParts → Typeside
typeside_made parts = record {
  types = parts.types;
  constants = map (made_constant parts.types) parts.constants;
  functions = map (made_function parts.types) parts.functions;
  open_type = open_number parts.types parts.literals;
}
