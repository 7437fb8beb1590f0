-- The first fault of the parts of a colimit.
use Rattle.std.specs.Prelude.{ℕ, Bool, List, [], ◌+◌, if◌then◌else◌, nat_lt, length, map, sum, Option, Some, None, option_map}
use Rattle.cq_base.specs.declared.name.Name.{Name}
use Rattle.cq_theory.specs.declared.refusal.TheoryRefusal.{TheoryRefusal}
use Rattle.cq_theory.specs.declared.refusal.TheoryRefusal.TheVariants as theory
use Rattle.cq_theory.specs.SchemaData.{SchemaData as Schema}
use Rattle.cq_theory.specs.TypesideData.{TypesideData as Typeside}
use Rattle.cq_theory.specs.Typeside.{function_names}
use Rattle.cq_theory.specs.Resolve.{or_else}
use Rattle.cq_theory.specs.Declaring.{first_part_fault, duplicate_or}
use Rattle.cq_theory.specs.Paths.{is_among}
use Rattle.cq_theory.specs.SchemaParts.{path_eqs_fault, observations_fault, extended}
use Rattle.cq_colimit.specs.declared.refusal.ColimitRefusal.{ColimitRefusal}
use Rattle.cq_colimit.specs.declared.refusal.ColimitRefusal.TheVariants.{Duplicate, Unknown, WrongCount, WrongSort, Reserved, TooLarge}
use Rattle.cq_colimit.specs.declared.refusal.ColimitRefusal.TheVariants.{NameClash, LongName, TooMany, Memory}
use Rattle.cq_theory.specs.declared.parts.ColimitParts.{ColimitParts}
use Rattle.cq_colimit.specs.PlacedData.{PlacedData as Placed}
use Rattle.cq_colimit.specs.Placing.{Part, placed}
use Rattle.cq_colimit.specs.Ends.{pairs_fault}
use Rattle.cq_colimit.specs.Clashes.{given_entities, given_arrows, least_giver, least_clash}
use Rattle.cq_colimit.specs.Joined.{links_in, entities_of, attributes_of, keyed}

-- the same refusal, of a colimit
abbrev pub of_colimit : TheoryRefusal → ColimitRefusal
of_colimit (theory.Duplicate n) = Duplicate n
of_colimit (theory.Unknown n) = Unknown n
of_colimit (theory.WrongCount n) = WrongCount n
of_colimit (theory.WrongSort n) = WrongSort n
of_colimit (theory.Reserved n) = Reserved n
of_colimit (theory.TooLarge n) = TooLarge n
of_colimit theory.Memory = Memory

-- a part whose name an earlier part has
abbrev pub name_fault : List Name → ℕ → Part → Option TheoryRefusal
name_fault earlier n part = duplicate_or earlier n part.0 None

abbrev pub names_fault : List Part → Option TheoryRefusal
names_fault parts = first_part_fault (λ part. part.0) name_fault [] 0 parts

-- how many entities, foreign keys, attributes and equations a schema has
abbrev pub size_of : Schema → ℕ
size_of S = length S.entities + length S.keys + length S.attributes + length S.path_eqs + length S.obs_eqs

abbrev pub sizes_of : List Schema → ℕ
sizes_of schemas = sum (map size_of schemas)

-- those of the parts, and the added equations
abbrev pub joined_size : List Part → ColimitParts → ℕ
joined_size parts joins = sizes_of (map (λ part. part.1) parts) + length joins.path_eqs + length joins.obs_eqs

abbrev pub size_fault : List Part → ColimitParts → Option ColimitRefusal
size_fault parts joins = if nat_lt 1000000 (joined_size parts joins) then Some TooMany else None

-- two joined names of one table are equal
abbrev pub double_name : List (Name × ℕ) → List (Name × ℕ) → Option (ℕ × ℕ)
double_name entities arrows = least_clash (least_clash None [] entities) [] arrows

-- a joined name stands in its own table as a name of the typeside
abbrev pub typeside_name : Typeside → List (Name × ℕ) → List (Name × ℕ) → Option ℕ
typeside_name T entities arrows = least_giver (λ given. is_among (function_names T) given.0)
    (least_giver (λ given. is_among T.types given.0) None entities) arrows

abbrev pub clash_fault : Typeside → List (Name × ℕ) → List (Name × ℕ) → Option ColimitRefusal
clash_fault T entities arrows = or_else (option_map (λ p. NameClash p.0 p.1) (double_name entities arrows))
    (option_map (λ p. NameClash p p) (typeside_name T entities arrows))

-- a joined name has over 255 bytes
abbrev pub is_long : Name × ℕ → Bool
is_long given = nat_lt 255 (length given.0)

abbrev pub long_fault : List (Name × ℕ) → List (Name × ℕ) → Option ColimitRefusal
long_fault entities arrows = option_map LongName (least_giver is_long (least_giver is_long None entities) arrows)

-- the faults of joined names
unfoldable pub given_fault : Typeside → List (Name × ℕ) → List (Name × ℕ) → Option ColimitRefusal
given_fault T entities arrows = or_else (clash_fault T entities arrows) (long_fault entities arrows)

-- the faults of the added equations, the first of which is part n, over the schema of joined entities and foreign keys
unfoldable pub added_fault : Schema → List (Name × Name × Name) → ℕ → ColimitParts → Option TheoryRefusal
added_fault K attributes n joins =
    or_else (path_eqs_fault K attributes n joins.path_eqs)
    (observations_fault (extended K joins.path_eqs attributes []) (n + length joins.path_eqs) joins.obs_eqs)

-- the faults after those of part names and sizes, over some pairs of entities that are one
abbrev pub joining_fault : Typeside → List Placed → List (ℕ × ℕ) → ℕ → ColimitParts → Option ColimitRefusal
joining_fault T parts links n joins =
    or_else (option_map of_colimit (pairs_fault parts n joins.pairs))
    (or_else (given_fault T (given_entities links parts) (given_arrows parts))
    (option_map of_colimit (added_fault (keyed links T parts) (attributes_of links (entities_of links parts) parts)
    (n + length joins.pairs) joins)))

-- The first fault: equal names of parts, the sizes, the pairs, the joined names, and then the added equations. The parts of the call
-- are the names of parts, the pairs, the path equations and the observation equations.
unfoldable pub colimit_fault : Typeside → List Part → ColimitParts → Option ColimitRefusal
colimit_fault T parts joins =
    or_else (option_map of_colimit (names_fault parts))
    (or_else (size_fault parts joins)
    (joining_fault T (placed parts) (links_in parts joins) (length parts) joins))
