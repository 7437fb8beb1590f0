-- The parts of literals, and the place of each. A name in a group is a part of its own.
use Rattle.std.specs.Prelude.{ℕ, List, ◌∷◌, ◌+◌, ◌++◌, map, length, sum_by, Option, option_map, option_to_list}
use Rattle.std.specs.List.{flat_map, enumerate_from}
use Rattle.cq_base.specs.declared.name.Name.{Name}
use Rattle.cq_base.specs.declared.place.Place.{Place}
use Rattle.cq_base.specs.declared.raw.Raw.{Raw}
use Rattle.cq_syntax.specs.declared.part.Spot.{Spot}
use Rattle.cq_syntax.specs.declared.part.GroupSyn.{GroupSyn}
use Rattle.cq_syntax.specs.declared.part.EdgeSyn.{EdgeSyn}
use Rattle.cq_syntax.specs.declared.part.FunSyn.{FunSyn}
use Rattle.cq_syntax.specs.declared.part.EqSyn.{EqSyn}
use Rattle.cq_syntax.specs.declared.part.PathEqSyn.{PathEqSyn}
use Rattle.cq_syntax.specs.declared.part.ObsSyn.{ObsSyn}
use Rattle.cq_syntax.specs.declared.part.Bind.{Bind}
use Rattle.cq_syntax.specs.declared.literal.TypesideLit.{TypesideLit}
use Rattle.cq_syntax.specs.declared.literal.SchemaLit.{SchemaLit}
use Rattle.cq_syntax.specs.declared.literal.ColimitLit.{ColimitLit}
use Rattle.cq_syntax.specs.declared.literal.InstanceLit.{InstanceLit}
use Rattle.cq_syntax.specs.declared.literal.KeyImage.{KeyImage}
use Rattle.cq_syntax.specs.declared.literal.AttSyn.{AttSyn}
use Rattle.cq_syntax.specs.declared.literal.AttSyn.TheVariants.{Path, Lambda}
use Rattle.cq_syntax.specs.declared.literal.AttImage.{AttImage}
use Rattle.cq_syntax.specs.declared.literal.MapBlock.{MapBlock}
use Rattle.cq_syntax.specs.declared.literal.MappingLit.{MappingLit}
use Rattle.cq_syntax.specs.declared.literal.QueryKey.{QueryKey}
use Rattle.cq_syntax.specs.declared.literal.QueryBlock.{QueryBlock}
use Rattle.cq_syntax.specs.declared.literal.QueryLit.{QueryLit}
use Rattle.cq_syntax.specs.declared.literal.TransformLit.{TransformLit}
use Rattle.cq_theory.specs.TypesideParts.{literals_count}
use Rattle.cq_theory.specs.declared.parts.ObsPart.{ObsPart}
use Rattle.cq_theory.specs.declared.parts.TypesideParts.{TypesideParts}
use Rattle.cq_theory.specs.declared.parts.SchemaParts.{SchemaParts}
use Rattle.cq_theory.specs.declared.parts.PresentationParts.{PresentationParts}
use Rattle.cq_theory.specs.declared.parts.ArrowImage.{ArrowImage}
use Rattle.cq_theory.specs.declared.parts.ArrowImage.TheVariants as image
use Rattle.cq_theory.specs.declared.parts.ArrowPart.{ArrowPart}
use Rattle.cq_theory.specs.declared.parts.MappingParts.{MappingParts}
use Rattle.cq_theory.specs.declared.parts.ColimitParts.{ColimitParts}
use Rattle.cq_blocks.specs.declared.parts.Clause.{Clause}
use Rattle.cq_blocks.specs.declared.parts.Clause.TheVariants as clause
use Rattle.cq_blocks.specs.declared.parts.QueryParts.{QueryParts}

abbrev pub names_of : List Spot → List Name
names_of spots = map (λ spot. spot.name) spots

abbrev pub name_of : Option Spot → Option Name
name_of = option_map (λ spot. spot.name)

abbrev pub places_of : List Spot → List Place
places_of spots = map (λ spot. spot.place) spots

-- Each name of a group, with what the group says of it.
abbrev pub group_parts : GroupSyn → List (Name × Name)
group_parts g = map (λ spot. (spot.name, g.sort)) g.names

abbrev pub function_parts : FunSyn → List (Name × List Name × Name)
function_parts f = map (λ spot. (spot.name, f.args, f.result)) f.names

abbrev pub edge_parts : EdgeSyn → List (Name × Name × Name)
edge_parts e = map (λ spot. (spot.name, e.from, e.to)) e.names

abbrev pub path_eq_part : PathEqSyn → List Name × List Name
path_eq_part e = (e.left.names, e.right.names)

abbrev pub observation_part : ObsSyn → ObsPart
observation_part e = record { variable = e.variable; entity = e.entity; left = e.left.raw; right = e.right.raw }

abbrev pub equation_part : EqSyn → Raw × Raw
equation_part e = (e.left.raw, e.right.raw)

-- the image of an attribute
abbrev pub attribute_image : AttSyn → ArrowImage
attribute_image (Path path) = image.Path path.names
attribute_image (Lambda variable entity term) = image.Lambda variable entity term.raw

-- an image of a foreign key or an attribute, in the block of an entity
abbrev pub key_part : Name → KeyImage → ArrowPart
key_part block k = record { block = block; name = k.name; image = image.Key k.image.names }

abbrev pub attribute_part : Name → AttImage → ArrowPart
attribute_part block a = record { block = block; name = a.name; image = attribute_image a.image }

abbrev pub arrow_parts : MapBlock → List ArrowPart
arrow_parts b = map (key_part b.entity) b.keys ++ map (attribute_part b.entity) b.attributes

-- the place of each name of a group
abbrev pub group_places : GroupSyn → List Place
group_places g = places_of g.names

abbrev pub function_places : FunSyn → List Place
function_places f = places_of f.names

abbrev pub edge_places : EdgeSyn → List Place
edge_places e = places_of e.names

-- an equation stands at its first token
abbrev pub path_eq_place : PathEqSyn → Place
path_eq_place e = e.left.place

abbrev pub equation_place : EqSyn → Place
equation_place e = e.left.place

-- an image stands at the name of its foreign key or attribute
abbrev pub arrow_places : MapBlock → List Place
arrow_places b = map (λ k. k.place) b.keys ++ map (λ a. a.place) b.attributes

-- The parts that a literal gives, the places of these parts in the order in which they are numbered, and how many they are.
unfoldable pub typeside_parts : TypesideLit → TypesideParts
typeside_parts t = record {
  types = names_of t.types;
  literals = name_of t.literals;
  constants = flat_map group_parts t.constants;
  functions = flat_map function_parts t.functions;
}

unfoldable pub typeside_places : TypesideLit → List Place
typeside_places t =
    places_of t.types ++ places_of (option_to_list t.literals) ++ flat_map group_places t.constants
    ++ flat_map function_places t.functions

abbrev pub typeside_count : TypesideLit → ℕ
typeside_count t =
    length t.types + literals_count (name_of t.literals) + sum_by (λ g. length g.names) t.constants
    + sum_by (λ f. length f.names) t.functions

unfoldable pub schema_parts : SchemaLit → SchemaParts
schema_parts s = record {
  entities = names_of s.entities;
  keys = flat_map edge_parts s.keys;
  path_eqs = map path_eq_part s.path_eqs;
  attributes = flat_map edge_parts s.attributes;
  obs_eqs = map observation_part s.obs_eqs;
}

unfoldable pub schema_places : SchemaLit → List Place
schema_places s =
    places_of s.entities ++ flat_map edge_places s.keys ++ map path_eq_place s.path_eqs
    ++ flat_map edge_places s.attributes ++ map (λ e. e.place) s.obs_eqs

abbrev pub schema_count : SchemaLit → ℕ
schema_count s =
    length s.entities + sum_by (λ e. length e.names) s.keys + length s.path_eqs
    + sum_by (λ e. length e.names) s.attributes + length s.obs_eqs

-- the pairs of entities that are one, and the added equations
unfoldable pub colimit_parts : ColimitLit → ColimitParts
colimit_parts c = record {
  pairs = map (λ p. (p.left, p.right)) c.pairs;
  path_eqs = map path_eq_part c.path_eqs;
  obs_eqs = map observation_part c.obs_eqs;
}

-- a schema stands at its name, and a pair at its first token
unfoldable pub colimit_places : ColimitLit → List Place
colimit_places c = places_of c.parts ++ map (λ p. p.place) c.pairs ++ map path_eq_place c.path_eqs ++ map (λ e. e.place) c.obs_eqs

abbrev pub colimit_count : ColimitLit → ℕ
colimit_count c = length c.parts + length c.pairs + length c.path_eqs + length c.obs_eqs

unfoldable pub instance_parts : InstanceLit → PresentationParts
instance_parts i = record { generators = flat_map group_parts i.generators; equations = map equation_part i.equations }

unfoldable pub instance_places : InstanceLit → List Place
instance_places i = flat_map group_places i.generators ++ map equation_place i.equations

abbrev pub instance_count : InstanceLit → ℕ
instance_count i = sum_by (λ g. length g.names) i.generators + length i.equations

-- the image of each block's entity, and then the images of foreign keys and attributes, block by block
unfoldable pub mapping_parts : MappingLit → MappingParts
mapping_parts m = record { entities = map (λ b. (b.entity, b.image)) m.blocks; arrows = flat_map arrow_parts m.blocks }

-- the image of an entity stands at its block
unfoldable pub mapping_places : MappingLit → List Place
mapping_places m = map (λ b. b.place) m.blocks ++ flat_map arrow_places m.blocks

abbrev pub mapping_count : MappingLit → ℕ
mapping_count m = length m.blocks + sum_by (λ b. length b.keys + length b.attributes) m.blocks

-- Each variable and each clause of a block, with the number of the block. A foreign key is a clause, and each term that it assigns one
-- more.
abbrev pub variable_parts : ℕ → GroupSyn → List (ℕ × Name × Name)
variable_parts block g = map (λ spot. (block, spot.name, g.sort)) g.names

abbrev pub test_clause : ℕ → EqSyn → ℕ × Clause
test_clause block e = (block, clause.Test e.left.raw e.right.raw)

abbrev pub attribute_clause : ℕ → Bind → ℕ × Clause
attribute_clause block b = (block, clause.Att b.name b.term.raw)

abbrev pub assign_clause : ℕ → Name → Bind → ℕ × Clause
assign_clause block key b = (block, clause.Assign key b.name b.term.raw)

abbrev pub key_clauses : ℕ → QueryKey → List (ℕ × Clause)
key_clauses block k = (block, clause.Key k.name) ∷ map (assign_clause block k.name) k.assigns

abbrev pub block_variables : ℕ × QueryBlock → List (ℕ × Name × Name)
block_variables numbered = flat_map (variable_parts numbered.0) numbered.1.vars

abbrev pub block_clauses : ℕ × QueryBlock → List (ℕ × Clause)
block_clauses numbered =
    map (test_clause numbered.0) numbered.1.tests ++ map (attribute_clause numbered.0) numbered.1.attributes
    ++ flat_map (key_clauses numbered.0) numbered.1.keys

-- the entity of each block, then the variables and then the clauses, block by block
unfoldable pub query_parts : QueryLit → QueryParts
query_parts q = record {
  entities = map (λ b. b.entity) q.blocks;
  vars = flat_map block_variables (enumerate_from 0 q.blocks);
  clauses = flat_map block_clauses (enumerate_from 0 q.blocks);
}

abbrev pub variable_places : QueryBlock → List Place
variable_places b = flat_map group_places b.vars

abbrev pub key_places : QueryKey → List Place
key_places k = k.place ∷ map (λ b. b.place) k.assigns

abbrev pub clause_places : QueryBlock → List Place
clause_places b = map equation_place b.tests ++ map (λ a. a.place) b.attributes ++ flat_map key_places b.keys

unfoldable pub query_places : QueryLit → List Place
query_places q = map (λ b. b.place) q.blocks ++ flat_map variable_places q.blocks ++ flat_map clause_places q.blocks

abbrev pub variable_count : QueryBlock → ℕ
variable_count b = sum_by (λ g. length g.names) b.vars

abbrev pub key_count : QueryKey → ℕ
key_count k = length k.assigns + 1

abbrev pub clause_count : QueryBlock → ℕ
clause_count b = length b.tests + length b.attributes + sum_by key_count b.keys

abbrev pub query_count : QueryLit → ℕ
query_count q = length q.blocks + sum_by variable_count q.blocks + sum_by clause_count q.blocks

-- the image of each generator
unfoldable pub transform_parts : TransformLit → List (Name × Raw)
transform_parts t = map (λ b. (b.name, b.term.raw)) t.images

-- an image stands at the name of its generator
unfoldable pub transform_places : TransformLit → List Place
transform_places t = map (λ b. b.place) t.images

abbrev pub transform_count : TransformLit → ℕ
transform_count t = length t.images
