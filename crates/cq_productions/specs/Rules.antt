-- Parts of productions that the parser reads by a function of their own.
use Rattle.std.specs.Prelude.{List, Option}
use Rattle.cq_base.specs.declared.name.Name.{Name}
use Rattle.cq_rules.specs.declared.class.Class.TheVariants as classes
use Rattle.cq_rules.specs.Class.{is}
use Rattle.cq_rules.specs.Rule.{Rule, ends, many, section, separated, seq, skip, some}
use Rattle.cq_syntax.specs.declared.literal.AttImage.{AttImage}
use Rattle.cq_syntax.specs.declared.literal.KeyImage.{KeyImage}
use Rattle.cq_syntax.specs.declared.literal.MapBlock.{MapBlock}
use Rattle.cq_syntax.specs.declared.literal.QueryBlock.{QueryBlock}
use Rattle.cq_syntax.specs.declared.literal.QueryKey.{QueryKey}
use Rattle.cq_syntax.specs.declared.part.Bind.{Bind}
use Rattle.cq_syntax.specs.declared.part.EdgeSyn.{EdgeSyn}
use Rattle.cq_syntax.specs.declared.part.EqSyn.{EqSyn}
use Rattle.cq_syntax.specs.declared.part.GroupSyn.{GroupSyn}
use Rattle.cq_syntax.specs.declared.part.ObsSyn.{ObsSyn}
use Rattle.cq_syntax.specs.declared.part.Opt.{Opt}
use Rattle.cq_syntax.specs.declared.part.PairSyn.{PairSyn}
use Rattle.cq_syntax.specs.declared.part.PathEqSyn.{PathEqSyn}
use Rattle.cq_syntax.specs.declared.part.Spot.{Spot}
use Rattle.cq_syntax.specs.declared.part.TermSyn.{TermSyn}
use Rattle.cq_syntax.specs.Grammar.{att_image, bind, edge, equation, group, in_braces, key_image, map_block, name, observation, options}
use Rattle.cq_syntax.specs.Grammar.{of_entity, pair, path_equation, placed_term, query_block, query_key, spot, value}
use Rattle.cq_syntax.specs.LeftOut.{section_words}

-- "," NAME
abbrev pub comma_name : Rule Name
comma_name = skip (is classes.Comma) name

-- "+" NAME
abbrev pub plus_spot : Rule Spot
plus_spot = skip (is classes.Plus) spot

-- options "}"
abbrev pub typeside_end : Rule (List Opt)
typeside_end = ends options section_words (is classes.RightBrace)

-- NAME {NAME}
abbrev pub spots : Rule (List Spot)
spots = some spot

-- (NAME | TEXT) {NAME | TEXT}
abbrev pub values : Rule (List Spot)
values = some value

-- NAME {"+" NAME}
abbrev pub summands : Rule (List Spot)
summands = separated (is classes.Plus) spot

-- NAME {"," NAME}
abbrev pub arguments : Rule (List Name)
arguments = separated (is classes.Comma) name

-- NAME {"," NAME} "->" NAME
abbrev pub signature : Rule (List Name × Name)
signature = seq arguments (skip (is classes.Arrow) name)

-- NAME "->" NAME
abbrev pub ends_of_edge : Rule (Name × Name)
ends_of_edge = seq name (skip (is classes.Arrow) name)

-- term "=" term
abbrev pub sides : Rule (TermSyn × TermSyn)
sides = seq placed_term (skip (is classes.Equals) placed_term)

-- NAME [":" NAME] "." and what is said of it
abbrev pub bound : {A : Type 0} → Rule A → Rule (Name × (Option Name × A))
bound g = seq name (seq of_entity (skip (is classes.Dot) g))

-- ":" NAME, and a production in braces
abbrev pub over : {A : Type 0} → Rule A → Rule (Spot × A)
over g = skip (is classes.Colon) (seq spot (in_braces g))

-- ":" NAME "->" NAME, and a production in braces
abbrev pub between : {A : Type 0} → Rule A → Rule (Spot × (Spot × A))
between g = skip (is classes.Colon) (seq spot (skip (is classes.Arrow) (seq spot (in_braces g))))

-- NAME "->", and a production in braces
abbrev pub given : {A : Type 0} → Rule A → Rule (Name × A)
given g = seq name (skip (is classes.Arrow) (in_braces g))

-- the sections of a schema, from its observation equations, attributes, path equations, keys and entities on
abbrev pub from_observations : Rule (List ObsSyn × List Opt)
from_observations = seq (section (is classes.ObservationEquations) observation) options

abbrev pub from_attributes : Rule (List EdgeSyn × (List ObsSyn × List Opt))
from_attributes = seq (section (is classes.Attributes) edge) from_observations

abbrev pub from_paths : Rule (List PathEqSyn × (List EdgeSyn × (List ObsSyn × List Opt)))
from_paths = seq (section (is classes.PathEquations) path_equation) from_attributes

abbrev pub from_keys : Rule (List EdgeSyn × (List PathEqSyn × (List EdgeSyn × (List ObsSyn × List Opt))))
from_keys = seq (section (is classes.ForeignKeys) edge) from_paths

abbrev pub from_entities : Rule (List Spot × (List EdgeSyn × (List PathEqSyn × (List EdgeSyn × (List ObsSyn × List Opt)))))
from_entities = seq (section (is classes.Entities) spot) from_keys

-- the sections of a colimit, from its path equations and its pairs on
abbrev pub colimit_from_paths : Rule (List PathEqSyn × (List ObsSyn × List Opt))
colimit_from_paths = seq (section (is classes.PathEquations) path_equation) from_observations

abbrev pub from_pairs : Rule (List PairSyn × (List PathEqSyn × (List ObsSyn × List Opt)))
from_pairs = seq (section (is classes.EntityEquations) pair) colimit_from_paths

-- the sections of an instance, from its equations and its generators on
abbrev pub from_equations : Rule (List EqSyn × List Opt)
from_equations = seq (section (is classes.Equations) equation) options

abbrev pub from_generators : Rule (List GroupSyn × (List EqSyn × List Opt))
from_generators = seq (section (is classes.Generators) group) from_equations

-- the section of a transform, and its options
abbrev pub images : Rule (List Bind × List Opt)
images = seq (section (is classes.Generators) bind) options

-- what moves a transform, and what is moved
abbrev pub operands : Rule (Spot × Spot)
operands = seq spot spot

-- NAME "->" NAME
abbrev pub two_ends : Rule (Spot × Spot)
two_ends = seq spot (skip (is classes.Arrow) spot)

-- NAME NAME ":" NAME "->" NAME
abbrev pub moved_between : Rule ((Spot × Spot) × (Spot × Spot))
moved_between = seq operands (skip (is classes.Colon) two_ends)

-- the sections of a block of a mapping, from its attributes and its keys on, and behind the entity's name
abbrev pub attribute_images : Rule (List AttImage)
attribute_images = section (is classes.Attributes) att_image

abbrev pub key_images : Rule (List KeyImage × List AttImage)
key_images = seq (section (is classes.ForeignKeys) key_image) attribute_images

abbrev pub entity_image : Rule (Name × (List KeyImage × List AttImage))
entity_image = seq name key_images

-- the blocks of a mapping, and its options
abbrev pub map_blocks : Rule (List MapBlock × List Opt)
map_blocks = seq (many map_block) options

-- the terms that are given for a key
abbrev pub binds : Rule (List Bind)
binds = many bind

-- the sections of a block of a query, from its keys, attributes, tests and variables on
abbrev pub from_query_keys : Rule (List QueryKey)
from_query_keys = section (is classes.ForeignKeys) query_key

abbrev pub from_query_attributes : Rule (List Bind × List QueryKey)
from_query_attributes = seq (section (is classes.Attributes) bind) from_query_keys

abbrev pub from_tests : Rule (List EqSyn × (List Bind × List QueryKey))
from_tests = seq (section (is classes.Where) equation) from_query_attributes

abbrev pub from_variables : Rule (List GroupSyn × (List EqSyn × (List Bind × List QueryKey)))
from_variables = seq (section (is classes.From) group) from_tests

-- the blocks of a query, and its options
abbrev pub query_blocks : Rule (List QueryBlock × List Opt)
query_blocks = seq (many query_block) options
