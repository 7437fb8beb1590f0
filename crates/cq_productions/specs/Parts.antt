-- Parts of productions, with productions as their arguments, the sections of a typeside, and what is made of them.
use Rattle.std.specs.Prelude.{List, Option}
use Rattle.cq_base.specs.declared.name.Name.{Name}
use Rattle.cq_base.specs.declared.place.Place.{Place}
use Rattle.cq_rules.specs.declared.class.Class.{Class}
use Rattle.cq_rules.specs.declared.class.Class.TheVariants as classes
use Rattle.cq_rules.specs.Class.{is}
use Rattle.cq_rules.specs.Rule.{Rule, braces, ends, or_left_out, section, seq, skip}
use Rattle.cq_syntax.specs.declared.part.FunSyn.{FunSyn}
use Rattle.cq_syntax.specs.declared.part.GroupSyn.{GroupSyn}
use Rattle.cq_syntax.specs.declared.part.Opt.{Opt}
use Rattle.cq_syntax.specs.declared.part.Spot.{Spot}
use Rattle.cq_syntax.specs.declared.program.Body.{Body}
use Rattle.cq_syntax.specs.declared.program.Decl.{Decl}
use Rattle.cq_syntax.specs.declared.program.InstanceExp.{InstanceExp}
use Rattle.cq_syntax.specs.declared.program.InstanceExp.TheVariants as instances
use Rattle.cq_syntax.specs.Expressions.{Imported, declared}
use Rattle.cq_syntax.specs.Grammar as grammar
use Rattle.cq_syntax.specs.LeftOut.{operation_words, section_words, typeside_words}
use Rattle.cq_productions.specs.Rules.{typeside_end}

-- a production, and "}"
abbrev pub ended : {A : Type 0} → Rule A → Rule A
ended g = ends g section_words (is classes.RightBrace)

-- NAME, and a production in braces
abbrev pub named : {A : Type 0} → Rule A → Rule (Spot × A)
named g = seq grammar.spot (grammar.in_braces g)

-- NAME "->" NAME, and a production in braces
abbrev pub to_named : {A : Type 0} → Rule A → Rule (Spot × (Spot × A))
to_named g = seq grammar.spot (skip (is classes.Arrow) (named g))

-- [":" NAME] "." and what is said of it
abbrev pub of_entity_and : {A : Type 0} → Rule A → Rule (Option Name × A)
of_entity_and g = seq grammar.of_entity (skip (is classes.Dot) g)

-- what is declared, and not by an operation that is left out
abbrev pub operation : {A : Type 0} → Rule A → Rule A
operation g = or_left_out operation_words g

-- ["{" options "}"]
abbrev pub braced_options : Rule (List Opt)
braced_options = braces (is classes.LeftBrace) (is classes.Options) grammar.setting section_words (is classes.RightBrace)

-- NAME ["{" options "}"]
abbrev pub schema_and_options : Rule (Spot × List Opt)
schema_and_options = seq grammar.spot braced_options

-- the sections of a typeside, from its options, functions, constants, open type and types on
abbrev pub from_options : Rule (List Opt)
from_options = or_left_out typeside_words typeside_end

abbrev pub from_functions : Rule (List FunSyn × List Opt)
from_functions = seq (section (is classes.Functions) grammar.functions) from_options

abbrev pub from_constants : Rule (List GroupSyn × (List FunSyn × List Opt))
from_constants = seq (section (is classes.Constants) grammar.constants) from_functions

abbrev pub from_open_type : Rule (Option Spot × (List GroupSyn × (List FunSyn × List Opt)))
from_open_type = seq grammar.open_type from_constants

abbrev pub from_types : Rule (List Spot × (Option Spot × (List GroupSyn × (List FunSyn × List Opt))))
from_types = seq (section (is classes.Types) grammar.spot) from_open_type

-- the declaration of a name and of what a body is made of
abbrev pub declared_by : {A : Type 0} → (A → Body) → Place → Spot × A → Decl
declared_by body place x = declared place x.0.name x.0.place (body x.1)

abbrev pub coproduct_of : List Spot × Spot → InstanceExp
coproduct_of x = instances.Coproduct x.0 x.1

-- the instance of a word and two names
abbrev pub of_names : Class → Spot × Spot → InstanceExp
of_names classes.Delta x = instances.Delta x.0 x.1
of_names classes.Sigma x = instances.Sigma x.0 x.1
of_names classes.Eval x = instances.Eval x.0 x.1
of_names classes.Coeval x = instances.Coeval x.0 x.1
of_names word x = instances.Pushout x.0 x.1

-- the instance of a word and a folder
abbrev pub of_folder : Class → Imported → InstanceExp
of_folder classes.ImportCsv x = instances.ImportCsv x.0 x.1.0 x.1.1
of_folder word x = instances.ImportCsv2 x.0 x.1.0 x.1.1
