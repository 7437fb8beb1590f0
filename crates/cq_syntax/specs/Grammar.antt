-- The grammar, one definition for each production.
use Rattle.std.specs.Prelude.{List, Bool, Option, codes}
use Rattle.std.proofs.Common.{refl}
use Rattle.std.specs.Str.{bytes_eq}
use Rattle.cq_base.specs.declared.name.Name.{Name}
use Rattle.cq_base.specs.declared.place.Place.{Place}
use Rattle.cq_lex.specs.declared.token.Token.{Token}
use Rattle.cq_rules.specs.declared.class.Class.{Class}
use Rattle.cq_rules.specs.declared.class.Class.TheVariants as classes
use Rattle.cq_rules.specs.Class.{Set, is, is_name}
use Rattle.cq_rules.specs.Outcome.{either, when, name_of}
use Rattle.cq_rules.specs.Rule.{Rule, none, keep, skip, ends, seq, alt, many, some, separated, section, braces, checked, or_left_out}
use Rattle.cq_rules.specs.Rule.{placed, made, term, path, none_left}
use Rattle.cq_syntax.specs.LeftOut.{head_words, operation_words, typeside_words, section_words}
use Rattle.cq_syntax.specs.MoveForms.{form_of, is_form}
use Rattle.cq_syntax.specs.Terms.{term_of, term_parts, term_back}
use Rattle.cq_syntax.specs.Parts as parts
use Rattle.cq_syntax.specs.Expressions as exps
use Rattle.cq_syntax.specs.declared.literal.AttImage.{AttImage}
use Rattle.cq_syntax.specs.declared.literal.AttSyn.{AttSyn}
use Rattle.cq_syntax.specs.declared.part.Bind.{Bind}
use Rattle.cq_syntax.specs.declared.literal.ColimitLit.{ColimitLit}
use Rattle.cq_syntax.specs.declared.program.Decl.{Decl}
use Rattle.cq_syntax.specs.declared.part.EdgeSyn.{EdgeSyn}
use Rattle.cq_syntax.specs.declared.part.EqSyn.{EqSyn}
use Rattle.cq_syntax.specs.declared.part.FunSyn.{FunSyn}
use Rattle.cq_syntax.specs.declared.part.GroupSyn.{GroupSyn}
use Rattle.cq_syntax.specs.declared.program.InstanceExp.{InstanceExp}
use Rattle.cq_syntax.specs.declared.literal.InstanceLit.{InstanceLit}
use Rattle.cq_syntax.specs.declared.literal.KeyImage.{KeyImage}
use Rattle.cq_syntax.specs.declared.literal.MapBlock.{MapBlock}
use Rattle.cq_syntax.specs.declared.program.MappingExp.{MappingExp}
use Rattle.cq_syntax.specs.declared.literal.MappingLit.{MappingLit}
use Rattle.cq_syntax.specs.declared.part.ObsSyn.{ObsSyn}
use Rattle.cq_syntax.specs.declared.part.Opt.{Opt}
use Rattle.cq_syntax.specs.declared.part.PairSyn.{PairSyn}
use Rattle.cq_syntax.specs.declared.part.PathEqSyn.{PathEqSyn}
use Rattle.cq_syntax.specs.declared.part.PathSyn.{PathSyn}
use Rattle.cq_syntax.specs.declared.program.MoveForm.{MoveForm}
use Rattle.cq_syntax.specs.declared.program.Program.{Program}
use Rattle.cq_syntax.specs.declared.literal.QueryBlock.{QueryBlock}
use Rattle.cq_syntax.specs.declared.literal.QueryKey.{QueryKey}
use Rattle.cq_syntax.specs.declared.program.QueryExp.{QueryExp}
use Rattle.cq_syntax.specs.declared.literal.QueryLit.{QueryLit}
use Rattle.cq_syntax.specs.declared.program.SchemaExp.{SchemaExp}
use Rattle.cq_syntax.specs.declared.literal.SchemaLit.{SchemaLit}
use Rattle.cq_syntax.specs.declared.part.Spot.{Spot}
use Rattle.cq_syntax.specs.declared.part.TermSyn.{TermSyn}
use Rattle.cq_syntax.specs.declared.program.TransformExp.{TransformExp}
use Rattle.cq_syntax.specs.declared.literal.TransformLit.{TransformLit}
use Rattle.cq_syntax.specs.declared.literal.TypesideLit.{TypesideLit}

abbrev pub spot_of : Token → Spot
spot_of t = record { place = t.place; name = name_of t }

-- NAME | TEXT
abbrev pub is_value : Set
is_value c = either (is_name c) (is classes.Text c)

unfoldable pub name : Rule Name
name = keep name_of is_name

unfoldable pub text : Rule Name
text = keep name_of (is classes.Text)

unfoldable pub spot : Rule Spot
spot = keep spot_of is_name

unfoldable pub value : Rule Spot
value = keep spot_of is_value

-- the options that are allowed
abbrev pub is_allowed : Spot → Spot → Bool
is_allowed n v = either (bytes_eq n.name (codes "prover")) (either (bytes_eq n.name (codes "timeout"))
    (when (bytes_eq n.name (codes "require_consistency")) (bytes_eq v.name (codes "true"))))

abbrev pub place_of_spot : Spot → Place
place_of_spot n = n.place

-- NAME "=" (NAME | TEXT)
unfoldable pub setting : Rule Opt
setting = made parts.opt_of parts.opt_parts (λ p. refl) (checked (ends spot none_left (is classes.Equals)) spot_of is_value is_allowed
    place_of_spot)

-- ["options" {setting}]
unfoldable pub options : Rule (List Opt)
options = section (is classes.Options) setting

-- a path with its place
unfoldable pub placed_path : Rule PathSyn
placed_path = made parts.path_of parts.path_parts (λ p. refl) (placed path)

-- a term with its place
unfoldable pub placed_term : Rule TermSyn
placed_term = made term_of term_parts term_back (placed term)

-- NAME {NAME} ":" NAME
unfoldable pub group : Rule GroupSyn
group = made parts.group_of parts.group_parts (λ p. refl) (seq (some spot) (skip (is classes.Colon) name))

-- (NAME | TEXT) {NAME | TEXT} ":" NAME
unfoldable pub constants : Rule GroupSyn
constants = made parts.group_of parts.group_parts (λ p. refl) (seq (some value) (skip (is classes.Colon) name))

-- NAME {NAME} ":" NAME {"," NAME} "->" NAME
unfoldable pub functions : Rule FunSyn
functions =
    made parts.fun_of parts.fun_parts (λ p. refl) (seq (some spot)
    (skip (is classes.Colon) (seq (separated (is classes.Comma) name) (skip (is classes.Arrow) name))))

-- NAME {NAME} ":" NAME "->" NAME
unfoldable pub edge : Rule EdgeSyn
edge = made parts.edge_of parts.edge_parts (λ p. refl) (seq (some spot) (skip (is classes.Colon) (seq name (skip (is classes.Arrow) name))))

-- term "=" term
unfoldable pub equation : Rule EqSyn
equation = made parts.eq_of parts.eq_parts (λ p. refl) (seq placed_term (skip (is classes.Equals) placed_term))

-- path "=" path
unfoldable pub path_equation : Rule PathEqSyn
path_equation = made parts.path_eq_of parts.path_eq_parts (λ p. refl) (seq placed_path (skip (is classes.Equals) placed_path))

-- [":" NAME]
unfoldable pub of_entity : Rule (Option Name)
of_entity = made exps.option_of exps.option_parts exps.option_back (alt (skip (is classes.Colon) name) none)

-- "forall" NAME [":" NAME] "." term "=" term
unfoldable pub observation : Rule ObsSyn
observation =
    made parts.obs_of parts.obs_parts (λ p. refl) (placed (skip (is classes.Forall)
    (seq name (seq of_entity (skip (is classes.Dot) (seq placed_term (skip (is classes.Equals) placed_term)))))))

-- NAME "." NAME
unfoldable pub member : Rule (Name × Name)
member = seq name (skip (is classes.Dot) name)

-- NAME "." NAME "=" NAME "." NAME
unfoldable pub pair : Rule PairSyn
pair = made parts.pair_of parts.pair_parts (λ p. refl) (placed (seq member (skip (is classes.Equals) member)))

-- NAME "->" term
unfoldable pub bind : Rule Bind
bind = made parts.bind_of parts.bind_parts (λ p. refl) (placed (seq name (skip (is classes.Arrow) placed_term)))

-- what stands between "{" and "}"
abbrev pub in_braces : {A : Type 0} → Rule A → Rule A
in_braces g = skip (is classes.LeftBrace) (ends g section_words (is classes.RightBrace))

-- ["literals" NAME]
unfoldable pub open_type : Rule (Option Spot)
open_type = made exps.option_of exps.option_parts exps.option_back (alt (skip (is classes.Literals) spot) none)

-- "literal" "{" ["types" {NAME}] open_type ["constants" {constants}] ["functions" {functions}] options "}"
unfoldable pub typeside : Rule TypesideLit
typeside =
    made parts.typeside_of parts.typeside_parts (λ p. refl) (skip (is classes.Literal) (skip (is classes.LeftBrace)
    (seq (section (is classes.Types) spot)
    (seq open_type
    (seq (section (is classes.Constants) constants)
    (seq (section (is classes.Functions) functions)
    (or_left_out typeside_words (ends options section_words (is classes.RightBrace)))))))))

-- "literal" ":" NAME "{" ["entities" {NAME}] ["foreign_keys" {edge}] ["path_equations" {path_equation}]
-- ["attributes" {edge}] ["observation_equations" {observation}] options "}"
unfoldable pub schema_literal : Rule SchemaLit
schema_literal =
    made parts.schema_of parts.schema_parts (λ p. refl) (skip (is classes.Literal) (skip (is classes.Colon) (seq spot (in_braces
    (seq (section (is classes.Entities) spot)
    (seq (section (is classes.ForeignKeys) edge)
    (seq (section (is classes.PathEquations) path_equation)
    (seq (section (is classes.Attributes) edge)
    (seq (section (is classes.ObservationEquations) observation) options)))))))))

-- schema_literal | "getSchema" NAME
unfoldable pub schema : Rule SchemaExp
schema = made exps.schema_exp_of exps.schema_exp_parts exps.schema_exp_back (alt schema_literal (skip (is classes.GetSchema) spot))

-- "quotient" NAME {"+" NAME} ":" NAME "{" ["entity_equations" {pair}] ["path_equations" {path_equation}]
-- ["observation_equations" {observation}] options "}"
unfoldable pub colimit : Rule ColimitLit
colimit =
    made parts.colimit_of parts.colimit_parts (λ p. refl) (skip (is classes.Quotient)
    (seq (separated (is classes.Plus) spot) (skip (is classes.Colon) (seq spot (in_braces
    (seq (section (is classes.EntityEquations) pair)
    (seq (section (is classes.PathEquations) path_equation)
    (seq (section (is classes.ObservationEquations) observation) options))))))))

-- NAME "->" path
unfoldable pub key_image : Rule KeyImage
key_image = made parts.key_image_of parts.key_image_parts (λ p. refl) (placed (seq name (skip (is classes.Arrow) placed_path)))

-- path | "lambda" NAME [":" NAME] "." term
unfoldable pub att_value : Rule AttSyn
att_value =
    made exps.att_of exps.att_parts exps.att_back (alt placed_path
    (skip (is classes.Lambda) (seq name (seq of_entity (skip (is classes.Dot) placed_term)))))

-- NAME "->" att_value
unfoldable pub att_image : Rule AttImage
att_image = made parts.att_image_of parts.att_image_parts (λ p. refl) (placed (seq name (skip (is classes.Arrow) att_value)))

-- "entity" NAME "->" NAME ["foreign_keys" {key_image}] ["attributes" {att_image}]
unfoldable pub map_block : Rule MapBlock
map_block =
    made parts.map_block_of parts.map_block_parts (λ p. refl) (placed (skip (is classes.Entity) (seq name (skip (is classes.Arrow) (seq name
    (seq (section (is classes.ForeignKeys) key_image) (section (is classes.Attributes) att_image)))))))

-- "literal" ":" NAME "->" NAME "{" {map_block} options "}"
unfoldable pub mapping_literal : Rule MappingLit
mapping_literal =
    made parts.mapping_of parts.mapping_parts (λ p. refl) (skip (is classes.Literal)
    (skip (is classes.Colon) (seq spot (skip (is classes.Arrow) (seq spot (in_braces (seq (many map_block) options)))))))

-- mapping_literal | "identity" NAME | "getMapping" NAME NAME
unfoldable pub mapping : Rule MappingExp
mapping =
    made exps.mapping_exp_of exps.mapping_exp_parts exps.mapping_exp_back
    (alt mapping_literal (alt (skip (is classes.Identity) spot) (skip (is classes.GetMapping) (seq spot spot))))

-- NAME "->" "{" {bind} "}"
unfoldable pub query_key : Rule QueryKey
query_key = made parts.query_key_of parts.query_key_parts (λ p. refl) (placed (seq name (skip (is classes.Arrow) (in_braces (many bind)))))

-- "entity" NAME "->" "{" ["from" {group}] ["where" {equation}] ["attributes" {bind}]
-- ["foreign_keys" {query_key}] "}"
unfoldable pub query_block : Rule QueryBlock
query_block =
    made parts.query_block_of parts.query_block_parts (λ p. refl)
    (placed (skip (is classes.Entity) (seq name (skip (is classes.Arrow) (in_braces
    (seq (section (is classes.From) group)
    (seq (section (is classes.Where) equation)
    (seq (section (is classes.Attributes) bind)
    (section (is classes.ForeignKeys) query_key)))))))))

-- "literal" ":" NAME "->" NAME "{" {query_block} options "}"
unfoldable pub query_literal : Rule QueryLit
query_literal =
    made parts.query_of parts.query_parts (λ p. refl) (skip (is classes.Literal)
    (skip (is classes.Colon) (seq spot (skip (is classes.Arrow) (seq spot (in_braces (seq (many query_block) options)))))))

-- a word, and two names
abbrev pub of_two : Class → Rule (Spot × Spot)
of_two c = skip (is c) (seq spot spot)

-- query_literal | "compose" NAME NAME | "of_mapping" NAME
unfoldable pub query : Rule QueryExp
query =
    made exps.query_exp_of exps.query_exp_parts exps.query_exp_back
    (alt query_literal (alt (of_two classes.Compose) (skip (is classes.OfMapping) spot)))

-- "literal" ":" NAME "{" ["generators" {group}] ["equations" {equation}] options "}"
unfoldable pub instance_literal : Rule InstanceLit
instance_literal =
    made parts.instance_of parts.instance_parts (λ p. refl) (skip (is classes.Literal) (skip (is classes.Colon) (seq spot (in_braces
    (seq (section (is classes.Generators) group)
    (seq (section (is classes.Equations) equation) options))))))

-- "coproduct" NAME {"+" NAME} ":" NAME
unfoldable pub coproduct : Rule (List Spot × Spot)
coproduct = skip (is classes.Coproduct) (seq (separated (is classes.Plus) spot) (skip (is classes.Colon) spot))

-- a word, TEXT ":" NAME ["{" options "}"]
unfoldable pub import : Class → Rule exps.Imported
import c =
    skip (is c) (seq text (skip (is classes.Colon) (seq spot (braces (is classes.LeftBrace) (is classes.Options) setting section_words
    (is classes.RightBrace)))))

-- instance_literal | "delta" NAME NAME | "sigma" NAME NAME | "eval" NAME NAME | "coeval" NAME NAME
-- | coproduct | "pushout" NAME NAME | import of "import_csv" | import of "import_csv2"
unfoldable pub instance : Rule InstanceExp
instance =
    made exps.instance_exp_of exps.instance_exp_parts exps.instance_exp_back
    (alt instance_literal (alt (of_two classes.Delta) (alt (of_two classes.Sigma)
    (alt (of_two classes.Eval) (alt (of_two classes.Coeval)
    (alt coproduct (alt (of_two classes.Pushout) (alt (import classes.ImportCsv) (import classes.ImportCsv2)))))))))

-- "literal" ":" NAME "->" NAME "{" ["generators" {bind}] options "}"
unfoldable pub transform_literal : Rule TransformLit
transform_literal =
    made parts.transform_of parts.transform_parts (λ p. refl)
    (skip (is classes.Literal) (skip (is classes.Colon) (seq spot
    (skip (is classes.Arrow) (seq spot (in_braces (seq (section (is classes.Generators) bind) options)))))))

-- "sigma" | "delta" | "eval" | "coeval" | "unit" | "counit" | "unit_query" | "counit_query"
unfoldable pub move_form : Rule MoveForm
move_form = keep form_of is_form

-- move_form NAME NAME ":" NAME "->" NAME
abbrev pub moving : Rule exps.Moving
moving = seq move_form (seq (seq spot spot) (skip (is classes.Colon) (seq spot (skip (is classes.Arrow) spot))))

-- transform_literal | "identity" NAME | moving
unfoldable pub transform : Rule TransformExp
transform = made exps.transform_exp_of exps.transform_exp_parts exps.transform_exp_back
    (alt transform_literal (alt (skip (is classes.Identity) spot) moving))

-- a declaration of a kind: its word, a name, "=" and what it declares
abbrev pub kind : {A : Type 0} → Class → Rule A → Rule (Spot × A)
kind c g = skip (is c) (seq spot (skip (is classes.Equals) (or_left_out operation_words g)))

unfoldable pub declaration : Rule Decl
declaration =
    made exps.decl_of exps.decl_parts exps.decl_back (placed (alt (kind classes.Typeside typeside)
    (alt (kind classes.Schema schema) (alt (kind classes.SchemaColimit colimit)
    (alt (kind classes.Mapping mapping) (alt (kind classes.Query query)
    (alt (kind classes.Instance instance) (kind classes.Transform transform))))))))

-- a term, and the end
unfoldable pub lone_term : Rule TermSyn
lone_term = ends placed_term none_left (is classes.End)

-- options {declaration}, and the end
unfoldable pub program : Rule Program
program = made exps.program_of exps.program_parts (λ p. refl) (ends (seq options (many declaration)) head_words (is classes.End))
