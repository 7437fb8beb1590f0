-- A token of each kind that the shortest texts are made of.
use Rattle.std.proofs.Common.{◌≡◌, true, refl}
use Rattle.std.specs.Prelude.{codes}
use Rattle.cq_lex.specs.declared.token.Token.{Token}
use Rattle.cq_base.specs.declared.place.Place.{Place}
use Rattle.cq_lex.specs.declared.token.Kind.{Kind}
use Rattle.cq_lex.specs.declared.token.Kind.TheVariants as kinds
use Rattle.cq_lex.specs.declared.token.Mark.TheVariants as marks
use Rattle.cq_rules.specs.declared.class.Class.{Class}
use Rattle.cq_rules.specs.declared.class.Class.TheVariants as classes
use Rattle.cq_rules.specs.Class.{class_of, word_class}
use Rattle.cq_rules.specs.Outcome.{dot, name}
use Rattle.cq_rules.specs.Tree.{text, opens, closes, comma}

abbrev pub nowhere : Place
nowhere = record { line = 1; col = 1 }

abbrev pub a_dot : Token
a_dot = record { kind = kinds.Mark marks.Dot; from = 0; to = 0; place = nowhere }

abbrev pub a_name : Token
a_name = record { kind = kinds.Word (codes "x"); from = 0; to = 0; place = nowhere }

pub dot_is : dot a_dot ≡ true
dot_is = refl

pub name_is : name a_name ≡ true
unfolding word_class
name_is = refl

abbrev pub an_open : Token
an_open = record { kind = kinds.Mark marks.LeftParen; from = 0; to = 0; place = nowhere }

pub open_is : opens an_open ≡ true
open_is = refl

abbrev pub a_close : Token
a_close = record { kind = kinds.Mark marks.RightParen; from = 0; to = 0; place = nowhere }

pub close_is : closes a_close ≡ true
close_is = refl

abbrev pub a_comma : Token
a_comma = record { kind = kinds.Mark marks.Comma; from = 0; to = 0; place = nowhere }

pub comma_is : comma a_comma ≡ true
comma_is = refl

abbrev pub a_text : Token
a_text = record { kind = kinds.Text (codes "x"); from = 0; to = 0; place = nowhere }

pub text_is : text a_text ≡ true
text_is = refl

-- a token of each class
abbrev kind_for : Class → Kind
kind_for classes.Typeside = kinds.Word (codes "typeside")
kind_for classes.Schema = kinds.Word (codes "schema")
kind_for classes.Instance = kinds.Word (codes "instance")
kind_for classes.Mapping = kinds.Word (codes "mapping")
kind_for classes.Transform = kinds.Word (codes "transform")
kind_for classes.Query = kinds.Word (codes "query")
kind_for classes.SchemaColimit = kinds.Word (codes "schema_colimit")
kind_for classes.Types = kinds.Word (codes "types")
kind_for classes.Literals = kinds.Word (codes "literals")
kind_for classes.Constants = kinds.Word (codes "constants")
kind_for classes.Functions = kinds.Word (codes "functions")
kind_for classes.Entities = kinds.Word (codes "entities")
kind_for classes.ForeignKeys = kinds.Word (codes "foreign_keys")
kind_for classes.PathEquations = kinds.Word (codes "path_equations")
kind_for classes.Attributes = kinds.Word (codes "attributes")
kind_for classes.ObservationEquations = kinds.Word (codes "observation_equations")
kind_for classes.Generators = kinds.Word (codes "generators")
kind_for classes.Equations = kinds.Word (codes "equations")
kind_for classes.EntityEquations = kinds.Word (codes "entity_equations")
kind_for classes.Entity = kinds.Word (codes "entity")
kind_for classes.From = kinds.Word (codes "from")
kind_for classes.Where = kinds.Word (codes "where")
kind_for classes.Options = kinds.Word (codes "options")
kind_for classes.Forall = kinds.Word (codes "forall")
kind_for classes.Lambda = kinds.Word (codes "lambda")
kind_for classes.ExternalTypes = kinds.Word (codes "external_types")
kind_for classes.ExternalParsers = kinds.Word (codes "external_parsers")
kind_for classes.ExternalFunctions = kinds.Word (codes "external_functions")
kind_for classes.Imports = kinds.Word (codes "imports")
kind_for classes.Literal = kinds.Word (codes "literal")
kind_for classes.Delta = kinds.Word (codes "delta")
kind_for classes.Sigma = kinds.Word (codes "sigma")
kind_for classes.Eval = kinds.Word (codes "eval")
kind_for classes.Coeval = kinds.Word (codes "coeval")
kind_for classes.Coproduct = kinds.Word (codes "coproduct")
kind_for classes.Pushout = kinds.Word (codes "pushout")
kind_for classes.ImportCsv = kinds.Word (codes "import_csv")
kind_for classes.ImportCsv2 = kinds.Word (codes "import_csv2")
kind_for classes.Identity = kinds.Word (codes "identity")
kind_for classes.GetSchema = kinds.Word (codes "getSchema")
kind_for classes.GetMapping = kinds.Word (codes "getMapping")
kind_for classes.Quotient = kinds.Word (codes "quotient")
kind_for classes.Compose = kinds.Word (codes "compose")
kind_for classes.OfMapping = kinds.Word (codes "of_mapping")
kind_for classes.Unit = kinds.Word (codes "unit")
kind_for classes.Counit = kinds.Word (codes "counit")
kind_for classes.UnitQuery = kinds.Word (codes "unit_query")
kind_for classes.CounitQuery = kinds.Word (codes "counit_query")
kind_for classes.Constraints = kinds.Word (codes "constraints")
kind_for classes.Command = kinds.Word (codes "command")
kind_for classes.Graph = kinds.Word (codes "graph")
kind_for classes.Html = kinds.Word (codes "html")
kind_for classes.Md = kinds.Word (codes "md")
kind_for classes.Chase = kinds.Word (codes "chase")
kind_for classes.Pi = kinds.Word (codes "pi")
kind_for classes.Except = kinds.Word (codes "except")
kind_for classes.Distinct = kinds.Word (codes "distinct")
kind_for classes.Anonymize = kinds.Word (codes "anonymize")
kind_for classes.Pivot = kinds.Word (codes "pivot")
kind_for classes.Coequalize = kinds.Word (codes "coequalize")
kind_for classes.Colimit = kinds.Word (codes "colimit")
kind_for classes.Simple = kinds.Word (codes "simple")
kind_for classes.Sql = kinds.Word (codes "sql")
kind_for classes.Name = kinds.Word (codes "x")
kind_for classes.Text = kinds.Text (codes "x")
kind_for classes.LeftBrace = kinds.Mark marks.LeftBrace
kind_for classes.RightBrace = kinds.Mark marks.RightBrace
kind_for classes.LeftParen = kinds.Mark marks.LeftParen
kind_for classes.RightParen = kinds.Mark marks.RightParen
kind_for classes.LeftBracket = kinds.Mark marks.LeftBracket
kind_for classes.RightBracket = kinds.Mark marks.RightBracket
kind_for classes.Colon = kinds.Mark marks.Colon
kind_for classes.Semicolon = kinds.Mark marks.Semicolon
kind_for classes.Comma = kinds.Mark marks.Comma
kind_for classes.Dot = kinds.Mark marks.Dot
kind_for classes.Equals = kinds.Mark marks.Equals
kind_for classes.Plus = kinds.Mark marks.Plus
kind_for classes.Arrow = kinds.Mark marks.Arrow
kind_for classes.End = kinds.End

abbrev pub token_for : Class → Token
token_for c = record { kind = kind_for c; from = 0; to = 0; place = nowhere }

pub class_of_token_for : (c : Class) → class_of (token_for c) ≡ c
unfolding word_class
class_of_token_for classes.Typeside = refl
class_of_token_for classes.Schema = refl
class_of_token_for classes.Instance = refl
class_of_token_for classes.Mapping = refl
class_of_token_for classes.Transform = refl
class_of_token_for classes.Query = refl
class_of_token_for classes.SchemaColimit = refl
class_of_token_for classes.Types = refl
class_of_token_for classes.Literals = refl
class_of_token_for classes.Constants = refl
class_of_token_for classes.Functions = refl
class_of_token_for classes.Entities = refl
class_of_token_for classes.ForeignKeys = refl
class_of_token_for classes.PathEquations = refl
class_of_token_for classes.Attributes = refl
class_of_token_for classes.ObservationEquations = refl
class_of_token_for classes.Generators = refl
class_of_token_for classes.Equations = refl
class_of_token_for classes.EntityEquations = refl
class_of_token_for classes.Entity = refl
class_of_token_for classes.From = refl
class_of_token_for classes.Where = refl
class_of_token_for classes.Options = refl
class_of_token_for classes.Forall = refl
class_of_token_for classes.Lambda = refl
class_of_token_for classes.ExternalTypes = refl
class_of_token_for classes.ExternalParsers = refl
class_of_token_for classes.ExternalFunctions = refl
class_of_token_for classes.Imports = refl
class_of_token_for classes.Literal = refl
class_of_token_for classes.Delta = refl
class_of_token_for classes.Sigma = refl
class_of_token_for classes.Eval = refl
class_of_token_for classes.Coeval = refl
class_of_token_for classes.Coproduct = refl
class_of_token_for classes.Pushout = refl
class_of_token_for classes.ImportCsv = refl
class_of_token_for classes.ImportCsv2 = refl
class_of_token_for classes.Identity = refl
class_of_token_for classes.GetSchema = refl
class_of_token_for classes.GetMapping = refl
class_of_token_for classes.Quotient = refl
class_of_token_for classes.Compose = refl
class_of_token_for classes.OfMapping = refl
class_of_token_for classes.Unit = refl
class_of_token_for classes.Counit = refl
class_of_token_for classes.UnitQuery = refl
class_of_token_for classes.CounitQuery = refl
class_of_token_for classes.Constraints = refl
class_of_token_for classes.Command = refl
class_of_token_for classes.Graph = refl
class_of_token_for classes.Html = refl
class_of_token_for classes.Md = refl
class_of_token_for classes.Chase = refl
class_of_token_for classes.Pi = refl
class_of_token_for classes.Except = refl
class_of_token_for classes.Distinct = refl
class_of_token_for classes.Anonymize = refl
class_of_token_for classes.Pivot = refl
class_of_token_for classes.Coequalize = refl
class_of_token_for classes.Colimit = refl
class_of_token_for classes.Simple = refl
class_of_token_for classes.Sql = refl
class_of_token_for classes.Name = refl
class_of_token_for classes.Text = refl
class_of_token_for classes.LeftBrace = refl
class_of_token_for classes.RightBrace = refl
class_of_token_for classes.LeftParen = refl
class_of_token_for classes.RightParen = refl
class_of_token_for classes.LeftBracket = refl
class_of_token_for classes.RightBracket = refl
class_of_token_for classes.Colon = refl
class_of_token_for classes.Semicolon = refl
class_of_token_for classes.Comma = refl
class_of_token_for classes.Dot = refl
class_of_token_for classes.Equals = refl
class_of_token_for classes.Plus = refl
class_of_token_for classes.Arrow = refl
class_of_token_for classes.End = refl
