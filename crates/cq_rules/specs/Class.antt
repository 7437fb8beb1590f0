-- What the grammar sees of a token: its class. Each word that the grammar names has a class of its own.
use Rattle.std.specs.Prelude.{ℕ, List, [], ◌∷◌, Bool, true, false, codes, if◌then◌else◌, nat_eq}
use Rattle.std.specs.Str.{bytes_eq}
use Rattle.cq_lex.specs.declared.token.Token.{Token}
use Rattle.cq_lex.specs.declared.token.Kind.{Kind}
use Rattle.cq_lex.specs.declared.token.Kind.TheVariants as kinds
use Rattle.cq_lex.specs.declared.token.Mark.{Mark}
use Rattle.cq_lex.specs.declared.token.Mark.TheVariants as marks
use Rattle.cq_rules.specs.declared.class.Class.{Class}
use Rattle.cq_rules.specs.declared.class.Class.TheVariants as classes

-- a word and its class
pub record Entry : Type 0 where
  pub word : List ℕ
  pub class : Class

abbrev pub entry : List ℕ → Class → Entry
entry w c = record { word = w; class = c }

-- the words that the grammar names
abbrev pub words : List Entry
words =
    entry (codes "typeside") classes.Typeside ∷
    entry (codes "schema") classes.Schema ∷
    entry (codes "instance") classes.Instance ∷
    entry (codes "mapping") classes.Mapping ∷
    entry (codes "transform") classes.Transform ∷
    entry (codes "query") classes.Query ∷
    entry (codes "schema_colimit") classes.SchemaColimit ∷
    entry (codes "types") classes.Types ∷
    entry (codes "literals") classes.Literals ∷
    entry (codes "constants") classes.Constants ∷
    entry (codes "functions") classes.Functions ∷
    entry (codes "entities") classes.Entities ∷
    entry (codes "foreign_keys") classes.ForeignKeys ∷
    entry (codes "path_equations") classes.PathEquations ∷
    entry (codes "attributes") classes.Attributes ∷
    entry (codes "observation_equations") classes.ObservationEquations ∷
    entry (codes "generators") classes.Generators ∷
    entry (codes "equations") classes.Equations ∷
    entry (codes "entity_equations") classes.EntityEquations ∷
    entry (codes "entity") classes.Entity ∷
    entry (codes "from") classes.From ∷
    entry (codes "where") classes.Where ∷
    entry (codes "options") classes.Options ∷
    entry (codes "forall") classes.Forall ∷
    entry (codes "lambda") classes.Lambda ∷
    entry (codes "external_types") classes.ExternalTypes ∷
    entry (codes "external_parsers") classes.ExternalParsers ∷
    entry (codes "external_functions") classes.ExternalFunctions ∷
    entry (codes "imports") classes.Imports ∷
    entry (codes "literal") classes.Literal ∷
    entry (codes "delta") classes.Delta ∷
    entry (codes "sigma") classes.Sigma ∷
    entry (codes "eval") classes.Eval ∷
    entry (codes "coeval") classes.Coeval ∷
    entry (codes "coproduct") classes.Coproduct ∷
    entry (codes "pushout") classes.Pushout ∷
    entry (codes "import_csv") classes.ImportCsv ∷
    entry (codes "import_csv2") classes.ImportCsv2 ∷
    entry (codes "identity") classes.Identity ∷
    entry (codes "getSchema") classes.GetSchema ∷
    entry (codes "getMapping") classes.GetMapping ∷
    entry (codes "quotient") classes.Quotient ∷
    entry (codes "compose") classes.Compose ∷
    entry (codes "of_mapping") classes.OfMapping ∷
    entry (codes "unit") classes.Unit ∷
    entry (codes "counit") classes.Counit ∷
    entry (codes "unit_query") classes.UnitQuery ∷
    entry (codes "counit_query") classes.CounitQuery ∷
    entry (codes "constraints") classes.Constraints ∷
    entry (codes "command") classes.Command ∷
    entry (codes "graph") classes.Graph ∷
    entry (codes "html") classes.Html ∷
    entry (codes "md") classes.Md ∷
    entry (codes "chase") classes.Chase ∷
    entry (codes "pi") classes.Pi ∷
    entry (codes "except") classes.Except ∷
    entry (codes "distinct") classes.Distinct ∷
    entry (codes "anonymize") classes.Anonymize ∷
    entry (codes "pivot") classes.Pivot ∷
    entry (codes "coequalize") classes.Coequalize ∷
    entry (codes "colimit") classes.Colimit ∷
    entry (codes "simple") classes.Simple ∷
    entry (codes "sql") classes.Sql ∷
    []

-- the class of a word in such a table; any other word is a name
abbrev pub class_in : List ℕ → List Entry → Class
class_in w [] = classes.Name
class_in w (e ∷ es) = if bytes_eq w e.word then e.class else class_in w es

unfoldable pub word_class : List ℕ → Class
word_class w = class_in w words

abbrev pub mark_class : Mark → Class
mark_class marks.LeftBrace = classes.LeftBrace
mark_class marks.RightBrace = classes.RightBrace
mark_class marks.LeftParen = classes.LeftParen
mark_class marks.RightParen = classes.RightParen
mark_class marks.LeftBracket = classes.LeftBracket
mark_class marks.RightBracket = classes.RightBracket
mark_class marks.Colon = classes.Colon
mark_class marks.Semicolon = classes.Semicolon
mark_class marks.Comma = classes.Comma
mark_class marks.Dot = classes.Dot
mark_class marks.Equals = classes.Equals
mark_class marks.Plus = classes.Plus
mark_class marks.Arrow = classes.Arrow

abbrev pub kind_class : Kind → Class
kind_class (kinds.Word w) = word_class w
kind_class (kinds.Text t) = classes.Text
kind_class (kinds.Mark m) = mark_class m
kind_class kinds.End = classes.End

abbrev pub class_of : Token → Class
class_of t = kind_class t.kind

-- a set of classes
abbrev pub Set : Type 0
Set = Class → Bool

-- a word that isn't reserved
abbrev pub is_name : Set
is_name classes.Typeside = false
is_name classes.Schema = false
is_name classes.Instance = false
is_name classes.Mapping = false
is_name classes.Transform = false
is_name classes.Query = false
is_name classes.SchemaColimit = false
is_name classes.Types = false
is_name classes.Literals = false
is_name classes.Constants = false
is_name classes.Functions = false
is_name classes.Entities = false
is_name classes.ForeignKeys = false
is_name classes.PathEquations = false
is_name classes.Attributes = false
is_name classes.ObservationEquations = false
is_name classes.Generators = false
is_name classes.Equations = false
is_name classes.EntityEquations = false
is_name classes.Entity = false
is_name classes.From = false
is_name classes.Where = false
is_name classes.Options = false
is_name classes.Forall = false
is_name classes.Lambda = false
is_name classes.ExternalTypes = false
is_name classes.ExternalParsers = false
is_name classes.ExternalFunctions = false
is_name classes.Imports = false
is_name classes.Literal = true
is_name classes.Delta = true
is_name classes.Sigma = true
is_name classes.Eval = true
is_name classes.Coeval = true
is_name classes.Coproduct = true
is_name classes.Pushout = true
is_name classes.ImportCsv = true
is_name classes.ImportCsv2 = true
is_name classes.Identity = true
is_name classes.GetSchema = true
is_name classes.GetMapping = true
is_name classes.Quotient = true
is_name classes.Compose = true
is_name classes.OfMapping = true
is_name classes.Unit = true
is_name classes.Counit = true
is_name classes.UnitQuery = true
is_name classes.CounitQuery = true
is_name classes.Constraints = true
is_name classes.Command = true
is_name classes.Graph = true
is_name classes.Html = true
is_name classes.Md = true
is_name classes.Chase = true
is_name classes.Pi = true
is_name classes.Except = true
is_name classes.Distinct = true
is_name classes.Anonymize = true
is_name classes.Pivot = true
is_name classes.Coequalize = true
is_name classes.Colimit = true
is_name classes.Simple = true
is_name classes.Sql = true
is_name classes.Name = true
is_name classes.Text = false
is_name classes.LeftBrace = false
is_name classes.RightBrace = false
is_name classes.LeftParen = false
is_name classes.RightParen = false
is_name classes.LeftBracket = false
is_name classes.RightBracket = false
is_name classes.Colon = false
is_name classes.Semicolon = false
is_name classes.Comma = false
is_name classes.Dot = false
is_name classes.Equals = false
is_name classes.Plus = false
is_name classes.Arrow = false
is_name classes.End = false

-- the number of a class
abbrev pub code : Class → ℕ
code classes.Typeside = 0
code classes.Schema = 1
code classes.Instance = 2
code classes.Mapping = 3
code classes.Transform = 4
code classes.Query = 5
code classes.SchemaColimit = 6
code classes.Types = 7
code classes.Literals = 8
code classes.Constants = 9
code classes.Functions = 10
code classes.Entities = 11
code classes.ForeignKeys = 12
code classes.PathEquations = 13
code classes.Attributes = 14
code classes.ObservationEquations = 15
code classes.Generators = 16
code classes.Equations = 17
code classes.EntityEquations = 18
code classes.Entity = 19
code classes.From = 20
code classes.Where = 21
code classes.Options = 22
code classes.Forall = 23
code classes.Lambda = 24
code classes.ExternalTypes = 25
code classes.ExternalParsers = 26
code classes.ExternalFunctions = 27
code classes.Imports = 28
code classes.Literal = 29
code classes.Delta = 30
code classes.Sigma = 31
code classes.Eval = 32
code classes.Coeval = 33
code classes.Coproduct = 34
code classes.Pushout = 35
code classes.ImportCsv = 36
code classes.ImportCsv2 = 37
code classes.Identity = 38
code classes.GetSchema = 39
code classes.GetMapping = 40
code classes.Quotient = 41
code classes.Compose = 42
code classes.OfMapping = 43
code classes.Unit = 44
code classes.Counit = 45
code classes.UnitQuery = 46
code classes.CounitQuery = 47
code classes.Constraints = 48
code classes.Command = 49
code classes.Graph = 50
code classes.Html = 51
code classes.Md = 52
code classes.Chase = 53
code classes.Pi = 54
code classes.Except = 55
code classes.Distinct = 56
code classes.Anonymize = 57
code classes.Pivot = 58
code classes.Coequalize = 59
code classes.Colimit = 60
code classes.Simple = 61
code classes.Sql = 62
code classes.Name = 63
code classes.Text = 64
code classes.LeftBrace = 65
code classes.RightBrace = 66
code classes.LeftParen = 67
code classes.RightParen = 68
code classes.LeftBracket = 69
code classes.RightBracket = 70
code classes.Colon = 71
code classes.Semicolon = 72
code classes.Comma = 73
code classes.Dot = 74
code classes.Equals = 75
code classes.Plus = 76
code classes.Arrow = 77
code classes.End = 78

abbrev pub same : Class → Class → Bool
same a b = nat_eq (code a) (code b)

-- the class is a
abbrev pub is : Class → Set
is a c = same c a

abbrev pub both : Bool → Bool → Bool
both true b = b
both false b = false

abbrev pub all_classes : List Class
all_classes =
    classes.Typeside ∷
    classes.Schema ∷
    classes.Instance ∷
    classes.Mapping ∷
    classes.Transform ∷
    classes.Query ∷
    classes.SchemaColimit ∷
    classes.Types ∷
    classes.Literals ∷
    classes.Constants ∷
    classes.Functions ∷
    classes.Entities ∷
    classes.ForeignKeys ∷
    classes.PathEquations ∷
    classes.Attributes ∷
    classes.ObservationEquations ∷
    classes.Generators ∷
    classes.Equations ∷
    classes.EntityEquations ∷
    classes.Entity ∷
    classes.From ∷
    classes.Where ∷
    classes.Options ∷
    classes.Forall ∷
    classes.Lambda ∷
    classes.ExternalTypes ∷
    classes.ExternalParsers ∷
    classes.ExternalFunctions ∷
    classes.Imports ∷
    classes.Literal ∷
    classes.Delta ∷
    classes.Sigma ∷
    classes.Eval ∷
    classes.Coeval ∷
    classes.Coproduct ∷
    classes.Pushout ∷
    classes.ImportCsv ∷
    classes.ImportCsv2 ∷
    classes.Identity ∷
    classes.GetSchema ∷
    classes.GetMapping ∷
    classes.Quotient ∷
    classes.Compose ∷
    classes.OfMapping ∷
    classes.Unit ∷
    classes.Counit ∷
    classes.UnitQuery ∷
    classes.CounitQuery ∷
    classes.Constraints ∷
    classes.Command ∷
    classes.Graph ∷
    classes.Html ∷
    classes.Md ∷
    classes.Chase ∷
    classes.Pi ∷
    classes.Except ∷
    classes.Distinct ∷
    classes.Anonymize ∷
    classes.Pivot ∷
    classes.Coequalize ∷
    classes.Colimit ∷
    classes.Simple ∷
    classes.Sql ∷
    classes.Name ∷
    classes.Text ∷
    classes.LeftBrace ∷
    classes.RightBrace ∷
    classes.LeftParen ∷
    classes.RightParen ∷
    classes.LeftBracket ∷
    classes.RightBracket ∷
    classes.Colon ∷
    classes.Semicolon ∷
    classes.Comma ∷
    classes.Dot ∷
    classes.Equals ∷
    classes.Plus ∷
    classes.Arrow ∷
    classes.End ∷
    []

abbrev pub of_each : (Class → Bool) → List Class → Bool
of_each p [] = true
of_each p (c ∷ cs) = both (p c) (of_each p cs)

-- it holds of every class
abbrev pub every : (Class → Bool) → Bool
every p = of_each p all_classes
