-- The words that are left out of the language, with their numbers, by the position in which they stand.
use Rattle.cq_rules.specs.declared.class.Class.TheVariants as classes
use Rattle.cq_rules.specs.Rule.{Left}

-- at the head of a declaration
abbrev pub head_words : Left
head_words classes.Constraints = 1
head_words classes.Command = 2
head_words classes.Graph = 3
head_words classes.Html = 4
head_words classes.Md = 5
head_words c = 0

-- at the head of an operation, behind the = of a declaration
abbrev pub operation_words : Left
operation_words classes.Chase = 6
operation_words classes.Pi = 7
operation_words classes.Except = 8
operation_words classes.Distinct = 9
operation_words classes.Anonymize = 10
operation_words classes.Pivot = 11
operation_words classes.Coequalize = 12
operation_words classes.Colimit = 13
operation_words classes.Simple = 14
operation_words classes.Sql = 15
operation_words c = 0

-- where a section of a typeside may begin
abbrev pub typeside_words : Left
typeside_words classes.Equations = 16
typeside_words c = 0

-- where a section or a closing brace may stand
abbrev pub section_words : Left
section_words classes.ExternalTypes = 17
section_words classes.ExternalParsers = 18
section_words classes.ExternalFunctions = 19
section_words classes.Imports = 20
section_words c = 0
