-- The words of the forms in which transforms are moved.
use Rattle.std.specs.Prelude.{Bool, Option, Some, None, is_some}
use Rattle.std.specs.Option.{unwrap_or}
use Rattle.cq_lex.specs.declared.token.Token.{Token}
use Rattle.cq_rules.specs.declared.class.Class.{Class}
use Rattle.cq_rules.specs.declared.class.Class.TheVariants as classes
use Rattle.cq_rules.specs.Class.{Set, class_of}
use Rattle.cq_syntax.specs.declared.program.MoveForm.{MoveForm}
use Rattle.cq_syntax.specs.declared.program.MoveForm.TheVariants as forms

abbrev pub form_named : Class → Option MoveForm
form_named classes.Sigma = Some forms.Sigma
form_named classes.Delta = Some forms.Delta
form_named classes.Eval = Some forms.Eval
form_named classes.Coeval = Some forms.Coeval
form_named classes.Unit = Some forms.Unit
form_named classes.Counit = Some forms.Counit
form_named classes.UnitQuery = Some forms.UnitQuery
form_named classes.CounitQuery = Some forms.CounitQuery
form_named _ = None

abbrev pub is_form : Set
is_form c = is_some (form_named c)

-- the form that a word names
abbrev pub form_of : Token → MoveForm
form_of t = unwrap_or (form_named (class_of t)) forms.Sigma
