-- Texts of explanations: a derivation step by step, or the two different rows or values.
use Rattle.std.specs.Prelude.{ℕ, List, ◌++◌, ◌+◌, length, slice_get, codes, decimal}
use Rattle.std.specs.List.{enumerate_from, flat_map}
use Rattle.cq_theory.specs.declared.presentation.Equation.{Equation}
use Rattle.cq_theory.specs.declared.presentation.Equation.TheVariants.{Ent as EntEquation, Typ as TypEquation}
use Rattle.cq_theory.specs.declared.presentation.Presentation.{Presentation}
use Rattle.cq_theory.specs.SchemaData.{SchemaData as Schema}
use Rattle.cq_theory.specs.declared.term.EntTerm.{EntTerm}
use Rattle.cq_theory.specs.declared.term.TypeTerm.{TypeTerm}
use Rattle.cq_theory.specs.declared.term.TypeTerm.TheOpen.{TypeTerm-F, Gen, Const, Att, Fun}
use Rattle.cq_theory.specs.declared.term.TypeTerm.TheFolds.{fold-TypeTerm}
use Rattle.cq_theory.specs.declared.term.Term.{Term}
use Rattle.cq_theory.specs.declared.term.Term.TheVariants.{Ent, Typ}
use Rattle.cq_theory.specs.Derivation.{left_of, right_of}
use Rattle.cq_theory.specs.Tables.{row_of, value_of}
use Rattle.cq_theory.specs.ValueText.{application_text, con_text, function_name, value_text}
use Rattle.cq_instance.specs.InstanceData.{InstanceData}
use Rattle.cq_steps.specs.declared.step.Rule.{Rule}
use Rattle.cq_steps.specs.declared.step.Rule.TheVariants as rule
use Rattle.cq_steps.specs.declared.step.Step.{Step}
use Rattle.cq_text.specs.Literal.{applied_text}
use Rattle.cq_text.specs.Transcript.{edge_name, generator_name, line, name_text}

-- a number that counts from 0, told from 1
abbrev pub ordinal : ℕ → List ℕ
ordinal n = decimal (n + 1)

-- a blank and the number of an earlier step
abbrev pub premise_text : ℕ → List ℕ
premise_text n = codes " " ++ ordinal n

module _ (S : Schema) (P : Presentation) where
  -- the generator and the keys that are followed from it, with dots between them
  abbrev pub ent_text : EntTerm → List ℕ
  ent_text = name_text S.keys P.generators

  -- a generator by its name, a constant as in the text of a value, an attribute at a term, and a function at its arguments
  abbrev pub term_text_step : TypeTerm-F (List ℕ) → List ℕ
  term_text_step (Gen n) = generator_name (slice_get P.generators n)
  term_text_step (Const c) = con_text S.typeside c
  term_text_step (Att a t) = applied_text (edge_name (slice_get S.attributes a)) (ent_text t)
  term_text_step (Fun f texts) = application_text (function_name (slice_get S.typeside.functions f)) texts

  abbrev pub term_text : TypeTerm → List ℕ
  term_text = fold-TypeTerm (List ℕ) term_text_step

  -- `LEFT = RIGHT`
  abbrev pub equation_text : Equation → List ℕ
  equation_text (EntEquation t u) = ent_text t ++ codes " = " ++ ent_text u
  equation_text (TypEquation t u) = term_text t ++ codes " = " ++ term_text u

  -- the word of a rule, and what it uses: a name, or the number of an equation, with the term that is put in its variable's place
  abbrev pub rule_text : Rule → List ℕ
  rule_text rule.Reflexivity = codes "refl"
  rule_text rule.Symmetry = codes "sym"
  rule_text rule.Transitivity = codes "trans"
  rule_text (rule.Key k) = codes "key " ++ edge_name (slice_get S.keys k)
  rule_text (rule.Attribute a) = codes "att " ++ edge_name (slice_get S.attributes a)
  rule_text (rule.Function f) = codes "fun " ++ function_name (slice_get S.typeside.functions f)
  rule_text (rule.Given n) = codes "given " ++ ordinal n
  rule_text (rule.Path n at) = codes "path " ++ ordinal n ++ codes " " ++ ent_text at
  rule_text (rule.Obs n at) = codes "obs " ++ ordinal n ++ codes " " ++ ent_text at

  -- the number of the step, its rule, the numbers of its premises, and its equation
  abbrev pub step_line : ℕ × Step → List ℕ
  step_line s =
      line (ordinal s.0 ++ codes " " ++ rule_text s.1.rule ++ flat_map premise_text s.1.from ++ codes ": " ++ equation_text s.1.equation)

  abbrev pub step_lines : List Step → List ℕ
  step_lines steps = flat_map step_line (enumerate_from 0 steps)

  -- how many steps there are, and a line for each
  unfoldable pub equal_text : List Step → List ℕ
  equal_text steps = line (codes "equal " ++ decimal (length steps)) ++ step_lines steps

module _ (i : InstanceData) where
  -- what a term means: a row by its number from 1, or a value by its text
  abbrev pub shown_term : Term → List ℕ
  shown_term (Ent t) = ordinal (row_of i.tables i.assignment t)
  shown_term (Typ t) = value_text i.schema.typeside (value_of i.tables i.assignment t)

  unfoldable pub different_text : Equation → List ℕ
  different_text e = line (codes "different " ++ shown_term (left_of e) ++ codes " " ++ shown_term (right_of e))
