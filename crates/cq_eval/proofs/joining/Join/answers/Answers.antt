use Rattle.std.proofs.Common.{ℕ, Bool, List, [], ◌++◌, ◌≡◌, ◌+◌, map, length, sym, ap, subst, ◌∙◌, arith}
use Rattle.cq_theory.specs.declared.presentation.Equation.{Equation}
use Rattle.cq_theory.specs.Tables.{Tables}
use Rattle.cq_query.specs.Answers.{IsTuple}
use Rattle.cq_eval.specs.Join.{found_from}
use Rattle.cq_eval.specs.Made.{answers_with}
use Rattle.std.specs.Prelude.{slice_get}
use Rattle.cq_eval.proofs.Bordered.{known_first}
use Rattle.cq_eval.proofs.Extended.{first_tuple, none_are, some_are, tells_more}
use Rattle.cq_eval.proofs.joining.Join.answers.Goals as goal

pub passes-requires-clause-choice : goal.passes-requires-clause-choice
passes-requires-clause-choice c =
    let counts : List ℕ = c.args.self.now.counts in
    let is : c.in_ok-choice.choice ≡ map (λ _. 0) counts = c.in_ok-choice.ensures ∙ ap (λ (l : List ℕ). map (λ _. 0) l) c.as_slice.ensures in
    subst (λ r. IsTuple r counts) (sym is) (first_tuple counts c.requires.rows)

pub extend-requires-clause-choice : goal.extend-requires-clause-choice
extend-requires-clause-choice c =
    let counts : List ℕ = c.args.self.now.counts in
    let is : c.in_ok-choice.choice ≡ map (λ _. 0) counts = c.in_ok-choice.ensures ∙ ap (λ (l : List ℕ). map (λ _. 0) l) c.as_slice.ensures in
    subst (λ r. IsTuple r counts) (sym is) (first_tuple counts c.requires.rows)

pub returns-then-not-branch-clause-answers : goal.returns-then-not-branch-clause-answers
returns-then-not-branch-clause-answers c =
    let counts : List ℕ = c.args.self.now.counts in
    let is : c.in_ok-choice.choice ≡ map (λ _. 0) counts = c.in_ok-choice.ensures ∙ ap (λ (l : List ℕ). map (λ _. 0) l) c.as_slice.ensures in
    c.new-found.ensures.items
    ∙ none_are c.args.self.now.instance.now.tables c.args.self.now.tests.now counts c.in_ok-passes.field-0 c.in_ok-choice.choice (subst (λ r. IsTuple r counts) (sym is) (first_tuple counts c.requires.rows))
    c.in_ok-passes.ensures c.if-not-branch.true

pub returns-in-Ok-clause-answers : goal.returns-in-Ok-clause-answers
returns-in-Ok-clause-answers c =
    let M : Tables = c.args.self.now.instance.now.tables in
    let tests : List Equation = c.args.self.now.tests.now in
    let counts : List ℕ = c.args.self.now.counts in
    let is : c.in_ok-choice.choice ≡ map (λ _. 0) counts = c.in_ok-choice.ensures ∙ ap (λ (l : List ℕ). map (λ _. 0) l) c.as_slice.ensures in
    c.in-Ok.ensures.found ∙ ap (λ l. l ++ found_from M tests counts counts []) c.new-found.ensures.items
    ∙ some_are M tests counts c.in_ok-passes.field-0 c.in_ok-choice.choice (subst (λ r. IsTuple r counts) (sym is) (first_tuple counts c.requires.rows)) c.in_ok-passes.ensures c.if-not-branch.false

pub returns-clause-refused : goal.returns-clause-refused
returns-clause-refused c =
    let M : Tables = c.args.self.now.instance.now.tables in
    let tests : List Equation = c.args.self.now.tests.now in
    let counts : List ℕ = c.args.self.now.counts in
    let is : c.in_ok-choice.choice ≡ map (λ _. 0) counts = c.in_ok-choice.ensures ∙ ap (λ (l : List ℕ). map (λ _. 0) l) c.as_slice.ensures in
    let all : found_from M tests counts counts [] ≡ answers_with M tests counts =
    some_are M tests counts c.in_ok-passes.field-0 c.in_ok-choice.choice (subst (λ r. IsTuple r counts) (sym is) (first_tuple counts c.requires.rows)) c.in_ok-passes.ensures c.if-not-branch.false in
    let none : length c.new-found.result.items ≡ 0 = ap length c.new-found.ensures.items in
    tells_more c.args.self.now.entity (length c.new-found.result.items + length (found_from M tests counts counts [])) (length (answers_with M tests counts)) c.in-Err.refusal
    (omega (arith, none, ap length all)) c.in-Err.ensures.refused

pub extend-requires-clause-known : goal.extend-requires-clause-known
extend-requires-clause-known c =
    let same = c.in_ok-known.ensures.borders in
    known_first c.args.self.now.instance.now.tables c.args.self.now.tests.now c.args.self.now.counts c.new-found.result.items c.in_ok-known.known
    (ap length same ∙ c.requires.long) (λ bound at. c.requires.borders bound (ap (λ (l : List Bool). slice_get l bound) (sym same) ∙ at)) c.in_ok-known.ensures.noted c.in_ok-known.ensures.vain
