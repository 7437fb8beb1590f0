use Rattle.std.proofs.Common.{ℕ, List, ◌≡◌, map, length, sym, ap, subst, ◌∙◌}
use Rattle.std.specs.Prelude.{slice_get, IfOk, IfErr}
use Rattle.cq_base.specs.declared.name.Name.{Name}
use Rattle.cq_theory.specs.declared.presentation.Equation.{Equation}
use Rattle.cq_theory.specs.Tables.{Tables, count_of}
use Rattle.cq_query.specs.Answers.{IsTuple}
use Rattle.cq_eval.specs.Made.{answers_with}
use Rattle.cq_eval.specs.Refused.{TellsOver}
use Rattle.cq_eval.proofs.answering.block_answers.Goals as goal

pub searched-requires-clause-typed : goal.searched-requires-clause-typed
searched-requires-clause-typed c =
    let M : Tables = c.args.instance.now.tables in
    let f : Name × ℕ → ℕ = λ v. count_of M v.1 in
    let same : c.in_ok-counts.counts ≡ map f c.args.block.now.vars = c.in_ok-counts.ensures ∙ ap (map f) c.as_slice-2.ensures in
    λ rows tuple n e at. c.requires.tested rows (subst (IsTuple rows) same tuple) n e (ap (λ (l : List Equation). slice_get l n) (sym c.as_slice-3.ensures) ∙ at)

pub returns-clause-answers : goal.returns-clause-answers
returns-clause-answers c =
    let M : Tables = c.args.instance.now.tables in
    let f : Name × ℕ → ℕ = λ v. count_of M v.1 in
    let same : c.in_ok-counts.counts ≡ map f c.args.block.now.vars = c.in_ok-counts.ensures ∙ ap (map f) c.as_slice-2.ensures in
    let all : answers_with M c.as_slice-3.result.now c.in_ok-counts.counts ≡ answers_with M c.args.block.now.tests (map f c.args.block.now.vars) = λ j. answers_with M (c.as_slice-3.ensures j) (same j) in
    subst (λ (l : List (List ℕ)). IfOk c.searched.result (λ found. found.items ≡ l)) all c.searched.ensures.answers

pub returns-clause-refused : goal.returns-clause-refused
returns-clause-refused c =
    let M : Tables = c.args.instance.now.tables in
    let f : Name × ℕ → ℕ = λ v. count_of M v.1 in
    let same : c.in_ok-counts.counts ≡ map f c.args.block.now.vars = c.in_ok-counts.ensures ∙ ap (map f) c.as_slice-2.ensures in
    let all : answers_with M c.as_slice-3.result.now c.in_ok-counts.counts ≡ answers_with M c.args.block.now.tests (map f c.args.block.now.vars) = λ j. answers_with M (c.as_slice-3.ensures j) (same j) in
    subst (λ (l : List (List ℕ)). IfErr c.searched.result (TellsOver c.args.entity (length l))) all c.searched.ensures.refused
