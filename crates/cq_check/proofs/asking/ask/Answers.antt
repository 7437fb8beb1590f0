use Rattle.std.proofs.Common.{ℕ, List, sym, subst}
use Rattle.cq_tables.specs.Content.{Content}
use Rattle.cq_check.specs.Answers.{IsWellSorted}
use Rattle.cq_check.specs.Asking.{IsJudged}
use Rattle.cq_check.proofs.Listed.{grows_none}
use Rattle.cq_check.proofs.Sides.{left_path, right_path, row_answer}
use Rattle.cq_theory.specs.declared.presentation.Equation.{Equation}
use Rattle.cq_theory.specs.declared.presentation.Presentation.{Presentation}
use Rattle.cq_theory.specs.SchemaData.{SchemaData as Schema}
use Rattle.cq_check.proofs.asking.ask.Goals as goal

pub are_one_row-same-requires-clause-left : goal.are_one_row-same-requires-clause-left
are_one_row-same-requires-clause-left c =
    let S : Schema = c.args.rows.now.schema.now in
    let P : Presentation = c.args.rows.now.presentation.now in
    let m : Content = c.args.rows.now.tables.now in
    let entries : List ℕ = c.args.rows.now.entries.now in
    left_path S P m entries c.requires.made.1 c.in-Ent.left c.in-Ent.right (subst (IsWellSorted S P) c.in-Ent.is c.requires.sorted)

pub are_one_row-same-requires-clause-right : goal.are_one_row-same-requires-clause-right
are_one_row-same-requires-clause-right c =
    let S : Schema = c.args.rows.now.schema.now in
    let P : Presentation = c.args.rows.now.presentation.now in
    let m : Content = c.args.rows.now.tables.now in
    let entries : List ℕ = c.args.rows.now.entries.now in
    right_path S P m entries c.requires.made.1 c.in-Ent.left c.in-Ent.right (subst (IsWellSorted S P) c.in-Ent.is c.requires.sorted)

pub returns-in-Ent : goal.returns-in-Ent
returns-in-Ent c =
    let S : Schema = c.args.rows.now.schema.now in
    let P : Presentation = c.args.rows.now.presentation.now in
    let m : Content = c.args.rows.now.tables.now in
    let entries : List ℕ = c.args.rows.now.entries.now in
    record {
      grows = grows_none c.args.list.now;
      sound = c.requires.sound;
      is = subst (λ (e : Equation). IsJudged S P m entries e c.are_one_row-same.result) (sym c.in-Ent.is)
          (row_answer S P m entries c.requires.made.1 c.in-Ent.left c.in-Ent.right (subst (IsWellSorted S P) c.in-Ent.is c.requires.sorted)
          c.is_well_sorted.ensures c.requires.made.0 c.are_one_row-same.result c.are_one_row-same.ensures.0 c.are_one_row-same.ensures.1);
    }
