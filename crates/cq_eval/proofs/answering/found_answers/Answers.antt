use Rattle.std.proofs.Common.{ℕ, List, ◌≡◌, length, sym, ap, subst, ◌∙◌, arith}
use Rattle.std.specs.Prelude.{option_copied, IfOk, IfErr}
use Rattle.cq_eval.specs.Refused.{TellsOver}
use Rattle.cq_eval.proofs.Answered.{stand_once}
use Rattle.cq_eval.proofs.Placed.{answers_ascend}
use Rattle.cq_eval.proofs.Told as told
use Rattle.cq_eval.proofs.answering.found_answers.Goals as goal

pub block_answers-requires-clause-entities : goal.block_answers-requires-clause-entities
block_answers-requires-clause-entities c =
    told.block_entities c.args.query.now c.args.instance.now.tables c.is_well_sorted.ensures c.args.instance.now.schema c.requires.over c.args.entity c.in-Some.block.now (sym c.block.ensures ∙ ap option_copied c.in-Some.is) c.requires.within

pub block_answers-requires-clause-tested : goal.block_answers-requires-clause-tested
block_answers-requires-clause-tested c =
    told.block_tested c.args.query.now c.args.instance.now.tables c.is_well_sorted.ensures c.args.instance.now.schema c.requires.over c.args.entity c.in-Some.block.now (sym c.block.ensures ∙ ap option_copied c.in-Some.is) c.requires.within

pub unreachable-requires : goal.unreachable-requires
unreachable-requires c =
    told.present c.args.query.now.blocks c.args.entity (omega (arith, c.requires.within, c.is_well_sorted.ensures.blocks)) (sym (ap option_copied c.in-None.is) ∙ c.block.ensures)

pub returns-clause-answers : goal.returns-clause-answers
returns-clause-answers c =
    let all = told.block_answers c.args.query.now c.args.instance.now.tables c.is_well_sorted.ensures c.args.instance.now.schema c.requires.over c.args.entity c.in-Some.block.now (sym c.block.ensures ∙ ap option_copied c.in-Some.is) c.requires.within in
    subst (λ (l : List (List ℕ)). IfOk c.block_answers.result (λ found. found.items ≡ l)) all c.block_answers.ensures.answers

pub returns-clause-refused : goal.returns-clause-refused
returns-clause-refused c =
    let all = told.block_answers c.args.query.now c.args.instance.now.tables c.is_well_sorted.ensures c.args.instance.now.schema c.requires.over c.args.entity c.in-Some.block.now (sym c.block.ensures ∙ ap option_copied c.in-Some.is) c.requires.within in
    subst (λ (l : List (List ℕ)). IfErr c.block_answers.result (TellsOver c.args.entity (length l))) all c.block_answers.ensures.refused

pub returns-clause-once : goal.returns-clause-once
returns-clause-once c = stand_once c.args.query.now c.args.instance.now.tables c.args.entity

pub returns-clause-ascend : goal.returns-clause-ascend
returns-clause-ascend c = answers_ascend c.args.query.now c.args.instance.now.tables c.args.entity
