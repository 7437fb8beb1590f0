use Rattle.std.proofs.Common.{ℕ, Some, ◌≡◌, length, get_or, false, arith}
use Rattle.std.specs.Prelude.{slice_get}
use Rattle.std.proofs.lemmas.Option.{slice_get-get_or}
use Rattle.cq_check.specs.declared.asking.Asked.{Asked}
use Rattle.cq_check.specs.declared.asking.Asked.TheVariants.{Answered}
use Rattle.cq_check.proofs.Questions.{told_none, told_one_more, all_told}
use Rattle.cq_check.proofs.closing.answers_by.Goals as goal

pub loop-one-init : goal.loop-one-init
loop-one-init c = told_none c.args.flat.now.values c.args.asked.now c.new-answers.result.items c.new-answers.ensures.items

pub answer_by-requires : goal.answer_by-requires
answer_by-requires c =
    let i : ℕ = c.loop-one.one-index in
    let one : Asked = get_or c.args.asked.now i (Answered false) in
    let there : slice_get c.args.asked.now i ≡ Some one = slice_get-get_or c.args.asked.now i (Answered false) c.loop-one-test.true in
    c.requires i one there

pub loop-one-preserved : goal.loop-one-preserved
loop-one-preserved c =
    let i : ℕ = c.loop-one.one-index in
    let one : Asked = get_or c.args.asked.now i (Answered false) in
    let there : slice_get c.args.asked.now i ≡ Some one = slice_get-get_or c.args.asked.now i (Answered false) c.loop-one-test.true in
    told_one_more c.args.flat.now.values c.args.asked.now c.loop-one.answers.items c.push.new.self.items one c.answer_by.result i there c.in_ok-push.ensures.items c.answer_by.ensures c.loop-one.invariant

pub returns : goal.returns
returns c =
    let all : c.loop-one.one-index ≡ length c.args.asked.now = omega (arith, c.loop-one-test.false, c.loop-one.auto.one-index-end) in
    all_told c.args.flat.now.values c.args.asked.now c.loop-one.answers.items c.loop-one.one-index all c.loop-one.invariant
