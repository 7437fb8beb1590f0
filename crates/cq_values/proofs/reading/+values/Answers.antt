use Rattle.std.proofs.Common.{◌≡◌, ◌∙◌, sym, subst}
use Rattle.std.specs.Prelude.{IfOk, option_map}
use Rattle.cq_theory.specs.declared.value.Value.{Value}
use Rattle.cq_values.specs.Reading.{Front, value_at}
use Rattle.cq_values.proofs.Fronts.{at_quote, at_word}
use Rattle.cq_values.proofs.Steps.{no_comma}
use Rattle.cq_values.proofs.reading.+values.Goals as goal

pub value-returns-then-first-eq34 : goal.value-returns-then-first-eq34
value-returns-then-first-eq34 t c =
    let is = at_quote c.args.typeside.now c.args.levels c.args.sort c.args.bytes.now c.in-Some.first.now c.in-Some.after.now c.if-levels-eq0.false c.in-Some.ensures.cases.0 c.if-first-eq34.true in
    subst (λ (o : Front Value). IfOk c.quoted.result (λ found. option_map (λ x. (x.0, x.1.now)) found ≡ o)) (sym is) c.quoted.ensures

pub value-returns-then-is_word_byte : goal.value-returns-then-is_word_byte
value-returns-then-is_word_byte t c =
    let is = at_word c.args.typeside.now c.args.levels c.args.sort c.args.bytes.now c.in-Some.first.now c.in-Some.after.now c.if-levels-eq0.false c.in-Some.ensures.cases.0
    c.if-first-eq34.false c.if-first-eq63.false (sym c.is_word_byte.ensures ∙ c.if-is_word_byte.true) in
    subst (λ (o : Front Value). IfOk c.word.result (λ found. option_map (λ x. (x.0, x.1.now)) found ≡ o)) (sym is) c.word.ensures

pub others-returns-in_default : goal.others-returns-in_default
others-returns-in_default t c =
    sym (no_comma (value_at c.args.typeside.now c.args.levels) c.args.sorts.now c.loop-sort.sort-index c.loop-sort-test.true c.loop-sort.args.items c.loop-sort.rest.now _ c.loop-sort.invariant (sym c.in_default.ensures))
