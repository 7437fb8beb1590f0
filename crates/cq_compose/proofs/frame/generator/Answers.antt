use Rattle.std.proofs.Common.{◌<◌, length, sym, ◌∙◌, arith}
use Rattle.cq_compose.specs.Composite.{components}
use Rattle.cq_compose.proofs.Following.{generator_there, generator_missing}
use Rattle.cq_compose.proofs.frame.generator.Goals as goal

pub overflow_cast-result : goal.overflow_cast-result
overflow_cast-result c =
    let frame = c.args.frame.now in
    let within : c.args.place < length (components frame.first.now frame.second.now frame.entity c.args.variable) = omega (arith, c.if-place-width.true, c.width-width.ensures) in
    let there = generator_there frame.first.now frame.second.now frame.entity frame.starts.now c.requires.starts c.requires.few c.args.variable c.args.place c.in-Some.start (sym c.start_at.ensures ∙ c.in-Some.is) within in
    omega (arith, there.0)

pub overflow_add-result : goal.overflow_add-result
overflow_add-result c =
    let frame = c.args.frame.now in
    let within : c.args.place < length (components frame.first.now frame.second.now frame.entity c.args.variable) = omega (arith, c.if-place-width.true, c.width-width.ensures) in
    let there = generator_there frame.first.now frame.second.now frame.entity frame.starts.now c.requires.starts c.requires.few c.args.variable c.args.place c.in-Some.start (sym c.start_at.ensures ∙ c.in-Some.is) within in
    omega (arith, there.0)

pub returns-then-place-width : goal.returns-then-place-width
returns-then-place-width c =
    let frame = c.args.frame.now in
    let within : c.args.place < length (components frame.first.now frame.second.now frame.entity c.args.variable) = omega (arith, c.if-place-width.true, c.width-width.ensures) in
    (generator_there frame.first.now frame.second.now frame.entity frame.starts.now c.requires.starts c.requires.few c.args.variable c.args.place c.in-Some.start (sym c.start_at.ensures ∙ c.in-Some.is) within).1

pub returns-in-None : goal.returns-in-None
returns-in-None c =
    let frame = c.args.frame.now in
    generator_missing frame.first.now frame.second.now frame.entity frame.starts.now c.requires.starts c.requires.few c.args.variable c.args.place (sym c.start_at.ensures ∙ c.in-None.is)
