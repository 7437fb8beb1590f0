use Rattle.std.proofs.Common.{length, sym, ap, ◌∙◌, arith}
use Rattle.std.specs.Prelude.{slice_get}
use Rattle.cq_theory.specs.Sorts.{Generators}
use Rattle.cq_theory.specs.declared.presentation.Presentation.{Presentation}
use Rattle.cq_transform.proofs.Loops.{read_at}
use Rattle.cq_transform.proofs.Spelled.{keeps-then}
use Rattle.cq_transform.proofs.Steps.{generators_more}
use Rattle.cq_transform.proofs.nulls.find_generators.Goals as goal

pub find_generator-requires : goal.find_generator-requires
find_generator-requires c =
    let same = ap (λ (P : Presentation). P.generators) c.presentation.ensures.presentation in
    let read = c.as_slice-generators.ensures ∙ same in (
      c.index-generators-number.result.0,
      ap (λ (G : Generators). slice_get G c.loop-number.number) (sym read)
          ∙ read_at c.as_slice-generators.result.now c.loop-number.number c.index-generators-number.result c.loop-number-test.true c.index-generators-number.is,
    )

pub loop-number-preserved : goal.loop-number-preserved
loop-number-preserved c = record {
  keeps = keeps-then c.args.found.now.items c.loop-number.found.items c.find_generator.new.found.items c.loop-number.invariant.keeps c.in_ok-find_generator.ensures.keeps;
  spelled = λ j all. c.in_ok-find_generator.ensures.spelled j (c.loop-number.invariant.spelled j all);
  closed = generators_more c.args.source.now c.loop-number.found.items c.find_generator.new.found.items c.loop-number.number
      c.in_ok-find_generator.ensures.keeps c.in_ok-find_generator.ensures.closed c.loop-number.invariant.closed;
}

pub returns-clause-closed : goal.returns-clause-closed
returns-clause-closed c =
    let read = c.as_slice-generators.ensures ∙ ap (λ (P : Presentation). P.generators) c.presentation.ensures.presentation in
    λ n less type typed. c.loop-number.invariant.closed n (omega (arith, less, c.loop-number-test.false, ap length read)) type typed
