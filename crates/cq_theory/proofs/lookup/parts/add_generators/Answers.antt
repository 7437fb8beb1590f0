use Rattle.std.proofs.Common.{◌<◌, ◌≤◌, length, refl, sym, ap, arith}
use Rattle.std.proofs.lemmas.Result.{err_from_is_err_and}
use Rattle.cq_theory.specs.Resolve.{sort_named}
use Rattle.cq_theory.specs.Parts.{generator_fault, sort_or_first}
use Rattle.cq_theory.proofs.PartLoops.{map_more, map_whole, part_passed, part_refused, parts_passed}
use Rattle.cq_theory.proofs.lookup.parts.add_generators.Goals as goal

pub returns-in_err-sort-clause-refused : goal.returns-in_err-sort-clause-refused
returns-in_err-sort-clause-refused c =
    let p = err_from_is_err_and c.from_residual-in_err-sort.result c.from_residual-in_err-sort.ensures.1 in
    let within : c.loop-generator.generator-index < length c.args.parts.now = omega arith in
    rw (p.1, p.2)
    (part_refused (λ p. p.0) (generator_fault c.args.schema.now) c.args.parts.now c.loop-generator.generator-index c.loop-generator.names c.loop-generator.part _ c.generator-item.result _ within c.generator-item.is c.loop-generator.invariant.3 c.in_err-sort.ensures.refused)

pub loop-generator-preserved : goal.loop-generator-preserved
loop-generator-preserved c =
    let parts = c.args.parts.now in
    let i = c.loop-generator.generator-index in
    let x = c.generator-item.result in
    let within : i < length parts = omega arith in
    let one = c.in_ok-sort.ensures.ok in
    let more = c.in_ok-push.ensures.items in (
      omega arith,
      map_more (λ p. p.0) parts i x c.loop-generator.names c.add_generator.new.names x.0 within c.generator-item.is c.loop-generator.invariant.1 refl one.1,
      map_more (λ p. sort_or_first (sort_named c.args.schema.now p.1)) parts i x c.loop-generator.sorts.items c.push.new.self.items c.in_ok-sort.sort within c.generator-item.is c.loop-generator.invariant.2 (sym (ap sort_or_first one.2)) more,
      part_passed (λ p. p.0) (generator_fault c.args.schema.now) parts i c.loop-generator.names c.loop-generator.part _ x c.add_generator.new.names within c.generator-item.is one.1 one.0 c.loop-generator.invariant.3,
    )

pub returns-clause-accepted : goal.returns-clause-accepted
returns-clause-accepted c =
    let end : length c.args.parts.now ≤ c.loop-generator.generator-index = omega arith in
    parts_passed (λ p. p.0) (generator_fault c.args.schema.now) c.args.parts.now c.loop-generator.generator-index _ _ _ end c.loop-generator.invariant.3

pub returns-clause-made : goal.returns-clause-made
returns-clause-made c =
    let end : length c.args.parts.now ≤ c.loop-generator.generator-index = omega arith in (
      map_whole (λ p. p.0) c.args.parts.now c.loop-generator.generator-index _ end c.loop-generator.invariant.1,
      map_whole (λ p. sort_or_first (sort_named c.args.schema.now p.1)) c.args.parts.now c.loop-generator.generator-index _ end c.loop-generator.invariant.2,
    )
