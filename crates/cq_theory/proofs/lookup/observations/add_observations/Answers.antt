use Rattle.std.proofs.Common.{◌<◌, ◌≤◌, length, arith}
use Rattle.std.proofs.lemmas.Result.{err_from_is_err_and}
use Rattle.cq_theory.specs.SchemaParts.{observation_fault, made_observation}
use Rattle.cq_theory.proofs.PartLoops.{map_more, map_whole, term_passed, term_refused, terms_passed}
use Rattle.cq_theory.proofs.lookup.observations.add_observations.Goals as goal

pub returns-in_err-observation-clause-refused : goal.returns-in_err-observation-clause-refused
returns-in_err-observation-clause-refused c =
    let p = err_from_is_err_and c.from_residual.result c.from_residual.ensures.1 in
    let within : c.loop-part.part-index < length c.args.parts.now = omega arith in
    rw (p.1, p.2)
    (term_refused (observation_fault c.args.schema.now) c.args.parts.now c.loop-part.part-index c.loop-part.number _ c.part-item.result _ within c.part-item.is c.loop-part.invariant.2 c.in_err-observation.ensures.refused)

pub loop-part-preserved : goal.loop-part-preserved
loop-part-preserved c =
    let parts = c.args.parts.now in
    let i = c.loop-part.part-index in
    let x = c.part-item.result in
    let within : i < length parts = omega arith in
    let one = c.in_ok-observation.ensures.ok in
    let more = c.in_ok-push.ensures.items in (
      omega arith,
      map_more (made_observation c.args.schema.now) parts i x c.loop-part.made.items c.push.new.self.items c.in_ok-observation.observation within c.part-item.is c.loop-part.invariant.1 one.1 more,
      term_passed (observation_fault c.args.schema.now) parts i c.loop-part.number _ x within c.part-item.is one.0 c.loop-part.invariant.2,
    )

pub returns-clause-accepted : goal.returns-clause-accepted
returns-clause-accepted c =
    let end : length c.args.parts.now ≤ c.loop-part.part-index = omega arith in
    terms_passed (observation_fault c.args.schema.now) c.args.parts.now c.loop-part.part-index _ _ end c.loop-part.invariant.2

pub returns-clause-made : goal.returns-clause-made
returns-clause-made c =
    let end : length c.args.parts.now ≤ c.loop-part.part-index = omega arith in
    map_whole (made_observation c.args.schema.now) c.args.parts.now c.loop-part.part-index _ end c.loop-part.invariant.1
