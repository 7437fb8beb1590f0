use Rattle.std.proofs.Common.{◌<◌, ◌≤◌, length, refl, arith}
use Rattle.std.proofs.lemmas.Result.{err_from_is_err_and}
use Rattle.cq_theory.specs.TypesideParts.{constant_fault, made_constant}
use Rattle.cq_theory.proofs.PartLoops.{map_more, map_whole, part_passed, part_refused, parts_passed}
use Rattle.cq_theory.proofs.lookup.typeside_parts.add_constants.Goals as goal

pub returns-in_err-made-clause-refused : goal.returns-in_err-made-clause-refused
returns-in_err-made-clause-refused c =
    let p = err_from_is_err_and c.from_residual.result c.from_residual.ensures.1 in
    let within : c.loop-constant.constant-index < length c.args.parts.now = omega arith in
    rw (p.1, p.2)
    (part_refused (λ p. p.0) (constant_fault c.args.types.now) c.args.parts.now c.loop-constant.constant-index c.loop-constant.table c.loop-constant.part _ c.constant-item.result _ within c.constant-item.is c.loop-constant.invariant.3 c.in_err-made.ensures.refused)

pub loop-constant-preserved : goal.loop-constant-preserved
loop-constant-preserved c =
    let parts = c.args.parts.now in
    let i = c.loop-constant.constant-index in
    let x = c.constant-item.result in
    let within : i < length parts = omega arith in
    let one = c.in_ok-made.ensures.ok in
    let more = c.in_ok-push.ensures.items in (
      omega arith,
      map_more (λ p. p.0) parts i x c.loop-constant.table c.add_constant.new.table x.0 within c.constant-item.is c.loop-constant.invariant.1 refl one.1,
      map_more (made_constant c.args.types.now) parts i x c.loop-constant.constants.items c.push.new.self.items c.in_ok-made.made within c.constant-item.is c.loop-constant.invariant.2 one.2 more,
      part_passed (λ p. p.0) (constant_fault c.args.types.now) parts i c.loop-constant.table c.loop-constant.part _ x c.add_constant.new.table within c.constant-item.is one.1 one.0 c.loop-constant.invariant.3,
    )

pub returns-clause-accepted : goal.returns-clause-accepted
returns-clause-accepted c =
    let end : length c.args.parts.now ≤ c.loop-constant.constant-index = omega arith in
    parts_passed (λ p. p.0) (constant_fault c.args.types.now) c.args.parts.now c.loop-constant.constant-index _ _ _ end c.loop-constant.invariant.3

pub returns-clause-made : goal.returns-clause-made
returns-clause-made c =
    let end : length c.args.parts.now ≤ c.loop-constant.constant-index = omega arith in (
      map_whole (λ p. p.0) c.args.parts.now c.loop-constant.constant-index _ end c.loop-constant.invariant.1,
      map_whole (made_constant c.args.types.now) c.args.parts.now c.loop-constant.constant-index _ end c.loop-constant.invariant.2,
    )
