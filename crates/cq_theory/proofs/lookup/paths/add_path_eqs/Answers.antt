use Rattle.std.proofs.Common.{◌<◌, ◌≤◌, length, arith}
use Rattle.std.proofs.lemmas.Result.{err_from_is_err_and}
use Rattle.cq_theory.specs.Paths.{is_among, path_eq_fault, made_path_eq}
use Rattle.cq_theory.proofs.PartLoops.{map_more, map_whole, term_passed, term_refused, terms_passed}
use Rattle.cq_theory.proofs.lookup.paths.add_path_eqs.Goals as goal

pub returns-in_err-path_eq-clause-refused : goal.returns-in_err-path_eq-clause-refused
returns-in_err-path_eq-clause-refused c =
    let p = err_from_is_err_and c.from_residual.result c.from_residual.ensures.1 in
    let within : c.loop-path_eq.path_eq-index < length c.args.parts.now = omega arith in
    rw (p.1, p.2)
    (term_refused (path_eq_fault c.args.schema.now (is_among c.args.attributes.now)) c.args.parts.now c.loop-path_eq.path_eq-index c.loop-path_eq.part _ c.path_eq-item.result _ within c.path_eq-item.is c.loop-path_eq.invariant.2 c.in_err-path_eq.ensures.refused)

pub loop-path_eq-preserved : goal.loop-path_eq-preserved
loop-path_eq-preserved c =
    let parts = c.args.parts.now in
    let i = c.loop-path_eq.path_eq-index in
    let x = c.path_eq-item.result in
    let within : i < length parts = omega arith in
    let one = c.in_ok-path_eq.ensures.ok in
    let more = c.in_ok-push.ensures.items in (
      omega arith,
      map_more (made_path_eq c.args.schema.now) parts i x c.loop-path_eq.made.items c.push.new.self.items c.in_ok-path_eq.path_eq within c.path_eq-item.is c.loop-path_eq.invariant.1 one.1 more,
      term_passed (path_eq_fault c.args.schema.now (is_among c.args.attributes.now)) parts i c.loop-path_eq.part _ x within c.path_eq-item.is one.0 c.loop-path_eq.invariant.2,
    )

pub returns-clause-accepted : goal.returns-clause-accepted
returns-clause-accepted c =
    let end : length c.args.parts.now ≤ c.loop-path_eq.path_eq-index = omega arith in
    terms_passed (path_eq_fault c.args.schema.now (is_among c.args.attributes.now)) c.args.parts.now c.loop-path_eq.path_eq-index _ _ end c.loop-path_eq.invariant.2

pub returns-clause-made : goal.returns-clause-made
returns-clause-made c =
    let end : length c.args.parts.now ≤ c.loop-path_eq.path_eq-index = omega arith in
    map_whole (made_path_eq c.args.schema.now) c.args.parts.now c.loop-path_eq.path_eq-index _ end c.loop-path_eq.invariant.1
