use Rattle.std.proofs.Common.{rules, arith, ap, Err, sym, ◌∙◌}
use Rattle.std.proofs.lemmas.List.{take-map, length-map}
use Rattle.std.proofs.lemmas.Result.{err_from_is_err_and}
use Rattle.cq_export.proofs.Hands.{refused_stops}
use Rattle.cq_export.proofs.handing.hand_to.Goals as goal

pub returns-in_err-put_to : goal.returns-in_err-put_to
returns-in_err-put_to g c =
    let p = err_from_is_err_and c.from_residual.result c.from_residual.ensures.1 in
    rw (p.1, p.2) (refused_stops _ _ _ _ (record {
      format = search rules;
      count = c.loop-file.file-index;
      proper = simp length-map (omega arith);
      held = rw take-map (search rules);
      later = omega arith;
      steady = search rules;
    }) (λ e.
    let is = ap Err e in
    let rose = c.in_err-put_to.ensures.failed is in
    (omega (arith, rose), sym c.loop-file.invariant.steady ∙ c.in_err-put_to.ensures.fails is)))
