use Rattle.std.proofs.Common.{arith, ◌<◌, ◌≤◌, length, map, ap, ◌∙◌}
use Rattle.std.proofs.lemmas.List.{take_all}
use Rattle.cq_theory.specs.Resolved.{resolved, type_term_in}
use Rattle.cq_theory.proofs.Resolving.{typed_more}
use Rattle.cq_theory.proofs.lookup.builds.+build.Goals as goal

pub build_args-loop-arg-preserved : goal.build_args-loop-arg-preserved
build_args-loop-arg-preserved t c =
    let within : c.loop-arg.arg-index < length c.args.args.now = omega arith in
    typed_more (resolved c.args.schema.now c.args.names.now c.args.sorts.now) c.args.args.now c.loop-arg.arg-index c.arg-item.result c.in_ok-term.term c.type_term.result _ _ within c.arg-item.is c.in_ok-term.ensures c.type_term.ensures c.loop-arg.invariant c.in_ok-push.ensures.items

pub build_args-returns : goal.build_args-returns
build_args-returns t c =
    let end : length c.args.args.now ≤ c.loop-arg.arg-index = omega arith in
    c.loop-arg.invariant ∙ ap (λ l. map type_term_in (map (resolved c.args.schema.now c.args.names.now c.args.sorts.now) l)) (take_all c.loop-arg.arg-index c.args.args.now end)
