use Rattle.std.proofs.Common.{arith, ◌++◌, ◌<◌, append_assoc, take, map, length, codes}
use Rattle.cq_theory.specs.ValueText.{after_commas}
use Rattle.cq_explain.specs.Explanation.{term_text}
use Rattle.cq_explain.proofs.Texts.{after_commas_more}
use Rattle.cq_explain.proofs.terms.+term.Goals as goal

pub push_args-loop-arg-preserved : goal.push_args-loop-arg-preserved
push_args-loop-arg-preserved t c =
    let within : c.loop-arg.arg-index < length c.in-Some.rest.now = omega arith in
    let text_of = term_text c.args.schema.now c.args.presentation.now in
    let more = after_commas_more text_of c.in-Some.rest.now c.loop-arg.arg-index c.arg-item.result within in
    let before = after_commas (map text_of (take c.loop-arg.arg-index c.in-Some.rest.now)) in
    let base = c.push_type_term.new.text.items in
    cc (
      more,
      c.arg-item.is,
      c.loop-arg.invariant,
      c.in_ok-extend_from_slice.ensures.items,
      c.in_ok-push_type_term-2.ensures,
      append_assoc base before (codes ", " ++ text_of c.arg-item.result),
      append_assoc (base ++ before) (codes ", ") (text_of c.arg-item.result),
    )
