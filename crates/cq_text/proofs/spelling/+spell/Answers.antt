use Rattle.std.proofs.Common.{rules, arith, ◌++◌, ◌<◌, append_assoc, take, map, length, codes}
use Rattle.cq_theory.specs.ValueText.{after_commas}
use Rattle.cq_theory.specs.declared.value.Value.{the_lemmas}
use Rattle.cq_theory.proofs.Values.{function_in_range, args_named, after_commas_more}
use Rattle.cq_text.specs.Spelling.{spelled}
use Rattle.cq_text.proofs.spelling.+spell.Goals as goal

pub push_spelled_args-loop-arg-preserved : goal.push_spelled_args-loop-arg-preserved
push_spelled_args-loop-arg-preserved t c =
    let within : c.loop-arg.arg-index < length c.in-Some.rest.now = omega arith in
    let text_of = spelled c.args.typeside.now c.args.first_null in
    let more = after_commas_more text_of c.in-Some.rest.now c.loop-arg.arg-index c.arg-item.result within in
    let before = after_commas (map text_of (take c.loop-arg.arg-index c.in-Some.rest.now)) in
    let base = c.push_spelled.new.text.items in
    cc (
      more,
      c.arg-item.is,
      c.loop-arg.invariant,
      c.in_ok-extend_from_slice.ensures.items,
      c.in_ok-push_spelled-2.ensures,
      append_assoc base before (codes ", " ++ text_of c.arg-item.result),
      append_assoc (base ++ before) (codes ", ") (text_of c.arg-item.result),
    )

pub push_spelled-push_spelled_application-requires : goal.push_spelled-push_spelled_application-requires
push_spelled-push_spelled_application-requires t c =
    (search (rules, the_lemmas), (function_in_range c.args.typeside.now c.args.value.now _ _ c.in-Fun.is c.requires, rw c.as_slice.ensures (args_named c.args.typeside.now c.args.value.now _ _ c.in-Fun.is c.requires)))
