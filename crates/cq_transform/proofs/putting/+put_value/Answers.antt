use Rattle.std.proofs.Common.{◌≡◌, map, IfOk, ap, subst, ◌∙◌}
use Rattle.std.proofs.lemmas.List.{take_all}
use Rattle.cq_theory.specs.declared.term.TypeTerm.{TypeTerm}
use Rattle.cq_transform.specs.Composing.{put_value}
use Rattle.cq_theory.proofs.PartLoops.{map_more}
use Rattle.cq_transform.proofs.Placed.{put_generator, put_function}
use Rattle.cq_transform.proofs.putting.+put_value.Goals as goal

pub returns-in-Gen : goal.returns-in-Gen
returns-in-Gen t c =
    subst (λ (v : TypeTerm). IfOk c.value_at.result (λ w. w ≡ v))
    (put_generator c.args.images.now c.args.term.now c.in-Gen.generator c.in-Gen.is) c.value_at.ensures

pub loop-arg-preserved : goal.loop-arg-preserved
loop-arg-preserved t c =
    map_more (put_value c.args.images.now) c.as_slice-arg-items.result.now c.loop-arg.arg-index c.arg-item.result c.loop-arg.made.items _ _ c.loop-arg-test.true c.arg-item.is c.loop-arg.invariant
    c.in_ok-put_value-in-Fun.ensures c.in_ok-push-in-Fun.ensures.items

pub returns-after-loop-arg : goal.returns-after-loop-arg
returns-after-loop-arg t c =
    put_function c.args.images.now c.args.term.now c.in-Fun.function c.in-Fun.args c.from_vec.result c.in-Fun.is
    (c.from_vec.ensures ∙ c.loop-arg.invariant ∙ ap (map (put_value c.args.images.now))
    (take_all c.loop-arg.arg-index c.as_slice-arg-items.result.now c.loop-arg-test.false ∙ c.as_slice-arg-items.ensures))
