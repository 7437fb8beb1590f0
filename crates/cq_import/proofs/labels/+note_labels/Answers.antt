use Rattle.std.proofs.Common.{◌≤◌, ◌∙◌, length, map, sym, ap, refl, arith}
use Rattle.std.proofs.lemmas.List.{length-map}
use Rattle.cq_import.specs.Labels.{uses_in, uses_trouble, with_uses}
use Rattle.cq_import.proofs.Uses.{arg_here, left_past, left_end, noted_trouble, noted_more, no_trouble, noted_all, uses_at}
use Rattle.cq_import.proofs.labels.+note_labels.Goals as goal

pub returns-in_default-clause-told : goal.returns-in_default-clause-told
returns-in_default-clause-told t c =
    let all = noted_all _ _ _ _ _ c.loop-place.invariant (left_past _ _ c.loop-place.place c.in_default.ensures.lookup.3) in
    let whole = uses_at c.args.typeside.now c.args.value.now c.in-Fun.function c.in-Fun.args _ _ c.args.sort c.in-Fun.is c.as_slice-arg-items.ensures c.argument_types-types.ensures in
    sym (ap (uses_trouble c.args.room c.args.labels.now) whole ∙ all.0)

pub returns-in_default-clause-noted : goal.returns-in_default-clause-noted
returns-in_default-clause-noted t c = λ none.
    let all = noted_all _ _ _ _ _ c.loop-place.invariant (left_past _ _ c.loop-place.place c.in_default.ensures.lookup.3) in
    let whole = uses_at c.args.typeside.now c.args.value.now c.in-Fun.function c.in-Fun.args _ _ c.args.sort c.in-Fun.is c.as_slice-arg-items.ensures c.argument_types-types.ensures in
    all.1 ∙ ap (with_uses c.args.labels.now) (sym whole)

pub returns-in-Some-2-clause-told : goal.returns-in-Some-2-clause-told
returns-in-Some-2-clause-told t c =
    let here = arg_here c.args.typeside.now c.as_slice-arg-items.result.now c.argument_types-types.result.now c.loop-place.place c.arg-item.result c.in-Some.sort.now c.loop-place-test.true c.arg-item.is c.in-Some.ensures.lookup.3.0 (c.in-Some.ensures.lookup.3.1 0) in
    let whole = uses_at c.args.typeside.now c.args.value.now c.in-Fun.function c.in-Fun.args _ _ c.args.sort c.in-Fun.is c.as_slice-arg-items.ensures c.argument_types-types.ensures in
    let bad = sym c.in_ok-trouble-in-Fun.ensures.told ∙ c.in-Some-2.is in
    sym (ap (uses_trouble c.args.room c.args.labels.now) whole ∙ noted_trouble _ _ _ _ _ c.loop-place.invariant _ _ c.in-Some-2.trouble here bad)

pub loop-place-init : goal.loop-place-init
loop-place-init t c = record { trouble = refl; labels = refl }

pub loop-place-preserved : goal.loop-place-preserved
loop-place-preserved t c =
    let here = arg_here c.args.typeside.now c.as_slice-arg-items.result.now c.argument_types-types.result.now c.loop-place.place c.arg-item.result c.in-Some.sort.now c.loop-place-test.true c.arg-item.is c.in-Some.ensures.lookup.3.0 (c.in-Some.ensures.lookup.3.1 0) in
    let good = no_trouble _ c.in_default-2.not-Some in
    noted_more _ _ _ _ _ c.loop-place.invariant c.note_labels.new.labels _ _ here (sym c.in_ok-trouble-in-Fun.ensures.told ∙ good) (c.in_ok-trouble-in-Fun.ensures.noted good)

pub returns-after-loop-place-clause-told : goal.returns-after-loop-place-clause-told
returns-after-loop-place-clause-told t c =
    let past : length (map (uses_in c.args.typeside.now) c.as_slice-arg-items.result.now) ≤ c.loop-place.place =
    omega (arith, c.loop-place-test.false, length-map c.as_slice-arg-items.result.now (uses_in c.args.typeside.now)) in
    let all = noted_all _ _ _ _ _ c.loop-place.invariant (left_end _ _ c.loop-place.place past) in
    let whole = uses_at c.args.typeside.now c.args.value.now c.in-Fun.function c.in-Fun.args _ _ c.args.sort c.in-Fun.is c.as_slice-arg-items.ensures c.argument_types-types.ensures in
    sym (ap (uses_trouble c.args.room c.args.labels.now) whole ∙ all.0)

pub returns-after-loop-place-clause-noted : goal.returns-after-loop-place-clause-noted
returns-after-loop-place-clause-noted t c = λ none.
    let past : length (map (uses_in c.args.typeside.now) c.as_slice-arg-items.result.now) ≤ c.loop-place.place =
    omega (arith, c.loop-place-test.false, length-map c.as_slice-arg-items.result.now (uses_in c.args.typeside.now)) in
    let all = noted_all _ _ _ _ _ c.loop-place.invariant (left_end _ _ c.loop-place.place past) in
    let whole = uses_at c.args.typeside.now c.args.value.now c.in-Fun.function c.in-Fun.args _ _ c.args.sort c.in-Fun.is c.as_slice-arg-items.ensures c.argument_types-types.ensures in
    all.1 ∙ ap (with_uses c.args.labels.now) (sym whole)
