use Rattle.std.proofs.Common.{true, false, arith, ◌≡◌, ◌<◌, ◌+◌, ◌&&◌, length, get_or, map, drop, sym, ap, ◌∙◌}
use Rattle.cq_theory.specs.Sorts.{type_of, is_type, have_types}
use Rattle.cq_steps.proofs.Arguments.{have_types-unequal, have_types-drop}
use Rattle.cq_steps.proofs.sorts.+typed.Goals as goal

pub have_types-returns-then-args-types : goal.have_types-returns-then-args-types
have_types-returns-then-args-types t c = sym (have_types-unequal _ _ _ c.if-args-types.true)

pub have_types-returns-then-not-is_type : goal.have_types-returns-then-not-is_type
have_types-returns-then-not-is_type t c =
    let f = type_of c.args.schema.now c.args.generators.now in
    let within : c.loop-i.i < length c.args.args.now = omega arith in
    let within' : c.loop-i.i < length c.args.types.now = omega arith in
    let step = have_types-drop f c.args.args.now c.args.types.now c.loop-i.i c.index-args-i.result within within' in
    let failed : is_type (f (get_or c.args.args.now c.loop-i.i c.index-args-i.result)) (get_or c.args.types.now c.loop-i.i 0) ≡ false = ap (λ x. is_type (f x) (get_or c.args.types.now c.loop-i.i 0)) (sym c.index-args-i.is) ∙ ap (λ s. is_type s (get_or c.args.types.now c.loop-i.i 0)) (sym c.type_of.ensures) ∙ sym c.is_type.ensures ∙ c.if-not-is_type.true in
    sym (sym c.loop-i.invariant.0 ∙ step ∙ ap (λ b. b && have_types (map f (drop (c.loop-i.i + 1) c.args.args.now)) (drop (c.loop-i.i + 1) c.args.types.now)) failed)

pub have_types-loop-i-preserved : goal.have_types-loop-i-preserved
have_types-loop-i-preserved t c =
    let f = type_of c.args.schema.now c.args.generators.now in
    let within : c.loop-i.i < length c.args.args.now = omega arith in
    let within' : c.loop-i.i < length c.args.types.now = omega arith in
    let step = have_types-drop f c.args.args.now c.args.types.now c.loop-i.i c.index-args-i.result within within' in
    let passed : is_type (f (get_or c.args.args.now c.loop-i.i c.index-args-i.result)) (get_or c.args.types.now c.loop-i.i 0) ≡ true = ap (λ x. is_type (f x) (get_or c.args.types.now c.loop-i.i 0)) (sym c.index-args-i.is) ∙ ap (λ s. is_type s (get_or c.args.types.now c.loop-i.i 0)) (sym c.type_of.ensures) ∙ sym c.is_type.ensures ∙ c.if-not-is_type.false in
    (sym (ap (λ b. b && have_types (map f (drop (c.loop-i.i + 1) c.args.args.now)) (drop (c.loop-i.i + 1) c.args.types.now)) passed) ∙ sym step ∙ c.loop-i.invariant.0, c.loop-i.invariant.1)
