use Rattle.std.proofs.Common.{Bool, true, false, Option, Some, None, arith, ◌≡◌, ◌<◌, ◌+◌, ◌&&◌, length, get_or, take, drop, map, option_map, refl, sym, ap, subst, ◌∙◌, IfOk, if◌then◌else◌}
use Rattle.cq_base.specs.declared.raw.Raw.{Raw}
use Rattle.cq_theory.specs.declared.presentation.Sort.{Sort}
use Rattle.cq_theory.specs.declared.term.Term.{Term}
use Rattle.cq_theory.specs.Resolve.{raw_sort, is_plain_of, are_plain_of}
use Rattle.cq_theory.specs.Resolved.{resolved, type_term_in}
use Rattle.cq_theory.proofs.Resolving.{are_plain_of-unequal, are_plain_of-drop, chosen, not_chosen, type_found, typed_more}
use Rattle.cq_theory.proofs.TypedTerms.{typed-at_Word, typed-at_Text, typed-at_App}
use Rattle.cq_theory.proofs.lookup.typed.+typed.Goals as goal

pub typed_args-returns-then-args-types : goal.typed_args-returns-then-args-types
typed_args-returns-then-args-types t c =
    sym (ap (λ (b : Bool). if b then Some (map type_term_in (map (resolved c.args.schema.now c.args.names.now c.args.sorts.now) c.args.args.now)) else None)
    (are_plain_of-unequal _ _ _ c.if-args-types.true))

pub typed_args-loop-i-init : goal.typed_args-loop-i-init
typed_args-loop-i-init t c = record { made = c.in_ok-terms.ensures.items; rest = refl; same = omega arith }

pub typed_args-returns-in_default : goal.typed_args-returns-in_default
typed_args-returns-in_default t c =
    let f = raw_sort c.args.schema.now c.args.names.now c.args.sorts.now in
    let type = get_or c.args.types.now c.loop-i.i 0 in
    let x = c.index-args-i.result in
    let term = resolved c.args.schema.now c.args.names.now c.args.sorts.now x in
    let within : c.loop-i.i < length c.args.args.now = omega arith in
    let within' : c.loop-i.i < length c.args.types.now = omega (arith, c.loop-i.invariant.same) in
    let step = are_plain_of-drop f c.args.args.now c.args.types.now c.loop-i.i x within within' in
    let found = type_found term (f x) type c.in_ok-made.made c.of_type.result c.in_ok-made.ensures c.of_type.ensures in
    let failed : is_plain_of (f (get_or c.args.args.now c.loop-i.i x)) type ≡ false = ap (λ y. is_plain_of (f y) type) (sym c.index-args-i.is) ∙ not_chosen _ (type_term_in term) (sym c.in_default.is ∙ found) in
    let whole : are_plain_of (map f c.args.args.now) c.args.types.now ≡ false = sym c.loop-i.invariant.rest ∙ step ∙ ap (λ b. b && are_plain_of (map f (drop (c.loop-i.i + 1) c.args.args.now)) (drop (c.loop-i.i + 1) c.args.types.now)) failed in
    sym (ap (λ (b : Bool). if b then Some (map type_term_in (map (resolved c.args.schema.now c.args.names.now c.args.sorts.now) c.args.args.now)) else None) whole)

pub typed_args-loop-i-preserved : goal.typed_args-loop-i-preserved
typed_args-loop-i-preserved t c =
    let f = raw_sort c.args.schema.now c.args.names.now c.args.sorts.now in
    let type = get_or c.args.types.now c.loop-i.i 0 in
    let x = c.index-args-i.result in
    let term = resolved c.args.schema.now c.args.names.now c.args.sorts.now x in
    let within : c.loop-i.i < length c.args.args.now = omega arith in
    let within' : c.loop-i.i < length c.args.types.now = omega (arith, c.loop-i.invariant.same) in
    let step = are_plain_of-drop f c.args.args.now c.args.types.now c.loop-i.i x within within' in
    let found = type_found term (f x) type c.in_ok-made.made c.of_type.result c.in_ok-made.ensures c.of_type.ensures in
    let one = chosen (is_plain_of (f x) type) (type_term_in term) c.in-Some.term (sym c.in-Some.is ∙ found) in
    let passed : is_plain_of (f (get_or c.args.args.now c.loop-i.i x)) type ≡ true = ap (λ y. is_plain_of (f y) type) (sym c.index-args-i.is) ∙ one.0 in
    record {
      made = typed_more (resolved c.args.schema.now c.args.names.now c.args.sorts.now) c.args.args.now c.loop-i.i x term c.in-Some.term _ _ within c.index-args-i.is refl one.1 c.loop-i.invariant.made c.in_ok-push.ensures.items;
      rest = sym (ap (λ b. b && are_plain_of (map f (drop (c.loop-i.i + 1) c.args.args.now)) (drop (c.loop-i.i + 1) c.args.types.now)) passed) ∙ sym step ∙ c.loop-i.invariant.rest;
      same = c.loop-i.invariant.same;
    }

pub typed_term-returns-in-Word : goal.typed_term-returns-in-Word
typed_term-returns-in-Word t c =
    c.typed_word.ensures ∙ typed-at_Word c.args.schema.now c.args.names.now c.args.sorts.now c.args.raw.now _ c.find.result c.in-Word.is c.find.ensures

pub typed_term-returns-in-Text : goal.typed_term-returns-in-Text
typed_term-returns-in-Text t c =
    subst (λ (o : Option (Term × Sort)). IfOk c.typed_text.result (λ found. found ≡ o)) (typed-at_Text c.args.schema.now c.args.names.now c.args.sorts.now c.args.raw.now _ c.in-Text.is) c.typed_text.ensures

pub typed_term-returns-in-App : goal.typed_term-returns-in-App
typed_term-returns-in-App t c =
    subst (λ (o : Option (Term × Sort)). IfOk c.typed_application.result (λ found. found ≡ o)) (typed-at_App c.args.schema.now c.args.names.now c.args.sorts.now c.args.raw.now _ _ c.as_slice.result.now c.in-App.is c.as_slice.ensures) c.typed_application.ensures
