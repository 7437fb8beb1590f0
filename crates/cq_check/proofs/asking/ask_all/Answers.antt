use Rattle.std.proofs.Common.{ℕ, List, Some, ◌≡◌, ◌∙◌, Bor, map, length, refl, ap, arith}
use Rattle.std.specs.Prelude.{slice_get}
use Rattle.std.proofs.lemmas.List.{length-map}
use Rattle.cq_tables.specs.Content.{Content}
use Rattle.cq_check.proofs.Lists.{image_at, item_at}
use Rattle.cq_check.proofs.Questions.{asked_none, asked_one_more, all_asked}
use Rattle.cq_theory.specs.declared.presentation.Equation.{Equation}
use Rattle.cq_theory.specs.declared.presentation.Presentation.{Presentation}
use Rattle.cq_theory.specs.SchemaData.{SchemaData as Schema}
use Rattle.cq_check.proofs.asking.ask_all.Goals as goal

pub loop-place-init : goal.loop-place-init
loop-place-init c =
    let S : Schema = c.args.rows.now.schema.now in
    let P : Presentation = c.args.rows.now.presentation.now in
    let m : Content = c.args.rows.now.tables.now in
    let entries : List ℕ = c.args.rows.now.entries.now in
    let es : List Equation = map (λ (e : Bor Equation). e.now) c.args.equations.now in
    asked_none S P m entries c.args.list.now es c.new-asked.result.items c.new-asked.ensures.items c.requires.sound

pub ask-requires-clause-sorted : goal.ask-requires-clause-sorted
ask-requires-clause-sorted c =
    let es : List Equation = map (λ (e : Bor Equation). e.now) c.args.equations.now in
    let i : ℕ = c.loop-place.place in
    let there : slice_get es i ≡ Some c.index-equations-place.result.now =
    image_at (λ (e : Bor Equation). e.now) c.args.equations.now i c.index-equations-place.result
    (item_at c.args.equations.now c.args.equations.now i c.index-equations-place.result refl c.loop-place-test.true c.index-equations-place.is) in
    c.requires.sorted i c.index-equations-place.result.now there

pub ask-requires-clause-known : goal.ask-requires-clause-known
ask-requires-clause-known c = λ set.
    let es : List Equation = map (λ (e : Bor Equation). e.now) c.args.equations.now in
    let i : ℕ = c.loop-place.place in
    let there : slice_get es i ≡ Some c.index-equations-place.result.now =
    image_at (λ (e : Bor Equation). e.now) c.args.equations.now i c.index-equations-place.result
    (item_at c.args.equations.now c.args.equations.now i c.index-equations-place.result refl c.loop-place-test.true c.index-equations-place.is) in
    c.requires.known.derived i c.index-equations-place.result.now there (c.flag_at.ensures ∙ ap (λ b. Some b) set)

pub ask-requires-clause-sound : goal.ask-requires-clause-sound
ask-requires-clause-sound c = c.loop-place.invariant.sound

pub flag_at-requires : goal.flag_at-requires
flag_at-requires c = omega (arith, c.requires.known.count, length-map c.args.equations.now (λ (e : Bor Equation). e.now), c.loop-place-test.true)

pub loop-place-preserved : goal.loop-place-preserved
loop-place-preserved c =
    let S : Schema = c.args.rows.now.schema.now in
    let P : Presentation = c.args.rows.now.presentation.now in
    let m : Content = c.args.rows.now.tables.now in
    let entries : List ℕ = c.args.rows.now.entries.now in
    let es : List Equation = map (λ (e : Bor Equation). e.now) c.args.equations.now in
    let i : ℕ = c.loop-place.place in
    let there : slice_get es i ≡ Some c.index-equations-place.result.now =
    image_at (λ (e : Bor Equation). e.now) c.args.equations.now i c.index-equations-place.result
    (item_at c.args.equations.now c.args.equations.now i c.index-equations-place.result refl c.loop-place-test.true c.index-equations-place.is) in
    asked_one_more S P m entries c.args.list.now c.loop-place.list c.ask.new.list es c.loop-place.asked.items c.push.new.self.items c.index-equations-place.result.now c.in_ok-one.one i there c.in_ok-push.ensures.items
    c.loop-place.invariant c.in_ok-one.ensures

pub returns : goal.returns
returns c =
    let S : Schema = c.args.rows.now.schema.now in
    let P : Presentation = c.args.rows.now.presentation.now in
    let m : Content = c.args.rows.now.tables.now in
    let entries : List ℕ = c.args.rows.now.entries.now in
    let es : List Equation = map (λ (e : Bor Equation). e.now) c.args.equations.now in
    let all : c.loop-place.place ≡ length es = omega (arith, length-map c.args.equations.now (λ (e : Bor Equation). e.now), c.loop-place-test.false, c.loop-place.auto.place-end) in
    all_asked S P m entries c.args.list.now c.loop-place.list es c.loop-place.asked.items c.loop-place.place all c.loop-place.invariant
