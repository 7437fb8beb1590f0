use Rattle.std.proofs.Common.{ℕ, List, map, sym, subst}
use Rattle.cq_tables.specs.Content.{Content}
use Rattle.cq_rows.specs.Saturated.{AllTraced}
use Rattle.cq_check.specs.Frame.{IsFrame}
use Rattle.cq_check.proofs.Depths.{frame_of, decided}
use Rattle.cq_theory.specs.declared.presentation.Presentation.{Presentation}
use Rattle.cq_theory.specs.SchemaData.{SchemaData as Schema}
use Rattle.cq_check.proofs.deciding.decide.Goals as goal

pub are_equal-requires-clause-made : goal.are_equal-requires-clause-made
are_equal-requires-clause-made c =
    let S : Schema = c.args.prepared.now.schema.now in
    let P : Presentation = c.args.presentation.now in
    let m : Content = c.in_ok-partial.partial.tables in
    let entries : List ℕ = c.as_slice-entries.result.now in
    let frame : IsFrame S P m entries =
    subst (IsFrame S P m) (sym c.as_slice-entries.ensures)
    (frame_of S P m c.in_ok-partial.partial.generator_rows c.args.depth c.in_ok-partial.ensures.made.whole c.in_ok-partial.ensures.made.keys c.in_ok-partial.ensures.made.entities c.in_ok-partial.ensures.made.entries c.in_ok-partial.ensures.made.sound
    c.in_ok-partial.ensures.made.named c.in_ok-partial.ensures.made.rules c.in_ok-partial.ensures.made.given) in
    (c.requires.presentation, frame)

pub returns-clause-decided : goal.returns-clause-decided
returns-clause-decided c =
    let S : Schema = c.args.prepared.now.schema.now in
    let P : Presentation = c.args.presentation.now in
    let m : Content = c.in_ok-partial.partial.tables in
    let entries : List ℕ = c.as_slice-entries.result.now in
    let frame : IsFrame S P m entries =
    subst (IsFrame S P m) (sym c.as_slice-entries.ensures)
    (frame_of S P m c.in_ok-partial.partial.generator_rows c.args.depth c.in_ok-partial.ensures.made.whole c.in_ok-partial.ensures.made.keys c.in_ok-partial.ensures.made.entities c.in_ok-partial.ensures.made.entries c.in_ok-partial.ensures.made.sound
    c.in_ok-partial.ensures.made.named c.in_ok-partial.ensures.made.rules c.in_ok-partial.ensures.made.given) in
    decided S P (map (λ e. e.now) c.args.equations.now) m entries frame c.args.depth c.in_ok-partial.partial.closed c.in_ok-partial.ensures.made.closed
    (subst (λ rows. AllTraced S P m rows c.args.depth) (sym c.as_slice-entries.ensures) c.in_ok-partial.ensures.made.traced) c.in_ok-partial.ensures.made.unclosed c.in_ok-answers.answers.items c.in_ok-answers.ensures
