use Rattle.std.proofs.Common.{◌∙◌, Some, None, length, map, sym, ap, ⊎_elim, arith}
use Rattle.std.proofs.lemmas.List.{length-map}
use Rattle.std.proofs.lemmas.Option.{same_Some, none-some, slice_get_within}
use Rattle.cq_rows.specs.Plain.{generator_entity}
use Rattle.cq_rows.proofs.Beginning.{found_type}
use Rattle.cq_rows.proofs.Cells.{below_or_at}
use Rattle.cq_rows.proofs.outline.has_entity.Goals as goal

pub loop-generator-preserved : goal.loop-generator-preserved
loop-generator-preserved c = λ g e less found.
    let none = found_type c.as_slice-generator-items.result.now c.args.presentation.now.generators c.loop-generator.generator-index c.generator-item.result c.as_slice-generator-items.ensures c.loop-generator-test.true c.generator-item.is c.in_default.not-Entity in
    ⊎_elim (λ l. c.loop-generator.invariant g e l found) (λ q. absurd (none-some e (same_Some None (Some e) (sym none ∙ (rw q at found))))) (below_or_at g c.loop-generator.generator-index less)

pub returns : goal.returns
returns c = λ _ has.
    let within = slice_get_within (map generator_entity c.args.presentation.now.generators) has.0 (Some has.1) has.2 in
    c.loop-generator.invariant has.0 has.1 (omega (arith, within, length-map c.args.presentation.now.generators generator_entity, ap length c.as_slice-generator-items.ensures, c.loop-generator-test.false, c.loop-generator.auto.generator-index-end)) has.2
