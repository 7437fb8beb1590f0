use Rattle.std.proofs.Common.{◌≡◌, ap, ◌∙◌}
use Rattle.std.specs.Prelude.{slice_index_or}
use Rattle.cq_theory.specs.declared.presentation.Sort.TheVariants.{Plain}
use Rattle.cq_theory.specs.Tables.{Meaning, AtRow, value_in}
use Rattle.cq_instance.specs.InstanceData.{InstanceData}
use Rattle.cq_instance.specs.declared.transform.Image.TheVariants as image
use Rattle.cq_adjoint.specs.Moves.{spelled_value}
use Rattle.cq_adjoint.specs.Nameable.{moved}
use Rattle.cq_instance.specs.Spelling.{term_among}
use Rattle.cq_adjoint.proofs.MovedImages.{value_found}
use Rattle.cq_adjoint.proofs.named.named_value.Goals as goal

pub returns-in-Ok-named_term : goal.returns-in-Ok-named_term
returns-in-Ok-named_term c =
    let d : InstanceData = c.args.naming.now.to.now in
    let m : Meaning = moved c.args.mapping.now c.args.k.now c.args.from.now d c.args.generator (Plain c.args.plain) in
    let found : c.in-Ok.value ≡ value_in m =
    c.in-Ok.ensures ∙ value_found d.schema d.schema c.args.from.now.tables d.tables d.tables c.args.k.now.rows c.args.k.now.nulls c.args.plain
    (slice_index_or c.args.from.now.assignment c.args.generator (AtRow 0)) c.requires.sorted in
    ap image.Value (c.in-Ok-named_term.ensures ∙ ap (spelled_value (term_among c.args.naming.now.null_terms.now)) found)
