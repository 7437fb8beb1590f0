use Rattle.std.proofs.Common.{◌≡◌, ap, ◌∙◌}
use Rattle.std.specs.Prelude.{slice_index_or}
use Rattle.cq_theory.specs.declared.presentation.Sort.TheVariants.{Plain}
use Rattle.cq_theory.specs.declared.value.Value.{Value}
use Rattle.cq_theory.specs.Canonical.{value_term}
use Rattle.cq_theory.specs.Tables.{Meaning, AtRow, value_in, value_type}
use Rattle.cq_instance.specs.InstanceData.{InstanceData}
use Rattle.cq_instance.specs.declared.transform.Image.TheVariants as image
use Rattle.cq_adjoint.specs.Spellable.{moved}
use Rattle.cq_adjoint.proofs.MovedImages.{value_found, typed_value}
use Rattle.cq_adjoint.proofs.spelled.spelled_value.Goals as goal

pub spell_value-requires-clause-typed : goal.spell_value-requires-clause-typed
spell_value-requires-clause-typed c =
    let d : InstanceData = c.args.to.now in
    let m : Meaning = moved c.args.mapping.now c.args.h.now c.args.from.now d c.args.generator (Plain c.args.plain) in
    let found : c.in-Ok.value ≡ value_in m =
    c.in-Ok.ensures ∙ value_found d.schema d.schema c.args.from.now.tables d.tables d.tables c.args.h.now.rows c.args.h.now.nulls c.args.plain
    (slice_index_or c.args.from.now.assignment c.args.generator (AtRow 0)) c.requires.spellable.sorted in
    (c.args.plain, ap (value_type d.schema d.tables.algebra.nulls) found ∙ typed_value d.schema d.tables c.args.plain m c.requires.spellable.sorted)

pub returns-in-Ok-spell_value : goal.returns-in-Ok-spell_value
returns-in-Ok-spell_value c =
    let d : InstanceData = c.args.to.now in
    let m : Meaning = moved c.args.mapping.now c.args.h.now c.args.from.now d c.args.generator (Plain c.args.plain) in
    let found : c.in-Ok.value ≡ value_in m =
    c.in-Ok.ensures ∙ value_found d.schema d.schema c.args.from.now.tables d.tables d.tables c.args.h.now.rows c.args.h.now.nulls c.args.plain
    (slice_index_or c.args.from.now.assignment c.args.generator (AtRow 0)) c.requires.spellable.sorted in
    c.in-Ok-spell_value.ensures ∙ ap (λ (v : Value). image.Value (value_term d.schema d.tables v)) found
