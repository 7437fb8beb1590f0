use Rattle.std.proofs.lemmas.Grind.{common_steps}
use Rattle.std.proofs.Common.{◌≡◌, ◌⊎◌, Some, ◌∙◌, ap, length, subst, arith, rules}
use Rattle.cq_theory.specs.Schema.{IsSchema}
use Rattle.cq_theory.specs.declared.refusal.ArrowRefusal.TheVariants.{Memory}
use Rattle.cq_mapping.specs.MappingParts.{mapping_fault}
use Rattle.cq_mapping.proofs.MadeMappings.{new_fault, new_made, new_is, new_refused, refused_after}
use Rattle.cq_mapping.proofs.mapping.Mapping.new.Goals as goal

pub make_entities-requires : goal.make_entities-requires
make_entities-requires c = omega (arith, c.requires.parts, ap length c.as_slice.ensures)

pub make_arrows-requires : goal.make_arrows-requires
make_arrows-requires c = omega (arith, c.requires.parts, c.len-first.ensures, ap length c.as_slice-3.ensures)

pub invariant_of-result : goal.invariant_of-result
invariant_of-result c =
    new_is c.args.source.value c.args.target.value c.deref.result.now c.deref-2.result.now c.deref-3.result.now c.deref-4.result.now c.args.parts
    c.as_slice.result.now c.as_slice-3.result.now c.in_ok-images.images.items c.as_slice-2.result.now c.len-first.result
    c.deref.ensures c.deref-2.ensures c.deref-3.ensures c.deref-4.ensures c.as_slice.ensures c.as_slice-3.ensures c.len-first.ensures
    c.in_ok-images.ensures.accepted c.in_ok-images.ensures.made c.as_slice-2.ensures.value
    c.from_vec.result c.from_vec-in-Ok.result c.from_vec-in-Ok-2.result c.from_vec.ensures (c.from_vec-in-Ok.ensures ∙ c.in-Ok.ensures.made.0) (c.from_vec-in-Ok-2.ensures ∙ c.in-Ok.ensures.made.1)
    (subst IsSchema c.deref-in-Ok.ensures c.is_well_sorted.ensures) (subst IsSchema c.deref-in-Ok-2.ensures c.is_well_sorted-in-Ok.ensures) c.requires.typeside c.in-Ok.ensures.accepted

pub returns-in-Ok-clause-accepted : goal.returns-in-Ok-clause-accepted
returns-in-Ok-clause-accepted c =
    new_fault c.args.source.value c.args.target.value c.deref.result.now c.deref-2.result.now c.deref-3.result.now c.deref-4.result.now c.args.parts
    c.as_slice.result.now c.as_slice-3.result.now c.in_ok-images.images.items c.as_slice-2.result.now c.len-first.result
    c.deref.ensures c.deref-2.ensures c.deref-3.ensures c.deref-4.ensures c.as_slice.ensures c.as_slice-3.ensures c.len-first.ensures
    c.in_ok-images.ensures.accepted c.in_ok-images.ensures.made c.as_slice-2.ensures.value
    ∙ c.in-Ok.ensures.accepted

pub returns-in-Ok-clause-made : goal.returns-in-Ok-clause-made
returns-in-Ok-clause-made c =
    new_made c.args.source.value c.args.target.value c.deref.result.now c.deref-2.result.now c.deref-3.result.now c.deref-4.result.now c.args.parts
    c.as_slice.result.now c.as_slice-3.result.now c.in_ok-images.images.items c.as_slice-2.result.now c.len-first.result
    c.deref.ensures c.deref-2.ensures c.deref-3.ensures c.deref-4.ensures c.as_slice.ensures c.as_slice-3.ensures c.len-first.ensures
    c.in_ok-images.ensures.accepted c.in_ok-images.ensures.made c.as_slice-2.ensures.value
    c.from_vec.result c.from_vec-in-Ok.result c.from_vec-in-Ok-2.result c.from_vec.ensures (c.from_vec-in-Ok.ensures ∙ c.in-Ok.ensures.made.0) (c.from_vec-in-Ok-2.ensures ∙ c.in-Ok.ensures.made.1)

pub returns-in_err-images-clause-refused : goal.returns-in_err-images-clause-refused
returns-in_err-images-clause-refused c =
    let fact : (c.in_err-images.field-0.0 ≡ Memory) ⊎ (mapping_fault c.args.source.value c.args.target.value c.args.parts ≡ Some c.in_err-images.field-0.0) =
    new_refused c.args.source.value c.args.target.value c.deref.result.now c.deref-2.result.now c.args.parts c.as_slice.result.now
    c.deref.ensures c.deref-2.ensures c.as_slice.ensures c.in_err-images.field-0.0 c.in_err-images.ensures.refused in
    first_of (search rules, grind (arith, common_steps))

pub returns-in-Err-clause-refused : goal.returns-in-Err-clause-refused
returns-in-Err-clause-refused c =
    refused_after c.args.source.value c.args.target.value c.args.parts _
    (new_fault c.args.source.value c.args.target.value c.deref.result.now c.deref-2.result.now c.deref-3.result.now c.deref-4.result.now c.args.parts
    c.as_slice.result.now c.as_slice-3.result.now c.in_ok-images.images.items c.as_slice-2.result.now c.len-first.result
    c.deref.ensures c.deref-2.ensures c.deref-3.ensures c.deref-4.ensures c.as_slice.ensures c.as_slice-3.ensures c.len-first.ensures
    c.in_ok-images.ensures.accepted c.in_ok-images.ensures.made c.as_slice-2.ensures.value)
    c.in-Err.refusal c.in-Err.ensures.refused
