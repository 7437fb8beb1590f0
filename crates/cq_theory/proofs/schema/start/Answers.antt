use Rattle.std.proofs.Common.{◌≡◌, None, ap, subst, sym, ◌∙◌, map}
use Rattle.cq_theory.specs.TypesideData.{TypesideData as Typeside}
use Rattle.cq_theory.specs.Typeside.{IsTypeside}
use Rattle.cq_theory.specs.SchemaParts.{entities_fault, keys_fault, made_key}
use Rattle.cq_theory.proofs.MadeSchemas.{started-whole}
use Rattle.cq_theory.proofs.schema.start.Goals as goal

pub invariant_of-result : goal.invariant_of-result
invariant_of-result c =
    let typeside : IsTypeside c.args.typeside.value = subst IsTypeside c.deref.ensures c.is_well_sorted.ensures in
    let first : entities_fault c.args.typeside.value c.as_slice.result.now ≡ None = ap (λ (T : Typeside). entities_fault T c.as_slice.result.now) (sym c.deref-2.ensures) ∙ c.in_ok-entity_table.ensures.ok.0 in
    let second : keys_fault c.args.typeside.value c.in_ok-entity_table.entity_table c.len-first.result c.args.key_parts.now ≡ None
    = ap (λ (T : Typeside). keys_fault T c.in_ok-entity_table.entity_table c.len-first.result c.args.key_parts.now) (sym c.deref-3.ensures) ∙ c.in-Ok.ensures.accepted in
    let made : c.in-Ok.keys.items ≡ map (made_key c.args.typeside.value c.in_ok-entity_table.entity_table) c.args.key_parts.now
    = c.in-Ok.ensures.made.1 ∙ ap (λ (T : Typeside). map (made_key T c.in_ok-entity_table.entity_table) c.args.key_parts.now) c.deref-3.ensures in
    started-whole c.args.typeside.value c.args.entities c.as_slice.result.now c.in_ok-entity_table.entity_table c.args.key_parts.now c.len-first.result typeside c.requires
    c.as_slice.ensures c.len-first.ensures first c.in_ok-entity_table.ensures.ok.1
    second c.in-Ok.key_table c.in-Ok.keys.items c.from_vec.result c.in-Ok.ensures.made.0 made c.from_vec.ensures
    c.from_vec-in-Ok.result c.from_vec-in-Ok-2.result c.from_vec-in-Ok-3.result (c.from_vec-in-Ok.ensures ∙ c.new.ensures.items) (c.from_vec-in-Ok-2.ensures ∙ c.new-in-Ok.ensures.items) (c.from_vec-in-Ok-3.ensures ∙ c.new-in-Ok-2.ensures.items)
    c.new-in-Ok-3.result c.new-in-Ok-3.ensures
