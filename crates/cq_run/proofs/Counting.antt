-- How many rows an instance has.
use Rattle.std.proofs.Common.{◌≡◌, ◌∙◌, ◌≤◌, ◌^◌, ℕ, List, ap, arith, length}
use Rattle.cq_instance.specs.InstanceData.{InstanceData, IsInstance}
use Rattle.cq_theory.specs.Schema.{IsSchema}
use Rattle.cq_theory.specs.SchemaData.{SchemaData}
use Rattle.cq_theory.specs.declared.value.Sheet.{Sheet}

-- an instance has one count for each entity, of which there are few
pub few_counts : (i : InstanceData) (S : SchemaData) (sheet : Sheet) (counts : List ℕ) → IsInstance i → IsSchema S → S ≡ i.schema
    → counts ≡ sheet.counts → sheet ≡ i.tables.sheet → length counts ≤ 2 ^ 32
few_counts i S sheet counts instance schema same is sheets =
    let few : length S.entities ≡ length i.schema.entities = ap (λ (s : SchemaData). length s.entities) same in
    let whole : length counts ≡ length i.tables.sheet.counts = ap length (is ∙ ap (λ (s : Sheet). s.counts) sheets) in
    omega (arith, few, whole, instance.well_formed.entities, schema.entity_numbers)
