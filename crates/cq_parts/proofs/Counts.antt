-- How many parts the lists of a literal give.
use Rattle.std.proofs.Common.{ℕ, List, ◌≡◌, ◌+◌, ◌<◌, ◌^◌, length, map, sym, ap, ◌∙◌, subst}
use Rattle.std.specs.Prelude.{sum_by}
use Rattle.std.specs.List.{flat_map}
use Rattle.std.proofs.lemmas.List.{length-map, length-append}
use Rattle.std.proofs.lemmas.List.Concat.{length-flat_map}
use Rattle.cq_base.specs.declared.name.Name.{Name}
use Rattle.cq_syntax.specs.declared.part.Spot.{Spot}
use Rattle.cq_syntax.specs.declared.part.GroupSyn.{GroupSyn}
use Rattle.cq_syntax.specs.declared.part.EdgeSyn.{EdgeSyn}
use Rattle.cq_syntax.specs.declared.part.FunSyn.{FunSyn}
use Rattle.cq_syntax.specs.declared.literal.TypesideLit.{TypesideLit}
use Rattle.cq_syntax.specs.declared.literal.SchemaLit.{SchemaLit}
use Rattle.cq_syntax.specs.declared.literal.InstanceLit.{InstanceLit}
use Rattle.cq_syntax.specs.declared.literal.MapBlock.{MapBlock}
use Rattle.cq_syntax.specs.declared.literal.MappingLit.{MappingLit}
use Rattle.cq_theory.specs.declared.parts.TypesideParts.{TypesideParts}
use Rattle.cq_theory.specs.declared.parts.SchemaParts.{SchemaParts}
use Rattle.cq_theory.specs.declared.parts.PresentationParts.{PresentationParts}
use Rattle.cq_theory.specs.declared.parts.MappingParts.{MappingParts}
use Rattle.cq_theory.specs.TypesideParts.{literals_count}
use Rattle.cq_parts.specs.Parts.{name_of, group_parts, function_parts, edge_parts, path_eq_part, observation_part, equation_part, key_part, attribute_part, arrow_parts, typeside_parts, schema_parts, instance_parts, mapping_parts, typeside_count, schema_count, instance_count, mapping_count}

group_count : (gs : List GroupSyn) → length (flat_map group_parts gs) ≡ sum_by (λ g. length g.names) gs
group_count gs = length-flat_map group_parts gs ∙ (λ i. sum_by (λ (g : GroupSyn). length-map {B = Name × Name} g.names (λ (spot : Spot). (spot.name, g.sort)) i) gs)

function_count : (fs : List FunSyn) → length (flat_map function_parts fs) ≡ sum_by (λ f. length f.names) fs
function_count fs = length-flat_map function_parts fs ∙ (λ i. sum_by (λ (f : FunSyn). length-map {B = Name × List Name × Name} f.names (λ (spot : Spot). (spot.name, f.args, f.result)) i) fs)

edge_count : (es : List EdgeSyn) → length (flat_map edge_parts es) ≡ sum_by (λ e. length e.names) es
edge_count es = length-flat_map edge_parts es ∙ (λ i. sum_by (λ (e : EdgeSyn). length-map {B = Name × Name × Name} e.names (λ (spot : Spot). (spot.name, e.from, e.to)) i) es)

-- how many images a block gives
block_count : (b : MapBlock) → length (arrow_parts b) ≡ length b.keys + length b.attributes
block_count b =
    length-append (map (key_part b.entity) b.keys) (map (attribute_part b.entity) b.attributes)
    ∙ (λ i. length-map b.keys (key_part b.entity) i + length-map b.attributes (attribute_part b.entity) i)

arrow_count : (bs : List MapBlock) → length (flat_map arrow_parts bs) ≡ sum_by (λ b. length b.keys + length b.attributes) bs
arrow_count bs = length-flat_map arrow_parts bs ∙ (λ i. sum_by (λ (b : MapBlock). block_count b i) bs)

abbrev typeside_size : TypesideParts → ℕ
typeside_size parts = length parts.types + literals_count parts.literals + length parts.constants + length parts.functions

abbrev schema_size : SchemaParts → ℕ
schema_size parts = length parts.entities + length parts.keys + length parts.path_eqs + length parts.attributes + length parts.obs_eqs

abbrev instance_size : PresentationParts → ℕ
instance_size parts = length parts.generators + length parts.equations

abbrev mapping_size : MappingParts → ℕ
mapping_size parts = length parts.entities + length parts.arrows

typeside_counted : (t : TypesideLit) → typeside_size (typeside_parts t) ≡ typeside_count t
unfolding typeside_parts
typeside_counted t = λ i.
    length-map t.types (λ (spot : Spot). spot.name) i + literals_count (name_of t.literals) + group_count t.constants i + function_count t.functions i

schema_counted : (s : SchemaLit) → schema_size (schema_parts s) ≡ schema_count s
unfolding schema_parts
schema_counted s = λ i.
    length-map s.entities (λ (spot : Spot). spot.name) i + edge_count s.keys i + length-map s.path_eqs path_eq_part i
    + edge_count s.attributes i + length-map s.obs_eqs observation_part i

instance_counted : (n : InstanceLit) → instance_size (instance_parts n) ≡ instance_count n
unfolding instance_parts
instance_counted n = λ i. group_count n.generators i + length-map n.equations equation_part i

mapping_counted : (m : MappingLit) → mapping_size (mapping_parts m) ≡ mapping_count m
unfolding mapping_parts
mapping_counted m = λ i. length-map {B = Name × Name} m.blocks (λ (b : MapBlock). (b.entity, b.image)) i + arrow_count m.blocks i

pub typeside_fits : (t : TypesideLit) (parts : TypesideParts) → parts ≡ typeside_parts t → typeside_count t < 2 ^ 32 → typeside_size parts < 2 ^ 32
typeside_fits t parts is few = subst (λ n. n < 2 ^ 32) (sym (ap typeside_size is ∙ typeside_counted t)) few

pub schema_fits : (s : SchemaLit) (parts : SchemaParts) → parts ≡ schema_parts s → schema_count s < 2 ^ 32 → schema_size parts < 2 ^ 32
schema_fits s parts is few = subst (λ n. n < 2 ^ 32) (sym (ap schema_size is ∙ schema_counted s)) few

pub instance_fits : (n : InstanceLit) (parts : PresentationParts) → parts ≡ instance_parts n → instance_count n < 2 ^ 32 → instance_size parts < 2 ^ 32
instance_fits n parts is few = subst (λ n. n < 2 ^ 32) (sym (ap instance_size is ∙ instance_counted n)) few

pub mapping_fits : (m : MappingLit) (parts : MappingParts) → parts ≡ mapping_parts m → mapping_count m < 2 ^ 32 → mapping_size parts < 2 ^ 32
mapping_fits m parts is few = subst (λ n. n < 2 ^ 32) (sym (ap mapping_size is ∙ mapping_counted m)) few
