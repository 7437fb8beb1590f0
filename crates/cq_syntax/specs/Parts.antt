-- The trees of parts and literals, and what each of them is made of.
use Rattle.std.specs.Prelude.{List, Option}
use Rattle.cq_base.specs.declared.name.Name.{Name}
use Rattle.cq_base.specs.declared.place.Place.{Place}
use Rattle.cq_syntax.specs.declared.literal.AttImage.{AttImage}
use Rattle.cq_syntax.specs.declared.literal.AttSyn.{AttSyn}
use Rattle.cq_syntax.specs.declared.part.Bind.{Bind}
use Rattle.cq_syntax.specs.declared.literal.ColimitLit.{ColimitLit}
use Rattle.cq_syntax.specs.declared.part.EdgeSyn.{EdgeSyn}
use Rattle.cq_syntax.specs.declared.part.EqSyn.{EqSyn}
use Rattle.cq_syntax.specs.declared.part.FunSyn.{FunSyn}
use Rattle.cq_syntax.specs.declared.part.GroupSyn.{GroupSyn}
use Rattle.cq_syntax.specs.declared.literal.InstanceLit.{InstanceLit}
use Rattle.cq_syntax.specs.declared.literal.KeyImage.{KeyImage}
use Rattle.cq_syntax.specs.declared.literal.MapBlock.{MapBlock}
use Rattle.cq_syntax.specs.declared.literal.MappingLit.{MappingLit}
use Rattle.cq_syntax.specs.declared.part.ObsSyn.{ObsSyn}
use Rattle.cq_syntax.specs.declared.part.Opt.{Opt}
use Rattle.cq_syntax.specs.declared.part.PairSyn.{PairSyn}
use Rattle.cq_syntax.specs.declared.part.PathEqSyn.{PathEqSyn}
use Rattle.cq_syntax.specs.declared.part.PathSyn.{PathSyn}
use Rattle.cq_syntax.specs.declared.literal.QueryBlock.{QueryBlock}
use Rattle.cq_syntax.specs.declared.literal.QueryKey.{QueryKey}
use Rattle.cq_syntax.specs.declared.literal.QueryLit.{QueryLit}
use Rattle.cq_syntax.specs.declared.literal.SchemaLit.{SchemaLit}
use Rattle.cq_syntax.specs.declared.part.Spot.{Spot}
use Rattle.cq_syntax.specs.declared.part.TermSyn.{TermSyn}
use Rattle.cq_syntax.specs.declared.literal.TransformLit.{TransformLit}
use Rattle.cq_syntax.specs.declared.literal.TypesideLit.{TypesideLit}

abbrev pub opt_of : Spot × Spot → Opt
opt_of p = record { name = p.0; value = p.1 }

abbrev pub opt_parts : Opt → Spot × Spot
opt_parts x = (x.name, x.value)

abbrev pub path_of : Place × List Name → PathSyn
path_of p = record { place = p.0; names = p.1 }

abbrev pub path_parts : PathSyn → Place × List Name
path_parts x = (x.place, x.names)

abbrev pub group_of : List Spot × Name → GroupSyn
group_of p = record { names = p.0; sort = p.1 }

abbrev pub group_parts : GroupSyn → List Spot × Name
group_parts x = (x.names, x.sort)

abbrev pub edge_of : List Spot × (Name × Name) → EdgeSyn
edge_of p = record { names = p.0; from = p.1.0; to = p.1.1 }

abbrev pub edge_parts : EdgeSyn → List Spot × (Name × Name)
edge_parts x = (x.names, (x.from, x.to))

abbrev pub fun_of : List Spot × (List Name × Name) → FunSyn
fun_of p = record { names = p.0; args = p.1.0; result = p.1.1 }

abbrev pub fun_parts : FunSyn → List Spot × (List Name × Name)
fun_parts x = (x.names, (x.args, x.result))

abbrev pub eq_of : TermSyn × TermSyn → EqSyn
eq_of p = record { left = p.0; right = p.1 }

abbrev pub eq_parts : EqSyn → TermSyn × TermSyn
eq_parts x = (x.left, x.right)

abbrev pub path_eq_of : PathSyn × PathSyn → PathEqSyn
path_eq_of p = record { left = p.0; right = p.1 }

abbrev pub path_eq_parts : PathEqSyn → PathSyn × PathSyn
path_eq_parts x = (x.left, x.right)

abbrev pub obs_of : Place × (Name × (Option Name × (TermSyn × TermSyn))) → ObsSyn
obs_of p = record { place = p.0; variable = p.1.0; entity = p.1.1.0; left = p.1.1.1.0; right = p.1.1.1.1 }

abbrev pub obs_parts : ObsSyn → Place × (Name × (Option Name × (TermSyn × TermSyn)))
obs_parts x = (x.place, (x.variable, (x.entity, (x.left, x.right))))

abbrev pub pair_of : Place × ((Name × Name) × (Name × Name)) → PairSyn
pair_of p = record { place = p.0; left = p.1.0; right = p.1.1 }

abbrev pub pair_parts : PairSyn → Place × ((Name × Name) × (Name × Name))
pair_parts x = (x.place, (x.left, x.right))

abbrev pub bind_of : Place × (Name × TermSyn) → Bind
bind_of p = record { place = p.0; name = p.1.0; term = p.1.1 }

abbrev pub bind_parts : Bind → Place × (Name × TermSyn)
bind_parts x = (x.place, (x.name, x.term))

abbrev pub typeside_of : List Spot × (Option Spot × (List GroupSyn × (List FunSyn × List Opt))) → TypesideLit
typeside_of p = record { types = p.0; literals = p.1.0; constants = p.1.1.0; functions = p.1.1.1.0; options = p.1.1.1.1 }

abbrev pub typeside_parts : TypesideLit → List Spot × (Option Spot × (List GroupSyn × (List FunSyn × List Opt)))
typeside_parts x = (x.types, (x.literals, (x.constants, (x.functions, x.options))))

abbrev pub schema_of : Spot × (List Spot × (List EdgeSyn × (List PathEqSyn × (List EdgeSyn × (List ObsSyn × List Opt))))) → SchemaLit
schema_of p = record {
  typeside = p.0;
  entities = p.1.0;
  keys = p.1.1.0;
  path_eqs = p.1.1.1.0;
  attributes = p.1.1.1.1.0;
  obs_eqs = p.1.1.1.1.1.0;
  options = p.1.1.1.1.1.1;
}

abbrev pub schema_parts : SchemaLit → Spot × (List Spot × (List EdgeSyn × (List PathEqSyn × (List EdgeSyn × (List ObsSyn × List Opt)))))
schema_parts x = (x.typeside, (x.entities, (x.keys, (x.path_eqs, (x.attributes, (x.obs_eqs, x.options))))))

abbrev pub colimit_of : List Spot × (Spot × (List PairSyn × (List PathEqSyn × (List ObsSyn × List Opt)))) → ColimitLit
colimit_of p = record { parts = p.0; typeside = p.1.0; pairs = p.1.1.0; path_eqs = p.1.1.1.0; obs_eqs = p.1.1.1.1.0; options = p.1.1.1.1.1 }

abbrev pub colimit_parts : ColimitLit → List Spot × (Spot × (List PairSyn × (List PathEqSyn × (List ObsSyn × List Opt))))
colimit_parts x = (x.parts, (x.typeside, (x.pairs, (x.path_eqs, (x.obs_eqs, x.options)))))

abbrev pub key_image_of : Place × (Name × PathSyn) → KeyImage
key_image_of p = record { place = p.0; name = p.1.0; image = p.1.1 }

abbrev pub key_image_parts : KeyImage → Place × (Name × PathSyn)
key_image_parts x = (x.place, (x.name, x.image))

abbrev pub att_image_of : Place × (Name × AttSyn) → AttImage
att_image_of p = record { place = p.0; name = p.1.0; image = p.1.1 }

abbrev pub att_image_parts : AttImage → Place × (Name × AttSyn)
att_image_parts x = (x.place, (x.name, x.image))

abbrev pub map_block_of : Place × (Name × (Name × (List KeyImage × List AttImage))) → MapBlock
map_block_of p = record { place = p.0; entity = p.1.0; image = p.1.1.0; keys = p.1.1.1.0; attributes = p.1.1.1.1 }

abbrev pub map_block_parts : MapBlock → Place × (Name × (Name × (List KeyImage × List AttImage)))
map_block_parts x = (x.place, (x.entity, (x.image, (x.keys, x.attributes))))

abbrev pub mapping_of : Spot × (Spot × (List MapBlock × List Opt)) → MappingLit
mapping_of p = record { source = p.0; target = p.1.0; blocks = p.1.1.0; options = p.1.1.1 }

abbrev pub mapping_parts : MappingLit → Spot × (Spot × (List MapBlock × List Opt))
mapping_parts x = (x.source, (x.target, (x.blocks, x.options)))

abbrev pub query_key_of : Place × (Name × List Bind) → QueryKey
query_key_of p = record { place = p.0; name = p.1.0; assigns = p.1.1 }

abbrev pub query_key_parts : QueryKey → Place × (Name × List Bind)
query_key_parts x = (x.place, (x.name, x.assigns))

abbrev pub query_block_of : Place × (Name × (List GroupSyn × (List EqSyn × (List Bind × List QueryKey)))) → QueryBlock
query_block_of p = record { place = p.0; entity = p.1.0; vars = p.1.1.0; tests = p.1.1.1.0; attributes = p.1.1.1.1.0; keys = p.1.1.1.1.1 }

abbrev pub query_block_parts : QueryBlock → Place × (Name × (List GroupSyn × (List EqSyn × (List Bind × List QueryKey))))
query_block_parts x = (x.place, (x.entity, (x.vars, (x.tests, (x.attributes, x.keys)))))

abbrev pub query_of : Spot × (Spot × (List QueryBlock × List Opt)) → QueryLit
query_of p = record { source = p.0; target = p.1.0; blocks = p.1.1.0; options = p.1.1.1 }

abbrev pub query_parts : QueryLit → Spot × (Spot × (List QueryBlock × List Opt))
query_parts x = (x.source, (x.target, (x.blocks, x.options)))

abbrev pub instance_of : Spot × (List GroupSyn × (List EqSyn × List Opt)) → InstanceLit
instance_of p = record { schema = p.0; generators = p.1.0; equations = p.1.1.0; options = p.1.1.1 }

abbrev pub instance_parts : InstanceLit → Spot × (List GroupSyn × (List EqSyn × List Opt))
instance_parts x = (x.schema, (x.generators, (x.equations, x.options)))

abbrev pub transform_of : Spot × (Spot × (List Bind × List Opt)) → TransformLit
transform_of p = record { source = p.0; target = p.1.0; images = p.1.1.0; options = p.1.1.1 }

abbrev pub transform_parts : TransformLit → Spot × (Spot × (List Bind × List Opt))
transform_parts x = (x.source, (x.target, (x.images, x.options)))
