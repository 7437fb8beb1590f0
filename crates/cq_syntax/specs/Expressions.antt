-- What stands behind the = of a declaration, and what it is made of.
use Rattle.std.specs.Prelude.{List, Option, Some, None, ◌⊎◌, ◌≡◌}
use Rattle.std.proofs.Common.{inl, inr, refl}
use Rattle.cq_base.specs.declared.name.Name.{Name}
use Rattle.cq_base.specs.declared.place.Place.{Place}
use Rattle.cq_syntax.specs.declared.literal.AttSyn.{AttSyn}
use Rattle.cq_syntax.specs.declared.program.Body.{Body}
use Rattle.cq_syntax.specs.declared.literal.ColimitLit.{ColimitLit}
use Rattle.cq_syntax.specs.declared.program.Decl.{Decl}
use Rattle.cq_syntax.specs.declared.program.InstanceExp.{InstanceExp}
use Rattle.cq_syntax.specs.declared.literal.InstanceLit.{InstanceLit}
use Rattle.cq_syntax.specs.declared.program.MappingExp.{MappingExp}
use Rattle.cq_syntax.specs.declared.literal.MappingLit.{MappingLit}
use Rattle.cq_syntax.specs.declared.part.Opt.{Opt}
use Rattle.cq_syntax.specs.declared.part.PathSyn.{PathSyn}
use Rattle.cq_syntax.specs.declared.program.Program.{Program}
use Rattle.cq_syntax.specs.declared.program.QueryExp.{QueryExp}
use Rattle.cq_syntax.specs.declared.literal.QueryLit.{QueryLit}
use Rattle.cq_syntax.specs.declared.program.SchemaExp.{SchemaExp}
use Rattle.cq_syntax.specs.declared.literal.SchemaLit.{SchemaLit}
use Rattle.cq_syntax.specs.declared.part.Spot.{Spot}
use Rattle.cq_syntax.specs.declared.part.TermSyn.{TermSyn}
use Rattle.cq_syntax.specs.declared.program.MoveForm.{MoveForm}
use Rattle.cq_syntax.specs.declared.program.TransformExp.{TransformExp}
use Rattle.cq_syntax.specs.declared.literal.TransformLit.{TransformLit}
use Rattle.cq_syntax.specs.declared.literal.TypesideLit.{TypesideLit}
use Rattle.cq_syntax.specs.declared.literal.AttSyn.TheVariants as atts
use Rattle.cq_syntax.specs.declared.program.SchemaExp.TheVariants as schemas
use Rattle.cq_syntax.specs.declared.program.MappingExp.TheVariants as mappings
use Rattle.cq_syntax.specs.declared.program.QueryExp.TheVariants as queries
use Rattle.cq_syntax.specs.declared.program.InstanceExp.TheVariants as instances
use Rattle.cq_syntax.specs.declared.program.TransformExp.TheVariants as transforms
use Rattle.cq_syntax.specs.declared.program.Body.TheVariants as bodies

abbrev pub option_of : {A : Type 0} → A ⊎ Unit {0} → Option A
option_of (inl a) = Some a
option_of (inr u) = None

abbrev pub option_parts : {A : Type 0} → Option A → A ⊎ Unit {0}
option_parts (Some a) = inl a
option_parts None = inr tt

pub option_back : {A : Type 0} → (x : A ⊎ Unit {0}) → option_parts (option_of x) ≡ x
option_back (inl a) = refl
option_back (inr u) = refl

abbrev pub att_of : PathSyn ⊎ (Name × (Option Name × TermSyn)) → AttSyn
att_of (inl x) = atts.Path x
att_of (inr x) = atts.Lambda x.0 x.1.0 x.1.1

abbrev pub att_parts : AttSyn → PathSyn ⊎ (Name × (Option Name × TermSyn))
att_parts (atts.Path a) = inl a
att_parts (atts.Lambda a b c) = inr (a, (b, c))

pub att_back : (x : PathSyn ⊎ (Name × (Option Name × TermSyn))) → att_parts (att_of x) ≡ x
att_back (inl x) = refl
att_back (inr x) = refl

abbrev pub schema_exp_of : SchemaLit ⊎ Spot → SchemaExp
schema_exp_of (inl x) = schemas.Literal x
schema_exp_of (inr x) = schemas.GetSchema x

abbrev pub schema_exp_parts : SchemaExp → SchemaLit ⊎ Spot
schema_exp_parts (schemas.Literal a) = inl a
schema_exp_parts (schemas.GetSchema a) = inr a

pub schema_exp_back : (x : SchemaLit ⊎ Spot) → schema_exp_parts (schema_exp_of x) ≡ x
schema_exp_back (inl x) = refl
schema_exp_back (inr x) = refl

abbrev pub mapping_exp_of : MappingLit ⊎ (Spot ⊎ (Spot × Spot)) → MappingExp
mapping_exp_of (inl x) = mappings.Literal x
mapping_exp_of (inr (inl x)) = mappings.Identity x
mapping_exp_of (inr (inr x)) = mappings.GetMapping x.0 x.1

abbrev pub mapping_exp_parts : MappingExp → MappingLit ⊎ (Spot ⊎ (Spot × Spot))
mapping_exp_parts (mappings.Literal a) = inl a
mapping_exp_parts (mappings.Identity a) = inr (inl a)
mapping_exp_parts (mappings.GetMapping a b) = inr (inr (a, b))

pub mapping_exp_back : (x : MappingLit ⊎ (Spot ⊎ (Spot × Spot))) → mapping_exp_parts (mapping_exp_of x) ≡ x
mapping_exp_back (inl x) = refl
mapping_exp_back (inr (inl x)) = refl
mapping_exp_back (inr (inr x)) = refl

abbrev pub query_exp_of : QueryLit ⊎ ((Spot × Spot) ⊎ Spot) → QueryExp
query_exp_of (inl x) = queries.Literal x
query_exp_of (inr (inl x)) = queries.Compose x.0 x.1
query_exp_of (inr (inr x)) = queries.OfMapping x

abbrev pub query_exp_parts : QueryExp → QueryLit ⊎ ((Spot × Spot) ⊎ Spot)
query_exp_parts (queries.Literal a) = inl a
query_exp_parts (queries.Compose a b) = inr (inl (a, b))
query_exp_parts (queries.OfMapping a) = inr (inr a)

pub query_exp_back : (x : QueryLit ⊎ ((Spot × Spot) ⊎ Spot)) → query_exp_parts (query_exp_of x) ≡ x
query_exp_back (inl x) = refl
query_exp_back (inr (inl x)) = refl
query_exp_back (inr (inr x)) = refl

-- the folder of an import, its schema and its options
abbrev pub Imported : Type 0
Imported = Name × (Spot × List Opt)

abbrev pub instance_exp_of : InstanceLit ⊎ ((Spot × Spot) ⊎ ((Spot × Spot)
    ⊎ ((Spot × Spot) ⊎ ((Spot × Spot) ⊎ ((List Spot × Spot) ⊎ ((Spot × Spot) ⊎ (Imported ⊎ Imported))))))) → InstanceExp
instance_exp_of (inl x) = instances.Literal x
instance_exp_of (inr (inl x)) = instances.Delta x.0 x.1
instance_exp_of (inr (inr (inl x))) = instances.Sigma x.0 x.1
instance_exp_of (inr (inr (inr (inl x)))) = instances.Eval x.0 x.1
instance_exp_of (inr (inr (inr (inr (inl x))))) = instances.Coeval x.0 x.1
instance_exp_of (inr (inr (inr (inr (inr (inl x)))))) = instances.Coproduct x.0 x.1
instance_exp_of (inr (inr (inr (inr (inr (inr (inl x))))))) = instances.Pushout x.0 x.1
instance_exp_of (inr (inr (inr (inr (inr (inr (inr (inl x)))))))) = instances.ImportCsv x.0 x.1.0 x.1.1
instance_exp_of (inr (inr (inr (inr (inr (inr (inr (inr x)))))))) = instances.ImportCsv2 x.0 x.1.0 x.1.1

abbrev pub instance_exp_parts : InstanceExp → InstanceLit ⊎ ((Spot × Spot)
    ⊎ ((Spot × Spot) ⊎ ((Spot × Spot) ⊎ ((Spot × Spot) ⊎ ((List Spot × Spot) ⊎ ((Spot × Spot) ⊎ (Imported ⊎ Imported)))))))
instance_exp_parts (instances.Literal a) = inl a
instance_exp_parts (instances.Delta a b) = inr (inl (a, b))
instance_exp_parts (instances.Sigma a b) = inr (inr (inl (a, b)))
instance_exp_parts (instances.Eval a b) = inr (inr (inr (inl (a, b))))
instance_exp_parts (instances.Coeval a b) = inr (inr (inr (inr (inl (a, b)))))
instance_exp_parts (instances.Coproduct a b) = inr (inr (inr (inr (inr (inl (a, b))))))
instance_exp_parts (instances.Pushout a b) = inr (inr (inr (inr (inr (inr (inl (a, b)))))))
instance_exp_parts (instances.ImportCsv a b c) = inr (inr (inr (inr (inr (inr (inr (inl (a, (b, c)))))))))
instance_exp_parts (instances.ImportCsv2 a b c) = inr (inr (inr (inr (inr (inr (inr (inr (a, (b, c)))))))))

pub instance_exp_back : (x : InstanceLit ⊎ ((Spot × Spot) ⊎ ((Spot × Spot)
    ⊎ ((Spot × Spot) ⊎ ((Spot × Spot) ⊎ ((List Spot × Spot) ⊎ ((Spot × Spot) ⊎ (Imported ⊎ Imported))))))))
    → instance_exp_parts (instance_exp_of x) ≡ x
instance_exp_back (inl x) = refl
instance_exp_back (inr (inl x)) = refl
instance_exp_back (inr (inr (inl x))) = refl
instance_exp_back (inr (inr (inr (inl x)))) = refl
instance_exp_back (inr (inr (inr (inr (inl x))))) = refl
instance_exp_back (inr (inr (inr (inr (inr (inl x)))))) = refl
instance_exp_back (inr (inr (inr (inr (inr (inr (inl x))))))) = refl
instance_exp_back (inr (inr (inr (inr (inr (inr (inr (inl x)))))))) = refl
instance_exp_back (inr (inr (inr (inr (inr (inr (inr (inr x)))))))) = refl

-- a form, by what is moved and what, and from where to where
abbrev pub Moving : Type 0
Moving = MoveForm × ((Spot × Spot) × (Spot × Spot))

abbrev pub transform_exp_of : TransformLit ⊎ (Spot ⊎ Moving) → TransformExp
transform_exp_of (inl x) = transforms.Literal x
transform_exp_of (inr (inl x)) = transforms.Identity x
transform_exp_of (inr (inr x)) = transforms.Move x.0 x.1.0.0 x.1.0.1 x.1.1.0 x.1.1.1

abbrev pub transform_exp_parts : TransformExp → TransformLit ⊎ (Spot ⊎ Moving)
transform_exp_parts (transforms.Literal a) = inl a
transform_exp_parts (transforms.Identity a) = inr (inl a)
transform_exp_parts (transforms.Move form along moved source target) = inr (inr (form, ((along, moved), (source, target))))

pub transform_exp_back : (x : TransformLit ⊎ (Spot ⊎ Moving)) → transform_exp_parts (transform_exp_of x) ≡ x
transform_exp_back (inl x) = refl
transform_exp_back (inr (inl x)) = refl
transform_exp_back (inr (inr x)) = refl

-- a declaration's name, and what it declares
abbrev pub Declared : Type 0
Declared = (Spot × TypesideLit) ⊎ ((Spot × SchemaExp) ⊎ ((Spot × ColimitLit)
    ⊎ ((Spot × MappingExp) ⊎ ((Spot × QueryExp) ⊎ ((Spot × InstanceExp) ⊎ (Spot × TransformExp))))))

abbrev pub declared : Place → Name → Place → Body → Decl
declared place name name_place body = record { place = place; name = name; name_place = name_place; body = body }

abbrev pub decl_at : Place → Declared → Decl
decl_at place (inl x) = declared place x.0.name x.0.place (bodies.Typeside x.1)
decl_at place (inr (inl x)) = declared place x.0.name x.0.place (bodies.Schema x.1)
decl_at place (inr (inr (inl x))) = declared place x.0.name x.0.place (bodies.Colimit x.1)
decl_at place (inr (inr (inr (inl x)))) = declared place x.0.name x.0.place (bodies.Mapping x.1)
decl_at place (inr (inr (inr (inr (inl x))))) = declared place x.0.name x.0.place (bodies.Query x.1)
decl_at place (inr (inr (inr (inr (inr (inl x)))))) = declared place x.0.name x.0.place (bodies.Instance x.1)
decl_at place (inr (inr (inr (inr (inr (inr x)))))) = declared place x.0.name x.0.place (bodies.Transform x.1)

abbrev pub decl_of : Place × Declared → Decl
decl_of p = decl_at p.0 p.1

abbrev pub body_parts : Spot → Body → Declared
body_parts name (bodies.Typeside x) = inl (name, x)
body_parts name (bodies.Schema x) = inr (inl (name, x))
body_parts name (bodies.Colimit x) = inr (inr (inl (name, x)))
body_parts name (bodies.Mapping x) = inr (inr (inr (inl (name, x))))
body_parts name (bodies.Query x) = inr (inr (inr (inr (inl (name, x)))))
body_parts name (bodies.Instance x) = inr (inr (inr (inr (inr (inl (name, x))))))
body_parts name (bodies.Transform x) = inr (inr (inr (inr (inr (inr (name, x))))))

abbrev pub decl_parts : Decl → Place × Declared
decl_parts d = (d.place, body_parts (record { place = d.name_place; name = d.name }) d.body)

decl_back_at : (place : Place) (x : Declared) → decl_parts (decl_at place x) ≡ (place, x)
decl_back_at place (inl x) = refl
decl_back_at place (inr (inl x)) = refl
decl_back_at place (inr (inr (inl x))) = refl
decl_back_at place (inr (inr (inr (inl x)))) = refl
decl_back_at place (inr (inr (inr (inr (inl x))))) = refl
decl_back_at place (inr (inr (inr (inr (inr (inl x)))))) = refl
decl_back_at place (inr (inr (inr (inr (inr (inr x)))))) = refl

pub decl_back : (p : Place × Declared) → decl_parts (decl_of p) ≡ p
decl_back p = decl_back_at p.0 p.1

abbrev pub program_of : List Opt × List Decl → Program
program_of p = record { options = p.0; decls = p.1 }

abbrev pub program_parts : Program → List Opt × List Decl
program_parts x = (x.options, x.decls)
