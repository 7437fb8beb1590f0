-- What holds of each meaning of an environment, kept as names are added.
use Rattle.std.proofs.Common.{◌≡◌, ℕ, Bool, true, false, List, [], ◌∷◌, ◌++◌, ◌&&◌, ◌⊎◌, inl, inr, Option, Some, None, refl, sym, ap, ◌∙◌, subst, eq-eqb}
use Rattle.std.specs.Prelude.{not, if◌then◌else◌, is_some, option_and_then, All, Ok}
use Rattle.std.specs.Cmp.Lexicographic.{same_text}
use Rattle.std.proofs.lemmas.List.Elements.{All-head, All-tail, All-push, All-weaker}
use Rattle.cq_base.specs.declared.name.Name.{Name}
use Rattle.cq_base.specs.declared.place.Place.{Place}
use Rattle.cq_base.specs.Names.{same_name}
use Rattle.cq_syntax.specs.declared.part.Spot.{Spot}
use Rattle.cq_theory.specs.SchemaData.{SchemaData}
use Rattle.cq_theory.specs.TypesideData.{TypesideData}
use Rattle.cq_instance.specs.InstanceData.{InstanceData}
use Rattle.cq_environment.specs.declared.moved.Moved.{Moved}
use Rattle.cq_environment.specs.Meanings.{Binding, Meant, PartMeant, ColimitMeant, colimit, colimit_used, as_colimit, schema_by, schema_named, typeside, schema, mapping, query, instance, transform, Ends, SchemaMeant, MappingMeant, QueryMeant, InstanceMeant, TransformMeant, Environment, Checked, meant_by, as_schema, as_mapping, as_query, as_instance, as_transform, schema_used, mapping_used, query_used, instance_used, transform_used}
use Rattle.cq_program.specs.Posed.{Posed}
use Rattle.cq_program.specs.Checks.{Stated, at_once, a_folder}
use Rattle.cq_environment.specs.Environment.{IsPartSettled, AreEnds, IsPrinted, IsTermModel, IsSettled, IsMovedAs, IsMovedBy, IsKnown, AreSettled, WillSettle}
use Rattle.cq_program.specs.declared.imports.stating.Format.{Format}
use Rattle.cq_program.specs.declared.imports.stating.Format.TheVariants.{First, Second}
use Rattle.cq_program.specs.Folders.{Told, Reads}
use Rattle.cq_program.specs.Posing.{IsGrounded, IsStatedOver}

-- a name that stands for something stands for it in a longer environment too
stays : (b : Bool) (n m : Meant) (o p : Option Meant) → (if b then Some n else o) ≡ Some m → (o ≡ Some m → p ≡ Some m) → (if b then Some n else p) ≡ Some m
stays true n m o p is more = is
stays false n m o p is more = more is

meant_by-more : (env : Environment) (name : Name) (m : Meant) (last : Binding) → meant_by env name ≡ Some m → meant_by (env ++ last ∷ []) name ≡ Some m
meant_by-more [] name m last is = absurd (cc is)
meant_by-more (entry ∷ env) name m last is =
    stays (same_name name entry.0) entry.1 m (meant_by env name) (meant_by (env ++ last ∷ []) name) is (meant_by-more env name m last)

-- a name that stands for a schema stands for it in a longer environment too
schema_stays : (o p : Option Meant) (S : SchemaMeant) → ((m : Meant) → o ≡ Some m → p ≡ Some m) → option_and_then schema_by o ≡ Some S → option_and_then schema_by p ≡ Some S
schema_stays None p S more is = absurd (cc is)
schema_stays (Some m) p S more is = ap (option_and_then schema_by) (more m refl) ∙ is

schema_named-more : (env : Environment) (name : Name) (S : SchemaMeant) (last : Binding) → schema_named env name ≡ Some S → schema_named (env ++ last ∷ []) name ≡ Some S
schema_named-more env name S last is = schema_stays (meant_by env name) (meant_by (env ++ last ∷ []) name) S (λ m. meant_by-more env name m last) is

printed-more : (env : Environment) (n : Name) (S : SchemaData) (last : Binding) → IsPrinted env n S → IsPrinted (env ++ last ∷ []) n S
printed-more env n S last printed = (printed.0, schema_named-more env n (record { name = n; typeside = printed.0; schema = S }) last printed.1)

parts-more : (env : Environment) (last : Binding) (J : SchemaData) (parts : List PartMeant) → All (IsPartSettled env J) parts → All (IsPartSettled (env ++ last ∷ []) J) parts
parts-more env last J parts all =
    All-weaker (IsPartSettled env J) (IsPartSettled (env ++ last ∷ []) J) (λ part is. (is.0, printed-more env part.source part.inclusion.source last is.1, is.2)) parts all

settled-more : (env : Environment) (last : Binding) (m : Meant) → IsSettled env m → IsSettled (env ++ last ∷ []) m
settled-more env last (typeside T) settled = tt
settled-more env last (schema S) settled = (meant_by-more env S.typeside (typeside S.schema.typeside) last settled.0, schema_named-more env S.name S last settled.1)
settled-more env last (colimit c) settled = (
  meant_by-more env c.schema.typeside (typeside c.schema.schema.typeside) last settled.0,
  schema_named-more env c.schema.name c.schema last settled.1,
  parts-more env last c.schema.schema c.parts settled.2,
)
settled-more env last (mapping n t F) settled = (settled.0, printed-more env n F.source last settled.1, printed-more env t F.target last settled.2)
settled-more env last (query n t Q) settled = (settled.0, printed-more env n Q.source last settled.1, printed-more env t Q.target last settled.2)
settled-more env last (instance n i) settled = (printed-more env n i.schema last settled.0, settled.1)
settled-more env last (transform e t) settled = (
  (
    meant_by-more env e.source (instance e.start.schema e.start.instance) last settled.0.0,
    meant_by-more env e.target (instance e.finish.schema e.finish.instance) last settled.0.1,
  ),
  settled.1,
)

same_text_itself : (name : List ℕ) → same_name name name ≡ true
same_text_itself [] = refl
same_text_itself (x ∷ xs) = ap (λ b. b && same_name xs xs) (eq-eqb x x refl) ∙ same_text_itself xs

-- a new name stands for what is put behind the others under it
pass_by : (b : Bool) (n m : Meant) (o p : Option Meant) → is_some (if b then Some n else o) ≡ false → (is_some o ≡ false → p ≡ Some m) → (if b then Some n else p) ≡ Some m
pass_by true n m o p new rest = absurd (cc new)
pass_by false n m o p new rest = rest new

found_new : (env : Environment) (name : Name) (m : Meant) (v : Option Moved) → is_some (meant_by env name) ≡ false → meant_by (env ++ (name, m, v) ∷ []) name ≡ Some m
found_new [] name m v new = ap (λ (b : Bool). if b then Some m else None) (same_text_itself name)
found_new (entry ∷ env) name m v new =
    pass_by (same_name name entry.0) entry.1 m (meant_by env name) (meant_by (env ++ (name, m, v) ∷ []) name) new (found_new env name m v)

-- a schema that is printed under the new name or under an earlier one
named_new : (env : Environment) (name : Name) (S : SchemaMeant) (m : Meant) (v : Option Moved) → schema_by m ≡ Some S → is_some (meant_by env name) ≡ false
    → (S.name ≡ name) ⊎ (schema_named env S.name ≡ Some S) → schema_named (env ++ (name, m, v) ∷ []) S.name ≡ Some S
named_new env name S m v by new (inl same) = ap (schema_named (env ++ (name, m, v) ∷ [])) same ∙ ap (option_and_then schema_by) (found_new env name m v new) ∙ by
named_new env name S m v by new (inr there) = schema_named-more env S.name S (name, m, v) there

settles : (env : Environment) (name : Name) (m : Meant) (v : Option Moved) → is_some (meant_by env name) ≡ false → WillSettle env name m → IsSettled (env ++ (name, m, v) ∷ []) m
settles env name (typeside T) v new will = tt
settles env name (schema S) v new will =
    (meant_by-more env S.typeside (typeside S.schema.typeside) (name, schema S, v) will.0, named_new env name S (schema S) v refl new will.1)
settles env name (colimit c) v new will = (
  meant_by-more env c.schema.typeside (typeside c.schema.schema.typeside) (name, colimit c, v) will.0,
  named_new env name c.schema (colimit c) v refl new (inl will.1),
  parts-more env (name, colimit c, v) c.schema.schema c.parts will.2,
)
settles env name (mapping n t F) v new will = settled-more env (name, mapping n t F, v) (mapping n t F) will
settles env name (query n t Q) v new will = settled-more env (name, query n t Q, v) (query n t Q) will
settles env name (instance n i) v new will = settled-more env (name, instance n i, v) (instance n i) will
settles env name (transform e t) v new will = settled-more env (name, transform e t, v) (transform e t) will

-- what is known of a declared name is known in a longer environment too
moved_by-more : (env : Environment) (last : Binding) (v : Moved) (a : InstanceData) → IsMovedBy env v a → IsMovedBy (env ++ last ∷ []) v a
moved_by-more env last v a is = record {
  along = is.along;
  route = is.route;
  schema = is.schema;
  operand = is.operand;
  along_is = meant_by-more env v.along is.along last is.along_is;
  route_is = is.route_is;
  operand_is = meant_by-more env v.operand (instance is.schema is.operand) last is.operand_is;
  moved = is.moved;
}

moved_as-more : (env : Environment) (last : Binding) (m : Meant) (o : Option Moved) → IsMovedAs env m o → IsMovedAs (env ++ last ∷ []) m o
moved_as-more env last (instance n i) (Some v) is = moved_by-more env last v i is
moved_as-more env last (instance n i) None is = tt
moved_as-more env last (typeside T) o is = tt
moved_as-more env last (schema S) o is = tt
moved_as-more env last (colimit c) o is = tt
moved_as-more env last (mapping n t F) o is = tt
moved_as-more env last (query n t Q) o is = tt
moved_as-more env last (transform e t) o is = tt

known-more : (env : Environment) (last entry : Binding) → IsKnown env entry → IsKnown (env ++ last ∷ []) entry
known-more env last entry is = (is.0, moved_as-more env last entry.1 entry.2 is.1)

-- one name more, whose meaning will be settled
pub AreSettled-more : (env : Environment) (name : Name) (m : Meant) (v : Option Moved) → AreSettled env → is_some (meant_by env name) ≡ false → WillSettle env name m
    → IsKnown env (name, m, v) → AreSettled (env ++ (name, m, v) ∷ [])
AreSettled-more env name m v settled new will known =
    let longer : Environment = env ++ (name, m, v) ∷ [] in (
      All-push (λ (entry : Binding). IsSettled longer entry.1) env (name, m, v)
          (All-weaker (λ (entry : Binding). IsSettled env entry.1) (λ (entry : Binding). IsSettled longer entry.1) (λ entry. settled-more env (name, m, v) entry.1) env settled.0)
          (settles env name m v new will),
      All-push (IsKnown longer) env (name, m, v) (All-weaker (IsKnown env) (IsKnown longer) (known-more env (name, m, v)) env settled.1)
          (known-more env (name, m, v) (name, m, v) known),
    )

-- what a name stands for is settled
chosen : (env : Environment) (b : Bool) (n m : Meant) (o : Option Meant) → (if b then Some n else o) ≡ Some m → IsSettled env n → (o ≡ Some m → IsSettled env m) → IsSettled env m
chosen env true n m o is first rest = let one : n ≡ m = cc in subst (IsSettled env) one first
chosen env false n m o is first rest = rest is

pub meant_settled : (env entries : Environment) (name : Name) (m : Meant) → All (λ (entry : Binding). IsSettled env entry.1) entries → meant_by entries name ≡ Some m → IsSettled env m
meant_settled env [] name m all is = absurd (cc is)
meant_settled env (entry ∷ entries) name m all is =
    chosen env (same_name name entry.0) entry.1 m (meant_by entries name) is (All-head (λ (e : Binding). IsSettled env e.1) entry entries all)
    (meant_settled env entries name m (All-tail (λ (e : Binding). IsSettled env e.1) entry entries all))

used : (env : Environment) (S : SchemaMeant) (place : Place) (o : Option Meant) → as_schema place o ≡ Ok S → option_and_then schema_by o ≡ Some S
used env S place None is = absurd (cc is)
used env S place (Some (typeside T)) is = absurd (cc is)
used env S place (Some (schema T)) is = cc
used env S place (Some (colimit c)) is = cc
used env S place (Some (mapping n t F)) is = absurd (cc is)
used env S place (Some (query n t Q)) is = absurd (cc is)
used env S place (Some (instance n i)) is = absurd (cc is)
used env S place (Some (transform e t)) is = absurd (cc is)

same_schema : (T S : SchemaMeant) → Some T ≡ Some S → T ≡ S
same_schema T S h = cc

-- a schema, or that of a colimit
schema_settled : (env : Environment) (o : Option Meant) (S : SchemaMeant) → ((m : Meant) → o ≡ Some m → IsSettled env m) → option_and_then schema_by o ≡ Some S → IsSettled env (schema S)
schema_settled env None S settled is = absurd (cc is)
schema_settled env (Some (typeside T)) S settled is = absurd (cc is)
schema_settled env (Some (schema T)) S settled is = subst (λ (X : SchemaMeant). IsSettled env (schema X)) (same_schema T S is) (settled (schema T) refl)
schema_settled env (Some (colimit c)) S settled is =
    let all = settled (colimit c) refl in
    subst (λ (X : SchemaMeant). IsSettled env (schema X)) (same_schema c.schema S is) (all.0, all.1)
schema_settled env (Some (mapping n t F)) S settled is = absurd (cc is)
schema_settled env (Some (query n t Q)) S settled is = absurd (cc is)
schema_settled env (Some (instance n i)) S settled is = absurd (cc is)
schema_settled env (Some (transform e t)) S settled is = absurd (cc is)

pub used_settled : (env : Environment) (spot : Spot) (S : SchemaMeant) → AreSettled env → schema_used env spot ≡ Ok S → IsSettled env (schema S)
used_settled env spot S settled is = schema_settled env (meant_by env spot.name) S (λ m. meant_settled env env spot.name m settled.0) (used env S spot.place (meant_by env spot.name) is)

mapping_there : (F : MappingMeant) (place : Place) (o : Option Meant) → as_mapping place o ≡ Ok F → o ≡ Some (mapping F.source F.target F.mapping)
mapping_there F place None is = absurd (cc is)
mapping_there F place (Some (typeside T)) is = absurd (cc is)
mapping_there F place (Some (schema S)) is = absurd (cc is)
mapping_there F place (Some (colimit c)) is = absurd (cc is)
mapping_there F place (Some (mapping n t G)) is = same_mapping (record { source = n; target = t; mapping = G }) F is
  where
    same_mapping : (G F : MappingMeant) → ◌≡◌ {A = Checked MappingMeant} (Ok G) (Ok F) → Some (mapping G.source G.target G.mapping) ≡ Some (mapping F.source F.target F.mapping)
    same_mapping G F is = let one : G ≡ F = cc in ap (λ (H : MappingMeant). Some (mapping H.source H.target H.mapping)) one
mapping_there F place (Some (query n t Q)) is = absurd (cc is)
mapping_there F place (Some (instance n i)) is = absurd (cc is)
mapping_there F place (Some (transform e t)) is = absurd (cc is)

query_there : (Q : QueryMeant) (place : Place) (o : Option Meant) → as_query place o ≡ Ok Q → o ≡ Some (query Q.source Q.target Q.query)
query_there Q place None is = absurd (cc is)
query_there Q place (Some (typeside T)) is = absurd (cc is)
query_there Q place (Some (schema S)) is = absurd (cc is)
query_there Q place (Some (colimit c)) is = absurd (cc is)
query_there Q place (Some (mapping n t F)) is = absurd (cc is)
query_there Q place (Some (query n t R)) is = same_query (record { source = n; target = t; query = R }) Q is
  where
    same_query : (R Q : QueryMeant) → ◌≡◌ {A = Checked QueryMeant} (Ok R) (Ok Q) → Some (query R.source R.target R.query) ≡ Some (query Q.source Q.target Q.query)
    same_query R Q is = let one : R ≡ Q = cc in ap (λ (H : QueryMeant). Some (query H.source H.target H.query)) one
query_there Q place (Some (instance n i)) is = absurd (cc is)
query_there Q place (Some (transform e t)) is = absurd (cc is)

instance_there : (i : InstanceMeant) (place : Place) (o : Option Meant) → as_instance place o ≡ Ok i → o ≡ Some (instance i.schema i.instance)
instance_there i place None is = absurd (cc is)
instance_there i place (Some (typeside T)) is = absurd (cc is)
instance_there i place (Some (schema S)) is = absurd (cc is)
instance_there i place (Some (colimit c)) is = absurd (cc is)
instance_there i place (Some (mapping n t G)) is = absurd (cc is)
instance_there i place (Some (query n t Q)) is = absurd (cc is)
instance_there i place (Some (instance n j)) is = same_instance (record { schema = n; instance = j }) i is
  where
    same_instance : (j i : InstanceMeant) → ◌≡◌ {A = Checked InstanceMeant} (Ok j) (Ok i) → Some (instance j.schema j.instance) ≡ Some (instance i.schema i.instance)
    same_instance j i is = let one : j ≡ i = cc in ap (λ (h : InstanceMeant). Some (instance h.schema h.instance)) one
instance_there i place (Some (transform e t)) is = absurd (cc is)

transform_there : (t : TransformMeant) (place : Place) (o : Option Meant) → as_transform place o ≡ Ok t → o ≡ Some (transform t.ends t.transform)
transform_there t place None is = absurd (cc is)
transform_there t place (Some (typeside T)) is = absurd (cc is)
transform_there t place (Some (schema S)) is = absurd (cc is)
transform_there t place (Some (colimit c)) is = absurd (cc is)
transform_there t place (Some (mapping n m G)) is = absurd (cc is)
transform_there t place (Some (query n m Q)) is = absurd (cc is)
transform_there t place (Some (instance n j)) is = absurd (cc is)
transform_there t place (Some (transform e u)) is = same_transform (record { ends = e; transform = u }) t is
  where
    same_transform : (u t : TransformMeant) → ◌≡◌ {A = Checked TransformMeant} (Ok u) (Ok t) → Some (transform u.ends u.transform) ≡ Some (transform t.ends t.transform)
    same_transform u t is = let one : u ≡ t = cc in ap (λ (h : TransformMeant). Some (transform h.ends h.transform)) one

pub mapping_meant_by : (env : Environment) (spot : Spot) (F : MappingMeant) → mapping_used env spot ≡ Ok F → meant_by env spot.name ≡ Some (mapping F.source F.target F.mapping)
mapping_meant_by env spot F is = mapping_there F spot.place (meant_by env spot.name) is

pub query_meant_by : (env : Environment) (spot : Spot) (Q : QueryMeant) → query_used env spot ≡ Ok Q → meant_by env spot.name ≡ Some (query Q.source Q.target Q.query)
query_meant_by env spot Q is = query_there Q spot.place (meant_by env spot.name) is

pub mapping_settled : (env : Environment) (spot : Spot) (F : MappingMeant) → AreSettled env → mapping_used env spot ≡ Ok F → IsSettled env (mapping F.source F.target F.mapping)
mapping_settled env spot F settled is = meant_settled env env spot.name (mapping F.source F.target F.mapping) settled.0 (mapping_there F spot.place (meant_by env spot.name) is)

colimit_there : (c : ColimitMeant) (place : Place) (o : Option Meant) → as_colimit place o ≡ Ok c → o ≡ Some (colimit c)
colimit_there c place None is = absurd (cc is)
colimit_there c place (Some (typeside T)) is = absurd (cc is)
colimit_there c place (Some (schema S)) is = absurd (cc is)
colimit_there c place (Some (colimit d)) is = cc
colimit_there c place (Some (mapping n t F)) is = absurd (cc is)
colimit_there c place (Some (query n t Q)) is = absurd (cc is)
colimit_there c place (Some (instance n i)) is = absurd (cc is)
colimit_there c place (Some (transform e t)) is = absurd (cc is)

pub colimit_settled : (env : Environment) (spot : Spot) (c : ColimitMeant) → AreSettled env → colimit_used env spot ≡ Ok c → IsSettled env (colimit c)
colimit_settled env spot c settled is = meant_settled env env spot.name (colimit c) settled.0 (colimit_there c spot.place (meant_by env spot.name) is)

pub query_settled : (env : Environment) (spot : Spot) (Q : QueryMeant) → AreSettled env → query_used env spot ≡ Ok Q → IsSettled env (query Q.source Q.target Q.query)
query_settled env spot Q settled is = meant_settled env env spot.name (query Q.source Q.target Q.query) settled.0 (query_there Q spot.place (meant_by env spot.name) is)

-- what a used instance and a used transform are
pub instance_meant_by : (env : Environment) (spot : Spot) (i : InstanceMeant) → instance_used env spot ≡ Ok i → meant_by env spot.name ≡ Some (instance i.schema i.instance)
instance_meant_by env spot i is = instance_there i spot.place (meant_by env spot.name) is

pub instance_settled : (env : Environment) (spot : Spot) (i : InstanceMeant) → AreSettled env → instance_used env spot ≡ Ok i → IsPrinted env i.schema i.instance.schema
instance_settled env spot i settled is = (meant_settled env env spot.name (instance i.schema i.instance) settled.0 (instance_meant_by env spot i is)).0

pub instance_modelled : (env : Environment) (spot : Spot) (i : InstanceMeant) → AreSettled env → instance_used env spot ≡ Ok i → IsTermModel i.instance
instance_modelled env spot i settled is = (meant_settled env env spot.name (instance i.schema i.instance) settled.0 (instance_meant_by env spot i is)).1

pub transform_settled : (env : Environment) (spot : Spot) (t : TransformMeant) → AreSettled env → transform_used env spot ≡ Ok t → IsSettled env (transform t.ends t.transform)
transform_settled env spot t settled is =
    meant_settled env env spot.name (transform t.ends t.transform) settled.0 (transform_there t spot.place (meant_by env spot.name) is)

-- the schema of a transform's start stands for its printed name
pub start_printed : (env : Environment) (t : TransformMeant) → AreSettled env → IsSettled env (transform t.ends t.transform) → IsPrinted env t.ends.start.schema t.ends.start.instance.schema
start_printed env t settled is = (meant_settled env env t.ends.source (instance t.ends.start.schema t.ends.start.instance) settled.0 is.0.0).0

-- a schema that is used stands for its printed name
pub schema_printed : (env : Environment) (spot : Spot) (S : SchemaMeant) → AreSettled env → schema_used env spot ≡ Ok S → IsPrinted env S.name S.schema
schema_printed env spot S settled is = (S.typeside, (used_settled env spot S settled is).1)

passes : (b : Bool) → false ≡ not b → true ≡ b
passes true h = refl
passes false h = absurd (cc h)

-- two schemas whose typesides' names are one are over one typeside
pub one_typeside : (env : Environment) (S T : SchemaMeant) → IsSettled env (schema S) → IsSettled env (schema T) → false ≡ not (same_name S.typeside T.typeside) → S.schema.typeside ≡ T.schema.typeside
one_typeside env S T settled settled' same =
    let found : Some (typeside S.schema.typeside) ≡ Some (typeside T.schema.typeside) = sym settled.0 ∙ ap (meant_by env) (same_text S.typeside T.typeside (passes (same_name S.typeside T.typeside) same)) ∙ settled'.0 in
    cc

-- a schema over the typeside of a declared name is over what the name stands for
pub over_typeside : (env : Environment) (n : Name) (T : TypesideData) (S : SchemaMeant) → meant_by env n ≡ Some (typeside T) → IsSettled env (schema S) → false ≡ not (same_name n S.typeside)
    → S.schema.typeside ≡ T
over_typeside env n T S is settled same =
    let found : Some (typeside S.schema.typeside) ≡ Some (typeside T) = sym settled.0 ∙ ap (meant_by env) (sym (same_text n S.typeside (passes (same_name n S.typeside) same))) ∙ is in
    cc

-- one printed name stands for one schema
pub one_printed : (env : Environment) (n m : Name) (S T : SchemaData) → IsPrinted env n S → IsPrinted env m T → false ≡ not (same_name n m) → S ≡ T
one_printed env n m S T printed printed' same =
    let found : Some (record { name = n; typeside = printed.0; schema = S }) ≡ Some (record { name = m; typeside = printed'.0; schema = T }) =
    sym printed.1 ∙ ap (schema_named env) (same_text n m (passes (same_name n m) same)) ∙ printed'.1 in
    same_schemas (record { name = n; typeside = printed.0; schema = S }) (record { name = m; typeside = printed'.0; schema = T }) found
  where
    same_schemas : (X Y : SchemaMeant) → Some X ≡ Some Y → X.schema ≡ Y.schema
    same_schemas X Y h = let one : X ≡ Y = cc in ap (λ (Z : SchemaMeant). Z.schema) one

-- one name stands for one instance
pub one_start : (env : Environment) (e f : Ends) → AreEnds env e → AreEnds env f → false ≡ not (same_name e.source f.source) → f.start ≡ e.start
one_start env e f are are' same =
    let found : Some (instance f.start.schema f.start.instance) ≡ Some (instance e.start.schema e.start.instance) =
    sym are'.0 ∙ ap (meant_by env) (sym (same_text e.source f.source (passes (same_name e.source f.source) same))) ∙ are.0 in
    let schemas : f.start.schema ≡ e.start.schema = cc in
    let instances : f.start.instance ≡ e.start.instance = cc in
    λ k. record { schema = schemas k; instance = instances k }

-- what is read of a grounded statement is grounded
grounded_files : (env : Environment) (name : Name) (files : Told) (format : Format) (n : Name) (S : SchemaData) (dir : Name) (posed : Posed)
    → IsPrinted env n S → Reads files (a_folder format n S dir) posed → IsGrounded env name posed
grounded_files env name None First n S dir posed printed reads = subst (IsGrounded env name) (sym reads.1.1) printed
grounded_files env name (Some files) First n S dir posed printed reads = subst (IsGrounded env name) (sym reads.1) printed
grounded_files env name None Second n S dir posed printed reads = subst (IsGrounded env name) (sym reads.2.1) printed
grounded_files env name (Some files) Second n S dir posed printed reads = subst (IsGrounded env name) (sym reads.1) printed

pub grounded_reading : (env : Environment) (name : Name) (files : Told) (stated : Stated) (posed : Posed) → IsStatedOver env name stated → Reads files stated posed → IsGrounded env name posed
grounded_reading env name files (at_once p) posed grounded reads = subst (IsGrounded env name) (sym reads) grounded
grounded_reading env name files (a_folder format n S dir) posed printed reads = grounded_files env name files format n S dir posed printed reads
