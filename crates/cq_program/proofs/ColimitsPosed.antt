-- What schemas that are joined pose.
use Rattle.std.proofs.Common.{◌≡◌, ◌⊎◌, inl, inr, ◌<◌, ◌≤◌, ◌+◌, ◌^◌, ℕ, zero, suc, Bool, true, false, List, [], ◌∷◌, ◌++◌, Option, Some, None, length, map, min, refl, sym, ap, ◌∙◌, subst, take, drop, get_or, drop-cons, arith}
use Rattle.std.specs.Prelude.{All, Ok, if◌then◌else◌}
use Rattle.std.proofs.lemmas.List.{drop_all, length-map, length-take, map-append, take_more}
use Rattle.std.proofs.lemmas.List.Elements.{All-nil, All-cons, All-head, All-tail}
use Rattle.cq_base.specs.declared.name.Name.{Name}
use Rattle.cq_base.specs.declared.place.Place.{Place}
use Rattle.cq_base.specs.Names.{same_name}
use Rattle.cq_syntax.specs.declared.literal.ColimitLit.{ColimitLit}
use Rattle.cq_syntax.specs.declared.part.Spot.{Spot}
use Rattle.cq_theory.specs.SchemaData.{SchemaData}
use Rattle.cq_theory.specs.TypesideData.{TypesideData}
use Rattle.cq_mapping.specs.MappingData.{MappingData}
use Rattle.cq_mapping.specs.Duties.{Preserves}
use Rattle.cq_theory.specs.declared.parts.ColimitParts.{ColimitParts}
use Rattle.cq_colimit.specs.declared.placed.Start.{Start}
use Rattle.cq_colimit.specs.declared.refusal.ColimitRefusal.{ColimitRefusal}
use Rattle.cq_colimit.specs.declared.refusal.ColimitRefusal.TheVariants as joining
use Rattle.cq_colimit.specs.Faults.{colimit_fault}
use Rattle.cq_colimit.specs.Joined.{framed, inclusion, inclusions, joined, keyed, links_in}
use Rattle.cq_colimit.specs.Placing.{Part, past, placed_from}
use Rattle.cq_program.specs.declared.colimits.stating.UsedSchema.{UsedSchema}
use Rattle.cq_environment.specs.declared.environment.NamedPart.{NamedPart}
use Rattle.cq_environment.specs.declared.refusal.ProgramRefusal.{ProgramRefusal}
use Rattle.cq_environment.specs.Meanings.{ColimitMeant, Environment, PartMeant, SchemaMeant, colimit, colimit_used, meant_by, schema, schema_used, typeside}
use Rattle.cq_program.specs.Posed.{a_colimit, a_schema}
use Rattle.cq_program.specs.Colimits.{colimit_breach, colimit_given, colimit_of, first_apart, included, named_schemas, part_named, parts_used, posed_colimit}
use Rattle.cq_environment.specs.Environment.{AreSettled, IsPartPrinted, IsPartSettled, IsPrinted, IsSettled, TellsChecked, Tells, part_meant}
use Rattle.cq_program.specs.Views.{used_meant, useds_meant}
use Rattle.cq_parts.specs.Parts.{colimit_parts, colimit_places, observation_part, path_eq_part}
use Rattle.cq_program.specs.Posing.{IsGrounded}
use Rattle.cq_program.proofs.Given.{given, refused}
use Rattle.cq_program.proofs.Settled.{colimit_settled, over_typeside, schema_printed, used_settled}
use Rattle.cq_program.proofs.Uses.{none_other, used_count, used_hold}

pub parts_printed : (env : Environment) (spots : List Spot) (parts : List (Spot × SchemaMeant)) → AreSettled env → parts_used env spots ≡ Ok parts → All (IsPartPrinted env) parts
parts_printed env spots parts settled are = used_hold (λ (s : Spot). s) (schema_used env) (IsPartPrinted env) (λ spot S is. schema_printed env spot S settled is) spots parts are

-- what holds of each as it is seen holds of each
all_under : {X Y : Type 0} (P : Y → Type 0) (view : X → Y) (xs : List X) → All P (map view xs) → All (λ (x : X). P (view x)) xs
all_under P view [] all = All-nil (λ x. P (view x))
all_under P view (x ∷ xs) all =
    All-cons (λ y. P (view y)) x xs (All-head P (view x) (map view xs) all) (all_under P view xs (All-tail P (view x) (map view xs) all))

-- where none is apart each part is over the typeside
pub parts_over : (env : Environment) (n : Name) (T : TypesideData) (spots : List Spot) (parts : List UsedSchema) → AreSettled env → meant_by env n ≡ Some (typeside T)
    → parts_used env spots ≡ Ok (useds_meant parts) → first_apart n (useds_meant parts) ≡ None → All (λ (part : UsedSchema). part.part.schema.value.typeside ≡ T) parts
parts_over env n T spots parts settled is are none =
    let each : All (λ (part : Spot × SchemaMeant). IsSettled env (schema part.1)) (useds_meant parts) =
    used_hold (λ (s : Spot). s) (schema_used env) (λ (part : Spot × SchemaMeant). IsSettled env (schema part.1)) (λ spot S used. used_settled env spot S settled used) spots (useds_meant parts) are in
    all_under (λ (part : Spot × SchemaMeant). part.1.schema.typeside ≡ T) used_meant parts
    (none_other (λ (s : Spot). s.place) (λ (S : SchemaMeant). S.typeside) n (λ (part : Spot × SchemaMeant). IsSettled env (schema part.1)) (λ (part : Spot × SchemaMeant). part.1.schema.typeside ≡ T)
    (λ part settled same. over_typeside env n T part.1 is settled same) (useds_meant parts) each none)

-- there are as many as names are used
pub parts_few : (env : Environment) (spots : List Spot) (parts : List UsedSchema) (pairs path_eqs obs_eqs : ℕ) → parts_used env spots ≡ Ok (useds_meant parts)
    → length spots + pairs + path_eqs + obs_eqs < 2 ^ 32 → length parts + pairs + path_eqs + obs_eqs < 2 ^ 32
parts_few env spots parts pairs path_eqs obs_eqs are few =
    let counted : length (useds_meant parts) ≡ length spots = used_count (λ (s : Spot). s) (schema_used env) spots (useds_meant parts) are in
    let long : length (useds_meant parts) ≡ length parts = length-map parts used_meant in
    omega arith

schemas_over : (T : TypesideData) (parts : List UsedSchema) → All (λ (part : UsedSchema). part.part.schema.value.typeside ≡ T) parts
    → All (λ (part : Part). part.1.typeside ≡ T) (named_schemas (useds_meant parts))
schemas_over T [] over = All-nil (λ (part : Part). part.1.typeside ≡ T)
schemas_over T (part ∷ parts) over =
    All-cons (λ (p : Part). p.1.typeside ≡ T) (part.name, part.part.schema.value) (named_schemas (useds_meant parts))
    (All-head (λ (p : UsedSchema). p.part.schema.value.typeside ≡ T) part parts over)
    (schemas_over T parts (All-tail (λ (p : UsedSchema). p.part.schema.value.typeside ≡ T) part parts over))

pub over_named : {X : Type 0} (T : TypesideData) (xs : List X) (parts : List UsedSchema) (view : X → Part) → map view xs ≡ named_schemas (useds_meant parts)
    → All (λ (part : UsedSchema). part.part.schema.value.typeside ≡ T) parts → All (λ (x : X). (view x).1.typeside ≡ T) xs
over_named T xs parts view are over =
    all_under (λ (part : Part). part.1.typeside ≡ T) view xs (subst (All (λ (part : Part). part.1.typeside ≡ T)) (sym are) (schemas_over T parts over))

count_schemas : (parts : List UsedSchema) → length (named_schemas (useds_meant parts)) ≡ length parts
count_schemas [] = refl
count_schemas (part ∷ parts) = ap (λ (n : ℕ). suc n) (count_schemas parts)

pub count_parts : (named : List Part) (parts : List UsedSchema) → named ≡ named_schemas (useds_meant parts) → length named ≡ length parts
count_parts named parts are = ap length are ∙ count_schemas parts

pub count_named : {X : Type 0} (xs : List X) (parts : List UsedSchema) (view : X → Part) → map view xs ≡ named_schemas (useds_meant parts) → length xs ≡ length parts
count_named xs parts view are = sym (length-map xs view) ∙ ap length are ∙ count_schemas parts

pub few_joins : (lit : ColimitLit) (joins : ColimitParts) (n m : ℕ) → joins ≡ colimit_parts lit → n ≡ m → m + length lit.pairs + length lit.path_eqs + length lit.obs_eqs < 2 ^ 32
    → n + length joins.pairs + length joins.path_eqs + length joins.obs_eqs < 2 ^ 32
unfolding colimit_parts
few_joins lit joins n m is same few =
    let pairs : length joins.pairs ≡ length lit.pairs = ap (λ (j : ColimitParts). length j.pairs) is ∙ length-map lit.pairs (λ p. (p.left, p.right)) in
    let path_eqs : length joins.path_eqs ≡ length lit.path_eqs = ap (λ (j : ColimitParts). length j.path_eqs) is ∙ length-map lit.path_eqs path_eq_part in
    let obs_eqs : length joins.obs_eqs ≡ length lit.obs_eqs = ap (λ (j : ColimitParts). length j.obs_eqs) is ∙ length-map lit.obs_eqs observation_part in
    omega arith

-- What is given over parts that are those of a literal.
module _ (T : TypesideData) (named : List Part) (parts : List (Spot × SchemaMeant)) (joins : ColimitParts) (lit : ColimitLit)
    (are : named ≡ named_schemas parts) (is : joins ≡ colimit_parts lit) where
  pub refused_as : (place : Place) (name : Name) (answer : ProgramRefusal) (found : List Place) (refusal : ColimitRefusal) → found ≡ colimit_places lit
      → Tells answer (colimit_breach place found refusal) → (refusal ≡ joining.Memory) ⊎ (colimit_fault T named joins ≡ Some refusal) → TellsChecked answer (colimit_given place lit name T parts)
  unfolding colimit_given
  refused_as place name answer those refusal at tells why =
      refused (colimit_breach place (colimit_places lit)) joining.Memory refl answer refusal (colimit_fault T (named_schemas parts) (colimit_parts lit)) (colimit_of lit name T parts)
      (subst (λ (l : List Place). Tells answer (colimit_breach place l refusal)) at tells) (turned why)
    where
      turned : (refusal ≡ joining.Memory) ⊎ (colimit_fault T named joins ≡ Some refusal) → (refusal ≡ joining.Memory) ⊎ (colimit_fault T (named_schemas parts) (colimit_parts lit) ≡ Some refusal)
      turned (inl memory) = inl memory
      turned (inr broken) = inr (sym (λ i. colimit_fault T (are i) (is i)) ∙ broken)

-- each inclusion goes from the schema of its part
settled_from : (env : Environment) (links : List (ℕ × ℕ)) (J : SchemaData) (start : Start) (parts : List (Spot × SchemaMeant)) → All (IsPartPrinted env) parts
    → All Preserves (map (inclusion links J) (placed_from start (named_schemas parts)))
    → All (IsPartSettled env J) (included parts (map (inclusion links J) (placed_from start (named_schemas parts))))
settled_from env links J start [] printed preserves = All-nil (IsPartSettled env J)
settled_from env links J start (part ∷ parts) printed preserves =
    let F : MappingData = inclusion links J (record { name = part.0.name; schema = part.1.schema; start = start }) in
    let rest : List MappingData = map (inclusion links J) (placed_from (past start part.1.schema) (named_schemas parts)) in
    All-cons (IsPartSettled env J) (record { name = part.0.name; source = part.1.name; inclusion = F }) (included parts rest)
    (All-head Preserves F rest preserves, All-head (IsPartPrinted env) part parts printed, refl)
    (settled_from env links J (past start part.1.schema) parts (All-tail (IsPartPrinted env) part parts printed) (All-tail Preserves F rest preserves))

parts_settled : (env : Environment) (T : TypesideData) (lit : ColimitLit) (parts : List (Spot × SchemaMeant)) → All (IsPartPrinted env) parts
    → All Preserves (inclusions T (named_schemas parts) (colimit_parts lit))
    → All (IsPartSettled env (joined T (named_schemas parts) (colimit_parts lit))) (included parts (inclusions T (named_schemas parts) (colimit_parts lit)))
unfolding inclusions
parts_settled env T lit parts printed preserves =
    settled_from env (links_in (named_schemas parts) (colimit_parts lit)) (joined T (named_schemas parts) (colimit_parts lit)) (record { part = 0; entity = 0; key = 0; attribute = 0 }) parts printed preserves

joined_typeside : (T : TypesideData) (parts : List Part) (joins : ColimitParts) → (joined T parts joins).typeside ≡ T
unfolding joined framed keyed
joined_typeside T parts joins = refl

-- A colimit of these parts, under its name.
module _ (lit : ColimitLit) (name : Name) (T : TypesideData) (parts : List (Spot × SchemaMeant)) (J : SchemaData) (Fs : List MappingData) (c : ColimitMeant)
    (schema_is : J ≡ joined T (named_schemas parts) (colimit_parts lit)) (inclusions_are : Fs ≡ inclusions T (named_schemas parts) (colimit_parts lit))
    (is : c ≡ record { schema = record { name = name; typeside = lit.typeside.name; schema = J }; parts = included parts Fs }) where
  pub colimit_made : (place : Place) → colimit_fault T (named_schemas parts) (colimit_parts lit) ≡ None → posed_colimit (colimit_given place lit name T parts) ≡ Ok (a_colimit c)
  unfolding colimit_given
  colimit_made place none =
      let whole : c ≡ colimit_of lit name T parts =
      is ∙ (λ i. record { schema = record { name = name; typeside = lit.typeside.name; schema = schema_is i }; parts = included parts (inclusions_are i) }) in
      ap posed_colimit (given (colimit_breach place (colimit_places lit)) (colimit_fault T (named_schemas parts) (colimit_parts lit)) c (colimit_of lit name T parts) none whole)

  pub colimit_grounded : (env : Environment) → meant_by env lit.typeside.name ≡ Some (typeside T) → All (IsPartPrinted env) parts → All Preserves Fs → IsGrounded env name (a_colimit c)
  colimit_grounded env there printed preserves =
      let over : J.typeside ≡ T = ap (λ (S : SchemaData). S.typeside) schema_is ∙ joined_typeside T (named_schemas parts) (colimit_parts lit) in
      let first : All (IsPartSettled env J) (included parts (inclusions T (named_schemas parts) (colimit_parts lit))) =
      subst (λ (S : SchemaData). All (IsPartSettled env S) (included parts (inclusions T (named_schemas parts) (colimit_parts lit)))) (sym schema_is)
      (parts_settled env T lit parts printed (subst (All Preserves) inclusions_are preserves)) in
      let each : All (IsPartSettled env J) (included parts Fs) = subst (λ (all : List MappingData). All (IsPartSettled env J) (included parts all)) (sym inclusions_are) first in
      subst (λ (d : ColimitMeant). IsGrounded env name (a_colimit d)) (sym is) (there ∙ ap (λ (U : TypesideData). Some (typeside U)) (sym over), refl, each)

-- The part that stands under a name.
chosen_part : (P : PartMeant → Type 0) (b : Bool) (part : PartMeant) (o : Option PartMeant) (found : PartMeant) → (if b then Some part else o) ≡ Some found → P part → (o ≡ Some found → P found) → P found
chosen_part P true part o found is first rest = let one : part ≡ found = cc in subst P one first
chosen_part P false part o found is first rest = rest is

part_holds : (P : PartMeant → Type 0) (parts : List PartMeant) (name : Name) (found : PartMeant) → All P parts → part_named parts name ≡ Some found → P found
part_holds P [] name found all is = absurd (cc is)
part_holds P (part ∷ parts) name found all is =
    chosen_part P (same_name name part.name) part (part_named parts name) found is (All-head P part parts all) (part_holds P parts name found (All-tail P part parts all))

pub part_grounded : (env : Environment) (J : SchemaMeant) (parts : List PartMeant) (name : Name) (found : PartMeant) → IsSettled env (schema J) → All (IsPartSettled env J.schema) parts
    → part_named parts name ≡ Some found → Preserves found.inclusion × IsPrinted env found.source found.inclusion.source × IsPrinted env J.name found.inclusion.target
part_grounded env J parts name found settled each is =
    let part : IsPartSettled env J.schema found = part_holds (IsPartSettled env J.schema) parts name found each is in
    (part.0, part.1, subst (IsPrinted env J.name) (sym part.2) (J.typeside, settled.1))

pub inclusion_grounded : (env : Environment) (along : Spot) (name : Name) (c : ColimitMeant) (part : PartMeant) → AreSettled env → colimit_used env along ≡ Ok c → part_named c.parts name ≡ Some part
    → Preserves part.inclusion × IsPrinted env part.source part.inclusion.source × IsPrinted env c.schema.name part.inclusion.target
inclusion_grounded env along name c part settled is some =
    let all : IsSettled env (colimit c) = colimit_settled env along c settled is in
    part_grounded env c.schema c.parts name part (all.0, all.1) all.2 some

-- the schema of a colimit is settled
pub schema_grounded : (env : Environment) (spot : Spot) (name : Name) (c : ColimitMeant) (S : SchemaMeant) → AreSettled env → colimit_used env spot ≡ Ok c → S ≡ c.schema → IsGrounded env name (a_schema S)
schema_grounded env spot name c S settled is same =
    let all : IsSettled env (colimit c) = colimit_settled env spot c settled is in
    subst (λ (T : SchemaMeant). IsGrounded env name (a_schema T)) (sym same) (all.0, inr all.1)

-- One part more in a search.
module _ (name : Name) (parts : List NamedPart) where
  abbrev named_or : NamedPart → Option PartMeant → Bool → Option PartMeant
  named_or part rest b = if b then Some (part_meant part) else rest

  pub part_found : (i : ℕ) (part : NamedPart) → i < length parts → part ≡ get_or parts i part → part_named (map part_meant parts) name ≡ part_named (map part_meant (drop i parts)) name
      → true ≡ same_name name part.name → part_named (map part_meant parts) name ≡ Some (part_meant part)
  part_found i part inside is so_far same =
      so_far ∙ ap (λ (l : List NamedPart). part_named (map part_meant l) name) (drop-cons parts i part inside ∙ ap (λ (x : NamedPart). x ∷ drop (suc i) parts) (sym is))
      ∙ ap (named_or part (part_named (map part_meant (drop (suc i) parts)) name)) (sym same)

  pub part_passed : (i : ℕ) (part : NamedPart) → i < length parts → part ≡ get_or parts i part → part_named (map part_meant parts) name ≡ part_named (map part_meant (drop i parts)) name
      → false ≡ same_name name part.name → part_named (map part_meant parts) name ≡ part_named (map part_meant (drop (i + 1) parts)) name
  part_passed i part inside is so_far other =
      let next : suc i ≡ i + 1 = omega arith in
      so_far ∙ ap (λ (l : List NamedPart). part_named (map part_meant l) name) (drop-cons parts i part inside ∙ ap (λ (x : NamedPart). x ∷ drop (suc i) parts) (sym is))
      ∙ ap (named_or part (part_named (map part_meant (drop (suc i) parts)) name)) (sym other) ∙ ap (λ (k : ℕ). part_named (map part_meant (drop k parts)) name) next

  pub no_part : (i : ℕ) → length parts ≤ i → part_named (map part_meant parts) name ≡ part_named (map part_meant (drop i parts)) name → part_named (map part_meant parts) name ≡ None
  no_part i past so_far = so_far ∙ ap (λ (l : List NamedPart). part_named (map part_meant l) name) (drop_all i parts past)

-- One inclusion more under its name.
included_more : (parts : List (Spot × SchemaMeant)) (Fs : List MappingData) (part : Spot × SchemaMeant) (F : MappingData) → length parts ≡ length Fs
    → included (parts ++ part ∷ []) (Fs ++ F ∷ []) ≡ included parts Fs ++ record { name = part.0.name; source = part.1.name; inclusion = F } ∷ []
included_more [] [] part F same = refl
included_more [] (G ∷ Fs) part F same = absurd (omega arith)
included_more (p ∷ parts) [] part F same = absurd (omega arith)
included_more (p ∷ parts) (G ∷ Fs) part F same =
    let rest : length parts ≡ length Fs = omega arith in
    ap (λ (l : List PartMeant). record { name = p.0.name; source = p.1.name; inclusion = G } ∷ l) (included_more parts Fs part F rest)

included_all : (n : ℕ) (parts : List (Spot × SchemaMeant)) (Fs : List MappingData) → n ≡ min (length parts) (length Fs) → included (take n parts) (take n Fs) ≡ included parts Fs
included_all n [] Fs is = let none : n ≡ 0 = omega arith in ap (λ (k : ℕ). included (take k []) (take k Fs)) none
included_all n (p ∷ parts) [] is = let none : n ≡ 0 = omega arith in ap (λ (k : ℕ). included (take k (p ∷ parts)) (take k [])) none
included_all zero (p ∷ parts) (F ∷ Fs) is = absurd (omega arith)
included_all (suc n) (p ∷ parts) (F ∷ Fs) is =
    let rest : n ≡ min (length parts) (length Fs) = omega arith in
    ap (λ (l : List PartMeant). record { name = p.0.name; source = p.1.name; inclusion = F } ∷ l) (included_all n parts Fs rest)

-- as many of both lists, one more, and all that there are of the shorter one
module _ {X : Type 0} (parts : List UsedSchema) (shared : List X) (view : X → MappingData) (n : ℕ) (named : List NamedPart)
    (so_far : map part_meant named ≡ included (useds_meant (take n parts)) (map view (take n shared))) where
  pub included_turn : (more : List NamedPart) (one : NamedPart) (part : UsedSchema) (inclusion : X) (m : ℕ) → n < length parts → n < length shared → part ≡ get_or parts n part
      → inclusion ≡ get_or shared n inclusion → part_meant one ≡ record { name = part.name; source = part.part.name; inclusion = view inclusion } → more ≡ named ++ one ∷ [] → m ≡ n + 1
      → map part_meant more ≡ included (useds_meant (take m parts)) (map view (take m shared))
  included_turn more one part inclusion m inside within is at meant longer next =
      let first : take (n + 1) parts ≡ take n parts ++ part ∷ [] = take_more parts n part inside ∙ ap (λ (x : UsedSchema). take n parts ++ x ∷ []) (sym is) in
      let second : take (n + 1) shared ≡ take n shared ++ inclusion ∷ [] = take_more shared n inclusion within ∙ ap (λ (x : X). take n shared ++ x ∷ []) (sym at) in
      let long : length (useds_meant (take n parts)) ≡ length (map view (take n shared)) =
      length-map (take n parts) used_meant ∙ length-take n parts ∙ (let both : min n (length parts) ≡ min n (length shared) = omega arith in both) ∙ sym (length-take n shared) ∙ sym (length-map (take n shared) view) in
      ap (map part_meant) longer ∙ map-append part_meant named (one ∷ [])
      ∙ (λ i. so_far i ++ meant i ∷ [])
      ∙ sym (included_more (useds_meant (take n parts)) (map view (take n shared)) (used_meant part) (view inclusion) long)
      ∙ (λ i. included (sym (map-append used_meant (take n parts) (part ∷ [])) i) (sym (map-append view (take n shared) (inclusion ∷ [])) i))
      ∙ (λ i. included (useds_meant (sym first i)) (map view (sym second i)))
      ∙ ap (λ (k : ℕ). included (useds_meant (take k parts)) (map view (take k shared))) (sym next)

  pub included_end : n ≡ min (length parts) (length shared) → map part_meant named ≡ included (useds_meant parts) (map view shared)
  included_end is = so_far ∙ (λ i. included (seen used_meant parts n i) (seen view shared n i)) ∙ included_all n (useds_meant parts) (map view shared) counted
    where
      seen : {A B : Type 0} (f : A → B) (xs : List A) (k : ℕ) → map f (take k xs) ≡ take k (map f xs)
      seen f xs zero = refl
      seen f [] (suc k) = refl
      seen f (x ∷ xs) (suc k) = ap (λ l. f x ∷ l) (seen f xs k)

      counted : n ≡ min (length (useds_meant parts)) (length (map view shared))
      counted = is ∙ (λ i. min (sym (length-map parts used_meant) i) (sym (length-map shared view) i))
