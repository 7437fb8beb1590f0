-- What a program means, and the first rule that it breaks.
use Rattle.std.specs.Prelude.{◌≡◌, ◌⊎◌, true, false, ℕ, ◌≤◌, List, [], ◌∷◌, ◌++◌, Option, Some, None, Ok, Err, All}
use Rattle.std.specs.Prelude.{slice_get}
use Rattle.std.specs.List.{filter_map}
use Rattle.cq_base.specs.declared.name.Name.{Name}
use Rattle.cq_base.specs.declared.place.Place.{Place}
use Rattle.cq_syntax.specs.declared.program.Decl.{Decl}
use Rattle.cq_syntax.specs.declared.program.Program.{Program}
use Rattle.cq_theory.specs.declared.presentation.Presentation.{Presentation}
use Rattle.cq_theory.specs.declared.presentation.Equation.{Equation}
use Rattle.cq_theory.specs.declared.constant.Con.{Con}
use Rattle.cq_theory.specs.SchemaData.{SchemaData}
use Rattle.cq_theory.specs.Schema.{IsSchema}
use Rattle.cq_theory.specs.Presentation.{IsPresentation, is_oversized as is_too_large}
use Rattle.cq_theory.specs.Closing.{Closes, IsInconsistent, IsInconsistentAt, IsWide}
use Rattle.cq_theory.specs.Tables.{Tables}
use Rattle.cq_theory.specs.ValueText.{value_text}
use Rattle.cq_theory.specs.declared.value.Value.TheVariants.{Const}
use Rattle.cq_instance.specs.InstanceData.{InstanceData}
use Rattle.cq_instance.specs.Listed.{IsListed}
use Rattle.cq_instance.specs.declared.transform.Image.{Image}
use Rattle.cq_instance.specs.declared.transform.Transform.{Transform}
use Rattle.cq_environment.specs.declared.reason.Reason.{Reason}
use Rattle.cq_environment.specs.declared.reason.Reason.TheVariants.{NotPreserved, DutyDepth, DutyRows, Broken, Depth, TooManyRows}
use Rattle.cq_environment.specs.declared.reason.Reason.TheVariants.{Inconsistent}
use Rattle.cq_environment.specs.declared.reason.Reason.TheVariants.{Oversized, TooManyAnswers}
use Rattle.cq_mapping.specs.MappingData.{MappingData}
use Rattle.cq_mapping.specs.Mapping.{identity_of}
use Rattle.cq_mapping.specs.declared.duties.Duty.{Duty}
use Rattle.cq_mapping.specs.Duties.{Preserves, duties_of, one_generator}
use Rattle.cq_mapping.specs.Moved.{delta_tables}
use Rattle.cq_instance.specs.Given.{given, is_oversized}
use Rattle.cq_query.specs.QueryData.{QueryData}
use Rattle.cq_query.specs.Duties.{Sound, all_duties, frozen}
use Rattle.cq_query.specs.Answers.{IsEval}
use Rattle.cq_compose.specs.Composite.{composite, is_large}
use Rattle.cq_compose.specs.MappingQuery.{mapping_query}
use Rattle.cq_eval.specs.Refused.{NoneHasMany, IsFirstMany, IsTooLarge}
use Rattle.cq_transform.specs.Composing.{has_long}
use Rattle.cq_transform.specs.Refusals.{IsBrokenAt}
use Rattle.cq_check.specs.Answers.{IsDerivedWithin, IsNotPreserved, IsTooDeepDuty, IsTooWideDuty, IsUnsoundAt, IsTooDeepAt, IsTooWideAt}
use Rattle.cq_program.specs.MovedImages.{AreImages, AreLong}
use Rattle.cq_environment.specs.Meanings.{Binding, binding, Meant, typeside, schema, colimit, mapping, query, instance, transform, Ends}
use Rattle.cq_environment.specs.Meanings.{Environment}
use Rattle.cq_program.specs.Posed.{Posed, a_typeside, a_schema, a_mapping, an_identity, a_colimit, an_inclusion, a_query, a_presentation}
use Rattle.cq_program.specs.Posed.{a_composite, a_mapping_query, a_made, a_delta, an_eval, a_transform, a_move}
use Rattle.cq_program.specs.Checks.{Stated, stated_by}
use Rattle.cq_program.specs.Posing.{IsTransformOf}
use Rattle.cq_environment.specs.declared.refusal.ReadCause.{ReadCause}
use Rattle.cq_program.specs.Folders.{Told, Reads, TellsFault, LacksFile}

-- the listed model of a presentation over a schema, both well sorted, which makes no two constants equal
pub record IsModelOf (S : SchemaData) (P : Presentation) (i : InstanceData) : Type 0 where
  pub schema : IsSchema S
  pub presentation : IsPresentation S P
  pub over : i.schema ≡ S
  pub presents : i.presentation ≡ P
  pub listed : IsListed i
  pub consistent : IsInconsistent S P → ⊥

-- The tables of a query's answers, over a well-sorted target, within the limits on answers and on tables.
pub record IsEvalWithin (Q : QueryData) (M N : Tables) : Type 0 where
  pub target : IsSchema Q.target
  pub eval : IsEval Q M N
  pub few : NoneHasMany Q M
  pub fits : is_oversized N ≡ false

-- What is posed is this: a theory itself, a mapping or a query where each of its duties is derivable, a presentation by its listed model.
-- The duties of an identity and of an inclusion are equations of the target, and so derivable; those of a composite and of a mapping's
-- query follow from the duties of what they are made of. A composite keeps the limits on queries. Tables that are pulled back or that are
-- answers stand with their canonical presentation, within the limits on tables; a presentation that is made of others stands by its listed
-- model, within the limit on presentations. Images stand by the one homomorphism that agrees with them, and a transform that an operation
-- moves, a unit and a counit by that of their images, within the limit on images.
abbrev pub Stands : Posed → Meant → Type 0
Stands (a_typeside T) m = m ≡ typeside T
Stands (a_schema S) m = m ≡ schema S
Stands (a_mapping n t F) m = (m ≡ mapping n t F) × Preserves F
Stands (an_identity n S) m = m ≡ mapping n n (identity_of S)
Stands (a_colimit c) m = m ≡ colimit c
Stands (an_inclusion n t F) m = m ≡ mapping n t F
Stands (a_query n t Q) m = (m ≡ query n t Q) × Sound Q
Stands (a_composite n t Q W) m = (m ≡ query n t (composite Q W)) × (is_large (composite Q W) ≡ false)
Stands (a_mapping_query n t F) m = m ≡ query n t (mapping_query F)
Stands (a_presentation n S P) m = (i : InstanceData) × (m ≡ instance n i) × IsModelOf S P i
Stands (a_made n S P) m = (i : InstanceData) × (m ≡ instance n i) × IsModelOf S P i × (is_too_large P ≡ false)
Stands (a_delta n F M) m = (m ≡ instance n (given F.source (delta_tables F M))) × (is_oversized (delta_tables F M) ≡ false)
Stands (an_eval n Q M) m = (N : Tables) × (m ≡ instance n (given Q.target N)) × IsEvalWithin Q M N
Stands (a_transform e images) m = (t : Transform) × (m ≡ transform e t) × IsTransformOf e images t
Stands (a_move v) m =
    (t : Transform) × (m ≡ transform v.ends t) × IsTransformOf v.ends t.images t × AreImages v.movement v.ends t.images
    × (has_long t.images ≡ false)

-- A presentation makes two constants equal: the least that equals a greater one and the least such greater one, whose texts the reason
-- tells.
pub record TellsClash (S : SchemaData) (P : Presentation) (reason : Reason) : Type 0 where
  pub least : Con
  pub greater : Con
  pub equal : IsInconsistentAt S P least greater
  pub told : reason ≡ Inconsistent (value_text S.typeside (Const least)) (value_text S.typeside (Const greater))

-- the reason tells the first duty of the mapping, by its number from 1, that isn't derivable
abbrev pub TellsUnkept : MappingData → Reason → Type 0
TellsUnkept F reason = (n : ℕ) × (reason ≡ NotPreserved n) × IsNotPreserved F n

-- the same of a query
abbrev pub TellsUnsound : QueryData → Reason → Type 0
TellsUnsound Q reason = (n : ℕ) × (reason ≡ NotPreserved n) × IsUnsoundAt Q n

-- The reason tells that the limit on presentations is passed, or a clash within it.
abbrev pub TellsMade : SchemaData → Presentation → Reason → Type 0
TellsMade S P reason = ((reason ≡ Oversized) × (is_too_large P ≡ true)) ⊎ ((is_too_large P ≡ false) × TellsClash S P reason)

-- the reason tells the first entity that has over 1,000,000 answers
pub record TellsMany (Q : QueryData) (M : Tables) (reason : Reason) : Type 0 where
  pub entity : ℕ
  pub name : Name
  pub there : slice_get Q.target.entities entity ≡ Some name
  pub told : reason ≡ TooManyAnswers name
  pub first : IsFirstMany Q M entity

-- The reason tells that an entity has too many answers, or that none has and the tables of answers pass their limit.
abbrev pub TellsAnswers : QueryData → Tables → Reason → Type 0
TellsAnswers Q M reason = TellsMany Q M reason ⊎ ((reason ≡ Oversized) × IsTooLarge Q M)

-- the reason tells the first equation, by its number from 1, whose image doesn't hold
abbrev pub TellsBroken : Ends → List Image → Reason → Type 0
TellsBroken e images reason = (n : ℕ) × (reason ≡ Broken n) × IsBrokenAt e.start.instance e.finish.instance images n

-- what is posed breaks the rule that each duty is derivable, that no two constants are equal, that tables, presentations, composites and
-- images keep their limits, or that equations hold
abbrev pub Fails : Posed → Reason → Type 0
Fails (a_typeside T) reason = ⊥
Fails (a_schema S) reason = ⊥
Fails (a_mapping n t F) reason = TellsUnkept F reason
Fails (an_identity n S) reason = ⊥
Fails (a_colimit c) reason = ⊥
Fails (an_inclusion n t F) reason = ⊥
Fails (a_query n t Q) reason = TellsUnsound Q reason
Fails (a_composite n t Q W) reason = (reason ≡ Oversized) × (is_large (composite Q W) ≡ true)
Fails (a_mapping_query n t F) reason = ⊥
Fails (a_presentation n S P) reason = TellsClash S P reason
Fails (a_made n S P) reason = TellsMade S P reason
Fails (a_delta n F M) reason = (reason ≡ Oversized) × (is_oversized (delta_tables F M) ≡ true)
Fails (an_eval n Q M) reason = TellsAnswers Q M reason
Fails (a_transform e images) reason = TellsBroken e images reason
Fails (a_move v) reason = (reason ≡ Oversized) × AreLong (AreImages v.movement v.ends)

-- the two limits of a duty and of a model: the depth, and the number of rows
abbrev pub IsLimit : Reason → Type 0
IsLimit (DutyDepth n) = Unit {0}
IsLimit (DutyRows n) = Unit {0}
IsLimit Depth = Unit {0}
IsLimit TooManyRows = Unit {0}
IsLimit _ = ⊥

-- Which limit keeps the duty with number n from being decided within a depth, where those before it are derivable. The depth gives the
-- leave where the duty isn't derived within it and its presentation closes at no depth up to it; the limit on rows where at some depth up
-- to it there are more classes than rows are allowed, and the duty isn't derived within any lesser depth.
abbrev pub ExceedsAtDuty : ℕ → MappingData → Reason → ℕ → Type 0
ExceedsAtDuty depth F reason n = ((reason ≡ DutyDepth n) × IsTooDeepDuty F depth n) ⊎ ((reason ≡ DutyRows n) × IsTooWideDuty F depth n)

abbrev pub ExceedsAtQueryDuty : ℕ → QueryData → Reason → ℕ → Type 0
ExceedsAtQueryDuty depth Q reason n =
    ((reason ≡ DutyDepth n) × IsTooDeepAt Q depth n) ⊎ ((reason ≡ DutyRows n) × IsTooWideAt Q depth n)

-- Which limit keeps the model of a presentation from being made within a depth. The depth gives the leave where the presentation closes at
-- no depth up to the given one; the limit on rows where at some depth up to it there are more classes than rows are allowed.
abbrev pub ExceedsAtModel : ℕ → SchemaData → Presentation → Reason → Type 0
ExceedsAtModel depth S P reason =
    ((reason ≡ Depth) × ((j : ℕ) → j ≤ depth → Closes S P j → ⊥))
    ⊎ ((reason ≡ TooManyRows) × (j : ℕ) × (j ≤ depth) × IsWide S P j)

-- which limit is passed by what is posed; no rule is broken then
abbrev pub Exceeds : ℕ → Posed → Reason → Type 0
Exceeds depth (a_typeside T) reason = ⊥
Exceeds depth (a_schema S) reason = ⊥
Exceeds depth (a_mapping n t F) reason = (duty : ℕ) × ExceedsAtDuty depth F reason duty
Exceeds depth (an_identity n S) reason = ⊥
Exceeds depth (a_colimit c) reason = ⊥
Exceeds depth (an_inclusion n t F) reason = ⊥
Exceeds depth (a_query n t Q) reason = (duty : ℕ) × ExceedsAtQueryDuty depth Q reason duty
Exceeds depth (a_composite n t Q W) reason = ⊥
Exceeds depth (a_mapping_query n t F) reason = ⊥
Exceeds depth (a_presentation n S P) reason = ExceedsAtModel depth S P reason
Exceeds depth (a_made n S P) reason = (is_too_large P ≡ false) × ExceedsAtModel depth S P reason
Exceeds depth (a_delta n F M) reason = ⊥
Exceeds depth (an_eval n Q M) reason = ⊥
Exceeds depth (a_transform e images) reason = ⊥
Exceeds depth (a_move v) reason = ⊥

-- the declaration meets its rules over what a folder tells, and its name stands for m
pub record Declares (told : Told) (env : Environment) (d : Decl) (m : Meant) : Type 0 where
  pub stated : Stated
  pub checked : stated_by env d ≡ Ok stated
  pub posed : Posed
  pub reads : Reads told stated posed
  pub stands : Stands posed m

-- The first rule that the declaration breaks: one of names and parts, one of the files that it reads, or that of duties or of constants; or
-- the limit that it passes.
pub data Breach (depth : ℕ) (told : Told) (env : Environment) (d : Decl) (place : Place) (reason : Reason) : Type 0 where
  by_rule : stated_by env d ≡ Err (place, reason) → Breach depth told env d place reason
  by_fault : (stated : Stated) → stated_by env d ≡ Ok stated → place ≡ d.place → TellsFault told stated reason
      → Breach depth told env d place reason
  by_failure : (stated : Stated) (posed : Posed) → stated_by env d ≡ Ok stated → Reads told stated posed → place ≡ d.place
      → Fails posed reason
      → Breach depth told env d place reason
  by_limit : (stated : Stated) (posed : Posed) → stated_by env d ≡ Ok stated → Reads told stated posed → place ≡ d.place
      → Exceeds depth posed reason
      → Breach depth told env d place reason

-- the declarations, in order, meet their rules, and lead from one environment to another
abbrev pub Follow : Told → Environment → List Decl → Environment → Type 0
Follow told env [] after = after ≡ env
Follow told env (d ∷ ds) after = (m : Meant) × Declares told env d m × Follow told (env ++ binding d m ∷ []) ds after

-- an instance, with its name and the printed name of its schema
pub record Listing : Type 0 where
  pub name : Name
  pub schema : Name
  pub instance : InstanceData

abbrev pub listing_named : Name → Meant → Option Listing
listing_named name (typeside T) = None
listing_named name (schema S) = None
listing_named name (colimit c) = None
listing_named name (mapping n t F) = None
listing_named name (query n t Q) = None
listing_named name (instance n i) = Some (record { name = name; schema = n; instance = i })
listing_named name (transform e t) = None

abbrev pub listing_of : Binding → Option Listing
listing_of entry = listing_named entry.0 entry.1

-- The declarations, in order, meet their rules, and L lists the instances among them.
pub record Means (told : Told) (program : Program) (L : List Listing) : Type 0 where
  pub env : Environment
  pub follow : Follow told [] program.decls env
  pub listed : L ≡ filter_map listing_of env

-- The declarations before one meet their rules, and this is the first rule that this one breaks.
pub record Breaks (depth : ℕ) (told : Told) (program : Program) (place : Place) (reason : Reason) : Type 0 where
  pub before : List Decl
  pub broken : Decl
  pub after : List Decl
  pub split : program.decls ≡ before ++ broken ∷ after
  pub env : Environment
  pub follow : Follow told [] before env
  pub breach : Breach depth told env broken place reason

-- The declarations before one meet their rules, and a file that this one reads was not read, for this cause.
pub record Lacks (told : Told) (program : Program) (file : List ℕ) (cause : ReadCause) : Type 0 where
  pub before : List Decl
  pub reading : Decl
  pub after : List Decl
  pub split : program.decls ≡ before ++ reading ∷ after
  pub env : Environment
  pub follow : Follow told [] before env
  pub stated : Stated
  pub checked : stated_by env reading ≡ Ok stated
  pub lacks : LacksFile told stated file cause

-- An equation is derived within some depth up to the given one, and at no depth up to that one there are more classes than rows are
-- allowed.
abbrev pub IsDecidedOver : ℕ → SchemaData → Presentation → Equation → Type 0
IsDecidedOver depth S P e = (j : ℕ) × (j ≤ depth) × IsDerivedWithin S P e j × ((i : ℕ) → i ≤ j → IsWide S P i → ⊥)

-- the same of a duty of a mapping, and of one of a query, which goes with its entity
abbrev pub IsDecided : ℕ → SchemaData → Duty → Type 0
IsDecided depth S duty = IsDecidedOver depth S (one_generator duty.schema_entity) duty.equation

abbrev pub IsQueryDutyDecided : ℕ → QueryData → ℕ × Equation → Type 0
IsQueryDutyDecided depth Q duty = IsDecidedOver depth Q.source (frozen Q duty.0) duty.1

-- a presentation closes at some depth up to the given one, and has at no depth up to it more classes than rows are allowed
abbrev pub ClosesWithin : ℕ → SchemaData → Presentation → Type 0
ClosesWithin depth S P = ((j : ℕ) × (j ≤ depth) × Closes S P j) × ((j : ℕ) → j ≤ depth → IsWide S P j → ⊥)

-- What is posed keeps the limits at a depth: each duty of a mapping or a query is decided so, and a presentation, given or made, closes so.
abbrev pub KeepsLimits : ℕ → Posed → Type 0
KeepsLimits depth (a_typeside T) = Unit {0}
KeepsLimits depth (a_schema S) = Unit {0}
KeepsLimits depth (a_mapping n t F) = All (IsDecided depth F.target) (duties_of F)
KeepsLimits depth (an_identity n S) = Unit {0}
KeepsLimits depth (a_colimit c) = Unit {0}
KeepsLimits depth (an_inclusion n t F) = Unit {0}
KeepsLimits depth (a_query n t Q) = All (IsQueryDutyDecided depth Q) (all_duties Q)
KeepsLimits depth (a_composite n t Q W) = Unit {0}
KeepsLimits depth (a_mapping_query n t F) = Unit {0}
KeepsLimits depth (a_presentation n S P) = ClosesWithin depth S P
KeepsLimits depth (a_made n S P) = ClosesWithin depth S P
KeepsLimits depth (a_delta n F M) = Unit {0}
KeepsLimits depth (an_eval n Q M) = Unit {0}
KeepsLimits depth (a_transform e images) = Unit {0}
KeepsLimits depth (a_move v) = Unit {0}

-- the same of each declaration of a program, after those before it
abbrev pub IsWithinLimits : ℕ → Told → Program → Type 0
IsWithinLimits depth told program =
    (before : List Decl) (d : Decl) (after : List Decl) (env : Environment) (stated : Stated) (posed : Posed)
    → program.decls ≡ before ++ d ∷ after → Follow told [] before env → stated_by env d ≡ Ok stated → Reads told stated posed
    → KeepsLimits depth posed
