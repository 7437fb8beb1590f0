-- What a declaration poses, and what the checks of names and parts have in common.
use Rattle.std.specs.Prelude.{ℕ, List, [], ◌∷◌, Option, Some, None, Ok, Err, if◌then◌else◌, slice_index_or, option_and_then}
use Rattle.cq_base.specs.declared.name.Name.{Name}
use Rattle.cq_base.specs.declared.place.Place.{Place}
use Rattle.cq_base.specs.Names.{same_name}
use Rattle.cq_syntax.specs.declared.part.Spot.{Spot}
use Rattle.cq_theory.specs.declared.refusal.TheoryRefusal.{TheoryRefusal}
use Rattle.cq_theory.specs.declared.refusal.TheoryRefusal.TheVariants as refusal
use Rattle.cq_theory.specs.declared.refusal.ArrowRefusal.{ArrowRefusal}
use Rattle.cq_theory.specs.declared.refusal.ArrowRefusal.TheVariants as arrow
use Rattle.cq_theory.specs.declared.presentation.Presentation.{Presentation}
use Rattle.cq_theory.specs.SchemaData.{SchemaData}
use Rattle.cq_theory.specs.TypesideData.{TypesideData}
use Rattle.cq_theory.specs.Tables.{Tables}
use Rattle.cq_instance.specs.declared.transform.Image.{Image}
use Rattle.cq_mapping.specs.MappingData.{MappingData}
use Rattle.cq_query.specs.QueryData.{QueryData}
use Rattle.cq_environment.specs.declared.reason.Reason.{Reason}
use Rattle.cq_environment.specs.declared.reason.Reason.TheVariants.{Duplicate, Unknown, WrongCount, WrongSort, Reserved, TooLarge, Missing}
use Rattle.cq_program.specs.Movements.{Move}
use Rattle.cq_environment.specs.Meanings.{Checked, ColimitMeant, Ends, SchemaMeant, and_then}

-- the place of part n of a declaration that stands at `place`
abbrev pub place_of : Place → List Place → ℕ → Place
place_of place places n = slice_index_or places n place

-- The rule that a part breaks, at its place. Want of memory is no rule.
abbrev pub part_breach : Place → List Place → TheoryRefusal → Option (Place × Reason)
part_breach place places (refusal.Duplicate n) = Some (place_of place places n, Duplicate)
part_breach place places (refusal.Unknown n) = Some (place_of place places n, Unknown)
part_breach place places (refusal.WrongCount n) = Some (place_of place places n, WrongCount)
part_breach place places (refusal.WrongSort n) = Some (place_of place places n, WrongSort)
part_breach place places (refusal.Reserved n) = Some (place_of place places n, Reserved)
part_breach place places (refusal.TooLarge n) = Some (place_of place places n, TooLarge)
part_breach place places refusal.Memory = None

-- the same of a mapping or a query, whose missing parts are told at its declaration
abbrev pub arrow_breach : Place → List Place → ArrowRefusal → Option (Place × Reason)
arrow_breach place places (arrow.Duplicate n) = Some (place_of place places n, Duplicate)
arrow_breach place places (arrow.Unknown n) = Some (place_of place places n, Unknown)
arrow_breach place places (arrow.WrongCount n) = Some (place_of place places n, WrongCount)
arrow_breach place places (arrow.WrongSort n) = Some (place_of place places n, WrongSort)
arrow_breach place places (arrow.Reserved n) = Some (place_of place places n, Reserved)
arrow_breach place places (arrow.TooLarge n) = Some (place_of place places n, TooLarge)
arrow_breach place places (arrow.Missing name) = Some (place, Missing name)
arrow_breach place places arrow.Memory = None

abbrev pub broken_or : {A : Type 0} → A → Option (Place × Reason) → Checked A
broken_or made None = Ok made
broken_or made (Some broken) = Err broken

-- what the parts of a declaration give, or the breach of their first fault
abbrev pub of_parts : {A R : Type 0} → (R → Option (Place × Reason)) → Option R → A → Checked A
of_parts breach fault made = broken_or made (option_and_then breach fault)

-- What a declaration poses whose names and parts break no rule: a theory; a mapping or a query between schemas of printed names, whose
-- duties are to be derived; the composite of two queries, and the query of a mapping; the identity of a schema; a presentation over a
-- schema, whose model is to be made; a presentation that is made of others, to which a limit applies; a colimit of schemas, and the
-- inclusion of one of its parts; tables that are to be pulled back along a mapping, whose source has the printed name; tables to which a
-- query is to be answered, whose target has it; the images of a transform between two instances, which are to keep the equations of the
-- first; or a transform that an operation moves, or a unit or a counit.
pub data Posed : Type 0 where
  a_typeside : TypesideData → Posed
  a_schema : SchemaMeant → Posed
  a_mapping : Name → Name → MappingData → Posed
  an_identity : Name → SchemaData → Posed
  a_colimit : ColimitMeant → Posed
  an_inclusion : Name → Name → MappingData → Posed
  a_query : Name → Name → QueryData → Posed
  a_composite : Name → Name → QueryData → QueryData → Posed
  a_mapping_query : Name → Name → MappingData → Posed
  a_presentation : Name → SchemaData → Presentation → Posed
  a_made : Name → SchemaData → Presentation → Posed
  a_delta : Name → MappingData → Tables → Posed
  an_eval : Name → QueryData → Tables → Posed
  a_transform : Ends → List Image → Posed
  a_move : Move → Posed

-- what used names stand for, in order, each with what is kept of the name
abbrev pub all_used : {K A : Type 0} → (Spot → K) → (Spot → Checked A) → List Spot → Checked (List (K × A))
all_used key find [] = Ok []
all_used key find (spot ∷ spots) =
    and_then (find spot) (λ a.
    and_then (all_used key find spots) (λ rest.
    Ok ((key spot, a) ∷ rest)))

-- the place of the first of them that is over something of another name
abbrev pub first_other : {K A : Type 0} → (K → Place) → (A → Name) → Name → List (K × A) → Option Place
first_other at over n [] = None
first_other at over n (one ∷ rest) = if same_name n (over one.1) then first_other at over n rest else Some (at one.0)
