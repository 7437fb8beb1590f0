-- What terms mean in an instance has a name or a text.
use Rattle.std.proofs.Common.{ℕ, [], Some, None, true, ◌≡◌, ◌<◌, length, ◌∙◌, arith, inl, inr}
use Rattle.std.specs.Prelude.{slice_index}
use Rattle.std.proofs.lemmas.Bool.{cases_lt}
use Rattle.std.proofs.lemmas.List.{get_or_past}
use Rattle.cq_instance.proofs.OnWay.{ground_entity}
use Rattle.cq_instance.specs.InstanceData.{InstanceData, IsInstance}
use Rattle.cq_text.proofs.Typed.{named_if_typed}
use Rattle.cq_theory.proofs.Typing.{value_typed}
use Rattle.cq_theory.proofs.ResolvedSorts.{map_some}
use Rattle.cq_theory.specs.declared.presentation.Presentation.{Presentation}
use Rattle.cq_theory.specs.declared.presentation.Sort.TheVariants.{Plain}
use Rattle.cq_theory.specs.declared.term.EntTerm.{EntTerm}
use Rattle.cq_theory.specs.declared.term.TypeTerm.{TypeTerm}
use Rattle.cq_theory.specs.declared.term.Term.TheVariants.{Ent, Typ}
use Rattle.cq_theory.specs.Sorts.{IsGround, entity_of, type_of}
use Rattle.cq_theory.specs.Tables.{AtRow, AtValue, count_of, value_of, Holds}
use Rattle.cq_theory.specs.declared.value.Value.{Value}
use Rattle.cq_theory.specs.ValueText.{is_named}

-- an entity that has a row is one of the schema
pub entity_within : (i : InstanceData) (e row : ℕ) → IsInstance i → row < count_of i.tables e → e < length i.schema.entities
entity_within i e row h less = elim (cases_lt e (length i.tables.sheet.counts)) [
  | inl a ↦ omega (arith, a, h.well_formed.entities)
  | inr b ↦ (let none : slice_index i.tables.sheet.counts e ≡ 0 = get_or_past i.tables.sheet.counts e 0 b in absurd (omega (arith, none, less)))
]

pub no_entity : (i : InstanceData) (t : EntTerm) → None ≡ entity_of i.schema i.presentation.generators t → IsGround i.schema i.presentation (Ent t) → ⊥
no_entity i t none ground =
    let sort = ground_entity i.schema i.presentation t ground in
    let clash : None ≡ Some sort.0 = none ∙ sort.1 in
    cc

-- the presentation's equations are of no account for the types of values
pub meant_named : (i : InstanceData) (t : TypeTerm) → IsInstance i → IsGround i.schema i.presentation (Typ t) → is_named i.schema.typeside (value_of i.tables i.assignment t) ≡ true
meant_named i t h ground =
    let P : Presentation = record { generators = i.presentation.generators; equations = [] } in
    let holds : Holds i.schema P i.tables i.assignment = record {
      well_formed = h.well_formed;
      count = h.assigned;
      sorts = h.sorts;
      schema = h.satisfies;
      equations = λ n e at. cc;
    } in
    let type = map_some Plain (type_of i.schema i.presentation.generators t) ground.0 ground.1 in
    named_if_typed i.schema i.tables.algebra.nulls (value_of i.tables i.assignment t) type.0
    (value_typed i.schema P i.tables i.assignment holds t type.0 type.1)

pub same_row : (r s : ℕ) → AtRow r ≡ AtRow s → r ≡ s
same_row r s h = cc

pub same_value : (v w : Value) → AtValue v ≡ AtValue w → v ≡ w
same_value v w h = cc
