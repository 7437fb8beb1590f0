-- What a term means in an instance has a text.
use Rattle.std.proofs.Common.{true, ◌≡◌}
use Rattle.cq_theory.specs.declared.presentation.Sort.TheVariants.{Plain}
use Rattle.cq_theory.specs.declared.term.TypeTerm.{TypeTerm}
use Rattle.cq_theory.specs.declared.term.Term.TheVariants.{Typ}
use Rattle.cq_theory.specs.Sorts.{IsGround, type_of}
use Rattle.cq_theory.specs.Tables.{value_of}
use Rattle.cq_theory.specs.ValueText.{is_named}
use Rattle.cq_theory.proofs.ResolvedSorts.{map_some}
use Rattle.cq_theory.proofs.Typing.{value_typed}
use Rattle.cq_instance.specs.InstanceData.{InstanceData}
use Rattle.cq_proof.specs.Answers.{IsInitial}
use Rattle.cq_text.proofs.Typed.{named_if_typed}

pub meant_is_named : (i : InstanceData) (t : TypeTerm) → IsInitial i → IsGround i.schema i.presentation (Typ t)
    → is_named i.schema.typeside (value_of i.tables i.assignment t) ≡ true
meant_is_named i t initial ground =
    let type = map_some Plain (type_of i.schema i.presentation.generators t) ground.0 ground.1 in
    named_if_typed i.schema i.tables.algebra.nulls (value_of i.tables i.assignment t) type.0
    (value_typed i.schema i.presentation i.tables i.assignment initial.holds t type.0 type.1)
