use Rattle.std.proofs.Common.{Some, ◌≡◌, sym, ◌∙◌}
use Rattle.std.specs.Prelude.{unwrap_or}
use Rattle.cq_instance.proofs.OnWay.{entity_ground}
use Rattle.cq_instance.specs.InstanceData.{name_at}
use Rattle.cq_theory.specs.Sorts.{entity_of}
use Rattle.cq_witness.proofs.Meant.{entity_within, no_entity}
use Rattle.cq_witness.proofs.sides.row_name.Goals as goal

pub row_of-row-requires : goal.row_of-row-requires
row_of-row-requires c =
    let i = c.args.instance.now in
    entity_ground i.schema i.presentation c.args.term.now c.in-Some.entity (sym c.in-Some.ensures)

pub name_of-requires : goal.name_of-requires
name_of-requires c =
    let i = c.args.instance.now in
    let within = c.row_of-row.ensures.within c.in-Some.entity (sym c.in-Some.ensures) in
    record { entity = entity_within i c.in-Some.entity c.row_of-row.result c.is_instance.ensures within; row = within }

pub returns-in_default : goal.returns-in_default
returns-in_default c = no_entity c.args.instance.now c.args.term.now c.in_default.ensures

pub returns : goal.returns
returns c =
    let i = c.args.instance.now in
    let e : entity_of i.schema i.presentation.generators c.args.term.now ≡ Some c.in-Some.entity = sym c.in-Some.ensures in (
      entity_ground i.schema i.presentation c.args.term.now c.in-Some.entity e,
      c.name_of.ensures ∙ (λ k. name_at i.names (unwrap_or (sym e k) 0) (c.row_of-row.ensures.row k)),
    )
