use Rattle.std.proofs.Common.{arith, ◌<◌, ◌^◌, length}
use Rattle.cq_theory.proofs.MadeSchemas.{attributes-whole}
use Rattle.cq_theory.proofs.schema.complete_attributes.Goals as goal

pub invariant_of-schema : goal.invariant_of-schema
invariant_of-schema c =
    let few : length c.args.parts.now < 2 ^ 32 = omega (arith, c.requires.parts) in
    let whole = attributes-whole _ c.args.schema.now c.schema.view_is c.schema.invariant.0 c.args.first c.args.parts.now _ c.from_vec.result c.in_ok-table.table
    c.requires.started few c.in_ok-table.ensures.accepted c.from_vec.ensures c.in_ok-table.ensures.made.1 c.in_ok-table.ensures.made.0 in
    (whole.0, c.schema.invariant.1, c.schema.invariant.2, whole.1)
