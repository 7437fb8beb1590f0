use Rattle.std.proofs.Common.{arith, ap, length, ◌∙◌}
use Rattle.cq_theory.proofs.MadeSchemas.{schema_fault-rest, schema_fault-refused}
use Rattle.cq_theory.proofs.schema.Schema.new.Goals as goal

pub complete-requires-clause-parts : goal.complete-requires-clause-parts
complete-requires-clause-parts c =
    omega (arith, c.requires, c.len-first_key.ensures, c.len.ensures, ap length c.as_slice-2.ensures, ap length c.as_slice-3.ensures, ap length c.as_slice-4.ensures)

pub returns-in-Ok-clause-accepted : goal.returns-in-Ok-clause-accepted
returns-in-Ok-clause-accepted c =
    schema_fault-rest c.args.typeside.value c.args.parts c.in_ok-schema.schema c.as_slice.result.now c.as_slice-3.result.now c.as_slice-2.result.now c.as_slice-4.result.now c.len-first_key.result c.len.result
    c.as_slice.ensures c.as_slice-2.ensures c.as_slice-3.ensures c.as_slice-4.ensures c.len-first_key.ensures c.len.ensures c.in_ok-schema.ensures.accepted c.in_ok-schema.ensures.made
    ∙ c.in-Ok.ensures.accepted

pub returns-clause-refused : goal.returns-clause-refused
returns-clause-refused c =
    schema_fault-refused c.args.typeside.value c.args.parts c.in_ok-schema.schema c.as_slice.result.now c.as_slice-3.result.now c.as_slice-2.result.now c.as_slice-4.result.now c.len-first_key.result c.len.result
    c.as_slice.ensures c.as_slice-2.ensures c.as_slice-3.ensures c.as_slice-4.ensures c.len-first_key.ensures c.len.ensures c.in_ok-schema.ensures.accepted c.in_ok-schema.ensures.made
    c.in-Err.refusal c.in-Err.ensures.refused
