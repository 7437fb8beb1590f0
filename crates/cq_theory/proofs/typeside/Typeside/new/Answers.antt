use Rattle.std.proofs.Common.{◌∙◌, ap, length, arith}
use Rattle.cq_theory.proofs.MadeTypesides.{typeside_fault-refused, typeside_whole}
use Rattle.cq_theory.proofs.typeside.Typeside.new.Goals as goal

pub invariant_of-result : goal.invariant_of-result
invariant_of-result c =
    typeside_whole c.args.parts c.in_ok-type_table.type_table c.as_slice.result.now c.as_slice-2.result.now c.as_slice-3.result.now _ _
    c.as_slice.ensures c.as_slice-2.ensures c.as_slice-3.ensures c.in_ok-type_table.ensures.ok.0 c.in_ok-type_table.ensures.ok.1 _ c.len.ensures
    c.in_ok-open_type.ensures.ok.0 c.in_ok-open_type.ensures.ok.2 c.in_ok-constant_table.ensures.accepted c.len-2.ensures
    c.in-Ok.ensures.accepted c.requires c.in_ok-constant_table.constant_table c.in-Ok.function_table _ _ _
    c.in_ok-constant_table.ensures.made.0 (c.from_vec.ensures ∙ c.in_ok-constant_table.ensures.made.1) c.in-Ok.ensures.made.0 (c.from_vec-in-Ok.ensures ∙ c.in-Ok.ensures.made.1)
    c.in_ok-open_type.ensures.ok.1

pub returns-in-Err-clause-refused : goal.returns-in-Err-clause-refused
returns-in-Err-clause-refused c =
    typeside_fault-refused c.args.parts c.in_ok-type_table.type_table c.as_slice.result.now c.as_slice-2.result.now c.as_slice-3.result.now _ _
    c.as_slice.ensures c.as_slice-2.ensures c.as_slice-3.ensures c.in_ok-type_table.ensures.ok.0 c.in_ok-type_table.ensures.ok.1 _ c.len.ensures
    c.in_ok-open_type.ensures.ok.0 c.in_ok-open_type.ensures.ok.2 c.in_ok-constant_table.ensures.accepted c.len-2.ensures
    c.in-Err.refusal c.in-Err.ensures.refused

pub add_functions-requires : goal.add_functions-requires
add_functions-requires c = omega (arith, c.requires, c.in_ok-open_type.ensures.ok.2, c.len.ensures, c.len-2.ensures, ap length c.as_slice-3.ensures)
