use Rattle.std.proofs.Common.{length, ap, subst, ◌∙◌, arith}
use Rattle.cq_theory.specs.Schema.{IsSchema}
use Rattle.cq_query.proofs.NewQueries.{new_entities, new_blocks, new_clauses, new_fault, new_refused, new_made, new_is, beginnings_at}
use Rattle.cq_query.proofs.query.Query.new.Goals as goal

pub make_entities-requires : goal.make_entities-requires
make_entities-requires c = omega (arith, c.requires.parts, ap length c.as_slice.ensures)

pub make_blocks-requires : goal.make_blocks-requires
make_blocks-requires c = record {
  parts = record {
    numbers = omega (arith, c.requires.parts, c.len-first.ensures, ap length c.as_slice-3.ensures, ap length c.as_slice-4.ensures);
    entities = new_entities c.args.source.value c.args.target.value c.deref-4.result.now c.deref-5.result.now c.deref-3.result.now c.args.parts
        c.as_slice.result.now c.as_slice-3.result.now c.as_slice-4.result.now c.in_ok-blocks.blocks.items c.as_slice-2.result.now c.len-first.result
        c.deref-4.ensures c.deref-5.ensures c.deref-3.ensures c.as_slice.ensures c.as_slice-3.ensures c.as_slice-4.ensures c.len-first.ensures
        c.in_ok-blocks.ensures.accepted c.in_ok-blocks.ensures.made c.as_slice-2.ensures.value
        (subst IsSchema c.deref-2.ensures c.is_well_sorted-2.ensures);
    vars = new_blocks c.args.source.value c.args.target.value c.deref-4.result.now c.deref-5.result.now c.deref-3.result.now c.args.parts
        c.as_slice.result.now c.as_slice-3.result.now c.as_slice-4.result.now c.in_ok-blocks.blocks.items c.as_slice-2.result.now c.len-first.result
        c.deref-4.ensures c.deref-5.ensures c.deref-3.ensures c.as_slice.ensures c.as_slice-3.ensures c.as_slice-4.ensures c.len-first.ensures
        c.in_ok-blocks.ensures.accepted c.in_ok-blocks.ensures.made c.as_slice-2.ensures.value
        c.requires.vars;
    clauses = new_clauses c.args.source.value c.args.target.value c.deref-4.result.now c.deref-5.result.now c.deref-3.result.now c.args.parts
        c.as_slice.result.now c.as_slice-3.result.now c.as_slice-4.result.now c.in_ok-blocks.blocks.items c.as_slice-2.result.now c.len-first.result
        c.deref-4.ensures c.deref-5.ensures c.deref-3.ensures c.as_slice.ensures c.as_slice-3.ensures c.as_slice-4.ensures c.len-first.ensures
        c.in_ok-blocks.ensures.accepted c.in_ok-blocks.ensures.made c.as_slice-2.ensures.value
        c.requires.clauses;
  };
}

pub invariant_of-result : goal.invariant_of-result
invariant_of-result c = (
  new_is c.args.source.value c.args.target.value c.deref-4.result.now c.deref-5.result.now c.deref-3.result.now c.args.parts
      c.as_slice.result.now c.as_slice-3.result.now c.as_slice-4.result.now c.in_ok-blocks.blocks.items c.as_slice-2.result.now c.len-first.result
      c.deref-4.ensures c.deref-5.ensures c.deref-3.ensures c.as_slice.ensures c.as_slice-3.ensures c.as_slice-4.ensures c.len-first.ensures
      c.in_ok-blocks.ensures.accepted c.in_ok-blocks.ensures.made c.as_slice-2.ensures.value
      c.from_vec.result c.in-Ok.blocks.items c.from_vec.ensures c.in-Ok.ensures.made
      (subst IsSchema c.deref.ensures c.is_well_sorted.ensures) (subst IsSchema c.deref-2.ensures c.is_well_sorted-2.ensures) c.requires.typeside c.in-Ok.ensures.accepted,
  beginnings_at c.args.target.value c.deref-5.result.now c.in-Ok.beginnings c.deref-5.ensures c.in-Ok.ensures.beginnings,
)

pub returns-in-Ok-clause-accepted : goal.returns-in-Ok-clause-accepted
returns-in-Ok-clause-accepted c =
    new_fault c.args.source.value c.args.target.value c.deref-4.result.now c.deref-5.result.now c.deref-3.result.now c.args.parts
    c.as_slice.result.now c.as_slice-3.result.now c.as_slice-4.result.now c.in_ok-blocks.blocks.items c.as_slice-2.result.now c.len-first.result
    c.deref-4.ensures c.deref-5.ensures c.deref-3.ensures c.as_slice.ensures c.as_slice-3.ensures c.as_slice-4.ensures c.len-first.ensures
    c.in_ok-blocks.ensures.accepted c.in_ok-blocks.ensures.made c.as_slice-2.ensures.value
    ∙ c.in-Ok.ensures.accepted

pub returns-in-Ok-clause-made : goal.returns-in-Ok-clause-made
returns-in-Ok-clause-made c =
    new_made c.args.source.value c.args.target.value c.deref-4.result.now c.deref-5.result.now c.deref-3.result.now c.args.parts
    c.as_slice.result.now c.as_slice-3.result.now c.as_slice-4.result.now c.in_ok-blocks.blocks.items c.as_slice-2.result.now c.len-first.result
    c.deref-4.ensures c.deref-5.ensures c.deref-3.ensures c.as_slice.ensures c.as_slice-3.ensures c.as_slice-4.ensures c.len-first.ensures
    c.in_ok-blocks.ensures.accepted c.in_ok-blocks.ensures.made c.as_slice-2.ensures.value
    c.from_vec.result c.in-Ok.blocks.items c.from_vec.ensures c.in-Ok.ensures.made

pub returns-in-Err-clause-refused : goal.returns-in-Err-clause-refused
returns-in-Err-clause-refused c =
    new_refused c.args.source.value c.args.target.value c.deref-4.result.now c.deref-5.result.now c.deref-3.result.now c.args.parts
    c.as_slice.result.now c.as_slice-3.result.now c.as_slice-4.result.now c.in_ok-blocks.blocks.items c.as_slice-2.result.now c.len-first.result
    c.deref-4.ensures c.deref-5.ensures c.deref-3.ensures c.as_slice.ensures c.as_slice-3.ensures c.as_slice-4.ensures c.len-first.ensures
    c.in_ok-blocks.ensures.accepted c.in_ok-blocks.ensures.made c.as_slice-2.ensures.value
    c.in-Err.refusal c.in-Err.ensures.refused
