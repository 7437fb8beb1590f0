use Rattle.std.proofs.lemmas.Grind.{common_steps}
use Rattle.std.proofs.lemmas.List.FromFn.{length-map-range_with_len}
use Rattle.std.proofs.Common.{◌≡◌, ◌⊎◌, Some, length, ap, ◌∙◌, arith, rules}
use Rattle.cq_theory.specs.declared.refusal.TheoryRefusal.TheVariants.{Memory}
use Rattle.cq_blocks.specs.Blocks.{variables_fault}
use Rattle.cq_blocks.proofs.Scoping.{inside, tabled_more, rest_more, refused_either}
use Rattle.cq_blocks.proofs.scopes.check_variables.Goals as goal

pub index_mut-requires : goal.index_mut-requires
index_mut-requires c =
    let within = inside c.args.source.now c.args.entities.now c.args.count c.args.first c.loop-part.number c.loop-part.part-index c.args.parts.now c.part-item.result c.loop-part.tables.items
    c.part-item.is c.loop-part-test.true c.requires.blocks c.requires.entities c.loop-part.invariant.1 c.loop-part.invariant.2 in
    let size : length c.loop-part.tables.items ≡ c.args.count = ap length c.loop-part.invariant.1 ∙ length-map-range_with_len _ 0 c.args.count in
    omega (arith, within, size, c.loop-part.tables.ok.0)

pub returns-in_err-add_variable-clause-refused : goal.returns-in_err-add_variable-clause-refused
returns-in_err-add_variable-clause-refused c =
    let fact : (c.in_err-add_variable.field-0.0 ≡ Memory) ⊎ (variables_fault c.args.source.now c.args.entities.now c.args.first c.args.parts.now ≡ Some c.in_err-add_variable.field-0.0) =
    refused_either c.args.source.now c.args.entities.now c.args.count c.args.first c.loop-part.number c.loop-part.part-index c.args.parts.now c.part-item.result c.loop-part.tables.items
    c.part-item.is c.loop-part-test.true c.requires.blocks c.requires.entities c.loop-part.invariant.1 c.loop-part.invariant.2 c.index_mut.result.now c.index_mut.ensures.value c.in_err-add_variable.field-0.0 c.in_err-add_variable.ensures.refused in
    first_of (search rules, grind (arith, common_steps))

pub loop-part-preserved : goal.loop-part-preserved
loop-part-preserved c = (
  omega (arith, c.loop-part.invariant.0),
  tabled_more c.args.source.now c.args.entities.now c.args.count c.args.first c.loop-part.number c.loop-part.part-index c.args.parts.now c.part-item.result c.loop-part.tables.items
      c.part-item.is c.loop-part-test.true c.requires.blocks c.requires.entities c.loop-part.invariant.1 c.loop-part.invariant.2 c.index_mut.result.now c.index_mut.ensures.value c.add_variable.new.table c.in_ok-add_variable.ensures.ok.1,
  rest_more c.args.source.now c.args.entities.now c.args.count c.args.first c.loop-part.number c.loop-part.part-index c.args.parts.now c.part-item.result c.loop-part.tables.items
      c.part-item.is c.loop-part-test.true c.requires.blocks c.requires.entities c.loop-part.invariant.1 c.loop-part.invariant.2 c.index_mut.result.now c.index_mut.ensures.value c.in_ok-add_variable.ensures.ok.0,
)
