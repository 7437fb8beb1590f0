use Rattle.std.proofs.Common.{refl, ◌∙◌, ap, length, arith}
use Rattle.std.proofs.lemmas.List.{length-map}
use Rattle.cq_rows.specs.Plain.{generator_entity}
use Rattle.cq_rows.specs.Origin.{theory_at}
use Rattle.cq_rows.proofs.Beginning.{HasRows-none, HasRows-more, HasRows-other, HasRows-all, found_entity, found_type}
use Rattle.cq_rows.proofs.grow.begin.Goals as goal

pub loop-generator-init : goal.loop-generator-init
loop-generator-init c =
    let blank = c.requires.frame.blank in
    record {
      rows = HasRows-none (theory_at c.args.origin.now) c.in_ok-tables.tables c.new-entries.result.items c.in_ok-tables.ensures.whole (c.in_ok-tables.ensures.keys ∙ blank.keys) (c.in_ok-tables.ensures.entities ∙ blank.entities) c.in_ok-tables.ensures.empty c.new-entries.ensures.items;
      some = λ made. absurd (omega (arith, made, c.in_ok-tables.ensures.empty));
    }

pub loop-generator-preserved-in_default : goal.loop-generator-preserved-in_default
loop-generator-preserved-in_default c =
    let s = theory_at c.args.origin.now in
    let found = found_type c.as_slice-generator-items.result.now c.args.origin.now.presentation.now.generators c.loop-generator.generator-index c.generator-item.result c.as_slice-generator-items.ensures c.loop-generator-test.true c.generator-item.is c.in_default.not-Entity in
    record {
      rows = rw c.in_ok-push.ensures.items (HasRows-other s c.loop-generator.tables c.loop-generator.entries.items c.loop-generator.generator-index _ c.loop-generator.invariant.rows found refl);
      some = c.loop-generator.invariant.some;
    }

pub add_row-requires : goal.add_row-requires
add_row-requires c =
    let found = found_entity c.as_slice-generator-items.result.now c.args.origin.now.presentation.now.generators c.loop-generator.generator-index c.in-Entity.entity c.generator-item.result c.as_slice-generator-items.ensures c.loop-generator-test.true c.generator-item.is c.in-Entity.is in
    omega (arith, c.requires.theory.generators c.loop-generator.generator-index c.in-Entity.entity found, c.loop-generator.invariant.rows.entities)

pub loop-generator-preserved : goal.loop-generator-preserved
loop-generator-preserved c =
    let s = theory_at c.args.origin.now in
    let found = found_entity c.as_slice-generator-items.result.now c.args.origin.now.presentation.now.generators c.loop-generator.generator-index c.in-Entity.entity c.generator-item.result c.as_slice-generator-items.ensures c.loop-generator-test.true c.generator-item.is c.in-Entity.is in
    record {
      rows = rw c.in_ok-push-2.ensures.items (HasRows-more s c.loop-generator.tables c.add_row.new.self c.loop-generator.entries.items c.loop-generator.generator-index c.in-Entity.entity c.in_ok-row.row c.loop-generator.invariant.rows c.in_ok-row.ensures.ok c.in_ok-row.ensures.whole found);
      some = λ _. (c.loop-generator.generator-index, c.in-Entity.entity, found);
    }

pub returns-clause-begun : goal.returns-clause-begun
returns-clause-begun c =
    HasRows-all (theory_at c.args.origin.now) c.loop-generator.tables c.loop-generator.entries.items c.loop-generator.generator-index c.loop-generator.invariant.rows
    (omega (arith, length-map c.args.origin.now.presentation.now.generators generator_entity, ap length c.as_slice-generator-items.ensures, c.loop-generator.auto.generator-index-end, c.loop-generator-test.false))

pub returns-clause-some : goal.returns-clause-some
returns-clause-some c = c.loop-generator.invariant.some
