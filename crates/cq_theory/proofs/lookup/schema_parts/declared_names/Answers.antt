use Rattle.std.proofs.Common.{arith, ◌<◌, length}
use Rattle.cq_theory.proofs.DeclaredParts.{among_more}
use Rattle.cq_theory.proofs.lookup.schema_parts.declared_names.Goals as goal

pub loop-part-preserved : goal.loop-part-preserved
loop-part-preserved c =
    let within : c.loop-part.part-index < length c.args.parts.now = omega arith in
    (omega (arith, c.note_name.ensures.short), among_more c.loop-part.table c.note_name.new.table c.args.parts.now c.loop-part.part-index c.part-item.result within c.part-item.is c.loop-part.invariant.1 c.in_ok-note_name.ensures.ok)
