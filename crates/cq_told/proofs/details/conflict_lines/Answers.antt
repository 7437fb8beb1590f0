use Rattle.cq_told.proofs.Claims.{conflict_told}
use Rattle.cq_told.proofs.details.conflict_lines.Goals as goal

pub returns-clause-derived : goal.returns-clause-derived
returns-clause-derived g c =
    conflict_told c.args.least.now c.args.greater.now c.new-lines.result.items c.push_clash.new.text.items c.in_ok-_is_told._is_told
    c.new-lines.ensures.items c.in_ok-_is_told.ensures.told
