use Rattle.std.proofs.Common.{◌≡◌, length, map, sym, ◌∙◌, arith}
use Rattle.std.proofs.lemmas.Grind.{common_steps}
use Rattle.std.proofs.lemmas.List.{length-map, get_or-map, ext_get_or}
use Rattle.cq_rows.specs.Entries.{row_now}
use Rattle.cq_rows.proofs.entries.look_up.Goals as goal

pub returns : goal.returns
returns c =
    let f = row_now c.args.renamings.now in
    let len : length c.loop-row.rows ≡ length c.args.rows.now = grind (arith, common_steps) in
    ext_get_or 0 c.loop-row.rows (map f c.args.rows.now) (rw length-map len)
    (λ i h. c.loop-row.invariant.walked i (omega arith) ∙ sym (get_or-map f c.args.rows.now i 0 0 (omega arith)))
