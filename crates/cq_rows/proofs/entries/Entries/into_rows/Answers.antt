use Rattle.std.proofs.Common.{sym, map, ap, ◌∙◌, arith}
use Rattle.std.proofs.lemmas.Grind.{common_steps}
use Rattle.std.proofs.lemmas.List.{with_items_is}
use Rattle.cq_rows.specs.Entries.{row_now}
use Rattle.cq_rows.proofs.Current.{rows_of-is}
use Rattle.cq_rows.proofs.entries.Entries.into_rows.Goals as goal

pub returns : goal.returns
returns c =
    with_items_is c.args.self.first c.look_up.new.rows (grind (arith, common_steps))
    ∙ c.look_up.ensures ∙ ap (map (row_now c.args.self.renamings)) c.deref_mut.ensures.value ∙ sym (rows_of-is c.args.self)
