use Rattle.std.proofs.Common.{◌<◌, length, sym, ap, ◌∙◌, arith}
use Rattle.std.proofs.lemmas.Grind.{common_steps}
use Rattle.std.proofs.lemmas.List.{get_or_read}
use Rattle.cq_rows.specs.Entries.{row_now}
use Rattle.cq_rows.proofs.Current.{length-rows_of, rows_of-at}
use Rattle.cq_rows.proofs.entries.Entries.row.Goals as goal

pub index-requires : goal.index-requires
index-requires c = grind (arith, common_steps, length-rows_of c.args.self.now)

pub returns-clause-value : goal.returns-clause-value
returns-clause-value c =
    let lt : c.args.generator < length c.args.self.now.first.items = omega (arith, c.requires, length-rows_of c.args.self.now) in
    let read = get_or_read c.args.self.now.first.items c.args.generator c.index.result.now lt c.index.ensures 0 in
    c.get.ensures.value ∙ ap (row_now c.args.self.now.renamings) read ∙ sym (rows_of-at c.args.self.now c.args.generator lt)
