use Rattle.std.proofs.Common.{sym, ◌∙◌}
use Rattle.cq_rows.proofs.Current.{row_now-listed}
use Rattle.cq_rows.proofs.entries.Entries.rename.Goals as goal

pub rename-requires-clause-from_itself : goal.rename-requires-clause-from_itself
rename-requires-clause-from_itself c = sym (row_now-listed c.args.self.now.renamings c.args.from c.requires.from) ∙ c.requires.from_itself

pub rename-requires-clause-to_itself : goal.rename-requires-clause-to_itself
rename-requires-clause-to_itself c = sym (row_now-listed c.args.self.now.renamings c.args.to c.requires.to) ∙ c.requires.to_itself
