use Rattle.cq_rows.proofs.Current.{rows_of-none}
use Rattle.cq_rows.proofs.entries.Entries.new.Goals as goal

pub returns-clause-rows : goal.returns-clause-rows
returns-clause-rows c = rows_of-none _ c.new.ensures
