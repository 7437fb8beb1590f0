use Rattle.cq_query.proofs.SortedDuties.{duties_sorted}
use Rattle.cq_query.proofs.laws.sorts_of_duties.Goals as goal

pub returns : goal.returns
returns c = duties_sorted
