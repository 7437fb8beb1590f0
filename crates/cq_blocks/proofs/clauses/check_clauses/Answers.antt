use Rattle.cq_blocks.proofs.clauses.check_clauses.Goals as goal

pub first_clause_fault-requires : goal.first_clause_fault-requires
first_clause_fault-requires c = c.requires.making.numbers
