use Rattle.cq_search.proofs.reading.+type_term_of.Given as goal

abbrev pub decreases-type_term_of : goal.decreases-type_term_of
decreases-type_term_of l = l.depth
