use Rattle.cq_cells.proofs.rows.check_text.Goals as goal

pub returns-clause-found : goal.returns-clause-found
returns-clause-found c = c.in_ok-count.ensures.found _ c.start-reader.ensures

pub returns-clause-indexed : goal.returns-clause-indexed
returns-clause-indexed c = λ none. let noted = c.in_ok-count.ensures.noted _ c.start-reader.ensures none in record { places = noted.0; count = noted.1 }
