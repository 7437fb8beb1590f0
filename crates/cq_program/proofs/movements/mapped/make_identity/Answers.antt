use Rattle.cq_program.proofs.movements.mapped.make_identity.Goals as goal

pub returns-clause-is : goal.returns-clause-is
returns-clause-is c = λ i. record { images = c.in_ok-made.ensures.images i; rows = c.in_ok-made.ensures.rows i; nulls = c.in_ok-made.ensures.nulls i }

pub returns-clause-goes : goal.returns-clause-goes
returns-clause-goes c = c.in_ok-made.ensures.goes c.requires.0.holds
