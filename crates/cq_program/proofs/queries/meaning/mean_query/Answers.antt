use Rattle.std.proofs.Common.{refl, inl, inr}
use Rattle.cq_program.specs.Posed.{a_query}
use Rattle.cq_program.proofs.queries.meaning.mean_query.Goals as goal

pub returns-in-Err-clause-refused : goal.returns-in-Err-clause-refused
returns-in-Err-clause-refused c =
    c.tell_unmet.ensures c.args.depth (a_query c.args.source c.args.target c.args.query)
    (λ n is. (n, refl, c.in-Err.ensures.not_sound n (cc)))
    (λ n is. (n, inl (refl, c.in-Err.ensures.deep n (cc))))
    (λ n is. (n, inr (refl, c.in-Err.ensures.many n (cc))))
