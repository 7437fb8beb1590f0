use Rattle.std.proofs.Common.{refl, inl, inr}
use Rattle.cq_program.specs.Posed.{a_mapping}
use Rattle.cq_program.proofs.mappings.meaning.mean_mapping.Goals as goal

pub returns-in-Err-clause-refused : goal.returns-in-Err-clause-refused
returns-in-Err-clause-refused c =
    c.tell_unmet.ensures c.args.depth (a_mapping c.args.source c.args.target c.args.mapping)
    (λ n is. (n, refl, c.in-Err.ensures.not_preserved n (cc)))
    (λ n is. (n, inl (refl, c.in-Err.ensures.deep n (cc))))
    (λ n is. (n, inr (refl, c.in-Err.ensures.many n (cc))))
