use Rattle.std.proofs.Common.{ap, ◌∙◌, ◌+◌, ◌≤◌, arith}
use Rattle.cq_query.specs.QueryData.{QueryData as Query}
use Rattle.cq_lazy.specs.declared.lengths.Lengths.{Lengths}
use Rattle.cq_lazy.specs.Lengths.{AreLengths, AreWider}
use Rattle.cq_lazy.proofs.Widening.{if_some, lengths_closed}
use Rattle.cq_lazy.proofs.lengths.bound_query.Goals as goal

pub returns : goal.returns
returns c =
    let m : Lengths = c.args.under.now in
    let Q : Query = c.args.query.now in
    let none : Lengths = record { keys = 0; symbols = 1; leaves = 0; most = c.args.under.now.most } in
    let found : Lengths = c.in_ok-found.found in
    if_some c.close.result (λ closed. AreWider found closed × (closed.symbols ≤ closed.most) × (closed.keys + 1 ≤ closed.most) × (closed.most ≤ 1024))
    (λ closed. AreLengths m Q closed × (m.most ≤ closed.most) × (closed.most ≤ 1024))
    (λ closed h. lengths_closed m none found closed Q c.as_slice.result.now (c.as_slice.ensures ∙ ap (λ (q : Query). q.blocks) c.query.view_is) (omega arith) c.in_ok-found.ensures h) c.close.ensures
