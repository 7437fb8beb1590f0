use Rattle.std.proofs.Common.{◌≡◌, arith}
use Rattle.std.proofs.lemmas.Bool.Decides.{Decides-eqb}
use Rattle.std.proofs.lemmas.Slice.Eq.{slice_eq-Decides}
use Rattle.cq_growth.proofs.Twice.{twice_here, same_parts}
use Rattle.cq_growth.proofs.repeats.twice_at_end.Goals as goal

pub returns-then-eq : goal.returns-then-eq
returns-then-eq c =
    let start = c.split_at.result.0.now in
    let last = c.split_at.result.1.now in
    let before = c.split_at-2.result.1.now in
    let same : before ≡ last = (slice_eq-Decides Decides-eqb before last c.eq.result c.eq.ensures).0 c.if-eq.true in (
      omega (arith, c.split_at.ensures.back_len, c.requires),
      twice_here c.args.path.now start last before c.args.count c.split_at.ensures.front c.split_at.ensures.back c.split_at-2.ensures.back same,
    )

pub returns : goal.returns
returns c = λ block size twice.
    let start = c.split_at.result.0.now in
    let last = c.split_at.result.1.now in
    let before = c.split_at-2.result.1.now in
    let same : before ≡ last = same_parts c.args.path.now start last before c.args.count c.split_at.ensures.front c.split_at.ensures.back c.split_at-2.ensures.back block size twice in
    let yes = (slice_eq-Decides Decides-eqb before last c.eq.result c.eq.ensures).1 same in
    let no = c.if-eq.false in
    cc (yes, no)
