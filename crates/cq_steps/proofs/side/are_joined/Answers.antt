use Rattle.std.proofs.Common.{Some, None}
use Rattle.std.proofs.lemmas.Bool.Decides.{Decides-eqb}
use Rattle.std.proofs.lemmas.Slice.Eq.{slice_eq-Decides, strip_prefix_is}
use Rattle.cq_steps.proofs.Deciding.{decides_joined, decides_no}
use Rattle.cq_steps.proofs.side.are_joined.Goals as goal

pub returns-in-Some : goal.returns-in-Some
returns-in-Some c =
    let split = strip_prefix_is Decides-eqb c.args.keys.now c.args.first.now (Some c.in-Some.rest) c.in-Some.ensures.cases in
    decides_joined c.args.keys.now c.args.first.now c.args.second.now c.in-Some.rest.now c.eq.result split (slice_eq-Decides Decides-eqb _ _ _ c.eq.ensures)

pub returns-in-None : goal.returns-in-None
returns-in-None c = decides_no _ (strip_prefix_is Decides-eqb c.args.keys.now c.args.first.now None c.in-None.ensures.cases c.args.second.now)
