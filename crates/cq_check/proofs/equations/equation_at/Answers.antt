use Rattle.std.proofs.Common.{length, refl}
use Rattle.std.proofs.lemmas.Option.{slice_get_read}
use Rattle.cq_check.proofs.equations.equation_at.Goals as goal

pub returns : goal.returns
returns c =
    let items = c.args.schema.now.obs_eqs in
    let is = rw c.observation_equations.ensures at c.index-observation_equations-place.is in
    slice_get_read items (length items) c.args.place c.index-observation_equations-place.result refl c.requires.within is
