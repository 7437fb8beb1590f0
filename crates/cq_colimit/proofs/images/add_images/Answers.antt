use Rattle.cq_colimit.proofs.Singles.{images_are}
use Rattle.cq_colimit.proofs.images.add_images.Goals as goal

pub returns-clause-are_path_eqs : goal.returns-clause-are_path_eqs
returns-clause-are_path_eqs c = λ links is.
    (images_are links c.args.target.value c.args.part.now c.in_ok-mapping.mapping (c.in_ok-mapping.ensures links is) c.is_well_sorted.ensures).0

pub returns-clause-are_obs_eqs : goal.returns-clause-are_obs_eqs
returns-clause-are_obs_eqs c = λ links is.
    (images_are links c.args.target.value c.args.part.now c.in_ok-mapping.mapping (c.in_ok-mapping.ensures links is) c.is_well_sorted.ensures).1
