use Rattle.std.proofs.Common.{ap, ◌∙◌}
use Rattle.std.specs.List.{flat_map}
use Rattle.cq_program.specs.Named.{listings_in}
use Rattle.cq_program.proofs.Listings.{listings_all}
use Rattle.cq_program.proofs.declarations.instances_of.Goals as goal

pub returns : goal.returns
returns c = c.in_ok-named.ensures ∙ ap (flat_map listings_in) c.into_names.ensures ∙ listings_all c.args.env.names.entries
