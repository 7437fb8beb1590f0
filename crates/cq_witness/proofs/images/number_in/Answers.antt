use Rattle.std.proofs.Common.{◌∙◌}
use Rattle.cq_witness.proofs.Naming.{found_number}
use Rattle.cq_witness.proofs.images.number_in.Goals as goal

pub returns : goal.returns
returns c = c.number_beside.ensures ∙ found_number c.args.giving.now.parts.now c.args.giving.now.names.now c.args.name.now c.requires
