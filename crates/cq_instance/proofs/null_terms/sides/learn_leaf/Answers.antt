use Rattle.std.proofs.Common.{map}
use Rattle.std.specs.Prelude.{option_copied}
use Rattle.cq_instance.specs.Standing.{meaning}
use Rattle.cq_instance.proofs.SidesLearnt.{readable_term}
use Rattle.cq_instance.proofs.null_terms.sides.learn_leaf.Goals as goal

pub value_over-requires : goal.value_over-requires
value_over-requires c = (
  c.requires.readable.type,
  readable_term c.args.site.now.instance.now (map meaning c.args.site.now.standings.now) (option_copied c.args.site.now.name) c.args.term.now c.requires.readable,
)
