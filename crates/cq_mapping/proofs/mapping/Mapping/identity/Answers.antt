use Rattle.std.proofs.Common.{rules}
use Rattle.cq_mapping.proofs.Identical.{identity_whole}
use Rattle.cq_mapping.proofs.mapping.Mapping.identity.Goals as goal

pub invariant_of-result : goal.invariant_of-result
invariant_of-result c =
    identity_whole c.args.schema.value c.in_ok-clone.field-0.value c.from_vec.result c.from_vec-2.result c.from_vec-3.result
    (search rules) (search rules) (search rules) (search rules) (search rules)
