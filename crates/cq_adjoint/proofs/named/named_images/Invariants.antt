use Rattle.std.proofs.Common.{false, ◌≡◌, take}
use Rattle.cq_transform.specs.Composing.{has_long}
use Rattle.cq_adjoint.specs.Moves.{each_generator}
use Rattle.cq_adjoint.specs.Nameable.{moved_name}
use Rattle.cq_instance.specs.Spelling.{term_among}
use Rattle.cq_adjoint.proofs.named.named_images.Given as goal

abbrev pub invariant-loop-number : goal.invariant-loop-number
invariant-loop-number l = record {
  made : l.images.items ≡ each_generator (moved_name l.mapping l.k l.from l.naming.to.now (term_among l.naming.null_terms.now)) (take l.number l.generators);
  fits : has_long l.images.items ≡ false;
}
