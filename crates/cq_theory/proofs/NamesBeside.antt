-- What is known of a name in two lists of which one stands behind the other.
use Rattle.cq_base.proofs.Numbers.{in_neither, in_first, in_second}

pub ruleset in_two_lists = (in_neither, in_first, in_second)
