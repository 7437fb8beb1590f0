use Rattle.std.proofs.Common.{refl}
use Rattle.clap.proofs.OnLiterals.{clap_on_literals}
use Rattle.cq_words.specs.Reads.{reads}
use Rattle.cq_words.proofs.laws.examples_by_example.Goals as goal

pub returns : goal.returns
unfolding reads clap_on_literals
returns c = record {
  most = refl;
  plus = refl;
  zeros = refl;
  zero = refl;
  more = refl;
  minus_zero = refl;
  behind_the_end = refl;
  depth = refl;
}
