use Rattle.std.proofs.Common.{refl}
use Rattle.clap.proofs.OnLiterals.{clap_on_literals}
use Rattle.cq_words.specs.Reads.{reads}
use Rattle.cq_words.proofs.laws.depths_by_example.Goals as goal

pub returns : goal.returns
unfolding reads clap_on_literals
returns c = record {
  zero = refl;
  plus = refl;
  zeros = refl;
  most = refl;
  more = refl;
  minus_zero = refl;
  joined_minus_zero = refl;
  joined_minus = refl;
  joined_empty = refl;
  empty = refl;
  missing = refl;
  letter = refl;
  twice = refl;
  short = refl;
  behind_the_end = refl;
}
