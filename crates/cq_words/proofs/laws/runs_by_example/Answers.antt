use Rattle.std.proofs.Common.{refl}
use Rattle.clap.proofs.OnLiterals.{clap_on_literals}
use Rattle.cq_words.specs.Reads.{reads}
use Rattle.cq_words.proofs.laws.runs_by_example.Goals as goal

pub returns : goal.returns
unfolding reads clap_on_literals
returns c = record {
  plain = refl;
  after = refl;
  before = refl;
  dash = refl;
  empty = refl;
  form = refl;
  help = refl;
  behind_the_end = refl;
  option_behind_the_end = refl;
  end_behind_the_end = refl;
  end_last = refl;
}
