use Rattle.std.proofs.Common.{refl}
use Rattle.clap.proofs.OnLiterals.{clap_on_literals}
use Rattle.cq_words.specs.Reads.{reads}
use Rattle.cq_words.proofs.laws.refusals_by_example.Goals as goal

pub returns : goal.returns
unfolding reads clap_on_literals
returns c = record {
  none = refl;
  bare = refl;
  two_files = refl;
  only_twice = refl;
  only_upper = refl;
  end_first = refl;
  other_form = refl;
  upper_form = refl;
  help = refl;
  short_help = refl;
  help_word = refl;
  help_of_run = refl;
  help_of_none = refl;
  version = refl;
  run_help = refl;
  run_short_help = refl;
}
