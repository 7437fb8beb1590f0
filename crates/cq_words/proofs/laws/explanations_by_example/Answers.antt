use Rattle.std.proofs.Common.{refl}
use Rattle.clap.proofs.OnLiterals.{clap_on_literals}
use Rattle.cq_words.specs.Reads.{reads}
use Rattle.cq_words.proofs.laws.explanations_by_example.Goals as goal

pub returns : goal.returns
unfolding reads clap_on_literals
returns c = record {
  plain = refl;
  deep = refl;
  empty = refl;
  dashes = refl;
  dash = refl;
  few = refl;
  many = refl;
  only = refl;
}
