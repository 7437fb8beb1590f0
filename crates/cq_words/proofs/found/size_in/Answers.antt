use Rattle.std.proofs.Common.{◌∙◌, ap, codes}
use Rattle.std.specs.Str.Parse.{ParsesUnsigned, ExplainsUnsignedError, HasUnsignedDigitsIfOk}
use Rattle.clap.specs.Words.{found_of}
use Rattle.std.specs.Prelude.{option_and_then}
use Rattle.clap.proofs.WalkLemmas.{one_text-rows}
use Rattle.cq_words.specs.Reads.{number_in}
use Rattle.cq_words.proofs.Numbers.{reads_number}
use Rattle.cq_words.proofs.found.size_in.Goals as goal

pub returns : goal.returns
returns c =
    reads_number 32 (λ bs r. ParsesUnsigned 32 10 bs r × ExplainsUnsignedError 10 bs r × HasUnsignedDigitsIfOk bs r) _ _ (λ t x h. h.0) c.get_one.ensures.none c.get_one.ensures.value
    ∙ ap (option_and_then (number_in 32)) (one_text-rows (found_of c.args.matches.now) (codes "N"))
