use Rattle.cq_instance.proofs.SpelledNulls.{given_spelled, listed_spelled}
use Rattle.cq_instance.proofs.laws.null_terms_spell.Goals as goal

pub returns : goal.returns
returns c = record { given = given_spelled; listed = listed_spelled }
