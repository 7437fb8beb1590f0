use Rattle.cq_run.proofs.OneTranscript.{one_list_of, one_transcript}
use Rattle.cq_run.proofs.laws.one_transcript.Goals as goal

pub returns : goal.returns
returns c = record { meaning = one_list_of; transcript = one_transcript }
