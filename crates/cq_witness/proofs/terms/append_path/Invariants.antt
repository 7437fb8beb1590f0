use Rattle.std.proofs.Common.{◌≡◌, ◌++◌, take}
use Rattle.std.specs.List.{flat_map}
use Rattle.cq_text.specs.Transcript.{step_text}
use Rattle.cq_witness.proofs.terms.append_path.Given as goal

abbrev pub invariant-loop-key : goal.invariant-loop-key
invariant-loop-key l = l.out.items ≡ l.initial.out.items ++ flat_map (step_text l.keys) (take l.key-index l.path)
