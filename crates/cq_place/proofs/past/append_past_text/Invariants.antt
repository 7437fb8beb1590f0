use Rattle.std.proofs.Common.{◌≡◌, ◌++◌}
use Rattle.std.specs.List.{flat_map}
use Rattle.cq_place.specs.Shown.{past_char}
use Rattle.cq_place.proofs.past.append_past_text.Given as goal

abbrev pub invariant-loop-c : goal.invariant-loop-c
invariant-loop-c l = l.out.items ≡ l.initial.out.items ++ flat_map past_char l.yielded
