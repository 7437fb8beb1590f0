use Rattle.std.proofs.Common.{◌≡◌, ◌++◌, ◌+◌}
use Rattle.std.specs.Prelude.{slice_index}
use Rattle.std.specs.List.{flat_map}
use Rattle.cq_theory.specs.Canonical.{below}
use Rattle.cq_text.specs.Spelling.{plain_line}
use Rattle.cq_text.proofs.generators.push_plain_generators.Given as goal

abbrev pub invariant-loop-label : goal.invariant-loop-label
invariant-loop-label l =
    l.text.items ≡ l.initial.text.items ++ flat_map (λ label. plain_line l.typeside (l.first_null + label) (slice_index l.sorts label)) (below l.label)
