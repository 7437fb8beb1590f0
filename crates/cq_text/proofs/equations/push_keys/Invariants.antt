use Rattle.std.proofs.Common.{◌≡◌, ◌++◌, take}
use Rattle.std.specs.List.{flat_map}
use Rattle.cq_text.specs.Spelling.{key_equation_line}
use Rattle.cq_text.proofs.equations.push_keys.Given as goal

abbrev pub invariant-loop-key : goal.invariant-loop-key
invariant-loop-key l =
    l.text.items ≡ l.initial.text.items ++ flat_map (key_equation_line l.instance.schema l.instance.tables l.generator l.row) (take l.key-index l.keys)
