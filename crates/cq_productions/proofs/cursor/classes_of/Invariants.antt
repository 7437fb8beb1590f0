use Rattle.std.proofs.Common.{◌≡◌, map, take}
use Rattle.cq_rules.specs.Class.{class_of}
use Rattle.cq_productions.proofs.cursor.classes_of.Given as goal

abbrev pub invariant-loop-token : goal.invariant-loop-token
invariant-loop-token l = l.classes.items ≡ map class_of (take l.token-index l.tokens)
