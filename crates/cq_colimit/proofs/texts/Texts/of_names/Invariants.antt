use Rattle.std.proofs.Common.{◌≡◌, take}
use Rattle.cq_base.specs.declared.name.Name.{Name}
use Rattle.cq_theory.specs.Paths.{is_among}
use Rattle.cq_colimit.proofs.texts.Texts.of_names.Given as goal

abbrev pub invariant-loop-name : goal.invariant-loop-name
invariant-loop-name l = (name : Name) → is_among l.made name ≡ is_among (take l.name-index l.names) name
