use Rattle.std.proofs.Common.{◌≡◌, take, map}
use Rattle.cq_base.specs.declared.name.Name.{Name}
use Rattle.cq_theory.specs.Paths.{is_among}
use Rattle.cq_colimit.proofs.texts.Texts.of_functions.Given as goal

abbrev pub invariant-loop-function : goal.invariant-loop-function
invariant-loop-function l = (name : Name) → is_among l.made name ≡ is_among (map (λ f. f.name) (take l.function-index l.functions)) name
