-- The names and the sorts of generators.
use Rattle.std.specs.Prelude.{List, map}
use Rattle.cq_base.specs.declared.name.Name.{Name}
use Rattle.cq_theory.specs.declared.presentation.Sort.{Sort}
use Rattle.cq_theory.specs.Sorts.{Generators}

abbrev pub names_of : Generators → List Name
names_of G = map (λ g. g.0) G

abbrev pub sorts_of : Generators → List Sort
sorts_of G = map (λ g. g.1) G
