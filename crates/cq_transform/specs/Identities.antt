-- Identities of instances.
use Rattle.std.specs.Prelude.{ℕ, List, [], map}
use Rattle.std.specs.List.{enumerate_from}
use Rattle.cq_base.specs.declared.name.Name.{Name}
use Rattle.cq_theory.specs.declared.presentation.Sort.{Sort}
use Rattle.cq_theory.specs.declared.presentation.Sort.TheVariants.{Plain, Entity}
use Rattle.cq_theory.specs.declared.term.TypeTerm.TheVariants as term
use Rattle.cq_theory.specs.Sorts.{Generators}
use Rattle.cq_instance.specs.declared.transform.Image.{Image}
use Rattle.cq_instance.specs.declared.transform.Image.TheVariants.{Row, Value}

-- a generator as its own image
abbrev pub itself : ℕ × (Name × Sort) → Image
itself g = elim g.1.1 [ Plain type ↦ Value (term.Gen g.0) | Entity entity ↦ Row (record { generator = g.0; path = [] }) ]

abbrev pub identity_images : Generators → List Image
identity_images G = map itself (enumerate_from 0 G)
