-- Paths over one row of an entity, which goes by the entity's name.
use Rattle.std.specs.Prelude.{ℕ, List, [], ◌∷◌, slice_get}
use Rattle.cq_text.specs.Transcript.{name_or_empty}
use Rattle.cq_theory.specs.declared.presentation.Equation.{Equation}
use Rattle.cq_theory.specs.declared.presentation.Equation.TheVariants.{Ent}
use Rattle.cq_theory.specs.declared.presentation.Presentation.{Presentation}
use Rattle.cq_theory.specs.declared.presentation.Sort.TheVariants.{Entity}
use Rattle.cq_theory.specs.declared.term.EntTerm.{EntTerm}
use Rattle.cq_theory.specs.SchemaData.{SchemaData as Schema}

-- one generator of an entity, with the entity's name
abbrev pub over : Schema → ℕ → Presentation
over S entity = record { generators = (name_or_empty (slice_get S.entities entity), Entity entity) ∷ []; equations = [] }

-- a path from that generator
abbrev pub from_there : List ℕ → EntTerm
from_there path = record { generator = 0; path = path }

-- two paths from there
abbrev pub path_equation : List ℕ → List ℕ → Equation
path_equation left right = Ent (from_there left) (from_there right)
