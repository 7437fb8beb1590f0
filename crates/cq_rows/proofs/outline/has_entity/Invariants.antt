use Rattle.std.proofs.Common.{ℕ, ◌≡◌, ◌<◌, map, Some}
use Rattle.std.specs.Prelude.{slice_get}
use Rattle.cq_rows.specs.Plain.{generator_entity}
use Rattle.cq_rows.proofs.outline.has_entity.Given as goal

abbrev pub invariant-loop-generator : goal.invariant-loop-generator
invariant-loop-generator l = (g e : ℕ) → g < l.generator-index → slice_get (map generator_entity l.presentation.generators) g ≡ Some (Some e) → ⊥
