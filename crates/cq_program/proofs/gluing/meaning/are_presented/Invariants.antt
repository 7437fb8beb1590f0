use Rattle.std.proofs.Common.{◌≡◌, map, take}
use Rattle.std.specs.Prelude.{All}
use Rattle.cq_theory.specs.SchemaData.{SchemaData}
use Rattle.cq_theory.specs.Presentation.{IsPresentation}
use Rattle.cq_program.proofs.gluing.meaning.are_presented.Given as goal

-- the presentations so far
abbrev pub invariant-loop-part : goal.invariant-loop-part
invariant-loop-part l = (S : SchemaData) → All (λ part. part.value.schema ≡ S) l.parts → All (IsPresentation S) (map (λ part. part.value.presentation) (take l.part-index l.parts))
