use Rattle.std.proofs.Common.{◌≡◌, ◌≤◌, map, take, length}
use Rattle.std.specs.Prelude.{All}
use Rattle.cq_theory.specs.SchemaData.{SchemaData as Schema}
use Rattle.cq_theory.specs.Presentation.{IsPresentation}
use Rattle.cq_transform.specs.Gluing.{sorts_of, equations_from}
use Rattle.cq_push.proofs.coproducts.side_by_side.Given as goal

abbrev pub invariant-loop-part : goal.invariant-loop-part
invariant-loop-part l = record {
  few : length l.gluing.sorts.items ≤ 16000000;
  sorts : l.gluing.sorts.items ≡ sorts_of (map (λ part. part.value.presentation) (take l.part-index l.parts));
  equations : l.gluing.equations.items ≡ equations_from 0 (map (λ part. part.value.presentation) (take l.part-index l.parts));
  presented : (S : Schema) → All (λ part. part.value.schema ≡ S) l.parts → All (IsPresentation S) (map (λ part. part.value.presentation) (take l.part-index l.parts));
}
