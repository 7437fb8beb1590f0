-- Transforms that are transposed to one along a query are one.
use Rattle.std.proofs.Common.{ℕ, List, Some, ◌≡◌, sym, ◌∙◌}
use Rattle.std.specs.Prelude.{slice_get}
use Rattle.cq_theory.specs.Homomorphism.{row_image, IsHomomorphism}
use Rattle.cq_instance.specs.InstanceData.{InstanceData, IsInstance}
use Rattle.cq_instance.specs.declared.transform.Transform.{Transform}
use Rattle.cq_transform.specs.Transforms.{GoesFrom}
use Rattle.cq_query.specs.IsQuery.{IsQuery}
use Rattle.cq_query.specs.QueryData.{QueryData as Query}
use Rattle.cq_adjoint.specs.QueryMoves.{IsCoeval, AreAcross, copies_sent}
use Rattle.cq_adjoint.specs.TransposedQueries.{AreTransposed}
use Rattle.cq_adjoint.proofs.OneOutOfCoeval.{one_out}
use Rattle.cq_adjoint.proofs.ToEval.{only_to}

pub one_into : (Q : Query) (i a j d : InstanceData) (answers : List (List (List ℕ))) (h k k' : Transform) → IsQuery Q → AreAcross Q i a j d answers → IsInstance i → IsInstance j → GoesFrom h a j
    → IsHomomorphism i.schema i.tables d.tables k.rows k.nulls → IsHomomorphism i.schema i.tables d.tables k'.rows k'.nulls
    → AreTransposed Q h i a j d answers k.rows k.nulls → AreTransposed Q h i a j d answers k'.rows k'.nulls → (k.rows ≡ k'.rows) × (k.nulls ≡ k'.nulls)
one_into Q i a j d answers h k k' query across source middle goes is is' says says' =
    let one = only_to Q query h i a j d answers across goes source middle k.rows k.nulls is says in
    let other = only_to Q query h i a j d answers across goes source middle k'.rows k'.nulls is' says' in
    (one.0 ∙ sym other.0, one.1 ∙ sym other.1)

pub one_out_of : (Q : Query) (i a j d : InstanceData) (answers : List (List (List ℕ))) (h h' k : Transform) → IsQuery Q → IsCoeval Q i a → IsInstance a → GoesFrom h a j → GoesFrom h' a j
    → AreTransposed Q h i a j d answers k.rows k.nulls → AreTransposed Q h' i a j d answers k.rows k.nulls → (h.rows ≡ h'.rows) × (h.nulls ≡ h'.nulls)
one_out_of Q i a j d answers h h' k query coeval first goes goes' says says' = one_out Q i a j coeval first query.source h' goes' h goes.homomorphism
    (λ e row inside.
    let both : Some (copies_sent Q h i a j e row) ≡ Some (copies_sent Q h' i a j e row) = sym (says.each_row e row inside) ∙ says'.each_row e row inside in
    cc)
    (λ label within. sym (says.each_null label within) ∙ says'.each_null label within)
