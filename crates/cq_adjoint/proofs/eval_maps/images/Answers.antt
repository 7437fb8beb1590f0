use Rattle.std.proofs.Common.{ℕ, List, [], ◌∷◌, ◌++◌, Some, ◌≡◌, get_or, sym, ap, ◌∙◌}
use Rattle.std.specs.Prelude.{slice_get}
use Rattle.cq_base.specs.declared.name.Name.{Name}
use Rattle.cq_theory.specs.declared.presentation.Presentation.{Presentation}
use Rattle.cq_theory.specs.declared.presentation.Sort.{Sort}
use Rattle.cq_instance.specs.declared.transform.Image.{Image}
use Rattle.cq_instance.proofs.Enumerated.{enumerated_more}
use Rattle.cq_transform.proofs.Loops.{read_at}
use Rattle.cq_adjoint.specs.QueryMoves.{eval_image}
use Rattle.cq_adjoint.proofs.eval_maps.images.Goals as goal

pub generator_image-requires : goal.generator_image-requires
generator_image-requires c =
    let at : slice_get c.args.evaluating.now.evaluated.now.presentation.generators c.loop-number.number ≡ Some c.index-generators-number.result =
    ap (λ (l : List (Name × Sort)). slice_get l c.loop-number.number) (sym (c.as_slice-generators.ensures ∙ ap (λ (P : Presentation). P.generators) c.presentation.ensures.presentation))
    ∙ read_at c.as_slice-generators.result.now c.loop-number.number c.index-generators-number.result c.loop-number-test.true c.index-generators-number.is in
    record { evaluating = c.requires; generator = (c.index-generators-number.result.0, at) }

pub loop-number-preserved : goal.loop-number-preserved
loop-number-preserved c =
    let m = c.args.evaluating.now in
    let f : ℕ × (Name × Sort) → Image = eval_image m.query.now m.moved.now m.source.now m.target.now m.evaluated.now m.there.now m.from.now m.places.now in
    let generators : List (Name × Sort) = c.as_slice-generators.result.now in
    let made : c.in_ok-generator_image.field-0 ≡ f (c.loop-number.number, get_or generators c.loop-number.number c.index-generators-number.result) =
    c.in_ok-generator_image.ensures c.index-generators-number.result.0 ∙ ap (λ (g : Name × Sort). f (c.loop-number.number, g)) c.index-generators-number.is in
    c.in_ok-push.ensures.items ∙ (λ j. c.loop-number.invariant j ++ made j ∷ [])
    ∙ sym (enumerated_more f generators c.loop-number.number c.index-generators-number.result c.loop-number-test.true)
