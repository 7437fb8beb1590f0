use Rattle.std.proofs.Common.{◌∷◌, ◌++◌, [], List, map, take, refl, sym, ap, ◌∙◌}
use Rattle.std.proofs.lemmas.List.{map-append, take_all}
use Rattle.cq_base.specs.declared.name.Name.{Name}
use Rattle.cq_theory.specs.declared.presentation.Sort.{Sort}
use Rattle.cq_theory.proofs.PartLoops.{map_more}
use Rattle.cq_transform.specs.Images.{image_named, names_of, scope_of}
use Rattle.cq_transform.proofs.images.make_images.Goals as goal

pub loop-generator-preserved : goal.loop-generator-preserved
loop-generator-preserved c = λ H firsts.
    let f = image_named c.args.schema.now (scope_of H) c.args.given.now c.args.parts.now in
    let names = names_of (take c.loop-generator.generator-index c.args.generators.now) in
    let name : Name = c.generator-item.result.0 in
    c.in_ok-push.ensures.items ∙ (λ k. c.loop-generator.invariant H firsts k ++ c.in_ok-make_image.ensures H firsts k ∷ []) ∙ sym (map-append f names (name ∷ []))
    ∙ ap (map f)
    (map_more (λ (g : Name × Sort). g.0) c.args.generators.now c.loop-generator.generator-index c.generator-item.result names (names ++ name ∷ []) name c.loop-generator-test.true c.generator-item.is
    refl refl refl)

pub returns : goal.returns
returns c = λ H firsts.
    let f = image_named c.args.schema.now (scope_of H) c.args.given.now c.args.parts.now in
    c.loop-generator.invariant H firsts
    ∙ ap (λ (l : List (Name × Sort)). map f (names_of l)) (take_all c.loop-generator.generator-index c.args.generators.now c.loop-generator-test.false)
