use Rattle.std.proofs.Common.{map, sym, ap, subst, ◌∙◌}
use Rattle.std.specs.Prelude.{All}
use Rattle.cq_theory.specs.Schema.{IsSchema}
use Rattle.cq_theory.specs.Sorts.{IsGround}
use Rattle.cq_instance.specs.Standing.{meaning}
use Rattle.cq_transform.specs.Transforms.{term_of, meanings_in}
use Rattle.cq_transform.proofs.Made.{images_ground, made_goes}
use Rattle.cq_transform.proofs.transforming.transform_of_images.Goals as goal

pub standings-requires : goal.standings-requires
standings-requires c =
    subst (All (λ image. IsGround c.args.target.now.schema c.args.target.now.presentation (term_of image))) (sym c.as_slice.ensures.value)
    (images_ground c.args.source.now c.args.target.now c.requires.schema c.is_instance.ensures c.args.images.items c.requires.sorted)

pub returns-in-Ok-finished-clause-goes : goal.returns-in-Ok-finished-clause-goes
returns-in-Ok-finished-clause-goes c =
    made_goes c.args.source.now c.args.target.now c.requires.schema c.is_instance.ensures c.args.images.items c.requires.sorted c.requires.kept
    (subst IsSchema c.schema_of.ensures c.is_well_sorted.ensures) (map meaning c.as_slice-2.result.now)
    (ap (map meaning) c.as_slice-2.ensures.value ∙ c.in-Ok.ensures ∙ ap (meanings_in c.args.target.now) c.as_slice.ensures.value)
    c.in-Ok-finished.made c.in-Ok-finished.ensures.images c.in-Ok-finished.ensures.rows c.in-Ok-finished.ensures.nulls
