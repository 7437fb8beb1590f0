use Rattle.std.proofs.Common.{map}
use Rattle.cq_transform.specs.Gluing.{coproduct_of}
use Rattle.cq_push.proofs.coproducts.coproduct.Goals as goal

pub build_presented-requires : goal.build_presented-requires
build_presented-requires c = record {
  presentation = c.coproduct_presentation-presented.ensures.presentation c.args.schema.value c.requires.over;
  depth = c.requires.depth;
}

pub returns : goal.returns
returns c = c.build_presented.ensures (coproduct_of (map (λ part. part.value.presentation) c.args.parts.now)) c.coproduct_presentation-presented.ensures.presents
