use Rattle.std.proofs.Common.{◌≡◌, map, take, drop}
use Rattle.std.specs.List.{list_any}
use Rattle.cq_transform.specs.Composing.{put_image, is_long}
use Rattle.cq_transform.proofs.composing.composed_images.Given as goal

abbrev pub invariant-loop-image : goal.invariant-loop-image
invariant-loop-image l = record {
  made : l.made.items ≡ map (put_image l.second) (take l.image-index l.first);
  rest : list_any is_long (map (put_image l.second) (drop l.image-index l.first)) ≡ list_any is_long (map (put_image l.second) l.first);
}
