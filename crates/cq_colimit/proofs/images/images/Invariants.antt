use Rattle.std.proofs.Common.{ℕ, List, ◌≡◌, take, map, length}
use Rattle.std.specs.List.{flat_map}
use Rattle.cq_theory.specs.Canonical.{below}
use Rattle.cq_colimit.specs.Appended.{ArePathEqs, AreObsEqs}
use Rattle.cq_colimit.specs.Classes.{class_of}
use Rattle.cq_colimit.specs.Joined.{inclusion, path_eq_images, obs_eq_images}
use Rattle.cq_colimit.proofs.images.images.Given as goal

abbrev pub invariant-loop-part : goal.invariant-loop-part
invariant-loop-part l =
    ((links : List (ℕ × ℕ)) → l.numbers ≡ map (class_of links) (below (length l.numbers)) → l.made.path_eqs.items ≡ flat_map (λ part. path_eq_images (inclusion links l.target.value part)) (take l.part-index l.parts))
    × ((links : List (ℕ × ℕ)) → l.numbers ≡ map (class_of links) (below (length l.numbers)) → l.made.obs_eqs.items ≡ flat_map (λ part. obs_eq_images (inclusion links l.target.value part)) (take l.part-index l.parts))
    × ArePathEqs l.target.value l.made.path_eqs.items × AreObsEqs l.target.value l.made.obs_eqs.items
