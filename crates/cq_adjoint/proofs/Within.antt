-- Lists of images of which none is too long.
use Rattle.std.proofs.Common.{ℕ, Bool, true, false, List, [], ◌∷◌, ◌++◌, Some, ◌≡◌, ◌<◌, ◌||◌, map, length, get_or, ap, subst, ◌∙◌}
use Rattle.std.specs.Prelude.{slice_get}
use Rattle.std.specs.List.{enumerate_from}
use Rattle.std.proofs.lemmas.List.Folds.{list_any_at}
use Rattle.std.proofs.lemmas.Option.{slice_get_within, get_or_from_slice_get}
use Rattle.cq_theory.specs.declared.refusal.SizeRefusal.{SizeRefusal}
use Rattle.cq_theory.specs.declared.refusal.SizeRefusal.TheVariants.{TooLarge, Memory}
use Rattle.cq_instance.specs.declared.transform.Image.{Image}
use Rattle.cq_instance.proofs.Enumerated.{get-enumerate}
use Rattle.cq_instance.proofs.Lists.{get-map}
use Rattle.cq_move.specs.Pulling.{TellsSize}
use Rattle.cq_transform.specs.Composing.{is_long, has_long}
use Rattle.cq_transform.proofs.Loops.{read_at}

-- one more that isn't too long
pub fits_more : (images : List Image) (image : Image) → has_long images ≡ false → is_long image ≡ false → has_long (images ++ image ∷ []) ≡ false
fits_more [] image none short = ap (λ (b : Bool). b || false) short
fits_more (x ∷ images) image none short = at_test (is_long x) none (λ h. fits_more images image h short)
  where
    at_test : (b : Bool) → (b || has_long images) ≡ false → (has_long images ≡ false → has_long (images ++ image ∷ []) ≡ false) → (b || has_long (images ++ image ∷ [])) ≡ false
    at_test true h rest = cc
    at_test false h rest = rest h

-- a refusal at one image is one of them all
pub tells_of : (images : List Image) (n : ℕ) (image : Image) (refusal : SizeRefusal) → slice_get images n ≡ Some image → TellsSize (is_long image) refusal → TellsSize (has_long images) refusal
tells_of images n image TooLarge at h = list_any_at is_long images n image (slice_get_within images n image at) (ap is_long (get_or_from_slice_get images n image image at) ∙ h)
tells_of images n image Memory at h = tt

-- so for the image of a member, and of a member with its number
pub tells_mapped : {X : Type 0} (f : X → Image) (xs : List X) (k : ℕ) (x : X) (image : Image) (refusal : SizeRefusal) → k < length xs → x ≡ get_or xs k x → image ≡ f x
    → TellsSize (is_long image) refusal → TellsSize (has_long (map f xs)) refusal
tells_mapped f xs k x image refusal within is made h =
    tells_of (map f xs) k (f x) refusal (get-map f xs k x (read_at xs k x within is)) (subst (λ (y : Image). TellsSize (is_long y) refusal) made h)

pub tells_numbered : {X : Type 0} (f : ℕ × X → Image) (xs : List X) (k : ℕ) (x : X) (image : Image) (refusal : SizeRefusal) → k < length xs → x ≡ get_or xs k x → image ≡ f (k, x)
    → TellsSize (is_long image) refusal → TellsSize (has_long (map f (enumerate_from 0 xs))) refusal
tells_numbered f xs k x image refusal within is made h =
    tells_of (map f (enumerate_from 0 xs)) k (f (k, x)) refusal (get-map f (enumerate_from 0 xs) k (k, x) (get-enumerate xs k x (read_at xs k x within is)))
    (subst (λ (y : Image). TellsSize (is_long y) refusal) made h)
