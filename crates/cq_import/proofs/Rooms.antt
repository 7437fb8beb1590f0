-- There is room for the labels.
use Rattle.std.proofs.Common.{ℕ, Bool, true, false, List, [], ◌∷◌, ◌++◌, ◌+◌, ◌<◌, ◌≤◌, ◌≡◌, Option, Some, None, length, refl, arith}
use Rattle.std.specs.Prelude.{IfSome, nat_lt, if◌then◌else◌}
use Rattle.std.proofs.lemmas.Bool.{ltb-true}
use Rattle.std.proofs.lemmas.List.{length_push}
use Rattle.cq_import.specs.declared.labels.Trouble.{Trouble}
use Rattle.cq_import.specs.declared.labels.Trouble.TheVariants.{Full}
use Rattle.cq_import.specs.Labels.{Use, Labels, Room, new_trouble, then_trouble, trouble_at, type_of_label, use_trouble, uses_trouble, with_new, with_use, with_uses}

abbrev pub Fits : ℕ → Labels → Type 0
Fits first labels = first + length labels ≤ 16000000

abbrev pub HasRoom : ℕ → Room → Type 0
HasRoom first room = IfSome room (λ most. first + most ≤ 16000000)

is_less : (n m : ℕ) (b : Bool) → nat_lt n m ≡ b → ◌≡◌ {A = Option Trouble} (if b then None else Some Full) None → n < m
is_less n m true e h = ltb-true n m e
is_less n m false e h = cc h

new_fits : (first : ℕ) (room : Room) (labels : Labels) (u : Use) → HasRoom first room → new_trouble room labels ≡ None → Fits first (labels ++ u ∷ [])
new_fits first None labels u has none = cc none
new_fits first (Some most) labels u has none =
    let less = is_less (length labels) most (nat_lt (length labels) most) refl none in
    omega (arith, less, has, length_push labels u)

use_fits : (first : ℕ) (room : Room) (labels : Labels) (u : Use) (o : Option ℕ) → HasRoom first room → trouble_at room labels u o ≡ None → Fits first labels → Fits first (with_new labels u o)
use_fits first room labels u None has none fits = new_fits first room labels u has none
use_fits first room labels u (Some known) has none fits = fits

pub neither : (a b : Option Trouble) → then_trouble a b ≡ None → (a ≡ None) × (b ≡ None)
neither None b none = (refl, none)
neither (Some t) b none = cc none

pub uses_fit : (first : ℕ) (room : Room) (labels : Labels) (us : List Use) → HasRoom first room → uses_trouble room labels us ≡ None → Fits first labels → Fits first (with_uses labels us)
uses_fit first room labels [] has none fits = fits
uses_fit first room labels (u ∷ us) has none fits =
    let both = neither (use_trouble room labels u) (uses_trouble room (with_use labels u) us) none in
    uses_fit first room (with_use labels u) us has both.1 (use_fits first room labels u (type_of_label labels u.0) has both.0 fits)
