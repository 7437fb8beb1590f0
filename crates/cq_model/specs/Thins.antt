-- Lists of which some members are left out.
use Rattle.std.specs.Prelude.{List, [], ◌∷◌}

-- ys has the members of xs in order, but for some that may be left out
pub data Thins {X : Type 0} (Skips : X → Type 0) : List X → List X → Type 0 where
  ended : Thins Skips [] []
  kept : {xs ys : List X} (x : X) → Thins Skips xs ys → Thins Skips (x ∷ xs) (x ∷ ys)
  skipped : {xs ys : List X} (x : X) → Skips x → Thins Skips xs ys → Thins Skips (x ∷ xs) ys
