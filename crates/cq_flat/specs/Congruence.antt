-- The least congruence on the nodes of a list that contains some equations and makes equal constants equal.
use Rattle.std.specs.Prelude.{◌≡◌, ℕ, ◌<◌, List, [], ◌∷◌, length, Some, slice_get}
use Rattle.cq_theory.specs.declared.constant.Con.{Con}
use Rattle.cq_flat.specs.declared.node.Node.{Node}
use Rattle.cq_flat.specs.declared.node.Node.TheVariants.{Const, Fun}

mutual
  pub data Congruent (nodes : List Node) (equations : List (ℕ × ℕ)) : ℕ → ℕ → Type 0 where
    reflexive : (a : ℕ) → a < length nodes → Congruent nodes equations a a
    symmetric : {a b : ℕ} → Congruent nodes equations a b → Congruent nodes equations b a
    transitive : {a b c : ℕ} → Congruent nodes equations a b → Congruent nodes equations b c → Congruent nodes equations a c
    given : {a b : ℕ} (i : ℕ) → slice_get equations i ≡ Some (a, b) → Congruent nodes equations a b
    constants : {a b : ℕ} (c : Con) → slice_get nodes a ≡ Some (Const c) → slice_get nodes b ≡ Some (Const c)
        → Congruent nodes equations a b
    functions : {a b : ℕ} {xs ys : List ℕ} (f : ℕ) → slice_get nodes a ≡ Some (Fun f xs) → slice_get nodes b ≡ Some (Fun f ys)
        → AllCongruent nodes equations xs ys → Congruent nodes equations a b

  -- two lists of arguments, place by place
  pub data AllCongruent (nodes : List Node) (equations : List (ℕ × ℕ)) : List ℕ → List ℕ → Type 0 where
    none : AllCongruent nodes equations [] []
    more : {x y : ℕ} {xs ys : List ℕ} → Congruent nodes equations x y → AllCongruent nodes equations xs ys
        → AllCongruent nodes equations (x ∷ xs) (y ∷ ys)
