-- What a node is looked up by.
use Rattle.std.specs.Prelude.{◌≡◌, ℕ, zero, suc, Bool, IsTrue, List, [], ◌∷◌, map, Option, Some, None, nat_eq}
use Rattle.std.specs.Cmp.Lexicographic.{pointwise, same_text}
use Rattle.std.specs.Hash as fed
use Rattle.std.specs.Hash.{HashWrites}
use Rattle.std.proofs.Common.{ap, sym}
use Rattle.std.specs.Map.{lookup}
use Rattle.cq_theory.specs.declared.constant.Con.{Con}
use Rattle.cq_theory.specs.declared.constant.Con.TheVariants.{Named, Open}
use Rattle.cq_flat.specs.declared.node.Node.{Node}
use Rattle.cq_flat.specs.declared.node.Node.TheVariants.{Leaf, Const, Fun}

-- a declared constant by its number, and an open one by its text
abbrev pub con_key : Con → List ℕ
con_key (Named n) = 0 ∷ 0 ∷ n ∷ []
con_key (Open text) = 1 ∷ text

-- a constant, or a function with the classes of its arguments; a leaf has no key
abbrev pub key_of : (ℕ → ℕ) → Node → Option (List ℕ)
key_of class Leaf = None
key_of class (Const c) = Some (con_key c)
key_of class (Fun f args) = Some (0 ∷ 1 ∷ f ∷ map class args)

abbrev pub same_key : List ℕ → List ℕ → Bool
same_key = pointwise nat_eq

-- what a hasher is fed of a list of numbers
abbrev pub fed_numbers : List ℕ → HashWrites
fed_numbers numbers = fed.slice fed.u64 numbers

pub fed_alike : (k q : List ℕ) → IsTrue (pointwise nat_eq k q) → fed_numbers k ≡ fed_numbers q
fed_alike k q h = ap fed_numbers (same_text k q (sym h))

-- the entries of a table, with a number before each key
abbrev pub tagged : ℕ → List (List ℕ × ℕ) → List (List ℕ × ℕ)
tagged tag entries = map (λ (e : List ℕ × ℕ). (tag ∷ e.0, e.1)) entries

-- the node of a table at a key
abbrev pub found : List (List ℕ × ℕ) → List ℕ → Option ℕ
found table key = lookup (same_key key) table
