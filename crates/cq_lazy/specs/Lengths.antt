-- Bounds on the lengths of terms, which go along with composition.
use Rattle.std.specs.Prelude.{ℕ, List, ◌≤◌, ◌+◌, ◌*◌, All, length, sum}
use Rattle.cq_theory.specs.declared.presentation.Equation.{Equation}
use Rattle.cq_theory.specs.declared.presentation.Equation.TheVariants.{Ent, Typ}
use Rattle.cq_theory.specs.declared.term.EntTerm.{EntTerm}
use Rattle.cq_theory.specs.declared.term.TypeTerm.{TypeTerm}
use Rattle.cq_theory.specs.declared.term.TypeTerm.TheOpen.{TypeTerm-F, Gen, Const, Att, Fun}
use Rattle.cq_theory.specs.declared.term.TypeTerm.TheFolds.{fold-TypeTerm}
use Rattle.cq_blocks.specs.declared.block.Block.{Block}
use Rattle.cq_query.specs.QueryData.{QueryData as Query}
use Rattle.cq_lazy.specs.declared.lengths.Lengths.{Lengths}

-- The length of a term over a schema, where what stands for a foreign key follows `keys` keys, and what stands for an
-- attribute has `symbols` symbols, in which a variable occurs `leaves` times.
module _ (m : Lengths) where
  abbrev pub path_length : List ℕ → ℕ
  path_length path = m.keys * length path

  -- where each variable has followed x keys already
  abbrev pub length_step : ℕ → TypeTerm-F ℕ → ℕ
  length_step x (Gen n) = 1
  length_step x (Const c) = 1
  length_step x (Att a t) = m.symbols + m.leaves * (path_length t.path + x)
  length_step x (Fun f counts) = sum counts + 1

  abbrev pub length_at : ℕ → TypeTerm → ℕ
  length_at x = fold-TypeTerm ℕ (length_step x)

-- each key follows one key, and each attribute is one of its variable
abbrev pub plain : Lengths
plain = record { keys = 1; symbols = 2; leaves = 1; most = 2 }

-- both sides of the equation have at most so many symbols
abbrev pub IsShortTest : Lengths → ℕ → Equation → Type 0
IsShortTest m most (Ent t u) = (path_length m t.path + 1 ≤ most) × (path_length m u.path + 1 ≤ most)
IsShortTest m most (Typ t u) = (length_at m 0 t ≤ most) × (length_at m 0 u ≤ most)

-- With lengths m for its source, what a query has for its target's keys and attributes has lengths n, and no where
-- equation is longer than `most`.
module _ (m n : Lengths) where
  abbrev pub IsShortKey : EntTerm → Type 0
  IsShortKey t = path_length m t.path ≤ n.keys

  abbrev pub IsShortAttribute : TypeTerm → Type 0
  IsShortAttribute t = (x : ℕ) → length_at m x t ≤ n.symbols + n.leaves * x

  pub record IsShortBlock (b : Block) : Type 0 where
    pub tests : All (IsShortTest m n.most) b.tests
    pub attributes : All IsShortAttribute b.attributes
    pub keys : All (All IsShortKey) b.keys

-- the same of all blocks of a query, and `most` is as long as any term
pub record AreLengths (m : Lengths) (Q : Query) (n : Lengths) : Type 0 where
  pub some : 1 ≤ n.symbols
  pub symbols : n.symbols ≤ n.most
  pub keys : n.keys + 1 ≤ n.most
  pub blocks : All (IsShortBlock m n) Q.blocks

-- no bound is less
pub record AreWider (m n : Lengths) : Type 0 where
  pub keys : m.keys ≤ n.keys
  pub symbols : m.symbols ≤ n.symbols
  pub leaves : m.leaves ≤ n.leaves
  pub most : m.most ≤ n.most
