-- The nodes that stand for type terms over rows. The first nodes are those of the rows, one for each that was made, and then those of the
-- generators. An attribute of an entity term is a function of the row to which the term leads.
use Rattle.std.specs.Prelude.{ℕ, Bool, true, List, [], ◌∷◌, ◌+◌, ◌&&◌, Some, ◌≡◌, is_some, slice_get}
use Rattle.cq_tables.specs.Content.{Content, made_of}
use Rattle.cq_rows.specs.Rows.{row_of_term}
use Rattle.cq_flat.specs.declared.node.Node.{Node}
use Rattle.cq_flat.specs.declared.node.Node.TheVariants as node
use Rattle.cq_theory.specs.declared.constant.Con.{Con}
use Rattle.cq_theory.specs.declared.term.EntTerm.{EntTerm}
use Rattle.cq_theory.specs.declared.term.TypeTerm.{TypeTerm}
use Rattle.cq_theory.specs.declared.term.TypeTerm.TheVariants as term
use Rattle.cq_theory.specs.declared.term.TypeTerm.TheOpen.{TypeTerm-F, Gen, Const, Att, Fun}
use Rattle.cq_theory.specs.declared.term.TypeTerm.TheFolds.{fold-TypeTerm}

abbrev pub all_true : List Bool → Bool
all_true [] = true
all_true (b ∷ bs) = b && all_true bs

-- whether each entity term in a type term leads to a row, where `rows` has the row of each generator
abbrev pub traced_step : Content → List ℕ → TypeTerm-F Bool → Bool
traced_step m rows (Gen n) = true
traced_step m rows (Const c) = true
traced_step m rows (Att a t) = is_some (row_of_term m rows t)
traced_step m rows (Fun f traced) = all_true traced

abbrev pub is_traced : Content → List ℕ → TypeTerm → Bool
is_traced m rows = fold-TypeTerm Bool (traced_step m rows)

-- the node at p stands for the term t
mutual
  pub data Stands (m : Content) (rows : List ℕ) (nodes : List Node) : TypeTerm → ℕ → Type 0 where
    generator : {t : TypeTerm} {p : ℕ} (n : ℕ) → t ≡ term.Gen n → p ≡ made_of m + n → Stands m rows nodes t p
    constant : {t : TypeTerm} {p : ℕ} (c : Con) → t ≡ term.Const c → slice_get nodes p ≡ Some (node.Const c) → Stands m rows nodes t p
    cell : {t : TypeTerm} {p : ℕ} (a r : ℕ) (u : EntTerm) → t ≡ term.Att a u → row_of_term m rows u ≡ Some r
        → slice_get nodes p ≡ Some (node.Fun a (r ∷ [])) → Stands m rows nodes t p
    function : {t : TypeTerm} {p : ℕ} (f : ℕ) (ts : List TypeTerm) (ps : List ℕ) → t ≡ term.Fun f ts
        → slice_get nodes p ≡ Some (node.Fun f ps)
        → EachStands m rows nodes ts ps → Stands m rows nodes t p

  -- each of ts has its fellow of ps
  pub data EachStands (m : Content) (rows : List ℕ) (nodes : List Node) : List TypeTerm → List ℕ → Type 0 where
    none : EachStands m rows nodes [] []
    more : {t : TypeTerm} {ts : List TypeTerm} {p : ℕ} {ps : List ℕ} → Stands m rows nodes t p → EachStands m rows nodes ts ps
        → EachStands m rows nodes (t ∷ ts) (p ∷ ps)
