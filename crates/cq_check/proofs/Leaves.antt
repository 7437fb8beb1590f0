-- A list of leaves alone.
use Rattle.std.proofs.Common.{ℕ, zero, suc, List, [], ◌++◌, Option, Some, ◌≡◌, ◌<◌, ◌+◌, length, refl, sym, ap, subst, ◌∙◌, arith}
use Rattle.std.specs.Prelude.{slice_get, replicate}
use Rattle.std.proofs.lemmas.List.{replicate-append-replicate, length-replicate}
use Rattle.std.proofs.lemmas.Option.{slice_get_within}
use Rattle.cq_tables.specs.Content.{Content, made_of}
use Rattle.cq_flat.specs.declared.node.Node.{Node}
use Rattle.cq_flat.specs.declared.node.Node.TheVariants as node
use Rattle.cq_check.specs.NodeListData.{NodeListData}
use Rattle.cq_check.specs.Sound.{AreSound}
use Rattle.cq_check.specs.Adding.{Grows, IsPushed}
use Rattle.cq_check.proofs.Listed.{sound_more}
use Rattle.cq_theory.specs.declared.presentation.Presentation.{Presentation}
use Rattle.cq_theory.specs.SchemaData.{SchemaData as Schema}
use Rattle.cq_theory.specs.declared.term.TypeTerm.{TypeTerm}
use Rattle.cq_theory.specs.Sorts.{type_of}

leaf_at : (n p : ℕ) → p < n → slice_get (replicate n node.Leaf) p ≡ Some node.Leaf
leaf_at zero p h = absurd (omega (arith, h))
leaf_at (suc n) zero h = refl
leaf_at (suc n) (suc p) h = leaf_at n p (omega (arith, h))

only_leaves : (n p : ℕ) (content : Node) → slice_get (replicate n node.Leaf) p ≡ Some content → content ≡ node.Leaf
only_leaves zero p content h = cc
only_leaves (suc n) zero content h = cc
only_leaves (suc n) (suc p) content h = only_leaves n p content h

module _ (S : Schema) (P : Presentation) (m : Content) (entries : List ℕ) where
  leaves_sound : AreSound S P m entries (record { nodes = replicate (made_of m + length P.generators) node.Leaf; equations = [] })
  leaves_sound =
      let n : ℕ = made_of m + length P.generators in
      record {
        leaves = leaf_at n;
        count = omega (arith, length-replicate n node.Leaf);
        earlier = λ p f args is. let wrong : node.Fun f args ≡ node.Leaf = only_leaves n p (node.Fun f args) is in cc;
        named = λ p behind within. absurd (omega (arith, behind, within, length-replicate n node.Leaf));
        equal = λ i a b at. cc;
      }

  -- as the code makes it
  pub made_sound : (none rows all : NodeListData) (made count : ℕ) → none ≡ record { nodes = []; equations = [] }
      → rows ≡ record { nodes = none.nodes ++ replicate made node.Leaf; equations = none.equations } → all ≡ record { nodes = rows.nodes ++ replicate count node.Leaf; equations = rows.equations }
      → made ≡ made_of m → count ≡ length P.generators → AreSound S P m entries all
  made_sound none rows all made count none_is rows_are all_are made_is count_is =
      let rows_here : rows ≡ record { nodes = replicate made node.Leaf; equations = [] } = rows_are ∙ ap (λ (l : NodeListData). record { nodes = l.nodes ++ replicate made node.Leaf; equations = l.equations }) none_is in
      let all_here : all ≡ record { nodes = replicate made node.Leaf ++ replicate count node.Leaf; equations = [] } =
      all_are ∙ ap (λ (l : NodeListData). record { nodes = l.nodes ++ replicate count node.Leaf; equations = l.equations }) rows_here in
      let whole : all ≡ record { nodes = replicate (made_of m + length P.generators) node.Leaf; equations = [] } =
      all_here ∙ ap (λ (l : List Node). record { nodes = l; equations = [] }) (replicate-append-replicate made count node.Leaf ∙ (λ i. replicate (made_is i + count_is i) node.Leaf)) in
      subst (AreSound S P m entries) (sym whole) leaves_sound

  -- the nodes of a term are added
  pub pushed_grows : (old new : NodeListData) (t : TypeTerm) (place : Option ℕ) → IsPushed m entries old.nodes new.nodes t place → new.equations ≡ old.equations → Grows old new
  pushed_grows old new t place h same = record { nodes = h.extends; count = h.count; equations = λ p x at. ap (λ (l : List (ℕ × ℕ)). slice_get l p) same ∙ at }

  pub pushed_sound : (old new : NodeListData) (t : TypeTerm) (type : ℕ) (place : _) → type_of S P.generators t ≡ Some type → IsPushed m entries old.nodes new.nodes t place → new.equations ≡ old.equations
      → AreSound S P m entries old → AreSound S P m entries new
  pushed_sound old new t type place sort h same before =
      sound_more S P m entries old new (pushed_grows old new t place h same) h.earlier (h.named S P.generators type sort)
      (λ i a b behind at. absurd (omega (arith, behind, past i (a, b) (ap (λ (l : List (ℕ × ℕ)). slice_get l i) (sym same) ∙ at)))) before
    where
      past : (i : ℕ) (e : ℕ × ℕ) → slice_get old.equations i ≡ Some e → i < length old.equations
      past i e at = slice_get_within old.equations i e at
