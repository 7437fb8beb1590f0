-- Terms as they are written, and the trees of the grammar.
use Rattle.std.specs.Prelude.{List, [], ◌∷◌, ◌≡◌, map}
use Rattle.std.proofs.Common.{refl, sym, ap, ◌∙◌}
use Rattle.cq_base.specs.declared.name.Name.{Name}
use Rattle.cq_base.specs.declared.place.Place.{Place}
use Rattle.cq_base.specs.declared.raw.Raw.{Raw}
use Rattle.cq_base.specs.declared.raw.Raw.TheVariants as raws
use Rattle.cq_base.specs.declared.raw.Raw.TheOpen.{Raw-F}
use Rattle.cq_base.specs.declared.raw.Raw.TheOpen as layer
use Rattle.cq_base.specs.declared.raw.Raw.TheFolds.{fold-Raw, fold-roll-Raw}
use Rattle.cq_rules.specs.Tree.{Tree, Trees, Word, Text, App, more, end, trees}
use Rattle.cq_syntax.specs.declared.part.TermSyn.{TermSyn}

abbrev pub tree_step : Raw-F Tree → Tree
tree_step (layer.Word n) = Word n
tree_step (layer.Text n) = Text n
tree_step (layer.App f args) = App f (trees args)

-- the tree of a term
abbrev pub tree_of : Raw → Tree
tree_of = fold-Raw Tree tree_step

-- the term of a tree
abbrev mutual
  pub raw_of : Tree → Raw
  raw_of (Word n) = raws.Word n
  raw_of (Text n) = raws.Text n
  raw_of (App f vs) = raws.App f (raws_of vs)

  pub raws_of : Trees → List Raw
  raws_of end = []
  raws_of (more v vs) = raw_of v ∷ raws_of vs

tree_of-Word : (n : Name) → tree_of (raws.Word n) ≡ Word n
tree_of-Word n = ap tree_of (sym (raws.rolls-Word n)) ∙ fold-roll-Raw Tree tree_step (layer.Word n)

tree_of-Text : (n : Name) → tree_of (raws.Text n) ≡ Text n
tree_of-Text n = ap tree_of (sym (raws.rolls-Text n)) ∙ fold-roll-Raw Tree tree_step (layer.Text n)

tree_of-App : (f : Name) (args : List Raw) → tree_of (raws.App f args) ≡ App f (trees (map tree_of args))
tree_of-App f args = ap tree_of (sym (raws.rolls-App f args)) ∙ fold-roll-Raw Tree tree_step (layer.App f args)

mutual
  pub tree_of-raw_of : (v : Tree) → tree_of (raw_of v) ≡ v
  tree_of-raw_of (Word n) = tree_of-Word n
  tree_of-raw_of (Text n) = tree_of-Text n
  tree_of-raw_of (App f vs) = tree_of-App f (raws_of vs) ∙ ap (λ z. App f z) (trees_of-raws_of vs)

  pub trees_of-raws_of : (vs : Trees) → trees (map tree_of (raws_of vs)) ≡ vs
  trees_of-raws_of end = refl
  trees_of-raws_of (more v vs) = ap (λ z. more z (trees (map tree_of (raws_of vs)))) (tree_of-raw_of v)
      ∙ ap (λ z. more v z) (trees_of-raws_of vs)

abbrev pub term_of : Place × Tree → TermSyn
term_of p = record { place = p.0; raw = raw_of p.1 }

abbrev pub term_parts : TermSyn → Place × Tree
term_parts t = (t.place, tree_of t.raw)

pub term_back : (p : Place × Tree) → term_parts (term_of p) ≡ p
term_back p = ap (λ z. (p.0, z)) (tree_of-raw_of p.1)
