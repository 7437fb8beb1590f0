-- The trees of terms.
use Rattle.std.specs.Prelude.{List, map}
use Rattle.cq_base.specs.declared.raw.Raw.{Raw}
use Rattle.cq_rules.specs.Tree.{Trees, trees}
use Rattle.cq_syntax.specs.Terms.{tree_of}

abbrev pub trees_of : List Raw → Trees
trees_of terms = trees (map tree_of terms)
