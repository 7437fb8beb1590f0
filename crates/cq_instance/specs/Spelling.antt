-- Terms that spell the nulls of an instance.
use Rattle.std.specs.Prelude.{ℕ, Bool, false, List, Some, ◌≡◌, ◌==◌, if◌then◌else◌, find, length, map, slice_get, slice_index_or}
use Rattle.std.specs.Option.{unwrap_or}
use Rattle.cq_theory.specs.declared.constant.Con.TheVariants.{Named}
use Rattle.cq_theory.specs.declared.term.TypeTerm.{TypeTerm}
use Rattle.cq_theory.specs.declared.term.TypeTerm.TheVariants.{Gen, Const}
use Rattle.cq_theory.specs.declared.value.Value.{Value}
use Rattle.cq_theory.specs.declared.value.Value.TheVariants.{Null}
use Rattle.cq_theory.specs.Canonical.{below, null_generator}
use Rattle.cq_theory.specs.Listed.{nodes}
use Rattle.cq_theory.specs.Sorts.{type_of}
use Rattle.cq_theory.specs.Tables.{value_of}
use Rattle.cq_instance.specs.InstanceData.{InstanceData}

-- the term of a null
abbrev pub term_among : List TypeTerm → ℕ → TypeTerm
term_among terms label = slice_index_or terms label (Const (Named 0))

-- each null has a term of its type that means it
abbrev pub AreNullsSpelled : InstanceData → (ℕ → TypeTerm) → Type 0
AreNullsSpelled j null_term = (label type : ℕ) → slice_get j.tables.algebra.nulls label ≡ Some type
    → (type_of j.schema j.presentation.generators (null_term label) ≡ Some type)
    × (value_of j.tables j.assignment (null_term label) ≡ Null label)

abbrev pub is_null : ℕ → Value → Bool
is_null label (Null n) = n == label
is_null label _ = false

module _ (i : InstanceData) where
  -- the term means the null
  abbrev pub means_null : ℕ → TypeTerm → Bool
  means_null label t = is_null label (value_of i.tables i.assignment t)

  -- the first of the nodes that means the null
  abbrev pub first_node : ℕ → TypeTerm
  first_node label = unwrap_or (find (means_null label) (nodes i.schema i.presentation i.names)) (Const (Named 0))

  -- the generator of the null among those of given tables
  abbrev pub own_term : ℕ → TypeTerm
  own_term label = Gen (null_generator i.schema i.tables label)

  -- where the tables were given, each null is spelled by its generator, and else by the first node that means it
  abbrev pub null_terms_of : List TypeTerm
  null_terms_of = map (λ label. if i.given then own_term label else first_node label) (below (length i.tables.algebra.nulls))

  abbrev pub null_term_of : ℕ → TypeTerm
  null_term_of = term_among null_terms_of
