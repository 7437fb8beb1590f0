-- Terms of nulls, as far as they are known after some terms.
use Rattle.std.specs.Prelude.{ℕ, Bool, true, false, List, Option, Some, None, ◌++◌, ◌≡◌, if◌then◌else◌, fold, map, slice_get}
use Rattle.std.specs.List.{enumerate_from}
use Rattle.cq_theory.specs.Resolve.{or_else}
use Rattle.cq_theory.specs.declared.schema.ObsEq.{ObsEq}
use Rattle.cq_theory.specs.declared.term.EntTerm.{EntTerm}
use Rattle.cq_theory.specs.declared.term.TypeTerm.{TypeTerm}
use Rattle.cq_theory.specs.declared.value.Value.{Value}
use Rattle.cq_theory.specs.declared.value.Value.TheVariants.{Null}
use Rattle.cq_theory.specs.TypeTerm.{substituted}
use Rattle.cq_theory.specs.Listed.{subterms}
use Rattle.cq_theory.specs.Sorts.{Generators, type_of}
use Rattle.cq_theory.specs.Tables.{Assignment, value_of}
use Rattle.cq_instance.specs.InstanceData.{InstanceData}
use Rattle.cq_instance.specs.Spelling.{is_null}
use Rattle.cq_instance.specs.Terms.{AreStandings}

abbrev pub is_open : Option (Option TypeTerm) → Bool
is_open (Some None) = true
is_open _ = false

-- the value is a null without a term
abbrev pub lacks : List (Option TypeTerm) → Value → Bool
lacks known (Null label) = is_open (slice_get known label)
lacks known _ = false

-- the term of a null, once a term is seen that means a value
abbrev pub learned_of : Value → TypeTerm → ℕ × Option TypeTerm → Option TypeTerm
learned_of v t known = or_else known.1 (if is_null known.0 v then Some t else None)

-- the terms of nulls, once a term is seen that means a value
abbrev pub learned : Value → TypeTerm → List (Option TypeTerm) → List (Option TypeTerm)
learned v t known = map (learned_of v t) (enumerate_from 0 known)

-- a term over the generators, or over a variable in whose place a row's name stands
abbrev pub node_at : Option EntTerm → TypeTerm → TypeTerm
node_at None t = t
node_at (Some name) t = substituted name t

-- the nodes of a term and its subterms
abbrev pub nodes_in : Option EntTerm → TypeTerm → List TypeTerm
nodes_in name t = map (node_at name) (subterms t)

-- the nodes of both sides
abbrev pub side_nodes : Option EntTerm → TypeTerm → TypeTerm → List TypeTerm
side_nodes name left right = nodes_in name left ++ nodes_in name right

-- the nodes of an equation of the schema at a row with this name
abbrev pub observed : EntTerm → ObsEq → List TypeTerm
observed name e = subterms (substituted name e.left) ++ subterms (substituted name e.right)

module _ (i : InstanceData) where
  abbrev pub seen : List (Option TypeTerm) → TypeTerm → List (Option TypeTerm)
  seen known t = learned (value_of i.tables i.assignment t) t known

  -- the terms of nulls, once these terms are seen
  abbrev pub learned_from : List (Option TypeTerm) → List TypeTerm → List (Option TypeTerm)
  learned_from = fold seen

  -- A term is read over generators that stand for these rows and values, and what a term over them means, its node means in the instance.
  pub record IsReadable (standings : Assignment) (name : Option EntTerm) (t : TypeTerm) : Type 0 where
    pub generators : Generators
    pub stand : AreStandings i.schema i.tables generators standings
    pub means : (u : TypeTerm) (type : ℕ) → type_of i.schema generators u ≡ Some type
        → value_of i.tables i.assignment (node_at name u) ≡ value_of i.tables standings u
    pub type : ℕ
    pub typed : type_of i.schema generators t ≡ Some type
