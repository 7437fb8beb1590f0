-- A block of the second query, seen through the first.
use Rattle.std.specs.Prelude.{ℕ, List, ◌≡◌, ◌≤◌, map, length, slice_index_or}
use Rattle.cq_theory.specs.declared.term.EntTerm.{EntTerm}
use Rattle.cq_theory.specs.EntTerm.{alone}
use Rattle.cq_theory.specs.Canonical.{below}
use Rattle.cq_query.specs.Translation.{variables_at, along}
use Rattle.cq_compose.specs.declared.frame.Frame.{Frame}
use Rattle.cq_compose.specs.Composite.{first_of, components, term_components, component_entities}

-- the starts are the first components of the variables, and there are at most 16,000,000 components
pub record IsFrame (frame : Frame) : Type 0 where
  pub starts : frame.starts.now ≡ map (first_of frame.first.now frame.second.now frame.entity)
      (below (length (variables_at frame.second.now frame.entity)))
  pub few : length (component_entities frame.first.now frame.second.now frame.entity) ≤ 16000000

-- the components of a term over the block
abbrev pub terms_of : Frame → EntTerm → List EntTerm
terms_of frame t = term_components frame.first.now frame.second.now frame.entity t

-- the components at the end of a path from a variable, and one of them
abbrev pub components_along : Frame → ℕ → List ℕ → List EntTerm
components_along frame variable path = along frame.first.now
    (components frame.first.now frame.second.now frame.entity variable) path

abbrev pub component_along : Frame → ℕ → List ℕ → ℕ → EntTerm
component_along frame variable path place = slice_index_or (components_along frame variable path) place (alone 0)
