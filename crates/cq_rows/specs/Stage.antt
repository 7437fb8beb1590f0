-- What stands at the end of each stage.
use Rattle.std.specs.Prelude.{◌≡◌, ℕ, List, length, Some, None, slice_get, slice_index}
use Rattle.cq_tables.specs.Content.{Content, IsWhole}
use Rattle.cq_rows.specs.Theory.{Term, Theory}
use Rattle.cq_rows.specs.Rows.{no_row, IsSound, AllNamed, AllTraced, RulesHold, GivenHold}

-- before the merging of stage j
pub record IsGrown (s : Theory) (m : Content) (rows : List ℕ) (j : ℕ) : Type 0 where
  pub whole : IsWhole m
  pub count : length rows ≡ length s.generators
  pub rowless : (g : ℕ) → slice_get s.generators g ≡ Some None → slice_index rows g ≡ no_row
  pub sound : (terms : ℕ → Term) × IsSound s m rows terms
  pub named : AllNamed s m rows j
  pub traced : AllTraced s m rows j

-- at the end of stage j
pub record IsStage (s : Theory) (m : Content) (rows : List ℕ) (j : ℕ) : Type 0 where
  pub grown : IsGrown s m rows j
  pub rules : RulesHold s m
  pub given : GivenHold s m rows
