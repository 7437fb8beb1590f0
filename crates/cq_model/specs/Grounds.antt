-- What type terms become nodes over.
use Rattle.std.specs.Prelude.{ℕ, List}
use Rattle.cq_model.specs.declared.places.Ground.{Ground}
use Rattle.cq_model.specs.Equating as equating
use Rattle.cq_model.specs.NodeListData.{NodeListData}
use Rattle.cq_model.specs.Pushing as pushing
use Rattle.cq_theory.specs.declared.presentation.Presentation.{Presentation}
use Rattle.cq_theory.specs.declared.schema.ObsEq.{ObsEq}
use Rattle.cq_theory.specs.declared.term.TypeTerm.{TypeTerm}

module _ (ground : Ground) where
  abbrev pub HavePlaces : ℕ → Type 0
  HavePlaces count = pushing.HavePlaces ground.schema.now ground.tables.now ground.places.now count

  abbrev pub IsReadable : List ℕ → ℕ → TypeTerm → Type 0
  IsReadable rows count t = pushing.IsReadable ground.schema.now ground.tables.now ground.places.now rows count t

  abbrev pub IsPushed : List ℕ → NodeListData → NodeListData → TypeTerm → ℕ → Type 0
  IsPushed rows old new t place = pushing.IsPushed ground.schema.now ground.tables.now ground.places.now rows old new t place

  abbrev pub IsEquated : List ℕ → NodeListData → NodeListData → TypeTerm → TypeTerm → Type 0
  IsEquated rows old new t u = pushing.IsEquated ground.schema.now ground.tables.now ground.places.now rows old new t u

  abbrev pub IsPresented : Presentation → List ℕ → ℕ → Type 0
  IsPresented P entries count = equating.IsPresented ground.schema.now ground.tables.now ground.places.now P entries count

  abbrev pub AddsSides : Presentation → List ℕ → List (TypeTerm × TypeTerm) → NodeListData → NodeListData → Type 0
  AddsSides P entries more old new = equating.AddsSides ground.schema.now ground.tables.now ground.places.now P entries more old new

  abbrev pub AddsAtRow : ℕ → List ObsEq → ℕ → NodeListData → NodeListData → Type 0
  AddsAtRow entity equations row old new =
      equating.AddsAtRow ground.schema.now ground.tables.now ground.places.now entity equations row old new

  abbrev pub AddsAtRows : ℕ → List ℕ → NodeListData → NodeListData → Type 0
  AddsAtRows entity rows old new = equating.AddsAtRows ground.schema.now ground.tables.now ground.places.now entity rows old new

  abbrev pub AddsObservations : List (List ℕ) → ℕ → NodeListData → NodeListData → Type 0
  AddsObservations order n old new = equating.AddsObservations ground.schema.now ground.tables.now ground.places.now order n old new
