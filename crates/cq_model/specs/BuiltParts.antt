-- What is made on the way to a listed model, and what refuses it.
use Rattle.std.specs.Prelude.{ℕ, false, List, [], map, length}
use Rattle.cq_tables.specs.Content.{Content}
use Rattle.cq_model.specs.declared.refusal.BuildRefusal.{BuildRefusal}
use Rattle.cq_model.specs.declared.refusal.BuildRefusal.TheVariants.{Depth, TooManyRows, Inconsistent, Memory}
use Rattle.cq_model.specs.declared.building.ClosedRows.{ClosedRows}
use Rattle.cq_model.specs.declared.building.ModelParts.{ModelParts}
use Rattle.cq_names.specs.declared.numbers.NumberedRows.{NumberedRows}
use Rattle.cq_model.specs.declared.places.ClosedPlaces.{ClosedPlaces}
use Rattle.cq_model.specs.declared.places.Places.{Places}
use Rattle.cq_model.specs.Built.{tables_of, assignment_of}
use Rattle.cq_model.specs.Equating.{IsPresented}
use Rattle.cq_instance.specs.InstanceData.{InstanceData}
use Rattle.cq_model.specs.NodeListData.{NodeListData}
use Rattle.cq_model.specs.NodeTerms.{leaf_terms, ArePlaces}
use Rattle.cq_model.specs.Pushing.{HavePlaces, AreEquationsOf}
use Rattle.cq_instance.specs.Standing.{meaning}
use Rattle.cq_theory.specs.declared.presentation.Presentation.{Presentation}
use Rattle.cq_theory.specs.SchemaData.{SchemaData as Schema}
use Rattle.cq_theory.specs.declared.term.EntTerm.{EntTerm}
use Rattle.cq_theory.specs.Closing.{IsInconsistentAt}
use Rattle.cq_theory.specs.Tables.{Tables, Assignment}

module _ (S : Schema) (P : Presentation) where
  module _ (m : Content) (entries : List ℕ) where
    -- the leaves alone, with no equation, and where they stand
    pub record AreLeaves (names : List (List EntTerm)) (places : Places) (list : NodeListData) : Type 0 where
      pub have : HavePlaces S m places (length list.nodes)
      pub presented : IsPresented S m places P entries (length list.nodes)
      pub places_are : ArePlaces m entries places (leaf_terms S P names) S P
      pub listed : AreEquationsOf S m places P entries (leaf_terms S P names) [] list

  -- the instance of these names and parts
  abbrev pub instance_of : List (List EntTerm) → ModelParts → InstanceData
  instance_of names parts = record {
    schema = S;
    presentation = P;
    names = names;
    tables = record { sheet = parts.sheet; algebra = parts.algebra };
    assignment = map meaning parts.standings;
    given = false;
  }

  -- where the rows are closed, only equal constants and want of memory refuse a model
  abbrev pub IsRefusal : BuildRefusal → Type 0
  IsRefusal Depth = ⊥
  IsRefusal TooManyRows = ⊥
  IsRefusal (Inconsistent c d) = IsInconsistentAt S P c d
  IsRefusal Memory = Unit {0}

-- the tables, and what the generators stand for, where nodes of these types were closed
module _ (rows : ClosedRows) (numbered : NumberedRows) (closed : ClosedPlaces) where
  abbrev pub tables_read : List ℕ → Tables
  tables_read types = tables_of rows.schema.now rows.presentation.now rows.tables.now rows.entries.now numbered.order numbered.numbers
      closed.places.now types closed.flat.now

  abbrev pub assignment_read : Assignment
  assignment_read = assignment_of rows.schema.now rows.presentation.now rows.tables.now rows.entries.now numbered.order numbered.numbers
      closed.places.now closed.flat.now.values
