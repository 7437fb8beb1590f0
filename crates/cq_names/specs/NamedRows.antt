-- The rows that a walk names, numbered by entity.
use Rattle.std.specs.Prelude.{ℕ, List, length}
use Rattle.cq_tables.specs.Content.{Content}
use Rattle.cq_theory.specs.declared.presentation.Presentation.{Presentation}
use Rattle.cq_theory.specs.declared.term.EntTerm.{EntTerm}
use Rattle.cq_theory.specs.SchemaData.{SchemaData as Schema}
use Rattle.cq_names.specs.declared.numbers.NumberedRows.{NumberedRows}
use Rattle.cq_names.specs.RowNumbers.{AreNumberedAs}
use Rattle.cq_names.specs.Walking.{IsWalkOf}

module _ (S : Schema) (P : Presentation) (m : Content) (entries : List ℕ) where
  pub record AreNamedRows (numbered : NumberedRows) : Type 0 where
    pub names : List EntTerm
    pub walk : IsWalkOf S P m entries numbered.rows names
    pub numbers : AreNumberedAs m (length S.entities) numbered.rows names numbered
