-- The rows that a walk names, numbered by entity.
use Rattle.std.proofs.Common.{ℕ, List, ◌≡◌, ◌<◌, length, refl, sym, subst}
use Rattle.std.specs.Prelude.{All}
use Rattle.cq_tables.specs.Content.{Content, made_of}
use Rattle.cq_theory.specs.declared.presentation.Presentation.{Presentation}
use Rattle.cq_theory.specs.SchemaData.{SchemaData as Schema}
use Rattle.cq_theory.specs.declared.term.EntTerm.{EntTerm}
use Rattle.cq_names.specs.declared.numbers.NumberedRows.{NumberedRows}
use Rattle.cq_names.specs.NamedRows.{AreNamedRows}
use Rattle.cq_names.specs.Closed.{AreClosed}
use Rattle.cq_names.specs.LeastNames.{AreNumbered}
use Rattle.cq_names.specs.RowNumbers.{AreNumberedAs}
use Rattle.cq_names.specs.Walking.{IsWalkOf}
use Rattle.cq_instance.proofs.Lists.{All_from}
use Rattle.cq_names.proofs.NumberedNames.{walk_live, are_numbered}

module _ (S : Schema) (P : Presentation) (m : Content) (entries : List ℕ) (closed : AreClosed S P m entries)
    (rows : List ℕ) (names : List EntTerm) (walk : IsWalkOf S P m entries rows names) where
  pub walk_made : All (λ row. row < made_of m) rows
  walk_made = All_from (λ row. row < made_of m) rows (λ i r h. closed.whole.made r (walk_live S P m entries closed rows names walk i r h))

  pub named_rows : (entities : ℕ) (numbered : NumberedRows) → entities ≡ length S.entities → AreNumberedAs m entities rows names numbered → AreNamedRows S P m entries numbered
  named_rows entities numbered count are = record {
    names = names;
    walk = subst (λ (l : List ℕ). IsWalkOf S P m entries l names) (sym are.rows_are) walk;
    numbers = subst (λ (p : ℕ × List ℕ). AreNumberedAs m p.0 p.1 names numbered) (λ i. (count i, sym are.rows_are i)) are;
  }

pub numbered_rows : (S : Schema) (P : Presentation) (m : Content) (entries : List ℕ) → AreClosed S P m entries → (numbered : NumberedRows) → AreNamedRows S P m entries numbered
    → AreNumbered S P m entries numbered.order numbered.names numbered.numbers
numbered_rows S P m entries closed numbered named =
    are_numbered S P m entries closed numbered.rows named.names named.walk (length S.entities) refl numbered.order numbered.names numbered.numbers
    named.numbers.order_is named.numbers.names_are named.numbers.numbers_are
