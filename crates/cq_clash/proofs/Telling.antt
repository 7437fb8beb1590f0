-- What is told over a presentation is told over some presentation.
use Rattle.std.proofs.Common.{ℕ, List, Bool, true, false, Result, Ok, Err, IfOk}
use Rattle.cq_theory.specs.SchemaData.{SchemaData as Schema}
use Rattle.cq_theory.specs.declared.presentation.Presentation.{Presentation}
use Rattle.cq_conflict.specs.Telling.{Tells as TellsOver}
use Rattle.cq_clash.specs.Clash.{Tells}

over_some : (S : Schema) (P : Presentation) (least greater old new : List ℕ) (found : Bool) → TellsOver S P least greater old new found → Tells least greater old new found
over_some S P least greater old new true told = record { schema = S; presentation = P; tells = told }
over_some S P least greater old new false told = told

pub told_over : {E : Type 0} (S : Schema) (P : Presentation) (least greater old new : List ℕ) (r : Result Bool E) → IfOk r (TellsOver S P least greater old new) → IfOk r (Tells least greater old new)
told_over S P least greater old new (Ok found) told = over_some S P least greater old new found told
told_over S P least greater old new (Err e) told = told
