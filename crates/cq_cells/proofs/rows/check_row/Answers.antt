use Rattle.std.proofs.Common.{◌∷◌, ◌++◌, [], ◌∙◌, ap, subst, arith}
use Rattle.cq_base.specs.Names.{number_of}
use Rattle.cq_cells.specs.Found.{found_in}
use Rattle.cq_cells.specs.Index.{IsIndexOf}
use Rattle.cq_cells.proofs.Listing.{lists_same}
use Rattle.cq_cells.proofs.rows.check_row.Goals as goal

pub returns-clause-index : goal.returns-clause-index
returns-clause-index c = λ ids index many.
    subst (λ f. IsIndexOf (ids ++ f ∷ []) c.note_id.new.places) c.field.ensures (c.in_ok-before.ensures.index ids index (omega arith))

pub returns-clause-found : goal.returns-clause-found
returns-clause-found c = λ ids index.
    let known = c.in_ok-before.ensures.known ids index ∙ ap (number_of ids) c.field.ensures in
    lists_same _ _ _ _ (λ name. c.fault_of_row-fault.ensures name ids known ∙ ap (found_in _) known) c.in_ok-add.ensures
