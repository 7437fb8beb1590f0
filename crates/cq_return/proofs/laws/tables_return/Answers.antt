use Rattle.cq_theory.proofs.OneModel.{same_models}
use Rattle.cq_theory.specs.Canonical.{canonical, canonical_assignment}
use Rattle.cq_return.proofs.AcceptedAgain.{is_presentation}
use Rattle.cq_return.proofs.ListedAgain.{lists_again}
use Rattle.cq_return.proofs.ListedCells.{cells_short}
use Rattle.cq_return.proofs.laws.tables_return.Goals as goal

pub returns : goal.returns
returns c = record {
  lists = λ S P M A schema lists. lists_again S M schema lists.initial.holds.well_formed lists.initial.holds.schema P A lists;
  same = λ i N B is schema listed few other.
      let S = i.schema in
      let M = i.tables in
      let well = listed.lists.initial.holds.well_formed in
      let cells = cells_short S M schema well i.presentation i.assignment listed.lists in
      same_models S (canonical S M) schema (is_presentation i is schema cells few) N M B (canonical_assignment S M) other
      (lists_again S M schema well listed.lists.initial.holds.schema i.presentation i.assignment listed.lists);
}
