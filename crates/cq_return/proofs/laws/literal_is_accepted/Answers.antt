use Rattle.std.proofs.Common.{subst, sym, ◌∙◌}
use Rattle.cq_return.specs.Accepted.{IsAccepted}
use Rattle.cq_return.proofs.AcceptedAgain as again
use Rattle.cq_return.proofs.LiteralReturned as returned
use Rattle.cq_return.proofs.laws.literal_is_accepted.Goals as goal

pub returns : goal.returns
returns c = record {
  accepted = λ i name schema is writable rows d declares.
      subst (IsAccepted i.schema) (sym (returned.gives i is writable name schema d declares).1)
      (again.accepted i is writable.schema (λ k d within j e inside. (writable.cells k d within j e inside).symbols) writable.few rows);
  same = λ i j name schema is writable initial d declares same presents listed.
      again.returned i is writable.schema (λ k d within j e inside. (writable.cells k d within j e inside).symbols) writable.few j initial same
      (presents ∙ (returned.gives i is writable name schema d declares).1) listed;
}
