use Rattle.std.proofs.Common.{subst, sym, ◌∙◌}
use Rattle.cq_return.specs.Accepted.{IsAccepted}
use Rattle.cq_return.proofs.AcceptedAgain as again
use Rattle.cq_return.proofs.Answered.{reads}
use Rattle.cq_return.proofs.laws.files_are_accepted.Goals as goal

pub returns : goal.returns
returns c = record {
  accepted = λ i path name files is returnable holds rows.
      subst (IsAccepted i.schema) (sym (reads i path name files is returnable holds).1)
      (again.accepted i is returnable.schema (λ k d within j e inside. (returnable.cells k d within j e inside).symbols) returnable.few rows);
  same = λ i j path name files is returnable holds initial same presents listed.
      again.returned i is returnable.schema (λ k d within j e inside. (returnable.cells k d within j e inside).symbols) returnable.few j initial same
      (presents ∙ (reads i path name files is returnable holds).1) listed;
}
