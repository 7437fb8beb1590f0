use Rattle.std.proofs.Common.{◌∙◌, ap, sym, subst}
use Rattle.cq_instance.specs.InstanceData.{InstanceData, IsInstance}
use Rattle.cq_program.specs.Named.{listed_as}
use Rattle.cq_theory.specs.Schema.{IsSchema}
use Rattle.cq_run.proofs.Asking.{asks_again}
use Rattle.cq_run.proofs.Made.{IsInitial, made_initial}
use Rattle.cq_run.proofs.question.reply_about.Goals as goal

pub explanation-requires : goal.explanation-requires
explanation-requires c =
    let well = subst IsInstance c.deref.ensures c.is_instance.ensures in
    let sorted = subst IsSchema (c.deref-3.ensures ∙ c.schema.ensures.schema ∙ ap (λ (i : InstanceData). i.schema) c.deref-2.ensures) c.is_well_sorted.ensures in
    subst IsInitial (sym c.deref-4.ensures) (made_initial (listed_as c.args.named.now) c.requires well sorted)

pub returns-in_ok-line-in-Err-BadTerm : goal.returns-in_ok-line-in-Err-BadTerm
returns-in_ok-line-in-Err-BadTerm c = (
  λ equation asks.
      let memory = c.in-Err-BadTerm.ensures.only equation
      (asks_again _ _ _ _ _ _ equation (sym c.deref-4.ensures) (sym c.as_bytes.ensures.value) (sym c.as_bytes-2.ensures.value) asks) in
      absurd (cc (memory, c.in-Err-BadTerm.field-0-is)),
  c.in_ok-line-in-Err-BadTerm.ensures,
)
