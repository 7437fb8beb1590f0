use Rattle.std.proofs.Common.{refl}
use Rattle.cq_run.proofs.Gives.{usage_gives, refusal_gives, unread_gives, instances_give}
use Rattle.cq_run.proofs.Asking.{meant_slice}
use Rattle.cq_run.proofs.Complete.{run_completes}
use Rattle.cq_run.proofs.top.run.Goals as goal

pub returns-in-Ok-None-clause-gives : goal.returns-in-Ok-None-clause-gives
returns-in-Ok-None-clause-gives g c =
    usage_gives _ _ _ _ _ (rw c.in-Ok-None.field-0-is at c.in-Ok-None.ensures.reads) c.tell.ensures c.as_bytes.ensures.value refl refl

pub returns-in-Refused-clause-gives : goal.returns-in-Refused-clause-gives
returns-in-Refused-clause-gives g c =
    let judged = c.in-Refused.ensures.answers in
    refusal_gives _ _ _ _ _ _ _ judged.text (rw c.in-Ok-Some.field-0-is at c.in-Ok-Some.ensures.reads) c.tell-in-Refused.ensures
    c.as_slice.ensures.value judged.is_text judged.judges (rw c.only_of.ensures at c.keep_format.ensures) refl

pub returns-in-Unread-clause-gives : goal.returns-in-Unread-clause-gives
returns-in-Unread-clause-gives g c =
    unread_gives _ _ _ _ _ _ _ (rw c.in-Ok-Some.field-0-is at c.in-Ok-Some.ensures.reads) c.tell-in-Unread.ensures
    c.as_slice-in-Unread.ensures.value c.in-Unread.ensures.answers (rw c.only_of.ensures at c.keep_format.ensures) refl

pub publish-requires : goal.publish-requires
publish-requires g c =
    let judged = c.in-Accepted.ensures.answers in
    meant_slice _ judged.text _ _ refl judged.judges

pub returns-in-Accepted-clause-gives : goal.returns-in-Accepted-clause-gives
returns-in-Accepted-clause-gives g c =
    let judged = c.in-Accepted.ensures.answers in
    instances_give _ _ _ _ judged.text _ _ _ _ (rw c.in-Ok-Some.field-0-is at c.in-Ok-Some.ensures.reads) judged.is_text judged.judges
    refl c.publish.ensures (rw c.only_of.ensures at c.keep_format.ensures) refl

pub returns-in-Ok-None-clause-complete : goal.returns-in-Ok-None-clause-complete
returns-in-Ok-None-clause-complete g c = run_completes _ _ _ _ (returns-in-Ok-None-clause-gives g c)

pub returns-in-Refused-clause-complete : goal.returns-in-Refused-clause-complete
returns-in-Refused-clause-complete g c = run_completes _ _ _ _ (returns-in-Refused-clause-gives g c)

pub returns-in-Unread-clause-complete : goal.returns-in-Unread-clause-complete
returns-in-Unread-clause-complete g c = run_completes _ _ _ _ (returns-in-Unread-clause-gives g c)

pub returns-in-Accepted-clause-complete : goal.returns-in-Accepted-clause-complete
returns-in-Accepted-clause-complete g c = run_completes _ _ _ _ (returns-in-Accepted-clause-gives g c)
