use Rattle.std.proofs.Common.{◌≡◌, ◌++◌, ℕ, List, subst, sym, OnOk}
use Rattle.cq_place.proofs.Pasts.{past_bytes, past_text}
use Rattle.cq_place.proofs.past.append_past.Goals as goal

pub returns-in-Ok : goal.returns-in-Ok
returns-in-Ok c =
    subst (λ (p : List ℕ). OnOk c.append_past_text.result (c.append_past_text.new.out.items ≡ c.args.out.now.items ++ p))
    (sym (past_text c.args.bytes.now c.in-Ok.text.now c.in-Ok.ensures.cases.1 c.in-Ok.ensures.cases.0)) c.append_past_text.ensures

pub returns-in-Err : goal.returns-in-Err
returns-in-Err c =
    subst (λ (p : List ℕ). OnOk c.append_past_bytes.result (c.append_past_bytes.new.out.items ≡ c.args.out.now.items ++ p))
    (sym (past_bytes c.args.bytes.now c.in-Err.ensures.cases.0)) c.append_past_bytes.ensures
