use Rattle.std.proofs.Common.{Err, ap}
use Rattle.cq_model.proofs.BuildingRefusals.{cause_of}
use Rattle.cq_model.proofs.Presenting.{presented_of}
use Rattle.cq_model.proofs.presented.build_presented.Goals as goal

pub returns-in-Err : goal.returns-in-Err
returns-in-Err c = λ P presents.
    let of = presented_of P c.in-Ok.presentation c.args.presented c.in-Ok.is presents in
    cause_of c.args.schema.value P c.in-Ok.presentation c.args.depth c.in-Err.refusal c.from.result of.0 c.from.ensures of.1
    (λ h. c.in-Err.ensures.open (ap Err h)) (λ h. c.in-Err.ensures.many (ap Err h)) (λ least greater h. c.in-Err.ensures.inconsistent least greater (ap Err h))
