use Rattle.std.proofs.Common.{map, refl}
use Rattle.cq_program.specs.Named.{listed_as}
use Rattle.cq_run.specs.Asked.{IsReply}
use Rattle.cq_run.specs.Writing.{no_memory}
use Rattle.cq_run.proofs.Asking.{replied_with}
use Rattle.cq_run.proofs.top.answer_question.Goals as goal

pub returns-in-Ok : goal.returns-in-Ok
returns-in-Ok g c =
    replied_with (IsReply c.args.name.now c.args.left.now c.args.right.now (map listed_as c.args.instances.now)) _ _ c.in-Ok.reply.status c.tell.result
    c.in-Ok.reply.line.items c.as_slice.result.now c.as_slice.ensures.value c.in-Ok.ensures c.tell.ensures

pub returns-in-Err : goal.returns-in-Err
returns-in-Err g c = no_memory refl refl
