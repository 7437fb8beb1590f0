use Rattle.std.proofs.Common.{map, sym}
use Rattle.cq_program.specs.Named.{listed_as}
use Rattle.cq_run.proofs.Asking.{replied_about}
use Rattle.cq_run.proofs.Made.{named_is_made}
use Rattle.cq_run.proofs.question.reply_to.Goals as goal

pub reply_about-requires : goal.reply_about-requires
reply_about-requires c =
    named_is_made c.args.name.now (map listed_as c.args.instances.now) (listed_as c.in-Some.named.now) c.requires (sym c.in-Some.ensures)

pub returns-in-Some : goal.returns-in-Some
returns-in-Some c =
    replied_about c.args.name.now c.args.left.now c.args.right.now (map listed_as c.args.instances.now) (listed_as c.in-Some.named.now) c.reply_about.result
    (sym c.in-Some.ensures) c.reply_about.ensures
