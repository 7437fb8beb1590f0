use Rattle.std.proofs.Common.{codes, ◌≡◌, false}
use Rattle.clap.specs.Words.{app_of, new_app, with_rule}
use Rattle.clap.specs.declared.builder.command.Command.TheViews.{out-Command as fields_of}
use Rattle.cq_words.specs.Line.{explained_app, file_rule, instance_rule, left_rule}
use Rattle.cq_words.proofs.Forms.{if_ok, with_argument, still_local}
use Rattle.cq_words.proofs.command.explained.Goals as goal

pub returns-clause-app : goal.returns-clause-app
returns-clause-app c =
    let one = with_argument c.new.result c.in_ok-arg.field-0 c.file_arg.result (new_app (codes "explain")) file_rule c.in_ok-arg.ensures c.file_arg.ensures.local c.file_arg.ensures.rule c.new.ensures.app in
    let two = with_argument c.in_ok-arg.field-0 c.in_ok-arg-2.field-0 c.instance_arg.result (with_rule (new_app (codes "explain")) file_rule) instance_rule c.in_ok-arg-2.ensures c.instance_arg.ensures.local c.instance_arg.ensures.rule one in
    if_ok c.arg-3.result _ (λ command. app_of command ≡ explained_app)
    (λ made adds. with_argument c.in_ok-arg-2.field-0 made c.left_arg.result (with_rule (with_rule (new_app (codes "explain")) file_rule) instance_rule) left_rule adds c.left_arg.ensures.local c.left_arg.ensures.rule two)
    c.arg-3.ensures

pub returns-clause-local : goal.returns-clause-local
returns-clause-local c =
    let one = still_local c.new.result c.in_ok-arg.field-0 c.file_arg.result c.in_ok-arg.ensures c.file_arg.ensures.local c.new.ensures.local in
    let two = still_local c.in_ok-arg.field-0 c.in_ok-arg-2.field-0 c.instance_arg.result c.in_ok-arg-2.ensures c.instance_arg.ensures.local one in
    if_ok c.arg-3.result _ (λ command. (fields_of command).has_globals ≡ false)
    (λ made adds. still_local c.in_ok-arg-2.field-0 made c.left_arg.result adds c.left_arg.ensures.local two)
    c.arg-3.ensures
