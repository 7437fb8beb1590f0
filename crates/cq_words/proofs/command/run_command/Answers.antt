use Rattle.std.proofs.Common.{codes, ◌≡◌, false}
use Rattle.clap.specs.Words.{app_of, new_app, with_rule}
use Rattle.clap.specs.declared.builder.command.Command.TheViews.{out-Command as fields_of}
use Rattle.cq_words.specs.Line.{depth_rule, file_rule, only_rule, run_app}
use Rattle.cq_words.proofs.Forms.{if_ok, with_argument, still_local}
use Rattle.cq_words.proofs.command.run_command.Goals as goal

pub returns-clause-app : goal.returns-clause-app
returns-clause-app c =
    let one = with_argument c.new.result c.in_ok-arg.field-0 c.file_arg.result (new_app (codes "run")) file_rule c.in_ok-arg.ensures c.file_arg.ensures.local c.file_arg.ensures.rule c.new.ensures.app in
    let two = with_argument c.in_ok-arg.field-0 c.in_ok-arg-2.field-0 c.depth_arg.result (with_rule (new_app (codes "run")) file_rule) depth_rule c.in_ok-arg-2.ensures c.depth_arg.ensures.local c.depth_arg.ensures.rule one in
    if_ok c.arg-3.result _ (λ command. app_of command ≡ run_app)
    (λ made adds. with_argument c.in_ok-arg-2.field-0 made c.only_arg.result (with_rule (with_rule (new_app (codes "run")) file_rule) depth_rule) only_rule adds c.only_arg.ensures.local c.only_arg.ensures.rule two)
    c.arg-3.ensures

pub returns-clause-local : goal.returns-clause-local
returns-clause-local c =
    let one = still_local c.new.result c.in_ok-arg.field-0 c.file_arg.result c.in_ok-arg.ensures c.file_arg.ensures.local c.new.ensures.local in
    let two = still_local c.in_ok-arg.field-0 c.in_ok-arg-2.field-0 c.depth_arg.result c.in_ok-arg-2.ensures c.depth_arg.ensures.local one in
    if_ok c.arg-3.result _ (λ command. (fields_of command).has_globals ≡ false)
    (λ made adds. still_local c.in_ok-arg-2.field-0 made c.only_arg.result adds c.only_arg.ensures.local two)
    c.arg-3.ensures
