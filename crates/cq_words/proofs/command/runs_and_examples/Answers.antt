use Rattle.std.proofs.Common.{◌≡◌}
use Rattle.clap.specs.Words.{app_of, with_subcommand}
use Rattle.cq_words.specs.Line.{example_app, run_app, top_app, two_forms}
use Rattle.cq_words.proofs.Forms.{if_ok, wants_form, with_form}
use Rattle.cq_words.proofs.command.runs_and_examples.Goals as goal

pub returns : goal.returns
returns c =
    let wanted = wants_form c.new.result c.no_binary_name.result c.subcommand_required.result c.new.ensures.app c.no_binary_name.ensures c.subcommand_required.ensures in
    let one = with_form c.subcommand_required.result c.in_ok-run_command.field-0 c.in_ok-subcommand.field-0 top_app run_app c.in_ok-subcommand.ensures c.in_ok-run_command.ensures.local c.in_ok-run_command.ensures.app wanted in
    if_ok c.subcommand-2.result _ (λ command. app_of command ≡ two_forms)
    (λ made adds. with_form c.in_ok-subcommand.field-0 c.in_ok-example_command.field-0 made (with_subcommand top_app run_app.top) example_app adds c.in_ok-example_command.ensures.local c.in_ok-example_command.ensures.app one)
    c.subcommand-2.ensures
