-- The command of the program, in the terms of `clap`.
use Rattle.std.specs.Prelude.{[], ◌∷◌, Some, true, codes, pos}
use Rattle.clap.specs.Words.{App, Rule, Shape, new_app, new_rule, with_rule, with_subcommand}
use Rattle.clap.specs.declared.builder.value_parser.ValueParser.TheVariants as value

abbrev pub file_rule : Rule
file_rule = record (new_rule (codes "FILE")) { required = true }

abbrev pub instance_rule : Rule
instance_rule = record (new_rule (codes "INSTANCE")) { required = true }

abbrev pub left_rule : Rule
left_rule = record (new_rule (codes "LEFT")) { required = true }

abbrev pub right_rule : Rule
right_rule = record (new_rule (codes "RIGHT")) { required = true }

-- a number from 1 to 199,999
abbrev pub size_rule : Rule
size_rule = record (new_rule (codes "N")) {
  required = true;
  parser = Some (value.Signed (pos 1) (pos 199999));
}

-- a number from 0 to 64, or 16
abbrev pub depth_rule : Rule
depth_rule = record (new_rule (codes "depth")) {
  long = Some (codes "depth");
  parser = Some (value.Unsigned 0 64);
  defaults = codes "16" ∷ [];
}

abbrev pub only_rule : Rule
only_rule = record (new_rule (codes "only")) { long = Some (codes "only") }

abbrev pub run_app : App
run_app = with_rule (with_rule (with_rule (new_app (codes "run")) file_rule) depth_rule) only_rule

abbrev pub example_app : App
example_app = with_rule (new_app (codes "example")) size_rule

-- the first three words of `explain`
abbrev pub explained_app : App
explained_app = with_rule (with_rule (with_rule (new_app (codes "explain")) file_rule) instance_rule) left_rule

abbrev pub explain_app : App
explain_app = with_rule (with_rule explained_app right_rule) depth_rule

-- the words have no program's name before them, and one of the forms is wanted
abbrev pub top_shape : Shape
top_shape = record (new_app (codes "cqlrun")).top {
  no_binary_name = true;
  subcommand_required = true;
}

abbrev pub top_app : App
top_app = record { top = top_shape; subs = [] }

abbrev pub two_forms : App
two_forms = with_subcommand (with_subcommand top_app run_app.top) example_app.top

abbrev pub the_command : App
the_command = with_subcommand two_forms explain_app.top
