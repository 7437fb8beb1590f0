-- What a command is told of, one argument or one form after another.
use Rattle.std.proofs.Common.{◌≡◌, true, false, codes, Ok, Err, IfOk, ap, ◌∙◌}
use Rattle.std.specs.declared.result.Result.{Result}
use Rattle.clap.specs.Words.{AddsArg, AddsSubcommand, App, Rule, app_of, new_app, rule_of, with_rule, with_subcommand}
use Rattle.clap.specs.Simple.{app_of_fields}
use Rattle.clap.specs.declared.builder.arg.Arg.{Arg}
use Rattle.clap.specs.declared.builder.command.Command.{Command}
use Rattle.clap.specs.declared.builder.command.Command.TheOpen.{Command-F}
use Rattle.clap.specs.declared.builder.command.Command.TheViews.{out-Command as fields_of}
use Rattle.cq_words.specs.Line.{top_app}

pub if_ok : {T E : Type 0} (r : Result T E) (P Q : T → Type 0) → ((x : T) → P x → Q x) → IfOk r P → IfOk r Q
if_ok (Ok x) P Q f h = f x h
if_ok (Err e) P Q f h = h

pub with_argument : (old new : Command) (a : Arg) (x : App) (r : Rule) → AddsArg old a new → a.global ≡ false → rule_of a ≡ r → app_of old ≡ x → app_of new ≡ with_rule x r
with_argument old new a x r adds local rule is = adds.shape local ∙ (λ i. with_rule (is i) (rule i))

pub still_local : (old new : Command) (a : Arg) → AddsArg old a new → a.global ≡ false → (fields_of old).has_globals ≡ false → (fields_of new).has_globals ≡ false
still_local old new a adds local before = rw (before, local) at adds.globals

pub with_form : (old sub new : Command) (x s : App) → AddsSubcommand old sub new → (fields_of sub).has_globals ≡ false → app_of sub ≡ s → app_of old ≡ x → app_of new ≡ with_subcommand x s.top
with_form old sub new x s adds local form is = adds.shape local ∙ (λ i. with_subcommand (is i) (form i).top)

-- without a program's name, and a form is wanted
pub wants_form : (first second third : Command) → app_of first ≡ new_app (codes "cqlrun") → fields_of second ≡ record (fields_of first) { no_binary_name = true }
    → fields_of third ≡ record (fields_of second) { subcommand_required = true } → app_of third ≡ top_app
wants_form first second third is nameless wanted =
    ap app_of_fields (wanted ∙ ap (λ (c : Command-F Command). record c { subcommand_required = true }) nameless)
    ∙ ap (λ (a : App). record { top = record a.top { no_binary_name = true; subcommand_required = true }; subs = a.subs }) is
