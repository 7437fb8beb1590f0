use Rattle.std.proofs.Common.{◌≡◌, Option, ap, ◌∙◌}
use Rattle.std.specs.Prelude.{option_and_then}
use Rattle.cq_lex.specs.declared.token.Token.{Token}
use Rattle.cq_known.specs.Spelled.{place_and_number}
use Rattle.cq_known.proofs.spelled.first_spelled.Goals as goal

pub returns-in-Some : goal.returns-in-Some
returns-in-Some c =
    c.place_and_number.ensures ∙ ap (λ (found : Option Token). option_and_then (place_and_number c.args.names.now) found) c.in-Some.ensures

pub returns-in-None : goal.returns-in-None
returns-in-None c = ap (λ (found : Option Token). option_and_then (place_and_number c.args.names.now) found) c.in-None.ensures
