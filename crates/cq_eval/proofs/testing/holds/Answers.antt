use Rattle.std.proofs.Common.{map, ◌≡◌, sym, ap, ◌∙◌}
use Rattle.cq_theory.specs.Tables.{Tables, AtRow, Assignment, value_of}
use Rattle.cq_instance.specs.SameValue.{same_value}
use Rattle.cq_instance.proofs.SameValues.{same_is}
use Rattle.cq_eval.specs.Testing.{holds_at}
use Rattle.cq_eval.proofs.testing.holds.Goals as goal

pub returns-in_ok-right-in-Typ : goal.returns-in_ok-right-in-Typ
returns-in_ok-right-in-Typ c =
    let M : Tables = c.args.instance.now.tables in
    let left : c.in_ok-left-in-Typ.left ≡ value_of M (map AtRow c.args.choice.now) c.in-Typ.left =
    c.in_ok-left-in-Typ.ensures ∙ ap (λ (A : Assignment). value_of M A c.in-Typ.left) c.standings-standings.ensures in
    let right : c.in_ok-right-in-Typ.right ≡ value_of M (map AtRow c.args.choice.now) c.in-Typ.right =
    c.in_ok-right-in-Typ.ensures ∙ ap (λ (A : Assignment). value_of M A c.in-Typ.right) c.standings-standings.ensures in
    same_is c.is_same_value.result c.in_ok-left-in-Typ.left c.in_ok-right-in-Typ.right c.is_same_value.ensures
    ∙ (λ j. same_value (left j) (right j)) ∙ ap (holds_at M c.args.choice.now) (sym c.in-Typ.is)
