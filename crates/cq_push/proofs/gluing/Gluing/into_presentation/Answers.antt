use Rattle.std.proofs.Common.{◌≡◌, false, sym, ap, ◌∙◌}
use Rattle.std.specs.List.{list_any}
use Rattle.cq_theory.specs.Presentation.{has_long_side}
use Rattle.cq_push.proofs.Limits.{within_limits}
use Rattle.cq_push.proofs.gluing.Gluing.into_presentation.Goals as goal

pub returns-clause-accepted : goal.returns-clause-accepted
returns-clause-accepted c =
    let short : list_any has_long_side c.args.self.equations.items ≡ false =
    ap (list_any has_long_side) (sym c.as_slice.ensures.value) ∙ sym c.has_long_sides.ensures ∙ c.if-has_long_sides.false in
    within_limits c.args.self.sorts.items c.args.self.equations.items c.requires short
