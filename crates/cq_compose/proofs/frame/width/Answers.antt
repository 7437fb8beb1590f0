use Rattle.std.proofs.Common.{ℕ, length, sym, ap, ◌∙◌}
use Rattle.std.specs.Prelude.{slice_get}
use Rattle.cq_base.specs.declared.name.Name.{Name}
use Rattle.cq_theory.proofs.ResolvedSorts.{map_some}
use Rattle.cq_query.specs.Translation.{variables_at}
use Rattle.cq_compose.proofs.Following.{width_is}
use Rattle.cq_compose.proofs.frame.width.Goals as goal

pub returns-in-Some : goal.returns-in-Some
returns-in-Some c =
    let frame = c.args.frame.now in
    let v = map_some (λ (v : Name × ℕ). v.1) (slice_get (variables_at frame.second.now frame.entity) c.args.variable) c.in-Some.entity (sym c.variable_entity.ensures ∙ c.in-Some.is) in
    c.width_at.ensures ∙ ap (λ e. length (variables_at frame.first.now e)) (sym v.2) ∙ sym (width_is frame.first.now frame.second.now frame.entity c.args.variable v.0 v.1)
