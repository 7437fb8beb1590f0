use Rattle.std.proofs.Common.{List, ap, refl, sym, length, ◌∙◌}
use Rattle.std.proofs.lemmas.Option.{slice_get_read}
use Rattle.std.specs.Prelude.{slice_get}
use Rattle.cq_check.proofs.QueryDuties.{duty_found}
use Rattle.cq_theory.specs.declared.presentation.Equation.{Equation}
use Rattle.cq_unmet.proofs.duties.asked_at.Goals as goal

pub returns : goal.returns
returns c =
    let items = c.args.duties.items in
    let read = slice_get_read items (length items) c.args.place c.remove-equation.result refl c.requires.place c.remove-equation.ensures.value in
    let at = ap (λ (l : List Equation). slice_get l c.args.place) (sym c.requires.duties) ∙ read in
    record {
      entity = c.args.entity;
      there = duty_found c.args.query.now c.args.entity c.args.place c.remove-equation.result c.requires.entity at;
      over_is = c.in_ok-over.ensures.frozen;
      presented = c.in_ok-over.ensures.presentation;
    }
