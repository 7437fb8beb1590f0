use Rattle.std.proofs.Common.{List, Option, sym, ap, ◌∙◌}
use Rattle.std.specs.Prelude.{slice_get}
use Rattle.cq_eval.specs.declared.known.Stretch.{Stretch}
use Rattle.cq_eval.proofs.Noted.{none_more, none_first}
use Rattle.cq_eval.proofs.known.Known.new.Goals as goal

pub loop-border-init : goal.loop-border-init
loop-border-init c = λ bound stretch at. none_first bound stretch (ap (λ (l : List (Option Stretch)). slice_get l bound) (sym c.in_ok-noted.ensures.items) ∙ at)

pub loop-border-preserved : goal.loop-border-preserved
loop-border-preserved c = λ bound stretch at.
    none_more c.loop-border.noted.items c.loop-border.invariant bound stretch (ap (λ (l : List (Option Stretch)). slice_get l bound) (sym c.in_ok-push.ensures.items) ∙ at)
