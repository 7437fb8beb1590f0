use Rattle.std.proofs.Common.{◌≡◌, ◌-◌, length}
use Rattle.cq_eval.proofs.Firsts.{AreBorders, IsFirstFrom}
use Rattle.cq_eval.proofs.borders.borders.Given as goal

abbrev pub invariant-loop-step : goal.invariant-loop-step
invariant-loop-step l = record {
  long : length l.borders.items ≡ l.width;
  first : IsFirstFrom l.width l.tests (l.width - l.step) l.first;
  are : AreBorders l.width l.tests l.borders.items;
}
