use Rattle.std.proofs.Common.{None, Some, [], ◌∷◌, ◌≡◌, ◌+◌, All, length, sym, ap, subst, ◌∙◌, arith}
use Rattle.std.proofs.lemmas.List.{length-append}
use Rattle.std.proofs.lemmas.List.Elements.{All-push, All-set}
use Rattle.cq_eval.specs.Kept.{IsOfCells}
use Rattle.cq_eval.proofs.kept.Kept.keep_cells.Goals as goal

pub loop-slot-preserved : goal.loop-slot-preserved
loop-slot-preserved c =
    let is = c.in_ok-push.ensures.items in
    let size : length c.push.new.self.items ≡ length c.loop-slot.self.cells.items + 1 = ap length is ∙ length-append c.loop-slot.self.cells.items (None ∷ []) in
    record {
      size = omega (arith, c.loop-slot.invariant.size, size);
      kept = λ M before.
          let now = c.loop-slot.invariant.kept M before in
          record {
            cells = subst (All (IsOfCells M)) (sym is) (All-push (IsOfCells M) c.loop-slot.self.cells.items None now.cells tt);
            keys = now.keys;
          };
    }

pub returns : goal.returns
returns c = λ M before made.
    let now = c.loop-slot.invariant.kept M before in
    record {
      cells = All-set (IsOfCells M) c.loop-slot.self.cells.items c.args.made.attribute (Some c.args.made) made now.cells;
      keys = now.keys;
    }
