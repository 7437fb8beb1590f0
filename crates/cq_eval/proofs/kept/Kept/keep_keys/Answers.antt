use Rattle.std.proofs.Common.{None, Some, [], ◌∷◌, ◌≡◌, ◌+◌, All, length, sym, ap, subst, ◌∙◌, arith}
use Rattle.std.proofs.lemmas.List.{length-append}
use Rattle.std.proofs.lemmas.List.Elements.{All-push, All-set}
use Rattle.cq_eval.specs.Kept.{IsOfKeys}
use Rattle.cq_eval.proofs.kept.Kept.keep_keys.Goals as goal

pub loop-slot-preserved : goal.loop-slot-preserved
loop-slot-preserved c =
    let is = c.in_ok-push.ensures.items in
    let size : length c.push.new.self.items ≡ length c.loop-slot.self.keys.items + 1 = ap length is ∙ length-append c.loop-slot.self.keys.items (None ∷ []) in
    record {
      size = omega (arith, c.loop-slot.invariant.size, size);
      kept = λ M before.
          let now = c.loop-slot.invariant.kept M before in
          record {
            keys = subst (All (IsOfKeys M)) (sym is) (All-push (IsOfKeys M) c.loop-slot.self.keys.items None now.keys tt);
            cells = now.cells;
          };
    }

pub returns : goal.returns
returns c = λ M before made.
    let now = c.loop-slot.invariant.kept M before in
    record {
      keys = All-set (IsOfKeys M) c.loop-slot.self.keys.items c.args.made.key (Some c.args.made) made now.keys;
      cells = now.cells;
    }
