use Rattle.std.proofs.Common.{◌≡◌, ◌<◌, length, get_or, sym, ◌∙◌, arith}
use Rattle.std.proofs.lemmas.List.{length-set}
use Rattle.cq_rows.proofs.Roots.{roots_halved, forest_halved, root_grand, GivesRoots-root_of}
use Rattle.cq_rows.proofs.renamings.root.Goals as goal

pub loop-parent-preserved : goal.loop-parent-preserved
loop-parent-preserved c =
    let ps = c.loop-parent.parent in
    let at = c.loop-parent.at in
    let i = c.loop-parent.invariant in
    let b = i.forest at i.below in
    let d = i.forest (get_or ps at 0) (omega (arith, b, i.below)) in
    let top : get_or ps (get_or ps at 0) 0 < length ps = omega (arith, b, d, i.below) in
    let len : length ps ≡ length c.args.parent.now = omega arith in
    record {
      forest = forest_halved ps i.forest at i.below;
      below = rw length-set top;
      root = sym (i.roots (get_or ps (get_or ps at 0) 0) (omega (arith, top, len))) ∙ sym (root_grand ps i.forest at i.below) ∙ i.roots at (omega (arith, i.below, len)) ∙ i.root;
      roots = λ r l. roots_halved ps i.forest at i.below r (omega (arith, l, len)) ∙ i.roots r l;
    }

pub returns-clause-root : goal.returns-clause-root
returns-clause-root c =
    let i = c.loop-parent.invariant in
    let len : length c.loop-parent.parent ≡ length c.args.parent.now = omega arith in
    sym ((GivesRoots-root_of c.loop-parent.parent i.forest).here c.loop-parent.at i.below c.loop-parent-test.false) ∙ i.roots c.loop-parent.at (omega (arith, i.below, len)) ∙ i.root
