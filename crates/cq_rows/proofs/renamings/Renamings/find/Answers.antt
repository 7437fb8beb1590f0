use Rattle.std.proofs.Common.{◌≡◌, ◌<◌, length, get_or, ◌∙◌, ap, arith}
use Rattle.std.proofs.lemmas.Grind.{common_steps}
use Rattle.std.proofs.lemmas.List.{with_items_is, get_or_read}
use Rattle.cq_rows.proofs.Renamed.{length-renamed_by, renamed_at, renamed_same, classes_same}
use Rattle.cq_rows.proofs.renamings.Renamings.find.Goals as goal

pub root-root-requires-clause-row : goal.root-root-requires-clause-row
root-root-requires-clause-row c =
    let h = rw (← c.self.view_is) at c.requires in
    rw c.deref_mut.ensures.value (omega (arith, h, length-renamed_by c.self.inside.parent.items c.self.inside.at.items))

pub invariant_of-self : goal.invariant_of-self
invariant_of-self c =
    let is = with_items_is c.self.inside.parent c.root-root.new.parent (grind (arith, common_steps)) in
    let len : length c.root-root.new.parent ≡ length c.self.inside.parent.items = grind (arith, common_steps) in
    rw is (classes_same c.self.inside.parent.items c.root-root.new.parent c.self.inside.at.items c.root-root.ensures.forest len (rw c.deref_mut.ensures.value at c.root-root.ensures.roots) c.self.invariant)

pub returns-clause-same : goal.returns-clause-same
returns-clause-same c =
    let is = with_items_is c.self.inside.parent c.root-root.new.parent (grind (arith, common_steps)) in
    let len : length c.root-root.new.parent ≡ length c.self.inside.parent.items = grind (arith, common_steps) in
    rw (← c.self.view_is, is) (renamed_same c.self.inside.parent.items c.root-root.new.parent c.self.inside.at.items len (rw c.deref_mut.ensures.value at c.root-root.ensures.roots))

pub returns-clause-value : goal.returns-clause-value
returns-clause-value c =
    let h = rw (← c.self.view_is) at c.requires in
    let l : c.args.row < length c.self.inside.parent.items = omega (arith, h, length-renamed_by c.self.inside.parent.items c.self.inside.at.items) in
    let below = rw c.deref_mut.ensures.value at c.root-root.ensures.below in
    let read = get_or_read c.self.inside.at.items c.root-root.result c.index.result.now (omega (arith, below, c.self.invariant.count)) c.index.ensures 0 in
    let root = rw c.deref_mut.ensures.value at c.root-root.ensures.root in
    rw (← c.self.view_is, renamed_at c.self.inside.parent.items c.self.inside.at.items c.args.row l) (read ∙ ap (λ z. get_or c.self.inside.at.items z 0) root)
