use Rattle.std.proofs.Common.{◌≡◌, ◌<◌, length, get_or, sym, ◌∙◌, ap, arith}
use Rattle.std.proofs.lemmas.Grind.{common_steps}
use Rattle.std.proofs.lemmas.List.{with_items_is}
use Rattle.cq_rows.proofs.Renamed.{length-renamed_by, renamed_at, renamed_joined, classes_joined}
use Rattle.cq_rows.proofs.renamings.Renamings.rename.Goals as goal

pub union-low-requires-clause-from : goal.union-low-requires-clause-from
union-low-requires-clause-from c =
    let h = rw (← c.self.view_is) at c.requires.from in
    rw c.deref_mut.ensures.value (omega (arith, h, length-renamed_by c.self.inside.parent.items c.self.inside.at.items))

pub union-low-requires-clause-to : goal.union-low-requires-clause-to
union-low-requires-clause-to c =
    let h = rw (← c.self.view_is) at c.requires.to in
    rw c.deref_mut.ensures.value (omega (arith, h, length-renamed_by c.self.inside.parent.items c.self.inside.at.items))

pub union-low-requires-clause-differ : goal.union-low-requires-clause-differ
union-low-requires-clause-differ c =
    let ps = c.self.inside.parent.items in
    let at = c.self.inside.at.items in
    let hf = rw (← c.self.view_is) at c.requires.from in
    let ht = rw (← c.self.view_is) at c.requires.to in
    let lf : c.args.from < length ps = omega (arith, hf, length-renamed_by ps at) in
    let lt : c.args.to < length ps = omega (arith, ht, length-renamed_by ps at) in
    let vf = sym (renamed_at ps at c.args.from lf) ∙ (rw (← c.self.view_is) at c.requires.from_itself) in
    let vt = sym (renamed_at ps at c.args.to lt) ∙ (rw (← c.self.view_is) at c.requires.to_itself) in
    rw c.deref_mut.ensures.value (λ e. c.requires.differ (sym vf ∙ ap (λ z. get_or at z 0) e ∙ vt))

pub invariant_of-self : goal.invariant_of-self
invariant_of-self c =
    let ps = c.self.inside.parent.items in
    let at = c.self.inside.at.items in
    let hf = rw (← c.self.view_is) at c.requires.from in
    let ht = rw (← c.self.view_is) at c.requires.to in
    let lf : c.args.from < length ps = omega (arith, hf, length-renamed_by ps at) in
    let lt : c.args.to < length ps = omega (arith, ht, length-renamed_by ps at) in
    let vf = sym (renamed_at ps at c.args.from lf) ∙ (rw (← c.self.view_is) at c.requires.from_itself) in
    let vt = sym (renamed_at ps at c.args.to lt) ∙ (rw (← c.self.view_is) at c.requires.to_itself) in
    let is = with_items_is c.self.inside.parent c.union-low.new.parent (grind (arith, common_steps)) in
    let len : length c.union-low.new.parent ≡ length ps = grind (arith, common_steps) in
    let below = rw c.deref_mut.ensures.value at c.union-low.ensures.below in
    let low = rw c.deref_mut.ensures.value at c.union-low.ensures.low in
    let roots = rw c.deref_mut.ensures.value at c.union-low.ensures.roots in
    rw is (classes_joined ps c.union-low.new.parent at c.args.from c.args.to c.union-low.result c.self.invariant c.union-low.ensures.forest len lf lt vf vt c.requires.differ below low roots)

pub returns : goal.returns
returns c =
    let ps = c.self.inside.parent.items in
    let at = c.self.inside.at.items in
    let hf = rw (← c.self.view_is) at c.requires.from in
    let ht = rw (← c.self.view_is) at c.requires.to in
    let lf : c.args.from < length ps = omega (arith, hf, length-renamed_by ps at) in
    let lt : c.args.to < length ps = omega (arith, ht, length-renamed_by ps at) in
    let vf = sym (renamed_at ps at c.args.from lf) ∙ (rw (← c.self.view_is) at c.requires.from_itself) in
    let vt = sym (renamed_at ps at c.args.to lt) ∙ (rw (← c.self.view_is) at c.requires.to_itself) in
    let is = with_items_is c.self.inside.parent c.union-low.new.parent (grind (arith, common_steps)) in
    let len : length c.union-low.new.parent ≡ length ps = grind (arith, common_steps) in
    let below = rw c.deref_mut.ensures.value at c.union-low.ensures.below in
    let low = rw c.deref_mut.ensures.value at c.union-low.ensures.low in
    let roots = rw c.deref_mut.ensures.value at c.union-low.ensures.roots in
    rw (← c.self.view_is, is) (renamed_joined ps c.union-low.new.parent at c.args.from c.args.to c.union-low.result c.self.invariant c.union-low.ensures.forest len lf lt vf vt c.requires.differ below low roots)
