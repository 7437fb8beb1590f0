use Rattle.std.proofs.Common.{◌<◌, ◌-◌, length, [], arith, vec_len}
use Rattle.std.proofs.lemmas.Grind.{common_steps}
use Rattle.std.proofs.lemmas.List.{get_or_read}
use Rattle.cq_tables.proofs.Lists.{Places, mapped_at}
use Rattle.cq_tables.proofs.cells.Cells.mention.Goals as goal

pub returns-then-len-eq0-clause-none : goal.returns-then-len-eq0-clause-none
returns-then-len-eq0-clause-none c = λ i h.
    let ms = c.self.inside.mentions.items in
    let b : c.args.row < length ms = grind (arith, common_steps) in
    let at = mapped_at (λ (x : Places). x.items) ms c.args.row c.index-list.result.now [] b c.index-list.ensures in
    let o = c.self.invariant.listed i c.args.row (rw (← c.self.view_is) at h) in
    let below = rw at at o.below in
    omega (arith, below, c.len.ensures, c.index-list.result.now.ok.0, c.if-len-eq0.true)

pub returns-clause-some : goal.returns-clause-some
returns-clause-some c =
    let ms = c.self.inside.mentions.items in
    let v = c.index-list.result.now in
    let b : c.args.row < length ms = grind (arith, common_steps) in
    let at = mapped_at (λ (x : Places). x.items) ms c.args.row v [] b c.index-list.ensures in
    let lt : c.len-2.result - 1 < length v.items = omega (arith, c.len.ensures, c.len-2.ensures, v.ok.0, c.if-len-eq0.false) in
    let o = c.self.invariant.mention c.args.row (c.len-2.result - 1) (rw at lt) in
    let read = get_or_read v.items (c.len-2.result - 1) c.index.result.now lt c.index.ensures 0 in
    rw (← c.self.view_is, read) (rw at at o.cell)

pub returns-clause-counted : goal.returns-clause-counted
returns-clause-counted c =
    let ms = c.self.inside.mentions.items in
    let v = c.index-list.result.now in
    let b : c.args.row < length ms = grind (arith, common_steps) in
    let at = mapped_at (λ (x : Places). vec_len x) ms c.args.row v 0 b c.index-list.ensures in
    rw (← c.self.view_is, at) (omega (arith, c.len.ensures, c.if-len-eq0.false))
