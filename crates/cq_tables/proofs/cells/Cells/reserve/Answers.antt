use Rattle.std.proofs.Common.{◌<◌, ◌-◌, length, arith, vec_len, vec_capacity}
use Rattle.std.proofs.lemmas.Grind.{common_steps}
use Rattle.cq_tables.proofs.Lists.{Places, same_mapped, mapped_set}
use Rattle.cq_tables.proofs.cells.Cells.reserve.Goals as goal

pub invariant_of-self : goal.invariant_of-self
invariant_of-self c = rw (same_mapped (λ (x : Places). x.items) c.self.inside.mentions.items c.args.row c.index_mut-list.result.now c.reserve.new.self c.index_mut-list.ensures.value c.reserve.ensures.items) c.self.invariant

pub returns-in_err-reserve-clause-counts : goal.returns-in_err-reserve-clause-counts
returns-in_err-reserve-clause-counts c = rw (← c.self.view_is) (same_mapped (λ (x : Places). vec_len x) c.self.inside.mentions.items c.args.row c.index_mut-list.result.now c.reserve.new.self c.index_mut-list.ensures.value c.reserve.ensures.len)

pub invariant_of-self-2 : goal.invariant_of-self-2
invariant_of-self-2 c = rw (same_mapped (λ (x : Places). x.items) c.self.inside.mentions.items c.args.row c.index_mut-list.result.now c.reserve.new.self c.index_mut-list.ensures.value c.reserve.ensures.items) c.self.invariant

pub returns-clause-counts : goal.returns-clause-counts
returns-clause-counts c = rw (← c.self.view_is) (same_mapped (λ (x : Places). vec_len x) c.self.inside.mentions.items c.args.row c.index_mut-list.result.now c.reserve.new.self c.index_mut-list.ensures.value c.reserve.ensures.len)

pub returns-clause-ok : goal.returns-clause-ok
returns-clause-ok c =
    let ms = c.self.inside.mentions.items in
    let b : c.args.row < length ms = grind (arith, common_steps) in
    rw (mapped_set (λ (x : Places). vec_capacity x - vec_len x) ms c.args.row c.reserve.new.self b) (omega (arith, c.in_ok-reserve.ensures.ok))
