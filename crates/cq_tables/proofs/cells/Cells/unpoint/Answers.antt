use Rattle.std.proofs.Common.{◌≡◌, ◌-◌, ◌+◌, length, refl, arith, vec_len, vec_capacity}
use Rattle.std.proofs.lemmas.List.{map-set, get_or_read}
use Rattle.cq_tables.proofs.Lists.{Places, mapped_at, in_lists, unpoint_kept, spot_of, mapped_set, mapped_other}
use Rattle.cq_tables.proofs.cells.Cells.unpoint.Goals as goal

pub index_mut-list-requires : goal.index_mut-list-requires
index_mut-list-requires c =
    let holds = rw (← c.self.view_is) at c.requires in
    let o = c.self.invariant.listed c.args.place c.args.row holds in
    omega (arith, in_lists c.self.inside.mentions.items c.args.row _ o.below, c.self.inside.mentions.ok.0)

pub overflow_sub-len : goal.overflow_sub-len
overflow_sub-len c =
    let holds = rw (← c.self.view_is) at c.requires in
    let o = spot_of c.self.inside.cells.items c.self.inside.spots.items c.self.inside.mentions.items c.index_mut-list.result.now c.args.place c.args.row c.self.invariant c.index_mut-list.ensures.value holds in
    omega (arith, o.here, c.len.ensures, c.index_mut-list.result.now.ok.0)

pub index-last-requires : goal.index-last-requires
index-last-requires c =
    let holds = rw (← c.self.view_is) at c.requires in
    let o = spot_of c.self.inside.cells.items c.self.inside.spots.items c.self.inside.mentions.items c.index_mut-list.result.now c.args.place c.args.row c.self.invariant c.index_mut-list.ensures.value holds in
    omega (arith, o.here, c.len.ensures, c.index_mut-list.result.now.ok.0)

pub swap_remove-requires : goal.swap_remove-requires
swap_remove-requires c =
    let holds = rw (← c.self.view_is) at c.requires in
    let o = spot_of c.self.inside.cells.items c.self.inside.spots.items c.self.inside.mentions.items c.index_mut-list.result.now c.args.place c.args.row c.self.invariant c.index_mut-list.ensures.value holds in
    let spot = get_or_read c.self.inside.spots.items c.args.place c.index-spot.result.now o.spot c.index-spot.ensures 0 in
    omega (arith, o.here, spot, c.index_mut-list.result.now.ok.0)

pub index_mut-requires : goal.index_mut-requires
index_mut-requires c =
    let v = c.index_mut-list.result.now in
    let holds = rw (← c.self.view_is) at c.requires in
    let o = spot_of c.self.inside.cells.items c.self.inside.spots.items c.self.inside.mentions.items v c.args.place c.args.row c.self.invariant c.index_mut-list.ensures.value holds in
    let n : c.len.result ≡ length v.items = omega (arith, c.len.ensures, v.ok.0) in
    let last = get_or_read v.items (length v.items - 1) c.index-last.result.now (omega (arith, o.here)) (rw n at c.index-last.ensures) 0 in
    omega (arith, o.last, last, c.self.inside.spots.ok.0)

pub invariant_of-self : goal.invariant_of-self
invariant_of-self c =
    let v = c.index_mut-list.result.now in
    let holds = rw (← c.self.view_is) at c.requires in
    let o = spot_of c.self.inside.cells.items c.self.inside.spots.items c.self.inside.mentions.items v c.args.place c.args.row c.self.invariant c.index_mut-list.ensures.value holds in
    let n : c.len.result ≡ length v.items = omega (arith, c.len.ensures, v.ok.0) in
    let spot = get_or_read c.self.inside.spots.items c.args.place c.index-spot.result.now o.spot c.index-spot.ensures 0 in
    let last = get_or_read v.items (length v.items - 1) c.index-last.result.now (omega (arith, o.here)) (rw n at c.index-last.ensures) 0 in
    let less : length c.swap_remove.new.self.items + 1 ≡ length v.items = omega (arith, c.swap_remove.ensures.len, v.ok.0, c.swap_remove.new.self.ok.0) in
    unpoint_kept c.self.inside.cells.items c.self.inside.spots.items c.self.inside.mentions.items v c.swap_remove.new.self c.args.place c.args.row c.index-spot.result.now c.index-last.result.now
    c.self.invariant o.row c.index_mut-list.ensures.value holds spot last less
    (λ h. rw v.ok.0 at (c.swap_remove.ensures.by_index.0 0 (rw v.ok.0 h)))
    (λ k ne h. c.swap_remove.ensures.by_index.1 k 0 ne (rw v.ok.0 h))

pub returns-clause-counts : goal.returns-clause-counts
returns-clause-counts c =
    let ms = c.self.inside.mentions.items in
    let v = c.index_mut-list.result.now in
    let holds = rw (← c.self.view_is) at c.requires in
    let o = spot_of c.self.inside.cells.items c.self.inside.spots.items ms v c.args.place c.args.row c.self.invariant c.index_mut-list.ensures.value holds in
    let at = mapped_at (λ (x : Places). vec_len x) ms c.args.row v 0 o.row c.index_mut-list.ensures.value in
    let k : vec_len c.swap_remove.new.self ≡ vec_len v - 1 = omega (arith, c.swap_remove.ensures.len) in
    rw (← c.self.view_is, map-set (λ (x : Places). vec_len x) ms c.args.row c.swap_remove.new.self, at, k) refl

pub returns-clause-room : goal.returns-clause-room
returns-clause-room c =
    let ms = c.self.inside.mentions.items in
    let v = c.index_mut-list.result.now in
    let holds = rw (← c.self.view_is) at c.requires in
    let o = spot_of c.self.inside.cells.items c.self.inside.spots.items ms v c.args.place c.args.row c.self.invariant c.index_mut-list.ensures.value holds in
    let at = mapped_at (λ (x : Places). vec_capacity x - vec_len x) ms c.args.row v 0 o.row c.index_mut-list.ensures.value in
    let k = mapped_set (λ (x : Places). vec_capacity x - vec_len x) ms c.args.row c.swap_remove.new.self o.row in
    rw (← c.self.view_is, at, k) (omega (arith, c.swap_remove.ensures.len, c.swap_remove.ensures.capacity, v.ok.1))

pub returns-clause-others : goal.returns-clause-others
returns-clause-others c = λ r n. rw (← c.self.view_is) (mapped_other (λ (x : Places). vec_capacity x - vec_len x) c.self.inside.mentions.items c.args.row r c.swap_remove.new.self n)
