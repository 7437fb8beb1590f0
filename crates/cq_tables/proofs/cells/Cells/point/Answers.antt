use Rattle.std.proofs.Common.{◌≡◌, ◌<◌, ◌-◌, ◌+◌, length, refl, arith, vec_len, vec_capacity}
use Rattle.std.proofs.lemmas.Grind.{common_steps}
use Rattle.std.proofs.lemmas.List.{map-set, length-map}
use Rattle.cq_tables.proofs.Lists.{Places, mapped_at, mapped_set, mapped_other, point_kept}
use Rattle.cq_tables.proofs.cells.Cells.point.Goals as goal

pub invariant_of-self : goal.invariant_of-self
invariant_of-self c =
    let ms = c.self.inside.mentions.items in
    let row = rw (← c.self.view_is) at c.requires.row in
    let b : c.args.row < length ms = rw length-map at row in
    let place = rw (← c.self.view_is) at c.requires.place in
    let empty = rw (← c.self.view_is) at c.requires.empty in
    point_kept c.self.inside.cells.items c.self.inside.spots.items ms c.index_mut-list.result.now c.push.new.self c.args.place c.args.row c.len-spot.result c.self.invariant b c.index_mut-list.ensures.value place empty c.len-spot.ensures (grind (arith, common_steps))

pub returns-clause-counts : goal.returns-clause-counts
returns-clause-counts c =
    let ms = c.self.inside.mentions.items in
    let row = rw (← c.self.view_is) at c.requires.row in
    let b : c.args.row < length ms = rw length-map at row in
    let at = mapped_at (λ (x : Places). vec_len x) ms c.args.row c.index_mut-list.result.now 0 b c.index_mut-list.ensures.value in
    let n : vec_len c.push.new.self ≡ vec_len c.index_mut-list.result.now + 1 = grind (arith, common_steps) in
    rw (← c.self.view_is, map-set (λ (x : Places). vec_len x) ms c.args.row c.push.new.self, at, n) refl

pub returns-clause-room : goal.returns-clause-room
returns-clause-room c =
    let ms = c.self.inside.mentions.items in
    let row = rw (← c.self.view_is) at c.requires.row in
    let b : c.args.row < length ms = rw length-map at row in
    let v = c.index_mut-list.result.now in
    let at = mapped_at (λ (x : Places). vec_capacity x - vec_len x) ms c.args.row v 0 b c.index_mut-list.ensures.value in
    let n : vec_len c.push.new.self ≡ vec_len v + 1 = grind (arith, common_steps) in
    let k = mapped_set (λ (x : Places). vec_capacity x - vec_len x) ms c.args.row c.push.new.self b in
    rw (← c.self.view_is, at, k) (omega (arith, n, c.push.ensures.capacity))

pub returns-clause-others : goal.returns-clause-others
returns-clause-others c = λ r n. rw (← c.self.view_is) (mapped_other (λ (x : Places). vec_capacity x - vec_len x) c.self.inside.mentions.items c.args.row r c.push.new.self n)
