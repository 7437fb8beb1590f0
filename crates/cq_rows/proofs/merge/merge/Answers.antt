use Rattle.cq_tables.specs.Content.{keys_of}
use Rattle.std.proofs.Common.{◌≡◌, ◌≢◌, ◌∷◌, [], ◌++◌, length, ◌∙◌, arith, refl}
use Rattle.std.proofs.lemmas.Grind.{common_steps}
use Rattle.cq_tables.specs.Changes.{given_pairs}
use Rattle.cq_rows.specs.Entries.{rows_of, pairs_now}
use Rattle.cq_rows.proofs.Merging.{IsMerging-start, IsMerging-next, IsMerging-end, IsMerging-fewer, popped, IsPopped-pair, IsPopped-made, IsPopped-directed, IsPopped-same, directed_apart, falls_renamed}
use Rattle.cq_rows.proofs.merge.merge.Goals as goal
use Rattle.cq_rows.proofs.merge.merge.Goals.{After-drop-given-in-Some}

pub loop-left-init : goal.loop-left-init
loop-left-init c =
    let one : c.push.new.self.items ≡ (c.args.a, c.args.b) ∷ [] = grind (arith, common_steps) in
    let now : pairs_now c.args.rows.now.renamings c.push.new.self.items ≡ (c.args.a, c.args.b) ∷ [] = rw (one, c.requires.current.live c.args.a c.requires.left, c.requires.current.live c.args.b c.requires.right) refl in
    record {
      merging = rw now (IsMerging-start c.args.tables.now (rows_of c.args.rows.now) c.args.a c.args.b c.requires.whole c.requires.left c.requires.right c.requires.kinds c.requires.differ);
      current = c.requires.current;
    }

pub loop-left-preserved-then-one-other : goal.loop-left-preserved-then-one-other
loop-left-preserved-then-one-other c =
    let p = (popped c.args.tables.now c.loop-left.tables c.args.rows.now c.loop-left.rows c.get-one.new.self c.get-other.new.self c.loop-left.pending.items c.pop.new.self.items c.in-Some.left c.in-Some.right c.get-one.result c.get-other.result c.args.a c.args.b c.in-Some.ensures.items c.get-one.ensures.value c.get-one.ensures.same c.get-other.ensures.value c.get-other.ensures.same c.loop-left.invariant.merging c.loop-left.invariant.current) in
    record { merging = IsPopped-same c.if-one-other.true p; current = p.current }

pub direction-from-requires : goal.direction-from-requires
direction-from-requires c =
    let o = IsPopped-made (popped c.args.tables.now c.loop-left.tables c.args.rows.now c.loop-left.rows c.get-one.new.self c.get-other.new.self c.loop-left.pending.items c.pop.new.self.items c.in-Some.left c.in-Some.right c.get-one.result c.get-other.result c.args.a c.args.b c.in-Some.ensures.items c.get-one.ensures.value c.get-one.ensures.same c.get-other.ensures.value c.get-other.ensures.same c.loop-left.invariant.merging c.loop-left.invariant.current) in
    record { left = o.0; right = o.1 }

pub rename-requires-clause-from : goal.rename-requires-clause-from
rename-requires-clause-from c = (IsPopped-pair (IsPopped-directed c.direction-from.result.0 c.direction-from.result.1 c.direction-from.ensures (popped c.args.tables.now c.loop-left.tables c.args.rows.now c.loop-left.rows c.get-one.new.self c.get-other.new.self c.loop-left.pending.items c.pop.new.self.items c.in-Some.left c.in-Some.right c.get-one.result c.get-other.result c.args.a c.args.b c.in-Some.ensures.items c.get-one.ensures.value c.get-one.ensures.same c.get-other.ensures.value c.get-other.ensures.same c.loop-left.invariant.merging c.loop-left.invariant.current))).left

pub rename-requires-clause-to : goal.rename-requires-clause-to
rename-requires-clause-to c = (IsPopped-pair (IsPopped-directed c.direction-from.result.0 c.direction-from.result.1 c.direction-from.ensures (popped c.args.tables.now c.loop-left.tables c.args.rows.now c.loop-left.rows c.get-one.new.self c.get-other.new.self c.loop-left.pending.items c.pop.new.self.items c.in-Some.left c.in-Some.right c.get-one.result c.get-other.result c.args.a c.args.b c.in-Some.ensures.items c.get-one.ensures.value c.get-one.ensures.same c.get-other.ensures.value c.get-other.ensures.same c.loop-left.invariant.merging c.loop-left.invariant.current))).right

pub rename-requires-clause-entity : goal.rename-requires-clause-entity
rename-requires-clause-entity c = (IsPopped-pair (IsPopped-directed c.direction-from.result.0 c.direction-from.result.1 c.direction-from.ensures (popped c.args.tables.now c.loop-left.tables c.args.rows.now c.loop-left.rows c.get-one.new.self c.get-other.new.self c.loop-left.pending.items c.pop.new.self.items c.in-Some.left c.in-Some.right c.get-one.result c.get-other.result c.args.a c.args.b c.in-Some.ensures.items c.get-one.ensures.value c.get-one.ensures.same c.get-other.ensures.value c.get-other.ensures.same c.loop-left.invariant.merging c.loop-left.invariant.current))).kinds

pub rename-requires-in-Some-clause-from : goal.rename-requires-in-Some-clause-from
rename-requires-in-Some-clause-from c =
    let p = (IsPopped-directed c.direction-from.result.0 c.direction-from.result.1 c.direction-from.ensures (popped c.args.tables.now c.loop-left.tables c.args.rows.now c.loop-left.rows c.get-one.new.self c.get-other.new.self c.loop-left.pending.items c.pop.new.self.items c.in-Some.left c.in-Some.right c.get-one.result c.get-other.result c.args.a c.args.b c.in-Some.ensures.items c.get-one.ensures.value c.get-one.ensures.same c.get-other.ensures.value c.get-other.ensures.same c.loop-left.invariant.merging c.loop-left.invariant.current)) in
    rw p.current.count (IsPopped-made p).0

pub rename-requires-in-Some-clause-to : goal.rename-requires-in-Some-clause-to
rename-requires-in-Some-clause-to c =
    let p = (IsPopped-directed c.direction-from.result.0 c.direction-from.result.1 c.direction-from.ensures (popped c.args.tables.now c.loop-left.tables c.args.rows.now c.loop-left.rows c.get-one.new.self c.get-other.new.self c.loop-left.pending.items c.pop.new.self.items c.in-Some.left c.in-Some.right c.get-one.result c.get-other.result c.args.a c.args.b c.in-Some.ensures.items c.get-one.ensures.value c.get-one.ensures.same c.get-other.ensures.value c.get-other.ensures.same c.loop-left.invariant.merging c.loop-left.invariant.current)) in
    rw p.current.count (IsPopped-made p).1

pub rename-requires-in-Some-clause-from_itself : goal.rename-requires-in-Some-clause-from_itself
rename-requires-in-Some-clause-from_itself c =
    let p = (IsPopped-directed c.direction-from.result.0 c.direction-from.result.1 c.direction-from.ensures (popped c.args.tables.now c.loop-left.tables c.args.rows.now c.loop-left.rows c.get-one.new.self c.get-other.new.self c.loop-left.pending.items c.pop.new.self.items c.in-Some.left c.in-Some.right c.get-one.result c.get-other.result c.args.a c.args.b c.in-Some.ensures.items c.get-one.ensures.value c.get-one.ensures.same c.get-other.ensures.value c.get-other.ensures.same c.loop-left.invariant.merging c.loop-left.invariant.current)) in
    p.current.live c.direction-from.result.0 (IsPopped-pair p).left

pub rename-requires-in-Some-clause-to_itself : goal.rename-requires-in-Some-clause-to_itself
rename-requires-in-Some-clause-to_itself c =
    let p = (IsPopped-directed c.direction-from.result.0 c.direction-from.result.1 c.direction-from.ensures (popped c.args.tables.now c.loop-left.tables c.args.rows.now c.loop-left.rows c.get-one.new.self c.get-other.new.self c.loop-left.pending.items c.pop.new.self.items c.in-Some.left c.in-Some.right c.get-one.result c.get-other.result c.args.a c.args.b c.in-Some.ensures.items c.get-one.ensures.value c.get-one.ensures.same c.get-other.ensures.value c.get-other.ensures.same c.loop-left.invariant.merging c.loop-left.invariant.current)) in
    p.current.live c.direction-from.result.1 (IsPopped-pair p).right

-- the pairs that wait after a renaming
next : (c : goal.After-drop-given-in-Some) → c.extend_from_slice.new.self.items ≡ c.pop.new.self.items ++ given_pairs c.loop-left.tables c.direction-from.result.0 c.direction-from.result.1 (length (keys_of c.loop-left.tables))
next c = c.in_ok-extend_from_slice.ensures.items ∙ rw (c.deref.ensures.value, c.in_ok-given.ensures.given) refl

pub loop-left-smaller : goal.loop-left-smaller
loop-left-smaller c =
    let p = (IsPopped-directed c.direction-from.result.0 c.direction-from.result.1 c.direction-from.ensures (popped c.args.tables.now c.loop-left.tables c.args.rows.now c.loop-left.rows c.get-one.new.self c.get-other.new.self c.loop-left.pending.items c.pop.new.self.items c.in-Some.left c.in-Some.right c.get-one.result c.get-other.result c.args.a c.args.b c.in-Some.ensures.items c.get-one.ensures.value c.get-one.ensures.same c.get-other.ensures.value c.get-other.ensures.same c.loop-left.invariant.merging c.loop-left.invariant.current)) in
    falls_renamed c.loop-left.tables c.rename.new.self c.direction-from.result.0 c.direction-from.result.1 c.loop-left.pending.items c.pop.new.self.items c.extend_from_slice.new.self.items c.in-Some.left c.in-Some.right
    c.in-Some.ensures.items c.in_ok-given.ensures.ok p.merging.whole (IsPopped-pair p).left (next c)

pub loop-left-preserved : goal.loop-left-preserved
loop-left-preserved c =
    let p = (IsPopped-directed c.direction-from.result.0 c.direction-from.result.1 c.direction-from.ensures (popped c.args.tables.now c.loop-left.tables c.args.rows.now c.loop-left.rows c.get-one.new.self c.get-other.new.self c.loop-left.pending.items c.pop.new.self.items c.in-Some.left c.in-Some.right c.get-one.result c.get-other.result c.args.a c.args.b c.in-Some.ensures.items c.get-one.ensures.value c.get-one.ensures.same c.get-other.ensures.value c.get-other.ensures.same c.loop-left.invariant.merging c.loop-left.invariant.current)) in
    let ne : c.direction-from.result.0 ≢ c.direction-from.result.1 = directed_apart c.get-one.result c.get-other.result c.direction-from.result.0 c.direction-from.result.1 c.direction-from.ensures c.if-one-other.false in
    let n = IsMerging-next c.args.tables.now c.loop-left.tables c.rename.new.self c.args.rows.now c.get-other.new.self c.rename-in-Some.new.self c.pop.new.self.items c.args.a c.args.b
    c.direction-from.result.0 c.direction-from.result.1 c.extend_from_slice.new.self.items p.merging ne c.in_ok-given.ensures.ok c.in_ok-given.ensures.whole (next c) c.rename-in-Some.ensures.first c.rename-in-Some.ensures.renamings p.current in
    record { merging = n.0; current = n.1 }

pub returns-clause-image : goal.returns-clause-image
returns-clause-image c =
    let none : c.loop-left.pending.items ≡ [] = grind (arith, common_steps) in
    IsMerging-end _ _ _ _ c.args.a c.args.b (rw none at c.loop-left.invariant.merging)

pub returns-clause-fewer : goal.returns-clause-fewer
returns-clause-fewer c =
    let none : c.loop-left.pending.items ≡ [] = grind (arith, common_steps) in
    IsMerging-fewer _ _ _ _ c.args.a c.args.b (rw none at c.loop-left.invariant.merging)
