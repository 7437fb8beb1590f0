use Rattle.std.proofs.Common.{ℕ, List, ◌≡◌, length, subst, arith}
use Rattle.cq_growth.specs.Levels.{HasBegun, IsLevel}
use Rattle.cq_growth.proofs.Leading.{level_begun, level_next}
use Rattle.cq_growth.proofs.news.level_at.Goals as goal

pub loop-depth-init : goal.loop-depth-init
loop-depth-init c =
    let P = c.args.presentation.now in
    let p = c.args.rows.now in
    let level = c.in_ok-level.level in
    let begun = subst (λ (l : List ℕ). HasBegun P p.tables l (length P.generators) level.members.items level.reached.items) c.as_slice.ensures c.in_ok-level.ensures in
    level_begun c.args.schema.now P p.tables p.generator_rows c.requires.rows.whole c.requires.rows.keys c.requires.rows.entries level.members.items level.reached.items begun

pub next_level-requires-clause-live : goal.next_level-requires-clause-live
next_level-requires-clause-live c = λ n x there. (c.loop-depth.invariant.member n x there).live

pub loop-depth-preserved : goal.loop-depth-preserved
loop-depth-preserved c =
    let p = c.args.rows.now in
    let old = c.loop-depth.level in
    let new = c.in_ok-level-2.level in
    level_next c.args.schema.now c.args.presentation.now p.tables p.generator_rows c.requires.rows.whole c.requires.rows.keys c.requires.rows.entries c.loop-depth._depth
    old.members.items new.members.items old.reached.items new.reached.items c.loop-depth.invariant c.in_ok-level-2.ensures

pub returns : goal.returns
returns c =
    let p = c.args.rows.now in
    let level = c.loop-depth.level in
    let count : c.loop-depth._depth ≡ c.args.depth = omega (arith, c.loop-depth-test.false, c.loop-depth.auto._depth-end) in
    subst (λ n. IsLevel c.args.schema.now c.args.presentation.now p.tables p.generator_rows n level.members.items level.reached.items) count c.loop-depth.invariant
