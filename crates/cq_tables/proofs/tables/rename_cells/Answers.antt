use Rattle.std.proofs.Common.{◌≡◌, ◌≢◌, ℕ, ◌<◌, List, Option, length, get_or, Some, None, arith, sym, ◌∙◌, ap, ⊎_elim, refl}
use Rattle.std.proofs.Math.ListN.{set}
use Rattle.std.proofs.lemmas.Bool.{cases_eq, eq-eqb, ne_eqb}
use Rattle.std.proofs.lemmas.List.{length-set, get_or-set_same, get_or-set_other}
use Rattle.cq_tables.specs.Changes.{moved_cell}
use Rattle.cq_tables.proofs.Inverses.{some_below}
use Rattle.cq_tables.proofs.tables.rename_cells.Goals as goal

-- a cell that held `from` holds `to`
repointed : (cells next last : List (Option ℕ)) (place from to : ℕ) → from ≢ to → get_or cells place None ≡ Some from → next ≡ set cells place None → last ≡ set next place (Some to)
    → (i : ℕ) → moved_cell from to (get_or last i None) ≡ moved_cell from to (get_or cells i None)
repointed cells next last place from to n h e f i =
    ⊎_elim
    (λ q. ap (λ x. moved_cell from to (get_or last x None)) q ∙ ap (moved_cell from to) at_place ∙ to_itself ∙ sym from_moves ∙ sym (ap (moved_cell from to) h) ∙ sym (ap (λ x. moved_cell from to (get_or cells x None)) q))
    (λ ne. ap (moved_cell from to) (ap (λ x. get_or x i None) f ∙ get_or-set_other next place i (Some to) None ne ∙ ap (λ x. get_or x i None) e ∙ get_or-set_other cells place i None None ne))
    (cases_eq i place)
  where
    at_place : get_or last place None ≡ Some to
    at_place = rw f (get_or-set_same next place (Some to) None (rw (e, length-set) (some_below cells place from h)))

    to_itself : moved_cell from to (Some to) ≡ Some to
    to_itself = rw (ne_eqb to from (λ x. n (sym x))) refl

    from_moves : moved_cell from to (Some from) ≡ Some to
    from_moves = rw (eq-eqb from from refl) refl

-- what is counted for `from`
count_less : (a b d : List ℕ) (from to : ℕ) (x y : ℕ) → from ≢ to → from < length a → b ≡ set a from x → d ≡ set b to y → get_or d from 0 ≡ x
count_less a b d from to x y n h e f = rw (f, e) (get_or-set_other (set a from x) to from y 0 n ∙ get_or-set_same a from x 0 h)

pub point-requires-clause-room : goal.point-requires-clause-room
point-requires-clause-room c = omega (arith, c.in-Some.ensures.counted, c.loop-place.invariant.room, c.unpoint.ensures.others c.args.to (λ e. c.requires.differ (sym e)))

pub loop-place-smaller : goal.loop-place-smaller
loop-place-smaller c =
    let less = count_less c.loop-place.cells.counts c.unpoint.new.self.counts c.point.new.self.counts c.args.from c.args.to _ _ c.requires.differ (omega (arith, c.requires.from, c.loop-place.invariant.counts)) c.unpoint.ensures.counts c.point.ensures.counts in
    omega (arith, less, c.in-Some.ensures.counted)

pub loop-place-preserved : goal.loop-place-preserved
loop-place-preserved c =
    let less = count_less c.loop-place.cells.counts c.unpoint.new.self.counts c.point.new.self.counts c.args.from c.args.to _ _ c.requires.differ (omega (arith, c.requires.from, c.loop-place.invariant.counts)) c.unpoint.ensures.counts c.point.ensures.counts in
    record {
      moved = λ i. repointed c.loop-place.cells.cells c.unpoint.new.self.cells c.point.new.self.cells c.in-Some.place c.args.from c.args.to c.requires.differ c.in-Some.ensures.some c.unpoint.ensures.cells c.point.ensures.cells i ∙ c.loop-place.invariant.moved i;
      len = rw (c.point.ensures.cells, length-set, c.unpoint.ensures.cells, length-set) c.loop-place.invariant.len;
      counts = rw (c.point.ensures.counts, length-set, c.unpoint.ensures.counts, length-set) c.loop-place.invariant.counts;
      room = omega (arith, less, c.in-Some.ensures.counted, c.loop-place.invariant.room, c.point.ensures.room, c.unpoint.ensures.others c.args.to (λ e. c.requires.differ (sym e)));
    }
