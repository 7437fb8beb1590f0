use Rattle.std.proofs.Common.{◌<◌, ◌≤◌, ap, sym, length, arith}
use Rattle.std.specs.Prelude.{slice_index}
use Rattle.std.proofs.lemmas.Option.{slice_get-get_or}
use Rattle.cq_names.specs.Walking.{Listing}
use Rattle.cq_names.proofs.Expanding.{IsWalked-end}
use Rattle.cq_names.proofs.walk.least_names.Goals as goal

pub begin-requires : goal.begin-requires
begin-requires c = record { whole = c.requires.closed.whole; entries = c.requires.closed.entries; few = omega (arith, c.requires.presentation.count) }

pub rows-init : goal.rows-init
rows-init c = c.in_ok-walk.ensures c.args.schema.now c.requires.closed.keys

pub rows-preserved : goal.rows-preserved
rows-preserved c = c.in_ok-expand.ensures c.args.presentation.now c.args.entries.now (length c.args.presentation.now.generators) c.rows.invariant

pub rows-smaller : goal.rows-smaller
rows-smaller c =
    let at : c.rows.next < length c.rows.walk.rows = omega (arith, c.rows-test.true, c.len.ensures, c.walk.inside.rows.ok.0, ap (λ (w : Listing). length w.rows) c.walk.view_is) in
    omega (arith, at, c.rows.invariant.listing.counted)

pub expand-requires : goal.expand-requires
expand-requires c =
    let at : c.rows.next < length c.rows.walk.rows = omega (arith, c.rows-test.true, c.len.ensures, c.walk.inside.rows.ok.0, ap (λ (w : Listing). length w.rows) c.walk.view_is) in
    record {
      whole = c.requires.closed.whole;
      keys = c.requires.closed.keys;
      marks = c.rows.invariant.listing.marks;
      at = at;
      names = c.rows.invariant.listing.same_length;
      live = c.rows.invariant.listing.live c.rows.next (slice_index c.rows.walk.rows c.rows.next) (slice_get-get_or c.rows.walk.rows c.rows.next 0 at);
    }

pub returns : goal.returns
returns c =
    let past : length c.rows.walk.rows ≤ c.rows.next = omega (arith, c.rows-test.false, c.len.ensures, c.walk.inside.rows.ok.0, ap (λ (w : Listing). length w.rows) c.walk.view_is) in (
      c.rows.walk,
      IsWalked-end c.args.schema.now c.args.presentation.now c.args.tables.now c.args.entries.now c.rows.walk (length c.args.presentation.now.generators) c.rows.next c.rows.invariant past,
      ap (λ (w : Listing). w.rows) (sym c.walk.view_is),
      ap (λ (w : Listing). w.names) (sym c.walk.view_is),
    )
