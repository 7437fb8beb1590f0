use Rattle.std.proofs.Common.{map, inr, refl, sym, ap, ◌∙◌}
use Rattle.cq_rows.specs.Entries.{rows_of}
use Rattle.cq_rows.specs.Origin.{theory_at}
use Rattle.cq_rows.specs.Plain.{entity_sides}
use Rattle.cq_rows.proofs.Equations.{read_equation, given_holds, given_holds_other, no_sides}
use Rattle.cq_rows.proofs.Passing.{Passes-start, Passes-joined}
use Rattle.cq_rows.proofs.join.join_given.Goals as goal

pub returns-in_default : goal.returns-in_default
returns-in_default c =
    let s = theory_at c.args.origin.now in
    let within = rw (sym c.as_slice.ensures) at c.requires.place in
    Passes-start _ _ _ _ c.requires.ready.whole c.requires.ready.current (given_holds_other s c.args.tables.now (rows_of c.args.rows.now) c.args.place
    (no_sides s c.as_slice.result.now c.args.place c.index-as_slice-place.result (ap (map entity_sides) (sym c.as_slice.ensures)) within c.index-as_slice-place.is c.in_default.not-Ent))

pub row-row-requires : goal.row-row-requires
row-row-requires c =
    let s = theory_at c.args.origin.now in
    let within = rw (sym c.as_slice.ensures) at c.requires.place in
    let r = read_equation s c.args.tables.now (rows_of c.args.rows.now) c.requires.ready.theory c.requires.ready.rows c.requires.ready.keys c.requires.ready.count
    c.as_slice.result.now c.args.place c.index-as_slice-place.result c.in-Ent.left c.in-Ent.right (ap (map entity_sides) (sym c.as_slice.ensures)) within c.index-as_slice-place.is c.in-Ent.is in
    r.left.below

pub row-other-requires : goal.row-other-requires
row-other-requires c =
    let s = theory_at c.args.origin.now in
    let within = rw (sym c.as_slice.ensures) at c.requires.place in
    let r = read_equation s c.args.tables.now (rows_of c.args.rows.now) c.requires.ready.theory c.requires.ready.rows c.requires.ready.keys c.requires.ready.count
    c.as_slice.result.now c.args.place c.index-as_slice-place.result c.in-Ent.left c.in-Ent.right (ap (map entity_sides) (sym c.as_slice.ensures)) within c.index-as_slice-place.is c.in-Ent.is in
    rw c.row-row.ensures.same r.right.below

pub apart-requires-clause-row : goal.apart-requires-clause-row
apart-requires-clause-row c =
    let s = theory_at c.args.origin.now in
    let within = rw (sym c.as_slice.ensures) at c.requires.place in
    let r = read_equation s c.args.tables.now (rows_of c.args.rows.now) c.requires.ready.theory c.requires.ready.rows c.requires.ready.keys c.requires.ready.count
    c.as_slice.result.now c.args.place c.index-as_slice-place.result c.in-Ent.left c.in-Ent.right (ap (map entity_sides) (sym c.as_slice.ensures)) within c.index-as_slice-place.is c.in-Ent.is in
    rw c.row-row.ensures.value r.left.live

pub apart-requires-clause-other : goal.apart-requires-clause-other
apart-requires-clause-other c =
    let s = theory_at c.args.origin.now in
    let within = rw (sym c.as_slice.ensures) at c.requires.place in
    let r = read_equation s c.args.tables.now (rows_of c.args.rows.now) c.requires.ready.theory c.requires.ready.rows c.requires.ready.keys c.requires.ready.count
    c.as_slice.result.now c.args.place c.index-as_slice-place.result c.in-Ent.left c.in-Ent.right (ap (map entity_sides) (sym c.as_slice.ensures)) within c.index-as_slice-place.is c.in-Ent.is in
    rw (c.row-other.ensures.value, c.row-row.ensures.same) r.right.live

pub apart-requires-clause-left : goal.apart-requires-clause-left
apart-requires-clause-left c =
    let s = theory_at c.args.origin.now in
    let within = rw (sym c.as_slice.ensures) at c.requires.place in
    let r = read_equation s c.args.tables.now (rows_of c.args.rows.now) c.requires.ready.theory c.requires.ready.rows c.requires.ready.keys c.requires.ready.count
    c.as_slice.result.now c.args.place c.index-as_slice-place.result c.in-Ent.left c.in-Ent.right (ap (map entity_sides) (sym c.as_slice.ensures)) within c.index-as_slice-place.is c.in-Ent.is in
    rw (c.as_slice-ahead.ensures, c.row-row.ensures.value, r.left.end) refl

pub apart-requires-clause-right : goal.apart-requires-clause-right
apart-requires-clause-right c =
    let s = theory_at c.args.origin.now in
    let within = rw (sym c.as_slice.ensures) at c.requires.place in
    let r = read_equation s c.args.tables.now (rows_of c.args.rows.now) c.requires.ready.theory c.requires.ready.rows c.requires.ready.keys c.requires.ready.count
    c.as_slice.result.now c.args.place c.index-as_slice-place.result c.in-Ent.left c.in-Ent.right (ap (map entity_sides) (sym c.as_slice.ensures)) within c.index-as_slice-place.is c.in-Ent.is in
    rw (c.as_slice-ahead.ensures, c.as_slice-behind.ensures, c.row-row.ensures.value, c.row-other.ensures.value, c.row-row.ensures.same) (r.right.end ∙ sym r.left.end)

pub stop_of_either-stop-requires-clause-row : goal.stop_of_either-stop-requires-clause-row
stop_of_either-stop-requires-clause-row c =
    let s = theory_at c.args.origin.now in
    let within = rw (sym c.as_slice.ensures) at c.requires.place in
    let r = read_equation s c.args.tables.now (rows_of c.args.rows.now) c.requires.ready.theory c.requires.ready.rows c.requires.ready.keys c.requires.ready.count
    c.as_slice.result.now c.args.place c.index-as_slice-place.result c.in-Ent.left c.in-Ent.right (ap (map entity_sides) (sym c.as_slice.ensures)) within c.index-as_slice-place.is c.in-Ent.is in
    rw c.row-row.ensures.value r.left.live

pub stop_of_either-stop-requires-clause-other : goal.stop_of_either-stop-requires-clause-other
stop_of_either-stop-requires-clause-other c =
    let s = theory_at c.args.origin.now in
    let within = rw (sym c.as_slice.ensures) at c.requires.place in
    let r = read_equation s c.args.tables.now (rows_of c.args.rows.now) c.requires.ready.theory c.requires.ready.rows c.requires.ready.keys c.requires.ready.count
    c.as_slice.result.now c.args.place c.index-as_slice-place.result c.in-Ent.left c.in-Ent.right (ap (map entity_sides) (sym c.as_slice.ensures)) within c.index-as_slice-place.is c.in-Ent.is in
    rw (c.row-other.ensures.value, c.row-row.ensures.same) r.right.live

pub stop_of_either-stop-requires-clause-left : goal.stop_of_either-stop-requires-clause-left
stop_of_either-stop-requires-clause-left c =
    let s = theory_at c.args.origin.now in
    let within = rw (sym c.as_slice.ensures) at c.requires.place in
    let r = read_equation s c.args.tables.now (rows_of c.args.rows.now) c.requires.ready.theory c.requires.ready.rows c.requires.ready.keys c.requires.ready.count
    c.as_slice.result.now c.args.place c.index-as_slice-place.result c.in-Ent.left c.in-Ent.right (ap (map entity_sides) (sym c.as_slice.ensures)) within c.index-as_slice-place.is c.in-Ent.is in
    rw (c.as_slice-ahead.ensures, c.row-row.ensures.value, r.left.end) refl

pub stop_of_either-stop-requires-clause-right : goal.stop_of_either-stop-requires-clause-right
stop_of_either-stop-requires-clause-right c =
    let s = theory_at c.args.origin.now in
    let within = rw (sym c.as_slice.ensures) at c.requires.place in
    let r = read_equation s c.args.tables.now (rows_of c.args.rows.now) c.requires.ready.theory c.requires.ready.rows c.requires.ready.keys c.requires.ready.count
    c.as_slice.result.now c.args.place c.index-as_slice-place.result c.in-Ent.left c.in-Ent.right (ap (map entity_sides) (sym c.as_slice.ensures)) within c.index-as_slice-place.is c.in-Ent.is in
    rw (c.as_slice-ahead.ensures, c.as_slice-behind.ensures, c.row-row.ensures.value, c.row-other.ensures.value, c.row-row.ensures.same) (r.right.end ∙ sym r.left.end)

pub returns-in_ok-list : goal.returns-in_ok-list
returns-in_ok-list c =
    let s = theory_at c.args.origin.now in
    let within = rw (sym c.as_slice.ensures) at c.requires.place in
    let r = read_equation s c.args.tables.now (rows_of c.args.rows.now) c.requires.ready.theory c.requires.ready.rows c.requires.ready.keys c.requires.ready.count
    c.as_slice.result.now c.args.place c.index-as_slice-place.result c.in-Ent.left c.in-Ent.right (ap (map entity_sides) (sym c.as_slice.ensures)) within c.index-as_slice-place.is c.in-Ent.is in
    let agree = rw (c.as_slice-ahead.ensures, c.as_slice-behind.ensures, c.row-row.ensures.value, c.row-other.ensures.value, c.row-row.ensures.same) at c.in_default-apart.ensures.agree in
    rw (c.row-other.ensures.same, c.row-row.ensures.same) (Passes-start _ _ _ _ c.requires.ready.whole c.requires.ready.current (given_holds s c.args.tables.now (rows_of c.args.rows.now) c.args.place c.in-Ent.left c.in-Ent.right r.found agree))

pub returns-else-is_open : goal.returns-else-is_open
returns-else-is_open c =
    let s = theory_at c.args.origin.now in
    let within = rw (sym c.as_slice.ensures) at c.requires.place in
    let r = read_equation s c.args.tables.now (rows_of c.args.rows.now) c.requires.ready.theory c.requires.ready.rows c.requires.ready.keys c.requires.ready.count
    c.as_slice.result.now c.args.place c.index-as_slice-place.result c.in-Ent.left c.in-Ent.right (ap (map entity_sides) (sym c.as_slice.ensures)) within c.index-as_slice-place.is c.in-Ent.is in
    let agree = rw (c.as_slice-ahead.ensures, c.as_slice-behind.ensures, c.row-row.ensures.value, c.row-other.ensures.value, c.row-row.ensures.same) at c.in_default-apart.ensures.agree in
    rw (c.row-other.ensures.same, c.row-row.ensures.same) (Passes-start _ _ _ _ c.requires.ready.whole c.requires.ready.current (given_holds s c.args.tables.now (rows_of c.args.rows.now) c.args.place c.in-Ent.left c.in-Ent.right r.found agree))

pub returns : goal.returns
returns c =
    let s = theory_at c.args.origin.now in
    let within = rw (sym c.as_slice.ensures) at c.requires.place in
    let r = read_equation s c.args.tables.now (rows_of c.args.rows.now) c.requires.ready.theory c.requires.ready.rows c.requires.ready.keys c.requires.ready.count
    c.as_slice.result.now c.args.place c.index-as_slice-place.result c.in-Ent.left c.in-Ent.right (ap (map entity_sides) (sym c.as_slice.ensures)) within c.index-as_slice-place.is c.in-Ent.is in
    Passes-joined s c.args.tables.now c.merge.new.tables c.args.rows.now c.merge.new.rows _ c.in-Some.a c.in-Some.b c.requires.ready.theory c.requires.ready.count c.requires.ready.whole c.requires.ready.current
    (inr (record {
      place = c.args.place;
      left = c.in-Ent.left;
      right = c.in-Ent.right;
      found = r.found;
      apart = rw (c.as_slice-ahead.ensures, c.as_slice-behind.ensures, c.row-row.ensures.value, c.row-other.ensures.value, c.row-row.ensures.same) at c.in-Some.ensures.apart;
    }))
    c.in_ok-merge.ensures.whole c.in_ok-merge.ensures.current (rw (c.row-other.ensures.same, c.row-row.ensures.same) at c.in_ok-merge.ensures.image) (rw (c.row-other.ensures.same, c.row-row.ensures.same) at c.in_ok-merge.ensures.sound) c.in_ok-merge.ensures.fewer
