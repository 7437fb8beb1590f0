use Rattle.std.proofs.Common.{length, inl, refl, sym, ◌∙◌}
use Rattle.std.proofs.lemmas.Bool.{false≢true}
use Rattle.cq_rows.specs.Origin.{theory_at}
use Rattle.std.proofs.lemmas.Option.{slice_get_read}
use Rattle.cq_rows.proofs.Passing.{Passes-start, Passes-joined, rule_sides, rule_holds}
use Rattle.cq_rows.proofs.join.join_rule.Goals as goal

pub returns-then-not-live : goal.returns-then-not-live
returns-then-not-live c = Passes-start _ _ _ _ c.requires.ready.whole c.requires.ready.current (λ l u f k. absurd (false≢true (sym c.if-not-live.true ∙ c.live.ensures ∙ l)))

pub returns-then-rule-entity : goal.returns-then-rule-entity
returns-then-rule-entity c =
    let s = theory_at c.args.origin.now in
    let items = c.args.origin.now.schema.now.path_eqs in
    let is = rw c.path_equations.ensures at c.index-path_equations-place.is in
    Passes-start _ _ _ _ c.requires.ready.whole c.requires.ready.current (rule_holds s c.args.tables.now c.args.at.row c.args.at.place c.index-path_equations-place.result c.requires.place is (λ l k. absurd (c.if-rule-entity.true (sym (c.entity.ensures ∙ k)))))

pub apart-requires-clause-left : goal.apart-requires-clause-left
apart-requires-clause-left c =
    let s = theory_at c.args.origin.now in
    let items = c.args.origin.now.schema.now.path_eqs in
    let is = rw c.path_equations.ensures at c.index-path_equations-place.is in
    rw c.as_slice-left.ensures (rule_sides s c.args.tables.now c.args.at.row c.args.at.place c.index-path_equations-place.result c.requires.ready.theory c.requires.ready.keys (slice_get_read items (length items) c.args.at.place c.index-path_equations-place.result refl c.requires.place is) (c.if-rule-entity.false ∙ c.entity.ensures)).0

pub apart-requires-clause-right : goal.apart-requires-clause-right
apart-requires-clause-right c =
    let s = theory_at c.args.origin.now in
    let items = c.args.origin.now.schema.now.path_eqs in
    let is = rw c.path_equations.ensures at c.index-path_equations-place.is in
    rw (c.as_slice-left.ensures, c.as_slice-right.ensures) (rule_sides s c.args.tables.now c.args.at.row c.args.at.place c.index-path_equations-place.result c.requires.ready.theory c.requires.ready.keys (slice_get_read items (length items) c.args.at.place c.index-path_equations-place.result refl c.requires.place is) (c.if-rule-entity.false ∙ c.entity.ensures)).1

pub stop_of_either-stop-requires-clause-left : goal.stop_of_either-stop-requires-clause-left
stop_of_either-stop-requires-clause-left c =
    let s = theory_at c.args.origin.now in
    let items = c.args.origin.now.schema.now.path_eqs in
    let is = rw c.path_equations.ensures at c.index-path_equations-place.is in
    rw c.as_slice-left.ensures (rule_sides s c.args.tables.now c.args.at.row c.args.at.place c.index-path_equations-place.result c.requires.ready.theory c.requires.ready.keys (slice_get_read items (length items) c.args.at.place c.index-path_equations-place.result refl c.requires.place is) (c.if-rule-entity.false ∙ c.entity.ensures)).0

pub stop_of_either-stop-requires-clause-right : goal.stop_of_either-stop-requires-clause-right
stop_of_either-stop-requires-clause-right c =
    let s = theory_at c.args.origin.now in
    let items = c.args.origin.now.schema.now.path_eqs in
    let is = rw c.path_equations.ensures at c.index-path_equations-place.is in
    rw (c.as_slice-left.ensures, c.as_slice-right.ensures) (rule_sides s c.args.tables.now c.args.at.row c.args.at.place c.index-path_equations-place.result c.requires.ready.theory c.requires.ready.keys (slice_get_read items (length items) c.args.at.place c.index-path_equations-place.result refl c.requires.place is) (c.if-rule-entity.false ∙ c.entity.ensures)).1

pub returns-in_ok-list : goal.returns-in_ok-list
returns-in_ok-list c =
    let s = theory_at c.args.origin.now in
    let items = c.args.origin.now.schema.now.path_eqs in
    let is = rw c.path_equations.ensures at c.index-path_equations-place.is in
    let agree = rw (c.as_slice-left.ensures, c.as_slice-right.ensures) at c.in_default.ensures.agree in
    Passes-start _ _ _ _ c.requires.ready.whole c.requires.ready.current (rule_holds s c.args.tables.now c.args.at.row c.args.at.place c.index-path_equations-place.result c.requires.place is (λ l k. agree))

pub returns-else-is_open : goal.returns-else-is_open
returns-else-is_open c =
    let s = theory_at c.args.origin.now in
    let items = c.args.origin.now.schema.now.path_eqs in
    let is = rw c.path_equations.ensures at c.index-path_equations-place.is in
    let agree = rw (c.as_slice-left.ensures, c.as_slice-right.ensures) at c.in_default.ensures.agree in
    Passes-start _ _ _ _ c.requires.ready.whole c.requires.ready.current (rule_holds s c.args.tables.now c.args.at.row c.args.at.place c.index-path_equations-place.result c.requires.place is (λ l k. agree))

pub returns : goal.returns
returns c =
    let s = theory_at c.args.origin.now in
    let items = c.args.origin.now.schema.now.path_eqs in
    let is = rw c.path_equations.ensures at c.index-path_equations-place.is in
    Passes-joined s c.args.tables.now c.merge.new.tables c.args.rows.now c.merge.new.rows _ c.in-Some.a c.in-Some.b c.requires.ready.theory c.requires.ready.count c.requires.ready.whole c.requires.ready.current
    (inl (record {
      row = c.args.at.row;
      place = c.args.at.place;
      rule = c.index-path_equations-place.result;
      live = sym c.live.ensures ∙ c.if-not-live.false;
      found = slice_get_read items (length items) c.args.at.place c.index-path_equations-place.result refl c.requires.place is;
      kind = sym c.entity.ensures ∙ sym c.if-rule-entity.false;
      apart = rw (c.as_slice-left.ensures, c.as_slice-right.ensures) at c.in-Some.ensures.apart;
    }))
    c.in_ok-merge.ensures.whole c.in_ok-merge.ensures.current c.in_ok-merge.ensures.image c.in_ok-merge.ensures.sound c.in_ok-merge.ensures.fewer
