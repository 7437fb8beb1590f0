use Rattle.std.proofs.Common.{ℕ, ◌≡◌, ◌<◌, IsSome, length, sym, subst, arith}
use Rattle.std.proofs.lemmas.List.{get_or_read}
use Rattle.cq_tables.specs.Content.{keys_of, made_of, step_of}
use Rattle.cq_tables.specs.Places.{rank_of}
use Rattle.cq_tables.specs.Shape.{Shape}
use Rattle.cq_tables.proofs.Placing.{goes_below}
use Rattle.cq_tables.proofs.Reading.{place_read}
use Rattle.cq_tables.proofs.tables.Tables.place.Goals as goal

pub index-requires : goal.index-requires
unfolding made_of
index-requires c = let h = rw (← c.self.view_is) at c.requires.row in omega (arith, h, c.self.invariant.laid.one_start, c.self.inside.starts.ok.0)

pub slot-requires : goal.slot-requires
unfolding keys_of
slot-requires c =
    let h = rw (← c.self.view_is) at c.requires.key in
    subst (λ (p : Shape). c.args.key < length p.keys) (sym c.deref.ensures) (goes_below c.self.inside.plan.value.keys _ c.args.key h)

pub overflow_add-result : goal.overflow_add-result
unfolding made_of
overflow_add-result c =
    let row = rw (← c.self.view_is) at c.requires.row in
    let key = rw (← c.self.view_is) at c.requires.key in
    let read = get_or_read c.self.inside.starts.items c.args.row c.index.result.now (omega (arith, row, c.self.invariant.laid.one_start)) c.index.ensures 0 in
    let slot : (e : ℕ) → IsSome (step_of c.self.inside.plan.value.keys e c.args.key) → c.slot.result ≡ rank_of c.self.inside.plan.value.keys e c.args.key =
    subst (λ (p : Shape). (e : ℕ) → IsSome (step_of p.keys e c.args.key) → c.slot.result ≡ rank_of p.keys e c.args.key) c.deref.ensures c.slot.ensures in
    let p = place_read _ _ _ _ _ _ _ c.self.invariant.laid c.args.row c.args.key c.index.result.now c.slot.result row key read slot in
    omega (arith, p.below, c.self.invariant.laid.fits)

pub returns : goal.returns
unfolding made_of
returns c =
    let row = rw (← c.self.view_is) at c.requires.row in
    let key = rw (← c.self.view_is) at c.requires.key in
    let read = get_or_read c.self.inside.starts.items c.args.row c.index.result.now (omega (arith, row, c.self.invariant.laid.one_start)) c.index.ensures 0 in
    let slot : (e : ℕ) → IsSome (step_of c.self.inside.plan.value.keys e c.args.key) → c.slot.result ≡ rank_of c.self.inside.plan.value.keys e c.args.key =
    subst (λ (p : Shape). (e : ℕ) → IsSome (step_of p.keys e c.args.key) → c.slot.result ≡ rank_of p.keys e c.args.key) c.deref.ensures c.slot.ensures in
    let p = place_read _ _ _ _ _ _ _ c.self.invariant.laid c.args.row c.args.key c.index.result.now c.slot.result row key read slot in
    rw (← c.self.view_is) p.is
