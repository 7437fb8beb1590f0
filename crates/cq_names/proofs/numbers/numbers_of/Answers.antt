use Rattle.std.proofs.Common.{ℕ, ◌≡◌, ◌<◌, ◌∙◌, sym, subst, List, length, get_or, replicate, refl, arith, rules, ◌+◌}
use Rattle.std.proofs.lemmas.List.{length-replicate, length-set, get_or_default, get_or-replicate}
use Rattle.std.proofs.lemmas.Option.{slice_get-get_or}
use Rattle.cq_instance.proofs.Lists.{All_at}
use Rattle.cq_names.proofs.Ranks.{rank_within, members-length}
use Rattle.cq_names.proofs.Spreads.{AreSpread, spread_none, spread_more, spread_numbers, next_read}
use Rattle.cq_names.proofs.numbers.numbers_of.Goals as goal

pub loop-place-init : goal.loop-place-init
loop-place-init c =
    let zeros : c.in_ok-counts.counts.items ≡ replicate c.args.entities 0 = search rules in
    record {
      spread = subst (λ (l : List ℕ). AreSpread (replicate c.args.entities 0) c.args.members.now c.args.rows.now (λ _. 1) c.args.entities 0 l c.in_ok-numbers.numbers.items) (sym zeros)
          (spread_none (replicate c.args.entities 0) c.args.members.now c.args.rows.now (λ _. 1) c.args.entities c.in_ok-numbers.numbers.items (length-replicate c.args.entities 0));
      size = search rules;
      counts_size = search rules;
    }

pub overflow_add-number : goal.overflow_add-number
overflow_add-number c =
    let place = c.loop-place.place in
    let inside : place < length c.args.members.now = omega (arith, c.loop-place-test.true, c.requires.same) in
    let e = get_or c.args.members.now place 0 in
    let member = slice_get-get_or c.args.members.now place 0 inside in
    let within : e < c.args.entities = c.requires.members place 0 inside in
    let counted : e < length c.loop-place.counts.items = omega (arith, within, c.loop-place.invariant.counts_size) in
    let read = c.index-number.ensures ∙ get_or_default c.loop-place.counts.items e c.index-number.result.now 0 counted in
    let is = next_read (replicate c.args.entities 0) c.args.members.now c.args.rows.now (λ _. 1) c.args.entities place e c.index-number.result.now c.loop-place.counts.items c.loop-place.numbers.items c.loop-place.invariant.spread within read in
    let zero = get_or-replicate {A = ℕ} c.args.entities e 0 0 within in
    omega (arith, is, zero, rank_within c.args.members.now e place member, members-length c.args.members.now e, c.requires.same, c.requires.few)

pub loop-place-preserved : goal.loop-place-preserved
loop-place-preserved c =
    let place = c.loop-place.place in
    let inside : place < length c.args.members.now = omega (arith, c.loop-place-test.true, c.requires.same) in
    let e = get_or c.args.members.now place 0 in
    let row = get_or c.args.rows.now place 0 in
    let member = slice_get-get_or c.args.members.now place 0 inside in
    let at = slice_get-get_or c.args.rows.now place 0 c.loop-place-test.true in
    let within : e < c.args.entities = c.requires.members place 0 inside in
    let made : row < c.args.made = c.requires.rows place 0 c.loop-place-test.true in
    let counted : e < length c.loop-place.counts.items = omega (arith, within, c.loop-place.invariant.counts_size) in
    let room : row < length c.loop-place.numbers.items = omega (arith, made, c.loop-place.invariant.size) in
    let read = c.index-number.ensures ∙ get_or_default c.loop-place.counts.items e c.index-number.result.now 0 counted in
    record {
      spread = spread_more (replicate c.args.entities 0) c.args.members.now c.args.rows.now (λ _. 1) c.args.entities place e row c.index-number.result.now 1 c.loop-place.counts.items c.loop-place.numbers.items
          c.requires.once c.loop-place.invariant.spread member at within room read refl;
      size = length-set c.loop-place.numbers.items row c.index-number.result.now ∙ c.loop-place.invariant.size;
      counts_size = length-set c.loop-place.counts.items e (c.index-number.result.now + 1) ∙ c.loop-place.invariant.counts_size;
    }

pub returns : goal.returns
returns c =
    spread_numbers c.args.members.now c.args.rows.now c.args.entities c.loop-place.place c.loop-place.counts.items c.loop-place.numbers.items c.loop-place.invariant.spread
    (omega (arith, c.loop-place-test.false, c.requires.same)) (omega (arith, c.loop-place-test.false))
    (λ p e h. All_at (λ member. member < c.args.entities) c.args.members.now p e c.requires.members h)
