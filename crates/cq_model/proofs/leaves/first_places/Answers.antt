use Rattle.std.proofs.Common.{ℕ, List, [], ◌≡◌, ◌<◌, ◌≤◌, ◌∙◌, ◌+◌, ◌*◌, ◌^◌, refl, ap, subst, length, get_or, slice_index, arith, rules}
use Rattle.std.proofs.Math.Nat.{mul-le-mul_left}
use Rattle.std.proofs.lemmas.List.{length-set, get_or_default}
use Rattle.std.proofs.lemmas.Option.{slice_get-get_or}
use Rattle.cq_theory.specs.Groups.{positions}
use Rattle.cq_names.specs.Ranks.{rank}
use Rattle.cq_names.proofs.Ranks.{rank_within}
use Rattle.cq_names.proofs.Spreads.{AreSpread, spread_none, spread_more, next_read}
use Rattle.cq_model.proofs.Counting.{spread_firsts}
use Rattle.cq_model.proofs.leaves.first_places.Goals as goal

-- a cell further there is still room
further : (start r w count first step : ℕ) → first ≡ start + r * w → step ≡ w → r < count → start + count * w < 2 ^ 63 → first + step < 2 ^ 64
further start r w count first step first_is step_is less fits =
    let more : w * (r + 1) ≤ w * count = mul-le-mul_left w (omega (arith, less)) in
    omega (arith, first_is, step_is, more, fits)

pub loop-place-init : goal.loop-place-init
loop-place-init c = record {
  spread = spread_none c.args.starts.items c.args.members.now c.args.rows.now (λ e. length (get_or c.args.attributes.now e [])) (length c.args.attributes.now) c.in_ok-firsts.firsts.items c.requires.starts;
  size = search rules;
  next_size = c.requires.starts;
}

pub overflow_add-first : goal.overflow_add-first
overflow_add-first c =
    let place : ℕ = c.loop-place.place in
    let members : List ℕ = c.args.members.now in
    let attributes : List (List ℕ) = c.args.attributes.now in
    let inside : place < length members = omega (arith, c.loop-place-test.true, c.requires.same) in
    let e : ℕ = get_or members place 0 in
    let member = slice_get-get_or members place 0 inside in
    let within : e < length attributes = c.requires.members place 0 inside in
    let there : e < length c.loop-place.next.items = omega (arith, within, c.loop-place.invariant.next_size) in
    let read = c.index-first.ensures ∙ get_or_default c.loop-place.next.items e c.index-first.result.now 0 there in
    let is = next_read c.args.starts.items members c.args.rows.now (λ k. length (get_or attributes k [])) (length attributes) place e c.index-first.result.now c.loop-place.next.items c.loop-place.firsts.items c.loop-place.invariant.spread within read in
    let step : c.len.result ≡ length (get_or attributes e []) = c.len.ensures ∙ ap length (c.index-attributes-entity.is ∙ get_or_default attributes e c.index-attributes-entity.result [] within) in
    omega (
      arith,
      further (slice_index c.args.starts.items e) (rank members e place) (length (get_or attributes e [])) (length (positions members e)) c.index-first.result.now c.len.result is step
          (rank_within members e place member) (c.requires.fits e within),
    )

pub loop-place-preserved : goal.loop-place-preserved
loop-place-preserved c =
    let place : ℕ = c.loop-place.place in
    let members : List ℕ = c.args.members.now in
    let attributes : List (List ℕ) = c.args.attributes.now in
    let inside : place < length members = omega (arith, c.loop-place-test.true, c.requires.same) in
    let e : ℕ = get_or members place 0 in
    let row : ℕ = get_or c.args.rows.now place 0 in
    let member = slice_get-get_or members place 0 inside in
    let at = slice_get-get_or c.args.rows.now place 0 c.loop-place-test.true in
    let within : e < length attributes = c.requires.members place 0 inside in
    let made : row < c.args.made = c.requires.rows place 0 c.loop-place-test.true in
    let there : e < length c.loop-place.next.items = omega (arith, within, c.loop-place.invariant.next_size) in
    let room : row < length c.loop-place.firsts.items = omega (arith, made, c.loop-place.invariant.size) in
    let read = c.index-first.ensures ∙ get_or_default c.loop-place.next.items e c.index-first.result.now 0 there in
    let step : c.len.result ≡ length (get_or attributes e []) = c.len.ensures ∙ ap length (c.index-attributes-entity.is ∙ get_or_default attributes e c.index-attributes-entity.result [] within) in
    record {
      spread = spread_more c.args.starts.items members c.args.rows.now (λ k. length (get_or attributes k [])) (length attributes) place e row c.index-first.result.now c.len.result c.loop-place.next.items c.loop-place.firsts.items
          c.requires.once c.loop-place.invariant.spread member at within room read step;
      size = length-set c.loop-place.firsts.items row c.index-first.result.now ∙ c.loop-place.invariant.size;
      next_size = length-set c.loop-place.next.items e (c.index-first.result.now + c.len.result) ∙ c.loop-place.invariant.next_size;
    }

pub returns : goal.returns
returns c = record {
  firsts = spread_firsts c.args.members.now c.args.rows.now c.args.starts.items c.args.attributes.now (length c.args.attributes.now) (length c.args.rows.now) c.loop-place.next.items c.loop-place.firsts.items
      (subst (λ n. AreSpread c.args.starts.items c.args.members.now c.args.rows.now (λ k. length (get_or c.args.attributes.now k [])) (length c.args.attributes.now) n c.loop-place.next.items c.loop-place.firsts.items)
      (let all : c.loop-place.place ≡ length c.args.rows.now = omega (arith, c.loop-place-test.false) in all) c.loop-place.invariant.spread)
      refl;
  count = c.loop-place.invariant.size;
}
