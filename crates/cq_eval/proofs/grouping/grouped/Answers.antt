use Rattle.std.proofs.Common.{ℕ, List, [], ◌∷◌, ◌++◌, ◌≡◌, ◌<◌, map, length, get_or, refl, sym, ap, ◌∙◌, arith}
use Rattle.std.proofs.lemmas.List.{map-set, length-map, get_or-map}
use Rattle.std.proofs.lemmas.List.FromFn.{length-map-range_with_len}
use Rattle.cq_instance.proofs.Positions.{grouped_more}
use Rattle.cq_eval.proofs.grouping.grouped.Goals as goal

pub index_mut-requires : goal.index_mut-requires
index_mut-requires c =
    let size : length c.loop-number.groups.items ≡ c.args.count =
    sym (length-map c.loop-number.groups.items (λ group. group.items)) ∙ ap length c.loop-number.invariant ∙ length-map-range_with_len _ 0 c.args.count in
    omega (arith, c.requires.within c.loop-number.number 0 c.loop-number-test.true, c.loop-number.groups.ok.0)

pub loop-number-preserved : goal.loop-number-preserved
loop-number-preserved c =
    let n : ℕ = c.loop-number.number in
    let members : List ℕ = c.args.members.now in
    let member : ℕ = get_or members n 0 in
    let within : member < c.args.count = c.requires.within n 0 c.loop-number-test.true in
    let size : length c.loop-number.groups.items ≡ c.args.count =
    sym (length-map c.loop-number.groups.items (λ group. group.items)) ∙ ap length c.loop-number.invariant ∙ length-map-range_with_len _ 0 c.args.count in
    let group_is : c.push.new.self.items ≡ get_or (map (λ group. group.items) c.loop-number.groups.items) member [] ++ n ∷ [] =
    c.in_ok-push.ensures.items ∙ ap (λ group. group.items ++ n ∷ []) c.index_mut.ensures.value
    ∙ ap (λ l. l ++ n ∷ []) (sym (get_or-map (λ group. group.items) c.loop-number.groups.items member c.index_mut.result.now [] (omega arith))) in
    map-set (λ group. group.items) c.loop-number.groups.items member c.push.new.self
    ∙ grouped_more c.args.count n member members (map (λ group. group.items) c.loop-number.groups.items) c.push.new.self.items c.loop-number.invariant c.loop-number-test.true refl within group_is
