use Rattle.std.proofs.Common.{ℕ, List, [], ◌∷◌, ◌++◌, ◌≡◌, ◌<◌, ◌≤◌, map, length, get_or, refl, sym, ap, ◌∙◌, arith}
use Rattle.std.proofs.lemmas.List.{map-set, length-map, get_or-map}
use Rattle.std.proofs.lemmas.List.FromFn.{length-map-range_with_len, map-range_with_len_more}
use Rattle.cq_theory.specs.Groups.{place_of}
use Rattle.cq_theory.proofs.Grouped.{grouped_more, place_few, place_read}
use Rattle.cq_theory.proofs.groups.Groups.new.Goals as goal

pub index_mut-group-requires : goal.index_mut-group-requires
index_mut-group-requires c =
    let size : length c.loop-number.groups.items ≡ c.args.count =
    sym (length-map c.loop-number.groups.items (λ group. group.items)) ∙ ap length c.loop-number.invariant.0 ∙ length-map-range_with_len _ 0 c.args.count in
    omega (arith, c.requires c.loop-number.number 0 c.loop-number-test.true, c.loop-number.groups.ok.0)

pub overflow_cast-len : goal.overflow_cast-len
overflow_cast-len c =
    let n : ℕ = c.loop-number.number in
    let members : List ℕ = c.args.owners.now in
    let member : ℕ = get_or members n 0 in
    let within : member < c.args.count = c.requires n 0 c.loop-number-test.true in
    let size : length c.loop-number.groups.items ≡ c.args.count =
    sym (length-map c.loop-number.groups.items (λ group. group.items)) ∙ ap length c.loop-number.invariant.0 ∙ length-map-range_with_len _ 0 c.args.count in
    let old_group : c.index_mut-group.result.now.items ≡ get_or (map (λ group. group.items) c.loop-number.groups.items) member [] =
    ap (λ group. group.items) c.index_mut-group.ensures.value
    ∙ sym (get_or-map (λ group. group.items) c.loop-number.groups.items member c.index_mut-group.result.now [] (omega arith)) in
    let few : length (get_or (map (λ group. group.items) c.loop-number.groups.items) member []) ≤ n =
    place_few c.args.count n member members (map (λ group. group.items) c.loop-number.groups.items) c.loop-number.invariant.0 c.loop-number-test.true refl within in
    omega (arith, c.len.ensures, c.index_mut-group.result.now.ok.0, ap length old_group, few, c.loop-number-test.true, c.if-owners.false)

pub loop-number-preserved : goal.loop-number-preserved
loop-number-preserved c =
    let n : ℕ = c.loop-number.number in
    let members : List ℕ = c.args.owners.now in
    let member : ℕ = get_or members n 0 in
    let within : member < c.args.count = c.requires n 0 c.loop-number-test.true in
    let size : length c.loop-number.groups.items ≡ c.args.count =
    sym (length-map c.loop-number.groups.items (λ group. group.items)) ∙ ap length c.loop-number.invariant.0 ∙ length-map-range_with_len _ 0 c.args.count in
    let old_group : c.index_mut-group.result.now.items ≡ get_or (map (λ group. group.items) c.loop-number.groups.items) member [] =
    ap (λ group. group.items) c.index_mut-group.ensures.value
    ∙ sym (get_or-map (λ group. group.items) c.loop-number.groups.items member c.index_mut-group.result.now [] (omega arith)) in
    let group_is : c.push-in-loop-number.new.self.items ≡ get_or (map (λ group. group.items) c.loop-number.groups.items) member [] ++ n ∷ [] =
    c.in_ok-push-2.ensures.items ∙ ap (λ l. l ++ n ∷ []) old_group in
    let place : length (get_or (map (λ group. group.items) c.loop-number.groups.items) member []) ≡ place_of members n =
    place_read c.args.count n member members (map (λ group. group.items) c.loop-number.groups.items) c.loop-number.invariant.0 c.loop-number-test.true refl within in
    let len_is : c.len.result ≡ place_of members n = omega (arith, c.len.ensures, c.index_mut-group.result.now.ok.0, ap length old_group, place) in (
      map-set (λ group. group.items) c.loop-number.groups.items member c.push-in-loop-number.new.self
          ∙ grouped_more c.args.count n member members (map (λ group. group.items) c.loop-number.groups.items) c.loop-number.invariant.0 c.loop-number-test.true refl within c.push-in-loop-number.new.self.items group_is,
      c.in_ok-push.ensures.items ∙ (λ i. c.loop-number.invariant.1 i ++ len_is i ∷ []) ∙ sym (map-range_with_len_more (place_of members) 0 n n (omega arith)),
    )
