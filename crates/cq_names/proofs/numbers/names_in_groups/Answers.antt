use Rattle.std.proofs.Common.{ℕ, List, [], ◌∷◌, ◌++◌, ◌≡◌, ◌<◌, ◌≤◌, ◌+◌, map, length, get_or, refl, sym, ap, ◌∙◌, arith, length-append}
use Rattle.std.proofs.lemmas.List.{map-set, length-map, get_or-map, take_all}
use Rattle.std.proofs.lemmas.List.FromFn.{length-map-range_with_len}
use Rattle.cq_theory.specs.declared.term.EntTerm.{EntTerm}
use Rattle.cq_theory.specs.Canonical.{below}
use Rattle.cq_theory.specs.Groups.{positions}
use Rattle.cq_names.specs.RowNumbers.{name_in}
use Rattle.cq_names.proofs.GroupedNames.{mapped_more, next_inside, next_is, next_parts}
use Rattle.cq_names.proofs.numbers.names_in_groups.Goals as goal

pub loop-name-init : goal.loop-name-init
loop-name-init c = record { place_is = refl; rest = c.into_iter-name-iterator.ensures.into_iter_gives.0; groups_are = c.in_ok-groups.ensures }

pub index_mut-requires : goal.index_mut-requires
index_mut-requires c =
    let inside : c.loop-name.place < length c.args.names.items = next_inside c.loop-name.yielded c.loop-name.name-iterator.rest.items c.next.new.self.rest.items c.args.names.items c.in-Some.name c.loop-name.place c.loop-name.invariant.rest c.in-Some.ensures.steps.0 c.loop-name.invariant.place_is in
    let size : length c.loop-name.groups.items ≡ c.args.entities =
    sym (length-map c.loop-name.groups.items (λ group. group.items)) ∙ ap length c.loop-name.invariant.groups_are ∙ length-map-range_with_len _ 0 c.args.entities in
    omega (arith, c.requires.members c.loop-name.place 0 (omega (arith, inside, c.requires.same)), c.loop-name.groups.ok.0)

pub loop-name-preserved : goal.loop-name-preserved
loop-name-preserved c =
    let place : ℕ = c.loop-name.place in
    let names : List EntTerm = c.args.names.items in
    let name : EntTerm = c.in-Some.name in
    let inside : place < length names = next_inside c.loop-name.yielded c.loop-name.name-iterator.rest.items c.next.new.self.rest.items names name place c.loop-name.invariant.rest c.in-Some.ensures.steps.0 c.loop-name.invariant.place_is in
    let is : name_in names place ≡ name = next_is c.loop-name.yielded c.loop-name.name-iterator.rest.items c.next.new.self.rest.items names name place c.loop-name.invariant.rest c.in-Some.ensures.steps.0 c.loop-name.invariant.place_is (record { generator = 0; path = [] }) in
    let there : place < length c.args.members.now = omega (arith, inside, c.requires.same) in
    let member : ℕ = get_or c.args.members.now place 0 in
    let within : member < c.args.entities = c.requires.members place 0 there in
    let size : length c.loop-name.groups.items ≡ c.args.entities =
    sym (length-map c.loop-name.groups.items (λ group. group.items)) ∙ ap length c.loop-name.invariant.groups_are ∙ length-map-range_with_len _ 0 c.args.entities in
    let group_is : c.push.new.self.items ≡ get_or (map (λ group. group.items) c.loop-name.groups.items) member [] ++ name_in names place ∷ [] =
    c.in_ok-push.ensures.items ∙ ap (λ group. group.items ++ name ∷ []) c.index_mut.ensures.value
    ∙ ap (λ l. l ++ name ∷ []) (sym (get_or-map (λ group. group.items) c.loop-name.groups.items member c.index_mut.result.now [] (omega arith)))
    ∙ ap (λ (x : EntTerm). get_or (map (λ group. group.items) c.loop-name.groups.items) member [] ++ x ∷ []) (sym is) in
    record {
      place_is = ap (λ n. n + 1) c.loop-name.invariant.place_is ∙ sym (length-append c.loop-name.yielded (name ∷ []));
      rest = next_parts c.loop-name.yielded c.loop-name.name-iterator.rest.items c.next.new.self.rest.items names name place c.loop-name.invariant.rest c.in-Some.ensures.steps.0 c.loop-name.invariant.place_is;
      groups_are = map-set (λ group. group.items) c.loop-name.groups.items member c.push.new.self
          ∙ mapped_more (name_in names) c.args.entities place member c.args.members.now (map (λ group. group.items) c.loop-name.groups.items) c.push.new.self.items c.loop-name.invariant.groups_are there refl within group_is;
    }

pub returns : goal.returns
returns c =
    let none : length c.loop-name.name-iterator.rest.items ≡ 0 = omega (arith, c.in-None.ensures.steps.0, c.loop-name.name-iterator.rest.ok.0) in
    let all : length c.args.members.now ≤ c.loop-name.place =
    omega (arith, none, c.loop-name.invariant.place_is, c.requires.same, ap length c.loop-name.invariant.rest, length-append c.loop-name.yielded c.loop-name.name-iterator.rest.items) in
    c.in_ok-sorted.ensures ∙ c.loop-name.invariant.groups_are
    ∙ ap (λ (l : List ℕ). map (λ e. map (name_in c.args.names.items) (positions l e)) (below c.args.entities)) (take_all c.loop-name.place c.args.members.now all)
