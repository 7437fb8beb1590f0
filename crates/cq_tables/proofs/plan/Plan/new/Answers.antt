use Rattle.std.proofs.Common.{ℕ, [], ◌≡◌, map, length, get_or, sym, ap, ◌∙◌, arith}
use Rattle.std.proofs.lemmas.List.{map-set, length-map, get_or-map}
use Rattle.cq_tables.proofs.Planned.{IsCounted-start, IsCounted-more, key_in, slots_counted, lists_counted}
use Rattle.cq_tables.proofs.plan.Plan.new.Goals as goal

pub loop-number-init : goal.loop-number-init
loop-number-init c = IsCounted-start _ _ _ _ c.in_ok-slots.ensures.items c.in_ok-starting.ensures

pub index_mut-list-requires : goal.index_mut-list-requires
index_mut-list-requires c =
    let size = length-map c.loop-number.starting.items (λ list. list.items) in
    omega (arith, size, key_in c.args.keys.now c.args.entities c.loop-number.number c.requires.range c.loop-number-test.true, c.loop-number.invariant.one_list, c.loop-number.starting.ok.0)

pub loop-number-preserved : goal.loop-number-preserved
loop-number-preserved c =
    let n : ℕ = c.loop-number.number in
    let source : ℕ = (get_or c.args.keys.now n (0, 0)).0 in
    let below = key_in c.args.keys.now c.args.entities n c.requires.range c.loop-number-test.true in
    let size = length-map c.loop-number.starting.items (λ list. list.items) in
    let list_is : c.index_mut-list.result.now.items ≡ get_or (map (λ list. list.items) c.loop-number.starting.items) source [] =
    ap (λ list. list.items) c.index_mut-list.ensures.value
    ∙ sym (get_or-map (λ list. list.items) c.loop-number.starting.items source c.index_mut-list.result.now [] (omega (arith, size, below, c.loop-number.invariant.one_list))) in
    let len_is : c.len.result ≡ length c.index_mut-list.result.now.items = omega (arith, c.len.ensures, c.index_mut-list.result.now.ok.0) in
    let more = IsCounted-more _ _ _ _ _ c.loop-number.invariant c.loop-number-test.true c.index_mut-list.result.now.items below list_is in
    rw (map-set (λ list. list.items) c.loop-number.starting.items source c.push-in-loop-number.new.self, c.in_ok-push.ensures.items, c.in_ok-push-2.ensures.items, len_is) more

pub invariant_of-result : goal.invariant_of-result
invariant_of-result c =
    let end : c.loop-number.number ≡ length c.args.keys.now = omega arith in
    let counted = rw end at c.loop-number.invariant in
    let keys : c.in_ok-keys.keys.items ≡ c.args.keys.now = c.in_ok-keys.ensures.items in
    let size = length-map c.loop-number.starting.items (λ list. list.items) in
    record {
      count = omega (arith, counted.one_slot, ap length keys);
      slots = slots_counted _ _ _ _ _ keys counted;
      starting = λ e h. lists_counted _ _ _ _ _ keys counted e (omega (arith, size, counted.one_list));
    }

pub returns-clause-entities : goal.returns-clause-entities
returns-clause-entities c =
    let size = length-map c.loop-number.starting.items (λ list. list.items) in
    omega (arith, size, c.loop-number.invariant.one_list)
