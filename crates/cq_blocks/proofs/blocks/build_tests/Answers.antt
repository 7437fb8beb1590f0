use Rattle.std.proofs.Common.{ℕ, [], ◌++◌, ◌≡◌, ◌<◌, map, length, get_or, sym, ap, subst, ◌∙◌, arith}
use Rattle.std.specs.Prelude.{slice_index}
use Rattle.std.proofs.lemmas.List.{map-set, length-map, get_or-map}
use Rattle.std.proofs.lemmas.List.FromFn.{length-map-range_with_len}
use Rattle.cq_blocks.specs.declared.parts.Clause.{Clause}
use Rattle.cq_blocks.proofs.Gathering.{gathered_more}
use Rattle.cq_blocks.proofs.Blocking.{own_test}
use Rattle.cq_blocks.proofs.blocks.build_tests.Goals as goal

pub push_test_in-requires : goal.push_test_in-requires
push_test_in-requires c =
    c.requires.entities c.part-item.result.0 0 (subst (λ (p : ℕ × Clause). p.0 < length c.args.entities.now) (sym c.part-item.is) (c.requires.blocks c.loop-part.part-index c.part-item.result c.loop-part-test.true))

pub index_mut-requires : goal.index_mut-requires
index_mut-requires c =
    let within : slice_index c.args.entities.now c.part-item.result.0 < length c.args.scopes.now =
    c.requires.entities c.part-item.result.0 0 (subst (λ (p : ℕ × Clause). p.0 < length c.args.entities.now) (sym c.part-item.is) (c.requires.blocks c.loop-part.part-index c.part-item.result c.loop-part-test.true)) in
    let size : length c.loop-part.lists.items ≡ length c.args.scopes.now =
    sym (length-map c.loop-part.lists.items (λ list. list.items)) ∙ ap length c.loop-part.invariant ∙ length-map-range_with_len _ 0 (length c.args.scopes.now) in
    omega (arith, within, size, c.loop-part.lists.ok.0)

pub loop-part-preserved : goal.loop-part-preserved
loop-part-preserved c =
    let part : ℕ × Clause = c.part-item.result in
    let owner : ℕ = slice_index c.args.entities.now part.0 in
    let within : owner < length c.args.scopes.now =
    c.requires.entities part.0 0 (subst (λ (p : ℕ × Clause). p.0 < length c.args.entities.now) (sym c.part-item.is) (c.requires.blocks c.loop-part.part-index part c.loop-part-test.true)) in
    let size : length c.loop-part.lists.items ≡ length c.args.scopes.now =
    sym (length-map c.loop-part.lists.items (λ list. list.items)) ∙ ap length c.loop-part.invariant ∙ length-map-range_with_len _ 0 (length c.args.scopes.now) in
    let old_list : c.index_mut.result.now.items ≡ get_or (map (λ list. list.items) c.loop-part.lists.items) owner [] =
    ap (λ list. list.items) c.index_mut.ensures.value
    ∙ sym (get_or-map (λ list. list.items) c.loop-part.lists.items owner c.index_mut.result.now [] (omega arith)) in
    map-set (λ list. list.items) c.loop-part.lists.items owner c.push_test_in.new.made
    ∙ gathered_more (λ (p : ℕ × Clause). slice_index c.args.entities.now p.0) (own_test c.args.source.now c.args.entities.now c.args.scopes.now) (length c.args.scopes.now) c.loop-part.part-index c.args.clauses.now part
    (map (λ list. list.items) c.loop-part.lists.items) c.part-item.is c.loop-part-test.true within c.loop-part.invariant c.push_test_in.new.made.items
    (c.in_ok-push_test_in.ensures ∙ ap (λ l. l ++ own_test c.args.source.now c.args.entities.now c.args.scopes.now part) old_list)
