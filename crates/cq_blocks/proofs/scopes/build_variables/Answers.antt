use Rattle.std.proofs.Common.{ℕ, [], ◌∷◌, ◌++◌, ◌≡◌, ◌<◌, map, length, get_or, sym, ap, subst, ◌∙◌, arith}
use Rattle.std.specs.Prelude.{slice_index}
use Rattle.std.proofs.lemmas.List.{map-set, length-map, get_or-map}
use Rattle.std.proofs.lemmas.List.FromFn.{length-map-range_with_len}
use Rattle.cq_base.specs.declared.name.Name.{Name}
use Rattle.cq_blocks.specs.Blocks.{entity_named}
use Rattle.cq_blocks.proofs.Gathering.{gathered_more}
use Rattle.cq_blocks.proofs.scopes.build_variables.Goals as goal

pub index_mut-requires : goal.index_mut-requires
index_mut-requires c =
    let within : slice_index c.args.entities.now c.part-item.result.0 < c.args.count =
    c.requires.entities c.part-item.result.0 0 (subst (λ (p : ℕ × Name × Name). p.0 < length c.args.entities.now) (sym c.part-item.is) (c.requires.blocks c.loop-part.part-index c.part-item.result c.loop-part-test.true)) in
    let size : length c.loop-part.lists.items ≡ c.args.count =
    sym (length-map c.loop-part.lists.items (λ list. list.items)) ∙ ap length c.loop-part.invariant ∙ length-map-range_with_len _ 0 c.args.count in
    omega (arith, within, size, c.loop-part.lists.ok.0)

pub loop-part-preserved : goal.loop-part-preserved
loop-part-preserved c =
    let part : ℕ × Name × Name = c.part-item.result in
    let owner : ℕ = slice_index c.args.entities.now part.0 in
    let within : owner < c.args.count =
    c.requires.entities part.0 0 (subst (λ (p : ℕ × Name × Name). p.0 < length c.args.entities.now) (sym c.part-item.is) (c.requires.blocks c.loop-part.part-index part c.loop-part-test.true)) in
    let size : length c.loop-part.lists.items ≡ c.args.count =
    sym (length-map c.loop-part.lists.items (λ list. list.items)) ∙ ap length c.loop-part.invariant ∙ length-map-range_with_len _ 0 c.args.count in
    let old_list : c.index_mut.result.now.items ≡ get_or (map (λ list. list.items) c.loop-part.lists.items) owner [] =
    ap (λ list. list.items) c.index_mut.ensures.value
    ∙ sym (get_or-map (λ list. list.items) c.loop-part.lists.items owner c.index_mut.result.now [] (omega arith)) in
    map-set (λ list. list.items) c.loop-part.lists.items owner c.push_variable.new.made
    ∙ gathered_more (λ (p : ℕ × Name × Name). slice_index c.args.entities.now p.0) (λ p. (p.1, entity_named c.args.source.now p.2) ∷ []) c.args.count c.loop-part.part-index c.args.parts.now part
    (map (λ list. list.items) c.loop-part.lists.items) c.part-item.is c.loop-part-test.true within c.loop-part.invariant c.push_variable.new.made.items
    (c.in_ok-push_variable.ensures ∙ ap (λ l. l ++ (part.1, entity_named c.args.source.now part.2) ∷ []) old_list)
