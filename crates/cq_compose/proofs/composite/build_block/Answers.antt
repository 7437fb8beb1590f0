use Rattle.std.proofs.Common.{ℕ, List, ◌++◌, map, ap, ◌∙◌}
use Rattle.std.specs.List.{flat_map, enumerate_from}
use Rattle.cq_base.specs.declared.name.Name.{Name}
use Rattle.cq_theory.specs.declared.presentation.Equation.{Equation}
use Rattle.cq_query.specs.Puts.{put_equation}
use Rattle.cq_query.specs.Translation.{variables_at, tests_at}
use Rattle.cq_compose.specs.Composite.{components, term_components, translated, translated_test}
use Rattle.cq_compose.proofs.Finishing.{block_composed}
use Rattle.cq_compose.proofs.composite.build_block.Goals as goal

pub returns : goal.returns
returns c =
    let frame = c.args.frame.now in
    let Q = frame.first.now in
    let W = frame.second.now in
    let u = frame.entity in
    block_composed Q W u c.args.block.now c.requires.there _ c.in_ok-vars.vars.items c.in_ok-entities.entities.items c.as_slice-2.result.now _ c.push_first_tests.new.made.items c.push_second_tests.new.made.items _ c.in_ok-attributes.attributes.items _ c.in_ok-keys.keys.items
    c.from_vec.ensures c.in_ok-vars.ensures c.as_slice-2.ensures.value
    (c.in_ok-entities.ensures ∙ ap (flat_map (λ (y : Name × ℕ). map (λ (v : Name × ℕ). v.1) (variables_at Q y.1))) c.as_slice.ensures)
    c.from_vec-2.ensures
    (c.in_ok-push_second_tests.ensures ∙ ap (λ l. c.push_first_tests.new.made.items ++ flat_map (translated_test Q W u) l) c.as_slice-4.ensures)
    (c.in_ok-push_first_tests.ensures ∙ λ i. c.new-tests.ensures.items i ++ flat_map (λ (y : ℕ × (Name × ℕ)). map (put_equation (components Q W u y.0)) (tests_at Q y.1.1)) (enumerate_from 0 (c.as_slice-3.ensures i)))
    c.from_vec-3.ensures (c.in_ok-attributes.ensures ∙ ap (map (translated Q W u)) c.as_slice-5.ensures)
    c.from_vec-4.ensures (c.in_ok-keys.ensures ∙ ap (map (flat_map (term_components Q W u))) c.as_slice-6.ensures)
