use Rattle.std.proofs.Common.{ℕ, List, Option, None, ◌++◌, ◌≡◌, map, length, IfOk, ap, subst, ◌∙◌}
use Rattle.std.specs.List.{flat_map, filter_map, enumerate_from}
use Rattle.cq_theory.specs.declared.term.TypeTerm.{TypeTerm}
use Rattle.cq_theory.specs.declared.value.Algebra.{Algebra}
use Rattle.cq_theory.specs.Canonical.{below}
use Rattle.cq_theory.specs.Listed.{cell_nodes, generator_node, equation_nodes, observation_nodes, nodes}
use Rattle.cq_instance.specs.InstanceData.{InstanceData}
use Rattle.cq_instance.specs.Learning.{learned_from}
use Rattle.cq_instance.proofs.Learnt.{first_terms, learned_then}
use Rattle.cq_instance.proofs.null_terms.first_nodes.Goals as goal

pub returns : goal.returns
returns c =
    let i : InstanceData = c.args.instance.now in
    let n : ℕ = length i.tables.algebra.nulls in
    let count : c.len.result ≡ n = c.len.ensures ∙ ap (λ (a : Algebra). length a.nulls) c.algebra.ensures.algebra in
    let start : List (Option TypeTerm) = map (λ (_ : ℕ). let none : Option TypeTerm = None in none) (below n) in
    let cells : List TypeTerm = flat_map (cell_nodes i.schema i.presentation i.names) (below (length i.schema.entities)) in
    let generators : List TypeTerm = filter_map (generator_node i.schema i.presentation i.names) (enumerate_from 0 i.presentation.generators) in
    let equations : List TypeTerm = flat_map (equation_nodes i.schema i.presentation i.names) i.presentation.equations in
    let observations : List TypeTerm = flat_map (observation_nodes i.schema i.presentation i.names) (below (length i.schema.entities)) in
    let none : c.in_ok-known.known.items ≡ start = c.in_ok-known.ensures ∙ ap (λ m. map (λ (_ : ℕ). let none : Option TypeTerm = None in none) (below m)) count in
    let first : c.learn_cells.new.known.items ≡ learned_from i start cells = c.in_ok-learn_cells.ensures ∙ ap (λ (k : List (Option TypeTerm)). learned_from i k cells) none in
    let second = learned_then i start c.learn_cells.new.known.items c.learn_generators.new.known.items cells generators first c.learn_generators.ensures in
    let third = learned_then i start c.learn_generators.new.known.items c.learn_equations.new.known.items (cells ++ generators) equations second c.in_ok-learn_equations.ensures in
    let last = learned_then i start c.learn_equations.new.known.items c.learn_observations.new.known.items ((cells ++ generators) ++ equations) observations third c.in_ok-learn_observations.ensures in
    subst (λ (l : List TypeTerm). IfOk c.terms_of.result (λ terms. terms.items ≡ l)) (first_terms i (nodes i.schema i.presentation i.names) n c.learn_observations.new.known.items last) c.terms_of.ensures
