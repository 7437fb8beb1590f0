use Rattle.std.proofs.Common.{ℕ, ◌≡◌, ◌<◌, length, ap, subst, ◌∙◌, arith}
use Rattle.std.specs.List.{flat_map}
use Rattle.cq_theory.specs.Canonical.{below}
use Rattle.cq_theory.specs.SchemaData.{SchemaData as Schema}
use Rattle.cq_theory.specs.Groups.{edge_sources, AreGroups}
use Rattle.cq_theory.specs.Listed.{cell_nodes}
use Rattle.cq_instance.specs.InstanceData.{InstanceData}
use Rattle.cq_instance.specs.Learning.{learned_from}
use Rattle.cq_instance.proofs.CellsLearnt.{group_count, group_found}
use Rattle.cq_instance.proofs.Learnt.{learned_below}
use Rattle.cq_instance.proofs.null_terms.cells.learn_cells.Goals as goal

pub of-requires : goal.of-requires
of-requires c =
    let i : InstanceData = c.args.instance.now in
    let schema : c.deref-2.result.now ≡ i.schema = c.deref-2.ensures ∙ c.schema-schema.ensures.schema in
    let end : c.behind-schema.inside.entities ≡ i.schema.entities = ap (λ (s : Schema). s.entities) (c.behind-schema.view_is ∙ c.deref-3.ensures ∙ c.schema-schema.ensures.schema) in
    let groups : AreGroups (edge_sources i.schema.attributes) (length i.schema.entities) c.in_ok-groups.groups =
    subst (λ (s : Schema). AreGroups (edge_sources s.attributes) (length s.entities) c.in_ok-groups.groups) schema c.in_ok-groups.ensures in
    omega (arith, c.loop-entity-test.true, c.len-entity-end.ensures, ap length end, group_count (edge_sources i.schema.attributes) (length i.schema.entities) c.in_ok-groups.groups groups)

pub learn_entity-requires-clause-numbers : goal.learn_entity-requires-clause-numbers
learn_entity-requires-clause-numbers c =
    let i : InstanceData = c.args.instance.now in
    let schema : c.deref-2.result.now ≡ i.schema = c.deref-2.ensures ∙ c.schema-schema.ensures.schema in
    let end : c.behind-schema.inside.entities ≡ i.schema.entities = ap (λ (s : Schema). s.entities) (c.behind-schema.view_is ∙ c.deref-3.ensures ∙ c.schema-schema.ensures.schema) in
    let groups : AreGroups (edge_sources i.schema.attributes) (length i.schema.entities) c.in_ok-groups.groups =
    subst (λ (s : Schema). AreGroups (edge_sources s.attributes) (length s.entities) c.in_ok-groups.groups) schema c.in_ok-groups.ensures in
    let within : c.loop-entity.entity < length i.schema.entities = omega (arith, c.loop-entity-test.true, c.len-entity-end.ensures, ap length end) in
    group_found (edge_sources i.schema.attributes) (length i.schema.entities) c.in_ok-groups.groups c.loop-entity.entity c.of.result.now groups within c.of.ensures

pub loop-entity-preserved : goal.loop-entity-preserved
loop-entity-preserved c =
    let i : InstanceData = c.args.instance.now in
    learned_below i (cell_nodes i.schema i.presentation i.names) c.loop-entity.entity c.args.known.now.items c.loop-entity.known.items c.learn_entity.new.known.items c.loop-entity.invariant c.in_ok-learn_entity.ensures

pub returns : goal.returns
returns c =
    let i : InstanceData = c.args.instance.now in
    let end : c.behind-schema.inside.entities ≡ i.schema.entities = ap (λ (s : Schema). s.entities) (c.behind-schema.view_is ∙ c.deref-3.ensures ∙ c.schema-schema.ensures.schema) in
    let all : c.loop-entity.entity ≡ length i.schema.entities = omega (arith, c.loop-entity-test.false, c.loop-entity.auto.entity-end, c.len-entity-end.ensures, ap length end) in
    c.loop-entity.invariant ∙ ap (λ (n : ℕ). learned_from i c.args.known.now.items (flat_map (cell_nodes i.schema i.presentation i.names) (below n))) all
