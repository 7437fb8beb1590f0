use Rattle.std.proofs.Common.{ℕ, List, ◌≡◌, ◌<◌, ◌∙◌, sym, ap, subst}
use Rattle.std.specs.List.{All}
use Rattle.cq_check.specs.Entities.{duty_entities}
use Rattle.cq_check.proofs.OverEntity.{entities_within}
use Rattle.cq_mapping.specs.Duties.{duties_of}
use Rattle.cq_check.specs.Prepared.{IsPreparedFor}
use Rattle.cq_theory.specs.Groups.{AreGroups}
use Rattle.cq_theory.specs.SchemaData.{SchemaData as Schema}
use Rattle.cq_check.proofs.mappings.list_duties.Goals as goal

pub new-requires : goal.new-requires
new-requires c =
    let are : c.deref-2.result.now ≡ duty_entities (duties_of c.args.mapping.now) =
    c.deref-2.ensures.value ∙ c.in_ok-entities.ensures ∙ ap duty_entities (c.deref.ensures.value ∙ c.requires) in
    subst (λ (x : List ℕ × ℕ). All (λ entity. entity < x.1) x.0) (λ i. (sym are i, sym c.entity_count.ensures i)) (entities_within c.args.mapping.now c.is_well_sorted.ensures)

pub returns : goal.returns
returns c =
    let are : c.deref-2.result.now ≡ duty_entities (duties_of c.args.mapping.now) =
    c.deref-2.ensures.value ∙ c.in_ok-entities.ensures ∙ ap duty_entities (c.deref.ensures.value ∙ c.requires) in
    record {
      are = c.requires;
      groups = subst (λ (x : List ℕ × ℕ). AreGroups x.0 x.1 c.in_ok-by_entity.by_entity) (λ i. (are i, c.entity_count.ensures i)) c.in_ok-by_entity.ensures;
      target = subst (λ (S : Schema). IsPreparedFor S c.in_ok-target.target) c.target.ensures c.in_ok-target.ensures;
    }
