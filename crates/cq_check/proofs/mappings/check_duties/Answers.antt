use Rattle.std.proofs.Common.{ℕ, Err, ◌≡◌, ◌∙◌, length, sym, ap, subst, arith}
use Rattle.std.specs.Prelude.{MatchOption}
use Rattle.cq_check.specs.Entities.{AreMetOver, IsUnmetOver}
use Rattle.cq_check.proofs.OverEntity.{IsLeast, least_some, all_preserved, not_preserved, too_deep_duty, too_wide_duty}
use Rattle.cq_mapping.specs.MappingData.{MappingData as Mapping}
use Rattle.cq_check.proofs.mappings.check_duties.Goals as goal

pub returns-in_default-first-clause-preserves : goal.returns-in_default-first-clause-preserves
returns-in_default-first-clause-preserves c =
    let F : Mapping = c.args.mapping.now in
    let last : c.loop-entity.entity ≡ length F.target.entities = omega (arith, c.loop-entity-test.false, c.loop-entity.auto.entity-end, c.entity_count-entity-end.ensures) in
    let least : IsLeast F (length F.target.entities) c.loop-entity.bound c.args.depth c.loop-entity.first =
    subst (λ entity. IsLeast F entity c.loop-entity.bound c.args.depth c.loop-entity.first) last c.loop-entity.invariant in
    all_preserved F c.is_well_sorted.ensures c.loop-entity.bound c.args.depth c.loop-entity.first least c.in_default-first.is

pub returns-clause-not_preserved : goal.returns-clause-not_preserved
returns-clause-not_preserved c = λ n told.
    let F : Mapping = c.args.mapping.now in
    let last : c.loop-entity.entity ≡ length F.target.entities = omega (arith, c.loop-entity-test.false, c.loop-entity.auto.entity-end, c.entity_count-entity-end.ensures) in
    let least : IsLeast F (length F.target.entities) c.loop-entity.bound c.args.depth c.loop-entity.first =
    subst (λ entity. IsLeast F entity c.loop-entity.bound c.args.depth c.loop-entity.first) last c.loop-entity.invariant in
    not_preserved F c.is_well_sorted.ensures c.loop-entity.bound c.args.depth c.loop-entity.first least c.in-Some-first.cause c.in-Some-first.is c.in_ok-number.number c.in_ok-number.ensures.next n
    (ap Err (sym c.refusal.ensures) ∙ told)

pub returns-clause-deep : goal.returns-clause-deep
returns-clause-deep c = λ n told.
    let F : Mapping = c.args.mapping.now in
    let last : c.loop-entity.entity ≡ length F.target.entities = omega (arith, c.loop-entity-test.false, c.loop-entity.auto.entity-end, c.entity_count-entity-end.ensures) in
    let least : IsLeast F (length F.target.entities) c.loop-entity.bound c.args.depth c.loop-entity.first =
    subst (λ entity. IsLeast F entity c.loop-entity.bound c.args.depth c.loop-entity.first) last c.loop-entity.invariant in
    too_deep_duty F c.is_well_sorted.ensures c.loop-entity.bound c.args.depth c.loop-entity.first least c.in-Some-first.cause c.in-Some-first.is c.in_ok-number.number c.in_ok-number.ensures.next n
    (ap Err (sym c.refusal.ensures) ∙ told)

pub returns-clause-many : goal.returns-clause-many
returns-clause-many c = λ n told.
    let F : Mapping = c.args.mapping.now in
    let last : c.loop-entity.entity ≡ length F.target.entities = omega (arith, c.loop-entity-test.false, c.loop-entity.auto.entity-end, c.entity_count-entity-end.ensures) in
    let least : IsLeast F (length F.target.entities) c.loop-entity.bound c.args.depth c.loop-entity.first =
    subst (λ entity. IsLeast F entity c.loop-entity.bound c.args.depth c.loop-entity.first) last c.loop-entity.invariant in
    too_wide_duty F c.is_well_sorted.ensures c.loop-entity.bound c.args.depth c.loop-entity.first least c.in-Some-first.cause c.in-Some-first.is c.in_ok-number.number c.in_ok-number.ensures.next n
    (ap Err (sym c.refusal.ensures) ∙ told)

pub loop-entity-preserved : goal.loop-entity-preserved
loop-entity-preserved c =
    let F : Mapping = c.args.mapping.now in
    let entity : ℕ = c.loop-entity.entity in
    let bound : ℕ = c.loop-entity.bound in
    least_some F entity bound c.args.depth c.loop-entity.first c.in-Some.unmet
    (subst (λ o. MatchOption o (AreMetOver F entity bound) (IsUnmetOver F entity bound c.args.depth)) c.in-Some.is c.in_ok-unmet.ensures) c.loop-entity.invariant
