use Rattle.std.proofs.Common.{ℕ, List, [], ◌≡◌, ◌∙◌, length, get_or, slice_index_or, sym, ap, subst, arith}
use Rattle.std.specs.Prelude.{slice_get}
use Rattle.std.proofs.lemmas.List.{get_or_default}
use Rattle.std.proofs.lemmas.Option.{slice_get-get_or}
use Rattle.cq_model.specs.Equating.{AddsAtRows}
use Rattle.cq_model.proofs.AddedSides.{AreObserved, observed_none, observed_more}
use Rattle.cq_model.proofs.equations.push_observations.Goals as goal

pub loop-entity-init : goal.loop-entity-init
loop-entity-init c = observed_none c.args.ground.now.schema.now c.args.ground.now.tables.now c.args.ground.now.places.now c.args.order.now c.args.list.now

pub push_entity-requires-clause-rows : goal.push_entity-requires-clause-rows
push_entity-requires-clause-rows c = λ k d inside.
    let e : ℕ = c.loop-entity.entity in
    let rows : c.as_slice.result.now ≡ slice_index_or c.args.order.now e [] = c.as_slice.ensures ∙ c.index-order-entity.is ∙ get_or_default c.args.order.now e c.index-order-entity.result [] c.loop-entity-test.true in
    c.requires.rows e (get_or c.as_slice.result.now k d) k (ap (λ (l : List ℕ). slice_get l k) (sym rows) ∙ slice_get-get_or c.as_slice.result.now k d inside)

pub loop-entity-preserved : goal.loop-entity-preserved
loop-entity-preserved c =
    let e : ℕ = c.loop-entity.entity in
    let rows : c.as_slice.result.now ≡ slice_index_or c.args.order.now e [] = c.as_slice.ensures ∙ c.index-order-entity.is ∙ get_or_default c.args.order.now e c.index-order-entity.result [] c.loop-entity-test.true in
    observed_more c.args.ground.now.schema.now c.args.ground.now.tables.now c.args.ground.now.places.now c.args.order.now e c.args.list.now c.loop-entity.list c.push_entity.new.list c.loop-entity.invariant c.in_ok-push_entity.ensures.grows
    (subst (λ (l : List ℕ). AddsAtRows c.args.ground.now.schema.now c.args.ground.now.tables.now c.args.ground.now.places.now e l c.loop-entity.list c.push_entity.new.list) rows c.in_ok-push_entity.ensures.added)

pub returns-clause-added : goal.returns-clause-added
returns-clause-added c =
    let all : c.loop-entity.entity ≡ length c.args.order.now = omega (arith, c.loop-entity-test.false) in
    let are = subst (λ n. AreObserved c.args.ground.now.schema.now c.args.ground.now.tables.now c.args.ground.now.places.now c.args.order.now n c.args.list.now c.loop-entity.list) all c.loop-entity.invariant in
    are.added

pub push_entity-requires-clause-groups : goal.push_entity-requires-clause-groups
push_entity-requires-clause-groups c = λ some.
    let e : ℕ = c.loop-entity.entity in
    let rows : c.as_slice.result.now ≡ slice_index_or c.args.order.now e [] = c.as_slice.ensures ∙ c.index-order-entity.is ∙ get_or_default c.args.order.now e c.index-order-entity.result [] c.loop-entity-test.true in
    c.in_ok-groups.ensures e (omega (arith, some, ap length rows))
