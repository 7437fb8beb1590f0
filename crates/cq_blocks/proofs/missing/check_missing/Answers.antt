use Rattle.std.proofs.Common.{ℕ, ◌+◌, ◌-◌, ◌<◌, length, sym, ap, ◌∙◌, arith}
use Rattle.std.specs.List.{range_with_len}
use Rattle.cq_theory.specs.SchemaData.{SchemaData}
use Rattle.cq_theory.specs.Resolve.{or_else}
use Rattle.cq_blocks.specs.Blocks.{first_of, missing_at}
use Rattle.cq_blocks.proofs.Scoping.{first_of-range}
use Rattle.cq_blocks.proofs.missing.check_missing.Goals as goal

pub loop-entity-preserved : goal.loop-entity-preserved
loop-entity-preserved c =
    let n : ℕ = length c.args.making.now.target.now.entities in
    let e : ℕ = c.loop-entity.entity in
    let within : e < n = omega (arith, c.loop-entity-test.true, c.len-entity-end.ensures, ap (λ (S : SchemaData). length S.entities) c.target.view_is) in
    sym (ap (λ o. or_else o (first_of (missing_at c.args.making.now.target.now c.args.making.now.scopes.now c.args.making.now.clauses.now) (range_with_len (e + 1) (n - (e + 1))))) c.in_ok-check_entity.ensures.accepted)
    ∙ sym (first_of-range (missing_at c.args.making.now.target.now c.args.making.now.scopes.now c.args.making.now.clauses.now) e n within) ∙ c.loop-entity.invariant
