use Rattle.std.proofs.Common.{◌≡◌, ◌+◌, length, refl, ap, ◌∙◌, arith}
use Rattle.std.proofs.lemmas.List.FromFn.{length-map-range_with_len}
use Rattle.cq_theory.specs.SchemaData.{SchemaData}
use Rattle.cq_blocks.specs.Blocks.{scopes_of}
use Rattle.cq_blocks.proofs.Scoping.{rest_after}
use Rattle.cq_blocks.proofs.making.make_blocks.Goals as goal

pub finish_blocks-requires : goal.finish_blocks-requires
finish_blocks-requires c = record {
  making = record {
    numbers = omega (arith, c.requires.parts.numbers);
    scopes = ap length c.as_slice.ensures.value ∙ ap length c.in_ok-scopes.ensures.made ∙ length-map-range_with_len _ 0 c.len-count.result
        ∙ c.len-count.ensures ∙ ap (λ (S : SchemaData). length S.entities) c.target.view_is;
    entities = c.requires.parts.entities;
    clauses = c.requires.parts.clauses;
  };
}

pub returns-in-Ok-clause-accepted : goal.returns-in-Ok-clause-accepted
returns-in-Ok-clause-accepted c =
    let count : c.len-count.result ≡ length c.args.target.now.entities = c.len-count.ensures ∙ ap (λ (S : SchemaData). length S.entities) c.target.view_is in
    let scopes : c.as_slice.result.now ≡ scopes_of c.args.source.now c.args.parts.now.entities.now (length c.args.target.now.entities) c.args.parts.now.vars.now
    = c.as_slice.ensures.value ∙ c.in_ok-scopes.ensures.made ∙ ap (λ n. scopes_of c.args.source.now c.args.parts.now.entities.now n c.args.parts.now.vars.now) count in
    rest_after c.args.source.now c.args.target.now c.args.parts.now.entities.now c.args.parts.now.first (c.args.parts.now.first + length c.args.parts.now.vars.now) c.args.parts.now.vars.now c.args.parts.now.clauses.now c.as_slice.result.now
    c.in_ok-scopes.ensures.accepted scopes refl
    ∙ c.in-Ok.ensures.accepted
