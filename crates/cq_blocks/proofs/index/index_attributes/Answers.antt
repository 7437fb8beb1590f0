use Rattle.std.proofs.Common.{ℕ, ◌≡◌, ◌+◌, map, length, refl, ap, ◌∙◌}
use Rattle.cq_theory.specs.SchemaData.{SchemaData}
use Rattle.cq_blocks.specs.declared.parts.Clause.{Clause}
use Rattle.cq_blocks.specs.Index.{attribute_owner}
use Rattle.cq_theory.proofs.Beginning.{groups_as}
use Rattle.cq_blocks.proofs.Indexing.{attributes_within}
use Rattle.cq_blocks.proofs.index.index_attributes.Goals as goal

pub new-requires : goal.new-requires
new-requires c =
    let size : c.len-count.result ≡ length c.args.target.now.attributes = c.len-count.ensures ∙ ap (λ (S : SchemaData). length S.attributes) c.target.view_is in
    attributes_within c.args.target.now c.args.clauses.now c.as_slice.result.now c.len-count.result (c.len-count.result + 1) (c.as_slice.ensures.value ∙ c.in_ok-owners.ensures) size refl

pub returns : goal.returns
returns c =
    let size : c.len-count.result ≡ length c.args.target.now.attributes = c.len-count.ensures ∙ ap (λ (S : SchemaData). length S.attributes) c.target.view_is in
    groups_as _ (map (λ (d : ℕ × Clause). attribute_owner c.args.target.now (length c.args.target.now.attributes) d.1) c.args.clauses.now) c.as_slice.result.now (length c.args.target.now.attributes + 1) (c.len-count.result + 1)
    (c.as_slice.ensures.value ∙ c.in_ok-owners.ensures ∙ ap (λ n. map (λ (d : ℕ × Clause). attribute_owner c.args.target.now n d.1) c.args.clauses.now) size) (ap (λ n. n + 1) size) c.in_ok-groups.ensures
