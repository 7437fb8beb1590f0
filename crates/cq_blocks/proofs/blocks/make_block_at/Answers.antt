use Rattle.std.proofs.Common.{ℕ, List, ◌≡◌, IfOk, map, subst, arith}
use Rattle.std.specs.Prelude.{slice_get}
use Rattle.cq_blocks.specs.declared.block.Block.{Block}
use Rattle.cq_theory.specs.Groups.{positions}
use Rattle.cq_theory.specs.Groups.{edge_sources}
use Rattle.cq_blocks.specs.Blocks.{scope_or_none, attribute_made, key_made}
use Rattle.cq_theory.proofs.Grouped.{group_within, group_read}
use Rattle.cq_blocks.proofs.blocks.make_block_at.Goals as goal

pub of-attributes-requires : goal.of-attributes-requires
of-attributes-requires c = group_within _ _ c.args.entity _ c.requires.beginnings.attributes c.requires.entity

pub of-keys-requires : goal.of-keys-requires
of-keys-requires c = group_within _ _ c.args.entity _ c.requires.beginnings.keys c.requires.entity

pub make_block-requires-clause-entity : goal.make_block-requires-clause-entity
make_block-requires-clause-entity c = omega (arith, c.requires.entity, c.requires.making.scopes)

pub returns : goal.returns
returns c =
    let attributes = group_read _ _ c.args.entity _ c.requires.beginnings.attributes c.requires.entity _ c.of-attributes.ensures in
    let keys = group_read _ _ c.args.entity _ c.requires.beginnings.keys c.requires.entity _ c.of-keys.ensures in
    let both : (c.of-attributes.result.now, c.of-keys.result.now) ≡ (positions (edge_sources c.args.making.now.target.now.attributes) c.args.entity, positions (edge_sources c.args.making.now.target.now.keys) c.args.entity)
    = λ i. (attributes i, keys i) in
    let With : List ℕ × List ℕ → Block = λ l. record {
      vars = scope_or_none (slice_get c.args.making.now.scopes.now c.args.entity);
      tests = c.args.tests.items;
      attributes = map (attribute_made c.args.making.now.source.now c.args.making.now.target.now c.args.making.now.scopes.now c.args.making.now.clauses.now) l.0;
      keys = map (key_made c.args.making.now.source.now c.args.making.now.target.now c.args.making.now.scopes.now c.args.making.now.clauses.now) l.1;
    } in
    let Told : List ℕ × List ℕ → Type 0 = λ l. IfOk c.make_block.result (λ made. made ≡ With l) in
    subst Told both c.make_block.ensures
