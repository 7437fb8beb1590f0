use Rattle.std.proofs.Common.{ℕ, List, None, Some, ◌≡◌, ◌⊎◌, IfOk, IfErr, subst}
use Rattle.cq_theory.specs.declared.refusal.ArrowRefusal.TheVariants.{Memory}
use Rattle.cq_theory.specs.Groups.{positions}
use Rattle.cq_theory.specs.Groups.{edge_sources}
use Rattle.cq_blocks.specs.Blocks.{missing_in}
use Rattle.cq_theory.proofs.Grouped.{group_within, group_read}
use Rattle.cq_blocks.proofs.missing.check_entity.Goals as goal

pub of-attributes-requires : goal.of-attributes-requires
of-attributes-requires c = group_within _ _ c.args.entity _ c.requires.beginnings.attributes c.requires.entity

pub of-keys-requires : goal.of-keys-requires
of-keys-requires c = group_within _ _ c.args.entity _ c.requires.beginnings.keys c.requires.entity

pub returns-clause-accepted : goal.returns-clause-accepted
returns-clause-accepted c =
    let attributes = group_read _ _ c.args.entity _ c.requires.beginnings.attributes c.requires.entity _ c.of-attributes.ensures in
    let keys = group_read _ _ c.args.entity _ c.requires.beginnings.keys c.requires.entity _ c.of-keys.ensures in
    let both : (c.of-attributes.result.now, c.of-keys.result.now) ≡ (positions (edge_sources c.args.making.now.target.now.attributes) c.args.entity, positions (edge_sources c.args.making.now.target.now.keys) c.args.entity)
    = λ i. (attributes i, keys i) in
    let Told : List ℕ × List ℕ → Type 0 = λ l. IfOk c.check_lists.result (λ _. missing_in c.args.making.now.target.now c.args.making.now.scopes.now c.args.making.now.clauses.now l.0 l.1 ≡ None) in
    subst Told both c.check_lists.ensures.accepted

pub returns-clause-refused : goal.returns-clause-refused
returns-clause-refused c =
    let attributes = group_read _ _ c.args.entity _ c.requires.beginnings.attributes c.requires.entity _ c.of-attributes.ensures in
    let keys = group_read _ _ c.args.entity _ c.requires.beginnings.keys c.requires.entity _ c.of-keys.ensures in
    let both : (c.of-attributes.result.now, c.of-keys.result.now) ≡ (positions (edge_sources c.args.making.now.target.now.attributes) c.args.entity, positions (edge_sources c.args.making.now.target.now.keys) c.args.entity)
    = λ i. (attributes i, keys i) in
    let Told : List ℕ × List ℕ → Type 0 = λ l. IfErr c.check_lists.result (λ refusal. (refusal ≡ Memory) ⊎ (missing_in c.args.making.now.target.now c.args.making.now.scopes.now c.args.making.now.clauses.now l.0 l.1 ≡ Some refusal)) in
    subst Told both c.check_lists.ensures.refused
