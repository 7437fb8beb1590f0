use Rattle.std.proofs.Common.{Some, ◌≡◌, IfOk, map, sym, ap, subst, ◌∙◌}
use Rattle.std.specs.Prelude.{option_copied}
use Rattle.cq_blocks.specs.Blocks.{entity_made, assigned_in, scope_or_none}
use Rattle.cq_blocks.proofs.blocks.build_assigned_to.Goals as goal

pub returns-in-Some : goal.returns-in-Some
returns-in-Some c =
    let there : option_copied c.args.to ≡ Some c.in-Some.to.now = ap option_copied c.in-Some.is in
    subst (λ l. IfOk c.build_assigned.result (λ made. made.items ≡ map (λ v. entity_made c.args.making.now.source.now (option_copied c.args.from) (assigned_in c.args.making.now.target.now c.args.making.now.clauses.now c.args.key v.0)) l))
    (c.vars.ensures ∙ sym (ap scope_or_none there)) c.build_assigned.ensures
