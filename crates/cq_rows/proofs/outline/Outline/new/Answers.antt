use Rattle.std.proofs.Common.{sym, subst}
use Rattle.cq_theory.specs.Groups.{path_eq_sources, AreGroups}
use Rattle.cq_theory.specs.declared.groups.Groups.{Groups}
use Rattle.std.proofs.Common.{length}
use Rattle.cq_rows.proofs.outline.Outline.new.Goals as goal

pub returns : goal.returns
returns c = record {
  frame = c.in_ok-outline.ensures.frame;
  path_equations = subst (λ (g : Groups). AreGroups (path_eq_sources c.args.schema.now.path_eqs) (length c.args.schema.now.entities) g)
      (sym c.in_ok-outline.ensures.listed) c.in_ok-path_equations.ensures;
}
