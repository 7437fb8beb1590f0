use Rattle.std.proofs.Common.{length, sym, subst}
use Rattle.cq_theory.specs.Groups.{path_eq_sources, AreGroups}
use Rattle.cq_theory.specs.declared.groups.Groups.{Groups}
use Rattle.cq_rows.proofs.outline.Outline.of_presentation.Goals as goal

pub returns : goal.returns
returns c = record {
  frame = c.in_ok-outline.ensures.frame;
  path_equations = λ some. subst (λ (g : Groups). AreGroups (path_eq_sources c.args.schema.now.path_eqs) (length c.args.schema.now.entities) g)
      (sym c.in_ok-outline.ensures.listed) (c.in_ok-path_equations.ensures some);
}
