use Rattle.std.proofs.Common.{[], ◌∷◌, ◌++◌, ◌∙◌, sym, ap, subst}
use Rattle.cq_theory.specs.declared.presentation.Equation.TheVariants.{Typ}
use Rattle.cq_import.specs.Labels.{value_term}
use Rattle.cq_import.proofs.Rooms.{Fits}
use Rattle.cq_import.proofs.entries.read_entry.Goals as goal

pub push_entry-requires : goal.push_entry-requires
push_entry-requires c = subst (Fits c.args.over.now.first) (sym c.in-Ok.ensures.kept) c.requires

pub returns-in_ok-push_entry-in-Ok-clause-equations : goal.returns-in_ok-push_entry-in-Ok-clause-equations
returns-in_ok-push_entry-in-Ok-clause-equations c =
    let made = c.args.made.now in
    let first = c.args.over.now.first in
    c.in_ok-push_entry-in-Ok.ensures.equations
    ∙ ap (λ l. made.equations.items ++ Typ (value_term first l c.in-Ok.left) (value_term first l c.in-Ok.right) ∷ []) c.in-Ok.ensures.kept
    ∙ ap (λ l. made.equations.items ++ l) (sym (c.in-Ok.ensures.equations first made.labels))
