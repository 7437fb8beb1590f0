use Rattle.std.proofs.Common.{◌≡◌, ap, sym, subst, ◌∙◌}
use Rattle.cq_theory.specs.declared.value.Algebra.{Algebra}
use Rattle.cq_instance.specs.Given.{IsModel, tables, given}
use Rattle.cq_instance.proofs.instance.Instance.with_sheet.Goals as goal

pub of_tables-requires : goal.of_tables-requires
of_tables-requires c =
    let same : c.in_ok-algebra.algebra ≡ c.args.self.now.tables.algebra = c.in_ok-algebra.ensures ∙ c.algebra.ensures.algebra in
    subst (λ (a : Algebra). IsModel c.args.schema.value (tables c.args.sheet a)) (sym same) c.requires

pub returns-in-Ok-clause-instance : goal.returns-in-Ok-clause-instance
returns-in-Ok-clause-instance c =
    let same : c.in_ok-algebra.algebra ≡ c.args.self.now.tables.algebra = c.in_ok-algebra.ensures ∙ c.algebra.ensures.algebra in
    c.in-Ok.ensures.instance ∙ ap (λ (a : Algebra). given c.args.schema.value (tables c.args.sheet a)) same
