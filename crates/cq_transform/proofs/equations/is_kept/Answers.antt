use Rattle.std.proofs.Common.{IfOk, IsTrue, ◌↔◌, map, sym, subst}
use Rattle.cq_theory.specs.declared.presentation.Equation.{Equation}
use Rattle.cq_instance.specs.Standing.{meaning}
use Rattle.cq_transform.specs.Refusals.{IsEqual}
use Rattle.cq_transform.proofs.equations.is_kept.Goals as goal

pub returns-in-Ent : goal.returns-in-Ent
returns-in-Ent c =
    subst (λ (e : Equation). IsTrue c.rows_kept.result ↔ IsEqual c.args.target.now.tables (map meaning c.args.standings.now) e) (sym c.in-Ent.is) c.rows_kept.ensures

pub returns-in-Typ : goal.returns-in-Typ
returns-in-Typ c =
    subst (λ (e : Equation). IfOk c.values_kept.result (λ kept. IsTrue kept ↔ IsEqual c.args.target.now.tables (map meaning c.args.standings.now) e)) (sym c.in-Typ.is) c.values_kept.ensures
