use Rattle.std.proofs.Common.{List, map, subst}
use Rattle.cq_theory.specs.Tables.{Assignment}
use Rattle.cq_theory.specs.declared.presentation.Equation.{Equation}
use Rattle.cq_instance.specs.Standing.{meaning}
use Rattle.cq_transform.specs.Refusals.{TellsUnequal}
use Rattle.cq_transform.proofs.Made.{sides_over, made_goes}
use Rattle.cq_transform.proofs.Told.{are_kept}
use Rattle.cq_transform.proofs.transforming.checked_transform.Goals as goal

pub check_equations-requires : goal.check_equations-requires
check_equations-requires c =
    sides_over c.args.source.now c.args.target.now c.requires.schema c.is_instance.ensures c.args.images.items c.requires.sorted c.equations_of-equations.ensures.instance.presented
    (map meaning c.args.standings.now) c.equations_of-equations.result.now c.requires.meant c.equations_of-equations.ensures.equations

pub returns-in-Err-clause-refused : goal.returns-in-Err-clause-refused
returns-in-Err-clause-refused c =
    subst (λ (x : Assignment × List Equation). TellsUnequal c.args.target.now.tables x.0 x.1 c.in-Err.refusal)
    (λ k. (c.requires.meant k, c.equations_of-equations.ensures.equations k)) c.in-Err.ensures.refused

pub returns-in-Ok-clause-kept : goal.returns-in-Ok-clause-kept
returns-in-Ok-clause-kept c =
    are_kept c.args.source.now c.args.target.now c.args.images.items (map meaning c.args.standings.now) c.equations_of-equations.result.now c.requires.meant
    c.equations_of-equations.ensures.equations c.in_default.ensures.kept

pub returns-in-Ok-clause-goes : goal.returns-in-Ok-clause-goes
returns-in-Ok-clause-goes c =
    made_goes c.args.source.now c.args.target.now c.requires.schema c.is_instance.ensures c.args.images.items c.requires.sorted
    (are_kept c.args.source.now c.args.target.now c.args.images.items (map meaning c.args.standings.now) c.equations_of-equations.result.now c.requires.meant
    c.equations_of-equations.ensures.equations c.in_default.ensures.kept)
    c.equations_of-equations.ensures.schema (map meaning c.args.standings.now) c.requires.meant c.in-Ok.made c.in-Ok.ensures.images c.in-Ok.ensures.rows c.in-Ok.ensures.nulls
