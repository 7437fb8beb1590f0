use Rattle.std.proofs.Common.{◌≡◌, Some, ap, map, ◌∙◌, subst, sym}
use Rattle.cq_program.specs.Colimits.{part_named}
use Rattle.cq_environment.specs.Environment.{colimit_meant, environment_of, part_meant}
use Rattle.cq_program.specs.Posing.{IsGrounded}
use Rattle.cq_program.proofs.ColimitsPosed.{inclusion_grounded}
use Rattle.cq_program.proofs.colimits.stating.pose_inclusion.Goals as goal

pub returns-in-Some-clause-grounded : goal.returns-in-Some-clause-grounded
returns-in-Some-clause-grounded c = λ name.
    let env = environment_of c.args.env.now.names.entries in
    let is : part_named (colimit_meant c.in-Ok.found.now).parts c.args.used.now.name ≡ Some (part_meant c.in-Some.part.now) =
    ap (λ parts. part_named (map part_meant parts) c.args.used.now.name) (sym c.as_slice.ensures) ∙ sym c.in-Some.ensures in
    subst (IsGrounded env name) (sym c.in_ok-inclusion_of-in-Some.ensures.posed)
    (inclusion_grounded env c.args.along.now c.args.used.now.name (colimit_meant c.in-Ok.found.now) (part_meant c.in-Some.part.now) c.requires.settled c.in-Ok.ensures is)
