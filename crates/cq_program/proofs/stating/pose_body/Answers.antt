use Rattle.std.proofs.Common.{subst, sym}
use Rattle.cq_syntax.specs.declared.program.Body.{Body}
use Rattle.cq_program.specs.Checks.{body_posed}
use Rattle.cq_environment.specs.Environment.{Answers, environment_of}
use Rattle.cq_program.specs.Posing.{posed_as}
use Rattle.cq_program.proofs.stating.pose_body.Goals as goal

pub returns-in-Mapping-Literal-clause-grounded : goal.returns-in-Mapping-Literal-clause-grounded
returns-in-Mapping-Literal-clause-grounded c = c.pose_mapping.ensures.grounded c.args.name.now

pub returns-in-Query-Literal-clause-grounded : goal.returns-in-Query-Literal-clause-grounded
returns-in-Query-Literal-clause-grounded c = c.pose_query.ensures.grounded c.args.name.now

pub returns-in-Query-Compose-clause-grounded : goal.returns-in-Query-Compose-clause-grounded
returns-in-Query-Compose-clause-grounded c = c.pose_composite.ensures.grounded c.args.name.now

pub returns-in-Query-OfMapping-clause-grounded : goal.returns-in-Query-OfMapping-clause-grounded
returns-in-Query-OfMapping-clause-grounded c = c.pose_mapping_query.ensures.grounded c.args.name.now

pub returns-in-Instance-clause-posed : goal.returns-in-Instance-clause-posed
returns-in-Instance-clause-posed c =
    subst (λ (body : Body). Answers posed_as c.pose_instance.result (body_posed (environment_of c.args.env.now.names.entries) c.args.place c.args.name.now body)) (sym c.in-Instance.is)
    (c.pose_instance.ensures.posed c.args.name.now)

pub returns-in-Instance-clause-grounded : goal.returns-in-Instance-clause-grounded
returns-in-Instance-clause-grounded c = c.pose_instance.ensures.grounded c.args.name.now

pub returns-in-Transform-Identity-clause-grounded : goal.returns-in-Transform-Identity-clause-grounded
returns-in-Transform-Identity-clause-grounded c = c.pose_identical.ensures.grounded c.args.name.now

pub returns-in-Transform-Literal-clause-grounded : goal.returns-in-Transform-Literal-clause-grounded
returns-in-Transform-Literal-clause-grounded c = c.pose_transform.ensures.grounded c.args.name.now

pub returns-in-Schema-GetSchema-clause-grounded : goal.returns-in-Schema-GetSchema-clause-grounded
returns-in-Schema-GetSchema-clause-grounded c = c.pose_joined_schema.ensures.grounded c.args.name.now

pub returns-in-Mapping-GetMapping-clause-grounded : goal.returns-in-Mapping-GetMapping-clause-grounded
returns-in-Mapping-GetMapping-clause-grounded c = c.pose_inclusion.ensures.grounded c.args.name.now

pub returns-in-Transform-Move-clause-grounded : goal.returns-in-Transform-Move-clause-grounded
returns-in-Transform-Move-clause-grounded c = c.pose_move.ensures.grounded c.args.name.now
