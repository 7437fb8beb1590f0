use Rattle.std.proofs.Common.{◌≡◌, ◌<◌, ◌+◌, ◌^◌, List, None, length, ap, ◌∙◌, sym, subst, arith}
use Rattle.std.specs.Prelude.{All, Ok}
use Rattle.cq_program.specs.declared.colimits.stating.UsedSchema.{UsedSchema}
use Rattle.cq_program.specs.Colimits.{first_apart, parts_used}
use Rattle.cq_environment.specs.Environment.{IsPartPrinted, environment_of}
use Rattle.cq_program.specs.Views.{useds_meant}
use Rattle.cq_program.proofs.ColimitsPosed.{parts_few, parts_over, parts_printed}
use Rattle.cq_program.proofs.colimits.stating.pose_colimit.Goals as goal

pub join_schemas-requires-clause-few : goal.join_schemas-requires-clause-few
join_schemas-requires-clause-few c =
    let env = environment_of c.args.env.now.names.entries in
    let are : parts_used env c.args.literal.now.parts ≡ Ok (useds_meant c.in_ok-parts.parts.items) = ap (parts_used env) (sym c.as_slice.ensures) ∙ c.in_ok-parts.ensures in
    let same : length c.as_slice-3.result.now ≡ length c.in_ok-parts.parts.items = ap length c.as_slice-3.ensures.value in
    let few : length c.in_ok-parts.parts.items + length c.args.literal.now.pairs + length c.args.literal.now.path_eqs + length c.args.literal.now.obs_eqs < 2 ^ 32 =
    parts_few env c.args.literal.now.parts c.in_ok-parts.parts.items (length c.args.literal.now.pairs) (length c.args.literal.now.path_eqs) (length c.args.literal.now.obs_eqs) are c.requires.few in
    omega arith

pub join_schemas-requires-clause-over : goal.join_schemas-requires-clause-over
join_schemas-requires-clause-over c =
    let env = environment_of c.args.env.now.names.entries in
    let are : parts_used env c.args.literal.now.parts ≡ Ok (useds_meant c.in_ok-parts.parts.items) = ap (parts_used env) (sym c.as_slice.ensures) ∙ c.in_ok-parts.ensures in
    let found : first_apart c.args.literal.now.typeside.name (useds_meant c.as_slice-2.result.now) ≡ None = cc in
    let none : first_apart c.args.literal.now.typeside.name (useds_meant c.in_ok-parts.parts.items) ≡ None =
    ap (λ items. first_apart c.args.literal.now.typeside.name (useds_meant items)) (sym c.as_slice-2.ensures.value) ∙ found in
    subst (All (λ (part : UsedSchema). part.part.schema.value.typeside ≡ c.in_ok-typeside.typeside.value)) (sym c.as_slice-3.ensures.value)
    (parts_over env c.args.literal.now.typeside.name c.in_ok-typeside.typeside.value c.args.literal.now.parts c.in_ok-parts.parts.items c.requires.settled c.in_ok-typeside.ensures.meant are none)

pub returns-clause-grounded : goal.returns-clause-grounded
returns-clause-grounded c =
    let env = environment_of c.args.env.now.names.entries in
    let are : parts_used env c.args.literal.now.parts ≡ Ok (useds_meant c.in_ok-parts.parts.items) = ap (parts_used env) (sym c.as_slice.ensures) ∙ c.in_ok-parts.ensures in
    c.join_schemas.ensures.grounded env c.in_ok-typeside.ensures.meant
    (subst (λ (parts : List UsedSchema). All (IsPartPrinted env) (useds_meant parts)) (sym c.as_slice-3.ensures.value)
    (parts_printed env c.args.literal.now.parts (useds_meant c.in_ok-parts.parts.items) c.requires.settled are))
