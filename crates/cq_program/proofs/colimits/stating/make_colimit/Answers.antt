use Rattle.std.proofs.Common.{◌≡◌, ◌<◌, ◌-◌, List, length, map, ap, ◌∙◌, sym, subst, arith}
use Rattle.std.specs.Prelude.{All}
use Rattle.cq_colimit.specs.declared.refusal.ColimitRefusal.TheVariants as joining
use Rattle.cq_colimit.specs.Placing.{Part}
use Rattle.cq_program.specs.Views.{useds_meant}
use Rattle.cq_program.proofs.ColimitsPosed.{count_named, count_parts, few_joins, over_named, refused_as}
use Rattle.cq_program.proofs.ToldParts.{AreTold, refusal_told}
use Rattle.cq_program.proofs.colimits.stating.make_colimit.Goals as goal

pub colimit-requires-clause-over : goal.colimit-requires-clause-over
colimit-requires-clause-over c =
    subst (All (λ part. part.1.value.typeside ≡ c.args.typeside.value)) (sym c.as_slice.ensures.value)
    (over_named c.args.typeside.value c.in_ok-named.named.items c.args.parts.now (λ part. (part.0, part.1.value)) c.in_ok-named.ensures c.requires.over)

pub colimit-requires-clause-parts : goal.colimit-requires-clause-parts
colimit-requires-clause-parts c =
    let counted : length c.as_slice.result.now ≡ length c.args.parts.now =
    ap length c.as_slice.ensures.value ∙ count_named c.in_ok-named.named.items c.args.parts.now (λ part. (part.0, part.1.value)) c.in_ok-named.ensures in
    few_joins c.args.literal.now c.in_ok-joins.joins (length c.as_slice.result.now) (length c.args.parts.now) c.in_ok-joins.ensures counted c.requires.few

pub tell_colimit-requires-clause-names : goal.tell_colimit-requires-clause-names
tell_colimit-requires-clause-names c = λ m n is.
    let parts : List Part = map (λ part. (part.0, part.1.value)) c.as_slice.result.now in
    let counted : length parts ≡ length c.args.parts.now =
    count_parts parts c.args.parts.now (ap (map (λ part. (part.0, part.1.value))) c.as_slice.ensures.value ∙ c.in_ok-named.ensures) in
    let told : AreTold (length parts) c.in-Err.refusal = refusal_told (length parts) c.args.typeside.value parts c.in_ok-joins.joins c.in-Err.refusal (omega arith) c.in-Err.ensures.refused in
    let both : (m < length parts) × (n < length parts) = subst (AreTold (length parts)) is told in
    (omega arith, omega arith)

pub tell_colimit-requires-clause-long : goal.tell_colimit-requires-clause-long
tell_colimit-requires-clause-long c = λ n is.
    let parts : List Part = map (λ part. (part.0, part.1.value)) c.as_slice.result.now in
    let counted : length parts ≡ length c.args.parts.now =
    count_parts parts c.args.parts.now (ap (map (λ part. (part.0, part.1.value))) c.as_slice.ensures.value ∙ c.in_ok-named.ensures) in
    let told : AreTold (length parts) c.in-Err.refusal = refusal_told (length parts) c.args.typeside.value parts c.in_ok-joins.joins c.in-Err.refusal (omega arith) c.in-Err.ensures.refused in
    let one : n < length parts = subst (AreTold (length parts)) is told in
    omega arith

pub returns-clause-refused : goal.returns-clause-refused
returns-clause-refused c = λ name.
    refused_as c.args.typeside.value (map (λ part. (part.0, part.1.value)) c.as_slice.result.now) (useds_meant c.args.parts.now) c.in_ok-joins.joins c.args.literal.now
    (ap (map (λ part. (part.0, part.1.value))) c.as_slice.ensures.value ∙ c.in_ok-named.ensures) c.in_ok-joins.ensures c.args.place name c.tell_colimit.result c.as_slice-in-Err.result.now
    c.in-Err.refusal (c.as_slice-in-Err.ensures.value ∙ c.in_ok-places-in-Err.ensures) c.tell_colimit.ensures c.in-Err.ensures.refused
