use Rattle.std.proofs.Common.{List, ◌∙◌, inr, map, ap, sym, arith}
use Rattle.cq_colimit.specs.PlacedData.{PlacedData as Placed}
use Rattle.cq_colimit.proofs.Ordered.{name_refused, size_refused, after_size, join_refused, is_joined, are_inclusions, placed_names, many_is, few_are, are_placed, count_is}
use Rattle.cq_colimit.proofs.colimits.colimit.Goals as goal

pub place-requires-clause-sizes : goal.place-requires-clause-sizes
place-requires-clause-sizes c = (few_are (λ part. part.0) (λ part. part.1.value) c.args.parts.now c.args.joins c.is_too_many-many.result c.len.result c.len-2.result c.len.ensures c.len-2.ensures c.is_too_many-many.ensures c.if-many.false).0

pub join_placed-requires-clause-table : goal.join_placed-requires-clause-table
join_placed-requires-clause-table c =
    c.in-Ok.ensures.made ∙ sym (placed_names (map (λ part. (part.0, part.1.value)) c.args.parts.now)) ∙ ap (λ (l : List Placed). map (λ (p : Placed). p.name) l) (sym c.in_ok-placed.ensures)

pub join_placed-requires-clause-placed : goal.join_placed-requires-clause-placed
join_placed-requires-clause-placed c =
    ((map (λ part. (part.0, part.1.value)) c.args.parts.now), are_placed (λ part. part.0) (λ part. part.1.value) c.args.parts.now c.args.joins c.is_too_many-many.result c.len.result c.len-2.result c.len.ensures c.len-2.ensures c.is_too_many-many.ensures c.args.typeside.value c.in_ok-placed.placed.items c.if-many.false c.in_ok-placed.ensures c.requires.over)

pub join_placed-requires-clause-few : goal.join_placed-requires-clause-few
join_placed-requires-clause-few c = (few_are (λ part. part.0) (λ part. part.1.value) c.args.parts.now c.args.joins c.is_too_many-many.result c.len.result c.len-2.result c.len.ensures c.len-2.ensures c.is_too_many-many.ensures c.if-many.false).1

pub join_placed-requires-clause-numbers : goal.join_placed-requires-clause-numbers
join_placed-requires-clause-numbers c =
    omega (arith, c.requires.parts, count_is (λ part. part.0) (λ part. part.1.value) c.args.parts.now c.args.joins c.is_too_many-many.result c.len.result c.len-2.result c.len.ensures c.len-2.ensures c.is_too_many-many.ensures c.in_ok-placed.placed.items c.in_ok-placed.ensures)

pub returns-in-Err-clause-refused : goal.returns-in-Err-clause-refused
returns-in-Err-clause-refused c =
    name_refused c.args.typeside.value (map (λ part. (part.0, part.1.value)) c.args.parts.now) c.args.joins c.in-Err.refusal c.of_colimit.result c.of_colimit.ensures c.in-Err.ensures.refused

pub returns-then-many-clause-refused : goal.returns-then-many-clause-refused
returns-then-many-clause-refused c =
    inr (size_refused c.args.typeside.value (map (λ part. (part.0, part.1.value)) c.args.parts.now) c.args.joins c.in-Ok.ensures.accepted (many_is (λ part. part.0) (λ part. part.1.value) c.args.parts.now c.args.joins c.is_too_many-many.result c.len.result c.len-2.result c.len.ensures c.len-2.ensures c.is_too_many-many.ensures ∙ c.if-many.true))

pub returns-in-Ok-join_placed-clause-accepted : goal.returns-in-Ok-join_placed-clause-accepted
returns-in-Ok-join_placed-clause-accepted c =
    after_size c.args.typeside.value (map (λ part. (part.0, part.1.value)) c.args.parts.now) c.args.joins c.in-Ok.ensures.accepted (many_is (λ part. part.0) (λ part. part.1.value) c.args.parts.now c.args.joins c.is_too_many-many.result c.len.result c.len-2.result c.len.ensures c.len-2.ensures c.is_too_many-many.ensures ∙ c.if-many.false) c.in_ok-placed.placed.items c.in_ok-placed.ensures
    ∙ c.in-Ok-join_placed.ensures.accepted

pub returns-in-Ok-join_placed-clause-schema : goal.returns-in-Ok-join_placed-clause-schema
returns-in-Ok-join_placed-clause-schema c =
    c.in-Ok-join_placed.ensures.schema ∙ is_joined c.args.typeside.value (map (λ part. (part.0, part.1.value)) c.args.parts.now) c.args.joins c.in_ok-placed.placed.items c.in_ok-placed.ensures

pub returns-in-Ok-join_placed-clause-inclusions : goal.returns-in-Ok-join_placed-clause-inclusions
returns-in-Ok-join_placed-clause-inclusions c =
    c.in-Ok-join_placed.ensures.inclusions
    ∙ are_inclusions c.args.typeside.value (map (λ part. (part.0, part.1.value)) c.args.parts.now) c.args.joins c.in_ok-placed.placed.items c.in_ok-placed.ensures c.in-Ok-join_placed.colimit.schema.value c.in-Ok-join_placed.ensures.schema

pub returns-clause-refused : goal.returns-clause-refused
returns-clause-refused c =
    join_refused c.args.typeside.value (map (λ part. (part.0, part.1.value)) c.args.parts.now) c.args.joins c.in-Ok.ensures.accepted (many_is (λ part. part.0) (λ part. part.1.value) c.args.parts.now c.args.joins c.is_too_many-many.result c.len.result c.len-2.result c.len.ensures c.len-2.ensures c.is_too_many-many.ensures ∙ c.if-many.false) c.in_ok-placed.placed.items c.in_ok-placed.ensures
    c.in-Err-join_placed.refusal c.in-Err-join_placed.ensures.refused
