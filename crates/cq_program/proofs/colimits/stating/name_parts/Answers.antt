use Rattle.std.proofs.Common.{◌≡◌, ◌+◌, ◌∷◌, [], ◌++◌, length, length-append, rules}
use Rattle.std.proofs.lemmas.Slice.Zip.{zip_end, zip_turn}
use Rattle.cq_program.proofs.ColimitsPosed.{included_end, included_turn}
use Rattle.cq_program.proofs.colimits.stating.name_parts.Goals as goal

pub loop-part-preserved : goal.loop-part-preserved
loop-part-preserved c =
    let turn = zip_turn c.args.parts.now c.args.inclusions.now c.loop-part.yielded c.into_iter-part-iterator.result c.loop-part.part-iterator c.next.new.self c.next.result (search rules) (search rules)
    c.loop-part.yielded_by (c.in-Some.part, c.in-Some.inclusion) (search rules) c.next.ensures.steps in
    let next : length (c.loop-part.yielded ++ (c.in-Some.part, c.in-Some.inclusion) ∷ []) ≡ length c.loop-part.yielded + 1 = length-append c.loop-part.yielded ((c.in-Some.part, c.in-Some.inclusion) ∷ []) in
    included_turn c.args.parts.now c.args.inclusions.now (λ inclusion. inclusion.value) (length c.loop-part.yielded) c.loop-part.named.items c.loop-part.invariant c.push.new.self.items
    c.in_ok-name_part.field-0 c.in-Some.part.now c.in-Some.inclusion.now (length (c.loop-part.yielded ++ (c.in-Some.part, c.in-Some.inclusion) ∷ [])) turn.0 turn.1 (turn.2 c.in-Some.part.now)
    (turn.3 c.in-Some.inclusion.now) c.in_ok-name_part.ensures (search rules) next

pub returns : goal.returns
returns c =
    let ended : length c.loop-part.yielded ≡ _ = zip_end c.args.parts.now c.args.inclusions.now c.loop-part.yielded c.into_iter-part-iterator.result c.loop-part.part-iterator c.next.new.self c.next.result
    (search rules) (search rules) c.loop-part.yielded_by (search rules) c.next.ensures.steps in
    rw c.from_vec.ensures
    (included_end c.args.parts.now c.args.inclusions.now (λ inclusion. inclusion.value) (length c.loop-part.yielded) c.loop-part.named.items c.loop-part.invariant ended)
