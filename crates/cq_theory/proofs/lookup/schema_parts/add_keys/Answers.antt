use Rattle.std.proofs.Common.{◌<◌, ◌≤◌, ◌++◌, ◌∷◌, [], length, refl, sym, ap, ◌∙◌, append_assoc, arith}
use Rattle.std.proofs.lemmas.Result.{err_from_is_err_and}
use Rattle.cq_theory.specs.Typeside.{function_names}
use Rattle.cq_theory.specs.SchemaParts.{key_fault, made_key}
use Rattle.cq_theory.proofs.PartLoops.{map_more, map_whole, part_passed, part_refused, parts_passed}
use Rattle.cq_theory.proofs.lookup.schema_parts.add_keys.Goals as goal

pub returns-in_err-made-clause-refused : goal.returns-in_err-made-clause-refused
returns-in_err-made-clause-refused c =
    let p = err_from_is_err_and c.from_residual.result c.from_residual.ensures.1 in
    let within : c.loop-key.key-index < length c.args.parts.now = omega arith in
    let names = function_names c.args.typeside.now in
    rw (p.1, p.2)
    (part_refused (λ p. p.0) (key_fault c.args.typeside.now c.args.entities.now) c.args.parts.now c.loop-key.key-index (names ++ c.loop-key.table) c.loop-key.part _ c.key-item.result _ within c.key-item.is c.loop-key.invariant.3 c.in_err-made.ensures.refused)

pub loop-key-preserved : goal.loop-key-preserved
loop-key-preserved c =
    let parts = c.args.parts.now in
    let i = c.loop-key.key-index in
    let x = c.key-item.result in
    let names = function_names c.args.typeside.now in
    let within : i < length parts = omega arith in
    let one = c.in_ok-made.ensures.ok in
    let more = c.in_ok-push.ensures.items in (
      omega arith,
      map_more (λ p. p.0) parts i x c.loop-key.table c.add_key.new.table x.0 within c.key-item.is c.loop-key.invariant.1 refl one.1,
      map_more (made_key c.args.typeside.now c.args.entities.now) parts i x c.loop-key.keys.items c.push.new.self.items c.in_ok-made.made within c.key-item.is c.loop-key.invariant.2 one.2 more,
      part_passed (λ p. p.0) (key_fault c.args.typeside.now c.args.entities.now) parts i (names ++ c.loop-key.table) c.loop-key.part _ x (names ++ c.add_key.new.table) within c.key-item.is (ap (λ t. names ++ t) one.1 ∙ sym (append_assoc names c.loop-key.table (x.0 ∷ []))) one.0 c.loop-key.invariant.3,
    )

pub returns-clause-accepted : goal.returns-clause-accepted
returns-clause-accepted c =
    let end : length c.args.parts.now ≤ c.loop-key.key-index = omega arith in
    parts_passed (λ p. p.0) (key_fault c.args.typeside.now c.args.entities.now) c.args.parts.now c.loop-key.key-index _ _ _ end c.loop-key.invariant.3

pub returns-clause-made : goal.returns-clause-made
returns-clause-made c =
    let end : length c.args.parts.now ≤ c.loop-key.key-index = omega arith in (
      map_whole (λ p. p.0) c.args.parts.now c.loop-key.key-index _ end c.loop-key.invariant.1,
      map_whole (made_key c.args.typeside.now c.args.entities.now) c.args.parts.now c.loop-key.key-index _ end c.loop-key.invariant.2,
    )
