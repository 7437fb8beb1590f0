use Rattle.std.proofs.Common.{◌<◌, ◌≤◌, ◌++◌, ◌∷◌, [], length, refl, sym, ap, ◌∙◌, append_assoc, arith}
use Rattle.std.proofs.lemmas.Result.{err_from_is_err_and}
use Rattle.cq_theory.specs.Typeside.{function_names}
use Rattle.cq_theory.specs.Schema.{edge_names}
use Rattle.cq_theory.specs.SchemaParts.{attribute_fault, made_attribute}
use Rattle.cq_theory.proofs.PartLoops.{map_more, map_whole, part_passed, part_refused, parts_passed}
use Rattle.cq_theory.proofs.lookup.schema_parts.add_attributes.Goals as goal

pub returns-in_err-made-clause-refused : goal.returns-in_err-made-clause-refused
returns-in_err-made-clause-refused c =
    let p = err_from_is_err_and c.from_residual.result c.from_residual.ensures.1 in
    let within : c.loop-attribute.attribute-index < length c.args.parts.now = omega arith in
    let names = function_names c.args.schema.now.typeside ++ edge_names c.args.schema.now.keys in
    rw (p.1, p.2)
    (part_refused (λ p. p.0) (attribute_fault c.args.schema.now.typeside c.args.schema.now.entities) c.args.parts.now c.loop-attribute.attribute-index (names ++ c.loop-attribute.table) c.loop-attribute.part _ c.attribute-item.result _ within c.attribute-item.is c.loop-attribute.invariant.3 c.in_err-made.ensures.refused)

pub loop-attribute-preserved : goal.loop-attribute-preserved
loop-attribute-preserved c =
    let parts = c.args.parts.now in
    let i = c.loop-attribute.attribute-index in
    let x = c.attribute-item.result in
    let names = function_names c.args.schema.now.typeside ++ edge_names c.args.schema.now.keys in
    let within : i < length parts = omega arith in
    let one = c.in_ok-made.ensures.ok in
    let more = c.in_ok-push.ensures.items in (
      omega arith,
      map_more (λ p. p.0) parts i x c.loop-attribute.table c.add_attribute.new.table x.0 within c.attribute-item.is c.loop-attribute.invariant.1 refl one.1,
      map_more (made_attribute c.args.schema.now.typeside c.args.schema.now.entities) parts i x c.loop-attribute.attributes.items c.push.new.self.items c.in_ok-made.made within c.attribute-item.is c.loop-attribute.invariant.2 one.2 more,
      part_passed (λ p. p.0) (attribute_fault c.args.schema.now.typeside c.args.schema.now.entities) parts i (names ++ c.loop-attribute.table) c.loop-attribute.part _ x (names ++ c.add_attribute.new.table) within c.attribute-item.is (ap (λ t. names ++ t) one.1 ∙ sym (append_assoc names c.loop-attribute.table (x.0 ∷ []))) one.0 c.loop-attribute.invariant.3,
    )

pub returns-clause-accepted : goal.returns-clause-accepted
returns-clause-accepted c =
    let end : length c.args.parts.now ≤ c.loop-attribute.attribute-index = omega arith in
    parts_passed (λ p. p.0) (attribute_fault c.args.schema.now.typeside c.args.schema.now.entities) c.args.parts.now c.loop-attribute.attribute-index _ _ _ end c.loop-attribute.invariant.3

pub returns-clause-made : goal.returns-clause-made
returns-clause-made c =
    let end : length c.args.parts.now ≤ c.loop-attribute.attribute-index = omega arith in (
      map_whole (λ p. p.0) c.args.parts.now c.loop-attribute.attribute-index _ end c.loop-attribute.invariant.1,
      map_whole (made_attribute c.args.schema.now.typeside c.args.schema.now.entities) c.args.parts.now c.loop-attribute.attribute-index _ end c.loop-attribute.invariant.2,
    )
