use Rattle.std.proofs.Common.{ℕ, List, [], ◌∷◌, ◌++◌, ◌≡◌, ◌<◌, map, length, slice_index, slice_index_or, sym, ap, ◌∙◌, arith}
use Rattle.std.specs.List.{flat_map}
use Rattle.std.proofs.lemmas.List.{get_or_default}
use Rattle.cq_model.specs.Numbering.{entity_types}
use Rattle.cq_model.proofs.Counting.{types_more, starts_more}
use Rattle.cq_model.proofs.nulls.count_nulls.Goals as goal

pub loop-entity-preserved : goal.loop-entity-preserved
loop-entity-preserved c =
    let e : ℕ = c.loop-entity.entity in
    let rows : List (List ℕ) = c.args.rows.now in
    let attributes : List (List ℕ) = c.args.attributes.now in
    let targets : List ℕ = c.args.targets.now in
    let within : e < length rows = omega arith in
    let within' : e < length attributes = omega arith in
    let row_is : c.as_slice.result.now ≡ slice_index_or rows e [] = c.as_slice.ensures ∙ c.index-rows-entity.is ∙ get_or_default rows e c.index-rows-entity.result [] within in
    let places_are : c.as_slice-in-loop-entity.result.now ≡ slice_index_or attributes e [] =
    c.as_slice-in-loop-entity.ensures ∙ c.index-attributes-entity.is ∙ get_or_default attributes e c.index-attributes-entity.result [] within' in
    let part : flat_map (λ (row : ℕ). map (slice_index targets) c.as_slice-in-loop-entity.result.now) c.as_slice.result.now ≡ entity_types rows attributes targets e =
    λ i. flat_map (λ (row : ℕ). map (slice_index targets) (places_are i)) (row_is i) in
    record {
      types_are = c.in_ok-push_entity.ensures ∙ (λ i. c.loop-entity.invariant.types_are i ++ part i) ∙ sym (types_more rows attributes targets e);
      starts_are =
          c.in_ok-push.ensures.items ∙ (λ i. c.loop-entity.invariant.starts_are i ++ (c.len.ensures ∙ c.loop-entity.types.ok.0 ∙ ap length c.loop-entity.invariant.types_are) i ∷ []) ∙ sym (starts_more rows attributes targets e);
    }
