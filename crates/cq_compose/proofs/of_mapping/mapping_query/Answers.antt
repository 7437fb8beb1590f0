use Rattle.std.proofs.Common.{Result, ◌≡◌, IfOk, sym, ap, subst, ◌∙◌}
use Rattle.cq_theory.specs.Tables.{Tables, IsWellFormed}
use Rattle.cq_mapping.specs.MappingData.{MappingData as Mapping}
use Rattle.cq_mapping.specs.Duties.{Preserves}
use Rattle.cq_mapping.specs.Moved.{delta_tables}
use Rattle.cq_query.specs.QueryData.{QueryData as Query}
use Rattle.cq_query.specs.Duties.{Sound}
use Rattle.cq_query.specs.Answers.{IsEval}
use Rattle.cq_compose.specs.MappingQuery.{mapping_query}
use Rattle.cq_compose.proofs.MadeBlocks.{if_ok, query_made, query_made-is}
use Rattle.cq_compose.proofs.Pulled.{pulled_back}
use Rattle.cq_compose.proofs.Respected.{respected}
use Rattle.cq_compose.proofs.of_mapping.mapping_query.Goals as goal

pub of_blocks-requires : goal.of_blocks-requires
of_blocks-requires c =
    query_made-is c.args.mapping.now c.is_well_sorted.ensures c.in_ok-source.source.value c.in_ok-target.target.value c.from_vec.result
    (c.in_ok-source.ensures.cases ∙ ap (λ (F : Mapping). F.target) c.mapping.view_is) (c.in_ok-target.ensures.cases ∙ ap (λ (F : Mapping). F.source) c.mapping.view_is)
    (c.from_vec.ensures ∙ c.in_ok-blocks.ensures)

pub returns : goal.returns
returns c =
    let F : Mapping = c.args.mapping.now in
    let made : IfOk c.of_blocks.result (λ q. q ≡ mapping_query c.args.mapping.now) =
    subst (λ (q : Query). IfOk c.of_blocks.result (λ made. made ≡ q))
    (query_made c.args.mapping.now c.is_well_sorted.ensures c.in_ok-source.source.value c.in_ok-target.target.value c.from_vec.result
    (c.in_ok-source.ensures.cases ∙ ap (λ (F : Mapping). F.target) c.mapping.view_is) (c.in_ok-target.ensures.cases ∙ ap (λ (F : Mapping). F.source) c.mapping.view_is)
    (c.from_vec.ensures ∙ c.in_ok-blocks.ensures))
    c.of_blocks.ensures in
    record {
      query = made;
      sound = if_ok c.of_blocks.result (λ q. q ≡ mapping_query F) (λ q. Preserves F → Sound q) (λ q is preserves. subst Sound (sym is) (respected F c.is_well_sorted.ensures preserves)) made;
      evals = if_ok c.of_blocks.result (λ q. q ≡ mapping_query F) (λ q. (M : Tables) → IsWellFormed F.target M → IsEval q M (delta_tables F M))
          (λ q is M well. subst (λ (r : Query). IsEval r M (delta_tables F M)) (sym is) (pulled_back F c.is_well_sorted.ensures M well)) made;
    }
