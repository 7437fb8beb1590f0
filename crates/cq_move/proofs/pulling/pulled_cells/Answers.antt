use Rattle.std.proofs.Common.{ℕ, List, [], ◌∷◌, ◌++◌, ◌≡◌, ◌<◌, map, get_or, sym, ap, subst, ◌∙◌}
use Rattle.std.specs.List.{list_any}
use Rattle.cq_theory.specs.declared.schema.Edge.{Edge}
use Rattle.cq_theory.specs.SchemaData.{SchemaData as Schema}
use Rattle.cq_theory.specs.declared.term.TypeTerm.{TypeTerm}
use Rattle.cq_theory.specs.declared.value.Value.{Value}
use Rattle.cq_theory.specs.Canonical.{below}
use Rattle.cq_theory.specs.Tables.{Tables, AtRow, value_of}
use Rattle.cq_mapping.specs.MappingData.{MappingData as Mapping}
use Rattle.cq_mapping.specs.Moved.{cell_column, delta_tables}
use Rattle.cq_instance.specs.Given.{has_long_cell}
use Rattle.cq_instance.specs.Terms.{IsTypeTermOf}
use Rattle.cq_instance.proofs.Enumerated.{enumerated_more}
use Rattle.cq_move.proofs.Tests.{none_more}
use Rattle.cq_move.proofs.MadeColumns.{edge_at, cell_term, is_long, long_column, tells_too}
use Rattle.cq_move.proofs.pulling.pulled_cells.Goals as goal

pub push_cells-requires : goal.push_cells-requires
push_cells-requires c =
    let F : Mapping = c.args.mapping.now in
    let M : Tables = c.args.instance.now.tables in
    let edge : Edge = c.index-attributes-attribute.result in
    let a : ℕ = c.loop-attribute.attribute in
    let behind = ap (λ (S : Schema). S.attributes) c.behind-mapping.view_is in
    let held = ap (λ (G : Mapping). G.source.attributes) c.mapping.view_is in
    let same : c.as_slice-attributes.result.now ≡ F.source.attributes = cc in
    let at = edge_at F.source.attributes c.as_slice-attributes.result.now a edge same c.loop-attribute-test.true c.index-attributes-attribute.is in (
      edge.to,
      λ row inside.
          subst (λ (t : TypeTerm). IsTypeTermOf c.args.instance.now.schema M (AtRow row ∷ []) t edge.to) (sym c.term_of-term.ensures)
          (cell_term F M c.is_well_sorted.ensures c.args.instance.now.schema c.requires.over a row edge at (subst (λ n. row < n) c.count_at-count.ensures inside)),
    )

pub returns-in-Err-clause-refused : goal.returns-in-Err-clause-refused
returns-in-Err-clause-refused c =
    let F : Mapping = c.args.mapping.now in
    let M : Tables = c.args.instance.now.tables in
    let edge : Edge = c.index-attributes-attribute.result in
    let a : ℕ = c.loop-attribute.attribute in
    let behind = ap (λ (S : Schema). S.attributes) c.behind-mapping.view_is in
    let held = ap (λ (G : Mapping). G.source.attributes) c.mapping.view_is in
    let same : c.as_slice-attributes.result.now ≡ F.source.attributes = cc in
    let at = edge_at F.source.attributes c.as_slice-attributes.result.now a edge same c.loop-attribute-test.true c.index-attributes-attribute.is in
    let column : map (λ row. value_of M (AtRow row ∷ []) c.term_of-term.result.now) (below c.count_at-count.result) ≡ cell_column F M (a, edge) =
    λ j. map (λ row. value_of M (AtRow row ∷ []) (c.term_of-term.ensures j)) (below (c.count_at-count.ensures j)) in
    tells_too (list_any is_long (map (λ row. value_of M (AtRow row ∷ []) c.term_of-term.result.now) (below c.count_at-count.result))) (has_long_cell (delta_tables F M)) c.in-Err.refusal
    (λ h. long_column F M a edge at (ap (list_any is_long) (sym column) ∙ h)) c.in-Err.ensures.refused

pub loop-attribute-preserved : goal.loop-attribute-preserved
loop-attribute-preserved c =
    let F : Mapping = c.args.mapping.now in
    let M : Tables = c.args.instance.now.tables in
    let edge : Edge = c.index-attributes-attribute.result in
    let a : ℕ = c.loop-attribute.attribute in
    let made : List Value = map (λ row. value_of M (AtRow row ∷ []) c.term_of-term.result.now) (below c.count_at-count.result) in
    let column : made ≡ cell_column F M (a, edge) =
    λ j. map (λ row. value_of M (AtRow row ∷ []) (c.term_of-term.ensures j)) (below (c.count_at-count.ensures j)) in
    let read : made ≡ cell_column F M (a, get_or c.as_slice-attributes.result.now a edge) = column ∙ ap (λ (e : Edge). cell_column F M (a, e)) c.index-attributes-attribute.is in
    record {
      columns = c.in_default-push_cells.ensures.column ∙ (λ j. c.loop-attribute.invariant.columns j ++ read j ∷ [])
          ∙ sym (enumerated_more (cell_column F M) c.as_slice-attributes.result.now a edge c.loop-attribute-test.true);
      fit = ap (list_any (list_any is_long)) c.in_default-push_cells.ensures.column
          ∙ none_more (list_any is_long) c.loop-attribute.columns.items made c.loop-attribute.invariant.fit c.in_default-push_cells.ensures.fits;
    }
