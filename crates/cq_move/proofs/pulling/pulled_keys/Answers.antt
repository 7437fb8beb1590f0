use Rattle.std.proofs.Common.{ℕ, List, [], ◌∷◌, ◌++◌, ◌≡◌, ◌<◌, map, sym, ap, subst, ◌∙◌}
use Rattle.cq_theory.specs.declared.schema.Edge.{Edge}
use Rattle.cq_theory.specs.SchemaData.{SchemaData as Schema}
use Rattle.cq_theory.specs.Canonical.{below}
use Rattle.cq_theory.specs.Tables.{Tables, row_from}
use Rattle.cq_mapping.specs.MappingData.{MappingData as Mapping}
use Rattle.cq_mapping.specs.Images.{entity_image}
use Rattle.cq_mapping.specs.Moved.{key_column}
use Rattle.cq_instance.specs.Terms.{IsOnWay}
use Rattle.cq_instance.proofs.Enumerated.{enumerated_more}
use Rattle.cq_move.proofs.MadeColumns.{edge_at, key_way}
use Rattle.cq_move.proofs.pulling.pulled_keys.Goals as goal

pub row_column-requires : goal.row_column-requires
row_column-requires c =
    let F : Mapping = c.args.mapping.now in
    let M : Tables = c.args.instance.now.tables in
    let edge : Edge = c.index-keys-key.result in
    let k : ℕ = c.loop-key.key in
    let behind = ap (λ (S : Schema). S.keys) c.behind-mapping.view_is in
    let held = ap (λ (G : Mapping). G.source.keys) c.mapping.view_is in
    let same : c.as_slice-keys.result.now ≡ F.source.keys = cc in
    let at = edge_at F.source.keys c.as_slice-keys.result.now k edge same c.loop-key-test.true c.index-keys-key.is in (
      entity_image F edge.to,
      λ row inside.
          subst (λ (path : List ℕ). IsOnWay c.args.instance.now.schema M path row (entity_image F edge.to)) (sym c.path_of.ensures)
          (key_way F M c.is_well_sorted.ensures c.args.instance.now.schema c.requires.over k row edge at (subst (λ n. row < n) c.count_at-count.ensures inside)),
    )

pub loop-key-preserved : goal.loop-key-preserved
loop-key-preserved c =
    let F : Mapping = c.args.mapping.now in
    let M : Tables = c.args.instance.now.tables in
    let edge : Edge = c.index-keys-key.result in
    let k : ℕ = c.loop-key.key in
    let column : c.in_ok-row_column.field-0 ≡ key_column F M (k, edge) =
    c.in_ok-row_column.ensures ∙ (λ j. map (λ row. row_from M row (c.path_of.ensures j)) (below (c.count_at-count.ensures j))) in
    c.in_ok-push.ensures.items
    ∙ (λ j. c.loop-key.invariant j ++ (column ∙ ap (λ (e : Edge). key_column F M (k, e)) c.index-keys-key.is) j ∷ [])
    ∙ sym (enumerated_more (key_column F M) c.as_slice-keys.result.now k edge c.loop-key-test.true)
