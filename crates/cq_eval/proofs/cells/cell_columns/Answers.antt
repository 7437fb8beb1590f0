use Rattle.std.proofs.Common.{ℕ, List, [], ◌∷◌, ◌++◌, Some, None, ◌≡◌, map, get_or, length, sym, ap, subst, ◌∙◌}
use Rattle.std.specs.Prelude.{slice_get, option_copied}
use Rattle.std.specs.List.{list_any, enumerate_from}
use Rattle.cq_theory.specs.declared.schema.Edge.{Edge}
use Rattle.cq_theory.specs.SchemaData.{SchemaData as Schema}
use Rattle.cq_theory.specs.declared.term.TypeTerm.{TypeTerm}
use Rattle.cq_theory.specs.declared.value.Value.{Value}
use Rattle.cq_theory.specs.Tables.{Tables, AtRow, value_of}
use Rattle.cq_instance.specs.Given.{has_long_cell}
use Rattle.cq_instance.specs.Terms.{IsTypeTermOf}
use Rattle.cq_instance.proofs.Enumerated.{enumerated_more}
use Rattle.cq_instance.proofs.Enumerated.{get-enumerate}
use Rattle.cq_instance.proofs.Lists.{get-map}
use Rattle.cq_query.specs.QueryData.{QueryData as Query}
use Rattle.cq_query.specs.Translation.{attribute_term, term_or_constant}
use Rattle.cq_eval.specs.Made.{answers_of, made_cells, made_tables}
use Rattle.cq_eval.proofs.Answered.{attribute_source}
use Rattle.cq_eval.proofs.Filled.{is_long, tells_too, none_more, read_at, entity_within, entity_reads, long_column}
use Rattle.cq_eval.proofs.Typed.{attribute_typed}
use Rattle.cq_eval.proofs.cells.cell_columns.Goals as goal

pub bounds-answers-edge : goal.bounds-answers-edge
bounds-answers-edge c =
    let Q : Query = c.args.query.now in
    let edge : Edge = c.index-attributes-attribute.result in
    let behind = ap (λ (S : Schema). S.attributes) c.behind-query.view_is in
    let held = ap (λ (q : Query). q.target.attributes) c.query.view_is in
    let same : c.as_slice-attributes.result.now ≡ Q.target.attributes = cc in
    let at = read_at Q.target.attributes c.as_slice-attributes.result.now c.loop-attribute.attribute edge same c.loop-attribute-test.true c.index-attributes-attribute.is in
    entity_within (answers_of Q c.args.instance.now.tables) (length Q.target.entities) edge.from c.args.answers.now c.requires.answers
    (attribute_source Q c.args.instance.now.tables c.is_well_sorted.ensures c.loop-attribute.attribute edge at)

pub unreachable-requires : goal.unreachable-requires
unreachable-requires c =
    let Q : Query = c.args.query.now in
    let edge : Edge = c.index-attributes-attribute.result in
    let behind = ap (λ (S : Schema). S.attributes) c.behind-query.view_is in
    let held = ap (λ (q : Query). q.target.attributes) c.query.view_is in
    let same : c.as_slice-attributes.result.now ≡ Q.target.attributes = cc in
    let at = read_at Q.target.attributes c.as_slice-attributes.result.now c.loop-attribute.attribute edge same c.loop-attribute-test.true c.index-attributes-attribute.is in
    let term = c.is_well_sorted.ensures.attributes c.loop-attribute.attribute edge at in
    let none : option_copied c.found_term.result ≡ None = ap option_copied c.in_default-found_term.is in
    let both : None ≡ Some term.term = sym none ∙ c.found_term.ensures ∙ term.found in
    cc

pub push_cells-requires : goal.push_cells-requires
push_cells-requires c =
    let Q : Query = c.args.query.now in
    let M : Tables = c.args.instance.now.tables in
    let a : ℕ = c.loop-attribute.attribute in
    let edge : Edge = c.index-attributes-attribute.result in
    let behind = ap (λ (S : Schema). S.attributes) c.behind-query.view_is in
    let held = ap (λ (q : Query). q.target.attributes) c.query.view_is in
    let same : c.as_slice-attributes.result.now ≡ Q.target.attributes = cc in
    let at = read_at Q.target.attributes c.as_slice-attributes.result.now a edge same c.loop-attribute-test.true c.index-attributes-attribute.is in
    let source = entity_reads (answers_of Q M) (length Q.target.entities) edge.from c.args.answers.now c.index-answers-edge.result c.requires.answers (attribute_source Q M c.is_well_sorted.ensures a edge at) c.index-answers-edge.is in
    let term : attribute_term Q a ≡ c.in-Some.term.now = ap term_or_constant (sym c.found_term.ensures ∙ ap option_copied c.in-Some.is) in (
      edge.to,
      λ place rows here.
          subst (λ (t : TypeTerm). IsTypeTermOf c.args.instance.now.schema M (map AtRow rows) t edge.to) term
          (attribute_typed Q M c.is_well_sorted.ensures c.args.instance.now.schema c.requires.over a edge at place rows (ap (λ (l : List (List ℕ)). slice_get l place) (sym source) ∙ here)),
    )

pub returns-in-Err-clause-refused : goal.returns-in-Err-clause-refused
returns-in-Err-clause-refused c =
    let Q : Query = c.args.query.now in
    let M : Tables = c.args.instance.now.tables in
    let a : ℕ = c.loop-attribute.attribute in
    let edge : Edge = c.index-attributes-attribute.result in
    let behind = ap (λ (S : Schema). S.attributes) c.behind-query.view_is in
    let held = ap (λ (q : Query). q.target.attributes) c.query.view_is in
    let same : c.as_slice-attributes.result.now ≡ Q.target.attributes = cc in
    let at = read_at Q.target.attributes c.as_slice-attributes.result.now a edge same c.loop-attribute-test.true c.index-attributes-attribute.is in
    let source = entity_reads (answers_of Q M) (length Q.target.entities) edge.from c.args.answers.now c.index-answers-edge.result c.requires.answers (attribute_source Q M c.is_well_sorted.ensures a edge at) c.index-answers-edge.is in
    let term : attribute_term Q a ≡ c.in-Some.term.now = ap term_or_constant (sym c.found_term.ensures ∙ ap option_copied c.in-Some.is) in
    let made : List Value = map (λ rows. value_of M (map AtRow rows) c.in-Some.term.now) c.index-answers-edge.result in
    let column : made ≡ made_cells Q M (a, edge) = λ j. map (λ rows. value_of M (map AtRow rows) (sym term j)) (source j) in
    tells_too (list_any is_long made) (has_long_cell (made_tables Q M)) c.in-Err.refusal
    (λ h. long_column (made_tables Q M).sheet.cells a (made_cells Q M (a, edge))
    (get-map (made_cells Q M) (enumerate_from 0 Q.target.attributes) a (a, edge) (get-enumerate Q.target.attributes a edge at)) (ap (list_any is_long) (sym column) ∙ h)) c.in-Err.ensures.refused

pub loop-attribute-preserved : goal.loop-attribute-preserved
loop-attribute-preserved c =
    let Q : Query = c.args.query.now in
    let M : Tables = c.args.instance.now.tables in
    let a : ℕ = c.loop-attribute.attribute in
    let edge : Edge = c.index-attributes-attribute.result in
    let behind = ap (λ (S : Schema). S.attributes) c.behind-query.view_is in
    let held = ap (λ (q : Query). q.target.attributes) c.query.view_is in
    let same : c.as_slice-attributes.result.now ≡ Q.target.attributes = cc in
    let at = read_at Q.target.attributes c.as_slice-attributes.result.now a edge same c.loop-attribute-test.true c.index-attributes-attribute.is in
    let source = entity_reads (answers_of Q M) (length Q.target.entities) edge.from c.args.answers.now c.index-answers-edge.result c.requires.answers (attribute_source Q M c.is_well_sorted.ensures a edge at) c.index-answers-edge.is in
    let term : attribute_term Q a ≡ c.in-Some.term.now = ap term_or_constant (sym c.found_term.ensures ∙ ap option_copied c.in-Some.is) in
    let made : List Value = map (λ rows. value_of M (map AtRow rows) c.in-Some.term.now) c.index-answers-edge.result in
    let column : made ≡ made_cells Q M (a, edge) = λ j. map (λ rows. value_of M (map AtRow rows) (sym term j)) (source j) in
    let read : made ≡ made_cells Q M (a, get_or c.as_slice-attributes.result.now a edge) = column ∙ ap (λ (e : Edge). made_cells Q M (a, e)) c.index-attributes-attribute.is in
    record {
      columns = c.in_default-push_cells.ensures.column ∙ (λ j. c.loop-attribute.invariant.columns j ++ read j ∷ [])
          ∙ sym (enumerated_more (made_cells Q M) c.as_slice-attributes.result.now a edge c.loop-attribute-test.true);
      fit = ap (list_any (list_any is_long)) c.in_default-push_cells.ensures.column
          ∙ none_more (list_any is_long) c.loop-attribute.columns.items made c.loop-attribute.invariant.fit c.in_default-push_cells.ensures.fits;
    }
