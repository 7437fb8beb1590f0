-- The query of an identity answers the tables that it is asked about.
use Rattle.std.proofs.Common.{ℕ, suc, List, [], ◌∷◌, Some, ◌≡◌, ◌<◌, ◌+◌, map, length, refl, sym, ap, subst, ◌∙◌, arith}
use Rattle.std.specs.Prelude.{slice_get, slice_index_or}
use Rattle.std.specs.List.{enumerate_from, range_with_len}
use Rattle.std.proofs.lemmas.List.{length-map}
use Rattle.std.proofs.lemmas.List.FromFn.{get_or-map-range_with_len, get_or-range_with_len}
use Rattle.std.proofs.lemmas.Option.{slice_get_within, get_or_from_slice_get}
use Rattle.cq_theory.specs.declared.schema.Edge.{Edge}
use Rattle.cq_theory.specs.declared.constant.Con.TheVariants.{Named}
use Rattle.cq_theory.specs.SchemaData.{SchemaData as Schema}
use Rattle.cq_theory.specs.declared.term.TypeTerm.TheVariants as term
use Rattle.cq_theory.specs.declared.value.Value.{Value}
use Rattle.cq_theory.specs.declared.value.Value.TheVariants.{Const}
use Rattle.cq_theory.specs.Canonical.{below}
use Rattle.cq_theory.specs.EntTerm.{alone}
use Rattle.cq_theory.specs.Schema.{IsSchema}
use Rattle.cq_theory.specs.Tables.{Tables, AtRow, count_of, key_at, row_from, value_of, value_step, IsWellFormed, Satisfies}
use Rattle.cq_theory.proofs.Every.{from_enumerated}
use Rattle.cq_theory.proofs.Faults.{made_of}
use Rattle.cq_theory.proofs.OnValues.{All_at}
use Rattle.cq_theory.proofs.TypeTerms.{fold-Att}
use Rattle.cq_mapping.specs.MappingData.{MappingData as Mapping}
use Rattle.cq_mapping.specs.Mapping.{attribute_itself, identity_of}
use Rattle.cq_mapping.specs.Images.{entity_image, key_image, attribute_image}
use Rattle.cq_mapping.specs.Moved.{key_column, cell_column, delta_tables}
use Rattle.cq_mapping.proofs.Identical.{identity_is}
use Rattle.cq_query.specs.QueryData.{QueryData as Query}
use Rattle.cq_query.specs.IsQuery.{IsQuery}
use Rattle.cq_query.specs.Answers.{IsEval}
use Rattle.cq_query.proofs.Evaluated.{well_formed}
use Rattle.cq_compose.specs.Composite.{composite}
use Rattle.cq_compose.specs.MappingQuery.{mapping_query}
use Rattle.cq_compose.proofs.Places.{length-enumerated}
use Rattle.cq_compose.proofs.Variable.{mapping_query_is}
use Rattle.cq_compose.proofs.Pulled.{pulled_back}
use Rattle.cq_compose.proofs.Agreeing.{same_lists, all_by_place}
use Rattle.cq_compose.proofs.AnswersInTurn.{composite_answers}

module _ (S : Schema) (schema : IsSchema S) (M : Tables) (well : IsWellFormed S M) where
  abbrev I : Mapping
  I = identity_of S

  same_entity : (e : ℕ) → e < length S.entities → entity_image I e ≡ e
  same_entity e within = let here : 0 + e ≡ e = omega arith in get_or-range_with_len 0 (length S.entities) e 0 within ∙ here

  same_key : (k : ℕ) → k < length S.keys → key_image I k ≡ k ∷ []
  same_key k within = let here : 0 + k ≡ k = omega arith in get_or-map-range_with_len (λ n. n ∷ []) 0 (length S.keys) k k [] within here

  same_attribute : (a : ℕ) → a < length S.attributes → attribute_image I a ≡ attribute_itself a
  same_attribute a within = let here : 0 + a ≡ a = omega arith in get_or-map-range_with_len attribute_itself 0 (length S.attributes) a a (term.Const (Named 0)) within here

  counts_same : map (count_of M) (below (length S.entities)) ≡ M.sheet.counts
  counts_same = all_by_place (count_of M) (length S.entities) M.sheet.counts well.entities (λ e count at. get_or_from_slice_get M.sheet.counts e count 0 at)

  key_same : (k : ℕ) (edge : Edge) → slice_get S.keys k ≡ Some edge → key_column I M (k, edge) ≡ slice_index_or M.sheet.keys k []
  key_same k edge is =
      let ends = All_at (λ (x : Edge). (x.from < length S.entities) × (x.to < length S.entities)) S.keys k edge schema.keys is in
      (λ i. map (λ row. row_from M row (same_key k (slice_get_within S.keys k edge is) i)) (below (count_of M (same_entity edge.from ends.0 i))))
      ∙ all_by_place (λ row. key_at M k row) (count_of M edge.from) (slice_index_or M.sheet.keys k []) (well.key_columns k edge is).0
      (λ row r at. get_or_from_slice_get (slice_index_or M.sheet.keys k []) row r 0 at)

  cell_same : (a : ℕ) (edge : Edge) → slice_get S.attributes a ≡ Some edge → cell_column I M (a, edge) ≡ slice_index_or M.sheet.cells a []
  cell_same a edge is =
      let ends = All_at (λ (x : Edge). (x.from < length S.entities) × (x.to < length S.typeside.types)) S.attributes a edge schema.attributes is in
      (λ i. map (λ row. value_of M (AtRow row ∷ []) (same_attribute a (slice_get_within S.attributes a edge is) i)) (below (count_of M (same_entity edge.from ends.0 i))))
      ∙ all_by_place (λ row. value_of M (AtRow row ∷ []) (attribute_itself a)) (count_of M edge.from) (slice_index_or M.sheet.cells a []) (well.cell_columns a edge is).0
      (λ row v at. fold-Att Value (value_step M (AtRow row ∷ [])) a (alone 0) ∙ get_or_from_slice_get (slice_index_or M.sheet.cells a []) row v (Const (Named 0)) at)

  keys_same : map (key_column I M) (enumerate_from 0 S.keys) ≡ M.sheet.keys
  keys_same = same_lists (map (key_column I M) (enumerate_from 0 S.keys)) M.sheet.keys
      (length-map (enumerate_from 0 S.keys) (key_column I M) ∙ length-enumerated 0 S.keys ∙ sym well.keys) (λ k column column' at at'.
      let made = made_of (key_column I M) (enumerate_from 0 S.keys) k column at in
      let from = from_enumerated 0 S.keys k made.0 made.1 in
      let here : 0 + k ≡ k = omega arith in
      made.2 ∙ ap (λ n. key_column I M (n, made.0.1)) (from.1 ∙ here) ∙ key_same k made.0.1 from.0 ∙ get_or_from_slice_get M.sheet.keys k column' [] at')

  cells_same : map (cell_column I M) (enumerate_from 0 S.attributes) ≡ M.sheet.cells
  cells_same = same_lists (map (cell_column I M) (enumerate_from 0 S.attributes)) M.sheet.cells
      (length-map (enumerate_from 0 S.attributes) (cell_column I M) ∙ length-enumerated 0 S.attributes ∙ sym well.attributes) (λ a column column' at at'.
      let made = made_of (cell_column I M) (enumerate_from 0 S.attributes) a column at in
      let from = from_enumerated 0 S.attributes a made.0 made.1 in
      let here : 0 + a ≡ a = omega arith in
      made.2 ∙ ap (λ n. cell_column I M (n, made.0.1)) (from.1 ∙ here) ∙ cell_same a made.0.1 from.0 ∙ get_or_from_slice_get M.sheet.cells a column' [] at')

  -- the identity pulls back each tables to themselves
  pub identity_pulls : delta_tables I M ≡ M
  identity_pulls =
      let counts : map (count_of M) (below (length S.entities)) ≡ M.sheet.counts = counts_same in
      let keys : map (key_column I M) (enumerate_from 0 S.keys) ≡ M.sheet.keys = keys_same in
      let cells : map (cell_column I M) (enumerate_from 0 S.attributes) ≡ M.sheet.cells = cells_same in
      λ i. record { sheet = record { counts = counts i; keys = keys i; cells = cells i }; algebra = M.algebra }

  pub identity_eval : IsEval (mapping_query I) M M
  identity_eval = subst (IsEval (mapping_query I) M) identity_pulls (pulled_back I (identity_is S schema) M well)

pub identity_first : (Q : Query) → IsQuery Q → (M N : Tables) → IsWellFormed Q.source M → IsEval Q M N → IsEval (composite (mapping_query (identity_of Q.source)) Q) M N
identity_first Q query M N well eval =
    composite_answers (mapping_query (identity_of Q.source)) Q (mapping_query_is (identity_of Q.source) (identity_is Q.source query.source)) query refl M M N
    (identity_eval Q.source query.source M well) eval

pub identity_second : (Q : Query) → IsQuery Q → (M N : Tables) → IsWellFormed Q.source M → Satisfies Q.source M → IsEval Q M N
    → IsEval (composite Q (mapping_query (identity_of Q.target))) M N
identity_second Q query M N well satisfies eval =
    composite_answers Q (mapping_query (identity_of Q.target)) query (mapping_query_is (identity_of Q.target) (identity_is Q.target query.target)) refl M N N eval
    (identity_eval Q.target query.target N (well_formed Q query M well satisfies N eval))
