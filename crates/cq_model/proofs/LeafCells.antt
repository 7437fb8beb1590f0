-- The places of cells among the leaves.
use Rattle.std.proofs.Common.{ℕ, List, [], Some, ◌≡◌, ◌<◌, map, length, slice_index_or, sym, ap, ◌∙◌, arith}
use Rattle.std.specs.Prelude.{slice_get}
use Rattle.std.specs.List.{flat_map}
use Rattle.std.proofs.lemmas.List.Folds.{flat_map-map}
use Rattle.std.proofs.lemmas.List.FromFn.{get_or-map-range_with_len}
use Rattle.cq_theory.specs.declared.presentation.Presentation.{Presentation}
use Rattle.cq_theory.specs.declared.schema.Edge.{Edge}
use Rattle.cq_theory.specs.SchemaData.{SchemaData as Schema}
use Rattle.cq_theory.specs.declared.term.EntTerm.{EntTerm}
use Rattle.cq_theory.specs.declared.term.TypeTerm.{TypeTerm}
use Rattle.cq_theory.specs.declared.term.TypeTerm.TheVariants.{Att}
use Rattle.cq_theory.specs.Canonical.{below, edges_from}
use Rattle.cq_theory.specs.Listed.{cell_nodes}
use Rattle.cq_model.specs.LeafPlaces.{sources}
use Rattle.cq_theory.specs.Groups.{positions}
use Rattle.cq_names.specs.Ranks.{rank}
use Rattle.cq_model.specs.Numbering.{Cell, row_cells, entity_cells, cells, label}
use Rattle.cq_names.specs.RowNumbers.{name_in, names_by}
use Rattle.cq_instance.proofs.EdgeNumbers.{edge_numbers}
use Rattle.cq_instance.proofs.Lists.{flat_map_same, map-map, map-flat_map, in_range}
use Rattle.cq_names.proofs.Ranks.{positions_rank}
use Rattle.cq_model.proofs.Numbering.{cell_labelled, in_cells}

module _ (S : Schema) (P : Presentation) (owners : List ℕ) (names : List EntTerm) where
  abbrev entities : ℕ
  entities = length S.entities

  abbrev named : List (List EntTerm)
  named = names_by owners (length S.entities) names

  abbrev pub all_cells : List Cell
  all_cells = cells owners (sources S) (length S.entities)

  -- a cell as a term
  abbrev pub term_of : Cell → TypeTerm
  term_of c = Att c.attribute (name_in names c.generator)

  named_at : (e : ℕ) → e < length S.entities → slice_index_or named e [] ≡ map (name_in names) (positions owners e)
  named_at e within = get_or-map-range_with_len (λ e'. map (name_in names) (positions owners e')) 0 (length S.entities) e e [] within (omega arith)

  row_terms : (e n : ℕ) → map (λ (a : ℕ × Edge). Att a.0 (name_in names n)) (edges_from e S.attributes) ≡ map term_of (row_cells owners (sources S) e n)
  row_terms e n =
      sym (map-map (λ (a : ℕ). Att a (name_in names n)) (λ (p : ℕ × Edge). p.0) (edges_from e S.attributes))
      ∙ ap (map (λ (a : ℕ). Att a (name_in names n))) (edge_numbers 0 S.attributes e)
      ∙ sym (map-map term_of (λ (a : ℕ). record { entity = e; generator = n; attribute = a }) (positions (sources S) e))

  entity_terms : (e : ℕ) → e < length S.entities → cell_nodes S P named e ≡ map term_of (entity_cells owners (sources S) e)
  entity_terms e within =
      let at : EntTerm → List TypeTerm = λ t. map (λ (a : ℕ × Edge). Att a.0 t) (edges_from e S.attributes) in
      ap (flat_map at) (named_at e within)
      ∙ flat_map-map at (name_in names) (positions owners e)
      ∙ flat_map_same (λ n. at (name_in names n)) (λ n. map term_of (row_cells owners (sources S) e n)) (positions owners e) (λ n _. row_terms e n)
      ∙ sym (map-flat_map term_of (row_cells owners (sources S) e) (positions owners e))

  -- the first nodes are the cells
  pub cell_terms : flat_map (cell_nodes S P named) (below (length S.entities)) ≡ map term_of all_cells
  cell_terms =
      flat_map_same (cell_nodes S P named) (λ e. map term_of (entity_cells owners (sources S) e)) (below (length S.entities))
      (λ e h. entity_terms e (in_range (length S.entities) e h))
      ∙ sym (map-flat_map term_of (entity_cells owners (sources S)) (below (length S.entities)))

  -- the cell of a row and an attribute stands at its label
  pub cell_found : (e p a : ℕ) → e < length S.entities → slice_get owners p ≡ Some e → slice_get (sources S) a ≡ Some e
      → slice_get all_cells (label owners (sources S) e (rank owners e p) a) ≡ Some (record { entity = e; generator = p; attribute = a })
  cell_found e p a within owner source =
      cell_labelled owners (sources S) (length S.entities) (record { entity = e; generator = p; attribute = a })
      (in_cells owners (sources S) (length S.entities) e p a within (record { place = rank owners e p; is = positions_rank owners e p owner }) (record { place = rank (sources S) e a; is = positions_rank (sources S) e a source }))
