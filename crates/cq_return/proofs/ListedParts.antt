-- The nodes of nulls and of equations of canonical presentations.
use Rattle.std.proofs.Common.{ℕ, zero, suc, List, [], ◌∷◌, ◌++◌, Option, Some, ◌≡◌, ◌<◌, ◌≤◌, ◌+◌, map, sum, length, refl, sym, ap, subst, ◌∙◌, arith}
use Rattle.std.specs.Prelude.{codes, decimal, replicate, slice_get, ◌==◌}
use Rattle.std.specs.List.{cons_option, enumerate_from, filter_map, flat_map, range_with_len}
use Rattle.std.proofs.lemmas.Bool.{eq-eqb}
use Rattle.std.proofs.lemmas.Grind.{flat_map-append}
use Rattle.std.proofs.lemmas.List.{length-append, length-map}
use Rattle.cq_base.specs.declared.name.Name.{Name}
use Rattle.cq_theory.specs.declared.presentation.Equation.{Equation}
use Rattle.cq_theory.specs.declared.presentation.Presentation.{Presentation}
use Rattle.cq_theory.specs.declared.presentation.Sort.{Sort}
use Rattle.cq_theory.specs.declared.presentation.Sort.TheVariants.{Plain, Entity}
use Rattle.cq_theory.specs.declared.schema.Edge.{Edge}
use Rattle.cq_theory.specs.declared.term.EntTerm.{EntTerm}
use Rattle.cq_theory.specs.declared.term.TypeTerm.{TypeTerm}
use Rattle.cq_theory.specs.declared.term.TypeTerm.TheVariants as term
use Rattle.cq_theory.specs.declared.value.Entry.{Entry}
use Rattle.cq_theory.specs.declared.value.Value.{Value}
use Rattle.cq_theory.specs.declared.value.Value.TheVariants.{Null}
use Rattle.cq_theory.specs.Canonical.{below, canonical, canonical_assignment, cell_equation, edges_from, entity_equations, entry_equation, row_sorts, row_term, value_term}
use Rattle.cq_theory.specs.Listed.{cell_nodes, equation_nodes, generator_node, null_label, subterms}
use Rattle.cq_theory.specs.Schema.{IsSchema}
use Rattle.cq_theory.specs.SchemaData.{SchemaData as Schema}
use Rattle.cq_theory.specs.Tables.{Assignment, IsPlain, IsWellFormed, Tables, cell_at, count_of, value_in, value_of, value_step}
use Rattle.cq_theory.proofs.Every.{Every, Every-flat_map, Every-in_flat_map, Every-in_filter, Every-parts, Every-unmap, at_range, enumerated}
use Rattle.cq_theory.proofs.TypeTerms.{fold-Gen, fold-Att}
use Rattle.cq_instance.proofs.CanonicalGenerators as generators
use Rattle.cq_instance.proofs.CanonicalHolds.{cell_is, every_equation}
use Rattle.cq_instance.proofs.Lists.{get-map}
use Rattle.cq_instance.specs.Given.{row_names}
use Rattle.cq_return.proofs.Fine.{AreFine, HasPlain, attribute_fine, entry_at, entry_fine, entry_of_Gen, fine-append, fine_over, label_at, none_fine, value_fine}
use Rattle.cq_return.proofs.ListedRows.{names_are}

abbrev numbered : ℕ × Sort → Name × Sort
numbered p = (codes "g" ++ decimal p.0, p.1)

abbrev IsEntitySort : Sort → Type 0
IsEntitySort sort = (e : ℕ) × (sort ≡ Entity e)

copies : (e n : ℕ) → Every IsEntitySort (replicate n (Entity e))
copies e zero = tt
copies e (suc n) = ((e, refl), copies e n)

module _ (S : Schema) (M : Tables) (schema : IsSchema S) (well : IsWellFormed S M) where
  abbrev B : Assignment
  B = canonical_assignment S M

  abbrev C : Presentation
  C = canonical S M

  abbrev own : List (List EntTerm)
  own = map (row_names S M) (below (length S.entities))

  abbrev first : ℕ
  first = sum M.sheet.counts

  abbrev node : ℕ × (List ℕ × Sort) → Option TypeTerm
  node = generator_node S (canonical S M) (map (row_names S M) (below (length S.entities)))

  past_rows : (rows rest : List Sort) (s k : ℕ) → Every IsEntitySort rows
      → filter_map node (enumerate_from s (map numbered (enumerate_from k (rows ++ rest)))) ≡ filter_map node (enumerate_from (s + length rows) (map numbered (enumerate_from (k + length rows) rest)))
  past_rows [] rest s k each =
      let here : s ≡ s + 0 = omega arith in
      let there : k ≡ k + 0 = omega arith in
      λ j. filter_map node (enumerate_from (here j) (map numbered (enumerate_from (there j) rest)))
  past_rows (sort ∷ rows) rest s k each =
      let here : s + 1 + length rows ≡ s + length (sort ∷ rows) = omega arith in
      let there : k + 1 + length rows ≡ k + length (sort ∷ rows) = omega arith in
      ap (λ x. cons_option (node (s, (codes "g" ++ decimal k, x))) (filter_map node (enumerate_from (s + 1) (map numbered (enumerate_from (k + 1) (rows ++ rest)))))) each.0.1
      ∙ past_rows rows rest (s + 1) (k + 1) each.1 ∙ (λ j. filter_map node (enumerate_from (here j) (map numbered (enumerate_from (there j) rest))))

  of_types : (types : List ℕ) (s k : ℕ) → filter_map node (enumerate_from s (map numbered (enumerate_from k (map Plain types)))) ≡ map term.Gen (range_with_len s (length types))
  of_types [] s k = refl
  of_types (type ∷ types) s k = ap (λ l. term.Gen s ∷ l) (of_types types (s + 1) (k + 1))

  -- the nodes of generators are those of the nulls
  pub null_nodes : filter_map (generator_node S (canonical S M) (map (row_names S M) (below (length S.entities)))) (enumerate_from 0 (canonical S M).generators)
      ≡ map term.Gen (range_with_len (sum M.sheet.counts) (length M.algebra.nulls))
  null_nodes =
      let rows = flat_map (row_sorts S M) (below (length S.entities)) in
      let entities : Every IsEntitySort rows = Every-flat_map IsEntitySort (row_sorts S M) (below (length S.entities)) (λ n e at. copies e (count_of M e)) in
      let size : 0 + length rows ≡ sum M.sheet.counts =
      omega (arith, generators.sorts_count S M well.entities, length-append rows (map Plain M.algebra.nulls), length-map M.algebra.nulls Plain) in
      past_rows rows (map Plain M.algebra.nulls) 0 1 entities ∙ of_types M.algebra.nulls (0 + length rows) (1 + length rows)
      ∙ ap (λ n. map term.Gen (range_with_len n (length M.algebra.nulls))) size

  -- their values are the nulls in order
  pub record AreNulls (s n : ℕ) : Type 0 where
    pub plain : Every (HasPlain S M schema well) (map term.Gen (range_with_len (sum M.sheet.counts + s) n))
    pub labels : filter_map (label_at S M schema well) (map term.Gen (range_with_len (sum M.sheet.counts + s) n)) ≡ range_with_len s n
    pub entries : filter_map (entry_at S M schema well) (map term.Gen (range_with_len (sum M.sheet.counts + s) n)) ≡ []

  are_nulls : (s n : ℕ) → s + n ≤ length M.algebra.nulls → AreNulls s n
  are_nulls s zero within = record { plain = tt; labels = refl; entries = refl }
  are_nulls s (suc n) within =
      let value : value_of M B (term.Gen (first + s)) ≡ Null s = fold-Gen Value (value_step M B) (first + s) ∙ ap value_in (generators.null_stands S M well.entities s (omega arith)) in
      let rest = are_nulls (s + 1) n (omega arith) in
      let next : first + (s + 1) ≡ first + s + 1 = omega arith in
      let nodes = map term.Gen (range_with_len (first + s + 1) n) in
      record {
        plain = (subst IsPlain (sym value) tt, subst (λ m. Every (HasPlain S M schema well) (map term.Gen (range_with_len m n))) next rest.plain);
        labels =
            ap (λ v. cons_option (null_label v) (filter_map (label_at S M schema well) nodes)) value
            ∙ ap (λ l. s ∷ l) (ap (λ m. filter_map (label_at S M schema well) (map term.Gen (range_with_len m n))) (sym next) ∙ rest.labels);
        entries =
            ap (λ o. cons_option o (filter_map (entry_at S M schema well) nodes)) (entry_of_Gen S M schema well (first + s))
            ∙ ap (λ m. filter_map (entry_at S M schema well) (map term.Gen (range_with_len m n))) (sym next) ∙ rest.entries;
      }

  pub all_nulls : AreNulls 0 (length M.algebra.nulls)
  all_nulls = are_nulls 0 (length M.algebra.nulls) (omega arith)

  -- Equations.
  module _ (plain : Every (HasPlain S M schema well) (flat_map (cell_nodes S (canonical S M) (map (row_names S M) (below (length S.entities)))) (below (length S.entities)))) where
    pub cell_plain : (e row a : ℕ) (edge : Edge) → e < length S.entities → row < count_of M e → slice_get S.attributes a ≡ Some edge → edge.from ≡ e → HasPlain S M schema well (term.Att a (row_term S M e row))
    cell_plain e row a edge within inside at from =
        let f : EntTerm → List TypeTerm = λ t. map (λ (x : ℕ × Edge). term.Att x.0 t) (edges_from e S.attributes) in
        let e_is : 0 + e ≡ e = omega arith in
        let row_is : 0 + row ≡ row = omega arith in
        let a_is : 0 + a ≡ a = omega arith in
        let of_entity = Every-in_flat_map (HasPlain S M schema well) (cell_nodes S C own) (below (length S.entities)) e e plain (at_range 0 (length S.entities) e within ∙ ap (λ n. Some n) e_is) in
        let renamed = subst (λ l. Every (HasPlain S M schema well) (flat_map f l)) (names_are S M schema well e within) of_entity in
        let of_row = Every-in_flat_map (HasPlain S M schema well) f (row_names S M e) row (row_term S M e row) renamed
        (get-map (row_term S M e) (below (count_of M e)) row row (at_range 0 (count_of M e) row inside ∙ ap (λ n. Some n) row_is)) in
        Every-in_filter (λ (x : ℕ × Edge). HasPlain S M schema well (term.Att x.0 (row_term S M e row))) (λ x. x.1.from == e) (enumerate_from 0 S.attributes) a (a, edge)
        (Every-unmap (HasPlain S M schema well) (λ (x : ℕ × Edge). term.Att x.0 (row_term S M e row)) (edges_from e S.attributes) of_row)
        (enumerated 0 S.attributes a edge at ∙ ap (λ n. Some (n, edge)) a_is) (eq-eqb edge.from e from)

    abbrev no_entries : Tables
    no_entries = record { sheet = M.sheet; algebra = record { nulls = M.algebra.nulls; entries = [] } }

    abbrev Q : Equation → Type 0
    Q e = AreFine S M schema well [] (equation_nodes S (canonical S M) (map (row_names S M) (below (length S.entities))) e)

    on_cell : (e row a : ℕ) (edge : Edge) → e < length S.entities → row < count_of M e → slice_get S.attributes a ≡ Some edge → edge.from ≡ e → Q (cell_equation S M e row (a, edge))
    on_cell e row a edge within inside at from =
        let v = cell_at M a row in
        let cell = cell_is S M schema well e row a edge inside at from in
        let value : value_of M B (term.Att a (row_term S M e row)) ≡ cell_at M a row =
        fold-Att Value (value_step M B) a (row_term S M e row) ∙ ap (cell_at M a) (generators.row_term_row S M well.entities e row within inside) in
        let is_plain : IsPlain (cell_at M a row) = subst IsPlain value (cell_plain e row a edge within inside at from) in
        fine-append S M schema well [] [] (subterms (term.Att a (row_term S M e row))) (subterms (value_term S M v))
        (attribute_fine S M schema well a (row_term S M e row) v edge.to value is_plain cell.typed) (value_fine S M schema well v edge.to is_plain cell.typed)

    cells_fine : Every Q (flat_map (entity_equations S M) (below (length S.entities)))
    cells_fine = (Every-parts Q (flat_map (entity_equations S M) (below (length S.entities))) []
        (every_equation S no_entries Q on_cell (λ e row k edge within inside at from. none_fine S M schema well) (λ n entry at. cc))).0

    entries_fine : (es : List Entry) → ((n : ℕ) (e : Entry) → slice_get es n ≡ Some e → AreFine S M schema well (e ∷ []) (subterms (term.Fun e.function (map (value_term S M) e.args)) ++ subterms (value_term S M e.value)))
        → AreFine S M schema well es (flat_map (equation_nodes S (canonical S M) (map (row_names S M) (below (length S.entities)))) (map (entry_equation S M) es))
    entries_fine [] each = none_fine S M schema well
    entries_fine (e ∷ es) each =
        fine-append S M schema well (e ∷ []) es _ (flat_map (equation_nodes S C own) (map (entry_equation S M) es)) (each 0 e refl) (entries_fine es (λ n x at. each (suc n) x at))

    pub equations_fine : AreFine S M schema well M.algebra.entries (flat_map (equation_nodes S (canonical S M) (map (row_names S M) (below (length S.entities)))) (canonical S M).equations)
    equations_fine =
        let nodes = equation_nodes S C own in
        let of_rows = flat_map (entity_equations S M) (below (length S.entities)) in
        subst (AreFine S M schema well M.algebra.entries) (sym (flat_map-append nodes of_rows (map (entry_equation S M) M.algebra.entries)))
        (fine-append S M schema well [] M.algebra.entries (flat_map nodes of_rows) (flat_map nodes (map (entry_equation S M) M.algebra.entries))
        (fine_over S M schema well nodes of_rows cells_fine) (entries_fine M.algebra.entries (entry_fine S M schema well)))
