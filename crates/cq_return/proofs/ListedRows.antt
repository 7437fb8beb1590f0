-- The cells and the observations of a listed model are those of its canonical presentation.
use Rattle.std.proofs.Common.{ℕ, suc, List, [], ◌∷◌, ◌++◌, Some, ◌≡◌, ◌<◌, ◌+◌, filter, map, length, refl, sym, ap, subst, ◌∙◌, arith}
use Rattle.std.specs.Prelude.{slice_get, slice_index_or, ◌==◌}
use Rattle.std.specs.List.{flat_map}
use Rattle.std.proofs.lemmas.Option.{get_or_from_slice_get, slice_get_within}
use Rattle.cq_theory.specs.declared.presentation.Presentation.{Presentation}
use Rattle.cq_theory.specs.declared.schema.Edge.{Edge}
use Rattle.cq_theory.specs.declared.schema.ObsEq.{ObsEq}
use Rattle.cq_theory.specs.declared.term.EntTerm.{EntTerm}
use Rattle.cq_theory.specs.declared.term.TypeTerm.{TypeTerm}
use Rattle.cq_theory.specs.declared.term.TypeTerm.TheVariants as term
use Rattle.cq_theory.specs.declared.value.Value.{Value}
use Rattle.cq_theory.specs.Canonical.{below, canonical, canonical_assignment, edges_from, row_term}
use Rattle.cq_theory.specs.Listed.{Lists, cell_nodes, observation_nodes, subterms}
use Rattle.cq_theory.specs.Schema.{IsSchema}
use Rattle.cq_theory.specs.SchemaData.{SchemaData as Schema}
use Rattle.cq_theory.specs.Tables.{Assignment, IsWellFormed, Tables, cell_at, count_of, row_of, value_step}
use Rattle.cq_theory.specs.TypeTerm.{substituted}
use Rattle.cq_theory.proofs.Every.{at_range, from_filter}
use Rattle.cq_theory.proofs.TypeTerms.{fold-Att}
use Rattle.cq_instance.proofs.CanonicalGenerators as generators
use Rattle.cq_instance.proofs.CanonicalHolds.{from_below}
use Rattle.cq_instance.proofs.Lists.{get-map}
use Rattle.cq_instance.specs.Given.{row_names}
use Rattle.cq_return.proofs.Alike.{Alike, NameRows, alike-append, alike-flat_map, at_row, over_rows}

module _ (S : Schema) (M : Tables) (schema : IsSchema S) (well : IsWellFormed S M) where
  abbrev B : Assignment
  B = canonical_assignment S M

  -- the rows are named by their generators
  abbrev pub own_names : List (List EntTerm)
  own_names = map (row_names S M) (below (length S.entities))

  pub names_are : (e : ℕ) → e < length S.entities → slice_index_or (map (row_names S M) (below (length S.entities))) e [] ≡ row_names S M e
  names_are e within =
      let here : 0 + e ≡ e = omega arith in
      get_or_from_slice_get own_names e (row_names S M e) [] (get-map (row_names S M) (below (length S.entities)) e e (at_range 0 (length S.entities) e within ∙ ap (λ n. Some n) here))

  module _ (P : Presentation) (A : Assignment) (lists : Lists S P M A) where
    abbrev Same : List TypeTerm → List TypeTerm → Type 0
    Same = Alike M A (canonical_assignment S M)

    in_order : (ts : List EntTerm) (s : ℕ) → ((k : ℕ) (t : EntTerm) → slice_get ts k ≡ Some t → row_of M A t ≡ s + k) → NameRows M A (canonical_assignment S M) ts s
    in_order [] s each = tt
    in_order (t ∷ ts) s each =
        let first : s + 0 ≡ s = omega arith in
        (each 0 t refl ∙ first, in_order ts (s + 1) (λ k u at. let next : s + suc k ≡ s + 1 + k = omega arith in each (suc k) u at ∙ next))

    names_in_order : (e : ℕ) → NameRows M A (canonical_assignment S M) (slice_index_or lists.names e []) 0
    names_in_order e = in_order (slice_index_or lists.names e []) 0 (λ k t at.
        let within : k < count_of M e = omega (arith, slice_get_within (slice_index_or lists.names e []) k t at, lists.counted e) in
        let named = lists.named e k within in
        let both : Some t ≡ Some named.0 = sym at ∙ named.1 in
        let same : t ≡ named.0 = cc in
        let none : k ≡ 0 + k = omega arith in
        ap (row_of M A) same ∙ named.2.of_row ∙ none)

    -- what is made of the names of one entity's rows
    by_names : (f : EntTerm → List TypeTerm) (e : ℕ) → e < length S.entities
        → ((t : EntTerm) (row : ℕ) → row < count_of M e → row_of M A t ≡ row → row_of M (canonical_assignment S M) (row_term S M e row) ≡ row → Same (f t) (f (row_term S M e row)))
        → Same (flat_map f (slice_index_or lists.names e [])) (flat_map f (slice_index_or (map (row_names S M) (below (length S.entities))) e []))
    by_names f e within each =
        let names = slice_index_or lists.names e [] in
        let size : length names ≡ count_of M e = lists.counted e in
        subst (λ l. Same (flat_map f names) (flat_map f l)) (ap (λ n. map (row_term S M e) (below n)) size ∙ sym (names_are e within))
        (over_rows M A B f f (row_term S M e) names 0 (names_in_order e) (λ t row low high is.
        let inside : row < count_of M e = omega arith in
        each t row inside is (generators.row_term_row S M well.entities e row within inside)))

    cells_of : (e : ℕ) (t : EntTerm) (row : ℕ) (edges : List (ℕ × Edge)) → row_of M A t ≡ row → row_of M (canonical_assignment S M) (row_term S M e row) ≡ row
        → Same (map (λ a. term.Att a.0 t) edges) (map (λ a. term.Att a.0 (row_term S M e row)) edges)
    cells_of e t row [] first second = tt
    cells_of e t row (a ∷ edges) first second = (
      fold-Att Value (value_step M A) a.0 t ∙ ap (cell_at M a.0) (first ∙ sym second) ∙ sym (fold-Att Value (value_step M B) a.0 (row_term S M e row)),
      cells_of e t row edges first second,
    )

    pub cells_alike : Same (flat_map (cell_nodes S P lists.names) (below (length S.entities)))
        (flat_map (cell_nodes S (canonical S M) (map (row_names S M) (below (length S.entities)))) (below (length S.entities)))
    cells_alike = alike-flat_map M A B (cell_nodes S P lists.names) (cell_nodes S (canonical S M) own_names) (below (length S.entities)) (λ n e at.
        by_names (λ t. map (λ a. term.Att a.0 t) (edges_from e S.attributes)) e (from_below (length S.entities) n e at)
        (λ t row inside first second. cells_of e t row (edges_from e S.attributes) first second))

    pub observations_alike : Same (flat_map (observation_nodes S P lists.names) (below (length S.entities)))
        (flat_map (observation_nodes S (canonical S M) (map (row_names S M) (below (length S.entities)))) (below (length S.entities)))
    observations_alike = alike-flat_map M A B (observation_nodes S P lists.names) (observation_nodes S (canonical S M) own_names) (below (length S.entities)) (λ n e at.
        by_names (λ t. flat_map (λ q. subterms (substituted t q.left) ++ subterms (substituted t q.right)) (filter (λ q. q.entity == e) S.obs_eqs)) e (from_below (length S.entities) n e at)
        (λ t row inside first second.
        let u = row_term S M e row in
        let same = first ∙ sym second in
        alike-flat_map M A B (λ q. subterms (substituted t q.left) ++ subterms (substituted t q.right)) (λ q. subterms (substituted u q.left) ++ subterms (substituted u q.right))
        (filter (λ q. q.entity == e) S.obs_eqs) (λ k q there.
        let found = from_filter (λ (x : ObsEq). x.entity == e) S.obs_eqs k q there in
        let is = schema.obs_eqs found.0 q found.1 in
        alike-append M A B (subterms (substituted t q.left)) (subterms (substituted u q.left)) (subterms (substituted t q.right)) (subterms (substituted u q.right))
        (at_row M A B S q.entity t u same q.left is.type is.left).1 (at_row M A B S q.entity t u same q.right is.type is.right).1)))
