-- What is kept of given tables is an instance, whose rows have their least names.
use Rattle.std.proofs.Common.{ℕ, true, List, [], ◌≡◌, ◌<◌, ◌≤◌, inl, inr, map, length, refl, sym, ap, subst, ◌∙◌, arith}
use Rattle.std.specs.Prelude.{slice_get, slice_index_or, All}
use Rattle.std.proofs.lemmas.Bool.{cases_lt}
use Rattle.std.proofs.lemmas.List.{get_or_past}
use Rattle.std.proofs.lemmas.List.FromFn.{get_or-map-range_with_len, length-map-range_with_len}
use Rattle.cq_theory.specs.declared.presentation.Presentation.{Presentation}
use Rattle.cq_theory.specs.SchemaData.{SchemaData as Schema}
use Rattle.cq_theory.specs.declared.term.EntTerm.{EntTerm}
use Rattle.cq_theory.specs.Schema.{IsSchema}
use Rattle.cq_theory.specs.Tables.{Tables, Assignment, count_of, Initial}
use Rattle.cq_theory.specs.Canonical.{below, row_generator, row_term, canonical, canonical_assignment}
use Rattle.cq_theory.specs.Listed.{IsLeastName}
use Rattle.cq_instance.specs.InstanceData.{InstanceData, IsInstance, IsName, names_at, name_at}
use Rattle.cq_instance.specs.Given.{IsModel, HasLeastNames, size_of, row_names, given}
use Rattle.cq_instance.proofs.Lists.{get-map_from, in_range, All_from}
use Rattle.cq_instance.proofs.CanonicalGenerators.{generator_count}
use Rattle.cq_instance.proofs.CanonicalHolds.{holds, presented}
use Rattle.cq_instance.proofs.CanonicalDerived.{initial, count_within}
use Rattle.cq_instance.proofs.CanonicalEquations.{generator_fits}
use Rattle.cq_instance.proofs.CanonicalNames.{least_name}

module _ (S : Schema) (M : Tables) (schema : IsSchema S) (model : IsModel S M) where
  abbrev names : List (List EntTerm)
  names = map (row_names S M) (below (length S.entities))

  names_here : (e : ℕ) → e < length S.entities → names_at names e ≡ row_names S M e
  names_here e within = get_or-map-range_with_len (row_names S M) 0 (length S.entities) e e [] within (omega arith)

  counted : (e : ℕ) → length (names_at names e) ≡ count_of M e
  counted e = elim (cases_lt e (length S.entities)) [
    | inl within ↦ ap length (names_here e within) ∙ length-map-range_with_len (row_term S M e) 0 (count_of M e)
    | inr past ↦
        let size = length-map-range_with_len (row_names S M) 0 (length S.entities) in
        let no_names : names_at names e ≡ [] = get_or_past names e [] (omega (arith, past, size)) in
        let no_rows : count_of M e ≡ 0 = get_or_past M.sheet.counts e 0 (omega (arith, past, model.well_formed.entities)) in
        ap length no_names ∙ sym no_rows
  ]

  name_is : (e row : ℕ) (t : EntTerm) → e < length S.entities → row < count_of M e → row_term S M e row ≡ t → IsName (given S M) t
  name_is e row t within inside is =
      let fits : row_generator S M e row < length (canonical S M).generators =
      omega (arith, generator_fits S M schema model.well_formed e row within inside, generator_count S M model.well_formed.entities) in
      subst (IsName (given S M)) is (fits, λ n d h. absurd (omega (arith, h)))

  all_named : All (λ list. All (IsName (given S M)) list) names
  all_named = All_from (λ list. All (IsName (given S M)) list) names (λ i list at.
      let e = get-map_from (row_names S M) (below (length S.entities)) i list at in
      let within : e.0 < length S.entities = in_range (length S.entities) e.0 (record { place = i; is = e.1 }) in
      All_from (IsName (given S M)) list (λ j t here.
      let row = get-map_from (row_term S M e.0) (below (count_of M e.0)) j t (ap (λ l. slice_get l j) e.2 ∙ here) in
      name_is e.0 row.0 t within (in_range (count_of M e.0) row.0 (record { place = j; is = row.1 })) row.2))

  pub has_least_names : HasLeastNames (given S M)
  has_least_names e row inside =
      let within = count_within S M schema model.well_formed e row inside in
      let none : EntTerm = record { generator = 0; path = [] } in
      let is : name_at names e row ≡ row_term S M e row =
      ap (λ l. slice_index_or l row none) (names_here e within) ∙ get_or-map-range_with_len (row_term S M e) 0 (count_of M e) row row none inside (omega arith) in
      subst (IsLeastName S (canonical S M) M (canonical_assignment S M) e row) (sym is) (least_name S M schema model.well_formed e row inside)

  pub is_instance : size_of M ≤ 16000000 → IsInstance (given S M)
  is_instance few =
      let of_all = holds S M schema model.well_formed model.satisfies in
      record {
        presented = presented S M schema model.well_formed model.cells_fit model.entries_fit few;
        well_formed = model.well_formed;
        satisfies = model.satisfies;
        entries_fit = model.entries_fit;
        entities = length-map-range_with_len (row_names S M) 0 (length S.entities);
        counted = counted;
        named = all_named;
        meant = λ e row inside. let name = has_least_names e row inside in record { of_entity = name.of_entity; of_row = name.of_row };
        assigned = of_all.count;
        sorts = of_all.sorts;
        canonical_where_given = λ _. record { presentation = refl; assignment = refl };
      }

  pub is_initial : Initial S (canonical S M) M (canonical_assignment S M)
  is_initial = initial S M schema model.well_formed model.satisfies

  module _ (P : Presentation) (N : List (List EntTerm)) (A : Assignment) (presentation_is : P ≡ canonical S M) (names_are : N ≡ (given S M).names) (assignment_is : A ≡ canonical_assignment S M) where
    abbrev parts : InstanceData
    parts = record { schema = S; presentation = P; names = N; tables = record { sheet = M.sheet; algebra = M.algebra }; assignment = A; given = true }

    pub parts_are : parts ≡ given S M
    parts_are = λ i. record { schema = S; presentation = presentation_is i; names = names_are i; tables = M; assignment = assignment_is i; given = true }

    pub parts_instance : size_of M ≤ 16000000 → IsInstance parts
    parts_instance few = subst IsInstance (sym parts_are) (is_instance few)

    module _ (i : InstanceData) (is : i ≡ parts) where
      pub made_is : i ≡ given S M
      made_is = is ∙ parts_are

      pub made_initial : Initial i.schema i.presentation i.tables i.assignment
      made_initial = subst (λ (x : InstanceData). Initial x.schema x.presentation x.tables x.assignment) (sym made_is) is_initial

      pub made_least : HasLeastNames i
      made_least = subst HasLeastNames (sym made_is) has_least_names
