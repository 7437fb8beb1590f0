use Rattle.std.proofs.Common.{ℕ, List, ◌≡◌, ◌<◌, ◌∙◌, Bor, map, length, sym, ap, subst}
use Rattle.std.specs.Prelude.{slice_get, option_and_then, MatchOption}
use Rattle.std.specs.List.{All}
use Rattle.cq_check.specs.Asking.{AreWellSorted}
use Rattle.cq_check.specs.Deciding.{AreAllDerived, IsFirst}
use Rattle.cq_check.specs.Entities.{duty_entities, equation_at, IsCut}
use Rattle.cq_check.proofs.OverEntity.{picked, places_within, sorted, all_met_over, unmet_over, place_read}
use Rattle.cq_check.proofs.MappingDuties.{one_presented}
use Rattle.cq_mapping.specs.MappingData.{MappingData as Mapping}
use Rattle.cq_mapping.specs.Mapping.{IsMapping}
use Rattle.cq_mapping.specs.Duties.{duties_of, one_generator}
use Rattle.cq_mapping.specs.declared.duties.Duty.{Duty}
use Rattle.cq_theory.specs.Groups.{positions}
use Rattle.cq_theory.specs.Presentation.{IsPresentation}
use Rattle.cq_theory.specs.declared.presentation.Equation.{Equation}
use Rattle.cq_theory.specs.declared.presentation.Presentation.{Presentation}
use Rattle.cq_theory.specs.SchemaData.{SchemaData as Schema}
use Rattle.cq_theory.proofs.Grouped.{group_within, group_read}
use Rattle.cq_check.proofs.mappings.first_over.Goals as goal

pub of-requires : goal.of-requires
of-requires c = group_within _ _ c.args.entity _ c.requires.duties.groups c.requires.entity

pub equations_at-requires : goal.equations_at-requires
equations_at-requires c =
    let F : Mapping = c.args.mapping.now in
    let is : IsMapping F = c.is_well_sorted.ensures in
    let entity : ℕ = c.args.entity in
    let owners : List ℕ = duty_entities (duties_of F) in
    let read : c.of.result.now ≡ positions owners entity = group_read owners (length F.target.entities) entity c.args.list.now.by_entity c.requires.duties.groups c.requires.entity c.of.result.now c.of.ensures in
    let cut : List ℕ = c.places_below-places.result.now in
    let h : IsCut (positions owners entity) c.args.bound cut = subst (λ l. IsCut l c.args.bound cut) read c.places_below-places.ensures in
    subst (λ (duties : List Duty). All (λ place. place < length duties) cut) (sym (c.deref.ensures.value ∙ c.requires.duties.are)) (places_within F is entity c.args.bound cut h)

pub first_unmet-requires-clause-presentation : goal.first_unmet-requires-clause-presentation
first_unmet-requires-clause-presentation c =
    let F : Mapping = c.args.mapping.now in
    subst (λ (x : Schema × Presentation). IsPresentation x.0 x.1) (λ i. (sym c.requires.duties.target.schema i, sym c.in_ok-over.ensures i)) (one_presented F c.args.entity c.requires.entity)

pub first_unmet-requires-clause-sorted : goal.first_unmet-requires-clause-sorted
first_unmet-requires-clause-sorted c =
    let F : Mapping = c.args.mapping.now in
    let is : IsMapping F = c.is_well_sorted.ensures in
    let entity : ℕ = c.args.entity in
    let owners : List ℕ = duty_entities (duties_of F) in
    let read : c.of.result.now ≡ positions owners entity = group_read owners (length F.target.entities) entity c.args.list.now.by_entity c.requires.duties.groups c.requires.entity c.of.result.now c.of.ensures in
    let cut : List ℕ = c.places_below-places.result.now in
    let h : IsCut (positions owners entity) c.args.bound cut = subst (λ l. IsCut l c.args.bound cut) read c.places_below-places.ensures in
    let es : List Equation = map (λ (e : Bor Equation). e.now) c.in_ok-equations.equations.items in
    let are : (r : ℕ) → slice_get es r ≡ option_and_then (equation_at (duties_of F)) (slice_get cut r) =
    picked (λ (e : Bor Equation). e.now) (equation_at (duties_of F)) c.in_ok-equations.equations.items cut
    (c.in_ok-equations.ensures ∙ ap (λ duties. map (equation_at duties) cut) (c.deref.ensures.value ∙ c.requires.duties.are)) in
    subst (λ (x : (Schema × Presentation) × List (Bor Equation)). AreWellSorted x.0.0 x.0.1 (map (λ (e : Bor Equation). e.now) x.1))
    (λ i. ((sym c.requires.duties.target.schema i, sym c.in_ok-over.ensures i), sym c.deref-2.ensures.value i)) (sorted F is entity c.args.bound cut h es are)

pub returns-in_default : goal.returns-in_default
returns-in_default c =
    let F : Mapping = c.args.mapping.now in
    let is : IsMapping F = c.is_well_sorted.ensures in
    let entity : ℕ = c.args.entity in
    let owners : List ℕ = duty_entities (duties_of F) in
    let read : c.of.result.now ≡ positions owners entity = group_read owners (length F.target.entities) entity c.args.list.now.by_entity c.requires.duties.groups c.requires.entity c.of.result.now c.of.ensures in
    let cut : List ℕ = c.places_below-places.result.now in
    let h : IsCut (positions owners entity) c.args.bound cut = subst (λ l. IsCut l c.args.bound cut) read c.places_below-places.ensures in
    let es : List Equation = map (λ (e : Bor Equation). e.now) c.in_ok-equations.equations.items in
    let are : (r : ℕ) → slice_get es r ≡ option_and_then (equation_at (duties_of F)) (slice_get cut r) =
    picked (λ (e : Bor Equation). e.now) (equation_at (duties_of F)) c.in_ok-equations.equations.items cut
    (c.in_ok-equations.ensures ∙ ap (λ duties. map (equation_at duties) cut) (c.deref.ensures.value ∙ c.requires.duties.are)) in
    let told : MatchOption c.in_ok-unmet.field-0 (AreAllDerived F.target (one_generator entity) es) (IsFirst F.target (one_generator entity) c.args.depth es) =
    subst (λ (x : (Schema × Presentation) × List (Bor Equation)). MatchOption c.in_ok-unmet.field-0 (AreAllDerived x.0.0 x.0.1 (map (λ (e : Bor Equation). e.now) x.1))
    (IsFirst x.0.0 x.0.1 c.args.depth (map (λ (e : Bor Equation). e.now) x.1)))
    (λ i. ((c.requires.duties.target.schema i, c.in_ok-over.ensures i), c.deref-2.ensures.value i)) c.in_ok-unmet.ensures in
    all_met_over F is entity c.args.bound cut h es are
    (subst (λ o. MatchOption o (AreAllDerived F.target (one_generator entity) es) (IsFirst F.target (one_generator entity) c.args.depth es)) c.in_default.is told)

pub place_at-place-requires : goal.place_at-place-requires
place_at-place-requires c =
    let F : Mapping = c.args.mapping.now in
    let is : IsMapping F = c.is_well_sorted.ensures in
    let entity : ℕ = c.args.entity in
    let owners : List ℕ = duty_entities (duties_of F) in
    let read : c.of.result.now ≡ positions owners entity = group_read owners (length F.target.entities) entity c.args.list.now.by_entity c.requires.duties.groups c.requires.entity c.of.result.now c.of.ensures in
    let cut : List ℕ = c.places_below-places.result.now in
    let h : IsCut (positions owners entity) c.args.bound cut = subst (λ l. IsCut l c.args.bound cut) read c.places_below-places.ensures in
    let es : List Equation = map (λ (e : Bor Equation). e.now) c.in_ok-equations.equations.items in
    let are : (r : ℕ) → slice_get es r ≡ option_and_then (equation_at (duties_of F)) (slice_get cut r) =
    picked (λ (e : Bor Equation). e.now) (equation_at (duties_of F)) c.in_ok-equations.equations.items cut
    (c.in_ok-equations.ensures ∙ ap (λ duties. map (equation_at duties) cut) (c.deref.ensures.value ∙ c.requires.duties.are)) in
    let told : MatchOption c.in_ok-unmet.field-0 (AreAllDerived F.target (one_generator entity) es) (IsFirst F.target (one_generator entity) c.args.depth es) =
    subst (λ (x : (Schema × Presentation) × List (Bor Equation)). MatchOption c.in_ok-unmet.field-0 (AreAllDerived x.0.0 x.0.1 (map (λ (e : Bor Equation). e.now) x.1))
    (IsFirst x.0.0 x.0.1 c.args.depth (map (λ (e : Bor Equation). e.now) x.1)))
    (λ i. ((c.requires.duties.target.schema i, c.in_ok-over.ensures i), c.deref-2.ensures.value i)) c.in_ok-unmet.ensures in
    let first : IsFirst F.target (one_generator entity) c.args.depth es c.in-Some.unmet =
    subst (λ o. MatchOption o (AreAllDerived F.target (one_generator entity) es) (IsFirst F.target (one_generator entity) c.args.depth es)) c.in-Some.is told in
    record { within = place_read F is entity c.args.bound cut h es are c.args.depth c.in-Some.unmet first }

pub returns : goal.returns
returns c =
    let F : Mapping = c.args.mapping.now in
    let is : IsMapping F = c.is_well_sorted.ensures in
    let entity : ℕ = c.args.entity in
    let owners : List ℕ = duty_entities (duties_of F) in
    let read : c.of.result.now ≡ positions owners entity = group_read owners (length F.target.entities) entity c.args.list.now.by_entity c.requires.duties.groups c.requires.entity c.of.result.now c.of.ensures in
    let cut : List ℕ = c.places_below-places.result.now in
    let h : IsCut (positions owners entity) c.args.bound cut = subst (λ l. IsCut l c.args.bound cut) read c.places_below-places.ensures in
    let es : List Equation = map (λ (e : Bor Equation). e.now) c.in_ok-equations.equations.items in
    let are : (r : ℕ) → slice_get es r ≡ option_and_then (equation_at (duties_of F)) (slice_get cut r) =
    picked (λ (e : Bor Equation). e.now) (equation_at (duties_of F)) c.in_ok-equations.equations.items cut
    (c.in_ok-equations.ensures ∙ ap (λ duties. map (equation_at duties) cut) (c.deref.ensures.value ∙ c.requires.duties.are)) in
    let told : MatchOption c.in_ok-unmet.field-0 (AreAllDerived F.target (one_generator entity) es) (IsFirst F.target (one_generator entity) c.args.depth es) =
    subst (λ (x : (Schema × Presentation) × List (Bor Equation)). MatchOption c.in_ok-unmet.field-0 (AreAllDerived x.0.0 x.0.1 (map (λ (e : Bor Equation). e.now) x.1))
    (IsFirst x.0.0 x.0.1 c.args.depth (map (λ (e : Bor Equation). e.now) x.1)))
    (λ i. ((c.requires.duties.target.schema i, c.in_ok-over.ensures i), c.deref-2.ensures.value i)) c.in_ok-unmet.ensures in
    let first : IsFirst F.target (one_generator entity) c.args.depth es c.in-Some.unmet =
    subst (λ o. MatchOption o (AreAllDerived F.target (one_generator entity) es) (IsFirst F.target (one_generator entity) c.args.depth es)) c.in-Some.is told in
    unmet_over F is entity c.args.bound cut h es are c.args.depth c.place_at-place.result c.in-Some.unmet c.place_at-place.ensures first
