-- The duties over one entity, those over the entities so far, and the first that isn't known to be derivable.
use Rattle.std.proofs.Common.{ℕ, zero, suc, List, [], ◌∷◌, Option, Some, None, ◌≡◌, ◌<◌, ◌≤◌, ◌+◌, Result, Err, inl, inr, if◌then◌else◌, map, take, length, get_or, refl, sym, ap, subst, ◌∙◌, arith, eq-eqb}
use Rattle.std.specs.Prelude.{slice_get, option_map, option_and_then, MatchOption}
use Rattle.std.specs.List.{All}
use Rattle.std.proofs.lemmas.Bool.{cases_eq, cases_lt, ne_eqb}
use Rattle.std.proofs.lemmas.List.{length-map}
use Rattle.std.proofs.lemmas.Option.{slice_get-map, slice_get-get_or, slice_get_within}
use Rattle.cq_check.specs.Answers.{IsWellSorted, IsDerived, AreMet, IsNotPreserved, IsTooDeepDuty, IsTooWideDuty, over, equation_of}
use Rattle.cq_check.specs.Asking.{AreWellSorted}
use Rattle.cq_check.specs.Deciding.{AreAllDerived, IsCause, IsFirst}
use Rattle.cq_check.specs.Entities.{duty_entities, equation_at, IsCut, IsMetDuty, AreMetOver, IsUnmetOver, AreMetBelow, IsUnmet}
use Rattle.cq_check.specs.Refusing.{refusal_of}
use Rattle.cq_check.specs.declared.deciding.Cause.{Cause}
use Rattle.cq_check.specs.declared.deciding.Cause.TheVariants as because
use Rattle.cq_check.specs.declared.deciding.Unmet.{Unmet}
use Rattle.cq_check.specs.declared.refusal.CheckRefusal.{CheckRefusal}
use Rattle.cq_check.specs.declared.refusal.CheckRefusal.TheVariants.{NotPreserved, Depth, TooManyRows}
use Rattle.cq_check.proofs.Lists.{at_place, one_at}
use Rattle.cq_check.proofs.MappingDuties.{duty_sorted, duty_within}
use Rattle.cq_check.proofs.Numbered.{first_unmet, first_too_deep, first_too_wide}
use Rattle.cq_mapping.specs.MappingData.{MappingData as Mapping}
use Rattle.cq_mapping.specs.Mapping.{IsMapping}
use Rattle.cq_mapping.specs.Duties.{duties_of, one_generator, Preserves}
use Rattle.cq_mapping.specs.declared.duties.Duty.{Duty}
use Rattle.cq_query.proofs.SortedDuties.{from_position}
use Rattle.cq_rows.proofs.ByEntity.{at_position, position_below}
use Rattle.cq_theory.specs.Groups.{positions_from, positions}
use Rattle.cq_theory.specs.declared.presentation.Equation.{Equation}

take_at : {X : Type 0} (count r : ℕ) (xs : List X) (x : X) → slice_get (take count xs) r ≡ Some x → slice_get xs r ≡ Some x
take_at zero r xs x h = cc
take_at (suc count) r [] x h = cc
take_at (suc count) zero (y ∷ xs) x h = h
take_at (suc count) (suc r) (y ∷ xs) x h = take_at count r xs x h

at_take : {X : Type 0} (count r : ℕ) (xs : List X) (x : X) → r < count → slice_get xs r ≡ Some x → slice_get (take count xs) r ≡ Some x
at_take zero r xs x less h = absurd (omega (arith, less))
at_take (suc count) r [] x less h = cc
at_take (suc count) zero (y ∷ xs) x less h = h
at_take (suc count) (suc r) (y ∷ xs) x less h = at_take count r xs x (omega (arith, less)) h

-- what is made of each member, where something is made of it
pub picked : {X Y : Type 0} (now : X → Y) (pick : ℕ → Option Y) (xs : List X) (places : List ℕ) → map (λ x. Some (now x)) xs ≡ map pick places
    → (r : ℕ) → slice_get (map now xs) r ≡ option_and_then pick (slice_get places r)
picked now pick [] [] same r = refl
picked now pick [] (p ∷ places) same r = cc
picked now pick (x ∷ xs) [] same r = cc
picked now pick (x ∷ xs) (p ∷ places) same zero = let first : Some (now x) ≡ pick p = cc in first
picked now pick (x ∷ xs) (p ∷ places) same (suc r) = let rest : map (λ x. Some (now x)) xs ≡ map pick places = cc in picked now pick xs places rest r

-- positions rise
first_least : (s : ℕ) (later : List ℕ) → ((r n : ℕ) → slice_get later r ≡ Some n → s ≤ n) → (r n : ℕ) → slice_get (s ∷ later) r ≡ Some n → s ≤ n
first_least s later least zero n h = let same : s ≡ n = cc in omega (arith, same)
first_least s later least (suc r) n h = least r n h

at_least : (s : ℕ) (xs : List ℕ) (e r n : ℕ) → slice_get (positions_from s xs e) r ≡ Some n → s ≤ n
at_least s [] e r n h = cc
at_least s (x ∷ xs) e r n h =
    let later : (q k : ℕ) → slice_get (positions_from (s + 1) xs e) q ≡ Some k → s ≤ k = λ q k is. omega (arith, at_least (s + 1) xs e q k is) in
    elim (cases_eq x e) [
      | inl same ↦ first_least s (positions_from (s + 1) xs e) later r n (ap (λ b. slice_get (if b then s ∷ positions_from (s + 1) xs e else positions_from (s + 1) xs e) r) (sym (eq-eqb x e same)) ∙ h)
      | inr other ↦ later r n (ap (λ b. slice_get (if b then s ∷ positions_from (s + 1) xs e else positions_from (s + 1) xs e) r) (sym (ne_eqb x e other)) ∙ h)
    ]

first_rises : (s : ℕ) (later : List ℕ) → ((r n : ℕ) → slice_get later r ≡ Some n → s ≤ n) → ((r r' a b : ℕ) → slice_get later r ≡ Some a → slice_get later r' ≡ Some b → r ≤ r' → a ≤ b)
    → (r r' a b : ℕ) → slice_get (s ∷ later) r ≡ Some a → slice_get (s ∷ later) r' ≡ Some b → r ≤ r' → a ≤ b
first_rises s later least rest zero r' a b h g le = let same : s ≡ a = cc in omega (arith, same, first_least s later least r' b g)
first_rises s later least rest (suc r) zero a b h g le = absurd (omega (arith, le))
first_rises s later least rest (suc r) (suc r') a b h g le = rest r r' a b h g (omega (arith, le))

rises_from : (s : ℕ) (xs : List ℕ) (e r r' a b : ℕ) → slice_get (positions_from s xs e) r ≡ Some a → slice_get (positions_from s xs e) r' ≡ Some b → r ≤ r' → a ≤ b
rises_from s [] e r r' a b h g le = cc
rises_from s (x ∷ xs) e r r' a b h g le =
    let least : (q k : ℕ) → slice_get (positions_from (s + 1) xs e) q ≡ Some k → s ≤ k = λ q k is. omega (arith, at_least (s + 1) xs e q k is) in
    elim (cases_eq x e) [
      | inl same ↦
          let one : (q : ℕ) → slice_get (s ∷ positions_from (s + 1) xs e) q ≡ slice_get (positions_from s (x ∷ xs) e) q =
          λ q. ap (λ b. slice_get (if b then s ∷ positions_from (s + 1) xs e else positions_from (s + 1) xs e) q) (sym (eq-eqb x e same)) in
          first_rises s (positions_from (s + 1) xs e) least (rises_from (s + 1) xs e) r r' a b (one r ∙ h) (one r' ∙ g) le
      | inr other ↦
          let one : (q : ℕ) → slice_get (positions_from (s + 1) xs e) q ≡ slice_get (positions_from s (x ∷ xs) e) q =
          λ q. ap (λ b. slice_get (if b then s ∷ positions_from (s + 1) xs e else positions_from (s + 1) xs e) q) (sym (ne_eqb x e other)) in
          rises_from (s + 1) xs e r r' a b (one r ∙ h) (one r' ∙ g) le
    ]

module _ (F : Mapping) (is : IsMapping F) where
  -- the entity of each duty is one of the target's
  pub entities_within : All (λ entity. entity < length F.target.entities) (duty_entities (duties_of F))
  entities_within i d within =
      let duty = at_place (duties_of F) i (omega (arith, within, length-map (duties_of F) (λ (x : Duty). x.schema_entity))) in
      let here : Some (get_or (duty_entities (duties_of F)) i d) ≡ Some duty.0.schema_entity =
      sym (slice_get-get_or (duty_entities (duties_of F)) i d within) ∙ slice_get-map (λ (x : Duty). x.schema_entity) (duties_of F) i ∙ ap (option_map (λ (x : Duty). x.schema_entity)) duty.1 in
      let entity : get_or (duty_entities (duties_of F)) i d ≡ duty.0.schema_entity = cc in
      omega (arith, entity, duty_within F is i duty.0 duty.1)

  module _ (entity bound : ℕ) (cut : List ℕ) (h : IsCut (positions (duty_entities (duties_of F)) entity) bound cut) where
    cut_at : (r place : ℕ) → slice_get cut r ≡ Some place → slice_get (positions (duty_entities (duties_of F)) entity) r ≡ Some place
    cut_at r place at = take_at h.count r (positions (duty_entities (duties_of F)) entity) place (ap (λ l. slice_get l r) (sym h.is) ∙ at)

    -- each place is that of a duty
    pub places_within : All (λ place. place < length (duties_of F)) cut
    places_within r d within =
        position_below (λ (x : Duty). x.schema_entity) (duties_of F) entity r (get_or cut r d) (cut_at r (get_or cut r d) (slice_get-get_or cut r d within))

    module _ (es : List Equation) (are : (r : ℕ) → slice_get es r ≡ option_and_then (equation_at (duties_of F)) (slice_get cut r)) where
      -- the duty of an equation
      pub record IsRead (r : ℕ) (e : Equation) : Type 0 where
        pub place : ℕ
        pub duty : Duty
        pub at : slice_get cut r ≡ Some place
        pub there : slice_get (duties_of F) place ≡ Some duty
        pub entity_is : duty.schema_entity ≡ entity
        pub equation : duty.equation ≡ e

      from_place : (r : ℕ) (e : Equation) (o : Option ℕ) → slice_get cut r ≡ o → option_and_then (equation_at (duties_of F)) o ≡ Some e → IsRead r e
      from_place r e None at got = cc
      from_place r e (Some place) at got =
          let from = from_position (λ (x : Duty). x.schema_entity) (duties_of F) entity r place (cut_at r place at) in
          let same : Some from.0.equation ≡ Some e = sym (ap (option_map (λ (x : Duty). x.equation)) from.1) ∙ got in
          let equal : from.0.equation ≡ e = cc in
          record { place = place; duty = from.0; at = at; there = from.1; entity_is = from.2; equation = equal }

      pub read : (r : ℕ) (e : Equation) → slice_get es r ≡ Some e → IsRead r e
      read r e got = from_place r e (slice_get cut r) refl (sym (are r) ∙ got)

      pub sorted : AreWellSorted F.target (one_generator entity) es
      sorted r e got =
          let from = read r e got in
          subst (λ (x : ℕ × Equation). IsWellSorted F.target (one_generator x.0) x.1) (λ i. (from.entity_is i, from.equation i)) (duty_sorted F is from.place from.duty from.there)

      -- a duty over the entity below the bound is one of them
      pub record IsReached (i : ℕ) (duty : Duty) : Type 0 where
        pub place : ℕ
        pub at : slice_get cut place ≡ Some i
        pub equation : slice_get es place ≡ Some duty.equation

      reached : (i : ℕ) (duty : Duty) → i < bound → slice_get (duties_of F) i ≡ Some duty → duty.schema_entity ≡ entity → IsReached i duty
      reached i duty below there over_it =
          let p = at_position (λ (x : Duty). x.schema_entity) (duties_of F) entity i duty there over_it in
          elim (cases_lt p.0 h.count) [
            | inl less ↦
                let at : slice_get cut p.0 ≡ Some i = ap (λ l. slice_get l p.0) h.is ∙ at_take h.count p.0 (positions (duty_entities (duties_of F)) entity) i less p.1 in
                record {
                  place = p.0;
                  at = at;
                  equation = are p.0 ∙ ap (option_and_then (equation_at (duties_of F))) at ∙ ap (option_map (λ (x : Duty). x.equation)) there;
                }
            | inr le ↦
                let next = at_place (positions (duty_entities (duties_of F)) entity) h.count (omega (arith, le, slice_get_within (positions (duty_entities (duties_of F)) entity) p.0 i p.1)) in
                absurd (omega (arith, below, h.next next.0 next.1, rises_from 0 (duty_entities (duties_of F)) entity h.count p.0 next.0 i next.1 p.1 le))
          ]

      met_where : (i : ℕ) (duty : Duty) → slice_get (duties_of F) i ≡ Some duty → duty.schema_entity ≡ entity → IsDerived F.target (one_generator entity) duty.equation → IsMetDuty F duty
      met_where i duty there over_it derived = subst (λ x. IsDerived F.target (one_generator x) duty.equation) (sym over_it) derived

      pub all_met_over : AreAllDerived F.target (one_generator entity) es → AreMetOver F entity bound
      all_met_over all i duty below there over_it =
          let r = reached i duty below there over_it in
          met_where i duty there over_it (all r.place duty.equation r.equation)

      pub unmet_over : (depth place : ℕ) (unmet : Unmet) → slice_get cut unmet.place ≡ Some place → IsFirst F.target (one_generator entity) depth es unmet
          → IsUnmetOver F entity bound depth (record { place = place; cause = unmet.cause })
      unmet_over depth place unmet at first =
          let from = read unmet.place first.equation first.is in
          let same : from.place ≡ place = one_at cut unmet.place from.place place from.at at in
          record {
            duty = from.duty;
            is = ap (slice_get (duties_of F)) (sym same) ∙ from.there;
            below = h.below unmet.place place at;
            earlier = λ i duty below there over_it.
                let r = reached i duty (omega (arith, below, h.below unmet.place place at)) there over_it in
                elim (cases_lt r.place unmet.place) [
                  | inl less ↦ met_where i duty there over_it (first.earlier r.place duty.equation less r.equation)
                  | inr le ↦ absurd (omega (arith, below, rises_from 0 (duty_entities (duties_of F)) entity unmet.place r.place place i (cut_at unmet.place place at) (cut_at r.place i r.at) le))
                ];
            cause = subst (λ (x : ℕ × Equation). IsCause F.target (one_generator x.0) depth x.1 unmet.cause) (λ i. (sym from.entity_is i, sym from.equation i)) first.cause;
          }

      pub place_read : (depth : ℕ) (unmet : Unmet) → IsFirst F.target (one_generator entity) depth es unmet → unmet.place < length cut
      place_read depth unmet first = let from = read unmet.place first.equation first.is in slice_get_within cut unmet.place from.place from.at

module _ (F : Mapping) where
  -- what is known after the first entities
  pub record IsLeast (entity bound depth : ℕ) (first : Option Cause) : Type 0 where
    pub met : AreMetBelow F entity bound
    pub within : bound ≤ length (duties_of F)
    pub unmet : MatchOption first (bound ≡ length (duties_of F)) (IsUnmet F depth bound)

  pub none_least : (bound depth : ℕ) → bound ≡ length (duties_of F) → IsLeast 0 bound depth None
  none_least bound depth all = record { met = λ i duty below at less. absurd (omega (arith, less)); within = omega (arith, all); unmet = all }

  pub least_none : (entity bound depth : ℕ) (first : Option Cause) → AreMetOver F entity bound → IsLeast entity bound depth first → IsLeast (entity + 1) bound depth first
  least_none entity bound depth first over_it before = record {
    met = λ i duty below at less. elim (cases_lt duty.schema_entity entity) [
      | inl less' ↦ before.met i duty below at less'
      | inr le ↦ over_it i duty below at (omega (arith, le, less))
    ];
    within = before.within;
    unmet = before.unmet;
  }

  pub least_some : (entity bound depth : ℕ) (first : Option Cause) (unmet : Unmet) → IsUnmetOver F entity bound depth unmet → IsLeast entity bound depth first → IsLeast (entity + 1) unmet.place depth (Some unmet.cause)
  least_some entity bound depth first unmet h before = record {
    met = λ i duty below at less. elim (cases_lt duty.schema_entity entity) [
      | inl less' ↦ before.met i duty (omega (arith, below, h.below)) at less'
      | inr le ↦ h.earlier i duty below at (omega (arith, le, less))
    ];
    within = omega (arith, h.below, before.within);
    unmet = record { duty = h.duty; is = h.is; cause_is = h.cause };
  }

  module _ (is : IsMapping F) (bound depth : ℕ) (first : Option Cause) (least : IsLeast (length F.target.entities) bound depth first) where
    all_below : AreMet Duty F.target (over F) (equation_of F) (duties_of F) bound
    all_below i duty below at = least.met i duty below at (duty_within F is i duty at)

    pub all_preserved : first ≡ None → Preserves F
    all_preserved absent n duty at =
        let all : bound ≡ length (duties_of F) = subst (λ o. MatchOption o (bound ≡ length (duties_of F)) (IsUnmet F depth bound)) absent least.unmet in
        all_below n duty (omega (arith, all, slice_get_within (duties_of F) n duty at)) at

    module _ (cause : Cause) (found : first ≡ Some cause) (number : ℕ) (number_is : number ≡ bound + 1) where
      unmet_there : IsUnmet F depth bound cause
      unmet_there = subst (λ o. MatchOption o (bound ≡ length (duties_of F)) (IsUnmet F depth bound)) found least.unmet

      pub not_preserved : (n : ℕ) → ◌≡◌ {A = Result (Unit {0}) CheckRefusal} (Err (refusal_of cause number)) (Err (NotPreserved n)) → IsNotPreserved F n
      not_preserved n told = go cause unmet_there told
        where
          go : (why : Cause) → IsUnmet F depth bound why → ◌≡◌ {A = Result (Unit {0}) CheckRefusal} (Err (refusal_of why number)) (Err (NotPreserved n)) → IsNotPreserved F n
          go because.NotDerivable unmet told =
              let same : number ≡ n = cc in
              first_unmet Duty F.target (over F) (equation_of F) (duties_of F) bound unmet.duty unmet.is all_below n (sym same ∙ number_is) unmet.cause_is
          go because.Depth unmet told = cc
          go because.TooManyRows unmet told = cc

      pub too_deep_duty : (n : ℕ) → ◌≡◌ {A = Result (Unit {0}) CheckRefusal} (Err (refusal_of cause number)) (Err (Depth n)) → IsTooDeepDuty F depth n
      too_deep_duty n told = go cause unmet_there told
        where
          go : (why : Cause) → IsUnmet F depth bound why → ◌≡◌ {A = Result (Unit {0}) CheckRefusal} (Err (refusal_of why number)) (Err (Depth n)) → IsTooDeepDuty F depth n
          go because.NotDerivable unmet told = cc
          go because.Depth unmet told =
              let same : number ≡ n = cc in
              first_too_deep Duty F.target (over F) (equation_of F) (duties_of F) bound unmet.duty unmet.is all_below n depth (sym same ∙ number_is) unmet.cause_is
          go because.TooManyRows unmet told = cc

      pub too_wide_duty : (n : ℕ) → ◌≡◌ {A = Result (Unit {0}) CheckRefusal} (Err (refusal_of cause number)) (Err (TooManyRows n)) → IsTooWideDuty F depth n
      too_wide_duty n told = go cause unmet_there told
        where
          go : (why : Cause) → IsUnmet F depth bound why → ◌≡◌ {A = Result (Unit {0}) CheckRefusal} (Err (refusal_of why number)) (Err (TooManyRows n)) → IsTooWideDuty F depth n
          go because.NotDerivable unmet told = cc
          go because.Depth unmet told = cc
          go because.TooManyRows unmet told =
              let same : number ≡ n = cc in
              first_too_wide Duty F.target (over F) (equation_of F) (duties_of F) bound unmet.duty unmet.is all_below n depth (sym same ∙ number_is) unmet.cause_is
