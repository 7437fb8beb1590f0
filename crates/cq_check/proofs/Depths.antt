-- What the rows of one depth say of an equation, and what those of all depths so far.
use Rattle.std.proofs.Common.{ℕ, Bool, Result, Err, zero, suc, true, false, List, [], ◌∷◌, Some, None, ◌≡◌, ◌<◌, ◌≤◌, ◌+◌, map, length, refl, sym, ap, subst, ◌∙◌, arith}
use Rattle.std.specs.Prelude.{slice_get, replicate, MatchBool}
use Rattle.std.proofs.lemmas.List.{length-replicate}
use Rattle.std.proofs.lemmas.Option.{slice_get_within}
use Rattle.cq_tables.specs.Content.{Content, IsWhole, keys_of, entities_of}
use Rattle.cq_rows.specs.Plain.{ends_of}
use Rattle.cq_rows.specs.Rows.{AllFilled}
use Rattle.cq_rows.specs.Saturated.{HasEntries, OneRowIsEqual, AllTraced, AllNamed, PathEquationsHold, EntityEquationsHold, NoneCloses, SomeWide}
use Rattle.cq_check.specs.Answers.{IsWellSorted, IsDerived, IsDerivedWithin, IsTooDeep, IsTooWide}
use Rattle.cq_check.specs.Asking.{AreKnown, AreWellSorted, IsJudged, AreJudged}
use Rattle.cq_check.specs.Deciding.{IsDecided, AreDecided, AreAllDerived, IsCause, IsFirst}
use Rattle.cq_check.specs.Frame.{IsFrame, IsApart}
use Rattle.cq_check.specs.declared.deciding.Cause.{Cause}
use Rattle.cq_check.specs.declared.deciding.Cause.TheVariants.{NotDerivable, Depth, TooManyRows}
use Rattle.cq_check.specs.declared.deciding.Unmet.{Unmet}
use Rattle.cq_check.specs.declared.refusal.CheckRefusal.{CheckRefusal}
use Rattle.cq_check.specs.declared.refusal.CheckRefusal.TheVariants as refusal
use Rattle.cq_check.specs.Refusing.{refusal_of}
use Rattle.cq_check.proofs.Lists.{at_place}
use Rattle.cq_check.proofs.Rows.{filled_traced}
use Rattle.cq_theory.specs.declared.presentation.Equation.{Equation}
use Rattle.cq_theory.specs.declared.presentation.Presentation.{Presentation}
use Rattle.cq_theory.specs.SchemaData.{SchemaData as Schema}
use Rattle.cq_theory.specs.Closing.{Closes}
use Rattle.cq_theory.specs.Derivation.{left_of, right_of}
use Rattle.cq_theory.proofs.Derivations.{Within-monotone}

pub frame_of : (S : Schema) (P : Presentation) (m : Content) (entries : List ℕ) (depth : ℕ) → IsWhole m → keys_of m ≡ map ends_of S.keys → entities_of m ≡ length S.entities → HasEntries P m entries → OneRowIsEqual S P m entries
    → AllNamed S P m entries depth → PathEquationsHold S m → EntityEquationsHold P m entries → IsFrame S P m entries
frame_of S P m entries depth whole keys entities has sound named paths equations = record {
  whole = whole;
  keys = keys;
  entities = entities;
  entries = has;
  sound = sound;
  named = (depth, named);
  paths = paths;
  equations = equations;
}

module _ (S : Schema) (P : Presentation) (e : Equation) where
  module _ (m : Content) (entries : List ℕ) (frame : IsFrame S P m entries) (apart : IsApart S P m entries (left_of e) (right_of e)) where
    not_within : (depth : ℕ) → AllTraced S P m entries depth → IsDerivedWithin S P e depth → ⊥
    not_within depth traced derived = apart (Some depth) (λ t entity h within. traced t entity h within) derived.0 derived.1

    not_derived : AllFilled m → IsDerived S P e → ⊥
    not_derived filled derived = apart None (filled_traced S P m entries frame filled) derived.0 derived.1

  -- within no depth so far is it derived, and none of them closes
  abbrev pub AreOpen : ℕ → Type 0
  AreOpen count = (j : ℕ) → j < count → (IsDerivedWithin S P e j → ⊥) × (Closes S P j → ⊥)

  open_after : (stage : ℕ) → IsTooDeep S P e stage → AreOpen (stage + 1)
  open_after stage deep j less =
      let lower : j ≤ stage = omega (arith, less) in
      (λ derived. deep.underived (Within-monotone S P j stage (left_of e) (right_of e) lower derived), deep.none_closes j lower)

  all_open : (depth count : ℕ) → depth < count → AreOpen count → IsTooDeep S P e depth
  all_open depth count less before = record { underived = (before depth less).0; none_closes = λ j le. (before j (omega (arith, le, less))).1 }

  wide_at : (depth stage : ℕ) → stage < depth + 1 → SomeWide S P stage → AreOpen stage → IsTooWide S P e depth
  wide_at depth stage less wide before = record { at = wide.0; within = omega (arith, wide.1, less); wide = wide.2; underived = λ i below. (before i (omega (arith, below, wide.1))).0 }

  -- an answer at one depth
  decided_one : (m : Content) (entries : List ℕ) → IsFrame S P m entries → (depth : ℕ) (closed : Bool) → MatchBool closed (AllFilled m) (AllFilled m → ⊥) → AllTraced S P m entries depth
      → (closed ≡ false → NoneCloses S P depth) → (same : Bool) → IsJudged S P m entries e same → IsDecided S P depth closed e same
  decided_one m entries frame depth closed filled traced unclosed true judged = judged
  decided_one m entries frame depth true filled traced unclosed false judged = not_derived m entries frame judged filled
  decided_one m entries frame depth false filled traced unclosed false judged = record { underived = not_within m entries frame judged depth traced; none_closes = unclosed refl }

  decided_true : (depth : ℕ) (closed same : Bool) → same ≡ true → IsDecided S P depth closed e same → IsDerived S P e
  decided_true depth closed same is h = subst (λ b. MatchBool b (IsDerived S P e) (MatchBool closed (IsDerived S P e → ⊥) (IsTooDeep S P e depth))) is h

  decided_closed : (depth : ℕ) (closed same : Bool) → closed ≡ true → same ≡ false → IsDecided S P depth closed e same → IsDerived S P e → ⊥
  decided_closed depth closed same is_closed is h =
      subst (λ b. MatchBool b (IsDerived S P e → ⊥) (IsTooDeep S P e depth)) is_closed
      (subst (λ b. MatchBool b (IsDerived S P e) (MatchBool closed (IsDerived S P e → ⊥) (IsTooDeep S P e depth))) is h)

  decided_open : (depth : ℕ) (closed same : Bool) → closed ≡ false → same ≡ false → IsDecided S P depth closed e same → IsTooDeep S P e depth
  decided_open depth closed same is_open is h =
      subst (λ b. MatchBool b (IsDerived S P e → ⊥) (IsTooDeep S P e depth)) is_open
      (subst (λ b. MatchBool b (IsDerived S P e) (MatchBool closed (IsDerived S P e → ⊥) (IsTooDeep S P e depth))) is h)

-- the answers of some equations
module _ (S : Schema) (P : Presentation) (es : List Equation) where
  pub decided : (m : Content) (entries : List ℕ) → IsFrame S P m entries → (depth : ℕ) (closed : Bool) → MatchBool closed (AllFilled m) (AllFilled m → ⊥) → AllTraced S P m entries depth
      → (closed ≡ false → NoneCloses S P depth) → (answers : List Bool) → AreJudged S P m entries es answers → AreDecided S P depth es answers closed
  decided m entries frame depth closed filled traced unclosed answers judged = record {
    count = judged.count;
    each = λ n e same at got. decided_one S P e m entries frame depth closed filled traced unclosed same (judged.each n e same at got);
  }

  pub nothing_unmet : length es ≡ 0 → AreAllDerived S P es
  nothing_unmet empty n e at = absurd (omega (arith, empty, slice_get_within es n e at))

  -- what is known after the depths below a stage, and which equation is the first that isn't derived
  pub record AreOpenAt (known : List Bool) (first stage : ℕ) : Type 0 where
    pub known_are : AreKnown S P es known
    pub undecided : (n : ℕ) (e : Equation) → slice_get es n ≡ Some e → slice_get known n ≡ Some false → AreOpen S P e stage
    pub unset : slice_get known first ≡ Some false
    pub earlier : (n : ℕ) → n < first → slice_get known n ≡ Some true

  pub none_known : (known : List Bool) → (length es ≡ 0 → ⊥) → known ≡ replicate (length es) false → AreOpenAt known 0 0
  none_known known some are = record {
    known_are = record {
      count = ap length are ∙ length-replicate (length es) false;
      derived = λ n e at set. let wrong : false ≡ true = all_false (length es) n true (ap (λ l. slice_get l n) (sym are) ∙ set) in cc;
    };
    undecided = λ n e at unset j less. absurd (omega (arith, less));
    unset = ap (λ l. slice_get l 0) are ∙ first_false (length es) some;
    earlier = λ n less. absurd (omega (arith, less));
  }
    where
      all_false : (count n : ℕ) (b : Bool) → slice_get (replicate count false) n ≡ Some b → false ≡ b
      all_false zero n b h = cc
      all_false (suc count) zero b h = cc
      all_false (suc count) (suc n) b h = all_false count n b h

      first_false : (count : ℕ) → (count ≡ 0 → ⊥) → slice_get (replicate count false) 0 ≡ Some false
      first_false zero h = absurd (h refl)
      first_false (suc count) h = refl

  module _ (depth : ℕ) (answers : List Bool) (closed : Bool) (h : AreDecided S P depth es answers closed) where
    derived_where : (n : ℕ) (e : Equation) → slice_get es n ≡ Some e → slice_get answers n ≡ Some true → IsDerived S P e
    derived_where n e at set = decided_true S P e depth closed true refl (h.each n e true at set)

    pub all_derived : ((n : ℕ) → n < length answers → slice_get answers n ≡ Some true) → AreAllDerived S P es
    all_derived all n e at = derived_where n e at (all n (omega (arith, slice_get_within es n e at, h.count)))

    module _ (place : ℕ) (unset : slice_get answers place ≡ Some false) (earlier : (n : ℕ) → n < place → slice_get answers n ≡ Some true) where
      pub not_derivable : (most : ℕ) → closed ≡ true → IsFirst S P most es (record { place = place; cause = NotDerivable })
      not_derivable most is =
          let there = at_place es place (omega (arith, slice_get_within answers place false unset, h.count)) in
          record {
            equation = there.0;
            is = there.1;
            earlier = λ n e less at. derived_where n e at (earlier n less);
            cause = decided_closed S P there.0 depth closed false is refl (h.each place there.0 false there.1 unset);
          }

      pub one_stage_more : closed ≡ false → AreOpenAt answers place (depth + 1)
      one_stage_more is = record {
        known_are = record { count = h.count; derived = derived_where };
        undecided = λ n e at open_there. open_after S P e depth (decided_open S P e depth closed false is refl (h.each n e false at open_there));
        unset = unset;
        earlier = earlier;
      }

  module _ (known : List Bool) (first stage depth : ℕ) (h : AreOpenAt known first stage) where
    first_with : (cause : Cause) → ((e : Equation) → AreOpen S P e stage → IsCause S P depth e cause) → IsFirst S P depth es (record { place = first; cause = cause })
    first_with cause why =
        let there = at_place es first (omega (arith, slice_get_within known first false h.unset, h.known_are.count)) in
        record {
          equation = there.0;
          is = there.1;
          earlier = λ n e less at. h.known_are.derived n e at (h.earlier n less);
          cause = why there.0 (h.undecided first there.0 there.1 h.unset);
        }

    pub too_deep : depth < stage → IsFirst S P depth es (record { place = first; cause = Depth })
    too_deep less = first_with Depth (λ e. all_open S P e depth stage less)

    pub too_wide : stage < depth + 1 → SomeWide S P stage → IsFirst S P depth es (record { place = first; cause = TooManyRows })
    too_wide less wide = first_with TooManyRows (λ e. wide_at S P e depth stage less wide)

-- one equation alone
module _ (S : Schema) (P : Presentation) (e : Equation) where
  only_one : (n : ℕ) (x : Equation) → slice_get (e ∷ []) n ≡ Some x → e ≡ x
  only_one zero x at = cc
  only_one (suc n) x at = cc

  pub one_sorted : IsWellSorted S P e → AreWellSorted S P (e ∷ [])
  one_sorted sorted n x at = subst (IsWellSorted S P) (only_one n x at) sorted

  -- what a refusal says of it
  module _ (depth number n : ℕ) where
    pub told_not_derivable : (cause : Cause) (told : CheckRefusal) → told ≡ refusal_of cause number → IsCause S P depth e cause
        → ◌≡◌ {A = Result (Unit {0}) CheckRefusal} (Err told) (Err (refusal.NotPreserved n)) → (n ≡ number) × (IsDerived S P e → ⊥)
    told_not_derivable NotDerivable told is h same = let equal : n ≡ number = cc in (equal, h)
    told_not_derivable Depth told is h same = cc
    told_not_derivable TooManyRows told is h same = cc

    pub told_deep : (cause : Cause) (told : CheckRefusal) → told ≡ refusal_of cause number → IsCause S P depth e cause
        → ◌≡◌ {A = Result (Unit {0}) CheckRefusal} (Err told) (Err (refusal.Depth n)) → (n ≡ number) × IsTooDeep S P e depth
    told_deep NotDerivable told is h same = cc
    told_deep Depth told is h same = let equal : n ≡ number = cc in (equal, h)
    told_deep TooManyRows told is h same = cc

    pub told_many : (cause : Cause) (told : CheckRefusal) → told ≡ refusal_of cause number → IsCause S P depth e cause
        → ◌≡◌ {A = Result (Unit {0}) CheckRefusal} (Err told) (Err (refusal.TooManyRows n)) → (n ≡ number) × IsTooWide S P e depth
    told_many NotDerivable told is h same = cc
    told_many Depth told is h same = cc
    told_many TooManyRows told is h same = let equal : n ≡ number = cc in (equal, h)

  pub one_cause : (depth : ℕ) (unmet : Unmet) → IsFirst S P depth (e ∷ []) unmet → IsCause S P depth e unmet.cause
  one_cause depth unmet h = subst (λ (x : Equation). IsCause S P depth x unmet.cause) (sym (only_one unmet.place h.equation h.is)) h.cause
