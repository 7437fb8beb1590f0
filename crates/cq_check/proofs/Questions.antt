-- Equations that are asked, and what their answers say.
use Rattle.std.proofs.Common.{ℕ, Bool, List, [], ◌∷◌, ◌++◌, Some, ◌≡◌, ◌+◌, map, length, sym, ap, subst, ◌∙◌, arith, inl, inr}
use Rattle.std.specs.Prelude.{slice_get}
use Rattle.std.proofs.lemmas.List.{length-map, length-append}
use Rattle.std.proofs.lemmas.Option.{slice_get_within}
use Rattle.cq_tables.specs.Content.{Content, made_of}
use Rattle.cq_flat.specs.Values.{AreValues}
use Rattle.cq_check.specs.Adding.{Grows, HasGiven, HasAtRows}
use Rattle.cq_check.specs.Answers.{IsWellSorted}
use Rattle.cq_check.specs.Asking.{AreWellSorted, IsJudged, AreJudged, IsAsked, Asks, AreAsked}
use Rattle.cq_check.specs.Closed.{IsAmong, IsTold, AreTold, AreCompared}
use Rattle.cq_check.specs.Frame.{IsFrame}
use Rattle.cq_check.specs.NodeListData.{NodeListData}
use Rattle.cq_check.specs.Sound.{AreSound, KeepsSound}
use Rattle.cq_check.specs.declared.asking.Asked.{Asked}
use Rattle.cq_check.specs.declared.asking.Asked.TheVariants.{Answered, Nodes}
use Rattle.cq_check.proofs.Listed.{grows_none, grows_both, HasIfTraced-more}
use Rattle.cq_check.proofs.Lists.{at_place, image_at, one_at, one_more}
use Rattle.cq_check.proofs.OneValue.{one_value}
use Rattle.cq_check.proofs.Placed.{stands_more}
use Rattle.cq_check.proofs.Typed.{type_sorted}
use Rattle.cq_theory.specs.declared.presentation.Equation.{Equation}
use Rattle.cq_theory.specs.declared.presentation.Equation.TheVariants.{Typ as TypEquation}
use Rattle.cq_theory.specs.declared.presentation.Presentation.{Presentation}
use Rattle.cq_theory.specs.SchemaData.{SchemaData as Schema}
use Rattle.cq_theory.specs.Schema.{IsSchema}
use Rattle.cq_theory.specs.Presentation.{IsPresentation}
use Rattle.cq_theory.specs.declared.value.Value.{Value}
use Rattle.cq_theory.specs.Sorts.{type_of}

-- the first answers by the values of nodes
pub record ToldFirst (values : List Value) (asked : List Asked) (answers : List Bool) (count : ℕ) : Type 0 where
  pub count_is : length answers ≡ count
  pub each : (n : ℕ) (one : Asked) (answer : Bool) → slice_get asked n ≡ Some one → slice_get answers n ≡ Some answer → IsTold values one answer

module _ (values : List Value) (asked : List Asked) where
  pub told_none : (answers : List Bool) → answers ≡ [] → ToldFirst values asked answers 0
  told_none answers empty = record {
    count_is = ap length empty;
    each = λ n one answer at got. let wrong : slice_get [] n ≡ Some answer = ap (λ l. slice_get l n) (sym empty) ∙ got in cc;
  }

  pub told_one_more : (answers answers' : List Bool) (one : Asked) (answer : Bool) (i : ℕ) → slice_get asked i ≡ Some one → answers' ≡ answers ++ answer ∷ [] → IsTold values one answer
      → ToldFirst values asked answers i → ToldFirst values asked answers' (i + 1)
  told_one_more answers answers' one answer i there longer told before =
      let size : length answers' ≡ length answers + 1 = ap length longer ∙ length-append answers (answer ∷ []) in
      record {
        count_is = omega (arith, size, before.count_is);
        each = λ n other same at got. elim (one_more answers answer n same (ap (λ l. slice_get l n) (sym longer) ∙ got)) [
          | inl earlier ↦ before.each n other same at earlier
          | inr last ↦
              let place : i ≡ n = omega (arith, last.0, before.count_is) in
              let equal : one ≡ other = one_at asked n one other (ap (slice_get asked) (sym place) ∙ there) at in
              subst (IsTold values other) last.1 (subst (λ (x : Asked). IsTold values x answer) equal told)
        ];
      }

  pub all_told : (answers : List Bool) (i : ℕ) → i ≡ length asked → ToldFirst values asked answers i → AreTold values asked answers
  all_told answers i all h = record { count = h.count_is ∙ all; each = h.each }

module _ (S : Schema) (P : Presentation) (m : Content) (entries : List ℕ) where
  asked_more : (old new : NodeListData) (e : Equation) (one : Asked) → Grows old new → IsAsked S P m entries old.nodes e one → IsAsked S P m entries new.nodes e one
  asked_more old new e (Answered same) grows h = h
  asked_more old new e (Nodes a b) grows h = record {
    left = h.left;
    right = h.right;
    is = h.is;
    sides = record {
      left = stands_more m entries old.nodes new.nodes grows.nodes h.sides.left;
      right = stands_more m entries old.nodes new.nodes grows.nodes h.sides.right;
      left_within = omega (arith, h.sides.left_within, grows.count);
      right_within = omega (arith, h.sides.right_within, grows.count);
    };
  }

  -- the first equations are asked
  pub record AsksFirst (old new : NodeListData) (es : List Equation) (asked : List Asked) (count : ℕ) : Type 0 where
    pub grows : Grows old new
    pub sound : AreSound S P m entries new
    pub count_is : length asked ≡ count
    pub each : (n : ℕ) (e : Equation) (one : Asked) → slice_get es n ≡ Some e → slice_get asked n ≡ Some one → IsAsked S P m entries new.nodes e one

  pub asked_none : (list : NodeListData) (es : List Equation) (asked : List Asked) → asked ≡ [] → AreSound S P m entries list → AsksFirst list list es asked 0
  asked_none list es asked empty sound = record {
    grows = grows_none list;
    sound = sound;
    count_is = ap length empty;
    each = λ n e one at got. let wrong : slice_get [] n ≡ Some one = ap (λ l. slice_get l n) (sym empty) ∙ got in cc;
  }

  pub asked_one_more : (old mid new : NodeListData) (es : List Equation) (asked asked' : List Asked) (e : Equation) (one : Asked) (i : ℕ) → slice_get es i ≡ Some e → asked' ≡ asked ++ one ∷ []
      → AsksFirst old mid es asked i → Asks S P m entries mid new e one → AsksFirst old new es asked' (i + 1)
  asked_one_more old mid new es asked asked' e one i there longer before h =
      let size : length asked' ≡ length asked + 1 = ap length longer ∙ length-append asked (one ∷ []) in
      record {
        grows = grows_both old mid new before.grows h.grows;
        sound = h.sound;
        count_is = omega (arith, size, before.count_is);
        each = λ n f other at got. elim (one_more asked one n other (ap (λ l. slice_get l n) (sym longer) ∙ got)) [
          | inl earlier ↦ asked_more mid new f other h.grows (before.each n f other at earlier)
          | inr last ↦
              let place : i ≡ n = omega (arith, last.0, before.count_is) in
              let equal : e ≡ f = one_at es n e f (ap (slice_get es) (sym place) ∙ there) at in
              subst (IsAsked S P m entries new.nodes f) last.1 (subst (λ (x : Equation). IsAsked S P m entries new.nodes x one) equal h.is)
        ];
      }

  pub all_asked : (old new : NodeListData) (es : List Equation) (asked : List Asked) (i : ℕ) → i ≡ length es → AsksFirst old new es asked i → AreAsked S P m entries old new es asked
  all_asked old new es asked i all h = record { grows = h.grows; sound = h.sound; count = h.count_is ∙ all; each = h.each }

  -- where no nodes have to be compared
  pub judged_known : (old new : NodeListData) (es : List Equation) (asked : List Asked) (answers : List Bool) → AreAsked S P m entries old new es asked → map Answered answers ≡ asked → AreJudged S P m entries es answers
  judged_known old new es asked answers h are = record {
    count = sym (length-map answers Answered) ∙ ap length are ∙ h.count;
    each = λ n e same at got. h.each n e (Answered same) at (ap (λ l. slice_get l n) (sym are) ∙ image_at Answered answers n same got);
  }

  among : (list : NodeListData) (e : Equation) (one : Asked) → IsAsked S P m entries list.nodes e one → IsAmong (length list.nodes) one
  among list e (Answered same) h = tt
  among list e (Nodes a b) h = (h.sides.left_within, h.sides.right_within)

  module _ (schema : IsSchema S) (presentation : IsPresentation S P) (frame : IsFrame S P m entries) where
    judged_one : (list : NodeListData) → AreSound S P m entries list → HasGiven P m entries list (length P.equations) → HasAtRows S m list (made_of m)
        → (values : List Value) → AreValues list.nodes list.equations values → (e : Equation) → IsWellSorted S P e
        → (one : Asked) → IsAsked S P m entries list.nodes e one → (answer : Bool) → IsTold values one answer → IsJudged S P m entries e answer
    judged_one list sound given rows values are e sorted (Answered same) h answer told = subst (IsJudged S P m entries e) (sym told) h
    judged_one list sound given rows values are e sorted (Nodes a b) h answer told =
        let sides : IsWellSorted S P (TypEquation h.left h.right) = subst (IsWellSorted S P) h.is sorted in
        let left = type_sorted (type_of S P.generators h.left) sides.sort sides.left in
        let right = type_sorted (type_of S P.generators h.right) sides.sort sides.right in
        subst (λ (x : Equation). IsJudged S P m entries x answer) (sym h.is)
        (one_value S P m entries schema presentation frame list sound h.left h.right a b left.0 right.0 answer left.1 right.1 h.sides.left h.sides.right h.sides.left_within h.sides.right_within given rows values are told)

    -- after the sides, the equations of the presentation and those of the schema
    module _ (begun two three four : NodeListData) (es : List Equation) (asked : List Asked) (h : AreAsked S P m entries begun two es asked)
        (more : Grows two three) (keeps : AreSound S P m entries two → AreSound S P m entries three) (given : HasGiven P m entries three (length P.equations))
        (more' : Grows three four) (keeps' : KeepsSound S m three four) (rows : HasAtRows S m four (made_of m)) where
      pub sound_all : AreSound S P m entries four
      sound_all = keeps' P entries frame (keeps h.sound)

      given_all : HasGiven P m entries four (length P.equations)
      given_all n x y less found = HasIfTraced-more m entries three four x y more' (given n x y less found)

      asked_all : (n : ℕ) (e : Equation) (one : Asked) → slice_get es n ≡ Some e → slice_get asked n ≡ Some one → IsAsked S P m entries four.nodes e one
      asked_all n e one at got = asked_more two four e one (grows_both two three four more more') (h.each n e one at got)

      pub among_all : (n : ℕ) (one : Asked) → slice_get asked n ≡ Some one → IsAmong (length four.nodes) one
      among_all n one got =
          let there = at_place es n (omega (arith, slice_get_within asked n one got, h.count)) in
          among four there.0 one (asked_all n there.0 one there.1 got)

      pub judged_all : (answers : List Bool) → AreWellSorted S P es → AreCompared four.nodes four.equations asked answers → AreJudged S P m entries es answers
      judged_all answers sorted compared = record {
        count = compared.told.count ∙ h.count;
        each = λ n e same at got.
            let there = at_place asked n (omega (arith, slice_get_within answers n same got, compared.told.count)) in
            judged_one four sound_all given_all rows compared.values compared.are_values e (sorted n e at) there.0 (asked_all n e there.0 at there.1) same (compared.told.each n there.0 same there.1 got);
      }
