-- Each derivable equation is the last of some right list.
use Rattle.std.proofs.Common.{ℕ, zero, suc, List, [], ◌∷◌, ◌++◌, Some, None, ◌≡◌, ◌<◌, length, take, refl, sym, ap, ◌∙◌, subst, arith, append_assoc}
use Rattle.std.specs.Prelude.{slice_get, option_map}
use Rattle.std.proofs.lemmas.List.{append-nil}
use Rattle.cq_theory.specs.SchemaData.{SchemaData as Schema}
use Rattle.cq_theory.specs.declared.presentation.Equation.{Equation}
use Rattle.cq_theory.specs.declared.presentation.Equation.TheVariants.{Ent as EntEquation, Typ as TypEquation}
use Rattle.cq_theory.specs.declared.presentation.Presentation.{Presentation}
use Rattle.cq_theory.specs.declared.term.Term.{Term}
use Rattle.cq_theory.specs.declared.term.Term.TheVariants.{Ent, Typ}
use Rattle.cq_theory.specs.declared.term.EntTerm.{EntTerm}
use Rattle.cq_theory.specs.declared.term.TypeTerm.{TypeTerm}
use Rattle.cq_theory.specs.declared.term.TypeTerm.TheVariants.{Att, Fun}
use Rattle.cq_theory.specs.EntTerm.{extended}
use Rattle.cq_theory.specs.TypeTerm.{substituted}
use Rattle.cq_theory.specs.Sorts.{IsGround}
use Rattle.cq_theory.specs.Derivation.{Derivation, Derivations, reflexivity, symmetry, transitivity, key, attribute, function, given, path_equation, observation, none, more, Concludes, Conclude, left_of, right_of}
use Rattle.cq_steps.specs.declared.step.Rule.{Rule}
use Rattle.cq_steps.specs.declared.step.Rule.TheVariants.{Reflexivity, Symmetry, Transitivity, Key, Attribute, Function, Given, Path, Obs}
use Rattle.cq_steps.specs.declared.step.Step.{Step}
use Rattle.cq_steps.specs.Right.{equation_at, equations_at, AreBetween, IsTurned, IsJoined, Follows, IsRight}
use Rattle.cq_proof.specs.Answers.{last_of, IsDerivable, Proves}

-- the equation with its sides exchanged
abbrev turned : Equation → Equation
turned (EntEquation t u) = EntEquation u t
turned (TypEquation t u) = TypEquation u t

turned-left : (e : Equation) → left_of (turned e) ≡ right_of e
turned-left (EntEquation t u) = refl
turned-left (TypEquation t u) = refl

turned-right : (e : Equation) → right_of (turned e) ≡ left_of e
turned-right (EntEquation t u) = refl
turned-right (TypEquation t u) = refl

-- an equation is known by its sides
same_sides : (p q : Equation) → left_of p ≡ left_of q → right_of p ≡ right_of q → p ≡ q
same_sides (EntEquation t u) (EntEquation t' u') left right = let first : t ≡ t' = cc in let second : u ≡ u' = cc in cc
same_sides (TypEquation t u) (TypEquation t' u') left right = let first : t ≡ t' = cc in let second : u ≡ u' = cc in cc
same_sides (EntEquation t u) (TypEquation t' u') left right = cc
same_sides (TypEquation t u) (EntEquation t' u') left right = cc

-- from the left side of the one to the right side of the other, which share a side
joined : (p q : Equation) → right_of p ≡ left_of q → (e : Equation) × (left_of e ≡ left_of p) × (right_of e ≡ right_of q)
joined (EntEquation t u) (EntEquation u' v) same = (EntEquation t v, refl, refl)
joined (TypEquation t u) (TypEquation u' v) same = (TypEquation t v, refl, refl)
joined (EntEquation t u) (TypEquation u' v) same = cc
joined (TypEquation t u) (EntEquation u' v) same = cc

-- reading in a list that goes on
get-left : (xs ys : List Step) (n : ℕ) (s : Step) → slice_get xs n ≡ Some s → slice_get (xs ++ ys) n ≡ Some s
get-left [] ys n s h = cc
get-left (x ∷ xs) ys zero s h = h
get-left (x ∷ xs) ys (suc n) s h = get-left xs ys n s h

get-end : (xs : List Step) (s : Step) → slice_get (xs ++ s ∷ []) (length xs) ≡ Some s
get-end [] s = refl
get-end (x ∷ xs) s = get-end xs s

last-end : (xs : List Step) (s : Step) → last_of (xs ++ s ∷ []) ≡ Some s.equation
last-end [] s = refl
last-end (x ∷ []) s = refl
last-end (x ∷ y ∷ xs) s = last-end (y ∷ xs) s

some-positive : (xs : List Step) (s : Step) → 0 < length (xs ++ s ∷ [])
some-positive [] s = omega arith
some-positive (x ∷ xs) s = omega arith

at-left : (xs ys : List Step) (n : ℕ) (e : Equation) → equation_at xs n ≡ Some e → equation_at (xs ++ ys) n ≡ Some e
at-left [] ys n e h = cc
at-left (x ∷ xs) ys zero e h = h
at-left (x ∷ xs) ys (suc n) e h = at-left xs ys n e h

-- one list begins with the other
abbrev GoesOn : List Step → List Step → Type 0
GoesOn earlier later = (more : List Step) × (later ≡ earlier ++ more)

on-same : (xs : List Step) → GoesOn xs xs
on-same xs = ([], sym (append-nil xs))

on-further : (xs ys zs : List Step) → GoesOn xs ys → GoesOn ys zs → GoesOn xs zs
on-further xs ys zs h k = (h.0 ++ k.0, k.1 ∙ ap (λ l. l ++ k.0) h.1 ∙ append_assoc xs h.0 k.0)

on-at : (xs ys : List Step) (n : ℕ) (e : Equation) → GoesOn xs ys → equation_at xs n ≡ Some e → equation_at ys n ≡ Some e
on-at xs ys n e on h = subst (λ l. equation_at l n ≡ Some e) (sym on.1) (at-left xs on.0 n e h)

module _ (S : Schema) (P : Presentation) where
  -- each step follows from those before it
  abbrev AreRight : List Step → List Step → Type 0
  AreRight before steps = (n : ℕ) (step : Step) → slice_get steps n ≡ Some step → IsRight S P (before ++ take n steps) step

  -- one more step
  right-more : (before xs : List Step) (s : Step) → AreRight before xs → IsRight S P (before ++ xs) s → AreRight before (xs ++ s ∷ [])
  right-more before [] s right last zero step is = let same : s ≡ step = cc in subst (IsRight S P (before ++ [])) same last
  right-more before [] s right last (suc n) step is = cc
  right-more before (x ∷ xs) s right last zero step is = right zero step is
  right-more before (x ∷ xs) s right last (suc n) step is =
      subst (λ l. IsRight S P l step) (append_assoc before (x ∷ []) (take n (xs ++ s ∷ [])))
      (right-more (before ++ x ∷ []) xs s
      (λ m other at. subst (λ l. IsRight S P l other) (sym (append_assoc before (x ∷ []) (take m xs))) (right (suc m) other at))
      (subst (λ l. IsRight S P l s) (sym (append_assoc before (x ∷ []) xs)) last) n step is)

  -- the list goes on to a step with these sides
  record IsReached (earlier : List Step) (t u : Term) : Type 0 where
    pub before : List Step
    pub step : Step
    pub on : GoesOn earlier (before ++ step ∷ [])
    pub all : AreRight [] (before ++ step ∷ [])
    pub left : left_of step.equation ≡ t
    pub right : right_of step.equation ≡ u

  abbrev list_of : (earlier : List Step) (t u : Term) → IsReached earlier t u → List Step
  list_of earlier t u r = r.before ++ r.step ∷ []

  at-end : (xs : List Step) (s : Step) → equation_at (xs ++ s ∷ []) (length xs) ≡ Some s.equation
  at-end xs s = ap (option_map (λ step. step.equation)) (get-end xs s)

  reach : (earlier before : List Step) (t u : Term) (rule : Rule) (from : List ℕ) (e : Equation) → GoesOn earlier before → AreRight [] before
      → Follows S P rule (equations_at before from) e → left_of e ≡ t → right_of e ≡ u → IsReached earlier t u
  reach earlier before t u rule from e on all follows left right = record {
    before = before;
    step = record { rule = rule; from = from; equation = e };
    on = on-further earlier before (before ++ record { rule = rule; from = from; equation = e } ∷ []) on (record { rule = rule; from = from; equation = e } ∷ [], refl);
    all = right-more [] before (record { rule = rule; from = from; equation = e }) all follows;
    left = left;
    right = right;
  }

  -- the premises are there, and the list goes on to them
  record AreReached (earlier : List Step) (ts us : List TypeTerm) : Type 0 where
    pub after : List Step
    pub on : GoesOn earlier after
    pub all : AreRight [] after
    pub from : List ℕ
    pub between : AreBetween (equations_at after from) ts us

  by_symmetry : (earlier : List Step) (t u : Term) → IsReached earlier u t → IsReached earlier t u
  by_symmetry earlier t u r =
      reach earlier (r.before ++ r.step ∷ []) t u Symmetry (length r.before ∷ []) (turned r.step.equation) r.on r.all
      (subst (λ p. IsTurned p (turned r.step.equation)) (sym (at-end r.before r.step)) (turned-left r.step.equation, turned-right r.step.equation))
      (turned-left r.step.equation ∙ r.right) (turned-right r.step.equation ∙ r.left)

  by_transitivity : (earlier : List Step) (t s u : Term) (r : IsReached earlier t s) → IsReached (r.before ++ r.step ∷ []) s u → IsReached earlier t u
  by_transitivity earlier t s u r q =
      let e = joined r.step.equation q.step.equation (r.right ∙ sym q.left) in
      let first : equation_at (q.before ++ q.step ∷ []) (length r.before) ≡ Some r.step.equation =
      on-at (r.before ++ r.step ∷ []) (q.before ++ q.step ∷ []) (length r.before) r.step.equation q.on (at-end r.before r.step) in
      reach earlier (q.before ++ q.step ∷ []) t u Transitivity (length r.before ∷ length q.before ∷ []) e.0
      (on-further earlier (r.before ++ r.step ∷ []) (q.before ++ q.step ∷ []) r.on q.on) q.all
      (subst (λ o. IsJoined o (equation_at (q.before ++ q.step ∷ []) (length q.before)) e.0) (sym first)
      (subst (λ o. IsJoined (Some r.step.equation) o e.0) (sym (at-end q.before q.step)) (r.right ∙ sym q.left, e.1, e.2)))
      (e.1 ∙ r.left) (e.2 ∙ q.right)

  by_key : (earlier : List Step) (t u : Term) (k : ℕ) (a b : EntTerm) → IsReached earlier (Ent a) (Ent b)
      → t ≡ Ent (extended a (k ∷ [])) → u ≡ Ent (extended b (k ∷ [])) → IsGround S P t → IsReached earlier t u
  by_key earlier t u k a b r left right ground =
      let premise : r.step.equation ≡ EntEquation a b = same_sides r.step.equation (EntEquation a b) r.left r.right in
      reach earlier (r.before ++ r.step ∷ []) t u (Key k) (length r.before ∷ []) (EntEquation (extended a (k ∷ [])) (extended b (k ∷ []))) r.on r.all
      (a, b, at-end r.before r.step ∙ ap Some premise, refl, subst (IsGround S P) left ground) (sym left) (sym right)

  by_attribute : (earlier : List Step) (t u : Term) (n : ℕ) (a b : EntTerm) → IsReached earlier (Ent a) (Ent b)
      → t ≡ Typ (Att n a) → u ≡ Typ (Att n b) → IsGround S P t → IsReached earlier t u
  by_attribute earlier t u n a b r left right ground =
      let premise : r.step.equation ≡ EntEquation a b = same_sides r.step.equation (EntEquation a b) r.left r.right in
      reach earlier (r.before ++ r.step ∷ []) t u (Attribute n) (length r.before ∷ []) (TypEquation (Att n a) (Att n b)) r.on r.all
      (a, b, at-end r.before r.step ∙ ap Some premise, refl, subst (IsGround S P) left ground) (sym left) (sym right)

  by_function : (earlier : List Step) (t u : Term) (f : ℕ) (ts us : List TypeTerm) → AreReached earlier ts us
      → t ≡ Typ (Fun f ts) → u ≡ Typ (Fun f us) → IsGround S P t → IsReached earlier t u
  by_function earlier t u f ts us r left right ground =
      reach earlier r.after t u (Function f) r.from (TypEquation (Fun f ts) (Fun f us)) r.on r.all
      (ts, us, r.between, refl, subst (IsGround S P) left ground) (sym left) (sym right)

  one_more : (earlier : List Step) (t u : TypeTerm) (ts us : List TypeTerm) (r : IsReached earlier (Typ t) (Typ u))
      → AreReached (r.before ++ r.step ∷ []) ts us → AreReached earlier (t ∷ ts) (u ∷ us)
  one_more earlier t u ts us r rest =
      let premise : r.step.equation ≡ TypEquation t u = same_sides r.step.equation (TypEquation t u) r.left r.right in
      record {
        after = rest.after;
        on = on-further earlier (r.before ++ r.step ∷ []) rest.after r.on rest.on;
        all = rest.all;
        from = length r.before ∷ rest.from;
        between = (on-at (r.before ++ r.step ∷ []) rest.after (length r.before) (TypEquation t u) rest.on (at-end r.before r.step ∙ ap Some premise), rest.between);
      }

  mutual
    -- A derivation goes on from any right list to one that ends with its conclusion.
    reached : (d : Derivation) (t u : Term) (earlier : List Step) → AreRight [] earlier → Concludes S P None d t u → IsReached earlier t u
    reached (reflexivity (Ent s)) t u earlier all h =
        reach earlier earlier t u Reflexivity [] (EntEquation s s) (on-same earlier) all (refl, h.0) (sym h.2) (sym h.3)
    reached (reflexivity (Typ s)) t u earlier all h =
        reach earlier earlier t u Reflexivity [] (TypEquation s s) (on-same earlier) all (refl, h.0) (sym h.2) (sym h.3)
    reached (symmetry d) t u earlier all h = by_symmetry earlier t u (reached d u t earlier all h)
    reached (transitivity d e) t u earlier all h =
        let first = reached d t h.0 earlier all h.1 in
        let second = reached e h.0 u (first.before ++ first.step ∷ []) first.all h.2 in
        by_transitivity earlier t h.0 u first second
    reached (key k d) t u earlier all h = by_key earlier t u k h.0 h.1 (reached d (Ent h.0) (Ent h.1) earlier all h.2) h.3 h.4 h.5
    reached (attribute n d) t u earlier all h = by_attribute earlier t u n h.0 h.1 (reached d (Ent h.0) (Ent h.1) earlier all h.2) h.3 h.4 h.5
    reached (function f ds) t u earlier all h = by_function earlier t u f h.0 h.1 (all_reached ds h.0 h.1 earlier all h.2) h.3 h.4 h.5
    reached (given n) t u earlier all h =
        reach earlier earlier t u (Given n) [] h.0 (on-same earlier) all h.1 (sym h.2) (sym h.3)
    reached (path_equation n at) t u earlier all h =
        reach earlier earlier t u (Path n at) [] (EntEquation (extended at h.0.left) (extended at h.0.right)) (on-same earlier) all (h.0, h.1, h.2, refl) (sym h.4) (sym h.5)
    reached (observation n at) t u earlier all h =
        reach earlier earlier t u (Obs n at) [] (TypEquation (substituted at h.0.left) (substituted at h.0.right)) (on-same earlier) all (h.0, h.1, h.2, refl) (sym h.4) (sym h.5)

    all_reached : (ds : Derivations) (ts us : List TypeTerm) (earlier : List Step) → AreRight [] earlier → Conclude S P None ds ts us → AreReached earlier ts us
    all_reached none [] [] earlier all h = record { after = earlier; on = on-same earlier; all = all; from = []; between = tt }
    all_reached (more d ds) (t ∷ ts) (u ∷ us) earlier all h =
        let first = reached d (Typ t) (Typ u) earlier all h.0 in
        one_more earlier t u ts us first (all_reached ds ts us (first.before ++ first.step ∷ []) first.all h.1)
    all_reached none [] (u ∷ us) earlier all h = absurd h
    all_reached none (t ∷ ts) us earlier all h = absurd h
    all_reached (more d ds) [] us earlier all h = absurd h
    all_reached (more d ds) (t ∷ ts) [] earlier all h = absurd h

  ended : (e : Equation) → IsReached [] (left_of e) (right_of e) → (steps : List Step) × Proves S P steps e
  ended e r =
      (r.before ++ r.step ∷ [], ((some-positive r.before r.step, r.all), last-end r.before r.step ∙ ap Some (same_sides r.step.equation e r.left r.right)))

  -- a right list that ends with the equation
  pub right_list : (e : Equation) → IsDerivable S P e → (steps : List Step) × Proves S P steps e
  right_list e d = ended e (reached d.0 (left_of e) (right_of e) [] (λ n step is. cc) d.1)
