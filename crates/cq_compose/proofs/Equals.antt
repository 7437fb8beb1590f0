-- Lists of entity terms that are derivably equal, one by one.
use Rattle.std.proofs.Common.{ℕ, zero, suc, List, [], ◌∷◌, ◌++◌, Some, ◌≡◌, map, length, refl, ap, subst, arith}
use Rattle.std.specs.Prelude.{slice_get, option_map}
use Rattle.std.specs.List.{flat_map}
use Rattle.cq_theory.specs.declared.presentation.Presentation.{Presentation}
use Rattle.cq_theory.specs.declared.presentation.Equation.{Equation}
use Rattle.cq_theory.specs.declared.presentation.Equation.TheVariants as equation
use Rattle.cq_theory.specs.declared.presentation.Sort.TheVariants.{Entity}
use Rattle.cq_theory.specs.SchemaData.{SchemaData as Schema}
use Rattle.cq_theory.specs.declared.term.EntTerm.{EntTerm}
use Rattle.cq_theory.specs.declared.term.Term.{Term}
use Rattle.cq_theory.specs.declared.term.Term.TheVariants.{Ent}
use Rattle.cq_theory.specs.Sorts.{entity_of}
use Rattle.cq_theory.specs.Derivation.{given, Derives, left_of, right_of}
use Rattle.cq_theory.proofs.Derivations.{Derives-reflexive, Derives-symmetric, Derives-transitive}
use Rattle.cq_query.specs.Duties.{equal_terms}
use Rattle.cq_query.proofs.Answering.{IsIn, later}

module _ (S : Schema) (P : Presentation) where
  abbrev pub AreEqual : List EntTerm → List EntTerm → Type 0
  AreEqual [] [] = Unit {0}
  AreEqual (t ∷ ts) (u ∷ us) = Derives S P (Ent t) (Ent u) × AreEqual ts us
  AreEqual _ _ = ⊥

  pub Derives-moved : (t t' u u' : Term) → t ≡ t' → u ≡ u' → Derives S P t u → Derives S P t' u'
  Derives-moved t t' u u' e f d = subst (λ (x : Term). Derives S P x u') e (subst (λ (x : Term). Derives S P t x) f d)

  -- an equation of the presentation is derivable
  pub Derives-given : (e : Equation) → IsIn e P.equations → Derives S P (left_of e) (right_of e)
  Derives-given e is = (given is.0, (e, is.1, refl, refl, tt, tt))

  pub equal_length : (ts us : List EntTerm) → AreEqual ts us → length ts ≡ length us
  equal_length [] [] h = refl
  equal_length (t ∷ ts) (u ∷ us) h = ap suc (equal_length ts us h.1)
  equal_length [] (u ∷ us) h = absurd h
  equal_length (t ∷ ts) [] h = absurd h

  pub equal_at : (ts us : List EntTerm) → AreEqual ts us → (n : ℕ) (t u : EntTerm) → slice_get ts n ≡ Some t → slice_get us n ≡ Some u → Derives S P (Ent t) (Ent u)
  equal_at [] us h n t u is is' = cc
  equal_at (t ∷ ts) [] h n t' u is is' = cc
  equal_at (t ∷ ts) (u ∷ us) h zero t' u' is is' =
      let left : t ≡ t' = cc in
      let right : u ≡ u' = cc in
      Derives-moved (Ent t) (Ent t') (Ent u) (Ent u') (ap Ent left) (ap Ent right) h.0
  equal_at (t ∷ ts) (u ∷ us) h (suc n) t' u' is is' = equal_at ts us h.1 n t' u' is is'

  pub equal_reflexive : (ts : List EntTerm) → ((n : ℕ) (t : EntTerm) → slice_get ts n ≡ Some t → (e : ℕ) × (entity_of S P.generators t ≡ Some e)) → AreEqual ts ts
  equal_reflexive [] h = tt
  equal_reflexive (t ∷ ts) h =
      let e = h 0 t refl in
      (Derives-reflexive S P (Ent t) (Entity e.0, ap (option_map Entity) e.1), equal_reflexive ts (λ n u at. h (suc n) u at))

  pub equal_symmetric : (ts us : List EntTerm) → AreEqual ts us → AreEqual us ts
  equal_symmetric [] [] h = tt
  equal_symmetric (t ∷ ts) (u ∷ us) h = (Derives-symmetric S P (Ent t) (Ent u) h.0, equal_symmetric ts us h.1)
  equal_symmetric [] (u ∷ us) h = absurd h
  equal_symmetric (t ∷ ts) [] h = absurd h

  pub equal_transitive : (ts us vs : List EntTerm) → AreEqual ts us → AreEqual us vs → AreEqual ts vs
  equal_transitive [] [] vs h k = k
  equal_transitive (t ∷ ts) (u ∷ us) (v ∷ vs) h k = (Derives-transitive S P (Ent t) (Ent u) (Ent v) h.0 k.0, equal_transitive ts us vs h.1 k.1)
  equal_transitive (t ∷ ts) (u ∷ us) [] h k = absurd k
  equal_transitive [] (u ∷ us) vs h k = absurd h
  equal_transitive (t ∷ ts) [] vs h k = absurd h

  pub equal_append : (ts us vs ws : List EntTerm) → AreEqual ts us → AreEqual vs ws → AreEqual (ts ++ vs) (us ++ ws)
  equal_append [] [] vs ws h k = k
  equal_append (t ∷ ts) (u ∷ us) vs ws h k = (h.0, equal_append ts us vs ws h.1 k)
  equal_append [] (u ∷ us) vs ws h k = absurd h
  equal_append (t ∷ ts) [] vs ws h k = absurd h

  -- the equations between the terms of two lists
  pub equal_from : (ts us : List EntTerm) → length ts ≡ length us → ((e : Equation) → IsIn e (equal_terms ts us) → Derives S P (left_of e) (right_of e)) → AreEqual ts us
  equal_from [] [] same h = tt
  equal_from [] (u ∷ us) same h = absurd (omega arith)
  equal_from (t ∷ ts) [] same h = absurd (omega arith)
  equal_from (t ∷ ts) (u ∷ us) same h = (
    h (equation.Ent t u) (0, refl),
    equal_from ts us (omega arith) (λ e is. h e (later e (equation.Ent t u) (equal_terms ts us) is)),
  )

  pub equal_each : (ts us : List EntTerm) → AreEqual ts us → (n : ℕ) (e : Equation) → slice_get (equal_terms ts us) n ≡ Some e → Derives S P (left_of e) (right_of e)
  equal_each [] us h n e is = cc
  equal_each (t ∷ ts) [] h n e is = cc
  equal_each (t ∷ ts) (u ∷ us) h zero e is =
      let same : equation.Ent t u ≡ e = cc in
      subst (λ (x : Equation). Derives S P (left_of x) (right_of x)) same h.0
  equal_each (t ∷ ts) (u ∷ us) h (suc n) e is = equal_each ts us h.1 n e is

-- equal terms are sent to equal ones
module _ (S S' : Schema) (P P' : Presentation) where
  pub equal_mapped : (f : EntTerm → EntTerm) → ((t u : EntTerm) → Derives S P (Ent t) (Ent u) → Derives S' P' (Ent (f t)) (Ent (f u)))
      → (ts us : List EntTerm) → AreEqual S P ts us → AreEqual S' P' (map f ts) (map f us)
  equal_mapped f h [] [] k = tt
  equal_mapped f h (t ∷ ts) (u ∷ us) k = (h t u k.0, equal_mapped f h ts us k.1)
  equal_mapped f h [] (u ∷ us) k = absurd k
  equal_mapped f h (t ∷ ts) [] k = absurd k

  pub equal_flat : (f : EntTerm → List EntTerm) → ((t u : EntTerm) → Derives S P (Ent t) (Ent u) → AreEqual S' P' (f t) (f u))
      → (ts us : List EntTerm) → AreEqual S P ts us → AreEqual S' P' (flat_map f ts) (flat_map f us)
  equal_flat f h [] [] k = tt
  equal_flat f h (t ∷ ts) (u ∷ us) k = equal_append S' P' (f t) (f u) (flat_map f ts) (flat_map f us) (h t u k.0) (equal_flat f h ts us k.1)
  equal_flat f h [] (u ∷ us) k = absurd k
  equal_flat f h (t ∷ ts) [] k = absurd k
