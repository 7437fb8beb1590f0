-- A derivation concludes at most one equation.
use Rattle.std.proofs.Common.{ℕ, List, [], ◌∷◌, Option, Some, None, ◌≡◌, refl, sym, ap, ◌∙◌}
use Rattle.std.specs.Prelude.{slice_get}
use Rattle.cq_theory.specs.declared.presentation.Presentation.{Presentation}
use Rattle.cq_theory.specs.declared.schema.PathEq.{PathEq}
use Rattle.cq_theory.specs.declared.schema.ObsEq.{ObsEq}
use Rattle.cq_theory.specs.SchemaData.{SchemaData as Schema}
use Rattle.cq_theory.specs.declared.term.EntTerm.{EntTerm}
use Rattle.cq_theory.specs.declared.term.TypeTerm.{TypeTerm}
use Rattle.cq_theory.specs.declared.term.TypeTerm.TheVariants.{Att, Fun}
use Rattle.cq_theory.specs.declared.term.Term.{Term}
use Rattle.cq_theory.specs.declared.term.Term.TheVariants.{Ent, Typ}
use Rattle.cq_theory.specs.EntTerm.{extended}
use Rattle.cq_theory.specs.TypeTerm.{substituted}
use Rattle.cq_theory.specs.Derivation.{Derivation, Derivations, reflexivity, symmetry, transitivity, key, attribute, function, given, path_equation, observation, none, more, Concludes, Conclude, left_of, right_of}

same_entity_term : (a b : EntTerm) → Ent a ≡ Ent b → a ≡ b
same_entity_term a b h = cc

same_type_term : (t u : TypeTerm) → Typ t ≡ Typ u → t ≡ u
same_type_term t u h = cc

same_some : {X : Type 0} (o : Option X) (x y : X) → o ≡ Some x → o ≡ Some y → x ≡ y
same_some o x y h h' = cc

module _ (S : Schema) (P : Presentation) (bound : Option ℕ) where
  mutual
    pub one_conclusion : (d : Derivation) (t u v w : Term) → Concludes S P bound d t u → Concludes S P bound d v w → (t ≡ v) × (u ≡ w)
    one_conclusion (reflexivity s) t u v w h h' = (h.2 ∙ sym h'.2, h.3 ∙ sym h'.3)
    one_conclusion (symmetry d) t u v w h h' = let e = one_conclusion d u t w v h h' in (e.1, e.0)
    one_conclusion (transitivity d e) t u v w h h' = ((one_conclusion d t h.0 v h'.0 h.1 h'.1).0, (one_conclusion e h.0 u h'.0 w h.2 h'.2).1)
    one_conclusion (key k d) t u v w h h' =
        let e = one_conclusion d (Ent h.0) (Ent h.1) (Ent h'.0) (Ent h'.1) h.2 h'.2 in (
          h.3 ∙ ap (λ (a : EntTerm). Ent (extended a (k ∷ []))) (same_entity_term h.0 h'.0 e.0) ∙ sym h'.3,
          h.4 ∙ ap (λ (a : EntTerm). Ent (extended a (k ∷ []))) (same_entity_term h.1 h'.1 e.1) ∙ sym h'.4,
        )
    one_conclusion (attribute n d) t u v w h h' =
        let e = one_conclusion d (Ent h.0) (Ent h.1) (Ent h'.0) (Ent h'.1) h.2 h'.2 in (
          h.3 ∙ ap (λ (a : EntTerm). Typ (Att n a)) (same_entity_term h.0 h'.0 e.0) ∙ sym h'.3,
          h.4 ∙ ap (λ (a : EntTerm). Typ (Att n a)) (same_entity_term h.1 h'.1 e.1) ∙ sym h'.4,
        )
    one_conclusion (function f ds) t u v w h h' =
        let e = one_conclusions ds h.0 h.1 h'.0 h'.1 h.2 h'.2 in (
          h.3 ∙ ap (λ (ts : List TypeTerm). Typ (Fun f ts)) e.0 ∙ sym h'.3,
          h.4 ∙ ap (λ (ts : List TypeTerm). Typ (Fun f ts)) e.1 ∙ sym h'.4,
        )
    one_conclusion (given n) t u v w h h' =
        let e = same_some (slice_get P.equations n) h.0 h'.0 h.1 h'.1 in
        (h.2 ∙ ap left_of e ∙ sym h'.2, h.3 ∙ ap right_of e ∙ sym h'.3)
    one_conclusion (path_equation n at) t u v w h h' =
        let e = same_some (slice_get S.path_eqs n) h.0 h'.0 h.1 h'.1 in (
          h.4 ∙ ap (λ (e : PathEq). Ent (extended at e.left)) e ∙ sym h'.4,
          h.5 ∙ ap (λ (e : PathEq). Ent (extended at e.right)) e ∙ sym h'.5,
        )
    one_conclusion (observation n at) t u v w h h' =
        let e = same_some (slice_get S.obs_eqs n) h.0 h'.0 h.1 h'.1 in (
          h.4 ∙ ap (λ (e : ObsEq). Typ (substituted at e.left)) e ∙ sym h'.4,
          h.5 ∙ ap (λ (e : ObsEq). Typ (substituted at e.right)) e ∙ sym h'.5,
        )

    one_conclusions : (ds : Derivations) (ts us vs ws : List TypeTerm) → Conclude S P bound ds ts us → Conclude S P bound ds vs ws → (ts ≡ vs) × (us ≡ ws)
    one_conclusions none [] [] [] [] h h' = (refl, refl)
    one_conclusions (more d ds) (t ∷ ts) (u ∷ us) (v ∷ vs) (w ∷ ws) h h' =
        let e = one_conclusion d (Typ t) (Typ u) (Typ v) (Typ w) h.0 h'.0 in
        let es = one_conclusions ds ts us vs ws h.1 h'.1 in
        let left : t ≡ v = same_type_term t v e.0 in
        let right : u ≡ w = same_type_term u w e.1 in
        let lefts : ts ≡ vs = es.0 in
        let rights : us ≡ ws = es.1 in
        (λ i. left i ∷ lefts i, λ i. right i ∷ rights i)
    one_conclusions none [] (u ∷ us) vs ws h h' = absurd h
    one_conclusions none (t ∷ ts) us vs ws h h' = absurd h
    one_conclusions none [] [] [] (w ∷ ws) h h' = absurd h'
    one_conclusions none [] [] (v ∷ vs) ws h h' = absurd h'
    one_conclusions (more d ds) [] us vs ws h h' = absurd h
    one_conclusions (more d ds) (t ∷ ts) [] vs ws h h' = absurd h
    one_conclusions (more d ds) (t ∷ ts) (u ∷ us) [] ws h h' = absurd h'
    one_conclusions (more d ds) (t ∷ ts) (u ∷ us) (v ∷ vs) [] h h' = absurd h'

-- a derivation concludes at most one equation
pub one_equation : (S : Schema) (P : Presentation) (d : Derivation) (t u v w : Term) → Concludes S P None d t u → Concludes S P None d v w → (t ≡ v) × (u ≡ w)
one_equation S P = one_conclusion S P None
