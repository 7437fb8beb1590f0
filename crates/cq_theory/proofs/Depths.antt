-- A derivation keeps within some depth.
use Rattle.std.proofs.Common.{ℕ, List, [], ◌∷◌, Some, None, ◌≤◌, ◌+◌, arith}
use Rattle.cq_theory.specs.declared.presentation.Presentation.{Presentation}
use Rattle.cq_theory.specs.SchemaData.{SchemaData as Schema}
use Rattle.cq_theory.specs.declared.term.TypeTerm.{TypeTerm}
use Rattle.cq_theory.specs.declared.term.Term.{Term}
use Rattle.cq_theory.specs.declared.term.Term.TheVariants.{Ent, Typ}
use Rattle.cq_theory.specs.Term.{term_depth}
use Rattle.cq_theory.specs.Derivation.{Derivation, Derivations, reflexivity, symmetry, transitivity, key, attribute, function, given, path_equation, observation, none, more, Concludes, Conclude, Derives, Within}
use Rattle.cq_theory.proofs.Derivations.{Concludes-wider, Conclude-wider}

module _ (S : Schema) (P : Presentation) where
  wider : (j k : ℕ) (d : Derivation) (t u : Term) → j ≤ k → Concludes S P (Some j) d t u → Concludes S P (Some k) d t u
  wider j k d t u le = Concludes-wider S P (Some j) (Some k) (λ s within. omega arith) d t u

  all_wider : (j k : ℕ) (ds : Derivations) (ts us : List TypeTerm) → j ≤ k → Conclude S P (Some j) ds ts us → Conclude S P (Some k) ds ts us
  all_wider j k ds ts us le = Conclude-wider S P (Some j) (Some k) (λ s within. omega arith) ds ts us

  mutual
    some_depth : (d : Derivation) (t u : Term) → Concludes S P None d t u → (k : ℕ) × Concludes S P (Some k) d t u
    some_depth (reflexivity s) t u h = (term_depth s, (h.0, omega arith, h.2, h.3))
    some_depth (symmetry d) t u h = some_depth d u t h
    some_depth (transitivity d e) t u h =
        let first = some_depth d t h.0 h.1 in
        let second = some_depth e h.0 u h.2 in
        (first.0 + second.0, (h.0, wider first.0 (first.0 + second.0) d t h.0 (omega arith) first.1, wider second.0 (first.0 + second.0) e h.0 u (omega arith) second.1))
    some_depth (key k d) t u h =
        let premise = some_depth d (Ent h.0) (Ent h.1) h.2 in
        let depth : ℕ = premise.0 + (term_depth t + term_depth u) in
        (depth, (h.0, h.1, wider premise.0 depth d (Ent h.0) (Ent h.1) (omega arith) premise.1, h.3, h.4, h.5, omega arith, omega arith))
    some_depth (attribute n d) t u h =
        let premise = some_depth d (Ent h.0) (Ent h.1) h.2 in
        (premise.0, (h.0, h.1, premise.1, h.3, h.4, h.5))
    some_depth (function f ds) t u h =
        let premises = all_some_depth ds h.0 h.1 h.2 in
        (premises.0, (h.0, h.1, premises.1, h.3, h.4, h.5))
    some_depth (given n) t u h = (term_depth t + term_depth u, (h.0, h.1, h.2, h.3, omega arith, omega arith))
    some_depth (path_equation n at) t u h =
        (term_depth (Ent at) + (term_depth t + term_depth u), (h.0, h.1, h.2, omega arith, h.4, h.5, omega arith, omega arith))
    some_depth (observation n at) t u h =
        (term_depth (Ent at) + (term_depth t + term_depth u), (h.0, h.1, h.2, omega arith, h.4, h.5, omega arith, omega arith))

    all_some_depth : (ds : Derivations) (ts us : List TypeTerm) → Conclude S P None ds ts us → (k : ℕ) × Conclude S P (Some k) ds ts us
    all_some_depth none [] [] h = (0, tt)
    all_some_depth (more d ds) (t ∷ ts) (u ∷ us) h =
        let first = some_depth d (Typ t) (Typ u) h.0 in
        let rest = all_some_depth ds ts us h.1 in
        (first.0 + rest.0, (wider first.0 (first.0 + rest.0) d (Typ t) (Typ u) (omega arith) first.1, all_wider rest.0 (first.0 + rest.0) ds ts us (omega arith) rest.1))
    all_some_depth none [] (u ∷ us) h = absurd h
    all_some_depth none (t ∷ ts) us h = absurd h
    all_some_depth (more d ds) [] us h = absurd h
    all_some_depth (more d ds) (t ∷ ts) [] h = absurd h

  -- what is derivable is derived within some depth
  pub Within-from_Derives : (t u : Term) → Derives S P t u → (k : ℕ) × Within S P k t u
  Within-from_Derives t u d = let found = some_depth d.0 t u d.1 in (found.0, (d.0, found.1))
