-- Derivations as trees, and the equations between entity terms as one family: they prove the same.
use Rattle.std.proofs.Common.{◌≡◌, ℕ, ◌+◌, ◌<◌, ◌≤◌, List, [], ◌∷◌, length, get_or, take, Option, Some, None, cond, eqb, refl, sym, ◌∙◌, ap, subst, arith, ⊎_elim}
use Rattle.std.proofs.lemmas.Bool.{cases_eq, eq-eqb, ne_eqb}
use Rattle.std.proofs.lemmas.List.{get_or-take, length-take-le}
use Rattle.std.proofs.lemmas.List.Elements.{All-from_get_or}
use Rattle.std.proofs.lemmas.Option.{none-some, same_Some, slice_get-map, slice_get-get_or}
use Rattle.std.specs.Prelude.{slice_get, option_and_then, option_map}
use Rattle.cq_base.specs.declared.name.Name.{Name}
use Rattle.cq_tables.specs.Content.{step_of, end_of}
use Rattle.cq_theory.specs.declared.presentation.Sort.{Sort}
use Rattle.cq_theory.specs.declared.presentation.Sort.TheVariants.{Plain, Entity}
use Rattle.cq_theory.specs.declared.presentation.Equation.{Equation}
use Rattle.cq_theory.specs.declared.presentation.Equation.TheVariants.{Ent as EntEquation, Typ as TypEquation}
use Rattle.cq_theory.specs.declared.presentation.Presentation.{Presentation}
use Rattle.cq_theory.specs.declared.schema.Edge.{Edge}
use Rattle.cq_theory.specs.SchemaData.{SchemaData}
use Rattle.cq_theory.specs.declared.term.EntTerm.{EntTerm}
use Rattle.cq_theory.specs.declared.term.Term.{Term}
use Rattle.cq_theory.specs.declared.term.Term.TheVariants.{Ent, Typ}
use Rattle.cq_theory.specs.EntTerm.{depth_of}
use Rattle.cq_theory.specs.Sorts.{followed, target_of, entity_at, entity_of, IsGround}
use Rattle.cq_theory.specs.Derivation.{Derivation, reflexivity, symmetry, transitivity, key as key_rule, attribute, function, given as given_rule, path_equation, observation, Concludes, IsWithin, left_of, right_of, Within as TreeWithin}
use Rattle.cq_theory.specs.Closing.{Closes as TreeCloses, MoreClassesThan}
use Rattle.cq_rows.specs.Theory.{Theory, Proves, reflexive, symmetric, transitive, key, given, rule, along, sort_of, Fits, Within, Closes, IsWide}
use Rattle.cq_rows.specs.Plain.{theory_of, ends_of, generator_entity, entity_sides}
use Rattle.cq_rows.proofs.Equations.{sides_ent}
use Rattle.cq_rows.proofs.Sorts.{sorted_at, sort_from, sort-along, end_one, end_split, one_end}

stepped : (o : Option Edge) (e : ℕ) → option_and_then (λ (p : ℕ × ℕ). cond (eqb p.0 e) (Some p.1) None) (option_map ends_of o) ≡ followed o e
stepped None e = refl
stepped (Some edge) e = refl

bind_same : (f g : ℕ → Option ℕ) (o : Option ℕ) → ((x : ℕ) → f x ≡ g x) → option_and_then f o ≡ option_and_then g o
bind_same f g None h = refl
bind_same f g (Some x) h = h x

started : (o : Option (Name × Sort)) → option_and_then (λ e. e) (option_map generator_entity o) ≡ entity_at o
started None = refl
started (Some (name, Plain n)) = refl
started (Some (name, Entity n)) = refl

pub map_some : {X Y : Type 0} (f : X → Y) (o : Option X) (y : Y) → option_map f o ≡ Some y → (x : X) × (o ≡ Some x) × (f x ≡ y)
map_some f None y h = absurd (none-some y h)
map_some f (Some x) y h = (x, refl, same_Some (f x) y h)

-- the key by which a step is taken
pub has_key : (o : Option Edge) (e d : ℕ) → followed o e ≡ Some d → (edge : Edge) × (o ≡ Some edge) × (edge.from ≡ e) × (edge.to ≡ d)
has_key None e d h = absurd (none-some d h)
has_key (Some edge) e d h = ⊎_elim
    (λ q. let there : followed (Some edge) e ≡ Some edge.to = rw (eq-eqb edge.from e q) refl in (edge, refl, q, same_Some edge.to d (sym there ∙ h)))
    (λ n. let none : followed (Some edge) e ≡ None = rw (ne_eqb edge.from e n) refl in absurd (none-some d (sym none ∙ h)))
    (cases_eq edge.from e)

module _ (S : SchemaData) (P : Presentation) where
  abbrev s : Theory
  s = theory_of S P

  pub step_same : (e k : ℕ) → step_of s.keys e k ≡ followed (slice_get S.keys k) e
  unfolding step_of
  step_same e k = ap (option_and_then (λ (p : ℕ × ℕ). cond (eqb p.0 e) (Some p.1) None)) (slice_get-map ends_of S.keys k) ∙ stepped (slice_get S.keys k) e

  pub end_same : (p : List ℕ) (e : ℕ) → end_of s.keys e p ≡ target_of S.keys p e
  end_same [] e = refl
  end_same (k ∷ ks) e = bind_same (λ d. end_of s.keys d ks) (target_of S.keys ks) (step_of s.keys e k) (λ d. end_same ks d) ∙ ap (option_and_then (target_of S.keys ks)) (step_same e k)

  pub start_same : (g : ℕ) → option_and_then (λ e. e) (slice_get s.generators g) ≡ entity_at (slice_get P.generators g)
  start_same g = ap (option_and_then (λ e. e)) (slice_get-map generator_entity P.generators g) ∙ started (slice_get P.generators g)

  pub sort_same : (t : EntTerm) → sort_of s t ≡ entity_of S P.generators t
  unfolding sort_of
  sort_same t =
      bind_same (λ e. end_of s.keys e t.path) (target_of S.keys t.path) (option_and_then (λ e. e) (slice_get s.generators t.generator)) (λ e. end_same t.path e)
      ∙ ap (option_and_then (target_of S.keys t.path)) (start_same t.generator)

  is_ground : (t : EntTerm) (e : ℕ) → sort_of s t ≡ Some e → IsGround S P (Ent t)
  is_ground t e h = (Entity e, ap (option_map Entity) (sym (sort_same t) ∙ h))

  ground_is : (t : EntTerm) → IsGround S P (Ent t) → (e : ℕ) × (sort_of s t ≡ Some e)
  ground_is t g = let m = map_some Entity (entity_of S P.generators t) g.0 g.1 in (m.0, sort_same t ∙ m.1)

  is_within : (bound : Option ℕ) (t : EntTerm) → Fits bound t → IsWithin bound (Ent t)
  is_within None t h = tt
  is_within (Some k) t h = h

  fits : (bound : Option ℕ) (t : EntTerm) → IsWithin bound (Ent t) → Fits bound t
  fits None t h = tt
  fits (Some k) t h = h

  pub given_is : (i : ℕ) (t u : EntTerm) → slice_get s.given i ≡ Some (Some (t, u)) → slice_get P.equations i ≡ Some (EntEquation t u)
  given_is i t u h =
      let m = map_some entity_sides (slice_get P.equations i) (Some (t, u)) (sym (slice_get-map entity_sides P.equations i) ∙ h) in
      m.1 ∙ ap (λ x. Some x) (sides_ent m.0 t u m.2)

  pub is_given : (i : ℕ) (t u : EntTerm) → slice_get P.equations i ≡ Some (EntEquation t u) → slice_get s.given i ≡ Some (Some (t, u))
  is_given i t u h = slice_get-map entity_sides P.equations i ∙ ap (option_map entity_sides) h

  -- each equation of the family has a tree
  pub tree : (bound : Option ℕ) {t u : EntTerm} → Proves s bound t u → (d : Derivation) × Concludes S P bound d (Ent t) (Ent u)
  tree bound {t} {u} (reflexive e q b) = (reflexivity (Ent t), (is_ground t e q, is_within bound t b, refl, refl))
  tree bound (symmetric h) = let d = tree bound h in (symmetry d.0, d.1)
  tree bound (transitive {t} {u} {v} h g) = let d = tree bound h in let e = tree bound g in (transitivity d.0 e.0, (Ent u, d.1, e.1))
  tree bound (key {t} {u} k e f h q st bt bu) =
      let d = tree bound h in
      (key_rule k d.0, (t, u, d.1, refl, refl, stepped_ground t k e f q st, is_within bound (along t (k ∷ [])) bt, is_within bound (along u (k ∷ [])) bu))
    where
      stepped_ground : (t : EntTerm) (k e f : ℕ) → sort_of s t ≡ Some e → step_of s.keys e k ≡ Some f → IsGround S P (Ent (along t (k ∷ [])))
      stepped_ground t k e f q st = is_ground (along t (k ∷ [])) f (sort-along s t e f (k ∷ []) q (end_one s.keys e k f st))
  tree bound {t} {u} (given i f bt bu) = (given_rule i, (EntEquation t u, given_is i t u f, refl, refl, is_within bound t bt, is_within bound u bu))
  tree bound (rule i r t f q bt bl br) =
      (path_equation i t, (r, f, sym (sort_same t) ∙ q, is_within bound t bt, refl, refl, is_within bound (along t r.left) bl, is_within bound (along t r.right) br))

  -- and what a tree concludes of entity terms is an equation of the family
  module _ (bound : Option ℕ) where
    abbrev Both : Term → Term → Type 0
    Both (Ent t) (Ent u) = Proves s bound t u
    Both (Ent t) (Typ u) = ⊥
    Both (Typ t) (Ent u) = ⊥
    Both (Typ t) (Typ u) = Unit {0}

    both_as : (x y a b : Term) → x ≡ a → y ≡ b → Both a b → Both x y
    both_as x y a b p q h = rw (p, q) h

    both_self : (x : Term) → IsGround S P x → IsWithin bound x → Both x x
    both_self (Ent t) g w = let e = ground_is t g in reflexive e.0 e.1 (fits bound t w)
    both_self (Typ t) g w = tt

    both_back : (x y : Term) → Both x y → Both y x
    both_back (Ent t) (Ent u) h = symmetric h
    both_back (Ent t) (Typ u) h = absurd h
    both_back (Typ t) (Ent u) h = absurd h
    both_back (Typ t) (Typ u) h = tt

    both_via : (x y z : Term) → Both x y → Both y z → Both x z
    both_via (Ent t) (Ent u) (Ent v) h g = transitive h g
    both_via (Ent t) (Ent u) (Typ v) h g = absurd g
    both_via (Ent t) (Typ u) z h g = absurd h
    both_via (Typ t) (Ent u) z h g = absurd h
    both_via (Typ t) (Typ u) (Ent v) h g = absurd g
    both_via (Typ t) (Typ u) (Typ v) h g = tt

    within_as : (x : Term) (t : EntTerm) → x ≡ Ent t → IsWithin bound x → Fits bound t
    within_as x t e h = fits bound t (subst (λ (y : Term). IsWithin bound y) e h)

    both_key : (n : ℕ) (a b : EntTerm) → Proves s bound a b → IsGround S P (Ent (along a (n ∷ []))) → Fits bound (along a (n ∷ [])) → Fits bound (along b (n ∷ [])) → Proves s bound (along a (n ∷ [])) (along b (n ∷ []))
    both_key n a b h g fa fb =
        let e = ground_is (along a (n ∷ [])) g in
        let at = sorted_at s (along a (n ∷ [])) e.0 e.1 in
        let parts = end_split s.keys at.start e.0 a.path (n ∷ []) at.end in
        key n parts.0 e.0 h (sort_from s a at.start parts.0 at.found parts.1) (one_end s.keys parts.0 n e.0 parts.2) fa fb

    both_given : (n : ℕ) (e : Equation) → slice_get P.equations n ≡ Some e → IsWithin bound (left_of e) → IsWithin bound (right_of e) → Both (left_of e) (right_of e)
    both_given n (EntEquation a b) f wl wr = given n (is_given n a b f) (fits bound a wl) (fits bound b wr)
    both_given n (TypEquation a b) f wl wr = tt

    proved : (d : Derivation) (x y : Term) → Concludes S P bound d x y → Both x y
    proved (reflexivity z) x y h = both_as x y z z h.2 h.3 (both_self z h.0 h.1)
    proved (symmetry d) x y h = both_back y x (proved d y x h)
    proved (transitivity d e) x y h = both_via x h.0 y (proved d x h.0 h.1) (proved e h.0 y h.2)
    proved (key_rule n d) x y h =
        both_as x y (Ent (along h.0 (n ∷ []))) (Ent (along h.1 (n ∷ []))) h.3 h.4
        (both_key n h.0 h.1 (proved d (Ent h.0) (Ent h.1) h.2) (subst (λ (z : Term). IsGround S P z) h.3 h.5) (within_as x (along h.0 (n ∷ [])) h.3 h.6) (within_as y (along h.1 (n ∷ [])) h.4 h.7))
    proved (attribute n d) x y h = both_as x y _ _ h.3 h.4 tt
    proved (function f ds) x y h = both_as x y _ _ h.3 h.4 tt
    proved (given_rule n) x y h =
        both_as x y (left_of h.0) (right_of h.0) h.2 h.3
        (both_given n h.0 h.1 (subst (λ (z : Term). IsWithin bound z) h.2 h.4) (subst (λ (z : Term). IsWithin bound z) h.3 h.5))
    proved (path_equation n at) x y h =
        both_as x y (Ent (along at h.0.left)) (Ent (along at h.0.right)) h.4 h.5
        (rule n h.0 at h.1 (sort_same at ∙ h.2) (fits bound at h.3) (within_as x (along at h.0.left) h.4 h.6) (within_as y (along at h.0.right) h.5 h.7))
    proved (observation n at) x y h = both_as x y _ _ h.4 h.5 tt

  pub from_within : (k : ℕ) (t u : EntTerm) → TreeWithin S P k (Ent t) (Ent u) → Within s k t u
  from_within k t u d = proved (Some k) d.0 (Ent t) (Ent u) d.1

  -- the depths that close are the same
  pub closes_plain : (k : ℕ) → TreeCloses S P k → Closes s k
  closes_plain k c t e f d q b st =
      let edge = has_key (slice_get S.keys f) e d (sym (step_same e f) ∙ st) in
      let u = c t e (sym (sort_same t) ∙ q) (f, edge.0, edge.1, edge.2) b in
      (u.0, u.1, from_within k t u.0 u.2)

  wide_at : (k n i : ℕ) (t : EntTerm) (w : IsWide s k n) → slice_get w.terms i ≡ Some t → IsGround S P (Ent t) × (depth_of t ≤ k)
  wide_at k n i t w f = let o = w.sorts i t f in (is_ground t o.0 o.1, o.2)

  -- many terms of which no two are equal
  pub wide_tree : (k n : ℕ) → IsWide s k n → MoreClassesThan S P n k
  wide_tree k n w = (
    take (n + 1) w.terms,
    len,
    All-from_get_or (λ (t : EntTerm). IsGround S P (Ent t) × (depth_of t ≤ k)) (take (n + 1) w.terms) any (λ i l. let b : i < n + 1 = omega (arith, len) in rw (get_or-take (n + 1) w.terms i any b) (wide_at k n i (get_or w.terms i any) w (slice_get-get_or w.terms i any (omega (arith, w.many))))),
    λ i j d l b h.
        let bj : j < n + 1 = omega (arith, len) in
        let bi : i < n + 1 = omega (arith, len) in
        w.apart i j (get_or w.terms i d) (get_or w.terms j d) (slice_get-get_or w.terms i d (omega (arith, w.many))) (slice_get-get_or w.terms j d (omega (arith, w.many))) (λ q. omega (arith, q))
        (from_within k (get_or w.terms i d) (get_or w.terms j d) (rw (get_or-take (n + 1) w.terms i d bi, get_or-take (n + 1) w.terms j d bj) at h)),
  )
    where
      any : EntTerm
      any = record { generator = 0; path = [] }

      len : length (take (n + 1) w.terms) ≡ n + 1
      len = length-take-le (n + 1) w.terms (omega (arith, w.many))
