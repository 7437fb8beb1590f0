-- Equal terms have the same free keys in the same order, so that terms of free keys alone are equal only where they are
-- one term.
use Rattle.std.proofs.Common.{◌≡◌, ℕ, suc, ◌<◌, ◌≤◌, Bool, true, List, [], ◌∷◌, ◌++◌, length, Option, Some, map, filter, refl, sym, ◌∙◌, ap, arith}
use Rattle.std.proofs.lemmas.List.{length-map}
use Rattle.std.proofs.lemmas.List.Elements.{filter-append}
use Rattle.std.proofs.lemmas.Option.{slice_get-map}
use Rattle.std.specs.Prelude.{slice_get}
use Rattle.cq_tables.specs.Content.{end_of}
use Rattle.cq_rows.specs.Theory.{Term, Theory, Proves, reflexive, symmetric, transitive, key, given, rule, along, sort_of, IsWide}
use Rattle.cq_rows.specs.Unread.{is_free, HasNone, AreUnread, HasFreePaths}
use Rattle.cq_rows.proofs.Bridge.{map_some}
use Rattle.cq_rows.proofs.Sorts.{sort_from}
use Rattle.cq_rows.proofs.Stages.{some_of}

-- the free keys of a path
abbrev kept : List Bool → List ℕ → List ℕ
kept free p = filter (is_free free) p

none_kept : (free : List Bool) (p : List ℕ) → HasNone free p → kept free p ≡ []
none_kept free [] h = refl
none_kept free (k ∷ ks) h = rw (h 0 k refl) (none_kept free ks (λ i x e. h (suc i) x e))

all_kept : (free : List Bool) (p : List ℕ) → ((i k : ℕ) → slice_get p i ≡ Some k → is_free free k ≡ true) → kept free p ≡ p
all_kept free [] h = refl
all_kept free (k ∷ ks) h = rw (h 0 k refl) (ap (λ (q : List ℕ). k ∷ q) (all_kept free ks (λ i x e. h (suc i) x e)))

kept_along : (free : List Bool) (t : Term) (p : List ℕ) → kept free (along t p).path ≡ kept free t.path ++ kept free p
kept_along free t p = filter-append (is_free free) t.path p

pub same_free : (s : Theory) (free : List Bool) (bound : Option ℕ) → AreUnread s free → {t u : Term} → Proves s bound t u → kept free t.path ≡ kept free u.path
same_free s free bound h (reflexive e q b) = refl
same_free s free bound h (symmetric d) = sym (same_free s free bound h d)
same_free s free bound h (transitive d e) = same_free s free bound h d ∙ same_free s free bound h e
same_free s free bound h (key {t} {u} k e d i q st bt bu) =
    kept_along free t (k ∷ []) ∙ ap (λ (w : List ℕ). w ++ kept free (k ∷ [])) (same_free s free bound h i) ∙ sym (kept_along free u (k ∷ []))
same_free s free bound h (given {t} {u} i f bt bu) = let o = h.given i t u f in none_kept free t.path o.0 ∙ sym (none_kept free u.path o.1)
same_free s free bound h (rule i r t f q bt bl br) =
    let o = h.rules i r f in
    let same : kept free r.left ≡ kept free r.right = none_kept free r.left o.0 ∙ sym (none_kept free r.right o.1) in
    kept_along free t r.left ∙ ap (λ (w : List ℕ). kept free t.path ++ w) same ∙ sym (kept_along free t r.right)

-- many paths of free keys from the entity of a generator are many terms of which no two are equal
module _ (s : Theory) (free : List Bool) (unread : AreUnread s free) (g e k count : ℕ) (found : slice_get s.generators g ≡ Some (Some e)) (h : HasFreePaths s.keys free e k count) where
  abbrev term_of : List ℕ → Term
  term_of p = record { generator = g; path = p }

  path_at : (i : ℕ) (t : Term) → slice_get (map term_of h.paths) i ≡ Some t → (p : List ℕ) × (slice_get h.paths i ≡ Some p) × (term_of p ≡ t)
  path_at i t at = map_some term_of (slice_get h.paths i) t (sym (slice_get-map term_of h.paths i) ∙ at)

  kept_at : (i : ℕ) (p : List ℕ) (t : Term) → slice_get h.paths i ≡ Some p → term_of p ≡ t → kept free t.path ≡ p
  kept_at i p t at is = ap (λ (u : Term). kept free u.path) (sym is) ∙ all_kept free p (h.each i p at).all_free

  has_sort : (i : ℕ) (p : List ℕ) (t : Term) → slice_get h.paths i ≡ Some p → term_of p ≡ t → (d : ℕ) × (sort_of s t ≡ Some d) × (length t.path ≤ k)
  has_sort i p t at is =
      let path = h.each i p at in
      let end = some_of (end_of s.keys e p) path.end in
      (end.0, ap (sort_of s) (sym is) ∙ sort_from s (term_of p) e end.0 found end.1, omega (arith, path.few, ap (λ (u : Term). length u.path) is))

  pub wide_from_paths : (n : ℕ) → n < count → IsWide s k n
  wide_from_paths n many = record {
    terms = map term_of h.paths;
    many = omega (arith, many, h.many, length-map h.paths term_of);
    sorts = λ i t at. let o = path_at i t at in has_sort i o.0 t o.1 o.2;
    apart = λ i j t u ti uj ne d.
        let o = path_at i t ti in
        let p = path_at j u uj in
        let one : o.0 ≡ p.0 = sym (kept_at i o.0 t o.1 o.2) ∙ same_free s free (Some k) unread d ∙ kept_at j p.0 u p.1 p.2 in
        ne (h.apart i j p.0 (o.1 ∙ ap (λ (x : List ℕ). Some x) one) p.1);
  }
