-- Filtered lists: one behind another, one after another, and of lists that are sent elsewhere.
use Rattle.std.proofs.Common.{ℕ, List, [], ◌∷◌, ◌++◌, ◌≡◌, ◌↔◌, ◌⊎◌, inl, inr, map, length, refl, sym, ap, subst}
use Rattle.std.specs.List.{flat_map}
use Rattle.cq_theory.proofs.Every.{Every, Every-from, Every-map}
use Rattle.cq_query.specs.Answers.{AreFiltered, none, kept, left_out}

module _ {X : Type 0} (P : X → Type 0) where
  pub filtered_append : (zs ws : List X) → AreFiltered P zs ws → {xs ys : List X} → AreFiltered P xs ys → AreFiltered P (xs ++ zs) (ys ++ ws)
  filtered_append zs ws more none = more
  filtered_append zs ws more (kept p rest) = kept p (filtered_append zs ws more rest)
  filtered_append zs ws more (left_out p rest) = left_out p (filtered_append zs ws more rest)

  pub all_left_out : (xs : List X) → Every (λ x. P x → ⊥) xs → AreFiltered P xs []
  all_left_out [] h = none
  all_left_out (x ∷ xs) h = left_out h.0 (all_left_out xs h.1)

  -- the ways in which a list with a first member can be filtered
  abbrev Kept : X → List X → List X → Type 0
  Kept x xs zs = (ys : List X) × P x × AreFiltered P xs ys × (zs ≡ x ∷ ys)

  abbrev LeftOut : X → List X → List X → Type 0
  LeftOut x xs zs = (P x → ⊥) × AreFiltered P xs zs

  either_way : (x : X) (xs l zs : List X) → l ≡ x ∷ xs → AreFiltered P l zs → Kept x xs zs ⊎ LeftOut x xs zs
  either_way x xs l zs is none = cc
  either_way x xs l zs is (kept {x = y} {xs = ys} {ys = ws} p rest) =
      let head : y ≡ x = cc in
      let tail : ys ≡ xs = cc in
      inl (ws, subst P head p, subst (λ l. AreFiltered P l ws) tail rest, ap (λ z. z ∷ ws) head)
  either_way x xs l zs is (left_out {x = y} {xs = ys} {ys = ws} p rest) =
      let head : y ≡ x = cc in
      let tail : ys ≡ xs = cc in
      inr ((λ q. p (subst P (sym head) q)), subst (λ l. AreFiltered P l ws) tail rest)

  no_way : (l zs : List X) → l ≡ [] → AreFiltered P l zs → zs ≡ []
  no_way l zs is none = refl
  no_way l zs is (kept p rest) = cc
  no_way l zs is (left_out p rest) = cc

-- a list that is filtered, and what is left once more
module _ {X : Type 0} (P R : X → Type 0) where
  pub filtered_both : {xs ys : List X} → AreFiltered P xs ys → (zs : List X) → AreFiltered R ys zs → AreFiltered (λ x. P x × R x) xs zs
  filtered_both none zs h = subst (λ (l : List X). AreFiltered (λ x. P x × R x) [] l) (sym (no_way R [] zs refl h)) none
  filtered_both (kept {x = x} {xs = xs} {ys = ys} p rest) zs h = elim (either_way R x ys (x ∷ ys) zs refl h) [
    | inl way ↦ subst (λ (l : List X). AreFiltered (λ x. P x × R x) (x ∷ xs) l) (sym way.3) (kept (p, way.1) (filtered_both rest way.0 way.2))
    | inr way ↦ left_out (λ both. way.0 both.1) (filtered_both rest zs way.1)
  ]
  filtered_both (left_out p rest) zs h = left_out (λ both. p both.0) (filtered_both rest zs h)

-- a filtered list whose members are sent elsewhere
module _ {X Y : Type 0} (P : X → Type 0) (R : Y → Type 0) (f : X → Y) where
  pub filtered_mapped : {xs ys : List X} → AreFiltered P xs ys → Every (λ x. P x ↔ R (f x)) xs → AreFiltered R (map f xs) (map f ys)
  filtered_mapped none each = none
  filtered_mapped (kept p rest) each = kept (each.0.0 p) (filtered_mapped rest each.1)
  filtered_mapped (left_out p rest) each = left_out (λ r. p (each.0.1 r)) (filtered_mapped rest each.1)

module _ {X : Type 0} (P R : X → Type 0) where
  pub filtered_alike : {xs ys : List X} → AreFiltered P xs ys → Every (λ x. P x ↔ R x) xs → AreFiltered R xs ys
  filtered_alike none each = none
  filtered_alike (kept p rest) each = kept (each.0.0 p) (filtered_alike rest each.1)
  filtered_alike (left_out p rest) each = left_out (λ r. p (each.0.1 r)) (filtered_alike rest each.1)

-- the lists of a list, each behind a
abbrev pub behind : List (List ℕ) → List ℕ → List (List ℕ)
behind zs a = map (λ b. a ++ b) zs

-- Of two filtered lists of lists, each member of the second behind each of the first: what holds of a list that is put together is what
-- holds of its parts.
module _ (P R V : List ℕ → Type 0) (size : ℕ) (good : (a b : List ℕ) → length a ≡ size → (P a × R b) ↔ V (a ++ b))
    (bs cs : List (List ℕ)) (second : AreFiltered R bs cs) where
  pub filtered_pairs : {xs ys : List (List ℕ)} → AreFiltered P xs ys → Every (λ a. length a ≡ size) xs → AreFiltered V (flat_map (behind bs) xs) (flat_map (behind cs) ys)
  filtered_pairs none each = none
  filtered_pairs (kept {x = a} {xs = xs} {ys = ys} p rest) each =
      filtered_append V (flat_map (behind bs) xs) (flat_map (behind cs) ys) (filtered_pairs rest each.1)
      (filtered_mapped R V (λ b. a ++ b) second (Every-from (λ b. R b ↔ V (a ++ b)) bs (λ n b at. (λ r. (good a b each.0).0 (p, r), λ v. ((good a b each.0).1 v).1))))
  filtered_pairs (left_out {x = a} {xs = xs} {ys = ys} p rest) each =
      filtered_append V (flat_map (behind bs) xs) (flat_map (behind cs) ys) (filtered_pairs rest each.1)
      (all_left_out V (behind bs a) (Every-map (λ x. V x → ⊥) (λ b. a ++ b) bs (λ n b at v. p ((good a b each.0).1 v).0)))
