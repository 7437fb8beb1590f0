-- What members of a list give to the lists of their owners.
use Rattle.std.proofs.Common.{ℕ, true, false, List, [], ◌∷◌, ◌++◌, ◌≡◌, ◌<◌, ◌+◌, ◌==◌, if◌then◌else◌, map, take, length, get_or, slice_set, refl, sym, ap, ◌∙◌, arith, eq-eqb}
use Rattle.std.specs.List.{flat_map}
use Rattle.std.proofs.lemmas.Bool.{ne_eqb}
use Rattle.std.proofs.lemmas.List.{append-nil, take_more}
use Rattle.std.proofs.lemmas.Grind.{flat_map-append}
use Rattle.std.proofs.lemmas.List.FromFn.{get_or-map-range_with_len}
use Rattle.cq_theory.specs.Canonical.{below}
use Rattle.cq_theory.proofs.Grouped.{set-map_below}

module _ {X Y : Type 0} (owner : X → ℕ) (f : X → List Y) where
  abbrev gives : ℕ → X → List Y
  gives e x = if owner x == e then f x else []

  abbrev gathered : ℕ → List X → List (List Y)
  gathered count xs = map (λ e. flat_map (gives e) xs) (below count)

  module _ (count i : ℕ) (xs : List X) (x : X) (lists : List (List Y)) (is : x ≡ get_or xs i x) (within : i < length xs) (inside : owner x < count) (are : lists ≡ gathered count (take i xs)) where
    gives_more : (e : ℕ) → flat_map (gives e) (take (i + 1) xs) ≡ flat_map (gives e) (take i xs) ++ gives e x
    gives_more e =
        ap (flat_map (gives e)) (take_more xs i x within ∙ ap (λ p. take i xs ++ p ∷ []) (sym is)) ∙ flat_map-append (gives e) (take i xs) (x ∷ [])
        ∙ ap (λ l. flat_map (gives e) (take i xs) ++ l) (append-nil (gives e x))

    -- a member's part is put at the end of its owner's list
    pub gathered_more : (list : List Y) → list ≡ get_or lists (owner x) [] ++ f x → slice_set lists (owner x) list ≡ gathered count (take (i + 1) xs)
    gathered_more list list_is =
        let before : get_or lists (owner x) [] ≡ flat_map (gives (owner x)) (take i xs)
        = ap (λ l. get_or l (owner x) []) are ∙ get_or-map-range_with_len (λ e. flat_map (gives e) (take i xs)) 0 count (owner x) (owner x) [] inside (omega arith) in
        ap (λ l. slice_set l (owner x) list) are
        ∙ set-map_below (λ e. flat_map (gives e) (take i xs)) (λ e. flat_map (gives e) (take (i + 1) xs)) count (owner x) list inside
        (list_is ∙ ap (λ l. l ++ f x) before ∙ ap (λ b. flat_map (gives (owner x)) (take i xs) ++ (if b then f x else [])) (sym (eq-eqb (owner x) (owner x) refl)) ∙ sym (gives_more (owner x)))
        (λ k other.
        let unlike : (owner x == k) ≡ false = ne_eqb (owner x) k (λ same. other (sym same)) in
        sym (append-nil (flat_map (gives k) (take i xs))) ∙ ap (λ b. flat_map (gives k) (take i xs) ++ (if b then f x else [])) (sym unlike) ∙ sym (gives_more k))
