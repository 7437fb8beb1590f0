-- Lists of the places at which numbers stand.
use Rattle.std.proofs.Common.{ℕ, true, false, List, [], ◌∷◌, ◌++◌, ◌≡◌, ◌<◌, ◌+◌, ◌==◌, if◌then◌else◌, map, take, length, get_or, slice_set, refl, sym, ap, ◌∙◌, arith, eq-eqb}
use Rattle.std.proofs.lemmas.Bool.{ne_eqb}
use Rattle.std.proofs.lemmas.List.{append-nil, take_more, length-take-le}
use Rattle.std.proofs.lemmas.List.FromFn.{length-map-range_with_len, get_or-map-range_with_len}
use Rattle.std.specs.Prelude.{Result, Ok, Err, IfOk}
use Rattle.cq_theory.specs.Canonical.{below}
use Rattle.cq_theory.specs.Groups.{positions_from, positions}
pub use Rattle.cq_theory.proofs.Grouped.{set-map_below, positions-append}

-- lists for numbers below as many as there are
pub own_length : {X : Type 0} (f : ℕ → X) (n : ℕ) (lists : List X) → lists ≡ map f (below n) → lists ≡ map f (below (length lists))
own_length f n lists are = are ∙ ap (λ k. map f (below k)) (sym (ap length are ∙ length-map-range_with_len f 0 n))

pub if_ok : {T E : Type 0} (r : Result T E) (P Q : T → Type 0) → ((x : T) → P x → Q x) → IfOk r P → IfOk r Q
if_ok (Ok x) P Q f h = f x h
if_ok (Err e) P Q f h = h

module _ (x : ℕ) (xs : List ℕ) (e : ℕ) where
  pub positions_same : (x == e) ≡ true → (s : ℕ) → positions_from s (x ∷ xs) e ≡ s ∷ positions_from (s + 1) xs e
  positions_same h s = ap (λ b. if b then s ∷ positions_from (s + 1) xs e else positions_from (s + 1) xs e) h

  pub positions_other : (x == e) ≡ false → (s : ℕ) → positions_from s (x ∷ xs) e ≡ positions_from (s + 1) xs e
  positions_other h s = ap (λ b. if b then s ∷ positions_from (s + 1) xs e else positions_from (s + 1) xs e) h

-- a number is put at the end of its group
pub grouped_more : (count n member : ℕ) (members : List ℕ) (groups : List (List ℕ)) (group : List ℕ) → groups ≡ map (positions (take n members)) (below count) → n < length members
    → member ≡ get_or members n 0 → member < count → group ≡ get_or groups member [] ++ n ∷ [] → slice_set groups member group ≡ map (positions (take (n + 1) members)) (below count)
grouped_more count n member members groups group are within is member_within group_is =
    let longer : take (n + 1) members ≡ take n members ++ member ∷ [] = take_more members n 0 within ∙ ap (λ m. take n members ++ m ∷ []) (sym is) in
    let size : length (take n members) ≡ n = length-take-le n members (omega arith) in
    let one_more : (e : ℕ) → positions (take (n + 1) members) e ≡ positions (take n members) e ++ (if member == e then n ∷ [] else []) =
    λ e. ap (λ l. positions l e) longer ∙ positions-append (take n members) member e ∙ ap (λ m. positions (take n members) e ++ (if member == e then m ∷ [] else [])) size in
    let before : get_or groups member [] ≡ positions (take n members) member =
    ap (λ l. get_or l member []) are ∙ get_or-map-range_with_len (positions (take n members)) 0 count member member [] member_within (omega arith) in
    ap (λ l. slice_set l member group) are
    ∙ set-map_below (positions (take n members)) (positions (take (n + 1) members)) count member group member_within
    (group_is ∙ ap (λ l. l ++ n ∷ []) before ∙ ap (λ b. positions (take n members) member ++ (if b then n ∷ [] else [])) (sym (eq-eqb member member refl)) ∙ sym (one_more member))
    (λ k other.
    let unlike : (member == k) ≡ false = ne_eqb member k (λ same. other (sym same)) in
    sym (append-nil (positions (take n members) k)) ∙ ap (λ b. positions (take n members) k ++ (if b then n ∷ [] else [])) (sym unlike) ∙ sym (one_more k))
