-- What is given for each member of groups, put at the end of its group, and what an iterator over it gives next.
use Rattle.std.proofs.Common.{ℕ, Bool, true, false, List, [], ◌∷◌, ◌++◌, ◌≡◌, ◌<◌, ◌+◌, ◌==◌, if◌then◌else◌, map, take, length, get_or, slice_set, refl, sym, ap, ◌∙◌, arith, eq-eqb, length-append, append_assoc}
use Rattle.std.proofs.Math.Seq.{get_or-append_seam}
use Rattle.std.proofs.lemmas.Bool.{ne_eqb}
use Rattle.std.proofs.lemmas.List.{append-nil, take_more, length-take-le}
use Rattle.std.proofs.lemmas.List.FromFn.{get_or-map-range_with_len}
use Rattle.cq_theory.specs.Canonical.{below}
use Rattle.cq_theory.specs.Groups.{positions}
use Rattle.cq_instance.proofs.Lists.{map-append}
use Rattle.cq_instance.proofs.Positions.{set-map_below, positions-append}

mapped_if : {X : Type 0} (f : ℕ → X) (b : Bool) (n : ℕ) → map f (if b then n ∷ [] else []) ≡ (if b then f n ∷ [] else [])
mapped_if f true n = refl
mapped_if f false n = refl

-- what f gives at a number is put at the end of the number's group
pub mapped_more : {X : Type 0} (f : ℕ → X) (count n member : ℕ) (members : List ℕ) (groups : List (List X)) (group : List X) → groups ≡ map (λ e. map f (positions (take n members) e)) (below count)
    → n < length members → member ≡ get_or members n 0 → member < count → group ≡ get_or groups member [] ++ f n ∷ [] → slice_set groups member group ≡ map (λ e. map f (positions (take (n + 1) members) e)) (below count)
mapped_more f count n member members groups group are within is member_within group_is =
    let longer : take (n + 1) members ≡ take n members ++ member ∷ [] = take_more members n 0 within ∙ ap (λ m. take n members ++ m ∷ []) (sym is) in
    let size : length (take n members) ≡ n = length-take-le n members (omega arith) in
    let one_more : (e : ℕ) → map f (positions (take (n + 1) members) e) ≡ map f (positions (take n members) e) ++ (if member == e then f n ∷ [] else []) =
    λ e. ap (λ l. map f (positions l e)) longer ∙ ap (map f) (positions-append (take n members) member e) ∙ map-append f (positions (take n members) e) (if member == e then length (take n members) ∷ [] else [])
    ∙ ap (λ m. map f (positions (take n members) e) ++ map f (if member == e then m ∷ [] else [])) size ∙ ap (λ l. map f (positions (take n members) e) ++ l) (mapped_if f (member == e) n) in
    let before : get_or groups member [] ≡ map f (positions (take n members) member) =
    ap (λ l. get_or l member []) are ∙ get_or-map-range_with_len (λ e. map f (positions (take n members) e)) 0 count member member [] member_within (omega arith) in
    ap (λ l. slice_set l member group) are
    ∙ set-map_below (λ e. map f (positions (take n members) e)) (λ e. map f (positions (take (n + 1) members) e)) count member group member_within
    (group_is ∙ ap (λ l. l ++ f n ∷ []) before ∙ ap (λ b. map f (positions (take n members) member) ++ (if b then f n ∷ [] else [])) (sym (eq-eqb member member refl)) ∙ sym (one_more member))
    (λ k other.
    let unlike : (member == k) ≡ false = ne_eqb member k (λ same. other (sym same)) in
    sym (append-nil (map f (positions (take n members) k))) ∙ ap (λ b. map f (positions (take n members) k) ++ (if b then f n ∷ [] else [])) (sym unlike) ∙ sym (one_more k))

-- what an iterator over a list gives next
module _ {X : Type 0} (before rest after all : List X) (x : X) (n : ℕ) (parts : before ++ rest ≡ all) (next : rest ≡ x ∷ after) (place : n ≡ length before) where
  whole : before ++ x ∷ after ≡ all
  whole = ap (λ (l : List X). before ++ l) (sym next) ∙ parts

  pub next_inside : n < length all
  next_inside = omega (arith, place, ap length whole, length-append before (x ∷ after))

  pub next_is : (d : X) → get_or all n d ≡ x
  next_is d = (λ i. get_or (sym whole i) (place i) d) ∙ get_or-append_seam before x after d

  pub next_parts : (before ++ x ∷ []) ++ after ≡ all
  next_parts = append_assoc before (x ∷ []) after ∙ whole
