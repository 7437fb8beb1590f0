-- The lists of places, as vectors.
use Rattle.std.proofs.Common.{◌≡◌, ◌≢◌, ℕ, ◌+◌, ◌-◌, ◌<◌, List, [], ◌∷◌, ◌++◌, length, get_or, Option, Some, None, IfSome, replicate, sym, ◌∙◌, ap, arith, map, vec_len}
use Rattle.std.proofs.Math.ListN.{set}
use Rattle.std.proofs.Math.Seq.{map-set_same}
use Rattle.std.proofs.lemmas.List.{map-set, get_or-map, length-map, get_or-set_same, get_or-set_other, map-append}
use Rattle.std.specs.Prelude.{Vec}
use Rattle.std.specs.declared.alloc.Global.{Global}
use Rattle.cq_tables.specs.Inverse.{IsInverse}
use Rattle.cq_tables.proofs.Inverses.{IsInverse-point, IsInverse-unpoint, IsInverse-add, list_below, some_below}

abbrev pub Places : Type 0
Places = Vec ℕ Global

abbrev pub lists : List Places → List (List ℕ)
lists ms = map (λ v. v.items) ms

pub mapped_at : {B : Type 0} (f : Places → B) (ms : List Places) (r : ℕ) (v : Places) (e : B) → r < length ms → v ≡ get_or ms r v → get_or (map f ms) r e ≡ f v
mapped_at f ms r v e h q = get_or-map f ms r v e h ∙ ap f (sym q)

pub in_lists : (ms : List Places) (r p : ℕ) → p < length (get_or (lists ms) r []) → r < length ms
in_lists ms r p h = rw length-map at (list_below (lists ms) r p h)

pub point_kept : (cells : List (Option ℕ)) (spots : List ℕ) (ms : List Places) (v w : Places) (i s n : ℕ) → IsInverse cells spots (lists ms) → s < length ms → v ≡ get_or ms s v
    → i < length cells → get_or cells i None ≡ None → n ≡ vec_len v → w.items ≡ v.items ++ i ∷ [] → IsInverse (set cells i (Some s)) (set spots i n) (lists (set ms s w))
point_kept cells spots ms v w i s n inv b q l e nl is =
    let at = mapped_at (λ (x : Places). x.items) ms s v [] b q in
    let len : n ≡ length (get_or (lists ms) s []) = rw at (omega (arith, v.ok.0, nl)) in
    rw (len, map-set (λ (x : Places). x.items) ms s w, is, ← at) (IsInverse-point cells spots (lists ms) inv i s l e (rw length-map b))

pub unpoint_kept : (cells : List (Option ℕ)) (spots : List ℕ) (ms : List Places) (v w : Places) (i s p last : ℕ) → IsInverse cells spots (lists ms) → s < length ms → v ≡ get_or ms s v
    → get_or cells i None ≡ Some s → p ≡ get_or spots i 0 → last ≡ get_or v.items (length v.items - 1) 0 → length w.items + 1 ≡ length v.items
    → (p + 1 < length v.items → get_or w.items p 0 ≡ get_or v.items (length v.items - 1) 0)
    → ((k : ℕ) → k ≢ p → k + 1 < length v.items → get_or w.items k 0 ≡ get_or v.items k 0)
    → IsInverse (set cells i None) (set spots last p) (lists (set ms s w))
unpoint_kept cells spots ms v w i s p last inv b q h pe le len moved others =
    let at = mapped_at (λ (x : Places). x.items) ms s v [] b q in
    rw (map-set (λ (x : Places). x.items) ms s w, le, pe, ← at)
    (IsInverse-unpoint cells spots (lists ms) inv i s h w.items (rw at len) (rw (at, ← pe) moved) (rw (at, ← pe) others))

-- an element is replaced by one that f cannot tell from it
pub same_mapped : {B : Type 0} (f : Places → B) (ms : List Places) (r : ℕ) (v w : Places) → v ≡ get_or ms r v → f w ≡ f v → map f (set ms r w) ≡ map f ms
same_mapped f ms r v w q e = map-set_same f ms r w v (e ∙ ap f q)

-- one function of each element, after a write
pub mapped_set : (f : Places → ℕ) (ms : List Places) (r : ℕ) (w : Places) → r < length ms → get_or (map f (set ms r w)) r 0 ≡ f w
mapped_set f ms r w h = rw (map-set f ms r w) (get_or-set_same (map f ms) r (f w) 0 (rw length-map h))

last_row : (spots : List ℕ) (k : ℕ) (a b : List ℕ) → a ≡ b → get_or a k 0 < length spots → get_or b k 0 < length spots
last_row spots k a b e h = rw (← e) h

-- what holds where a cell is to be emptied
pub record IsSpot (spots : List ℕ) (ms : List Places) (v : Places) (i s : ℕ) : Type 0 where
  pub row : s < length ms
  pub spot : i < length spots
  pub here : get_or spots i 0 < length v.items
  pub last : get_or v.items (length v.items - 1) 0 < length spots

pub spot_of : (cells : List (Option ℕ)) (spots : List ℕ) (ms : List Places) (v : Places) (i s : ℕ) → IsInverse cells spots (lists ms) → v ≡ get_or ms s v → get_or cells i None ≡ Some s → IsSpot spots ms v i s
spot_of cells spots ms v i s inv q h =
    let o = inv.listed i s h in
    let b = in_lists ms s (get_or spots i 0) o.below in
    let at = mapped_at (λ (x : Places). x.items) ms s v [] b q in
    let here = rw at at o.below in
    let l = inv.mention s (length v.items - 1) (rw at (omega (arith, here))) in
    record {
      row = b;
      spot = omega (arith, some_below cells i s h, inv.count);
      here = here;
      last = last_row spots (length v.items - 1) (get_or (lists ms) s []) v.items at (omega (arith, some_below cells (get_or (get_or (lists ms) s []) (length v.items - 1) 0) s l.cell, inv.count));
    }

pub mapped_other : (f : Places → ℕ) (ms : List Places) (r k : ℕ) (w : Places) → k ≢ r → get_or (map f (set ms r w)) k 0 ≡ get_or (map f ms) k 0
mapped_other f ms r k w n = rw (map-set f ms r w) (get_or-set_other (map f ms) r k (f w) 0 n)

-- what a cell holds was made
pub made_if : (cells : List (Option ℕ)) (spots : List ℕ) (ms : List Places) (i : ℕ) (o : Option ℕ) → IsInverse cells spots (lists ms) → get_or cells i None ≡ o → IfSome o (λ s. s < length (map (λ (x : Places). vec_len x) ms))
made_if cells spots ms i None inv h = tt
made_if cells spots ms i (Some s) inv h = rw length-map (in_lists ms s (get_or spots i 0) (inv.listed i s h).below)

-- one more row, and empty cells
pub add_kept : (cells : List (Option ℕ)) (spots : List ℕ) (ms : List Places) (w : Places) (n : ℕ) → IsInverse cells spots (lists ms) → w.items ≡ [] → IsInverse (cells ++ replicate n None) (spots ++ replicate n 0) (lists (ms ++ w ∷ []))
add_kept cells spots ms w n inv e = rw (map-append (λ (x : Places). x.items) ms (w ∷ []), e) (IsInverse-add cells spots (lists ms) inv n)
