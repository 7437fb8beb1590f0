-- Runs of bytes that pass a test.
use Rattle.std.proofs.Common.{ℕ, zero, suc, ◌+◌, List, [], ◌∷◌, ◌++◌, ◌≡◌, ◌&&◌, length, take, drop, Bool, true, false, refl, ap, arith}
use Rattle.std.specs.List.{prefix_len, list_all}

-- the bytes are none, or begin with one that fails the test
abbrev pub StopsAt : (ℕ → Bool) → List ℕ → Type 0
StopsAt p [] = Unit {0}
StopsAt p (b ∷ bs) = p b ≡ false

one_more : (n : ℕ) → 1 + n ≡ suc n
one_more n = omega arith

-- the front that passes is a run
pub run_passes : (p : ℕ → Bool) (bs : List ℕ) → list_all p (take (prefix_len p bs) bs) ≡ true
run_passes p [] = refl
run_passes p (b ∷ bs) = at_first (p b) refl (run_passes p bs)
  where
    at_first : (k : Bool) → p b ≡ k → list_all p (take (prefix_len p bs) bs) ≡ true → list_all p (take (prefix_len p (b ∷ bs)) (b ∷ bs)) ≡ true
    at_first true e h = rw (e, one_more (prefix_len p bs), e) h
    at_first false e h = rw e refl

none_pass : (p : ℕ → Bool) (after : List ℕ) → StopsAt p after → prefix_len p after ≡ 0
none_pass p [] h = refl
none_pass p (b ∷ bs) h = rw h refl

pub both : (a b : Bool) → (a && b) ≡ true → (a ≡ true) × (b ≡ true)
both true b h = (refl, h)
both false b h = cc

-- a run is the front that passes
pub run_len : (p : ℕ → Bool) (run after : List ℕ) → list_all p run ≡ true → StopsAt p after → prefix_len p (run ++ after) ≡ length run
run_len p [] after h s = none_pass p after s
run_len p (b ∷ bs) after h s =
    let parts = both (p b) (list_all p bs) h in
    let one = parts.0 in
    let more = run_len p bs after parts.1 s in
    rw (one, more) (one_more (length bs))

pub take_front : (xs ys : List ℕ) → take (length xs) (xs ++ ys) ≡ xs
take_front [] ys = refl
take_front (x ∷ xs) ys = ap (λ zs. x ∷ zs) (take_front xs ys)

pub drop_front : (xs ys : List ℕ) → drop (length xs) (xs ++ ys) ≡ ys
drop_front [] ys = refl
drop_front (x ∷ xs) ys = drop_front xs ys

pub parted : (n : ℕ) (bs : List ℕ) → bs ≡ take n bs ++ drop n bs
parted zero bs = refl
parted (suc n) [] = refl
parted (suc n) (b ∷ bs) = ap (λ xs. b ∷ xs) (parted n bs)
