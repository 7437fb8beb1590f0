-- The order of entity terms.
use Rattle.std.proofs.Common.{ℕ, true, false, List, [], ◌∷◌, ◌++◌, ◌≡◌, ◌<◌, ◌≤◌, ◌+◌, ◌==◌, ◌⊎◌, inl, inr, cond, length, refl, sym, ap, ◌∙◌, arith, eq-eqb, length-append}
use Rattle.std.proofs.lemmas.Bool.{lt-ltb, le-ltb}
use Rattle.std.specs.Ordering.{is_gt, is_lt, on, then_cmp, nat_cmp}
use Rattle.std.specs.declared.cmp.Ordering.TheVariants.{Less, Equal, Greater}
use Rattle.std.specs.Cmp.Lexicographic.{slice_cmp}
use Rattle.cq_theory.specs.declared.term.EntTerm.{EntTerm}
use Rattle.cq_theory.specs.Listed.{term_cmp}
use Rattle.cq_instance.specs.TermOrder.{IsPathBefore, IsBefore, IsUpTo, generator_term, one_further}

IsPathBefore-trans : (a b c : List ℕ) → IsPathBefore a b → IsPathBefore b c → IsPathBefore a c
IsPathBefore-trans [] [] c h g = absurd h
IsPathBefore-trans [] (y ∷ ys) [] h g = absurd g
IsPathBefore-trans [] (y ∷ ys) (z ∷ zs) h g = tt
IsPathBefore-trans (x ∷ xs) [] c h g = absurd h
IsPathBefore-trans (x ∷ xs) (y ∷ ys) [] h g = absurd g
IsPathBefore-trans (x ∷ xs) (y ∷ ys) (z ∷ zs) (inl h) (inl g) = inl (omega arith)
IsPathBefore-trans (x ∷ xs) (y ∷ ys) (z ∷ zs) (inl h) (inr g) = inl (omega (arith, g.0))
IsPathBefore-trans (x ∷ xs) (y ∷ ys) (z ∷ zs) (inr h) (inl g) = inl (omega (arith, h.0))
IsPathBefore-trans (x ∷ xs) (y ∷ ys) (z ∷ zs) (inr h) (inr g) = inr (h.0 ∙ g.0, IsPathBefore-trans xs ys zs h.1 g.1)

pub IsBefore-trans : (t u v : EntTerm) → IsBefore t u → IsBefore u v → IsBefore t v
IsBefore-trans t u v (inl h) (inl g) = inl (omega arith)
IsBefore-trans t u v (inl h) (inr g) = inl (omega (arith, g.0))
IsBefore-trans t u v (inr h) (inl g) = inl (omega (arith, h.0))
IsBefore-trans t u v (inr h) (inr g) = inr (h.0 ∙ g.0, deeper h.1 g.1)
  where
    deeper : ((t.generator < u.generator) ⊎ ((t.generator ≡ u.generator) × IsPathBefore t.path u.path))
        → ((u.generator < v.generator) ⊎ ((u.generator ≡ v.generator) × IsPathBefore u.path v.path))
        → (t.generator < v.generator) ⊎ ((t.generator ≡ v.generator) × IsPathBefore t.path v.path)
    deeper (inl a) (inl b) = inl (omega arith)
    deeper (inl a) (inr b) = inl (omega (arith, b.0))
    deeper (inr a) (inl b) = inl (omega (arith, a.0))
    deeper (inr a) (inr b) = inr (a.0 ∙ b.0, IsPathBefore-trans t.path u.path v.path a.1 b.1)

pub IsUpTo-trans : (t u v : EntTerm) → IsUpTo t u → IsUpTo u v → IsUpTo t v
IsUpTo-trans t u v (inl h) (inl g) = inl (IsBefore-trans t u v h g)
IsUpTo-trans t u v (inl h) (inr g) = inl (rw (← g) h)
IsUpTo-trans t u v (inr h) g = rw h g

-- one step further

further_paths : (a b : List ℕ) (j k : ℕ) → length a ≡ length b → IsPathBefore a b → IsPathBefore (a ++ j ∷ []) (b ++ k ∷ [])
further_paths [] [] j k e h = absurd h
further_paths [] (y ∷ ys) j k e h = absurd (omega (arith, e))
further_paths (x ∷ xs) [] j k e h = absurd h
further_paths (x ∷ xs) (y ∷ ys) j k e (inl h) = inl h
further_paths (x ∷ xs) (y ∷ ys) j k e (inr h) = inr (h.0, further_paths xs ys j k (omega (arith, e)) h.1)

last_steps : (a : List ℕ) (j k : ℕ) → j < k → IsPathBefore (a ++ j ∷ []) (a ++ k ∷ [])
last_steps [] j k h = inl h
last_steps (x ∷ xs) j k h = inr (refl, last_steps xs j k h)

longer : (a : List ℕ) (k : ℕ) → length (a ++ k ∷ []) ≡ length a + 1
longer a k = length-append a (k ∷ [])

-- steps from two terms stand in the order of the terms
pub IsBefore-further : (t u : EntTerm) (j k : ℕ) → IsBefore t u → IsBefore (one_further t j) (one_further u k)
IsBefore-further t u j k (inl h) = inl (omega (arith, longer t.path j, longer u.path k))
IsBefore-further t u j k (inr h) = inr (longer t.path j ∙ ap (λ n. n + 1) h.0 ∙ sym (longer u.path k), deeper h.1)
  where
    deeper : ((t.generator < u.generator) ⊎ ((t.generator ≡ u.generator) × IsPathBefore t.path u.path))
        → (t.generator < u.generator) ⊎ ((t.generator ≡ u.generator) × IsPathBefore (t.path ++ j ∷ []) (u.path ++ k ∷ []))
    deeper (inl a) = inl a
    deeper (inr a) = inr (a.0, further_paths t.path u.path j k h.0 a.1)

-- steps from one term stand in the order of the keys
pub IsBefore-keys : (t : EntTerm) (j k : ℕ) → j < k → IsBefore (one_further t j) (one_further t k)
IsBefore-keys t j k h = inr (longer t.path j ∙ sym (longer t.path k), inr (refl, last_steps t.path j k h))

pub IsUpTo-further : (t u : EntTerm) (k : ℕ) → IsUpTo t u → IsUpTo (one_further t k) (one_further u k)
IsUpTo-further t u k (inl h) = inl (IsBefore-further t u k k h)
IsUpTo-further t u k (inr h) = inr (ap (λ (x : EntTerm). one_further x k) h)

pub IsBefore-generators : (g h : ℕ) → g < h → IsBefore (generator_term g) (generator_term h)
IsBefore-generators g h less = inr (refl, inl less)

pub IsBefore-generator : (g : ℕ) (t : EntTerm) (k : ℕ) → IsBefore (generator_term g) (one_further t k)
IsBefore-generator g t k = inl (omega (arith, longer t.path k))

-- what the comparison answers

cmp_less : (m n : ℕ) → m < n → nat_cmp m n ≡ Less
cmp_less m n h = ap (λ b. cond b Less (cond (m == n) Equal Greater)) (lt-ltb m n h)

cmp_same : (m n : ℕ) → m ≡ n → nat_cmp m n ≡ Equal
cmp_same m n h =
    let here : n ≤ m = omega (arith, h) in
    ap (λ b. cond b Less (cond (m == n) Equal Greater)) (le-ltb m n here) ∙ ap (λ b. cond b Equal Greater) (eq-eqb m n h)

paths_less : (a b : List ℕ) → IsPathBefore a b → slice_cmp nat_cmp a b ≡ Less
paths_less [] [] h = absurd h
paths_less [] (y ∷ ys) h = refl
paths_less (x ∷ xs) [] h = absurd h
paths_less (x ∷ xs) (y ∷ ys) (inl h) = rw (cmp_less x y h) refl
paths_less (x ∷ xs) (y ∷ ys) (inr h) = rw (cmp_same x y h.0) (paths_less xs ys h.1)

paths_same : (a : List ℕ) → slice_cmp nat_cmp a a ≡ Equal
paths_same [] = refl
paths_same (x ∷ xs) = rw (cmp_same x x refl) (paths_same xs)

cmp_before : (t u : EntTerm) → IsBefore t u → term_cmp t u ≡ Less
cmp_before t u (inl h) = rw (cmp_less (length t.path) (length u.path) h) refl
cmp_before t u (inr h) = rw (cmp_same (length t.path) (length u.path) h.0) (deeper h.1)
  where
    deeper : ((t.generator < u.generator) ⊎ ((t.generator ≡ u.generator) × IsPathBefore t.path u.path))
        → then_cmp (on (λ (x : EntTerm). x.generator) nat_cmp) (on (λ (x : EntTerm). x.path) (slice_cmp nat_cmp)) t u ≡ Less
    deeper (inl a) = rw (cmp_less t.generator u.generator a) refl
    deeper (inr a) = rw (cmp_same t.generator u.generator a.0) (paths_less t.path u.path a.1)

cmp_self : (t : EntTerm) → term_cmp t t ≡ Equal
cmp_self t = rw (cmp_same (length t.path) (length t.path) refl, cmp_same t.generator t.generator refl) (paths_same t.path)

pub is_lt-before : (t u : EntTerm) → IsBefore t u → is_lt (term_cmp t u) ≡ true
is_lt-before t u h = ap is_lt (cmp_before t u h)

pub is_gt-up_to : (t u : EntTerm) → IsUpTo t u → is_gt (term_cmp t u) ≡ false
is_gt-up_to t u (inl h) = ap is_gt (cmp_before t u h)
is_gt-up_to t u (inr h) = ap (λ (x : EntTerm). is_gt (term_cmp t x)) (sym h) ∙ ap is_gt (cmp_self t)
