-- Steps of reading, forwards and back.
use Rattle.std.proofs.Common.{ℕ, ◌+◌, ◌<◌, List, [], ◌∷◌, ◌++◌, ◌≡◌, Option, Some, None, Bool, true, false, length, get_or, drop, refl, sym, ap, ◌∙◌, append_assoc, add-one, drop-cons, arith}
use Rattle.std.proofs.lemmas.List.{append-nil}
use Rattle.std.proofs.Math.Seq.{drop-length}
use Rattle.std.specs.Prelude.{cond, ◌==◌, option_map, option_and_then}
use Rattle.std.proofs.lemmas.Bool.Decides.{nat_tests}
use Rattle.std.proofs.lemmas.Option.{some_pair_parts}
use Rattle.cq_theory.specs.declared.value.Value.{Value}
use Rattle.cq_theory.specs.declared.value.Value.TheVariants.{Fun}
use Rattle.cq_values.specs.Reading.{Front, beside, behind, behind_byte, behind_comma, closed, joined, others}

pub byte_is : (b n : ℕ) → (b == n) ≡ true → b ≡ n
byte_is b n h = grind (arith, nat_tests)

pub at_byte : (n : ℕ) (bytes rest : List ℕ) → behind_byte n bytes ≡ Some rest → bytes ≡ n ∷ rest
at_byte n [] rest h = cc
at_byte n (b ∷ bs) rest h = at_test (b == n) refl h
  where
    at_test : (t : Bool) → (b == n) ≡ t → cond t (Some bs) None ≡ Some rest → b ∷ bs ≡ n ∷ rest
    at_test true e h' = let same : b ≡ n = byte_is b n e in cc
    at_test false e h' = cc

pub at_comma : (bytes rest : List ℕ) → behind_comma bytes ≡ Some rest → bytes ≡ 44 ∷ 32 ∷ rest
at_comma bytes rest h = at_first (behind_byte 44 bytes) refl h
  where
    at_first : (o : Option (List ℕ)) → behind_byte 44 bytes ≡ o → option_and_then (behind_byte 32) o ≡ Some rest → bytes ≡ 44 ∷ 32 ∷ rest
    at_first None e h' = cc
    at_first (Some after) e h' = at_byte 44 bytes after e ∙ ap (λ bs. 44 ∷ bs) (at_byte 32 after rest h')

pub beside_back : {A : Type 0} (o : Option A) (bytes : List ℕ) (a : A) (rest : List ℕ) → beside o bytes ≡ Some (a, rest) → (o ≡ Some a) × (bytes ≡ rest)
beside_back None bytes a rest h = cc
beside_back (Some x) bytes a rest h = let parts = some_pair_parts x a bytes rest h in (ap (λ y. Some y) parts.0, parts.1)

pub behind_first : (v : Value) (found : Front (List Value)) (vs : List Value) (rest : List ℕ) → behind (v ∷ []) found ≡ Some (vs, rest)
    → (ws : List Value) × (found ≡ Some (ws, rest)) × (vs ≡ v ∷ ws)
behind_first v None vs rest h = cc
behind_first v (Some x) vs rest h =
    let parts = some_pair_parts (v ∷ x.0) vs x.1 rest h in
    (x.0, ap (λ r. Some (x.0, r)) parts.1, sym parts.0)

-- a first value and others
pub record AreJoined (first : Front Value) (others : List ℕ → Front (List Value)) (vs : List Value) (rest : List ℕ) : Type 0 where
  pub head : Value
  pub tail : List Value
  pub between : List ℕ
  pub head_is : first ≡ Some (head, between)
  pub tail_is : others between ≡ Some (tail, rest)
  pub are : vs ≡ head ∷ tail

pub joined_back : (read : ℕ → List ℕ → Front Value) (first : Front Value) (others : List ℕ → Front (List Value)) (vs : List Value) (rest : List ℕ)
    → joined read first others ≡ Some (vs, rest) → AreJoined first others vs rest
joined_back read None others vs rest h = cc
joined_back read (Some x) others vs rest h =
    let more = behind_first x.0 (others x.1) vs rest h in
    record { head = x.0; tail = more.0; between = x.1; head_is = refl; tail_is = more.1; are = more.2 }

pub joined_on : (read : ℕ → List ℕ → Front Value) (first : Front Value) (others : List ℕ → Front (List Value)) (v : Value) (vs : List Value) (between rest : List ℕ)
    → first ≡ Some (v, between) → others between ≡ Some (vs, rest) → joined read first others ≡ Some (v ∷ vs, rest)
joined_on read first others v vs between rest h k = ap (λ o. joined read o others) h ∙ ap (behind (v ∷ [])) k

-- arguments up to the closing bracket
pub record IsClosed (f : ℕ) (found : Front (List Value)) (v : Value) (rest : List ℕ) : Type 0 where
  pub args : List Value
  pub found_is : found ≡ Some (args, 41 ∷ rest)
  pub is : v ≡ Fun f args

pub closed_back : (f : ℕ) (found : Front (List Value)) (v : Value) (rest : List ℕ) → closed f found ≡ Some (v, rest) → IsClosed f found v rest
closed_back f None v rest h = cc
closed_back f (Some x) v rest h = at_close (behind_byte 41 x.1) refl h
  where
    at_close : (o : Option (List ℕ)) → behind_byte 41 x.1 ≡ o → option_map {T = List ℕ} {U = Value × List ℕ} (λ after. (Fun f x.0, after)) o ≡ Some (v, rest) → IsClosed f (Some x) v rest
    at_close None e h' = cc
    at_close (Some after) e h' =
        let parts = some_pair_parts (Fun f x.0) v after rest h' in
        record { args = x.0; found_is = ap (λ bs. Some (x.0, bs)) (at_byte 41 x.1 after e ∙ ap (λ bs. 41 ∷ bs) parts.1); is = sym parts.0 }

-- others one after the other, behind those so far
module _ (read : ℕ → List ℕ → Front Value) (sorts : List ℕ) (n : ℕ) (within : n < length sorts) (so_far : List Value) (bytes : List ℕ) (whole : Front (List Value))
    (is : whole ≡ behind so_far (others read (drop n sorts) bytes)) where
  here : others read (drop n sorts) bytes ≡ option_and_then (λ after. joined read (read (get_or sorts n 0) after) (others read (drop (n + 1) sorts))) (behind_comma bytes)
  here = ap (λ l. others read l bytes) (drop-cons sorts n 0 within) ∙ ap (λ m. option_and_then (λ after. joined read (read (get_or sorts n 0) after) (others read (drop m sorts))) (behind_comma bytes)) (sym (add-one n))

  pub no_comma : behind_comma bytes ≡ None → whole ≡ None
  no_comma e = is ∙ ap (behind so_far) (here ∙ ap (option_and_then (λ after. joined read (read (get_or sorts n 0) after) (others read (drop (n + 1) sorts)))) e)

  module _ (after : List ℕ) (comma : behind_comma bytes ≡ Some after) where
    at_argument : others read (drop n sorts) bytes ≡ joined read (read (get_or sorts n 0) after) (others read (drop (n + 1) sorts))
    at_argument = here ∙ ap (option_and_then (λ z. joined read (read (get_or sorts n 0) z) (others read (drop (n + 1) sorts)))) comma

    pub no_argument : read (get_or sorts n 0) after ≡ None → whole ≡ None
    no_argument e = is ∙ ap (behind so_far) (at_argument ∙ ap (λ o. joined read o (others read (drop (n + 1) sorts))) e)

    pub one_argument : (v : Value) (rest : List ℕ) (new : List Value) → read (get_or sorts n 0) after ≡ Some (v, rest) → new ≡ so_far ++ v ∷ []
        → whole ≡ behind new (others read (drop (n + 1) sorts) rest)
    one_argument v rest new e added =
        is ∙ ap (behind so_far) (at_argument ∙ ap (λ o. joined read o (others read (drop (n + 1) sorts))) e)
        ∙ behind_more so_far (v ∷ []) (others read (drop (n + 1) sorts) rest) ∙ ap (λ l. behind l (others read (drop (n + 1) sorts) rest)) (sym added)
      where
        behind_more : (front more : List Value) (found : Front (List Value)) → behind front (behind more found) ≡ behind (front ++ more) found
        behind_more front more None = refl
        behind_more front more (Some x) = ap (λ l. Some (l, x.1)) (sym (append_assoc front more x.0))

pub all_read : (read : ℕ → List ℕ → Front Value) (sorts : List ℕ) (n : ℕ) (so_far : List Value) (bytes : List ℕ) (whole : Front (List Value))
    → n ≡ length sorts → whole ≡ behind so_far (others read (drop n sorts) bytes) → whole ≡ Some (so_far, bytes)
all_read read sorts n so_far bytes whole all is =
    is ∙ ap (λ l. behind so_far (others read l bytes)) (ap (λ m. drop m sorts) all ∙ drop-length sorts) ∙ ap (λ l. Some (l, bytes)) (append-nil so_far)
