-- Where a block comment ends.
use Rattle.std.proofs.Common.{◌≡◌, ℕ, List, [], ◌∷◌, ◌++◌, Bool, true, false, refl, ap, subst}
use Rattle.std.specs.Prelude.{Option, Some, None, nat_eq, if◌then◌else◌, ◌&&◌}
use Rattle.cq_lex.specs.Front.{behind_block}
use Rattle.cq_lex.specs.Tokens.{NeverEnds}
use Rattle.cq_lex.proofs.Runs.{and_left, and_right}
use Rattle.cq_lex.proofs.Written.{byte_is}

-- how the end of a block comment stands in bytes
abbrev pub IsBlock : List ℕ → Option (List ℕ) → Type 0
IsBlock bs None = NeverEnds bs
IsBlock bs (Some rest) = (text : List ℕ) × (bs ≡ text ++ 42 ∷ 47 ∷ rest) × NeverEnds text

never_empty : NeverEnds []
never_empty [] back e = cc
never_empty (x ∷ xs) back e = cc

never_one : (b : ℕ) → NeverEnds (b ∷ [])
never_one b [] back e = cc
never_one b (x ∷ []) back e = cc
never_one b (x ∷ y ∷ xs) back e = cc

-- a star and a slash do not stand at the front
abbrev NoEnd : ℕ → ℕ → Type 0
NoEnd b c = b ≡ 42 → c ≡ 47 → ⊥

no_end : (b c : ℕ) → (nat_eq b 42 && nat_eq c 47) ≡ false → NoEnd b c
no_end b c e is_star is_slash = cc (ap (λ z. nat_eq z 42 && nat_eq c 47) is_star, ap (λ z. nat_eq z 47) is_slash, e)

never_more : (b c : ℕ) (bs : List ℕ) → NoEnd b c → NeverEnds (c ∷ bs) → NeverEnds (b ∷ c ∷ bs)
never_more b c bs differ h [] back e = differ (cc e) (cc e)
never_more b c bs differ h (x ∷ xs) back e = h xs back (cc e)

step_block : (b c : ℕ) (bs : List ℕ) (o : Option (List ℕ)) → NoEnd b c → IsBlock (c ∷ bs) o → IsBlock (b ∷ c ∷ bs) o
step_block b c bs None differ h = never_more b c bs differ h
step_block b c bs (Some rest) differ ([], split, h) = (b ∷ [], ap (λ z. b ∷ z) split, never_one b)
step_block b c bs (Some rest) differ (d ∷ text, split, h) =
    let same : c ≡ d = cc split in
    (b ∷ d ∷ text, ap (λ z. b ∷ z) split, never_more b d text (subst (NoEnd b) same differ) h)

both : (b c : ℕ) (bs : List ℕ) → (nat_eq b 42 && nat_eq c 47) ≡ true → b ∷ c ∷ bs ≡ 42 ∷ 47 ∷ bs
both b c bs e =
    let is_star = byte_is b 42 (and_left (nat_eq b 42) (nat_eq c 47) e) in
    let is_slash = byte_is c 47 (and_right (nat_eq b 42) (nat_eq c 47) e) in
    rw (is_star, is_slash) refl

and_no : (k : Bool) → (k && false) ≡ false
and_no true = refl
and_no false = refl

pub is_block : (bs : List ℕ) → IsBlock bs (behind_block bs)
is_block [] = never_empty
is_block (b ∷ []) = never_one b
is_block (b ∷ c ∷ bs) = at_test (nat_eq b 42 && nat_eq c 47) refl (is_block (c ∷ bs))
  where
    at_test : (k : Bool) → (nat_eq b 42 && nat_eq c 47) ≡ k → IsBlock (c ∷ bs) (behind_block (c ∷ bs)) → IsBlock (b ∷ c ∷ bs) (if k then Some bs else behind_block (c ∷ bs))
    at_test true e h = ([], both b c bs e, never_empty)
    at_test false e h = step_block b c bs (behind_block (c ∷ bs)) (no_end b c e) h

-- the next end is the one that is found
pub block_found : (text rest : List ℕ) → NeverEnds text → behind_block (text ++ 42 ∷ 47 ∷ rest) ≡ Some rest
block_found [] rest h = refl
block_found (b ∷ []) rest h = rw (and_no (nat_eq b 42)) refl
block_found (b ∷ c ∷ text) rest h = at_test (nat_eq b 42 && nat_eq c 47) refl (block_found (c ∷ text) rest (λ front back e. h (b ∷ front) back (ap (λ z. b ∷ z) e)))
  where
    at_test : (k : Bool) → (nat_eq b 42 && nat_eq c 47) ≡ k → behind_block (c ∷ (text ++ 42 ∷ 47 ∷ rest)) ≡ Some rest → (if k then Some (text ++ 42 ∷ 47 ∷ rest) else behind_block (c ∷ (text ++ 42 ∷ 47 ∷ rest))) ≡ Some rest
    at_test true e more = absurd (h [] text (both b c text e))
    at_test false e more = more

pub block_open : (bs : List ℕ) → NeverEnds bs → behind_block bs ≡ None
block_open bs h = at_found (behind_block bs) (is_block bs)
  where
    at_found : (o : Option (List ℕ)) → IsBlock bs o → o ≡ None
    at_found None i = refl
    at_found (Some rest) (text, split, n) = absurd (h text rest split)
