-- What stands between two quotes: the computed content is the written one.
use Rattle.std.proofs.Common.{◌≡◌, ℕ, List, [], ◌∷◌, ◌++◌, Bool, true, false, refl, sym, ap, subst, append_assoc, inl, inr, ◌⊎◌, arith}
use Rattle.std.proofs.lemmas.Bool.Decides.{nat_tests}
use Rattle.std.specs.Prelude.{◌≢◌, Option, Some, None, nat_eq, if◌then◌else◌}
use Rattle.cq_base.specs.Escapes.{unescape}
use Rattle.cq_lex.specs.Bytes.{quote, backslash}
use Rattle.cq_lex.specs.Front.{Content, Closed, Wrong, Open, behind, behind_escape, content}
use Rattle.cq_lex.specs.Tokens.{Writes, nothing, itself, escaped}
use Rattle.cq_lex.proofs.Contents.{is_other}

pub byte_is : (a b : ℕ) → nat_eq a b ≡ true → a ≡ b
byte_is a b e = grind (arith, nat_tests)

pub byte_differs : (a b : ℕ) → nat_eq a b ≡ false → a ≢ b
byte_differs a b e h = grind (arith, nat_tests)

-- how a content stands at the front of bytes
abbrev pub IsContent : List ℕ → Content → Type 0
IsContent bs (Closed content rest) = (written : List ℕ) × (bs ≡ written ++ quote ∷ rest) × Writes written content
IsContent bs (Wrong at) =
    (written : List ℕ) × (content : List ℕ) × (e : ℕ) × (rest : List ℕ) × (bs ≡ written ++ backslash ∷ e ∷ rest) × (at ≡ e ∷ rest) × Writes written content × (unescape e ≡ None)
IsContent bs Open = (written : List ℕ) × (content : List ℕ) × Writes written content × ((bs ≡ written) ⊎ (bs ≡ written ++ backslash ∷ []))

-- the bytes with the backslash before them
abbrev with_escape : Bool → List ℕ → List ℕ
with_escape false bs = bs
with_escape true bs = backslash ∷ bs

choose : (P : Content → Type 0) (k : Bool) (x y : Content) → (k ≡ true → P x) → (k ≡ false → P y) → P (if k then x else y)
choose P true x y f g = f refl
choose P false x y f g = g refl

goes_on : (b : ℕ) (bs : List ℕ) (c : Content) → b ≢ quote → b ≢ backslash → IsContent bs c → IsContent (b ∷ bs) (behind (b ∷ []) c)
goes_on b bs (Closed content rest) q s (written, split, w) = (b ∷ written, ap (λ z. b ∷ z) split, itself q s w)
goes_on b bs (Wrong at) q s (written, content, e, rest, split, is, w, none) = (b ∷ written, b ∷ content, e, rest, ap (λ z. b ∷ z) split, is, itself q s w, none)
goes_on b bs Open q s (written, content, w, inl split) = (b ∷ written, b ∷ content, itself q s w, inl (ap (λ z. b ∷ z) split))
goes_on b bs Open q s (written, content, w, inr split) = (b ∷ written, b ∷ content, itself q s w, inr (ap (λ z. b ∷ z) split))

after_escape : (e : ℕ) (bs : List ℕ) (o : Option ℕ) (c : Content) → unescape e ≡ o → IsContent bs c → IsContent (backslash ∷ e ∷ bs) (behind_escape o (e ∷ bs) c)
after_escape e bs None c none h = ([], [], e, bs, refl, refl, nothing, none)
after_escape e bs (Some b) (Closed content rest) is (written, split, w) = (backslash ∷ e ∷ written, ap (λ z. backslash ∷ e ∷ z) split, escaped is w)
after_escape e bs (Some b) (Wrong at) is (written, content, e', rest, split, same, w, none) = (backslash ∷ e ∷ written, b ∷ content, e', rest, ap (λ z. backslash ∷ e ∷ z) split, same, escaped is w, none)
after_escape e bs (Some b) Open is (written, content, w, inl split) = (backslash ∷ e ∷ written, b ∷ content, escaped is w, inl (ap (λ z. backslash ∷ e ∷ z) split))
after_escape e bs (Some b) Open is (written, content, w, inr split) = (backslash ∷ e ∷ written, b ∷ content, escaped is w, inr (ap (λ z. backslash ∷ e ∷ z) split))

read_content : (k : Bool) (bs : List ℕ) → IsContent (with_escape k bs) (content k bs)
unfolding content
read_content false [] = ([], [], nothing, inl refl)
read_content true [] = ([], [], nothing, inr refl)
read_content false (b ∷ bs) =
    choose (IsContent (b ∷ bs)) (nat_eq b quote) _ _ (λ q. ([], ap (λ z. z ∷ bs) (byte_is b quote q), nothing)) (λ q. choose (IsContent (b ∷ bs)) (nat_eq b backslash) _ _ (λ s. subst (λ z. IsContent (z ∷ bs) (content true bs)) (sym (byte_is b backslash s)) (read_content true bs)) (λ s. goes_on b bs (content false bs) (byte_differs b quote q) (byte_differs b backslash s) (read_content false bs)))
read_content true (b ∷ bs) = after_escape b bs (unescape b) (content false bs) refl (read_content false bs)

pub is_content : (bs : List ℕ) → IsContent bs (content false bs)
is_content bs = read_content false bs

behind_both : (front more : List ℕ) (c : Content) → behind front (behind more c) ≡ behind (front ++ more) c
behind_both front more (Closed text rest) = ap (λ z. Closed z rest) (sym (append_assoc front more text))
behind_both front more (Wrong at) = refl
behind_both front more Open = refl

behind_none : (c : Content) → behind [] c ≡ c
behind_none (Closed text rest) = refl
behind_none (Wrong at) = refl
behind_none Open = refl

-- what is read behind written bytes
pub reads_written : {written text : List ℕ} → Writes written text → (tail : List ℕ) → content false (written ++ tail) ≡ behind text (content false tail)
unfolding content
reads_written nothing tail = sym (behind_none (content false tail))
reads_written (itself {b} {bytes} {content = text} q s w) tail =
    let plain : nat_eq b quote ≡ false = is_other b quote q in
    let same : nat_eq b backslash ≡ false = is_other b backslash s in
    rw (plain, same, reads_written w tail) (behind_both (b ∷ []) text (content false tail))
reads_written (escaped {e} {b} {bytes} {content = text} is w) tail =
    rw (is, reads_written w tail) (behind_both (b ∷ []) text (content false tail))
