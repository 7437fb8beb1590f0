-- Quoted texts are read back.
use Rattle.std.proofs.Common.{ℕ, List, [], ◌∷◌, ◌++◌, ◌≡◌, ◌||◌, ◌⊎◌, inl, inr, Option, Some, None, Bool, true, false, refl, sym, ap, subst, ◌∙◌, append_assoc, arith}
use Rattle.std.specs.Prelude.{cond, not, ◌==◌}
use Rattle.std.specs.List.{flat_map}
use Rattle.std.proofs.lemmas.Bool.Decides.{nat_tests}
use Rattle.std.proofs.lemmas.Option.{some_pair_parts}
use Rattle.cq_theory.specs.ValueText.{escape}
use Rattle.cq_base.specs.Escapes.{unescape}
use Rattle.cq_values.specs.Reading.{Front, stands_alone, behind, behind_escape, unquoted}

-- how a byte stands in quotes: alone, or as an escape
pub record Alone (b : ℕ) : Type 0 where
  pub is : escape b ≡ b ∷ []
  pub no_quote : (b == 34) ≡ false
  pub no_backslash : (b == 92) ≡ false
  pub alone : stands_alone b ≡ true

pub record Escaped (b : ℕ) : Type 0 where
  pub letter : ℕ
  pub is : escape b ≡ 92 ∷ letter ∷ []
  pub back : unescape letter ≡ Some b

byte_is : (b n : ℕ) → (b == n) ≡ true → b ≡ n
byte_is b n h = grind (arith, nat_tests)

shape : (b : ℕ) → Alone b ⊎ Escaped b
shape b = at_quote (b == 34) refl
  where
    at_return : (r : Bool) → (b == 13) ≡ r → (b == 34) ≡ false → (b == 92) ≡ false → (b == 10) ≡ false → (b == 9) ≡ false → Alone b ⊎ Escaped b
    at_return true e q s l t = let is : b ≡ 13 = byte_is b 13 e in subst (λ c. Alone c ⊎ Escaped c) (sym is) (inr (record { letter = 114; is = refl; back = refl }))
    at_return false e q s l t = inl (record { is = rw (q, s, l, t, e) refl; no_quote = q; no_backslash = s; alone = rw (q, s, l, t, e) refl })

    at_tab : (t : Bool) → (b == 9) ≡ t → (b == 34) ≡ false → (b == 92) ≡ false → (b == 10) ≡ false → Alone b ⊎ Escaped b
    at_tab true e q s l = let is : b ≡ 9 = byte_is b 9 e in subst (λ c. Alone c ⊎ Escaped c) (sym is) (inr (record { letter = 116; is = refl; back = refl }))
    at_tab false e q s l = at_return (b == 13) refl q s l e

    at_line : (l : Bool) → (b == 10) ≡ l → (b == 34) ≡ false → (b == 92) ≡ false → Alone b ⊎ Escaped b
    at_line true e q s = let is : b ≡ 10 = byte_is b 10 e in subst (λ c. Alone c ⊎ Escaped c) (sym is) (inr (record { letter = 110; is = refl; back = refl }))
    at_line false e q s = at_tab (b == 9) refl q s e

    at_backslash : (s : Bool) → (b == 92) ≡ s → (b == 34) ≡ false → Alone b ⊎ Escaped b
    at_backslash true e q = let is : b ≡ 92 = byte_is b 92 e in subst (λ c. Alone c ⊎ Escaped c) (sym is) (inr (record { letter = 92; is = refl; back = refl }))
    at_backslash false e q = at_line (b == 10) refl q e

    at_quote : (q : Bool) → (b == 34) ≡ q → Alone b ⊎ Escaped b
    at_quote true e = let is : b ≡ 34 = byte_is b 34 e in subst (λ c. Alone c ⊎ Escaped c) (sym is) (inr (record { letter = 34; is = refl; back = refl }))
    at_quote false e = at_backslash (b == 92) refl e

alone_chosen : {A : Type 0} (q s a : Bool) (x y z w : A) → q ≡ false → s ≡ false → a ≡ true → cond q x (cond s y (cond a z w)) ≡ z
alone_chosen q s a x y z w i j k = rw (i, j, k) refl

-- one byte more in quotes
one_written : (b : ℕ) (bs more rest : List ℕ) → unquoted false more ≡ Some (bs, rest) → Alone b ⊎ Escaped b → unquoted false (escape b ++ more) ≡ Some (b ∷ bs, rest)
unfolding unquoted
one_written b bs more rest h (inl a) =
    ap (λ e. unquoted false (e ++ more)) a.is ∙ alone_chosen (b == 34) (b == 92) (stands_alone b) (Some ([], more)) (unquoted true more) (behind (b ∷ []) (unquoted false more)) None a.no_quote a.no_backslash a.alone
    ∙ ap (behind (b ∷ [])) h
one_written b bs more rest h (inr e) =
    ap (λ x. unquoted false (x ++ more)) e.is ∙ ap (λ o. behind_escape o (unquoted false more)) e.back ∙ ap (behind (b ∷ [])) h

-- the content of what is written in quotes
pub unquoted_quoted : (c rest : List ℕ) → unquoted false (flat_map escape c ++ (34 ∷ rest)) ≡ Some (c, rest)
unfolding unquoted
unquoted_quoted [] rest = refl
unquoted_quoted (b ∷ bs) rest =
    ap (unquoted false) (append_assoc (escape b) (flat_map escape bs) (34 ∷ rest))
    ∙ one_written b bs (flat_map escape bs ++ (34 ∷ rest)) rest (unquoted_quoted bs rest) (shape b)

all_false : (q s l t r : Bool) → not (q || s || l || t || r) ≡ true → (q ≡ false) × (s ≡ false) × (l ≡ false) × (t ≡ false) × (r ≡ false)
all_false true s l t r h = cc
all_false false true l t r h = cc
all_false false false true t r h = cc
all_false false false false true r h = cc
all_false false false false false true h = cc
all_false false false false false false h = (refl, refl, refl, refl, refl)

alone_is : (b : ℕ) → stands_alone b ≡ true → escape b ≡ b ∷ []
alone_is b h =
    let tests = all_false (b == 34) (b == 92) (b == 10) (b == 9) (b == 13) h in
    rw (tests.0, tests.1, tests.2, tests.3, tests.4) refl

escaped_as : (e b n m : ℕ) → (e == n) ≡ true → Some m ≡ Some b → escape m ≡ 92 ∷ n ∷ [] → escape b ≡ 92 ∷ e ∷ []
escaped_as e b n m at is here =
    let same : m ≡ b = cc in
    let letter : e ≡ n = byte_is e n at in
    ap escape (sym same) ∙ here ∙ ap (λ x. 92 ∷ x ∷ []) (sym letter)

escape_is : (e b : ℕ) → unescape e ≡ Some b → escape b ≡ 92 ∷ e ∷ []
escape_is e b h = at_tests (e == 34) refl (e == 92) refl (e == 110) refl (e == 116) refl (e == 114) refl h
  where
    at_tests : (q : Bool) → (e == 34) ≡ q → (s : Bool) → (e == 92) ≡ s → (l : Bool) → (e == 110) ≡ l → (t : Bool) → (e == 116) ≡ t → (r : Bool) → (e == 114) ≡ r
        → cond q (Some 34) (cond s (Some 92) (cond l (Some 10) (cond t (Some 9) (cond r (Some 13) None)))) ≡ Some b → escape b ≡ 92 ∷ e ∷ []
    at_tests true i s j l k t m r n h' = escaped_as e b 34 34 i h' refl
    at_tests false i true j l k t m r n h' = escaped_as e b 92 92 j h' refl
    at_tests false i false j true k t m r n h' = escaped_as e b 110 10 k h' refl
    at_tests false i false j false k true m r n h' = escaped_as e b 116 9 m h' refl
    at_tests false i false j false k false m true n h' = escaped_as e b 114 13 n h' refl
    at_tests false i false j false k false m false n h' = cc

behind_back : (front : List ℕ) (found : Front (List ℕ)) (c rest : List ℕ) → behind front found ≡ Some (c, rest) → (inner : List ℕ) × (found ≡ Some (inner, rest)) × (c ≡ front ++ inner)
behind_back front None c rest h = cc
behind_back front (Some x) c rest h =
    let parts = some_pair_parts (front ++ x.0) c x.1 rest h in
    (x.0, ap (λ r. Some (x.0, r)) parts.1, sym parts.0)

abbrev written : List ℕ → List ℕ → List ℕ
written c rest = flat_map escape c ++ (34 ∷ rest)

one_more : (b : ℕ) (c inner rest more : List ℕ) → c ≡ (b ∷ []) ++ inner → more ≡ written inner rest → escape b ++ more ≡ written c rest
one_more b c inner rest more is h =
    ap (λ z. escape b ++ z) h ∙ sym (append_assoc (escape b) (flat_map escape inner) (34 ∷ rest)) ∙ ap (λ z. written z rest) (sym is)

abbrev front_of : Bool → List ℕ → List ℕ
front_of false bs = bs
front_of true bs = 92 ∷ bs

abbrev IsBack : Bool → List ℕ → Type 0
IsBack escaping bs = (c rest : List ℕ) → unquoted escaping bs ≡ Some (c, rest) → front_of escaping bs ≡ written c rest

plain_back : (b : ℕ) (bs : List ℕ) → IsBack false bs → IsBack true bs → IsBack false (b ∷ bs)
unfolding unquoted
plain_back b bs after escaped c rest h = at_tests (b == 34) refl (b == 92) refl (stands_alone b) refl h
  where
    at_tests : (q : Bool) → (b == 34) ≡ q → (s : Bool) → (b == 92) ≡ s → (a : Bool) → stands_alone b ≡ a
        → cond q (Some ([], bs)) (cond s (unquoted true bs) (cond a (behind (b ∷ []) (unquoted false bs)) None)) ≡ Some (c, rest) → b ∷ bs ≡ written c rest
    at_tests true i s j a k h' =
        let parts = some_pair_parts [] c bs rest h' in
        (λ n. byte_is b 34 i n ∷ parts.1 n) ∙ ap (λ z. written z rest) parts.0
    at_tests false i true j a k h' = ap (λ z. z ∷ bs) (byte_is b 92 j) ∙ escaped c rest h'
    at_tests false i false j true k h' =
        let more = behind_back (b ∷ []) (unquoted false bs) c rest h' in
        ap (λ e. e ++ bs) (sym (alone_is b k)) ∙ one_more b c more.0 rest bs more.2 (after more.0 rest more.1)
    at_tests false i false j false k h' = cc

escaped_back : (e : ℕ) (bs : List ℕ) → IsBack false bs → IsBack true (e ∷ bs)
unfolding unquoted
escaped_back e bs after c rest h = at_letter (unescape e) refl h
  where
    at_letter : (o : Option ℕ) → unescape e ≡ o → behind_escape o (unquoted false bs) ≡ Some (c, rest) → 92 ∷ e ∷ bs ≡ written c rest
    at_letter None i h' = cc
    at_letter (Some b) i h' =
        let more = behind_back (b ∷ []) (unquoted false bs) c rest h' in
        ap (λ x. x ++ bs) (sym (escape_is e b i)) ∙ one_more b c more.0 rest bs more.2 (after more.0 rest more.1)

read_back : (escaping : Bool) (bs : List ℕ) → IsBack escaping bs
unfolding unquoted
read_back false [] c rest h = cc
read_back true [] c rest h = cc
read_back false (b ∷ bs) c rest h = plain_back b bs (read_back false bs) (read_back true bs) c rest h
read_back true (e ∷ bs) c rest h = escaped_back e bs (read_back false bs) c rest h

-- what is read in quotes is written so
pub quoted_unquoted : (bs c rest : List ℕ) → unquoted false bs ≡ Some (c, rest) → bs ≡ flat_map escape c ++ (34 ∷ rest)
quoted_unquoted = read_back false
