-- Each list of steps is spelled by some list of numbers.
use Rattle.std.proofs.Common.{ℕ, zero, suc, List, [], ◌∷◌, ◌++◌, ◌≡◌, ◌<◌, ◌+◌, ◌*◌, ◌/◌, ◌%◌, length, refl, sym, ap, ◌∙◌, subst, arith, append_assoc}
use Rattle.std.specs.Prelude.{All, nat_lt, Bool, true, false, if◌then◌else◌}
use Rattle.std.specs.Str.Lossy.{utf8_lossy}
use borrow.Author.Tests.{ltb-true}
use Rattle.std.proofs.lemmas.Str.{utf8_lossy-IsUtf8}
use Rattle.std.proofs.lemmas.List.{append-nil}
use Rattle.std.proofs.lemmas.List.Elements.{All-append}
use Rattle.cq_theory.specs.SchemaData.{SchemaData as Schema}
use Rattle.cq_theory.specs.declared.presentation.Presentation.{Presentation}
use Rattle.cq_theory.specs.declared.constant.Con.TheVariants.{Named, Open}
use Rattle.cq_theory.specs.declared.presentation.Equation.{Equation}
use Rattle.cq_theory.specs.declared.presentation.Equation.TheVariants.{Ent, Typ}
use Rattle.cq_theory.specs.declared.term.EntTerm.{EntTerm}
use Rattle.cq_theory.specs.declared.term.TypeTerm.{TypeTerm}
use Rattle.cq_theory.specs.declared.term.TypeTerm.TheVariants.{Gen, Const, Att, Fun}
use Rattle.cq_theory.specs.EntTerm.{extended}
use Rattle.cq_steps.specs.declared.step.Rule.{Rule}
use Rattle.cq_steps.specs.declared.step.Rule.TheVariants.{Reflexivity, Symmetry, Transitivity, Key, Attribute, Function, Given, Path, Obs}
use Rattle.cq_steps.specs.declared.step.Step.{Step}
use Rattle.cq_proof.specs.Answers.{Proves}
use Rattle.cq_proof.specs.Counting.{AreDigits}
use Rattle.cq_proof.specs.Drafts.{DraftData, generator_term, word, text_of, numbered_rule, instructed, obeyed, all_obeyed, spelled}
use Rattle.cq_proof.specs.Written.{IsWord, IsPlace, IsText, IsEntityTerm, IsTypeTerm, AreTypeTerms, generator, constant, text, attribute, function, none, more, IsEquationOfTerms, IsRule, IsWritten, AreWritten}

abbrev IsDigit : ℕ → Type 0
IsDigit d = d < 18446744073709551616

-- some numbers make the one draft of the other
record Makes (d d' : DraftData) : Type 0 where
  pub numbers : List ℕ
  pub below : All IsDigit numbers
  pub made : all_obeyed numbers d ≡ d'

obeyed-append : (xs ys : List ℕ) (d : DraftData) → all_obeyed (xs ++ ys) d ≡ all_obeyed ys (all_obeyed xs d)
obeyed-append [] ys d = refl
obeyed-append (x ∷ xs) ys d = obeyed-append xs ys (obeyed x d)

nothing : (d : DraftData) → Makes d d
nothing d = record { numbers = []; below = λ k e h. absurd (omega (arith, h)); made = refl }

after : (a b c : DraftData) → Makes a b → Makes b c → Makes a c
after a b c first second = record {
  numbers = first.numbers ++ second.numbers;
  below = All-append IsDigit first.numbers second.numbers first.below second.below;
  made = obeyed-append first.numbers second.numbers a ∙ ap (all_obeyed second.numbers) first.made ∙ second.made;
}

is : (a b c : DraftData) → b ≡ c → Makes a b → Makes a c
is a b c same h = subst (Makes a) same h

all-one : (x : ℕ) → IsDigit x → All IsDigit (x ∷ [])
all-one x h zero d l = h
all-one x h (suc k) d l = absurd (omega (arith, l))

-- one instruction
one : (d : DraftData) (kind n : ℕ) → kind < 16 → n < 1152921504606846976 → Makes d (instructed n d kind)
one d kind n small below =
    let part : (n * 16 + kind) / 16 ≡ n = omega arith in
    let rest : (n * 16 + kind) % 16 ≡ kind = omega (arith, part) in
    record {
      numbers = (n * 16 + kind) ∷ [];
      below = all-one (n * 16 + kind) (omega arith);
      made = ap (λ m. instructed m d ((n * 16 + kind) % 16)) part ∙ ap (instructed n d) rest;
    }

word_is : (n : ℕ) → IsWord n → word n ≡ n
word_is n h = omega arith

module _ (Q : List Equation) (F : List ℕ) (X : List Step) where
  abbrev at : List EntTerm → List TypeTerm → List TypeTerm → List ℕ → DraftData
  at E T A B = record { entities = E; types = T; args = A; text = B; equations = Q; from = F; steps = X }

  one_key : (E : List EntTerm) (T : List TypeTerm) (t : EntTerm) (k : ℕ) → IsWord k → Makes (at (t ∷ E) T [] []) (at (extended t (k ∷ []) ∷ E) T [] [])
  one_key E T t k h =
      is (at (t ∷ E) T [] []) (at (extended t (word k ∷ []) ∷ E) T [] []) (at (extended t (k ∷ []) ∷ E) T [] [])
      (ap (λ n. at (extended t (n ∷ []) ∷ E) T [] []) (word_is k h)) (one (at (t ∷ E) T [] []) 1 k (omega arith) (omega (arith, h)))

  keys : (E : List EntTerm) (T : List TypeTerm) (t : EntTerm) (path : List ℕ) → All IsWord path → Makes (at (t ∷ E) T [] []) (at (extended t path ∷ E) T [] [])
  keys E T t [] h =
      is (at (t ∷ E) T [] []) (at (t ∷ E) T [] []) (at (extended t [] ∷ E) T [] [])
      (ap (λ p. at (record { generator = t.generator; path = p } ∷ E) T [] []) (sym (append-nil t.path))) (nothing (at (t ∷ E) T [] []))
  keys E T t (k ∷ path) h =
      is (at (t ∷ E) T [] []) (at (extended (extended t (k ∷ [])) path ∷ E) T [] []) (at (extended t (k ∷ path) ∷ E) T [] [])
      (ap (λ p. at (record { generator = t.generator; path = p } ∷ E) T [] []) (append_assoc t.path (k ∷ []) path))
      (after (at (t ∷ E) T [] []) (at (extended t (k ∷ []) ∷ E) T [] []) (at (extended (extended t (k ∷ [])) path ∷ E) T [] [])
      (one_key E T t k (h 0 0 (omega arith))) (keys E T (extended t (k ∷ [])) path (λ i d l. h (suc i) d (omega (arith, l)))))

  entity : (E : List EntTerm) (T : List TypeTerm) (t : EntTerm) → IsEntityTerm t → Makes (at E T [] []) (at (t ∷ E) T [] [])
  entity E T t h =
      after (at E T [] []) (at (generator_term t.generator ∷ E) T [] []) (at (t ∷ E) T [] [])
      (is (at E T [] []) (at (generator_term (word t.generator) ∷ E) T [] []) (at (generator_term t.generator ∷ E) T [] [])
      (ap (λ n. at (generator_term n ∷ E) T [] []) (word_is t.generator h.0)) (one (at E T [] []) 0 t.generator (omega arith) (let small : t.generator < 4294967296 = h.0 in omega arith)))
      (keys E T (generator_term t.generator) t.path h.1)

  bytes : (E : List EntTerm) (T : List TypeTerm) (B bs : List ℕ) → All (λ b. b < 256) bs → Makes (at E T [] B) (at E T [] (B ++ bs))
  bytes E T B [] h = is (at E T [] B) (at E T [] B) (at E T [] (B ++ [])) (ap (at E T []) (sym (append-nil B))) (nothing (at E T [] B))
  bytes E T B (b ∷ bs) h =
      let small : b < 256 = h 0 0 (omega arith) in
      let same : b % 256 ≡ b = omega arith in
      is (at E T [] B) (at E T [] ((B ++ b ∷ []) ++ bs)) (at E T [] (B ++ b ∷ bs)) (ap (at E T []) (append_assoc B (b ∷ []) bs))
      (after (at E T [] B) (at E T [] (B ++ b ∷ [])) (at E T [] ((B ++ b ∷ []) ++ bs))
      (is (at E T [] B) (at E T [] (B ++ b % 256 ∷ [])) (at E T [] (B ++ b ∷ [])) (ap (λ c. at E T [] (B ++ c ∷ [])) same) (one (at E T [] B) 7 b (omega arith) (omega arith)))
      (bytes E T (B ++ b ∷ []) bs (λ i d l. h (suc i) d (omega (arith, l)))))

  text_is : (t : List ℕ) → IsText t → text_of t ≡ t
  text_is t h = by_test (nat_lt 255 (length (utf8_lossy t))) refl
    where
      same : utf8_lossy t ≡ t
      same = utf8_lossy-IsUtf8 t h.utf8

      by_test : (b : Bool) → nat_lt 255 (length (utf8_lossy t)) ≡ b → text_of t ≡ t
      by_test false test = ap (λ x. if x then [] else utf8_lossy t) test ∙ same
      by_test true test = absurd (omega (arith, ltb-true 255 (length (utf8_lossy t)) test, ap length same, h.short))

  a_text : (E : List EntTerm) (T : List TypeTerm) (t : List ℕ) → IsText t → Makes (at E T [] []) (at E (Const (Open t) ∷ T) [] [])
  a_text E T t h =
      after (at E T [] []) (at E T [] t) (at E (Const (Open t) ∷ T) [] []) (bytes E T [] t h.bytes)
      (is (at E T [] t) (at E (Const (Open (text_of t)) ∷ T) [] []) (at E (Const (Open t) ∷ T) [] []) (ap (λ x. at E (Const (Open x) ∷ T) [] []) (text_is t h))
      (one (at E T [] t) 4 0 (omega arith) (omega arith)))

  arguments : (E : List EntTerm) (T A ts : List TypeTerm) → Makes (at E (ts ++ T) A []) (at E T (A ++ ts) [])
  arguments E T A [] = is (at E T A []) (at E T A []) (at E T (A ++ []) []) (ap (λ x. at E T x []) (sym (append-nil A))) (nothing (at E T A []))
  arguments E T A (t ∷ ts) =
      is (at E (t ∷ ts ++ T) A []) (at E T ((A ++ t ∷ []) ++ ts) []) (at E T (A ++ t ∷ ts) []) (ap (λ x. at E T x []) (append_assoc A (t ∷ []) ts))
      (after (at E (t ∷ ts ++ T) A []) (at E (ts ++ T) (A ++ t ∷ []) []) (at E T ((A ++ t ∷ []) ++ ts) [])
      (one (at E (t ∷ ts ++ T) A []) 8 0 (omega arith) (omega arith)) (arguments E T (A ++ t ∷ []) ts))

  -- an instruction with a number of 32 bits makes a term of a type
  of_word : (d : DraftData) (E : List EntTerm) (T : List TypeTerm) (make : ℕ → TypeTerm) (kind n : ℕ) → kind < 16 → IsWord n
      → instructed n d kind ≡ at E (make (word n) ∷ T) [] [] → Makes d (at E (make n ∷ T) [] [])
  of_word d E T make kind n small h made =
      is d (instructed n d kind) (at E (make n ∷ T) [] []) (made ∙ ap (λ m. at E (make m ∷ T) [] []) (word_is n h)) (one d kind n small (omega (arith, h)))

  mutual
    type : (E : List EntTerm) (T : List TypeTerm) (t : TypeTerm) → IsTypeTerm t → Makes (at E T [] []) (at E (t ∷ T) [] [])
    type E T _ (generator n h) = of_word (at E T [] []) E T Gen 2 n (omega arith) h refl
    type E T _ (constant n h) = of_word (at E T [] []) E T (λ m. Const (Named m)) 3 n (omega arith) h refl
    type E T _ (text t h) = a_text E T t h
    type E T _ (attribute n t h k) =
        after (at E T [] []) (at (t ∷ E) T [] []) (at E (Att n t ∷ T) [] []) (entity E T t k)
        (of_word (at (t ∷ E) T [] []) E T (λ m. Att m t) 5 n (omega arith) h refl)
    type E T _ (function n ts h k) =
        after (at E T [] []) (at E (ts ++ T) [] []) (at E (Fun n ts ∷ T) [] []) (all_types E T ts k)
        (after (at E (ts ++ T) [] []) (at E T ts []) (at E (Fun n ts ∷ T) [] []) (arguments E T [] ts)
        (of_word (at E T ts []) E T (λ m. Fun m ts) 6 n (omega arith) h refl))

    all_types : (E : List EntTerm) (T ts : List TypeTerm) → AreTypeTerms ts → Makes (at E T [] []) (at E (ts ++ T) [] [])
    all_types E T _ none = nothing (at E T [] [])
    all_types E T _ (more t ts h k) =
        after (at E T [] []) (at E (ts ++ T) [] []) (at E (t ∷ ts ++ T) [] []) (all_types E T ts k) (type E (ts ++ T) t h)

places : (Q : List Equation) (E : List EntTerm) (X : List Step) (F from : List ℕ) → All IsPlace from → Makes (at Q F X E [] [] []) (at Q (F ++ from) X E [] [] [])
places Q E X F [] h = is (at Q F X E [] [] []) (at Q F X E [] [] []) (at Q (F ++ []) X E [] [] []) (ap (λ f. at Q f X E [] [] []) (sym (append-nil F))) (nothing (at Q F X E [] [] []))
places Q E X F (n ∷ from) h =
    let small : n < 72057594037927936 = h 0 0 (omega arith) in
    is (at Q F X E [] [] []) (at Q ((F ++ n ∷ []) ++ from) X E [] [] []) (at Q (F ++ n ∷ from) X E [] [] []) (ap (λ f. at Q f X E [] [] []) (append_assoc F (n ∷ []) from))
    (after (at Q F X E [] [] []) (at Q (F ++ n ∷ []) X E [] [] []) (at Q ((F ++ n ∷ []) ++ from) X E [] [] [])
    (one (at Q F X E [] [] []) 9 n (omega arith) (omega arith)) (places Q E X (F ++ n ∷ []) from (λ i d l. h (suc i) d (omega (arith, l)))))

an_equation : (E : List EntTerm) (X : List Step) (e : Equation) → IsEquationOfTerms e → Makes (at [] [] X E [] [] []) (at (e ∷ []) [] X E [] [] [])
an_equation E X (Ent t u) h =
    after (at [] [] X E [] [] []) (at [] [] X (t ∷ E) [] [] []) (at (Ent t u ∷ []) [] X E [] [] []) (entity [] [] X E [] t h.0)
    (after (at [] [] X (t ∷ E) [] [] []) (at [] [] X (u ∷ t ∷ E) [] [] []) (at (Ent t u ∷ []) [] X E [] [] []) (entity [] [] X (t ∷ E) [] u h.1)
    (one (at [] [] X (u ∷ t ∷ E) [] [] []) 10 0 (omega arith) (omega arith)))
an_equation E X (Typ t u) h =
    after (at [] [] X E [] [] []) (at [] [] X E (t ∷ []) [] []) (at (Typ t u ∷ []) [] X E [] [] []) (type [] [] X E [] t h.0)
    (after (at [] [] X E (t ∷ []) [] []) (at [] [] X E (u ∷ t ∷ []) [] []) (at (Typ t u ∷ []) [] X E [] [] []) (type [] [] X E (t ∷ []) u h.1)
    (one (at [] [] X E (u ∷ t ∷ []) [] []) 11 0 (omega arith) (omega arith)))

-- a rule by its kind, its number and its term
record IsKind (rule : Rule) : Type 0 where
  pub kind : ℕ
  pub number : ℕ
  pub term : EntTerm
  pub small : kind < 16
  pub below : number < 72057594037927936
  pub written : IsEntityTerm term
  pub same : numbered_rule kind number term ≡ rule

no_term : IsEntityTerm (generator_term 0)
no_term = (omega arith, (λ k d l. absurd (omega (arith, l))))

kind_of : (rule : Rule) → IsRule rule → IsKind rule
kind_of Reflexivity h = record { kind = 0; number = 0; term = generator_term 0; small = omega arith; below = omega arith; written = no_term; same = refl }
kind_of Symmetry h = record { kind = 1; number = 0; term = generator_term 0; small = omega arith; below = omega arith; written = no_term; same = refl }
kind_of Transitivity h = record { kind = 2; number = 0; term = generator_term 0; small = omega arith; below = omega arith; written = no_term; same = refl }
kind_of (Key n) h = record { kind = 3; number = n; term = generator_term 0; small = omega arith; below = omega (arith, h); written = no_term; same = ap Key (word_is n h) }
kind_of (Attribute n) h = record { kind = 4; number = n; term = generator_term 0; small = omega arith; below = omega (arith, h); written = no_term; same = ap Attribute (word_is n h) }
kind_of (Function n) h = record { kind = 5; number = n; term = generator_term 0; small = omega arith; below = omega (arith, h); written = no_term; same = ap Function (word_is n h) }
kind_of (Given n) h = record { kind = 6; number = n; term = generator_term 0; small = omega arith; below = h; written = no_term; same = refl }
kind_of (Path n t) h = record { kind = 7; number = n; term = t; small = omega arith; below = omega (arith, h.0); written = h.1; same = ap (λ m. Path m t) (word_is n h.0) }
kind_of (Obs n t) h = record { kind = 8; number = n; term = t; small = omega arith; below = omega (arith, h.0); written = h.1; same = ap (λ m. Obs m t) (word_is n h.0) }

a_rule : (kind n : ℕ) (t : EntTerm) → kind < 16 → numbered_rule ((n * 16 + kind) % 16) ((n * 16 + kind) / 16) t ≡ numbered_rule kind n t
a_rule kind n t small =
    let part : (n * 16 + kind) / 16 ≡ n = omega arith in
    let rest : (n * 16 + kind) % 16 ≡ kind = omega (arith, part) in
    ap (λ m. numbered_rule ((n * 16 + kind) % 16) m t) part ∙ ap (λ k. numbered_rule k n t) rest

-- one more step
a_step : (X : List Step) (step : Step) → IsWritten step → Makes (at [] [] X [] [] [] []) (at [] [] (X ++ step ∷ []) [] [] [] [])
a_step X step h = by_kind (kind_of step.rule h.rule)
  where
    by_kind : IsKind step.rule → Makes (at [] [] X [] [] [] []) (at [] [] (X ++ step ∷ []) [] [] [] [])
    by_kind k =
        after (at [] [] X [] [] [] []) (at [] [] X (k.term ∷ []) [] [] []) (at [] [] (X ++ step ∷ []) [] [] [] []) (entity [] [] X [] [] k.term k.written)
        (after (at [] [] X (k.term ∷ []) [] [] []) (at (step.equation ∷ []) [] X (k.term ∷ []) [] [] []) (at [] [] (X ++ step ∷ []) [] [] [] []) (an_equation (k.term ∷ []) X step.equation h.equation)
        (after (at (step.equation ∷ []) [] X (k.term ∷ []) [] [] []) (at (step.equation ∷ []) step.from X (k.term ∷ []) [] [] []) (at [] [] (X ++ step ∷ []) [] [] [] []) (places (step.equation ∷ []) (k.term ∷ []) X [] step.from h.from)
        (is (at (step.equation ∷ []) step.from X (k.term ∷ []) [] [] []) (instructed (k.number * 16 + k.kind) (at (step.equation ∷ []) step.from X (k.term ∷ []) [] [] []) 12) (at [] [] (X ++ step ∷ []) [] [] [] [])
        (ap (λ r. at [] [] (X ++ record { rule = r; from = step.from; equation = step.equation } ∷ []) [] [] [] []) (a_rule k.kind k.number k.term k.small ∙ k.same))
        (one (at (step.equation ∷ []) step.from X (k.term ∷ []) [] [] []) 12 (k.number * 16 + k.kind) (omega arith) (omega arith)))))

all_steps : (X steps : List Step) → AreWritten steps → Makes (at [] [] X [] [] [] []) (at [] [] (X ++ steps) [] [] [] [])
all_steps X [] h = is (at [] [] X [] [] [] []) (at [] [] X [] [] [] []) (at [] [] (X ++ []) [] [] [] []) (ap (λ x. at [] [] x [] [] [] []) (sym (append-nil X))) (nothing (at [] [] X [] [] [] []))
all_steps X (step ∷ steps) h =
    is (at [] [] X [] [] [] []) (at [] [] ((X ++ step ∷ []) ++ steps) [] [] [] []) (at [] [] (X ++ step ∷ steps) [] [] [] []) (ap (λ x. at [] [] x [] [] [] []) (append_assoc X (step ∷ []) steps))
    (after (at [] [] X [] [] [] []) (at [] [] (X ++ step ∷ []) [] [] [] []) (at [] [] ((X ++ step ∷ []) ++ steps) [] [] [] [])
    (a_step X step h.0) (all_steps (X ++ step ∷ []) steps h.1))

pub spelling : (steps : List Step) → AreWritten steps → (count : ℕ) × (numbers : List ℕ) × AreDigits count numbers × (spelled numbers ≡ steps)
spelling steps h = let m = all_steps [] steps h in (length m.numbers, m.numbers, (refl, m.below), ap (λ d. d.steps) m.made)

-- some count is one at which there is a list that proves the equation
pub found_for : (S : Schema) (P : Presentation) (e : Equation) (steps : List Step) → AreWritten steps → Proves S P steps e
    → (count : ℕ) × (((numbers : List ℕ) → AreDigits count numbers → Proves S P (spelled numbers) e → ⊥) → ⊥)
found_for S P e steps written proved =
    let spells = spelling steps written in
    (spells.0, (λ none. none spells.1 spells.2 (subst (λ l. Proves S P l e) (sym spells.3) proved)))
