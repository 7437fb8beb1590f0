-- Bytes that are, wherever they stand, tokens of a relation.
use Rattle.std.proofs.Common.{ℕ, Bool, true, false, List, [], ◌∷◌, ◌++◌, ◌≡◌, append_assoc, append-nil, refl, sym, subst}
use Rattle.std.specs.List.{flat_map}
use Rattle.cq_lex.specs.Bytes.{is_blank, is_word_byte}
use Rattle.cq_lex.specs.Tokens.{Lexes, Spells, StopsAt, blank, gap, token, token_behind}
use Rattle.cq_lex.specs.declared.token.Kind.{Kind}
use Rattle.cq_lex.specs.declared.token.Token.{Token}
use Rattle.cq_rules.specs.Outcome.{first_place}
use Rattle.cq_rules.specs.Relations.{Both, Each, Made, None, One, Placed}

-- what may stand behind some bytes: anything, or what doesn't go on with a word
abbrev pub Any : List ℕ → Type 0
Any after = Unit {0}

abbrev pub Stop : List ℕ → Type 0
Stop = StopsAt is_word_byte

-- behind `before` the bytes are tokens of the relation, whose value meets the claim
pub record IsPrinted {A : Type 0} (B : List ℕ → Type 0) (P : List Token → A → Type 0) (Q : A → Type 0) (before bytes : List ℕ) : Type 0 where
  pub tokens : List Token
  pub value : A
  pub spelled : P tokens value
  pub meets : Q value
  pub lexed : (after : List ℕ) (others : List Token) → B after → Lexes (before ++ bytes) after others → Lexes before (bytes ++ after) (tokens ++ others)

abbrev pub Prints : {A : Type 0} → (List ℕ → Type 0) → (List Token → A → Type 0) → (A → Type 0) → List ℕ → Type 0
Prints B P Q bytes = (before : List ℕ) → IsPrinted B P Q before bytes

-- no bytes
pub nothing : {A : Type 0} (b : A) (Q : A → Type 0) → Q b → Prints Any (None b) Q []
nothing b Q meets before = record {
  tokens = [];
  value = b;
  spelled = (refl, refl);
  meets = meets;
  lexed = λ after others stops rest. subst (λ l. Lexes l after others) (append-nil before) rest;
}

-- one token
pub single : {A : Type 0} (B : List ℕ → Type 0) (f : Token → A) (s : Token → Bool) (Q : A → Type 0) (kind : Kind) (bytes : List ℕ)
    → ((after : List ℕ) → B after → Spells kind bytes after) → ((before : List ℕ) → (s (token_behind before kind bytes) ≡ true) × Q (f (token_behind before kind bytes)))
    → Prints B (One f s) Q bytes
single B f s Q kind bytes spells is before = record {
  tokens = token_behind before kind bytes ∷ [];
  value = f (token_behind before kind bytes);
  spelled = (token_behind before kind bytes, refl, (is before).0, refl);
  meets = (is before).1;
  lexed = λ after others stops rest. token kind bytes refl (spells after stops) rest;
}

-- a value that is made of another
pub made : {A C : Type 0} (B : List ℕ → Type 0) (P : List Token → A → Type 0) (Q : A → Type 0) (R : C → Type 0) (f : A → C) (bytes : List ℕ) → ((a : A) → Q a → R (f a))
    → Prints B P Q bytes → Prints B (Made f P) R bytes
made B P Q R f bytes meets prints before =
    let p = prints before in
    record { tokens = p.tokens; value = f p.value; spelled = (p.value, p.spelled, refl); meets = meets p.value p.meets; lexed = p.lexed }

-- another relation of the same tokens
pub recast : {A C : Type 0} (B : List ℕ → Type 0) (P : List Token → A → Type 0) (Q : A → Type 0) (P' : List Token → C → Type 0) (R : C → Type 0) (f : A → C) (bytes : List ℕ)
    → ((ts : List Token) (a : A) → P ts a → Q a → P' ts (f a) × R (f a)) → Prints B P Q bytes → Prints B P' R bytes
recast B P Q P' R f bytes turn prints before =
    let p = prints before in
    let t = turn p.tokens p.value p.spelled p.meets in
    record { tokens = p.tokens; value = f p.value; spelled = t.0; meets = t.1; lexed = p.lexed }

-- the value with the place of its first token
pub placed : {A : Type 0} (B : List ℕ → Type 0) (P : List Token → A → Type 0) (Q : A → Type 0) (bytes : List ℕ) → Prints B P Q bytes → Prints B (Placed P) (λ x. Q x.1) bytes
placed B P Q bytes prints before =
    let p = prints before in
    record { tokens = p.tokens; value = (first_place p.tokens, p.value); spelled = (p.spelled, refl); meets = p.meets; lexed = p.lexed }

-- the one and then the other
pub both : {A C : Type 0} (B D : List ℕ → Type 0) (P : List Token → A → Type 0) (Q : A → Type 0) (P' : List Token → C → Type 0) (R : C → Type 0) (xs ys : List ℕ)
    → ((after : List ℕ) → D after → B (ys ++ after)) → Prints B P Q xs → Prints D P' R ys → Prints D (Both P P') (λ p. Q p.0 × R p.1) (xs ++ ys)
both B D P Q P' R xs ys ends first second before =
    let p = first before in
    let q = second (before ++ xs) in
    record {
      tokens = p.tokens ++ q.tokens;
      value = (p.value, q.value);
      spelled = (p.tokens, q.tokens, refl, p.spelled, q.spelled);
      meets = (p.meets, q.meets);
      lexed = λ after others stops rest.
          let behind = q.lexed after others stops (subst (λ l. Lexes l after others) (sym (append_assoc before xs ys)) rest) in
          let whole = p.lexed (ys ++ after) (q.tokens ++ others) (ends after stops) behind in
          subst (λ (bytes : List ℕ). Lexes before bytes ((p.tokens ++ q.tokens) ++ others)) (sym (append_assoc xs ys after))
          (subst (Lexes before (xs ++ (ys ++ after))) (sym (append_assoc p.tokens q.tokens others)) whole);
    }

-- a blank before, and one behind
pub behind_blank : {A : Type 0} (B : List ℕ → Type 0) (P : List Token → A → Type 0) (Q : A → Type 0) (b : ℕ) (bytes : List ℕ) → is_blank b ≡ true
    → Prints B P Q bytes → Prints B P Q (b ∷ bytes)
behind_blank B P Q b bytes is prints before =
    let p = prints (before ++ b ∷ []) in
    record {
      tokens = p.tokens;
      value = p.value;
      spelled = p.spelled;
      meets = p.meets;
      lexed = λ after others stops rest.
          gap {gap = b ∷ []} {after = bytes ++ after} refl (blank is) (p.lexed after others stops (subst (λ l. Lexes l after others) (sym (append_assoc before (b ∷ []) bytes)) rest));
    }

pub before_blank : {A : Type 0} (P : List Token → A → Type 0) (Q : A → Type 0) (b : ℕ) (bytes : List ℕ) → is_blank b ≡ true → is_word_byte b ≡ false
    → Prints Stop P Q bytes → Prints Any P Q (bytes ++ b ∷ [])
before_blank P Q b bytes is other prints before =
    let p = prints before in
    record {
      tokens = p.tokens;
      value = p.value;
      spelled = p.spelled;
      meets = p.meets;
      lexed = λ after others stops rest.
          subst (λ l. Lexes before l (p.tokens ++ others)) (sym (append_assoc bytes (b ∷ []) after))
          (p.lexed (b ∷ after) others other
          (gap {gap = b ∷ []} {after = after} refl (blank is) (subst (λ l. Lexes l after others) (sym (append_assoc before bytes (b ∷ []))) rest)));
    }

-- where anything may stand behind, what doesn't go on with a word may too
pub weaker : {A : Type 0} (B : List ℕ → Type 0) (P : List Token → A → Type 0) (Q : A → Type 0) (bytes : List ℕ) → Prints Any P Q bytes → Prints B P Q bytes
weaker B P Q bytes prints before =
    let p = prints before in
    record { tokens = p.tokens; value = p.value; spelled = p.spelled; meets = p.meets; lexed = λ after others stops rest. p.lexed after others tt rest }

pub same_bytes : {A : Type 0} (B : List ℕ → Type 0) (P : List Token → A → Type 0) (Q : A → Type 0) (xs ys : List ℕ) → xs ≡ ys → Prints B P Q xs → Prints B P Q ys
same_bytes B P Q xs ys same = subst (Prints B P Q) same

-- any number of members, each of which meets its own claim
module _ {A X : Type 0} (P : List Token → A → Type 0) (Q : X → A → Type 0) (text : X → List ℕ) where
  abbrev pub Meet : List X → List A → Type 0
  Meet [] [] = Unit {0}
  Meet (x ∷ xs) (a ∷ as') = Q x a × Meet xs as'
  Meet _ _ = ⊥

  abbrev pub PrintEach : List X → Type 0
  PrintEach [] = Unit {0}
  PrintEach (x ∷ xs) = Prints Any P (Q x) (text x) × PrintEach xs

  pub each : (xs : List X) → PrintEach xs → Prints Any (Each P) (Meet xs) (flat_map text xs)
  each [] prints before = record {
    tokens = [];
    value = [];
    spelled = refl;
    meets = tt;
    lexed = λ after others stops rest. subst (λ l. Lexes l after others) (append-nil before) rest;
  }
  each (x ∷ xs) prints before =
      recast Any (Both P (Each P)) (λ p. Q x p.0 × Meet xs p.1) (Each P) (Meet (x ∷ xs)) (λ p. p.0 ∷ p.1) (text x ++ flat_map text xs) (λ ts p spelled meets. (spelled, meets))
      (both Any Any P (Q x) (Each P) (Meet xs) (text x) (flat_map text xs) (λ after stops. tt) prints.0 (each xs prints.1)) before
