-- What is proved of each reader: it takes exactly what its relation says, sees one token past what
-- it takes, and halts at the first token that nothing in its relation has.
use Rattle.std.proofs.Common.{◌≡◌, ◌≤◌, ◌<◌, List, [], ◌∷◌, ◌++◌, length, Bool, true, false, ◌⊎◌, inl, inr, refl}
use Rattle.cq_lex.specs.declared.token.Token.{Token}
use Rattle.cq_rules.specs.declared.why.Why.{Why}
use Rattle.cq_rules.specs.declared.why.Why.TheVariants.{Wanted, LeftOut, Deep, BadOption}
use Rattle.cq_rules.specs.Outcome.{Out, Took, Stop, Tokens, IsLimit, IsNamed, then}
use Rattle.cq_rules.specs.Relations.{Viable}

pub record Taken {A : Type 0} (R : List Token → A → Type 0) (F : A → Type 0) (ts : List Token) (a : A) (rest : List Token) : Type 0 where
  pub front : List Token
  pub split : ts ≡ front ++ rest
  pub spells : R front a
  pub fits : F a

-- what may be said of the first of these tokens, if there is one
abbrev pub AtHead : (Token → Type 0) → List Token → Type 0
AtHead P [] = Unit {0}
AtHead P (t ∷ ts) = P t

pub record Halted {A : Type 0} (R : List Token → A → Type 0) (D : List Token → Token → Why → Type 0) (ts : List Token) (w : Why) (at : List Token) : Type 0 where
  pub front : List Token
  pub split : ts ≡ front ++ at
  -- some text of the relation begins so
  pub tail : List Token
  pub value : A
  pub spells : R (front ++ tail) value
  -- where a limit halts, that text has the token too
  pub begins : IsLimit w → (t : Token) × (us : List Token) × (vs : List Token) × (at ≡ t ∷ us) × (tail ≡ t ∷ vs)
  pub halts : AtHead (λ t. D front t w) at

abbrev pub Begins : Tokens → Bool → List Token → Type 0
Begins s n [] = n ≡ true
Begins s n (t ∷ ts) = s t ≡ true

abbrev pub Clear : Tokens → List Token → Type 0
Clear s [] = Unit {0}
Clear s (t ∷ ts) = s t ≡ false

-- the value is taken, or a limit halts inside its text
abbrev pub Meets : {A : Type 0} → (A → Type 0) → A → List Token → Out A → Type 0
Meets F a rest o = (o ≡ Took a rest) ⊎ ((w : Why) × (q : List Token) × (o ≡ Stop w (q ++ rest)) × IsLimit w × (F a → ⊥) × (0 < length q))

-- what is said of a limit, and of nothing else
abbrev pub OfLimit : Type 0 → Why → Type 0
OfLimit X Wanted = Unit {0}
OfLimit X (LeftOut n) = Unit {0}
OfLimit X Deep = X
OfLimit X (BadOption p) = X

pub of_limit : (X : Type 0) (w : Why) → X → OfLimit X w
of_limit X Wanted x = tt
of_limit X (LeftOut n) x = tt
of_limit X Deep x = x
of_limit X (BadOption p) x = x

pub of_limits : (X Y : Type 0) (w : Why) → (X → Y) → OfLimit X w → OfLimit Y w
of_limits X Y Wanted f x = tt
of_limits X Y (LeftOut n) f x = tt
of_limits X Y Deep f x = f x
of_limits X Y (BadOption p) f x = f x

-- how what stands before a refused token, and the token, begin
abbrev pub Leading : Tokens → List Token → Token → Why → Type 0
Leading s [] t w = OfLimit (s t ≡ true) w
Leading s (v ∷ vs) t w = s v ≡ true

-- a halt at a token for the reason, or before it
abbrev pub HaltsBy : {A : Type 0} → Why → List Token → Out A → Type 0
HaltsBy w at o = (v : Why) × (z : List Token) × (o ≡ Stop v (z ++ at)) × (length z ≡ 0 → v ≡ w)

abbrev pub left : {A : Type 0} → Out A → List Token
left (Took a rest) = rest
left (Stop w at) = at

-- two runs over the same tokens up to t
pub data Agree {A : Type 0} (t : Token) (rest rest' : List Token) (pre : List Token) (o o' : Out A) : Type 0 where
  took : (a : A) (q : List Token) → length q ≤ length pre → o ≡ Took a (q ++ t ∷ rest) → o' ≡ Took a (q ++ t ∷ rest') → Agree t rest rest' pre o o'
  stop : (w : Why) (q : List Token) → o ≡ Stop w (q ++ t ∷ rest) → o' ≡ Stop w (q ++ t ∷ rest') → Agree t rest rest' pre o o'
  past : length (left o) ≤ length rest → Agree t rest rest' pre o o'

pub record Laws {A : Type 0} (R : List Token → A → Type 0) (F : A → Type 0) (D : List Token → Token → Why → Type 0) (run : List Token → Out A) (first : Tokens) (empty : Bool) (more : Tokens) : Type 0 where
  pub sound : (ts : List Token) (a : A) (rest : List Token) → run ts ≡ Took a rest → Taken R F ts a rest
  pub halted : (ts : List Token) (w : Why) (at : List Token) → run ts ≡ Stop w at → Halted R D ts w at
  pub starts : (ts : List Token) (a : A) → R ts a → Begins first empty ts
  pub complete : (ts : List Token) (a : A) (rest : List Token) → R ts a → Clear more rest → Meets F a rest (run (ts ++ rest))
  -- a text ends before a token, unless some text goes on with it
  pub onward : (ts : List Token) (a : A) (t : Token) (rest : List Token) → R ts a → Meets F a (t ∷ rest) (run (ts ++ t ∷ rest)) ⊎ Viable R (ts ++ t ∷ [])
  pub local : (pre : List Token) (t : Token) (rest rest' : List Token) → Agree t rest rest' pre (run (pre ++ t ∷ rest)) (run (pre ++ t ∷ rest'))
  pub back : (ts : List Token) → length (left (run ts)) ≤ length ts
  pub short : (ts : List Token) × (a : A) × R ts a
  -- a text begins with each of the first tokens, and where the relation may be empty there is an empty text
  pub tight : (t : Token) → first t ≡ true → Viable R (t ∷ [])
  pub nil : empty ≡ true → (a : A) × R [] a
  pub limited : (pre : List Token) (t : Token) (w : Why) (rest : List Token) → D pre t w → IsNamed w → HaltsBy w (t ∷ rest) (run (pre ++ t ∷ rest))
  pub limits : (pre : List Token) (t : Token) (w : Why) → D pre t w → IsNamed w → Leading first pre t w

-- what an outcome of `then` came from
pub then_took : {A B : Type 0} (o : Out A) (f : A → List Token → Out B) (b : B) (rest : List Token) → then o f ≡ Took b rest → (a : A) × (mid : List Token) × (o ≡ Took a mid) × (f a mid ≡ Took b rest)
then_took (Took a mid) f b rest e = (a, mid, refl, e)
then_took (Stop w at) f b rest e = (cc)

pub then_stop : {A B : Type 0} (o : Out A) (f : A → List Token → Out B) (w : Why) (at : List Token) → then o f ≡ Stop w at → (o ≡ Stop w at) ⊎ ((a : A) × (mid : List Token) × (o ≡ Took a mid) × (f a mid ≡ Stop w at))
then_stop (Took a mid) f w at e = inr (a, mid, refl, e)
then_stop (Stop v as') f w at e = inl (cc)

clear_narrower : (m m' : Tokens) → ((t : Token) → m' t ≡ false → m t ≡ false) → (ts : List Token) → Clear m' ts → Clear m ts
clear_narrower m m' h [] c = tt
clear_narrower m m' h (t ∷ ts) c = h t c

-- the same laws with more tokens that may go on
pub widened : {A : Type 0} {R : List Token → A → Type 0} {F : A → Type 0} {D : List Token → Token → Why → Type 0} {run : List Token → Out A} {first : Tokens} {empty : Bool} (more more' : Tokens) → ((t : Token) → more' t ≡ false → more t ≡ false) → Laws R F D run first empty more → Laws R F D run first empty more'
widened more more' h l = record {
  sound = l.sound;
  halted = l.halted;
  starts = l.starts;
  complete = λ ts a rest r c. l.complete ts a rest r (clear_narrower more more' h rest c);
  onward = l.onward;
  local = l.local;
  back = l.back;
  short = l.short;
  tight = l.tight;
  nil = l.nil;
  limited = l.limited;
  limits = l.limits;
}
