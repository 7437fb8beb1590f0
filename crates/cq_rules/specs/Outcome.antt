-- What reading from the front of a list of tokens gives, and how readings compose.
use Rattle.std.specs.Prelude.{ℕ, zero, suc, List, [], ◌∷◌, length, Bool, true, false, ◌⊎◌}
use Rattle.std.proofs.Common.{inl, inr}
use Rattle.cq_lex.specs.declared.token.Token.{Token}
use Rattle.cq_rules.specs.declared.why.Why.{Why}
use Rattle.cq_rules.specs.declared.why.Why.TheVariants.{Wanted, LeftOut, Deep, BadOption}
use Rattle.cq_base.specs.declared.place.Place.{Place}
use Rattle.cq_lex.specs.declared.token.Kind.{Kind}
use Rattle.cq_lex.specs.declared.token.Kind.TheVariants as kinds
use Rattle.cq_rules.specs.declared.class.Class.TheVariants as classes
use Rattle.cq_rules.specs.Class.{class_of, is_name, same}

-- a halt for a limit, at a token that some text has here
abbrev pub IsLimit : Why → Type 0
IsLimit Wanted = ⊥
IsLimit (LeftOut n) = ⊥
IsLimit Deep = Unit {0}
IsLimit (BadOption p) = Unit {0}

-- a halt for more than want of another token
abbrev pub IsNamed : Why → Type 0
IsNamed Wanted = ⊥
IsNamed (LeftOut n) = Unit {0}
IsNamed Deep = Unit {0}
IsNamed (BadOption p) = Unit {0}

-- a value and the tokens after it, or why and where the reading halts
pub data Out (A : Type 0) : Type 0 where
  Took : A → List Token → Out A
  Stop : Why → List Token → Out A

-- a set of tokens
abbrev pub Tokens : Type 0
Tokens = Token → Bool

abbrev pub either : Bool → Bool → Bool
either true b = true
either false b = b

abbrev pub when : Bool → Bool → Bool
when true b = b
when false b = false

-- the next token is in the set
abbrev pub leads : Tokens → List Token → Bool
leads s [] = false
leads s (t ∷ ts) = s t

abbrev pub pick : {A : Type 0} → Bool → A → A → A
pick true x y = x
pick false x y = y

abbrev pub then : {A B : Type 0} → Out A → (A → List Token → Out B) → Out B
then (Took a rest) f = f a rest
then (Stop w at) f = Stop w at

-- a token of which nothing is kept
abbrev pub nothing_kept : Token → Unit {0}
nothing_kept t = tt

abbrev pub read_keep : {A : Type 0} → (Token → A) → Tokens → List Token → Out A
read_keep f s [] = Stop Wanted []
read_keep f s (t ∷ ts) = pick (s t) (Took (f t) ts) (Stop Wanted (t ∷ ts))

abbrev pub with_left : {A B : Type 0} → A → Out B → Out (A × B)
with_left a o = then o (λ b rest. Took (a, b) rest)

abbrev pub and_then : {A B : Type 0} → (A → List Token → Out B) → Out A → Out (A × B)
and_then q o = then o (λ a mid. with_left a (q a mid))

-- the second reader may depend on what the first read
abbrev pub read_bind : {A B : Type 0} → (List Token → Out A) → (A → List Token → Out B) → List Token → Out (A × B)
read_bind p q ts = and_then q (p ts)

abbrev pub read_seq : {A B : Type 0} → (List Token → Out A) → (List Token → Out B) → List Token → Out (A × B)
read_seq p q ts = read_bind p (λ a. q) ts

abbrev pub read_none : {A : Type 0} → A → List Token → Out A
read_none a ts = Took a ts

abbrev pub mapped : {A B : Type 0} → (A → B) → Out A → Out B
mapped f o = then o (λ a rest. Took (f a) rest)

abbrev pub as_left : {A B : Type 0} → Out A → Out (A ⊎ B)
as_left o = then o (λ a rest. Took (inl a) rest)

abbrev pub as_right : {A B : Type 0} → Out B → Out (A ⊎ B)
as_right o = then o (λ b rest. Took (inr b) rest)

abbrev pub read_alt : {A B : Type 0} → Tokens → (List Token → Out A) → (List Token → Out B) → List Token → Out (A ⊎ B)
read_alt s p q ts = pick (leads s ts) (as_left (p ts)) (as_right (q ts))

abbrev pub with_first : {A : Type 0} → A → Out (List A) → Out (List A)
with_first a o = then o (λ xs rest. Took (a ∷ xs) rest)

-- at most n items, as long as the next token begins one
abbrev pub read_items : {A : Type 0} → Tokens → (List Token → Out A) → ℕ → List Token → Out (List A)
read_items s p zero ts = Took [] ts
read_items s p (suc n) ts =
    pick (leads s ts) (then (p ts) (λ a mid. with_first a (read_items s p n mid))) (Took [] ts)

abbrev pub read_many : {A : Type 0} → Tokens → (List Token → Out A) → List Token → Out (List A)
read_many s p ts = read_items s p (length ts) ts

-- the numbers of words that are left out, and 0 for any other token
abbrev pub Outs : Type 0
Outs = Token → ℕ

abbrev pub out_or : {A : Type 0} → ℕ → Out A → List Token → Out A
out_or zero o ts = o
out_or (suc n) o ts = Stop (LeftOut (suc n)) ts

-- a word that is left out is refused as such
abbrev pub read_or : {A : Type 0} → Outs → (List Token → Out A) → List Token → Out A
read_or out p [] = p []
read_or out p (t ∷ ts) = out_or (out t) (p (t ∷ ts)) (t ∷ ts)

-- where a text begins
abbrev pub first_place : List Token → Place
first_place [] = record { line = 0; col = 0 }
first_place (t ∷ ts) = t.place

abbrev pub at_place : {A : Type 0} → Place → A → Place × A
at_place p a = (p, a)

abbrev pub read_placed : {A : Type 0} → (List Token → Out A) → List Token → Out (Place × A)
read_placed p ts = mapped (at_place (first_place ts)) (p ts)

-- one token of a set, whose value has to pass a test
abbrev pub read_guard : {A : Type 0} → (Token → A) → Tokens → (A → Bool) → Why → List Token → Out A
read_guard f s ok w [] = Stop Wanted []
read_guard f s ok w (t ∷ ts) = pick (s t) (pick (ok (f t)) (Took (f t) ts) (Stop w (t ∷ ts))) (Stop Wanted (t ∷ ts))

-- the word or the content of a token
abbrev pub name_in : Kind → List ℕ
name_in (kinds.Word w) = w
name_in (kinds.Text x) = x
name_in (kinds.Mark m) = []
name_in kinds.End = []

abbrev pub name_of : Token → List ℕ
name_of t = name_in t.kind

abbrev pub dot : Tokens
dot t = same (class_of t) classes.Dot

abbrev pub name : Tokens
name t = is_name (class_of t)

-- at most so many names behind dots; one more is too deep
abbrev pub halt_over : Bool → List Token → Out (List (List ℕ))
halt_over b ts = pick b (Stop Deep ts) (Stop Wanted ts)

abbrev pub read_over : List Token → Out (List (List ℕ))
read_over [] = Stop Wanted []
read_over (t ∷ ts) = halt_over (name t) (t ∷ ts)

abbrev pub read_link : (List Token → Out (List (List ℕ))) → List Token → Out (List (List ℕ))
read_link next [] = Stop Wanted []
read_link next (t ∷ ts) = pick (name t) (with_first (name_of t) (next ts)) (Stop Wanted (t ∷ ts))

abbrev pub read_dots : (List Token → Out (List (List ℕ))) → List Token → Out (List (List ℕ))
read_dots link [] = Took [] []
read_dots link (d ∷ ts) = pick (dot d) (link ts) (Took [] (d ∷ ts))

abbrev pub read_chain : ℕ → List Token → Out (List (List ℕ))
read_chain zero = read_dots read_over
read_chain (suc k) = read_dots (read_link (read_chain k))
