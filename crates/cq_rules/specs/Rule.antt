-- A grammar as data, and what it says of tokens.
use Rattle.std.specs.Prelude.{◌≡◌, ℕ, ◌-◌, ◌≤◌, List, [], ◌∷◌, length, Bool, true, false, ◌⊎◌, nat_eq}
use Rattle.std.proofs.Common.{inl, inr}
use Rattle.cq_lex.specs.declared.token.Token.{Token}
use Rattle.cq_base.specs.declared.place.Place.{Place}
use Rattle.cq_rules.specs.declared.class.Class.{Class}
use Rattle.cq_rules.specs.declared.class.Class.TheVariants as classes
use Rattle.cq_rules.specs.Class.{class_of, Set, both, every, all_classes, is_name, same}
use Rattle.cq_rules.specs.declared.why.Why.TheVariants.{BadOption}
use Rattle.cq_rules.specs.Outcome.{nothing_kept, Out, Tokens, Outs, either, when, name, name_of, read_keep, read_seq, read_bind, read_alt}
use Rattle.cq_rules.specs.Outcome.{read_many, read_none, read_or, read_placed, mapped, read_chain, read_guard}
use Rattle.cq_rules.specs.Relations.{One, Both, Either, Each, None, Made, Placed, Halts, AtOne, InBoth, InBothBy, InEither, InEach, InOr}
use Rattle.cq_rules.specs.Relations.{Nowhere, Chain, OverChain, AtGuard}
use Rattle.cq_rules.specs.Tree.{Tree, levels, Term, OverTerm, read_term}

-- how many levels a term, and how many names a path may have
unfoldable pub most_levels : ℕ
most_levels = 64

unfoldable pub most_names : ℕ
most_names = 64

-- the numbers of words that are left out, and 0 for any other class
abbrev pub Left : Type 0
Left = Class → ℕ

abbrev pub none_left : Left
none_left c = 0

-- one production, or a part of one
pub data Rule : Type 0 → Type 1 where
  -- no token
  none : Rule (Unit {0})
  -- a token of the set, kept
  keep : {A : Type 0} → (Token → A) → Set → Rule A
  -- a token of the set, and then the rule
  skip : {A : Type 0} → Set → Rule A → Rule A
  -- the rule, and then a token of the set, where words may be left out
  ends : {A : Type 0} → Rule A → Left → Set → Rule A
  seq : {A B : Type 0} → Rule A → Rule B → Rule (A × B)
  alt : {A B : Type 0} → Rule A → Rule B → Rule (A ⊎ B)
  many : {A : Type 0} → Rule A → Rule (List A)
  -- one or more
  some : {A : Type 0} → Rule A → Rule (List A)
  -- one or more, with a token of the set between them
  separated : {A : Type 0} → Set → Rule A → Rule (List A)
  -- nothing, or a token of the set and any number of items
  section : {A : Type 0} → Set → Rule A → Rule (List A)
  -- nothing, or such a section between two tokens
  braces : {A : Type 0} → Set → Set → Rule A → Left → Set → Rule (List A)
  -- the rule, and then a token of the set whose value has to pass a test, or else is refused at the place
  checked : {A B : Type 0} → Rule A → (Token → B) → Set → (A → B → Bool) → (A → Place) → Rule (A × B)
  -- the rule, where words that are left out are refused as such
  or_left_out : {A : Type 0} → Left → Rule A → Rule A
  -- the rule, with the place of its first token
  placed : {A : Type 0} → Rule A → Rule (Place × A)
  -- a value that is made of the rule's, and its parts
  made : {A B : Type 0} → (to : A → B) → (from : B → A) → ((a : A) → from (to a) ≡ a) → Rule A → Rule B
  term : Rule Tree
  path : Rule (List (List ℕ))

abbrev pub set : Set → Tokens
set s t = s (class_of t)

abbrev pub outs : Left → Outs
outs l t = l (class_of t)

abbrev pub second : {A B : Type 0} → A × B → B
second p = p.1

abbrev pub first_of : {A B : Type 0} → A × B → A
first_of p = p.0

abbrev pub joined : {A : Type 0} → A × List A → List A
joined p = p.0 ∷ p.1

abbrev pub or_none : {A : Type 0} → List A ⊎ Unit {0} → List A
or_none (inl xs) = xs
or_none (inr u) = []

abbrev pub Behind : {A : Type 0} → Set → (List Token → A → Type 0) → List Token → A → Type 0
Behind s P = Made second (Both (One nothing_kept (set s)) P)

abbrev pub Before : {A : Type 0} → (List Token → A → Type 0) → Set → List Token → A → Type 0
Before P s = Made first_of (Both P (One nothing_kept (set s)))

abbrev pub OrEmpty : {A : Type 0} → (List Token → List A → Type 0) → List Token → List A → Type 0
OrEmpty P = Made or_none (Either P (None (tt {0})))

-- the tokens are the rule's, with this value
abbrev pub Spells : {A : Type 0} → Rule A → List Token → A → Type 0
Spells none = None (tt {0})
Spells (keep f s) = One f (set s)
Spells (skip s g) = Behind s (Spells g)
Spells (ends g l s) = Before (Spells g) s
Spells (seq g h) = Both (Spells g) (Spells h)
Spells (alt g h) = Either (Spells g) (Spells h)
Spells (many g) = Each (Spells g)
Spells (some g) = Made joined (Both (Spells g) (Each (Spells g)))
Spells (separated s g) = Made joined (Both (Spells g) (Each (Behind s (Spells g))))
Spells (section s g) = OrEmpty (Behind s (Each (Spells g)))
Spells (braces o s g l e) = OrEmpty (Behind o (Before (OrEmpty (Behind s (Each (Spells g)))) e))
Spells (checked g f s ok at) = Both (Spells g) (One f (set s))
Spells (or_left_out l g) = Spells g
Spells (placed g) = Placed (Spells g)
Spells (made to from back g) = Made to (Spells g)
Spells term = λ ts v. Term v ts
Spells path = Made joined (Both (One name_of name) Chain)

abbrev pub FitEach : {A : Type 0} → (A → Type 0) → List A → Type 0
FitEach F [] = Unit {0}
FitEach F (a ∷ xs) = F a × FitEach F xs

abbrev pub FitEither : {A B : Type 0} → (A → Type 0) → (B → Type 0) → A ⊎ B → Type 0
FitEither F G (inl a) = F a
FitEither F G (inr b) = G b

-- no term is too deep, no path too long, and each test is passed
abbrev pub Fits : {A : Type 0} → Rule A → A → Type 0
Fits none = λ a. Unit {0}
Fits (keep f s) = λ a. Unit {0}
Fits (skip s g) = Fits g
Fits (ends g l s) = Fits g
Fits (seq g h) = λ x. Fits g x.0 × Fits h x.1
Fits (alt g h) = FitEither (Fits g) (Fits h)
Fits (many g) = FitEach (Fits g)
Fits (some g) = FitEach (Fits g)
Fits (separated s g) = FitEach (Fits g)
Fits (section s g) = FitEach (Fits g)
Fits (braces o s g l e) = FitEach (Fits g)
Fits (checked g f s ok at) = λ x. Fits g x.0 × (ok x.0 x.1 ≡ true)
Fits (or_left_out l g) = Fits g
Fits (placed g) = λ x. Fits g x.1
Fits (made to from back g) = λ b. Fits g (from b)
Fits term = λ v. levels v ≤ most_levels
Fits path = λ ns. length ns ≤ most_names

-- the tokens that a rule may begin with, whether it may be empty, and the tokens that may go on where it could end
abbrev pub empty : {A : Type 0} → Rule A → Bool
empty none = true
empty (keep f s) = false
empty (skip s g) = false
empty (ends g l s) = when (empty g) false
empty (seq g h) = when (empty g) (empty h)
empty (alt g h) = empty h
empty (many g) = true
empty (some g) = false
empty (separated s g) = false
empty (section s g) = true
empty (braces o s g l e) = true
empty (checked g f s ok at) = when (empty g) false
empty (or_left_out l g) = false
empty (placed g) = false
empty (made to from back g) = empty g
empty term = false
empty path = false

abbrev pub first : {A : Type 0} → Rule A → Set
first none c = false
first (keep f s) c = s c
first (skip s g) c = s c
first (ends g l s) c = either (when (empty g) (s c)) (first g c)
first (seq g h) c = either (when (empty g) (first h c)) (first g c)
first (alt g h) c = either (first g c) (first h c)
first (many g) c = first g c
first (some g) c = first g c
first (separated s g) c = first g c
first (section s g) c = either (s c) false
first (braces o s g l e) c = either (o c) false
first (checked g f s ok at) c = either (when (empty g) (s c)) (first g c)
first (or_left_out l g) c = first g c
first (placed g) c = first g c
first (made to from back g) c = first g c
first term c = either (same c classes.Text) (is_name c)
first path c = is_name c

abbrev pub more : {A : Type 0} → Rule A → Set
more none c = false
more (keep f s) c = false
more (skip s g) c = either (when (empty g) false) (more g c)
more (ends g l s) c = false
more (seq g h) c = either (when (empty h) (more g c)) (more h c)
more (alt g h) c = either (when (empty h) (first g c)) (either (more g c) (more h c))
more (many g) c = either (first g c) (more g c)
more (some g) c = either (more g c) (either (first g c) (more g c))
more (separated s g) c = either (more g c) (either (s c) (either (when (empty g) false) (more g c)))
more (section s g) c = either (s c) (either (either (first g c) (more g c)) false)
more (braces o s g l e) c = either (o c) false
more (checked g f s ok at) c = false
more (or_left_out l g) c = more g c
more (placed g) c = more g c
more (made to from back g) c = more g c
more term c = either (same c classes.LeftParen) (same c classes.Dot)
more path c = same c classes.Dot

-- where, and why, a token may be refused behind others
abbrev pub InBehind : Set → Halts → Halts
InBehind s D = InBoth (One nothing_kept (set s)) AtOne D

abbrev pub InBefore : {A : Type 0} → (List Token → A → Type 0) → Halts → Left → Halts
InBefore P D l = InBoth P D (InOr (outs l) AtOne)

abbrev pub InOrEmpty : {A : Type 0} → Set → (List Token → A → Type 0) → Halts → Halts
InOrEmpty s P D = InEither (set s) P D Nowhere

abbrev pub Refuses : {A : Type 0} → Rule A → Halts
Refuses none = Nowhere
Refuses (keep f s) = AtOne
Refuses (skip s g) = InBehind s (Refuses g)
Refuses (ends g l s) = InBefore (Spells g) (Refuses g) l
Refuses (seq g h) = InBoth (Spells g) (Refuses g) (Refuses h)
Refuses (alt g h) = InEither (set (first g)) (Spells g) (Refuses g) (Refuses h)
Refuses (many g) = InEach (set (first g)) (Spells g) (Refuses g)
Refuses (some g) = InBoth (Spells g) (Refuses g) (InEach (set (first g)) (Spells g) (Refuses g))
Refuses (separated s g) = InBoth (Spells g) (Refuses g) (InEach (set s) (Behind s (Spells g)) (InBehind s (Refuses g)))
Refuses (section s g) = InOrEmpty s (Behind s (Each (Spells g))) (InBehind s (InEach (set (first g)) (Spells g) (Refuses g)))
Refuses (braces o s g l e) =
    InOrEmpty o (Behind o (Before (OrEmpty (Behind s (Each (Spells g)))) e))
    (InBehind o (InBefore (OrEmpty (Behind s (Each (Spells g))))
    (InOrEmpty s (Behind s (Each (Spells g))) (InBehind s (InEach (set (first g)) (Spells g) (Refuses g)))) l))
Refuses (checked g f s ok at) = InBothBy (Spells g) (Refuses g) (λ a. AtGuard f (set s) (ok a) (BadOption (at a)))
Refuses (or_left_out l g) = InOr (outs l) (Refuses g)
Refuses (placed g) = Refuses g
Refuses (made to from back g) = Refuses g
Refuses term = OverTerm most_levels
Refuses path = InBoth (One name_of name) AtOne (OverChain (most_names - 1))

-- reading by the rule
abbrev pub read_behind : {A : Type 0} → Set → (List Token → Out A) → List Token → Out A
read_behind s p ts = mapped second (read_seq (read_keep nothing_kept (set s)) p ts)

abbrev pub read_before : {A : Type 0} → (List Token → Out A) → Left → Set → List Token → Out A
read_before p l s ts = mapped first_of (read_seq p (read_or (outs l) (read_keep nothing_kept (set s))) ts)

abbrev pub read_or_empty : {A : Type 0} → Set → (List Token → Out (List A)) → List Token → Out (List A)
read_or_empty s p ts = mapped or_none (read_alt (set s) p (read_none (tt {0})) ts)

abbrev pub read : {A : Type 0} → Rule A → List Token → Out A
read none ts = read_none (tt {0}) ts
read (keep f s) ts = read_keep f (set s) ts
read (skip s g) ts = read_behind s (read g) ts
read (ends g l s) ts = read_before (read g) l s ts
read (seq g h) ts = read_seq (read g) (read h) ts
read (alt g h) ts = read_alt (set (first g)) (read g) (read h) ts
read (many g) ts = read_many (set (first g)) (read g) ts
read (some g) ts = mapped joined (read_seq (read g) (read_many (set (first g)) (read g)) ts)
read (separated s g) ts = mapped joined (read_seq (read g) (read_many (set s) (read_behind s (read g))) ts)
read (section s g) ts = read_or_empty s (read_behind s (read_many (set (first g)) (read g))) ts
read (braces o s g l e) ts =
    read_or_empty o (read_behind o (read_before (read_or_empty s (read_behind s (read_many (set (first g)) (read g)))) l e)) ts
read (checked g f s ok at) ts = read_bind (read g) (λ a. read_guard f (set s) (ok a) (BadOption (at a))) ts
read (or_left_out l g) ts = read_or (outs l) (read g) ts
read (placed g) ts = read_placed (read g) ts
read (made to from back g) ts = mapped to (read g ts)
read term ts = read_term most_levels ts
read path ts = mapped joined (read_seq (read_keep name_of name) (read_chain (most_names - 1)) ts)

-- the next token alone decides
abbrev pub nand : Bool → Bool → Bool
nand true true = false
nand true false = true
nand false b = true

abbrev pub not : Bool → Bool
not true = false
not false = true

abbrev pub apart : Set → Set → Bool
apart s s' = every (λ c. nand (s' c) (s c))

-- no class of the set is left out
abbrev pub none_out : Left → Set → Bool
none_out l s = every (λ c. nand (s c) (not (nat_eq (l c) 0)))

abbrev pub any_of : Set → List Class → Bool
any_of s [] = false
any_of s (c ∷ cs) = either (s c) (any_of s cs)

abbrev pub one_in : Set → Bool
one_in s = any_of s all_classes

abbrev pub item_decides : {A : Type 0} → Rule A → Bool
item_decides g = both (not (empty g)) (apart (more g) (first g))

abbrev pub decides : {A : Type 0} → Rule A → Bool
decides none = true
decides (keep f s) = one_in s
decides (skip s g) = both (one_in s) (decides g)
decides (ends g l s) = both (decides g) (both (one_in s) (both (none_out l s) (apart (more g) s)))
decides (seq g h) = both (decides g) (both (decides h) (apart (more g) (first h)))
decides (alt g h) = both (decides g) (both (decides h) (both (not (empty g)) (apart (first g) (first h))))
decides (many g) = both (decides g) (item_decides g)
decides (some g) = both (decides g) (item_decides g)
decides (separated s g) = both (decides g) (both (one_in s) (both (not (empty g)) (apart (more g) s)))
decides (section s g) = both (one_in s) (both (decides g) (item_decides g))
decides (braces o s g l e) =
    both (one_in o) (both (both (one_in s) (both (decides g) (item_decides g)))
    (both (one_in e) (both (none_out l e) (apart (more (section s g)) e))))
decides (checked g f s ok at) = both (decides g) (both (one_in s) (apart (more g) s))
decides (or_left_out l g) = both (decides g) (both (not (empty g)) (none_out l (first g)))
decides (placed g) = both (decides g) (not (empty g))
decides (made to from back g) = decides g
decides term = true
decides path = true
