-- A class that no set of a rule has is in no text of the rule.
use Rattle.std.proofs.Common.{◌≡◌, ℕ, List, [], ◌∷◌, ◌++◌, Bool, true, false, ◌⊎◌, inl, inr, refl, sym, subst}
use Rattle.cq_lex.specs.declared.token.Token.{Token}
use Rattle.cq_rules.specs.declared.class.Class.TheVariants as classes
use Rattle.cq_rules.specs.Class.{class_of, Set, both, is, is_name, same}
use Rattle.cq_rules.specs.Relations.{Each, Chain, Either, None}
use Rattle.cq_rules.specs.Tree.{Tree, Trees, Word, Text, App, more, end, Term, Args, Dotted}
use Rattle.cq_rules.specs.Rule.{Rule, none, keep, skip, ends, seq, alt, many, some, separated, section, braces, checked, or_left_out, placed, made, term, path, set, Spells, Behind, Before, OrEmpty, apart}
use Rattle.cq_rules.proofs.Every.{apart_by}
use Rattle.cq_rules.proofs.Rules.{both_parts, four_parts}

-- no set of the rule has an End
abbrev pub endless : {A : Type 0} → Rule A → Bool
endless none = true
endless (keep f s) = apart (is classes.End) s
endless (skip s g) = both (apart (is classes.End) s) (endless g)
endless (ends g l s) = both (endless g) (apart (is classes.End) s)
endless (seq g h) = both (endless g) (endless h)
endless (alt g h) = both (endless g) (endless h)
endless (many g) = endless g
endless (some g) = endless g
endless (separated s g) = both (apart (is classes.End) s) (endless g)
endless (section s g) = both (apart (is classes.End) s) (endless g)
endless (braces o s g l e) = both (apart (is classes.End) o) (both (apart (is classes.End) s) (both (endless g) (apart (is classes.End) e)))
endless (checked g f s ok at) = both (endless g) (apart (is classes.End) s)
endless (or_left_out l g) = endless g
endless (placed g) = endless g
endless (made to from back g) = endless g
endless term = true
endless path = true

abbrev pub NoEnd : List Token → Type 0
NoEnd [] = Unit {0}
NoEnd (t ∷ ts) = (same (class_of t) classes.End ≡ false) × NoEnd ts

no_end_append : (us vs : List Token) → NoEnd us → NoEnd vs → NoEnd (us ++ vs)
no_end_append [] vs h k = k
no_end_append (u ∷ us) vs h k = (h.0, no_end_append us vs h.1 k)

no_end_one : (s : Set) → apart (is classes.End) s ≡ true → (ts : List Token) (t : Token) → ts ≡ t ∷ [] → set s t ≡ true → NoEnd ts
no_end_one s a ts t e h = subst NoEnd (sym e) (apart_by (is classes.End) s a (class_of t) h, tt)

no_end_both : (ts us vs : List Token) → ts ≡ us ++ vs → NoEnd us → NoEnd vs → NoEnd ts
no_end_both ts us vs e h k = subst NoEnd (sym e) (no_end_append us vs h k)

not_end : (s : Set) → apart (is classes.End) s ≡ true → (t : Token) → set s t ≡ true → same (class_of t) classes.End ≡ false
not_end s a t h = apart_by (is classes.End) s a (class_of t) h

chain_no_end : (ns : List (List ℕ)) (ts : List Token) → Chain ts ns → NoEnd ts
chain_no_end [] ts h = subst NoEnd (sym h) tt
chain_no_end (n ∷ ns) ts h = subst NoEnd (sym h.3) (not_end (is classes.Dot) refl h.0 h.4, (not_end is_name refl h.1 h.5, chain_no_end ns h.2 h.7))

mutual
  term_no_end : (v : Tree) (ts : List Token) → Term v ts → NoEnd ts
  term_no_end (Word n) ts h = no_end_one is_name refl ts h.0 h.1 h.2
  term_no_end (Text n) ts h = no_end_one (is classes.Text) refl ts h.0 h.1 h.2
  term_no_end (App f vs) ts (inl h) =
      subst NoEnd (sym h.4) (not_end is_name refl h.0 h.5, (not_end (is classes.LeftParen) refl h.1 h.7, no_end_append h.2 (h.3 ∷ []) (args_no_end vs h.2 h.8) (not_end (is classes.RightParen) refl h.3 h.9, tt)))
  term_no_end (App f vs) ts (inr h) = dotted_no_end vs f ts h

  args_no_end : (vs : Trees) (ts : List Token) → Args vs ts → NoEnd ts
  args_no_end end ts h = absurd h
  args_no_end (more v end) ts h = term_no_end v ts h
  args_no_end (more v (more w ws)) ts h =
      no_end_both ts h.0 (h.1 ∷ h.2) h.3 (term_no_end v h.0 h.4) (not_end (is classes.Comma) refl h.1 h.5, args_no_end (more w ws) h.2 h.6)

  dotted_no_end : (vs : Trees) (f : List ℕ) (ts : List Token) → Dotted vs f ts → NoEnd ts
  dotted_no_end end f ts h = absurd h
  dotted_no_end (more v end) f ts h = no_end_both ts h.0 (h.1 ∷ h.2 ∷ []) h.3 (term_no_end v h.0 h.4) (not_end (is classes.Dot) refl h.1 h.5, (not_end is_name refl h.2 h.6, tt))
  dotted_no_end (more v (more w ws)) f ts h = absurd h

each_no_end : {A : Type 0} (R : List Token → A → Type 0) → ((ts : List Token) (a : A) → R ts a → NoEnd ts) → (xs : List A) (ts : List Token) → Each R ts xs → NoEnd ts
each_no_end R f [] ts h = subst NoEnd (sym h) tt
each_no_end R f (x ∷ xs) ts h = no_end_both ts h.0 h.1 h.2 (f h.0 x h.3) (each_no_end R f xs h.1 h.4)

behind_no_end : {A : Type 0} (s : Set) (R : List Token → A → Type 0) → apart (is classes.End) s ≡ true → ((ts : List Token) (a : A) → R ts a → NoEnd ts) → (ts : List Token) (x : A) → Behind s R ts x → NoEnd ts
behind_no_end s R e f ts x h = let b = h.1 in no_end_both ts b.0 b.1 b.2 (no_end_one s e b.0 b.3.0 b.3.1 b.3.2) (f b.1 h.0.1 b.4)

before_no_end : {A : Type 0} (s : Set) (R : List Token → A → Type 0) → apart (is classes.End) s ≡ true → ((ts : List Token) (a : A) → R ts a → NoEnd ts) → (ts : List Token) (x : A) → Before R s ts x → NoEnd ts
before_no_end s R e f ts x h = let b = h.1 in no_end_both ts b.0 b.1 b.2 (f b.0 h.0.0 b.3) (no_end_one s e b.1 b.4.0 b.4.1 b.4.2)

or_empty_no_end : {A : Type 0} (R : List Token → List A → Type 0) → ((ts : List Token) (a : List A) → R ts a → NoEnd ts) → (ts : List Token) (x : List A) → OrEmpty R ts x → NoEnd ts
or_empty_no_end {A = A} R f ts x h = at h.0 h.1
  where
    at : (y : List A ⊎ Unit {0}) → Either R (None (tt {0})) ts y → NoEnd ts
    at (inl xs) k = f ts xs k
    at (inr u) k = subst NoEnd (sym k.0) tt

section_no_end : {A : Type 0} (s : Set) (R : List Token → A → Type 0) → apart (is classes.End) s ≡ true → ((ts : List Token) (a : A) → R ts a → NoEnd ts) → (ts : List Token) (x : List A) → OrEmpty (Behind s (Each R)) ts x → NoEnd ts
section_no_end s R e f ts x h = or_empty_no_end (Behind s (Each R)) (behind_no_end s (Each R) e (λ us xs k. each_no_end R f xs us k)) ts x h

pub no_end : {A : Type 0} (g : Rule A) → endless g ≡ true → (ts : List Token) (a : A) → Spells g ts a → NoEnd ts
no_end none e ts a h = subst NoEnd (sym h.0) tt
no_end (keep f s) e ts a h = no_end_one s e ts h.0 h.1 h.2
no_end (skip s g) e ts a h =
    let k = both_parts (apart (is classes.End) s) (endless g) e in
    behind_no_end s (Spells g) k.0 (no_end g k.1) ts a h
no_end (ends g l s) e ts a h =
    let k = both_parts (endless g) (apart (is classes.End) s) e in
    before_no_end s (Spells g) k.1 (no_end g k.0) ts a h
no_end (seq g h) e ts a b =
    let k = both_parts (endless g) (endless h) e in
    no_end_both ts b.0 b.1 b.2 (no_end g k.0 b.0 a.0 b.3) (no_end h k.1 b.1 a.1 b.4)
no_end (alt g h) e ts (inl a) b = let k = both_parts (endless g) (endless h) e in no_end g k.0 ts a b
no_end (alt g h) e ts (inr a) b = let k = both_parts (endless g) (endless h) e in no_end h k.1 ts a b
no_end (many g) e ts a h = each_no_end (Spells g) (no_end g e) a ts h
no_end (some g) e ts a h = let b = h.1 in no_end_both ts b.0 b.1 b.2 (no_end g e b.0 h.0.0 b.3) (each_no_end (Spells g) (no_end g e) h.0.1 b.1 b.4)
no_end (separated s g) e ts a h =
    let k = both_parts (apart (is classes.End) s) (endless g) e in
    let b = h.1 in
    no_end_both ts b.0 b.1 b.2 (no_end g k.1 b.0 h.0.0 b.3) (each_no_end (Behind s (Spells g)) (behind_no_end s (Spells g) k.0 (no_end g k.1)) h.0.1 b.1 b.4)
no_end (section s g) e ts a h =
    let k = both_parts (apart (is classes.End) s) (endless g) e in
    section_no_end s (Spells g) k.0 (no_end g k.1) ts a h
no_end (braces o s g l c) e ts a h =
    let k = four_parts (apart (is classes.End) o) (apart (is classes.End) s) (endless g) (apart (is classes.End) c) e in
    or_empty_no_end (Behind o (Before (OrEmpty (Behind s (Each (Spells g)))) c)) (behind_no_end o (Before (OrEmpty (Behind s (Each (Spells g)))) c) k.0 (before_no_end c (OrEmpty (Behind s (Each (Spells g)))) k.3 (section_no_end s (Spells g) k.1 (no_end g k.2)))) ts a h
no_end (checked g f s ok at) e ts a b =
    let k = both_parts (endless g) (apart (is classes.End) s) e in
    no_end_both ts b.0 b.1 b.2 (no_end g k.0 b.0 a.0 b.3) (no_end_one s k.1 b.1 b.4.0 b.4.1 b.4.2)
no_end (or_left_out l g) e ts a h = no_end g e ts a h
no_end (placed g) e ts a h = no_end g e ts a.1 h.0
no_end (made to from back g) e ts a h = no_end g e ts h.0 h.1
no_end term e ts a h = term_no_end a ts h
no_end path e ts a h = let b = h.1 in no_end_both ts b.0 b.1 b.2 (no_end_one is_name refl b.0 b.3.0 b.3.1 b.3.2) (chain_no_end h.0.1 b.1 b.4)
