-- Where the next token alone decides, each rule's reading obeys its laws.
use Rattle.std.proofs.Common.{◌≡◌, ◌-◌, List, [], ◌∷◌, Bool, true, false, ◌⊎◌, inl, inr, refl, sym, ap, ◌∙◌, arith, subst}
use Rattle.cq_lex.specs.declared.token.Token.{Token}
use Rattle.cq_base.specs.declared.place.Place.{Place}
use Rattle.cq_rules.specs.declared.class.Class.{Class}
use Rattle.cq_rules.specs.Class.{class_of, Set, both, all_classes}
use Rattle.cq_rules.specs.declared.why.Why.TheVariants.{BadOption}
use Rattle.cq_rules.specs.Outcome.{nothing_kept, Out, Tokens, either, when, name, name_of, read_keep, read_or}
use Rattle.cq_rules.specs.Relations.{One, Both, Either, Each, None, Halts, AtOne, InOr, Chain}
use Rattle.cq_rules.specs.Rule.{most_levels, most_names, Rule, none, keep, skip, ends, seq, alt, many, some, separated, section, braces, checked, or_left_out, placed, made, term, path, Left, set, outs, second, first_of, joined, or_none, Behind, Before, OrEmpty, Spells, FitEach, FitEither, Fits, InBehind, InBefore, InOrEmpty, Refuses, empty, first, more, read_behind, read_before, read_or_empty, read, not, apart, none_out, any_of, one_in, item_decides, decides}
use Rattle.cq_rules.proofs.Laws.{Laws}
use Rattle.cq_rules.proofs.Keep.{nothing, Free, keep_laws}
use Rattle.cq_rules.proofs.Seq.{seq_laws, bind_laws}
use Rattle.cq_rules.proofs.Alt.{alt_laws}
use Rattle.cq_rules.proofs.Many.{many_laws}
use Rattle.cq_rules.proofs.Made.{none_laws, made_laws}
use Rattle.cq_rules.proofs.Or.{or_laws}
use Rattle.cq_rules.proofs.Guard.{guard_laws}
use Rattle.cq_rules.proofs.Placed.{placed_laws}
use Rattle.cq_rules.proofs.Chain.{chain_laws, Within}
use Rattle.cq_rules.proofs.TermLaws.{term_laws}
use Rattle.cq_rules.proofs.Every.{apart_by, none_out_by, left, right}
use Rattle.cq_rules.proofs.Shortest.{token_for, class_of_token_for, a_name, name_is}

not_true : (b : Bool) → not b ≡ true → b ≡ false
not_true true e = absurd (cc e)
not_true false e = refl

record Found (s : Set) : Type 0 where
  class : Class
  found : s class ≡ true

found_either : (s : Set) (b : Bool) (c : Class) → s c ≡ b → (rest : Bool) → (rest ≡ true → Found s) → either b rest ≡ true → Found s
found_either s true c h rest f e = record { class = c; found = h }
found_either s false c h rest f e = f e

found_in : (s : Set) (cs : List Class) → any_of s cs ≡ true → Found s
found_in s [] e = absurd (cc e)
found_in s (c ∷ cs) e = found_either s (s c) c refl (any_of s cs) (found_in s cs) e

token_in : (s : Set) → one_in s ≡ true → (x : Token) × (set s x ≡ true)
token_in s e = let h = found_in s all_classes e in (token_for h.class, ap s (class_of_token_for h.class) ∙ h.found)

kept : {A : Type 0} (f : Token → A) (s : Set) → one_in s ≡ true → Laws (One f (set s)) Free AtOne (read_keep f (set s)) (set s) false nothing
kept f s e = let h = token_in s e in keep_laws f (set s) h.0 h.1

pub apart_tokens : (s s' : Set) → apart s s' ≡ true → (t : Token) → set s' t ≡ true → set s t ≡ false
apart_tokens s s' e t h = apart_by s s' e (class_of t) h

out_tokens : (l : Left) (s : Set) → none_out l s ≡ true → (t : Token) → set s t ≡ true → outs l t ≡ 0
out_tokens l s e t h = none_out_by l s e (class_of t) h

-- a token of the set, where words may be left out
kept_or : (l : Left) (s : Set) → one_in s ≡ true → none_out l s ≡ true → Laws (One nothing_kept (set s)) Free (InOr (outs l) AtOne) (read_or (outs l) (read_keep nothing_kept (set s))) (set s) false nothing
kept_or l s e o = or_laws (One nothing_kept (set s)) Free AtOne (read_keep nothing_kept (set s)) (set s) nothing (outs l) (kept nothing_kept s e) (out_tokens l s o)

-- the laws of a rule, by its sets
abbrev pub RuleLaws : {A : Type 0} → Rule A → Type 0
RuleLaws g = Laws (Spells g) (Fits g) (Refuses g) (read g) (set (first g)) (empty g) (set (more g))

-- a token, and then a reader
module _ {A : Type 0} (s : Set) (R : List Token → A → Type 0) (F : A → Type 0) (D : Halts) (p : List Token → Out A) (s' : Tokens) (n' : Bool) (m' : Tokens) (one : one_in s ≡ true) (g : Laws R F D p s' n' m') where
  pub behind_laws : Laws (Behind s R) F (InBehind s D) (read_behind s p) (set s) false (λ t. either (when n' false) (m' t))
  behind_laws = made_laws second (Both (One nothing_kept (set s)) R) (λ x. Free x.0 × F x.1) F (InBehind s D) (InBehind s D) _ _ _ _ (seq_laws _ _ _ _ _ _ _ _ _ _ _ _ _ _ (kept nothing_kept s one) g (λ t h. refl)) (λ x h. h.1) (λ x h. (tt, h)) (λ pre t w d. d) (λ pre t w k d. d)

-- a reader, and then a token
module _ {A : Type 0} (l : Left) (s : Set) (R : List Token → A → Type 0) (F : A → Type 0) (D : Halts) (p : List Token → Out A) (s' : Tokens) (n' : Bool) (m' : Tokens) (one : one_in s ≡ true) (out : none_out l s ≡ true) (clear : (t : Token) → set s t ≡ true → m' t ≡ false) (g : Laws R F D p s' n' m') where
  before_laws : Laws (Before R s) F (InBefore R D l) (read_before p l s) (λ t. either (when n' (set s t)) (s' t)) (when n' false) nothing
  before_laws = made_laws first_of (Both R (One nothing_kept (set s))) (λ x. F x.0 × Free x.1) F (InBefore R D l) (InBefore R D l) _ _ _ _ (seq_laws _ _ _ _ _ _ _ _ _ _ _ _ _ _ g (kept_or l s one out) clear) (λ x h. h.0) (λ x h. (h, tt)) (λ pre t w d. d) (λ pre t w k d. d)

-- nothing, or a reader of a list
module _ {A : Type 0} (s : Set) (R : List Token → List A → Type 0) (G : A → Type 0) (D : Halts) (p : List Token → Out (List A)) (m : Tokens) (one : Laws R (FitEach G) D p (set s) false m) where
  to_list : (x : List A ⊎ Unit {0}) → FitEither (FitEach G) Free x → FitEach G (or_none x)
  to_list (inl xs) h = h
  to_list (inr u) h = tt

  from_list : (x : List A ⊎ Unit {0}) → FitEach G (or_none x) → FitEither (FitEach G) Free x
  from_list (inl xs) h = h
  from_list (inr u) h = tt

  or_empty_laws : Laws (OrEmpty R) (FitEach G) (InOrEmpty s R D) (read_or_empty s p) (λ t. either (set s t) false) true (λ t. either (set s t) (either (m t) false))
  or_empty_laws =
      made_laws or_none (Either R (None (tt {0}))) (FitEither (FitEach G) Free) (FitEach G) (InOrEmpty s R D) (InOrEmpty s R D) _ _ _ _ (alt_laws _ _ _ _ _ _ _ _ _ _ _ _ _ one (none_laws (tt {0}) Free tt) (λ t h. absurd (cc h))) to_list from_list (λ pre t w d. d) (λ pre t w l d. d)

pub both_parts : (a b : Bool) → both a b ≡ true → (a ≡ true) × (b ≡ true)
both_parts a b e = (left a b e, right a b e)

pub three_parts : (a b c : Bool) → both a (both b c) ≡ true → (a ≡ true) × (b ≡ true) × (c ≡ true)
three_parts a b c e = (left a _ e, left b c (right a _ e), right b c (right a _ e))

pub four_parts : (a b c d : Bool) → both a (both b (both c d)) ≡ true → (a ≡ true) × (b ≡ true) × (c ≡ true) × (d ≡ true)
four_parts a b c d e = let h = three_parts b c d (right a _ e) in (left a _ e, h.0, h.1, h.2)

module _ {A : Type 0} (g : Rule A) (laws_g : RuleLaws g) where
  pub full : not (empty g) ≡ true → Laws (Spells g) (Fits g) (Refuses g) (read g) (set (first g)) false (set (more g))
  full e = subst (λ n. Laws (Spells g) (Fits g) (Refuses g) (read g) (set (first g)) n (set (more g))) (not_true (empty g) e) laws_g

  pub item_full : item_decides g ≡ true → Laws (Spells g) (Fits g) (Refuses g) (read g) (set (first g)) false (set (more g))
  item_full e = full (both_parts (not (empty g)) (apart (more g) (first g)) e).0

  pub item_apart : item_decides g ≡ true → (t : Token) → set (first g) t ≡ true → set (more g) t ≡ false
  item_apart e = apart_tokens (more g) (first g) (both_parts (not (empty g)) (apart (more g) (first g)) e).1

  many_rule : item_decides g ≡ true → RuleLaws (many g)
  many_rule e = many_laws _ _ _ _ _ _ (item_full e) (item_apart e)

  some_rule : item_decides g ≡ true → RuleLaws (some g)
  some_rule e =
      made_laws joined (Both (Spells g) (Each (Spells g))) (λ x. Fits g x.0 × FitEach (Fits g) x.1) (FitEach (Fits g)) (Refuses (some g)) (Refuses (some g)) _ _ _ _ (seq_laws _ _ _ _ _ _ _ _ _ _ _ _ _ _ (item_full e) (many_rule e) (item_apart e)) (λ x h. h) (λ x h. h) (λ pre t w d. d) (λ pre t w l d. d)

  more_apart : (s : Set) → not (empty g) ≡ true → apart (more g) s ≡ true → (t : Token) → set s t ≡ true → either (when (empty g) false) (set (more g) t) ≡ false
  more_apart s n a t h = rw (not_true (empty g) n) (apart_tokens (more g) s a t h)

  pub separators : (s : Set) → one_in s ≡ true → Laws (Behind s (Spells g)) (Fits g) (InBehind s (Refuses g)) (read_behind s (read g)) (set s) false (λ t. either (when (empty g) false) (set (more g) t))
  separators s o = behind_laws s (Spells g) (Fits g) (Refuses g) (read g) (set (first g)) (empty g) (set (more g)) o laws_g

  separated_rule : (s : Set) → one_in s ≡ true → not (empty g) ≡ true → apart (more g) s ≡ true → RuleLaws (separated s g)
  separated_rule s o n a =
      made_laws joined (Both (Spells g) (Each (Behind s (Spells g)))) (λ x. Fits g x.0 × FitEach (Fits g) x.1) (FitEach (Fits g)) (Refuses (separated s g)) (Refuses (separated s g)) _ _ _ _ (seq_laws _ _ _ _ _ _ _ _ _ _ _ _ _ _ (full n) (many_laws _ _ _ _ _ _ (separators s o) (more_apart s n a)) (apart_tokens (more g) s a)) (λ x h. h) (λ x h. h) (λ pre t w d. d) (λ pre t w l d. d)

  section_rule : (s : Set) → one_in s ≡ true → item_decides g ≡ true → RuleLaws (section s g)
  section_rule s o e =
      or_empty_laws s (Behind s (Each (Spells g))) (Fits g) _ _ _ (behind_laws s (Each (Spells g)) (FitEach (Fits g)) (Refuses (many g)) (read (many g)) _ _ _ o (many_rule e))

  braces_rule : (o s : Set) (l : Left) (e : Set) → one_in o ≡ true → one_in s ≡ true → item_decides g ≡ true → one_in e ≡ true → none_out l e ≡ true → apart (more (section s g)) e ≡ true → RuleLaws (braces o s g l e)
  braces_rule o s l e oo os d oe n a =
      or_empty_laws o _ (Fits g) _ _ _ (behind_laws o _ (FitEach (Fits g)) _ _ _ _ _ oo (before_laws l e (Spells (section s g)) (FitEach (Fits g)) (Refuses (section s g)) (read (section s g)) _ _ _ oe n (apart_tokens (more (section s g)) e a) (section_rule s os d)))

path_laws : RuleLaws path
unfolding most_names
path_laws =
    made_laws joined (Both (One name_of name) Chain) (λ x. Free x.0 × Within (most_names - 1) x.1) (Fits path) (Refuses path) (Refuses path) _ _ _ _ (seq_laws _ _ _ _ _ _ _ _ _ _ _ _ _ _ (keep_laws name_of name a_name name_is) (chain_laws (most_names - 1)) (λ t h. refl)) (λ x h. let k = h.1 in omega arith) (λ x h. (tt, omega arith)) (λ pre t w d. d) (λ pre t w l d. d)

checked_rule : {A B : Type 0} (g : Rule A) (f : Token → B) (s : Set) (ok : A → B → Bool) (at : A → Place) → RuleLaws g → one_in s ≡ true → apart (more g) s ≡ true → RuleLaws (checked g f s ok at)
checked_rule g f s ok at k o a =
    let x = token_in s o in
    bind_laws _ _ _ _ _ _ _ _ _ _ _ _ _ _ k (λ v. guard_laws f (set s) (ok v) (BadOption (at v)) tt x.0 x.1) (apart_tokens (more g) s a)

alt_rule : {A B : Type 0} (g : Rule A) (h : Rule B) → RuleLaws g → RuleLaws h → not (empty g) ≡ true → apart (first g) (first h) ≡ true → RuleLaws (alt g h)
alt_rule g h k l n a = alt_laws _ _ _ _ _ _ _ _ _ _ _ _ _ (full g k n) l (apart_tokens (first g) (first h) a)

made_rule : {A B : Type 0} (to : A → B) (from : B → A) (back : (a : A) → from (to a) ≡ a) (g : Rule A) → RuleLaws g → RuleLaws (made to from back g)
made_rule to from back g k =
    made_laws to (Spells g) (Fits g) (λ b. Fits g (from b)) (Refuses g) (Refuses g) (read g) _ _ _ k (λ a h. subst (Fits g) (sym (back a)) h) (λ a h. subst (Fits g) (back a) h) (λ pre t w d. d) (λ pre t w l d. d)

pub laws : {A : Type 0} (g : Rule A) → decides g ≡ true → RuleLaws g
laws none e = none_laws (tt {0}) Free tt
laws (keep f s) e = kept f s e
laws (skip s g) e =
    let h = both_parts (one_in s) (decides g) e in
    behind_laws s (Spells g) (Fits g) (Refuses g) (read g) (set (first g)) (empty g) (set (more g)) h.0 (laws g h.1)
laws (ends g l s) e =
    let h = four_parts (decides g) (one_in s) (none_out l s) (apart (more g) s) e in
    before_laws l s (Spells g) (Fits g) (Refuses g) (read g) (set (first g)) (empty g) (set (more g)) h.1 h.2 (apart_tokens (more g) s h.3) (laws g h.0)
laws (seq g h) e =
    let k = three_parts (decides g) (decides h) (apart (more g) (first h)) e in
    seq_laws _ _ _ _ _ _ _ _ _ _ _ _ _ _ (laws g k.0) (laws h k.1) (apart_tokens (more g) (first h) k.2)
laws (alt g h) e =
    let k = four_parts (decides g) (decides h) (not (empty g)) (apart (first g) (first h)) e in
    alt_rule g h (laws g k.0) (laws h k.1) k.2 k.3
laws (many g) e = let h = both_parts (decides g) (item_decides g) e in many_rule g (laws g h.0) h.1
laws (some g) e = let h = both_parts (decides g) (item_decides g) e in some_rule g (laws g h.0) h.1
laws (separated s g) e =
    let h = four_parts (decides g) (one_in s) (not (empty g)) (apart (more g) s) e in
    separated_rule g (laws g h.0) s h.1 h.2 h.3
laws (section s g) e = let h = three_parts (one_in s) (decides g) (item_decides g) e in section_rule g (laws g h.1) s h.0 h.2
laws (braces o s g l c) e =
    let h = three_parts (one_in o) (both (one_in s) (both (decides g) (item_decides g))) (both (one_in c) (both (none_out l c) (apart (more (section s g)) c))) e in
    let i = three_parts (one_in s) (decides g) (item_decides g) h.1 in
    let j = three_parts (one_in c) (none_out l c) (apart (more (section s g)) c) h.2 in
    braces_rule g (laws g i.1) o s l c h.0 i.0 i.2 j.0 j.1 j.2
laws (checked g f s ok at) e =
    let h = three_parts (decides g) (one_in s) (apart (more g) s) e in
    checked_rule g f s ok at (laws g h.0) h.1 h.2
laws (or_left_out l g) e =
    let h = three_parts (decides g) (not (empty g)) (none_out l (first g)) e in
    or_laws (Spells g) (Fits g) (Refuses g) (read g) (set (first g)) (set (more g)) (outs l) (full g (laws g h.0) h.1) (out_tokens l (first g) h.2)
laws (placed g) e =
    let h = both_parts (decides g) (not (empty g)) e in
    placed_laws (Spells g) (Fits g) (Refuses g) (read g) (set (first g)) (set (more g)) (full g (laws g h.0) h.1)
laws (made to from back g) e = made_rule to from back g (laws g e)
laws term e = term_laws most_levels
laws path e = path_laws
