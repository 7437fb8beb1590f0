-- Terms: what reading one obeys.
use Rattle.std.proofs.Common.{◌≡◌, ℕ, zero, suc, ◌+◌, ◌-◌, ◌≤◌, List, [], ◌∷◌, ◌++◌, length, Bool, true, false, ◌⊎◌, inl, inr, refl, sym, ap, ◌∙◌, arith, subst, append_assoc}
use Rattle.cq_lex.specs.declared.token.Token.{Token}
use Rattle.cq_rules.specs.declared.class.Class.TheVariants as classes
use Rattle.cq_rules.specs.Class.{class_of, is_name, same}
use Rattle.cq_rules.specs.declared.why.Why.{Why}
use Rattle.cq_rules.specs.declared.why.Why.TheVariants.{Wanted, LeftOut, Deep, BadOption}
use Rattle.cq_rules.specs.Outcome.{nothing_kept, Out, Took, Stop, Tokens, IsLimit, IsNamed, either, leads, with_first, dot, name, name_of, read_keep, read_seq, read_bind, read_alt, read_many, read_none, read_chain}
use Rattle.cq_rules.specs.Relations.{One, Both, BothBy, Either, Each, None, Made, AtOne, InBoth, InBothBy, InEither, InEach, Nowhere, Chain, OverChain, Viable}
use Rattle.cq_rules.specs.Tree.{Tree, Word, Text, App, Trees, end, more, levels, deepest, text, opens, closes, comma, Term, Args, Dotted, begins_term, AllClose, OverTerm, dotted, dotted_pair, Bracket, values, applied, base_tree, read_item, read_bracket, read_named, read_base, halt_term, read_deep, read_term}
use Rattle.cq_rules.proofs.Laws.{Taken, Halted, Begins, Clear, Meets, Leading, HaltsBy, left, Agree, stop, Laws, widened}
use Rattle.cq_rules.proofs.Keep.{nothing, Free, keep_laws}
use Rattle.cq_rules.proofs.Seq.{seq_laws, bind_laws}
use Rattle.cq_rules.proofs.Alt.{alt_laws, alt_first, alt_more}
use Rattle.cq_rules.proofs.Many.{many_laws, many_step, many_end, many_stop}
use Rattle.cq_rules.specs.Rule.{FitEach, FitEither}
use Rattle.cq_rules.proofs.Made.{none_laws, made_laws}
use Rattle.cq_rules.proofs.Chain.{chain_laws, chain_more, Within, Names}
use Rattle.cq_rules.proofs.Limited.{AllNot, limited_by}
use Rattle.cq_rules.proofs.Seq.{either_true, at_head, append_empty}
use Rattle.cq_rules.proofs.Every.{apart_by}
use Rattle.cq_rules.proofs.Shortest.{a_name, a_text, an_open, a_close, a_comma, name_is, text_is, open_is, close_is, comma_is}

abbrev pub more_term : Tokens
more_term t = either (opens t) (dot t)

abbrev pub Within_levels : ℕ → Tree → Type 0
Within_levels b v = levels v ≤ b

abbrev CommaR : (List Token → Tree → Type 0) → List Token → Unit {0} × Tree → Type 0
CommaR T = Both (One nothing_kept comma) T

abbrev CommaF : ℕ → Unit {0} × Tree → Type 0
CommaF b x = Free x.0 × Within_levels b x.1

abbrev CommaD : (List Token → Token → Why → Type 0) → List Token → Token → Why → Type 0
CommaD D = InBoth (One nothing_kept comma) AtOne D

abbrev TailR : (List Token → Tree → Type 0) → List Token → List (Unit {0} × Tree) × Unit {0} → Type 0
TailR T = Both (Each (CommaR T)) (One nothing_kept closes)

abbrev TailF : ℕ → List (Unit {0} × Tree) × Unit {0} → Type 0
TailF b x = FitEach (CommaF b) x.0 × Free x.1

abbrev TailD : (List Token → Tree → Type 0) → (List Token → Token → Why → Type 0) → List Token → Token → Why → Type 0
TailD T D = InBoth (Each (CommaR T)) (InEach comma (CommaR T) (CommaD D)) AtOne

abbrev ArgR : (List Token → Tree → Type 0) → List Token → Tree × (List (Unit {0} × Tree) × Unit {0}) → Type 0
ArgR T = Both T (TailR T)

abbrev ArgF : ℕ → Tree × (List (Unit {0} × Tree) × Unit {0}) → Type 0
ArgF b x = Within_levels b x.0 × TailF b x.1

abbrev ArgD : (List Token → Tree → Type 0) → (List Token → Token → Why → Type 0) → List Token → Token → Why → Type 0
ArgD T D = InBoth T D (TailD T D)

abbrev BracketR : (List Token → Tree → Type 0) → List Token → Bracket → Type 0
BracketR T = Both (One nothing_kept opens) (ArgR T)

abbrev BracketF : ℕ → Bracket → Type 0
BracketF b x = Free x.0 × ArgF b x.1

abbrev BracketD : (List Token → Tree → Type 0) → (List Token → Token → Why → Type 0) → List Token → Token → Why → Type 0
BracketD T D = InBoth (One nothing_kept opens) AtOne (ArgD T D)

abbrev NamedR : (List Token → Tree → Type 0) → List Token → List ℕ × (Bracket ⊎ Unit {0}) → Type 0
NamedR T = Both (One name_of name) (Either (BracketR T) (None (tt {0})))

abbrev NamedF : ℕ → List ℕ × (Bracket ⊎ Unit {0}) → Type 0
NamedF b x = Free x.0 × FitEither (BracketF b) Free x.1

abbrev NamedD : (List Token → Tree → Type 0) → (List Token → Token → Why → Type 0) → List Token → Token → Why → Type 0
NamedD T D = InBoth (One name_of name) AtOne (InEither opens (BracketR T) (BracketD T D) Nowhere)

abbrev BaseR : (List Token → Tree → Type 0) → List Token → List ℕ ⊎ (List ℕ × (Bracket ⊎ Unit {0})) → Type 0
BaseR T = Either (One name_of text) (NamedR T)

abbrev BaseF : ℕ → List ℕ ⊎ (List ℕ × (Bracket ⊎ Unit {0})) → Type 0
BaseF b = FitEither Free (NamedF b)

abbrev BaseD : (List Token → Tree → Type 0) → (List Token → Token → Why → Type 0) → List Token → Token → Why → Type 0
BaseD T D = InEither text (One name_of text) AtOne (NamedD T D)

-- how many levels what stands there gives
within_values : (b : ℕ) (ps : List (Unit {0} × Tree)) → FitEach (CommaF b) ps → deepest (values ps) ≤ b
within_values b [] h = omega arith
within_values b (p ∷ ps) h = let one = h.0.1 in let others = within_values b ps h.1 in omega arith

values_within : (b : ℕ) (ps : List (Unit {0} × Tree)) → deepest (values ps) ≤ b → FitEach (CommaF b) ps
values_within b [] h = tt
values_within b (p ∷ ps) h = ((tt, omega arith), values_within b ps (omega arith))

base_to : (b : ℕ) (x : List ℕ ⊎ (List ℕ × (Bracket ⊎ Unit {0}))) → BaseF b x → levels (base_tree x) ≤ suc b
base_to b (inl x) h = omega arith
base_to b (inr p) h = applied_to b p.0 p.1 h.1
  where
    applied_to : (b : ℕ) (f : List ℕ) (x : Bracket ⊎ Unit {0}) → FitEither (BracketF b) Free x → levels (applied f x) ≤ suc b
    applied_to b f (inl x) h = let one = h.1.0 in let others = within_values b x.1.1.0 h.1.1.0 in omega arith
    applied_to b f (inr u) h = omega arith

base_from : (b : ℕ) (x : List ℕ ⊎ (List ℕ × (Bracket ⊎ Unit {0}))) → levels (base_tree x) ≤ suc b → BaseF b x
base_from b (inl x) h = tt
base_from b (inr p) h = (tt, applied_from b p.0 p.1 h)
  where
    applied_from : (b : ℕ) (f : List ℕ) (x : Bracket ⊎ Unit {0}) → levels (applied f x) ≤ suc b → FitEither (BracketF b) Free x
    applied_from b f (inl x) h = (tt, (omega arith, (values_within b x.1.1.0 (omega arith), tt)))
    applied_from b f (inr u) h = tt

-- how the parts of a term stand in the tokens, over what an argument is
module _ (T : List Token → Tree → Type 0) (b : ℕ) (D : List Token → Token → Why → Type 0) (p : List Token → Out Tree) (arg : Laws T (Within_levels b) D p begins_term false more_term) where
  comma_laws : Laws (CommaR T) (CommaF b) (CommaD D) (read_seq (read_keep nothing_kept comma) p) comma false more_term
  comma_laws = seq_laws _ _ _ _ _ _ _ _ _ _ _ _ _ _ (keep_laws nothing_kept comma a_comma comma_is) arg (λ t h. refl)

  commas_laws : Laws (Each (CommaR T)) (FitEach (CommaF b)) (InEach comma (CommaR T) (CommaD D)) (read_many comma (read_seq (read_keep nothing_kept comma) p)) comma true (λ t. either (comma t) (more_term t))
  commas_laws = many_laws _ _ _ _ _ _ comma_laws (λ t h. apart_by (λ c. either (same c classes.LeftParen) (same c classes.Dot)) (λ c. same c classes.Comma) refl (class_of t) h)

  tail_laws : Laws (TailR T) (TailF b) (TailD T D) (read_seq (read_many comma (read_seq (read_keep nothing_kept comma) p)) (read_keep nothing_kept closes)) (λ t. either (closes t) (comma t)) false nothing
  tail_laws = seq_laws _ _ _ _ _ _ _ _ _ _ _ _ _ _ commas_laws (keep_laws nothing_kept closes a_close close_is) (λ t h. apart_by (λ c. either (same c classes.Comma) (either (same c classes.LeftParen) (same c classes.Dot))) (λ c. same c classes.RightParen) refl (class_of t) h)

  arg_laws : Laws (ArgR T) (ArgF b) (ArgD T D) (read_seq p (read_seq (read_many comma (read_seq (read_keep nothing_kept comma) p)) (read_keep nothing_kept closes))) begins_term false nothing
  arg_laws = seq_laws _ _ _ _ _ _ _ _ _ _ _ _ _ _ arg tail_laws (λ t h. apart_by (λ c. either (same c classes.LeftParen) (same c classes.Dot)) (λ c. either (same c classes.RightParen) (same c classes.Comma)) refl (class_of t) h)

  bracket_laws : Laws (BracketR T) (BracketF b) (BracketD T D) (read_bracket p) opens false nothing
  bracket_laws = seq_laws _ _ _ _ _ _ _ _ _ _ _ _ _ _ (keep_laws nothing_kept opens an_open open_is) arg_laws (λ t h. refl)

  rest_laws : Laws (Either (BracketR T) (None (tt {0}))) (FitEither (BracketF b) Free) (InEither opens (BracketR T) (BracketD T D) Nowhere) (read_alt opens (read_bracket p) (read_none (tt {0}))) (alt_first opens nothing) true opens
  rest_laws = widened (alt_more opens nothing true nothing) opens (λ t h. rw h refl) (alt_laws _ _ _ _ _ _ _ _ _ _ _ _ _ bracket_laws (none_laws (tt {0}) Free tt) (λ t h. absurd (cc h)))

  named_laws : Laws (NamedR T) (NamedF b) (NamedD T D) (read_named p) name false opens
  named_laws = seq_laws _ _ _ _ _ _ _ _ _ _ _ _ _ _ (keep_laws name_of name a_name name_is) rest_laws (λ t h. refl)

  either_laws : Laws (BaseR T) (BaseF b) (BaseD T D) (read_alt text (read_keep name_of text) (read_named p)) begins_term false opens
  either_laws = alt_laws _ _ _ _ _ _ _ _ _ _ _ _ _ (keep_laws name_of text a_text text_is) named_laws (λ t h. apart_by (λ c. same c classes.Text) is_name refl (class_of t) h)

  base_laws : Laws (Made base_tree (BaseR T)) (Within_levels (suc b)) (BaseD T D) (read_base p) begins_term false opens
  base_laws = made_laws base_tree (BaseR T) (BaseF b) (Within_levels (suc b)) (BaseD T D) (BaseD T D) _ _ _ _ either_laws (base_to b) (base_from b) (λ pre t w d. d) (λ pre t w l d. d)

  whole_laws : Laws (BothBy (Made base_tree (BaseR T)) (λ v. Chain)) (λ x. Within_levels (suc b) x.0 × Within (suc b - levels x.0) x.1) (InBothBy (Made base_tree (BaseR T)) (BaseD T D) (λ v. OverChain (suc b - levels v))) (read_bind (read_base p) (λ v. read_chain (suc b - levels v))) begins_term false more_term
  whole_laws = bind_laws _ _ _ _ _ _ _ _ _ _ _ _ _ _ base_laws (λ v. chain_laws (suc b - levels v)) (λ t h. apart_by (λ c. same c classes.LeftParen) (λ c. same c classes.Dot) refl (class_of t) h)

-- the parts of a term, and the term
abbrev pub TermR : List Token → Tree → Type 0
TermR ts v = Term v ts

abbrev WholeR : List Token → Tree → Type 0
WholeR = Made dotted_pair (BothBy (Made base_tree (BaseR TermR)) (λ v. Chain))

args_of : (v : Tree) (us : List Token) (ps : List (Unit {0} × Tree)) (vs : List Token) → Term v us → Each (CommaR TermR) vs ps → Args (more v (values ps)) (us ++ vs)
args_of v us [] vs h k = subst (λ z. Term v (us ++ z)) (sym k) (subst (Term v) (sym (append_empty us)) h)
args_of v us (p ∷ ps) vs h k =
    let item = k.3 in
    let sign = item.3 in
    let others = args_of p.1 item.1 ps k.1 item.4 k.4 in
    let whole : us ++ vs ≡ us ++ sign.0 ∷ (item.1 ++ k.1) = ap (λ z. us ++ z) (k.2 ∙ ap (λ z. z ++ k.1) (item.2 ∙ ap (λ z. z ++ item.1) sign.1)) in
    (us, sign.0, item.1 ++ k.1, whole, h, sign.2, others)

to_bracket : (f : List ℕ) (t : Token) (b : Bracket) (vs : List Token) → name t ≡ true → f ≡ name_of t → BracketR TermR vs b → Term (applied f (inl b)) (t ∷ vs)
to_bracket f t b vs ht is h =
    let sign = h.3 in
    let args = h.4 in
    let tail = args.4 in
    let last = tail.4 in
    let whole : t ∷ vs ≡ t ∷ sign.0 ∷ ((args.0 ++ tail.0) ++ last.0 ∷ []) =
    ap (λ z. t ∷ z) (h.2 ∙ ap (λ z. z ++ h.1) sign.1 ∙ ap (λ z. sign.0 ∷ z) (args.2 ∙ ap (λ z. args.0 ++ z) (tail.2 ∙ ap (λ z. tail.0 ++ z) last.1) ∙ sym (append_assoc args.0 tail.0 (last.0 ∷ [])))) in
    inl (t, sign.0, args.0 ++ tail.0, last.0, whole, ht, is, sign.2, args_of b.1.0 args.0 b.1.1.0 tail.0 args.3 tail.3, last.2)

to_named : (f : List ℕ) (t : Token) (x : Bracket ⊎ Unit {0}) (vs : List Token) → name t ≡ true → f ≡ name_of t → Either (BracketR TermR) (None (tt {0})) vs x → Term (applied f x) (t ∷ vs)
to_named f t (inl b) vs ht is h = to_bracket f t b vs ht is h
to_named f t (inr u) vs ht is h = (t, ap (λ z. t ∷ z) h.0, ht, is)

to_base : (x : List ℕ ⊎ (List ℕ × (Bracket ⊎ Unit {0}))) (ts : List Token) → BaseR TermR ts x → Term (base_tree x) ts
to_base (inl x) ts h = h
to_base (inr p) ts h =
    let first = h.3 in
    let whole : first.0 ∷ h.1 ≡ ts = sym (h.2 ∙ ap (λ z. z ++ h.1) first.1) in
    subst (Term (applied p.0 p.1)) whole (to_named p.0 first.0 p.1 h.1 first.2 first.3 h.4)

to_dotted : (v : Tree) (ns : Names) (us vs : List Token) → Term v us → Chain vs ns → Term (dotted v ns) (us ++ vs)
to_dotted v [] us vs h k = subst (λ z. Term v (us ++ z)) (sym k) (subst (Term v) (sym (append_empty us)) h)
to_dotted v (n ∷ ns) us vs h k =
    let whole : (us ++ k.0 ∷ k.1 ∷ []) ++ k.2 ≡ us ++ vs = append_assoc us (k.0 ∷ k.1 ∷ []) k.2 ∙ ap (λ z. us ++ z) (sym k.3) in
    subst (Term (dotted (App n (more v end)) ns)) whole (to_dotted (App n (more v end)) ns (us ++ k.0 ∷ k.1 ∷ []) k.2 (inr (us, k.0, k.1, refl, h, k.4, k.5, k.6)) k.7)

to_term : (ts : List Token) (v : Tree) → WholeR ts v → TermR ts v
to_term ts v h =
    let parts = h.1 in
    let base = parts.3 in
    let first : Term h.0.0 parts.0 = subst (λ z. Term z parts.0) (sym base.2) (to_base base.0 parts.0 base.1) in
    subst (λ z. Term z ts) (sym h.2) (subst (Term (dotted h.0.0 h.0.1)) (sym parts.2) (to_dotted h.0.0 h.0.1 parts.0 parts.1 first parts.4))

record Arguments (v : Tree) (vs : Trees) (us : List Token) : Type 0 where
  one : List Token
  others : List Token
  split : us ≡ one ++ others
  first : Term v one
  items : List (Unit {0} × Tree)
  are : values items ≡ vs
  rest : Each (CommaR TermR) others items

from_args : (v : Tree) (vs : Trees) (us : List Token) → Args (more v vs) us → Arguments v vs us
from_args v end us h = record { one = us; others = []; split = sym (append_empty us); first = h; items = []; are = refl; rest = refl }
from_args v (more w ws) us h =
    let k = from_args w ws h.2 h.6 in
    record {
      one = h.0;
      others = h.1 ∷ h.2;
      split = h.3;
      first = h.4;
      items = (tt, w) ∷ k.items;
      are = ap (λ z. more w z) k.are;
      rest = (h.1 ∷ k.one, k.others, ap (λ z. h.1 ∷ z) k.split, (h.1 ∷ [], k.one, refl, (h.1, refl, h.5, refl), k.first), k.rest);
    }

dotted_more : (v : Tree) (ns : Names) (n : List ℕ) → dotted v (ns ++ n ∷ []) ≡ App n (more (dotted v ns) end)
dotted_more v [] n = refl
dotted_more v (m ∷ ns) n = dotted_more (App m (more v end)) ns n

from_base : (x : List ℕ ⊎ (List ℕ × (Bracket ⊎ Unit {0}))) (v : Tree) (ts : List Token) → v ≡ base_tree x → BaseR TermR ts x → WholeR ts v
from_base x v ts is h = ((v, []), (ts, [], sym (append_empty ts), (x, h, is), refl), refl)

from_applied : (f : List ℕ) (v : Tree) (vs : Trees) (ts : List Token) (t o : Token) (us : List Token) (c : Token) → ts ≡ t ∷ o ∷ (us ++ c ∷ []) → name t ≡ true → f ≡ name_of t → opens o ≡ true → Args (more v vs) us → closes c ≡ true → WholeR ts (App f (more v vs))
from_applied f v vs ts t o us c e ht is ho args hc =
    let k = from_args v vs us args in
    let b : Bracket = (tt, (v, (k.items, tt))) in
    let split : us ++ c ∷ [] ≡ k.one ++ (k.others ++ c ∷ []) = ap (λ z. z ++ c ∷ []) k.split ∙ append_assoc k.one k.others (c ∷ []) in
    let bracket : BracketR TermR (o ∷ (us ++ c ∷ [])) b = (o ∷ [], us ++ c ∷ [], refl, (o, refl, ho, refl), (k.one, k.others ++ c ∷ [], split, k.first, (k.others, c ∷ [], refl, k.rest, (c, refl, hc, refl)))) in
    from_base (inr (f, inl b)) (App f (more v vs)) ts (ap (λ z. App f (more v z)) (sym k.are)) (t ∷ [], o ∷ (us ++ c ∷ []), e, (t, refl, ht, is), bracket)

from_dotted : (f : List ℕ) (v : Tree) (ts us : List Token) (d n : Token) → ts ≡ us ++ d ∷ n ∷ [] → dot d ≡ true → name n ≡ true → f ≡ name_of n → WholeR us v → WholeR ts (App f (more v end))
from_dotted f v ts us d n e hd hn is h =
    let parts = h.1 in
    let whole : ts ≡ parts.0 ++ (parts.1 ++ d ∷ n ∷ []) = e ∙ ap (λ z. z ++ d ∷ n ∷ []) parts.2 ∙ append_assoc parts.0 parts.1 (d ∷ n ∷ []) in
    let value : App f (more v end) ≡ dotted h.0.0 (h.0.1 ++ name_of n ∷ []) = ap (λ z. App z (more v end)) is ∙ ap (λ z. App (name_of n) (more z end)) h.2 ∙ sym (dotted_more h.0.0 h.0.1 (name_of n)) in
    ((h.0.0, h.0.1 ++ name_of n ∷ []), (parts.0, parts.1 ++ d ∷ n ∷ [], whole, parts.3, chain_more h.0.1 parts.1 d n parts.4 hd hn), value)

from_term : (v : Tree) (ts : List Token) → Term v ts → WholeR ts v
from_term (Word n) ts h = from_base (inr (n, inr tt)) (Word n) ts refl (ts, [], sym (append_empty ts), h, (refl, refl))
from_term (Text n) ts h = from_base (inl n) (Text n) ts refl h
from_term (App f end) ts (inl h) = absurd h.8
from_term (App f end) ts (inr h) = absurd h
from_term (App f (more v vs)) ts (inl h) = from_applied f v vs ts h.0 h.1 h.2 h.3 h.4 h.5 h.6 h.7 h.8 h.9
from_term (App f (more v end)) ts (inr h) = from_dotted f v ts h.0 h.1 h.2 h.3 h.5 h.6 h.7 (from_term v h.0 h.4)
from_term (App f (more v (more w ws))) ts (inr h) = absurd h

-- where a term is too deep
levels_dotted : (v : Tree) (ns : Names) → levels (dotted v ns) ≡ levels v + length ns
levels_dotted v [] = omega arith
levels_dotted v (n ∷ ns) = levels_dotted (App n (more v end)) ns ∙ omega arith

at_one : (b : ℕ) (pre us : List Token) (t : Token) (w : Why) → AtOne us t w → OverTerm b pre t w
at_one b pre us t w h = subst (OverTerm b pre t) (sym h.1) tt

close_more : (cs : List Token) → AllClose cs → AllClose (cs ++ a_close ∷ [])
close_more [] h = (close_is, tt)
close_more (c ∷ cs) h = (h.0, close_more cs h.1)

over_first : (b : ℕ) (n o : Token) (vs : List Token) (t : Token) (w : Why) → name n ≡ true → opens o ≡ true → OverTerm b vs t w → OverTerm (suc b) (n ∷ o ∷ vs) t w
over_first b n o vs t Wanted hn ho h = tt
over_first b n o vs t (LeftOut n') hn ho h = h
over_first b n o vs t Deep hn ho h =
    let split : vs ++ t ∷ (h.1 ++ a_close ∷ []) ≡ (vs ++ t ∷ h.1) ++ a_close ∷ [] = sym (append_assoc vs (t ∷ h.1) (a_close ∷ [])) in
    let deeper = h.4 in
    (App (name_of n) (more h.0 end), h.1 ++ a_close ∷ [], inl (n, o, vs ++ t ∷ h.1, a_close, ap (λ z. n ∷ o ∷ z) split, hn, refl, ho, h.2, close_is), close_more h.1 h.3, omega arith, h.5)
over_first b n o vs t (BadOption p) hn ho h = h

each_more : (us : List Token) (ps : List (Unit {0} × Tree)) (vs : List Token) (x : Unit {0} × Tree) → Each (CommaR TermR) us ps → CommaR TermR vs x → Each (CommaR TermR) (us ++ vs) (ps ++ x ∷ [])
each_more us [] vs x h k = (vs, [], ap (λ z. z ++ vs) h ∙ sym (append_empty vs), k, refl)
each_more us (p ∷ ps) vs x h k = (h.0, h.1 ++ vs, ap (λ z. z ++ vs) h.2 ∙ append_assoc h.0 h.1 vs, h.3, each_more h.1 ps vs x h.4 k)

deepest_last : (ps : List (Unit {0} × Tree)) (x : Unit {0} × Tree) → levels x.1 ≤ deepest (values (ps ++ x ∷ []))
deepest_last [] x = omega arith
deepest_last (p ∷ ps) x = let later = deepest_last ps x in omega arith

over_later : (b : ℕ) (n o : Token) (v : Tree) (us : List Token) (ps : List (Unit {0} × Tree)) (items : List Token) (c : Token) (vs : List Token) (t : Token) (w : Why) → name n ≡ true → opens o ≡ true → Term v us → Each (CommaR TermR) items ps → comma c ≡ true → OverTerm b vs t w → OverTerm (suc b) (n ∷ o ∷ (us ++ (items ++ c ∷ vs))) t w
over_later b n o v us ps items c vs t Wanted hn ho hv hp hc h = tt
over_later b n o v us ps items c vs t (LeftOut n') hn ho hv hp hc h = h
over_later b n o v us ps items c vs t Deep hn ho hv hp hc h =
    let x : Unit {0} × Tree = (tt, h.0) in
    let last : CommaR TermR (c ∷ (vs ++ t ∷ h.1)) x = (c ∷ [], vs ++ t ∷ h.1, refl, (c, refl, hc, refl), h.2) in
    let args : Args (more v (values (ps ++ x ∷ []))) (us ++ (items ++ c ∷ (vs ++ t ∷ h.1))) = args_of v us (ps ++ x ∷ []) (items ++ c ∷ (vs ++ t ∷ h.1)) hv (each_more items ps (c ∷ (vs ++ t ∷ h.1)) x hp last) in
    let split : (us ++ (items ++ c ∷ vs)) ++ t ∷ (h.1 ++ a_close ∷ []) ≡ (us ++ (items ++ c ∷ (vs ++ t ∷ h.1))) ++ a_close ∷ [] = simp append_assoc in
    let deeper = h.4 in
    let lower = deepest_last ps x in
    (App (name_of n) (more v (values (ps ++ x ∷ []))), h.1 ++ a_close ∷ [], inl (n, o, us ++ (items ++ c ∷ (vs ++ t ∷ h.1)), a_close, ap (λ z. n ∷ o ∷ z) split, hn, refl, ho, args, close_is), close_more h.1 h.3, omega arith, h.5)
over_later b n o v us ps items c vs t (BadOption p) hn ho hv hp hc h = h

comma_halt : (b : ℕ) (n o : Token) (v : Tree) (us : List Token) (ps : List (Unit {0} × Tree)) (items vs : List Token) (t : Token) (w : Why) → name n ≡ true → opens o ≡ true → Term v us → Each (CommaR TermR) items ps → CommaD (OverTerm b) vs t w → OverTerm (suc b) (n ∷ o ∷ (us ++ (items ++ vs))) t w
comma_halt b n o v us ps items vs t w hn ho hv hp (inl h) = at_one (suc b) (n ∷ o ∷ (us ++ (items ++ vs))) vs t w h
comma_halt b n o v us ps items vs t w hn ho hv hp (inr h) =
    let sign = h.4 in
    let whole : sign.0 ∷ h.2 ≡ vs = sym (h.3 ∙ ap (λ z. z ++ h.2) sign.1) in
    subst (λ z. OverTerm (suc b) (n ∷ o ∷ (us ++ (items ++ z))) t w) whole (over_later b n o v us ps items sign.0 h.2 t w hn ho hv hp sign.2 h.5)

tail_halt : (b : ℕ) (n o : Token) (v : Tree) (us vs : List Token) (t : Token) (w : Why) → name n ≡ true → opens o ≡ true → Term v us → TailD TermR (OverTerm b) vs t w → OverTerm (suc b) (n ∷ o ∷ (us ++ vs)) t w
tail_halt b n o v us vs t w hn ho hv (inl h) =
    subst (λ z. OverTerm (suc b) (n ∷ o ∷ (us ++ z)) t w) (sym h.3) (comma_halt b n o v us h.0 h.1 h.2 t w hn ho hv h.4 h.5)
tail_halt b n o v us vs t w hn ho hv (inr h) = at_one (suc b) (n ∷ o ∷ (us ++ vs)) h.2 t w h.5

arg_halt : (b : ℕ) (n o : Token) (vs : List Token) (t : Token) (w : Why) → name n ≡ true → opens o ≡ true → ArgD TermR (OverTerm b) vs t w → OverTerm (suc b) (n ∷ o ∷ vs) t w
arg_halt b n o vs t w hn ho (inl h) = over_first b n o vs t w hn ho h
arg_halt b n o vs t w hn ho (inr h) = subst (λ z. OverTerm (suc b) (n ∷ o ∷ z) t w) (sym h.3) (tail_halt b n o h.0 h.1 h.2 t w hn ho h.4 h.5)

bracket_inside : (b : ℕ) (n : Token) (vs : List Token) (t : Token) (w : Why) → name n ≡ true → BracketD TermR (OverTerm b) vs t w → OverTerm (suc b) (n ∷ vs) t w
bracket_inside b n vs t w hn (inl h) = at_one (suc b) (n ∷ vs) vs t w h
bracket_inside b n vs t w hn (inr h) =
    let sign = h.4 in
    let whole : sign.0 ∷ h.2 ≡ vs = sym (h.3 ∙ ap (λ z. z ++ h.2) sign.1) in
    subst (λ z. OverTerm (suc b) (n ∷ z) t w) whole (arg_halt b n sign.0 h.2 t w hn sign.2 h.5)

bracket_halt : (b : ℕ) (n : Token) (vs : List Token) (t : Token) (w : Why) → name n ≡ true → InEither opens (BracketR TermR) (BracketD TermR (OverTerm b)) Nowhere vs t w → OverTerm (suc b) (n ∷ vs) t w
bracket_halt b n vs t w hn (inl x) = bracket_inside b n vs t w hn x.0
bracket_halt b n vs t w hn (inr h) = absurd h.0

named_halt : (b : ℕ) (pre : List Token) (t : Token) (w : Why) → NamedD TermR (OverTerm b) pre t w → OverTerm (suc b) pre t w
named_halt b pre t w (inl h) = at_one (suc b) pre pre t w h
named_halt b pre t w (inr h) =
    let sign = h.4 in
    let whole : sign.0 ∷ h.2 ≡ pre = sym (h.3 ∙ ap (λ z. z ++ h.2) sign.1) in
    subst (λ z. OverTerm (suc b) z t w) whole (bracket_halt b sign.0 h.2 t w sign.2 h.5)

base_halt : (b : ℕ) (pre : List Token) (t : Token) (w : Why) → BaseD TermR (OverTerm b) pre t w → OverTerm (suc b) pre t w
base_halt b pre t w (inl h) = at_one (suc b) pre pre t w h.0
base_halt b pre t w (inr h) = named_halt b pre t w h.0

name_last : (ns : Names) (vs : List Token) (t : Token) → Chain (vs ++ t ∷ []) ns → name t ≡ true
name_last [] [] t h = absurd (cc h)
name_last [] (v ∷ vs) t h = absurd (cc h)
name_last (n ∷ ns) [] t h = absurd (let e = h.3 in cc e)
name_last (n ∷ ns) (v ∷ []) t h = let e = h.3 in let same : h.1 ≡ t = cc e in subst (λ z. name z ≡ true) same h.5
name_last (n ∷ ns) (v ∷ u ∷ vs) t h = let e = h.3 in let after : h.2 ≡ vs ++ t ∷ [] = cc e in name_last ns vs t (subst (λ z. Chain z ns) after h.7)

chain_halt : (b : ℕ) (v : Tree) (us vs : List Token) (t : Token) (w : Why) → Term v us → OverChain (suc b - levels v) vs t w → OverTerm (suc b) (us ++ vs) t w
chain_halt b v us vs t Wanted hv h = tt
chain_halt b v us vs t (LeftOut n') hv h = h
chain_halt b v us vs t Deep hv h =
    let longer = h.2 in
    let whole : us ++ (vs ++ t ∷ []) ≡ (us ++ vs) ++ t ∷ [] = sym (append_assoc us vs (t ∷ [])) in
    (dotted v h.0, [], subst (Term (dotted v h.0)) whole (to_dotted v h.0 us (vs ++ t ∷ []) hv h.1), tt, omega (arith, levels_dotted v h.0), rw (name_last h.0 vs t h.1) (either_true (text t)))
chain_halt b v us vs t (BadOption p) hv h = h

whole_halt : (b : ℕ) (pre : List Token) (t : Token) (w : Why) → InBothBy (Made base_tree (BaseR TermR)) (BaseD TermR (OverTerm b)) (λ v. OverChain (suc b - levels v)) pre t w → OverTerm (suc b) pre t w
whole_halt b pre t w (inl h) = base_halt b pre t w h
whole_halt b pre t w (inr h) =
    let base = h.4 in
    let first : Term h.0 h.1 = subst (λ z. Term z h.1) (sym base.2) (to_base base.0 h.1 base.1) in
    subst (λ z. OverTerm (suc b) z t w) (sym h.3) (chain_halt b h.0 h.1 h.2 t w first h.5)

-- what a halt for a limit says of its token
at_limit : (b : ℕ) (front : List Token) (t : Token) (w : Why) → OverTerm b front t w → IsLimit w → begins_term t ≡ true
at_limit b front t Wanted h k = absurd k
at_limit b front t (LeftOut n) h k = absurd k
at_limit b front t Deep h k = h.5
at_limit b front t (BadOption p) h k = absurd h

closers_not : (cs : List Token) → AllClose cs → AllNot (λ t. begins_term t ≡ true) cs
closers_not [] h = tt
closers_not (c ∷ cs) h = (λ k. cc (k, apart_by (λ d. either (same d classes.Text) (is_name d)) (λ d. same d classes.RightParen) refl (class_of c) h.0), closers_not cs h.1)

only_deep : (b : ℕ) (front : List Token) (t : Token) (w : Why) → OverTerm b front t w → IsLimit w → w ≡ Deep
only_deep b front t Wanted h l = absurd l
only_deep b front t (LeftOut n) h l = absurd l
only_deep b front t Deep h l = refl
only_deep b front t (BadOption p) h l = absurd h

begins_halt : (pre : List Token) (t : Token) (cs : List Token) → Begins begins_term false (pre ++ t ∷ cs) → Leading begins_term pre t Deep
begins_halt [] t cs b = b
begins_halt (u ∷ us) t cs b = b

short_term : (ts : List Token) × (v : Tree) × TermR ts v
short_term = (a_name ∷ [], Word (name_of a_name), (a_name, refl, name_is, refl))

-- what is proved of a reader of terms gives its laws
record TermFacts (b : ℕ) (run : List Token → Out Tree) : Type 0 where
  sound : (ts : List Token) (v : Tree) (rest : List Token) → run ts ≡ Took v rest → Taken TermR (Within_levels b) ts v rest
  halted : (ts : List Token) (w : Why) (at : List Token) → run ts ≡ Stop w at → Halted TermR (OverTerm b) ts w at
  starts : (ts : List Token) (v : Tree) → TermR ts v → Begins begins_term false ts
  complete : (ts : List Token) (v : Tree) (rest : List Token) → TermR ts v → Clear more_term rest → Meets (Within_levels b) v rest (run (ts ++ rest))
  onward : (ts : List Token) (v : Tree) (t : Token) (rest : List Token) → TermR ts v → Meets (Within_levels b) v (t ∷ rest) (run (ts ++ t ∷ rest)) ⊎ Viable TermR (ts ++ t ∷ [])
  local : (pre : List Token) (t : Token) (rest rest' : List Token) → Agree t rest rest' pre (run (pre ++ t ∷ rest)) (run (pre ++ t ∷ rest'))
  back : (ts : List Token) → length (left (run ts)) ≤ length ts

facts_limited : (b : ℕ) (run : List Token → Out Tree) → TermFacts b run → (pre : List Token) (t : Token) (w : Why) (rest : List Token) → OverTerm b pre t w → IsNamed w → HaltsBy w (t ∷ rest) (run (pre ++ t ∷ rest))
facts_limited b run f pre t Wanted rest d lim = absurd lim
facts_limited b run f pre t (LeftOut n) rest d lim = absurd d
facts_limited b run f pre t Deep rest d lim =
    limited_by TermR (Within_levels b) (OverTerm b) run f.sound f.halted (λ ts v h. f.complete ts v [] h tt) f.local (λ t. begins_term t ≡ true) (at_limit b) (only_deep b) pre t d.1 rest d.0 d.2 (λ z. let deeper = d.4 in omega arith) (closers_not d.1 d.3)
facts_limited b run f pre t (BadOption p) rest d lim = absurd d

facts_limits : (b : ℕ) (run : List Token → Out Tree) → TermFacts b run → (pre : List Token) (t : Token) (w : Why) → OverTerm b pre t w → IsNamed w → Leading begins_term pre t w
facts_limits b run f pre t Wanted d lim = absurd lim
facts_limits b run f pre t (LeftOut n) d lim = absurd d
facts_limits b run f pre t Deep d lim = begins_halt pre t d.1 (f.starts (pre ++ t ∷ d.1) d.0 d.2)
facts_limits b run f pre t (BadOption p) d lim = absurd d

one_token : (b : Bool) (t : Token) → text t ≡ b → begins_term t ≡ true → (v : Tree) × TermR (t ∷ []) v × (levels v ≡ 1)
one_token true t h k = (Text (name_of t), (t, refl, h, refl), refl)
one_token false t h k = (Word (name_of t), (t, refl, let is : either false (name t) ≡ true = subst (λ z. either z (name t) ≡ true) h k in is, refl), refl)

term_tight : (t : Token) → begins_term t ≡ true → Viable TermR (t ∷ [])
term_tight t h = let one = one_token (text t) t refl h in ([], one.0, one.1)

facts_laws : (b : ℕ) (run : List Token → Out Tree) → TermFacts b run → Laws TermR (Within_levels b) (OverTerm b) run begins_term false more_term
facts_laws b run f = record {
  sound = f.sound;
  halted = f.halted;
  starts = f.starts;
  complete = f.complete;
  onward = f.onward;
  local = f.local;
  back = f.back;
  short = short_term;
  tight = term_tight;
  nil = λ e. absurd (cc e);
  limited = facts_limited b run f;
  limits = facts_limits b run f;
}

whole_viable : (us : List Token) → Viable WholeR us → Viable TermR us
whole_viable us v = (v.0, v.1, to_term (us ++ v.0) v.1 v.2)

-- one more level
next_facts : (b : ℕ) → Laws TermR (Within_levels b) (OverTerm b) (read_term b) begins_term false more_term → TermFacts (suc b) (read_term (suc b))
unfolding read_term
next_facts b arg =
    let whole = made_laws dotted_pair (BothBy (Made base_tree (BaseR TermR)) (λ v. Chain)) (λ x. Within_levels (suc b) x.0 × Within (suc b - levels x.0) x.1) (Within_levels (suc b)) (InBothBy (Made base_tree (BaseR TermR)) (BaseD TermR (OverTerm b)) (λ v. OverChain (suc b - levels v))) (InBothBy (Made base_tree (BaseR TermR)) (BaseD TermR (OverTerm b)) (λ v. OverChain (suc b - levels v))) _ _ _ _ (whole_laws TermR b (OverTerm b) (read_term b) arg) (λ x h. let one = h.0 in let two = h.1 in omega (arith, levels_dotted x.0 x.1)) (λ x h. (omega (arith, levels_dotted x.0 x.1), omega (arith, levels_dotted x.0 x.1))) (λ pre t w d. d) (λ pre t w l d. d) in
    record {
      sound = λ ts v rest e. let h = whole.sound ts v rest e in record { front = h.front; split = h.split; spells = to_term h.front v h.spells; fits = h.fits };
      halted = λ ts w at e. let h = whole.halted ts w at e in record {
        front = h.front;
        split = h.split;
        tail = h.tail;
        value = h.value;
        spells = to_term (h.front ++ h.tail) h.value h.spells;
        begins = h.begins;
        halts = at_head (λ t. InBothBy (Made base_tree (BaseR TermR)) (BaseD TermR (OverTerm b)) (λ v. OverChain (suc b - levels v)) h.front t w) (λ t. OverTerm (suc b) h.front t w) (λ t d. whole_halt b h.front t w d) at h.halts;
      };
      starts = λ ts v h. whole.starts ts v (from_term v ts h);
      complete = λ ts v rest h c. whole.complete ts v rest (from_term v ts h) c;
      onward = λ ts v t rest h. elim (whole.onward ts v t rest (from_term v ts h)) [ inl k ↦ inl k | inr k ↦ inr (whole_viable (ts ++ t ∷ []) k) ];
      local = whole.local;
      back = whole.back;
    }

-- no level is left
deep_sound : (b : Bool) (us : List Token) (ts : List Token) (v : Tree) (rest : List Token) → halt_term b us ≡ Took v rest → Taken TermR (Within_levels 0) ts v rest
deep_sound true us ts v rest e = absurd (cc e)
deep_sound false us ts v rest e = absurd (cc e)

move : (ts : List Token) (w w' : Why) (at at' : List Token) → w ≡ w' → at ≡ at' → Halted TermR (OverTerm 0) ts w at → Halted TermR (OverTerm 0) ts w' at'
move ts w w' at at' e g h = subst (λ z. Halted TermR (OverTerm 0) ts w' z) g (subst (λ z. Halted TermR (OverTerm 0) ts z at) e h)

deep_wanted : (ts : List Token) → Halted TermR (OverTerm 0) ts Wanted ts
deep_wanted [] = record { front = []; split = refl; tail = short_term.0; value = short_term.1; spells = short_term.2; begins = λ k. absurd k; halts = tt }
deep_wanted (t ∷ ts) = record { front = []; split = refl; tail = short_term.0; value = short_term.1; spells = short_term.2; begins = λ k. absurd k; halts = tt }

deep_here : (t : Token) (ts : List Token) → begins_term t ≡ true → Halted TermR (OverTerm 0) (t ∷ ts) Deep (t ∷ ts)
deep_here t ts h =
    let one = one_token (text t) t refl h in
    record { front = []; split = refl; tail = t ∷ []; value = one.0; spells = one.1; begins = λ k. (t, ts, [], refl, refl); halts = (one.0, [], one.1, tt, let is = one.2 in omega arith, h) }

deep_halted : (b : Bool) (t : Token) (ts : List Token) (w : Why) (at : List Token) → begins_term t ≡ b → halt_term b (t ∷ ts) ≡ Stop w at → Halted TermR (OverTerm 0) (t ∷ ts) w at
deep_halted true t ts w at h e = move (t ∷ ts) Deep w (t ∷ ts) at (cc e) (cc e) (deep_here t ts h)
deep_halted false t ts w at h e = move (t ∷ ts) Wanted w (t ∷ ts) at (cc e) (cc e) (deep_wanted (t ∷ ts))

deep_local : (b : Bool) (pre : List Token) (t : Token) (rest rest' q : List Token) → Agree t rest rest' pre (halt_term b (q ++ t ∷ rest)) (halt_term b (q ++ t ∷ rest'))
deep_local true pre t rest rest' q = stop Deep q refl refl
deep_local false pre t rest rest' q = stop Wanted q refl refl

deep_back : (b : Bool) (ts : List Token) → length (left (halt_term b ts)) ≤ length ts
deep_back true ts = omega arith
deep_back false ts = omega arith

some_level : (v : Tree) → 1 ≤ levels v
some_level (Word n) = omega arith
some_level (Text n) = omega arith
some_level (App f vs) = omega arith

deep_meets : (ts : List Token) (v : Tree) (rest : List Token) → Begins begins_term false ts → Meets (Within_levels 0) v rest (read_deep (ts ++ rest))
deep_meets [] v rest b = absurd (cc b)
deep_meets (t ∷ ts) v rest b = rw b (inr (Deep, t ∷ ts, refl, tt, (λ z. omega (arith, some_level v)), omega arith))

begins_more : (us vs : List Token) → Begins begins_term false us → Begins begins_term false (us ++ vs)
begins_more [] vs b = absurd (cc b)
begins_more (u ∷ us) vs b = b

-- how a term begins
mutual
  term_starts : (v : Tree) (ts : List Token) → Term v ts → Begins begins_term false ts
  term_starts (Word n) ts h = subst (Begins begins_term false) (sym h.1) (rw h.2 (either_true (text h.0)))
  term_starts (Text n) ts h = subst (Begins begins_term false) (sym h.1) (rw h.2 refl)
  term_starts (App f vs) ts (inl h) = subst (Begins begins_term false) (sym h.4) (rw h.5 (either_true (text h.0)))
  term_starts (App f vs) ts (inr h) = dotted_starts vs f ts h

  dotted_starts : (vs : Trees) (f : List ℕ) (ts : List Token) → Dotted vs f ts → Begins begins_term false ts
  dotted_starts end f ts h = absurd h
  dotted_starts (more v end) f ts h = subst (Begins begins_term false) (sym h.3) (begins_more h.0 (h.1 ∷ h.2 ∷ []) (term_starts v h.0 h.4))
  dotted_starts (more v (more w ws)) f ts h = absurd h

deep_facts : TermFacts 0 (read_term 0)
unfolding read_term
deep_facts = record {
  sound = deep_reads;
  halted = deep_halts;
  starts = λ ts v h. term_starts v ts h;
  complete = λ ts v rest h c. deep_meets ts v rest (term_starts v ts h);
  onward = λ ts v t rest h. inl (deep_meets ts v (t ∷ rest) (term_starts v ts h));
  local = deep_locals;
  back = deep_backs;
}
  where
    deep_reads : (ts : List Token) (v : Tree) (rest : List Token) → read_deep ts ≡ Took v rest → Taken TermR (Within_levels 0) ts v rest
    deep_reads [] v rest e = absurd (cc e)
    deep_reads (t ∷ ts) v rest e = deep_sound (begins_term t) (t ∷ ts) (t ∷ ts) v rest e

    deep_halts : (ts : List Token) (w : Why) (at : List Token) → read_deep ts ≡ Stop w at → Halted TermR (OverTerm 0) ts w at
    deep_halts [] w at e = move [] Wanted w [] at (cc e) (cc e) (deep_wanted [])
    deep_halts (t ∷ ts) w at e = deep_halted (begins_term t) t ts w at refl e

    deep_locals : (pre : List Token) (t : Token) (rest rest' : List Token) → Agree t rest rest' pre (read_deep (pre ++ t ∷ rest)) (read_deep (pre ++ t ∷ rest'))
    deep_locals [] t rest rest' = deep_local (begins_term t) [] t rest rest' []
    deep_locals (u ∷ us) t rest rest' = deep_local (begins_term u) (u ∷ us) t rest rest' (u ∷ us)

    deep_backs : (ts : List Token) → length (left (read_deep ts)) ≤ length ts
    deep_backs [] = omega arith
    deep_backs (t ∷ ts) = deep_back (begins_term t) (t ∷ ts)

pub term_laws : (b : ℕ) → Laws TermR (Within_levels b) (OverTerm b) (read_term b) begins_term false more_term
term_laws zero = facts_laws 0 (read_term 0) deep_facts
term_laws (suc b) = facts_laws (suc b) (read_term (suc b)) (next_facts b (term_laws b))

-- the items of a bracket, a step at a time
module _ (b : ℕ) where
  abbrev pub items_of : List Token → Out (List (Unit {0} × Tree))
  items_of = read_many comma (read_item (read_term b))

  pub items_step : (ts : List Token) (x : Unit {0} × Tree) (mid : List Token) → leads comma ts ≡ true → read_item (read_term b) ts ≡ Took x mid → items_of ts ≡ with_first x (items_of mid)
  items_step ts x mid l e = many_step _ _ _ _ _ _ (comma_laws TermR b (OverTerm b) (read_term b) (term_laws b)) (λ t h. apart_by (λ c. either (same c classes.LeftParen) (same c classes.Dot)) (λ c. same c classes.Comma) refl (class_of t) h) ts x mid l e

  pub items_end : (ts : List Token) → leads comma ts ≡ false → items_of ts ≡ Took [] ts
  items_end ts l = many_end _ _ _ _ _ _ (comma_laws TermR b (OverTerm b) (read_term b) (term_laws b)) (λ t h. apart_by (λ c. either (same c classes.LeftParen) (same c classes.Dot)) (λ c. same c classes.Comma) refl (class_of t) h) ts l

  pub items_stop : (ts : List Token) (w : Why) (at : List Token) → leads comma ts ≡ true → read_item (read_term b) ts ≡ Stop w at → items_of ts ≡ Stop w at
  items_stop ts w at l e = many_stop _ _ _ _ _ _ (comma_laws TermR b (OverTerm b) (read_term b) (term_laws b)) (λ t h. apart_by (λ c. either (same c classes.LeftParen) (same c classes.Dot)) (λ c. same c classes.Comma) refl (class_of t) h) ts w at l e

  -- what a base reads has at most one level more than its arguments may
  pub base_fits : (ts : List Token) (v : Tree) (rest : List Token) → read_base (read_term b) ts ≡ Took v rest → levels v ≤ suc b
  base_fits ts v rest e = ((base_laws TermR b (OverTerm b) (read_term b) (term_laws b)).sound ts v rest e).fits

  -- a term has at least one token
  pub term_shorter : (ts : List Token) (v : Tree) (rest : List Token) → read_term b ts ≡ Took v rest → length rest ≤ length ts
  term_shorter ts v rest e = omega (arith, (term_laws b).back ts, ap (λ z. length (left z)) e)
