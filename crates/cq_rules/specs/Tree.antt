-- Terms, and how tokens spell them.
use Rattle.std.specs.Prelude.{◌≡◌, ℕ, zero, suc, ◌-◌, ◌<◌, List, [], ◌∷◌, ◌++◌, Bool, true, ◌⊎◌, max}
use Rattle.std.proofs.Common.{inl, inr}
use Rattle.cq_lex.specs.declared.token.Token.{Token}
use Rattle.cq_rules.specs.declared.class.Class.TheVariants as classes
use Rattle.cq_rules.specs.Class.{class_of, same}
use Rattle.cq_rules.specs.declared.why.Why.TheVariants.{Wanted, LeftOut, Deep, BadOption}
use Rattle.cq_rules.specs.Outcome.{nothing_kept, Out, Took, Stop, Tokens, either, pick, then, dot, name, name_of, read_keep, read_seq}
use Rattle.cq_rules.specs.Outcome.{read_bind, read_alt, read_many, read_none, mapped, read_chain}
use Rattle.cq_rules.specs.Relations.{Halts}

mutual
  pub data Tree : Type 0 where
    Word : List ℕ → Tree
    Text : List ℕ → Tree
    App : List ℕ → Trees → Tree

  pub data Trees : Type 0 where
    end : Trees
    more : Tree → Trees → Trees

abbrev mutual
  pub levels : Tree → ℕ
  levels (Word n) = 1
  levels (Text n) = 1
  levels (App f vs) = suc (deepest vs)

  pub deepest : Trees → ℕ
  deepest end = 0
  deepest (more v vs) = max (levels v) (deepest vs)

abbrev pub text : Tokens
text t = same (class_of t) classes.Text

abbrev pub opens : Tokens
opens t = same (class_of t) classes.LeftParen

abbrev pub closes : Tokens
closes t = same (class_of t) classes.RightParen

abbrev pub comma : Tokens
comma t = same (class_of t) classes.Comma

-- the tokens spell the term
abbrev mutual
  pub Term : Tree → List Token → Type 0
  Term (Word n) ts = (t : Token) × (ts ≡ t ∷ []) × (name t ≡ true) × (n ≡ name_of t)
  Term (Text n) ts = (t : Token) × (ts ≡ t ∷ []) × (text t ≡ true) × (n ≡ name_of t)
  Term (App f vs) ts = ((t : Token) × (o : Token) × (us : List Token) × (c : Token) × (ts ≡ t ∷ o ∷ (us ++ c ∷ [])) × (name t ≡ true)
      × (f ≡ name_of t) × (opens o ≡ true) × Args vs us × (closes c ≡ true)) ⊎ Dotted vs f ts

  -- one or more, with commas between them
  pub Args : Trees → List Token → Type 0
  Args end ts = ⊥
  Args (more v end) ts = Term v ts
  Args (more v (more w ws)) ts = (us : List Token) × (c : Token) × (vs : List Token) × (ts ≡ us ++ c ∷ vs) × Term v us × (comma c ≡ true)
      × Args (more w ws) vs

  -- v.f is f(v)
  pub Dotted : Trees → List ℕ → List Token → Type 0
  Dotted end f ts = ⊥
  Dotted (more v end) f ts = (us : List Token) × (d : Token) × (n : Token) × (ts ≡ us ++ d ∷ n ∷ []) × Term v us × (dot d ≡ true)
      × (name n ≡ true) × (f ≡ name_of n)
  Dotted (more v (more w ws)) f ts = ⊥

-- a term begins with a name or a text
abbrev pub begins_term : Tokens
begins_term t = either (text t) (name t)

abbrev pub AllClose : List Token → Type 0
AllClose [] = Unit {0}
AllClose (c ∷ cs) = (closes c ≡ true) × AllClose cs

-- the token is a name or a text of a term that, ended here with its open brackets closed, has more
-- levels than these
abbrev pub OverTerm : ℕ → Halts
OverTerm b pre t Wanted = Unit {0}
OverTerm b pre t (LeftOut n) = ⊥
OverTerm b pre t Deep = (v : Tree) × (cs : List Token) × Term v (pre ++ t ∷ cs) × AllClose cs × (b < levels v) × (begins_term t ≡ true)
OverTerm b pre t (BadOption p) = ⊥

abbrev pub trees : List Tree → Trees
trees [] = end
trees (v ∷ vs) = more v (trees vs)

abbrev pub dotted : Tree → List (List ℕ) → Tree
dotted v [] = v
dotted v (n ∷ ns) = dotted (App n (more v end)) ns

abbrev pub dotted_pair : Tree × List (List ℕ) → Tree
dotted_pair p = dotted p.0 p.1

-- what stands in brackets: a term, and any number of them behind commas
abbrev pub Bracket : Type 0
Bracket = Unit {0} × (Tree × (List (Unit {0} × Tree) × Unit {0}))

abbrev pub values : List (Unit {0} × Tree) → Trees
values [] = end
values (p ∷ ps) = more p.1 (values ps)

abbrev pub applied : List ℕ → Bracket ⊎ Unit {0} → Tree
applied f (inl b) = App f (more b.1.0 (values b.1.1.0))
applied f (inr u) = Word f

abbrev pub base_tree : List ℕ ⊎ (List ℕ × (Bracket ⊎ Unit {0})) → Tree
base_tree (inl x) = Text x
base_tree (inr p) = applied p.0 p.1

abbrev pub read_item : (List Token → Out Tree) → List Token → Out (Unit {0} × Tree)
read_item arg = read_seq (read_keep nothing_kept comma) arg

abbrev pub read_others : (List Token → Out Tree) → List Token → Out (List (Unit {0} × Tree) × Unit {0})
read_others arg = read_seq (read_many comma (read_item arg)) (read_keep nothing_kept closes)

abbrev pub read_args : (List Token → Out Tree) → List Token → Out (Tree × (List (Unit {0} × Tree) × Unit {0}))
read_args arg = read_seq arg (read_others arg)

abbrev pub args_tree : Tree × (List (Unit {0} × Tree) × Unit {0}) → Trees
args_tree x = more x.0 (values x.1.0)

abbrev pub read_bracket : (List Token → Out Tree) → List Token → Out Bracket
read_bracket arg = read_seq (read_keep nothing_kept opens) (read_args arg)

-- names behind dots, applied to a term
abbrev pub after_dots : Tree → Out (List (List ℕ)) → Out Tree
after_dots v o = then o (λ ns rest. Took (dotted v ns) rest)

abbrev pub read_named : (List Token → Out Tree) → List Token → Out (List ℕ × (Bracket ⊎ Unit {0}))
read_named arg = read_seq (read_keep name_of name) (read_alt opens (read_bracket arg) (read_none tt))

abbrev pub read_base : (List Token → Out Tree) → List Token → Out Tree
read_base arg ts = mapped base_tree (read_alt text (read_keep name_of text) (read_named arg) ts)

abbrev pub halt_term : Bool → List Token → Out Tree
halt_term b ts = pick b (Stop Deep ts) (Stop Wanted ts)

abbrev pub read_deep : List Token → Out Tree
read_deep [] = Stop Wanted []
read_deep (t ∷ ts) = halt_term (begins_term t) (t ∷ ts)

-- a term of at most b levels
unfoldable pub read_term : ℕ → List Token → Out Tree
read_term zero ts = read_deep ts
read_term (suc b) ts = mapped dotted_pair (read_bind (read_base (read_term b)) (λ v. read_chain (suc b - levels v)) ts)
