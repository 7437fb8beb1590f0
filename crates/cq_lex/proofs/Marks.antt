-- The marks of one byte.
use Rattle.std.proofs.Common.{◌≡◌, ℕ, List, [], ◌∷◌, ◌++◌, length, ◌<◌, Bool, true, false, refl, sym, ap, ◌∙◌, subst, arith}
use Rattle.std.specs.Prelude.{Option, Some, None, nat_eq, if◌then◌else◌}
use Rattle.cq_lex.specs.declared.token.Mark.{Mark}
use Rattle.cq_lex.specs.declared.token.Mark.TheVariants as marks
use Rattle.cq_lex.specs.Bytes.{mark_bytes}
use Rattle.cq_lex.specs.Front.{mark_of}
use Rattle.cq_lex.specs.Tokens.{Begins}
use Rattle.cq_lex.proofs.Written.{byte_is}

abbrev pub IsMark : ℕ → Option Mark → Type 0
IsMark b None = Unit {0}
IsMark b (Some mark) = mark_bytes mark ≡ b ∷ []

pick : (b n : ℕ) (mark : Mark) (other : Option Mark) → mark_bytes mark ≡ n ∷ [] → IsMark b other → IsMark b (if nat_eq b n then Some mark else other)
pick b n mark other is h = at_test (nat_eq b n) refl
  where
    at_test : (k : Bool) → nat_eq b n ≡ k → IsMark b (if k then Some mark else other)
    at_test true e = is ∙ ap (λ z. z ∷ []) (sym (byte_is b n e))
    at_test false e = h

pub is_mark : (b : ℕ) → IsMark b (mark_of b)
is_mark b =
    pick b 123 marks.LeftBrace _ refl (pick b 125 marks.RightBrace _ refl (pick b 40 marks.LeftParen _ refl (pick b 41 marks.RightParen _ refl (pick b 91 marks.LeftBracket _ refl (pick b 93 marks.RightBracket _ refl (pick b 58 marks.Colon _ refl (pick b 59 marks.Semicolon _ refl (pick b 44 marks.Comma _ refl (pick b 46 marks.Dot _ refl (pick b 61 marks.Equals _ refl (pick b 43 marks.Plus _ refl tt)))))))))))

-- bytes begin with no mark whose first byte is none alone, and which begin with no arrow
module _ (b : ℕ) (bs : List ℕ) (none : mark_of b ≡ None) where
  differs : (n : ℕ) (mark : Mark) (rest : List ℕ) → mark_of n ≡ Some mark → b ∷ bs ≡ n ∷ rest → ⊥
  differs n mark rest is e = let same : b ≡ n = cc e in cc (ap mark_of same, is, none)

  pub no_mark : (Begins (45 ∷ 62 ∷ []) (b ∷ bs) → ⊥) → (mark : Mark) → Begins (mark_bytes mark) (b ∷ bs) → ⊥
  no_mark arrow marks.LeftBrace (rest, e) = differs 123 marks.LeftBrace rest refl e
  no_mark arrow marks.RightBrace (rest, e) = differs 125 marks.RightBrace rest refl e
  no_mark arrow marks.LeftParen (rest, e) = differs 40 marks.LeftParen rest refl e
  no_mark arrow marks.RightParen (rest, e) = differs 41 marks.RightParen rest refl e
  no_mark arrow marks.LeftBracket (rest, e) = differs 91 marks.LeftBracket rest refl e
  no_mark arrow marks.RightBracket (rest, e) = differs 93 marks.RightBracket rest refl e
  no_mark arrow marks.Colon (rest, e) = differs 58 marks.Colon rest refl e
  no_mark arrow marks.Semicolon (rest, e) = differs 59 marks.Semicolon rest refl e
  no_mark arrow marks.Comma (rest, e) = differs 44 marks.Comma rest refl e
  no_mark arrow marks.Dot (rest, e) = differs 46 marks.Dot rest refl e
  no_mark arrow marks.Equals (rest, e) = differs 61 marks.Equals rest refl e
  no_mark arrow marks.Plus (rest, e) = differs 43 marks.Plus rest refl e
  no_mark arrow marks.Arrow h = arrow h

-- a byte that is a mark alone begins with it
pub mark_split : (b : ℕ) (bs : List ℕ) (mark : Mark) → mark_of b ≡ Some mark → b ∷ bs ≡ mark_bytes mark ++ bs
mark_split b bs mark e =
    let is : mark_bytes mark ≡ b ∷ [] = subst (IsMark b) e (is_mark b) in
    ap (λ z. z ++ bs) (sym is)

pub mark_some : (b : ℕ) (mark : Mark) → mark_of b ≡ Some mark → 0 < length (mark_bytes mark)
mark_some b mark e =
    let is : mark_bytes mark ≡ b ∷ [] = subst (IsMark b) e (is_mark b) in
    rw is (omega arith)
