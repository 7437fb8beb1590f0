use Rattle.std.proofs.Common.{◌≡◌, List, [], ◌++◌, length}
use Rattle.cq_lex.specs.declared.token.Token.{Token}
use Rattle.cq_lex.specs.declared.refusal.LexRefusal.{LexRefusal}
use Rattle.cq_lex.specs.Place.{place_behind}
use Rattle.cq_lex.specs.Front.{passed}
use Rattle.cq_lex.specs.Tokens.{Tokens, Lexes, Refuses}
use Rattle.cq_lex.proofs.lexer.lex.Given as goal

abbrev pub invariant-fronts : goal.invariant-fronts
invariant-fronts l = record {
  split : passed l.bytes l.rest ++ l.rest ≡ l.bytes;
  place : l.place ≡ place_behind (passed l.bytes l.rest);
  tokens : (ts : List Token) → Lexes (passed l.bytes l.rest) l.rest ts → Tokens l.bytes (l.tokens.items ++ ts);
  refusal : (e : LexRefusal) → Refuses (passed l.bytes l.rest) l.rest e → Refuses [] l.bytes e;
}

abbrev pub decreases-fronts : goal.decreases-fronts
decreases-fronts l = length l.rest
