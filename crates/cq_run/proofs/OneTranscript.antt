-- Over the files of a folder a text means one list of instances.
use Rattle.std.proofs.Common.{◌≡◌, ℕ, List, Some, ap, subst}
use Rattle.cq_io.specs.Content.{File}
use Rattle.cq_lex.specs.declared.token.Token.{Token}
use Rattle.cq_lex.proofs.Lexing.{one_list}
use Rattle.cq_syntax.specs.declared.program.Program.{Program}
use Rattle.cq_syntax.proofs.OneProgram.{one_program}
use Rattle.cq_program.specs.Program as program
use Rattle.cq_program.specs.Program.{Listing}
use Rattle.cq_program.proofs.OneMeaning.{one_meaning}
use Rattle.cq_run.specs.Meaning.{IsTreeIn, IsTreeOf, Means, transcripts_of}

-- a text is that of one program
pub one_tree : (text : List ℕ) (tree other : Program) → IsTreeOf text tree → IsTreeOf text other → tree ≡ other
one_tree text tree other h g =
    let tokens : h.tokens ≡ g.tokens = one_list h.lexed g.lexed in
    let spelled : IsTreeIn g.tokens tree = subst (λ (ts : List Token). IsTreeIn ts tree) tokens h.spelled in
    one_program g.tokens tree other spelled.0 spelled.1 g.spelled.0 g.spelled.1

pub one_list_of : (files : List File) (text : List ℕ) (L M : List Listing) → Means (Some files) text L → Means (Some files) text M → L ≡ M
unfolding Means
one_list_of files text L M h g =
    let trees : h.0 ≡ g.0 = one_tree text h.0 g.0 h.1 g.1 in
    one_meaning files g.0 L M (subst (λ (tree : Program). program.Means (Some files) tree L) trees h.2) g.2

pub one_transcript : (files : List File) (text : List ℕ) (L M : List Listing) → Means (Some files) text L → Means (Some files) text M
    → transcripts_of L ≡ transcripts_of M
one_transcript files text L M h g = ap transcripts_of (one_list_of files text L M h g)
