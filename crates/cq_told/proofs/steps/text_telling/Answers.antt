use Rattle.std.proofs.Common.{subst, sym}
use Rattle.cq_lex.specs.Tokens.{Tokens}
use Rattle.cq_told.specs.Explained.{no_tokens}
use Rattle.cq_told.proofs.Claims.{tokens_ok}
use Rattle.cq_told.proofs.steps.text_telling.Goals as goal

pub tokens_telling-requires-clause-stops : goal.tokens_telling-requires-clause-stops
tokens_telling-requires-clause-stops g c =
    c.requires.stops c.as_slice-tokens.result.now (subst (Tokens c.args.text.now) (sym c.as_slice-tokens.ensures.value) c.in-Ok.ensures.ok)

pub returns-in-Ok-clause-told : goal.returns-in-Ok-clause-told
returns-in-Ok-clause-told g c =
    tokens_ok c.args.depth (g.F.Folder.state c.args.folder.now).files c.args.text.now c.in-Ok.tokens.items c.as_slice-tokens.result.now
    c.tokens_telling.result c.in-Ok.ensures.ok c.as_slice-tokens.ensures.value c.tokens_telling.ensures.told

pub returns-in_ok-telling-in-Err-clause-told : goal.returns-in_ok-telling-in-Err-clause-told
returns-in_ok-telling-in-Err-clause-told g c = no_tokens c.in-Err.refusal c.in-Err.ensures.refused c.in_ok-telling-in-Err.ensures
