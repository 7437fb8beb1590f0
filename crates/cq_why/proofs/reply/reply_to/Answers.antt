use Rattle.std.proofs.Common.{◌≡◌, Option, ap, sym, ◌∙◌, subst, map, string_bytes, IfOk}
use Rattle.cq_words.specs.Ask.{Ask}
use Rattle.cq_asked.specs.Asked.{run_words}
use Rattle.cq_why.specs.Clause.{HasToTell}
use Rattle.cq_why.proofs.Telling.{asks_file, no_file}
use Rattle.cq_why.proofs.reply.reply_to.Goals as goal

pub returns-in-Some-clause-tells : goal.returns-in-Some-clause-tells
returns-in-Some-clause-tells g c =
    let same : map string_bytes c.as_slice-all_words.result.now ≡ run_words (map string_bytes c.args.words.now) =
    ap (map string_bytes) c.as_slice-all_words.ensures.value ∙ c.in_ok-all.ensures in
    let asks = asks_file _ _ _ _ c.in-Some.asked c.in-Some.is c.in_ok-found.ensures.asked same in
    subst (λ (ask : Option Ask). IfOk c.reply_about.result
    (λ reply. HasToTell ask (g.F.Folder.state c.args.folder.now) reply.status reply.text.items)) (sym asks) c.reply_about.ensures.tells

pub returns-clause-tells : goal.returns-clause-tells
returns-clause-tells g c =
    let same : map string_bytes c.as_slice-all_words.result.now ≡ run_words (map string_bytes c.args.words.now) =
    ap (map string_bytes) c.as_slice-all_words.ensures.value ∙ c.in_ok-all.ensures in
    no_file _ _ _ _ c.in-None.is c.in_ok-found.ensures.asked same
