use Rattle.std.proofs.Common.{Some, None, ◌≡◌, ◌≤◌, IfOk, sym, ap, subst, ◌∙◌, arith}
use Rattle.std.specs.Prelude.{slice_get}
use Rattle.cq_query.specs.Coeval.{starts, null_start, terms_from}
use Rattle.cq_query.proofs.Copying.{start_fits}
use Rattle.cq_query.proofs.rows.row_terms.Goals as goal

pub row_terms_from-requires : goal.row_terms_from-requires
row_terms_from-requires c =
    let layout = c.args.layout.now in
    let at : slice_get (starts layout.query.now layout.sheet.now.counts) c.args.entity ≡ Some c.in-Some.start = ap (λ l. slice_get l c.args.entity) (sym c.requires.layout.starts) ∙ sym c.start_at.ensures ∙ c.in-Some.is in
    let small : null_start layout.query.now layout.sheet.now.counts ≤ 16000000 = omega (arith, c.requires.layout.first, c.requires.layout.small) in
    start_fits layout.query.now layout.sheet.now.counts c.args.entity c.in-Some.start at small

pub returns-in-Some : goal.returns-in-Some
returns-in-Some c =
    let layout = c.args.layout.now in
    let at : slice_get (starts layout.query.now layout.sheet.now.counts) c.args.entity ≡ Some c.in-Some.start = ap (λ l. slice_get l c.args.entity) (sym c.requires.layout.starts) ∙ sym c.start_at.ensures ∙ c.in-Some.is in
    subst (λ l. IfOk c.row_terms_from.result (λ made. made.items ≡ l)) (ap (terms_from layout.query.now layout.sheet.now.counts c.args.entity c.args.row) (sym at)) c.row_terms_from.ensures

pub returns-in-None : goal.returns-in-None
returns-in-None c =
    let layout = c.args.layout.now in
    let at : slice_get (starts layout.query.now layout.sheet.now.counts) c.args.entity ≡ None = ap (λ l. slice_get l c.args.entity) (sym c.requires.layout.starts) ∙ sym c.start_at.ensures ∙ c.in-None.is in
    c.new.ensures.items ∙ ap (terms_from layout.query.now layout.sheet.now.counts c.args.entity c.args.row) (sym at)
