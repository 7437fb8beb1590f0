use Rattle.std.proofs.Common.{ℕ, List, ◌≡◌, ◌∙◌, get_or, length, ap, subst, sym, arith}
use Rattle.std.proofs.lemmas.List.{get_or_default}
use Rattle.std.proofs.lemmas.List.FromFn.{length-map-range_with_len}
use Rattle.cq_growth.specs.Counts.{rows_of, IsMost}
use Rattle.cq_growth.specs.GreatestOf.{IsGreatest}
use Rattle.cq_growth.proofs.Counting.{most_of}
use Rattle.cq_growth.proofs.counts.most_rows.Goals as goal

pub overflow_cast-result : goal.overflow_cast-result
overflow_cast-result c =
    let size = ap length c.in_ok-counts.ensures ∙ length-map-range_with_len (rows_of c.args.tables.now) 0 c.args.entities in
    omega (arith, c.in-Some.ensures.within, ap length c.deref.ensures.value, size, c.ranges.entities.fits)

pub returns : goal.returns
returns c =
    let m = c.args.tables.now in
    let place = c.in-Some.place in
    let items = c.in_ok-counts.counts.items in
    let great = subst (λ (l : List ℕ). IsGreatest l place) c.deref.ensures.value c.in-Some.ensures in
    let same : c.index.result.now ≡ get_or items place 0 = c.index.ensures ∙ get_or_default items place c.index.result.now 0 great.within in
    subst (λ n. IsMost m c.args.entities (record { entity = place; count = n })) (sym same) (most_of m c.args.entities items place c.in_ok-counts.ensures great)
