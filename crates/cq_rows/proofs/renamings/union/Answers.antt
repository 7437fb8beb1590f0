use Rattle.std.proofs.Common.{◌≡◌, ◌≢◌, length, sym, ◌∙◌, arith}
use Rattle.cq_rows.proofs.Roots.{joined_high_from, joined_high_to, kept_root}
use Rattle.cq_rows.proofs.renamings.union.Goals as goal

pub returns-then-a-b-clause-roots : goal.returns-then-a-b-clause-roots
returns-then-a-b-clause-roots c =
    let old = c.args.parent.now in
    let mid = c.root-a.new.parent in
    let ps = c.root-b.new.parent in
    let la : length mid ≡ length old = omega arith in
    let lb : length ps ≡ length mid = omega arith in
    let ra = kept_root mid ps c.root-a.ensures.forest c.root-b.ensures.forest lb c.root-b.ensures.roots c.root-a.result (omega (arith, c.root-a.ensures.below, la)) c.root-a.ensures.is_root in
    joined_high_to old ps c.root-b.ensures.forest c.args.from c.args.to c.root-a.result c.root-b.result
    (λ r l. c.root-b.ensures.roots r (omega (arith, l, la)) ∙ c.root-a.ensures.roots r l) (lb ∙ la)
    c.root-a.ensures.root (c.root-b.ensures.root ∙ c.root-a.ensures.roots c.args.to c.requires.to)
    (omega (arith, c.root-a.ensures.below, la, lb)) (omega (arith, c.root-b.ensures.below, la, lb)) ra c.root-b.ensures.is_root c.if-a-b.true

pub returns-clause-roots : goal.returns-clause-roots
returns-clause-roots c =
    let old = c.args.parent.now in
    let mid = c.root-a.new.parent in
    let ps = c.root-b.new.parent in
    let la : length mid ≡ length old = omega arith in
    let lb : length ps ≡ length mid = omega arith in
    let ra = kept_root mid ps c.root-a.ensures.forest c.root-b.ensures.forest lb c.root-b.ensures.roots c.root-a.result (omega (arith, c.root-a.ensures.below, la)) c.root-a.ensures.is_root in
    let eb = c.root-b.ensures.root ∙ c.root-a.ensures.roots c.args.to c.requires.to in
    let ne : c.root-a.result ≢ c.root-b.result = λ e. c.requires.differ (sym c.root-a.ensures.root ∙ e ∙ eb) in
    joined_high_from old ps c.root-b.ensures.forest c.args.from c.args.to c.root-a.result c.root-b.result
    (λ r l. c.root-b.ensures.roots r (omega (arith, l, la)) ∙ c.root-a.ensures.roots r l) (lb ∙ la)
    c.root-a.ensures.root eb
    (omega (arith, c.root-a.ensures.below, la, lb)) (omega (arith, c.root-b.ensures.below, la, lb)) ra c.root-b.ensures.is_root (omega (arith, c.if-a-b.false, ne))
