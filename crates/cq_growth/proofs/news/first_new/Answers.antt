use Rattle.std.proofs.Common.{List, sym, subst}
use Rattle.cq_growth.specs.declared.levels.Member.{Member}
use Rattle.cq_growth.specs.News.{AreFilled, IsNew, IsOpen}
use Rattle.cq_growth.proofs.Opened.{open_is_new, all_filled}
use Rattle.cq_growth.proofs.news.first_new.Goals as goal

pub returns-in_default : goal.returns-in_default
returns-in_default c =
    let S = c.args.schema.now in
    let P = c.args.presentation.now in
    let p = c.args.rows.now in
    let level = c.in_ok-level.level in
    all_filled S P c.args.depth p c.requires.rows level.members.items level.reached.items c.in_ok-level.ensures
    (subst (λ (members : List Member). AreFilled p.tables members) c.deref.ensures.value c.in_default.ensures)

pub returns : goal.returns
returns c =
    let S = c.args.schema.now in
    let P = c.args.presentation.now in
    let p = c.args.rows.now in
    let level = c.in_ok-level.level in
    subst (IsNew S P c.args.depth) (sym c.in_ok-name.ensures)
    (open_is_new S P c.args.depth p c.requires.rows level.members.items level.reached.items c.in_ok-level.ensures c.in-Some.member.now
    (subst (λ (members : List Member). IsOpen p.tables members c.in-Some.member.now) c.deref.ensures.value c.in-Some.ensures))
