use Rattle.std.proofs.Common.{◌≡◌, ◌∙◌, sym, ap, subst, ◌∷◌, ◌++◌, [], true, length, replicate, None, ◌<◌, arith}
use Rattle.std.proofs.lemmas.Grind.{common_steps}
use Rattle.cq_tables.specs.Content.{entities_of}
use Rattle.cq_tables.specs.Places.{width_of}
use Rattle.cq_tables.specs.Shape.{Shape}
use Rattle.cq_tables.proofs.Added.{added_as}
use Rattle.cq_tables.proofs.tables.Tables.add_row.Goals as goal

pub width-width-requires : goal.width-width-requires
unfolding entities_of
width-width-requires c =
    let range : c.args.entity < c.self.inside.plan.value.entities = rw (← c.self.view_is) at c.requires in
    subst (λ (p : Shape). c.args.entity < p.entities) (sym c.deref.ensures) range

pub invariant_of-self-2 : goal.invariant_of-self-2
unfolding entities_of
invariant_of-self-2 c =
    let row : c.len-row.result ≡ length c.self.inside.kinds.items = grind (arith, common_steps) in
    let start : c.len-start.result ≡ length c.self.inside.cells.cells = grind (arith, common_steps) in
    let kinds : c.push.new.self.items ≡ c.self.inside.kinds.items ++ c.args.entity ∷ [] = grind (arith, common_steps) in
    let alive : c.push-2.new.self.items ≡ c.self.inside.alive.items ++ true ∷ [] = grind (arith, common_steps) in
    let starts : c.push-3.new.self.items ≡ c.self.inside.starts.items ++ c.len-start.result ∷ [] = grind (arith, common_steps) in
    let width : c.width-width.result ≡ width_of c.self.inside.plan.value.keys c.args.entity = c.width-width.ensures ∙ ap (λ (p : Shape). width_of p.keys c.args.entity) c.deref.ensures in
    let cells : c.add.new.self.cells ≡ c.self.inside.cells.cells ++ replicate (width_of c.self.inside.plan.value.keys c.args.entity) None = rw (← width) c.in_ok-add.ensures.cells in
    let range = (let e : c.args.entity < entities_of c.args.self.now = c.requires in rw (← c.self.view_is) at e) in
    let a = added_as _ _ _ _ _ _ _ _ _ _ _ _ _ _ _ c.self.invariant.laid c.self.invariant.whole range row start kinds alive starts cells c.in_ok-add.ensures.counts c.add.ensures.fits in
    record { whole = a.whole; laid = a.laid }

pub returns-clause-ok : goal.returns-clause-ok
unfolding entities_of
returns-clause-ok c =
    let row : c.len-row.result ≡ length c.self.inside.kinds.items = grind (arith, common_steps) in
    let start : c.len-start.result ≡ length c.self.inside.cells.cells = grind (arith, common_steps) in
    let kinds : c.push.new.self.items ≡ c.self.inside.kinds.items ++ c.args.entity ∷ [] = grind (arith, common_steps) in
    let alive : c.push-2.new.self.items ≡ c.self.inside.alive.items ++ true ∷ [] = grind (arith, common_steps) in
    let starts : c.push-3.new.self.items ≡ c.self.inside.starts.items ++ c.len-start.result ∷ [] = grind (arith, common_steps) in
    let width : c.width-width.result ≡ width_of c.self.inside.plan.value.keys c.args.entity = c.width-width.ensures ∙ ap (λ (p : Shape). width_of p.keys c.args.entity) c.deref.ensures in
    let cells : c.add.new.self.cells ≡ c.self.inside.cells.cells ++ replicate (width_of c.self.inside.plan.value.keys c.args.entity) None = rw (← width) c.in_ok-add.ensures.cells in
    let range = (let e : c.args.entity < entities_of c.args.self.now = c.requires in rw (← c.self.view_is) at e) in
    rw (← c.self.view_is) (added_as _ _ _ _ _ _ _ _ _ _ _ _ _ _ _ c.self.invariant.laid c.self.invariant.whole range row start kinds alive starts cells c.in_ok-add.ensures.counts c.add.ensures.fits).adds

pub returns-clause-whole : goal.returns-clause-whole
unfolding entities_of
returns-clause-whole c =
    let row : c.len-row.result ≡ length c.self.inside.kinds.items = grind (arith, common_steps) in
    let start : c.len-start.result ≡ length c.self.inside.cells.cells = grind (arith, common_steps) in
    let kinds : c.push.new.self.items ≡ c.self.inside.kinds.items ++ c.args.entity ∷ [] = grind (arith, common_steps) in
    let alive : c.push-2.new.self.items ≡ c.self.inside.alive.items ++ true ∷ [] = grind (arith, common_steps) in
    let starts : c.push-3.new.self.items ≡ c.self.inside.starts.items ++ c.len-start.result ∷ [] = grind (arith, common_steps) in
    let width : c.width-width.result ≡ width_of c.self.inside.plan.value.keys c.args.entity = c.width-width.ensures ∙ ap (λ (p : Shape). width_of p.keys c.args.entity) c.deref.ensures in
    let cells : c.add.new.self.cells ≡ c.self.inside.cells.cells ++ replicate (width_of c.self.inside.plan.value.keys c.args.entity) None = rw (← width) c.in_ok-add.ensures.cells in
    let range = (let e : c.args.entity < entities_of c.args.self.now = c.requires in rw (← c.self.view_is) at e) in
    (added_as _ _ _ _ _ _ _ _ _ _ _ _ _ _ _ c.self.invariant.laid c.self.invariant.whole range row start kinds alive starts cells c.in_ok-add.ensures.counts c.add.ensures.fits).whole
