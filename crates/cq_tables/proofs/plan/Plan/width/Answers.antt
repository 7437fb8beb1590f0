use Rattle.std.proofs.Common.{[], ◌≡◌, ◌<◌, length, map, get_or, sym, ap, ◌∙◌, arith}
use Rattle.std.proofs.lemmas.List.{get_or-map}
use Rattle.cq_tables.specs.Places.{width_of}
use Rattle.cq_tables.proofs.Starting.{length-keys_from}
use Rattle.cq_tables.proofs.plan.Plan.width.Goals as goal

pub returns : goal.returns
returns c =
    let h : c.args.entity < length c.self.inside.starting.items = rw (← c.self.view_is) at c.requires in
    let list_is = get_or-map (λ list. list.items) c.self.inside.starting.items c.args.entity c.index.result.now [] h in
    let items_are : c.index.result.now.items ≡ get_or (map (λ list. list.items) c.self.inside.starting.items) c.args.entity [] = ap (λ list. list.items) c.index.ensures ∙ sym list_is in
    let count : length c.index.result.now.items ≡ width_of c.self.inside.keys.items c.args.entity =
    ap length (items_are ∙ c.self.invariant.starting c.args.entity h) ∙ length-keys_from c.self.inside.keys.items c.args.entity in
    rw (← c.self.view_is) (omega (arith, c.len.ensures, c.index.result.now.ok.0, count))
