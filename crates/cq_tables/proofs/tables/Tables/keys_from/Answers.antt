use Rattle.std.proofs.Common.{◌<◌, ◌∙◌, sym, ap, subst}
use Rattle.cq_tables.specs.Content.{entities_of, keys_of}
use Rattle.cq_tables.specs.Places.{keys_from}
use Rattle.cq_tables.specs.Shape.{Shape}
use Rattle.cq_tables.proofs.tables.Tables.keys_from.Goals as goal

pub keys_from-requires : goal.keys_from-requires
unfolding entities_of
keys_from-requires c =
    let range : c.args.entity < c.self.inside.plan.value.entities = rw (← c.self.view_is) at c.requires in
    subst (λ (p : Shape). c.args.entity < p.entities) (sym c.deref.ensures) range

pub returns : goal.returns
unfolding keys_of
returns c = rw (← c.self.view_is) (c.keys_from.ensures ∙ ap (λ (p : Shape). keys_from p.keys c.args.entity) c.deref.ensures)
