use Rattle.std.proofs.Common.{ap, sym, ◌∙◌, Some, if◌then◌else◌}
use Rattle.cq_flat.specs.Keys.{found, same_key}
use Rattle.cq_flat.proofs.Keyed.{found_number, found_text, put_number, put_text}
use Rattle.cq_flat.proofs.key.Table.put.Goals as goal

pub returns-in_ok-insert-in-Numbers-clause-earlier : goal.returns-in_ok-insert-in-Numbers-clause-earlier
returns-in_ok-insert-in-Numbers-clause-earlier c =
    let old = rw c.in-Numbers.numbers-is at c.in_ok-insert-in-Numbers.ensures.old in
    rw (← c.self.view_is, ← c.key.view_is, c.in-Numbers.is) (old ∙ sym (found_number c.self.inside.numbers.entries c.self.inside.texts.entries c.in-Numbers.numbers))

pub returns-in_ok-insert-in-Numbers-clause-put : goal.returns-in_ok-insert-in-Numbers-clause-put
returns-in_ok-insert-in-Numbers-clause-put c =
    let updated = rw c.in-Numbers.numbers-is at c.in_ok-insert-in-Numbers.ensures.updates.0 in
    rw (← c.self.view_is, ← c.key.view_is, c.in-Numbers.is)
    (put_number c.self.inside.numbers.entries c.insert.new.self.entries c.self.inside.texts.entries c.in-Numbers.numbers c.args.node updated)

pub returns-in_ok-insert-in-Text-clause-earlier : goal.returns-in_ok-insert-in-Text-clause-earlier
returns-in_ok-insert-in-Text-clause-earlier c =
    let old = rw c.in-Text.text-is at c.in_ok-insert-in-Text.ensures.old in
    rw (← c.self.view_is, ← c.key.view_is, c.in-Text.is) (old ∙ c.in_ok-make_room-in-Text.ensures _ ∙ sym (found_text c.self.inside.numbers.entries c.self.inside.texts.entries c.in-Text.text))

pub returns-in_ok-insert-in-Text-clause-put : goal.returns-in_ok-insert-in-Text-clause-put
returns-in_ok-insert-in-Text-clause-put c =
    let updated = rw c.in-Text.text-is at c.in_ok-insert-in-Text.ensures.updates.0 in
    rw (← c.self.view_is, ← c.key.view_is, c.in-Text.is)
    (put_text c.self.inside.numbers.entries c.self.inside.texts.entries c.insert-in-Text.new.self.entries c.in-Text.text c.args.node
    (λ q. updated q ∙ ap (λ o. if same_key c.in-Text.text q then Some c.args.node else o) (c.in_ok-make_room-in-Text.ensures q)))
