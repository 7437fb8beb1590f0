use Rattle.std.proofs.Common.{◌∙◌, ap}
use Rattle.cq_tables.specs.Content.{entities_of, keys_of}
use Rattle.cq_tables.proofs.tables.Tables.blank.Goals as goal

pub returns-clause-entities : goal.returns-clause-entities
unfolding entities_of
returns-clause-entities c = rw (← c.self.view_is) (c.over.ensures.entities ∙ ap (λ p. p.entities) c.in_ok-clone.ensures.cases)

pub returns-clause-keys : goal.returns-clause-keys
unfolding keys_of
returns-clause-keys c = rw (← c.self.view_is) (c.over.ensures.keys ∙ ap (λ p. p.keys) c.in_ok-clone.ensures.cases)
