use Rattle.std.proofs.Common.{refl, arith}
use Rattle.std.proofs.lemmas.Grind.{common_steps}
use Rattle.cq_tables.specs.Content.{entities_of, keys_of, made_of}
use Rattle.cq_tables.proofs.Empty.{IsWhole-empty, IsLaid-empty}
use Rattle.cq_tables.proofs.tables.Tables.over.Goals as goal

pub invariant_of-result : goal.invariant_of-result
invariant_of-result c = record {
  whole = IsWhole-empty _ _ _ _ _ c.new.ensures.items c.new-2.ensures.items;
  laid = IsLaid-empty _ _ _ _ _ _ c.new.ensures.items c.new-2.ensures.items c.new-3.ensures.items c.new-4.ensures.cells c.new-4.ensures.counts;
}

pub returns-clause-entities : goal.returns-clause-entities
unfolding entities_of
returns-clause-entities c = refl

pub returns-clause-keys : goal.returns-clause-keys
unfolding keys_of
returns-clause-keys c = refl

pub returns-clause-empty : goal.returns-clause-empty
unfolding made_of
returns-clause-empty c = grind (arith, common_steps)

pub returns-clause-whole : goal.returns-clause-whole
returns-clause-whole c = IsWhole-empty _ _ _ _ _ c.new.ensures.items c.new-2.ensures.items
