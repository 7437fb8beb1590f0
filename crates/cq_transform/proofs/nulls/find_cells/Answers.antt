use Rattle.cq_transform.proofs.Spelled.{keeps-then}
use Rattle.cq_transform.proofs.Steps.{attributes_more}
use Rattle.cq_transform.proofs.nulls.find_cells.Goals as goal

pub loop-attribute-preserved : goal.loop-attribute-preserved
loop-attribute-preserved c = record {
  keeps = keeps-then c.args.found.now.items c.loop-attribute.found.items c.find_attribute.new.found.items c.loop-attribute.invariant.keeps c.in_ok-find_attribute.ensures.keeps;
  spelled = λ B initial made all. c.in_ok-find_attribute.ensures.spelled B initial made (c.loop-attribute.invariant.spelled B initial made all);
  closed = attributes_more c.args.source.now c.loop-attribute.found.items c.find_attribute.new.found.items c.loop-attribute.attribute
      c.in_ok-find_attribute.ensures.keeps c.in_ok-find_attribute.ensures.closed c.loop-attribute.invariant.closed;
}
