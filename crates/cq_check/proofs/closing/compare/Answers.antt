use Rattle.std.proofs.Common.{◌∙◌, length, sym, ap, subst}
use Rattle.cq_flat.specs.Nodes.{HasEarlierArguments, AreSides}
use Rattle.cq_flat.specs.Values.{AreValues}
use Rattle.cq_check.specs.Closed.{IsAmong}
use Rattle.cq_check.specs.NodeListData.{NodeListData}
use Rattle.cq_check.proofs.closing.compare.Goals as goal

pub close-requires-clause-arguments : goal.close-requires-clause-arguments
close-requires-clause-arguments c = subst (λ (l : NodeListData). HasEarlierArguments l.nodes) (sym c.list.view_is) c.requires.arguments

pub close-requires-clause-sides : goal.close-requires-clause-sides
close-requires-clause-sides c = subst (λ (l : NodeListData). AreSides l.nodes l.equations) (sym c.list.view_is) c.requires.sides

pub answers_by-requires : goal.answers_by-requires
answers_by-requires c = λ n one at.
    subst (λ count. IsAmong count one) (sym (c.in_ok-flat.ensures.values.count ∙ ap (λ (l : NodeListData). length l.nodes) c.list.view_is)) (c.requires.among n one at)

pub returns : goal.returns
returns c = record {
  values = c.in_ok-flat.flat.values;
  are_values = subst (λ (l : NodeListData). AreValues l.nodes l.equations c.in_ok-flat.flat.values) c.list.view_is c.in_ok-flat.ensures.values;
  told = c.in_ok-answers.ensures;
}
