use Rattle.std.proofs.Common.{sym, ap, subst}
use Rattle.cq_flat.specs.Nodes.{HasEarlierArguments, AreSides}
use Rattle.cq_model.specs.Built.{IsClosureOf}
use Rattle.cq_model.specs.NodeListData.{NodeListData}
use Rattle.cq_model.proofs.building.close_nodes.Goals as goal

pub close-requires : goal.close-requires
close-requires c = record {
  arguments = subst (λ (l : NodeListData). HasEarlierArguments l.nodes) (sym c.list.view_is) c.requires.arguments;
  sides = subst (λ (l : NodeListData). AreSides l.nodes l.equations) (sym c.list.view_is) c.requires.sides;
}

pub returns : goal.returns
returns c = record {
  closure = subst (λ (l : NodeListData). IsClosureOf l.nodes l.equations c.in_ok-flat.flat) c.list.view_is
      (record { values = c.in_ok-flat.ensures.values; labels = c.in_ok-flat.ensures.labels; entries = c.in_ok-flat.ensures.entries; clash = c.in_ok-flat.ensures.clash });
  types = ap (λ (l : NodeListData). l.types) c.list.view_is;
}
