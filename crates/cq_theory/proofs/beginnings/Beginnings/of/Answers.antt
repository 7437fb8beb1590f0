use Rattle.cq_theory.proofs.beginnings.Beginnings.of.Goals as goal

pub returns : goal.returns
returns c = record {
  keys = c.in_ok-keys.ensures;
  attributes = c.in_ok-attributes.ensures;
  path_eqs = c.in_ok-path_eqs.ensures;
  obs_eqs = c.in_ok-obs_eqs.ensures;
}
