use Rattle.std.proofs.Common.{length, map, ap, ◌∙◌}
use Rattle.cq_theory.specs.Canonical.{below}
use Rattle.cq_theory.specs.Tables.{Tables}
use Rattle.cq_instance.specs.Given.{tables}
use Rattle.cq_instance.specs.Standing.{meaning}
use Rattle.cq_instance.specs.Numbers as made
use Rattle.cq_instance.proofs.CanonicalEquations.{names_are, meanings_are}
use Rattle.cq_instance.proofs.given.given_parts.Goals as goal

pub returns-clause-names : goal.returns-clause-names
returns-clause-names c =
    let M : Tables = tables c.args.sheet.now c.args.algebra in
    c.names.view_is ∙ c.in_ok-names.ensures ∙ (λ i. map (made.names (c.as_slice.ensures i)) (below (length (c.as_slice.ensures i)))) ∙ names_are c.args.schema.now M c.requires.model.well_formed.entities

pub returns-clause-standings : goal.returns-clause-standings
returns-clause-standings c =
    let M : Tables = tables c.args.sheet.now c.args.algebra in
    ap (map meaning) c.from_vec.ensures ∙ c.in_ok-standings.ensures ∙ (λ i. made.meanings (c.as_slice-2.ensures i) (c.len.ensures i)) ∙ meanings_are c.args.schema.now M c.requires.model.well_formed.entities
