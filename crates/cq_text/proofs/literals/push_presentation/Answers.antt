use Rattle.cq_text.proofs.Plans.{four_parts}
use Rattle.cq_text.proofs.literals.push_presentation.Goals as goal

pub returns : goal.returns
returns c =
    four_parts c.args.text.now.items c.extend_from_slice.new.self.items c.push_generators.new.text.items c.extend_from_slice-2.new.self.items c.push_equations.new.text.items _ _ _ _
    c.in_ok-extend_from_slice.ensures.items c.in_ok-push_generators.ensures c.in_ok-extend_from_slice-2.ensures.items c.in_ok-push_equations.ensures
