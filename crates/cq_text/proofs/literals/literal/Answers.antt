use Rattle.cq_text.proofs.Plans.{three_parts}
use Rattle.cq_text.proofs.literals.literal.Goals as goal

pub returns : goal.returns
returns c =
    three_parts c.new-text.result.items c.push_first_line.new.text.items c.push_presentation.new.text.items c.extend_from_slice.new.self.items _ _ _
    c.new-text.ensures.items c.in_ok-push_first_line.ensures c.in_ok-push_presentation.ensures c.in_ok-extend_from_slice.ensures.items
