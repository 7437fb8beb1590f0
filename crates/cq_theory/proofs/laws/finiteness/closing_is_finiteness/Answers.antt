use Rattle.cq_theory.proofs.Finite.{finite_from_closing, closing_from_finite}
use Rattle.cq_theory.proofs.laws.finiteness.closing_is_finiteness.Goals as goal

pub returns : goal.returns
returns c = λ S P schema presentation. (finite_from_closing S P schema presentation, closing_from_finite S P schema presentation)
