use Rattle.std.proofs.Common.{ℕ, ◌≡◌, subst}
use Rattle.std.specs.Prelude.{option_map, slice_get}
use Rattle.cq_base.specs.declared.name.Name.{Name}
use Rattle.cq_base.specs.declared.place.Place.{Place}
use Rattle.cq_environment.specs.declared.reason.Reason.{Reason}
use Rattle.cq_environment.specs.declared.reason.Reason.TheVariants.{TooManyAnswers}
use Rattle.cq_environment.specs.Environment.{Tells}
use Rattle.cq_program.proofs.evals.meaning.tell_eval.Goals as goal

pub tell_answers-requires : goal.tell_answers-requires
tell_answers-requires c = c.requires c.in-TooManyAnswers.entity (cc)

pub returns-in-TooManyAnswers-clause-many : goal.returns-in-TooManyAnswers-clause-many
returns-in-TooManyAnswers-clause-many c = λ n is.
    let same : c.in-TooManyAnswers.entity ≡ n = cc in
    subst (λ (m : ℕ). Tells c.tell_answers.result (option_map (λ (x : Name). let p : Place × Reason = (c.args.place, TooManyAnswers x) in p) (slice_get c.args.query.now.target.entities m))) same c.tell_answers.ensures
