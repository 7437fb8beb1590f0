-- The images of transforms that operations move, and of units and counits.
use Rattle.std.specs.Prelude.{◌≡◌, ℕ, true, false, List}
use Rattle.cq_theory.specs.declared.refusal.SizeRefusal.{SizeRefusal}
use Rattle.cq_theory.specs.declared.refusal.SizeRefusal.TheVariants.{TooLarge, Memory}
use Rattle.cq_instance.specs.InstanceData.{InstanceData}
use Rattle.cq_instance.specs.Spelling.{null_term_of}
use Rattle.cq_instance.specs.declared.transform.Image.{Image}
use Rattle.cq_instance.specs.declared.transform.Transform.{Transform}
use Rattle.cq_transform.specs.Composing.{has_long}
use Rattle.cq_transform.specs.Transforms.{GoesFrom}
use Rattle.cq_adjoint.specs.AnswerNames.{from_eval_images}
use Rattle.cq_adjoint.specs.Copies.{AreAllAnswers}
use Rattle.cq_adjoint.specs.Moves.{sigma_images, delta_images}
use Rattle.cq_adjoint.specs.QueryMoves.{coeval_images, eval_images, to_eval_images}
use Rattle.cq_adjoint.specs.Units.{identity_of, unit_images, counit_images}
use Rattle.cq_environment.specs.Routes.{Route, by_sigma, by_delta, by_eval, by_coeval}
use Rattle.cq_program.specs.Movements.{Movement, moved_along, there_and_back}
use Rattle.cq_environment.specs.Meanings.{Ends}
use Rattle.cq_program.specs.Posing.{Carried, carried}

-- the answers of a query for each entity, as they stand in lists
abbrev pub Answered : Type 0
Answered = List (List (List ℕ))

-- the images along a route of a transform that is moved
abbrev pub AreMoved : Route → Carried → List Image → Type 0
AreMoved (by_sigma F) k images = images ≡ sigma_images F k.moved
AreMoved (by_delta F) k images = images ≡ delta_images F k.moved k.source k.target k.start k.finish
AreMoved (by_eval Q) k images =
    (from : Answered) × (to : Answered) × AreAllAnswers Q k.source.tables from × AreAllAnswers Q k.target.tables to
    × (images ≡ eval_images Q k.moved k.source k.target k.start k.finish from to)
AreMoved (by_coeval Q) k images = images ≡ coeval_images Q k.moved k.source k.target

-- The images of a unit or a counit between two instances, by the instance there. Along a query they are those of the transform into eval,
-- or out of coeval, of the identity of the instance there.
abbrev pub AreAround : Route → (start finish there : InstanceData) → List Image → Type 0
AreAround (by_sigma F) start finish there images = images ≡ unit_images start there finish
AreAround (by_delta F) start finish there images = images ≡ counit_images F (null_term_of finish) finish there
AreAround (by_eval Q) start finish there images =
    (answers : Answered) × AreAllAnswers Q finish.tables answers
    × (images ≡ from_eval_images Q (identity_of there) there finish there answers (null_term_of finish))
AreAround (by_coeval Q) start finish there images =
    (answers : Answered) × AreAllAnswers Q there.tables answers
    × (images ≡ to_eval_images Q (identity_of there) start there there finish answers)

abbrev pub AreImages : Movement → Ends → List Image → Type 0
AreImages (moved_along route h) e images = AreMoved route (carried h e) images
AreImages (there_and_back route x) e images = AreAround route e.start.instance e.finish.instance x images

-- a transform from start to finish that has such images, none of over 1,024 symbols
pub record HasImages (Are : List Image → Type 0) (start finish : InstanceData) (t : Transform) : Type 0 where
  pub images : Are t.images
  pub fits : has_long t.images ≡ false
  pub goes : GoesFrom t start finish

-- such images have one of over 1,024 symbols
abbrev pub AreLong : (List Image → Type 0) → Type 0
AreLong Are = (images : List Image) × Are images × (has_long images ≡ true)

abbrev pub TellsLong : (List Image → Type 0) → SizeRefusal → Type 0
TellsLong Are TooLarge = AreLong Are
TellsLong Are Memory = Unit {0}
