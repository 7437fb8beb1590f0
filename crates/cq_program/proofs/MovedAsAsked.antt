-- What the calls that move transforms ask, and what they answer.
use Rattle.std.proofs.Common.{◌≡◌, true, false, List, ◌⊎◌, inl, inr, refl, sym, ap, subst}
use Rattle.std.specs.Prelude.{Result, Ok, Err, IfOk, IfErr}
use Rattle.cq_theory.specs.declared.refusal.SizeRefusal.{SizeRefusal}
use Rattle.cq_theory.specs.declared.refusal.SizeRefusal.TheVariants.{TooLarge, Memory}
use Rattle.cq_theory.specs.Schema.{IsSchema}
use Rattle.cq_mapping.specs.MappingData.{MappingData}
use Rattle.cq_move.specs.Pulling.{TellsSize}
use Rattle.cq_query.specs.QueryData.{QueryData}
use Rattle.cq_instance.specs.Given.{given}
use Rattle.cq_instance.specs.InstanceData.{InstanceData, IsInstance}
use Rattle.cq_instance.specs.Listed.{IsListed}
use Rattle.cq_instance.specs.Spelling.{AreNullsSpelled, null_term_of}
use Rattle.cq_instance.specs.declared.transform.Image.{Image}
use Rattle.cq_instance.specs.declared.transform.Transform.{Transform}
use Rattle.cq_transform.specs.Composing.{has_long}
use Rattle.cq_transform.specs.Transforms.{GoesFrom}
use Rattle.cq_adjoint.specs.Copies.{AreAllAnswers}
use Rattle.cq_adjoint.specs.Moved.{IsSigmaOf, IsDeltaOf}
use Rattle.cq_adjoint.specs.QueryMoves.{AreAcross, AreEvaluated, IsCoeval, IsEvaluated}
use Rattle.cq_environment.specs.Environment.{IsBuilt}
use Rattle.cq_program.specs.Posed.{a_move}
use Rattle.cq_environment.specs.Meanings.{Ends, Meant, transform}
use Rattle.cq_program.specs.Movements.{Move, Movement, moved_along, there_and_back}
use Rattle.cq_program.specs.Posing.{Carried, IsMovement, IsMoving, IsWhole}
use Rattle.cq_environment.specs.Routes.{IsAnswered, IsPulled, IsPushed, IsReadBackwards, Route}
use Rattle.cq_program.specs.MovedImages.{Answered, AreAround, AreImages, AreMoved, HasImages, TellsLong}
use Rattle.cq_program.specs.Program.{Stands}

pub sigma_of : (F : MappingData) (i a : InstanceData) → IsPushed F i a → IsWhole a → IsSigmaOf F i a
sigma_of F i a is whole = record { over = is.over; schema = is.schema; presentation = is.presentation; initial = whole.model }

pub delta_of : (F : MappingData) (i a : InstanceData) → IsPulled F i a → IsDeltaOf F i a
delta_of F i a is = record { over = is.over; instance = is.instance }

pub coeval_is : (Q : QueryData) (i a : InstanceData) → IsReadBackwards Q i a → IsWhole a → IsCoeval Q i a
coeval_is Q i a is whole = record { over = is.over; schema = is.schema; presentation = is.presentation; initial = whole.model }

pub eval_is : (Q : QueryData) (i a : InstanceData) → IsAnswered Q i a → IsEvaluated Q i a
eval_is Q i a is = record { over = is.over; tables = is.tables; given = is.instance }

pub evaluated : (Q : QueryData) (i j a b : InstanceData) (from to : Answered) → IsAnswered Q i a → IsAnswered Q j b → AreAllAnswers Q i.tables from → AreAllAnswers Q j.tables to
    → AreEvaluated Q i j a b from to
evaluated Q i j a b from to source target are are' =
    record { source = eval_is Q i a source; target = eval_is Q j b target; answered = are; answered_there = are' }

pub across : (Q : QueryData) (i a j d : InstanceData) (answers : Answered) → IsWhole i → IsWhole a → IsReadBackwards Q i a → IsAnswered Q j d → AreAllAnswers Q j.tables answers
    → AreAcross Q i a j d answers
across Q i a j d answers whole copies backwards answered are =
    record { initial = whole.model; coeval = coeval_is Q i a backwards copies; evaluated = eval_is Q j d answered; answered = are }

-- the null terms of an instance that is listed or given spell its nulls
pub spelled : (i : InstanceData) → IsSchema i.schema → IsInstance i → IsBuilt i
    → ((j : InstanceData) → IsSchema j.schema → IsInstance j → j.given ≡ true → AreNullsSpelled j (null_term_of j))
    → ((j : InstanceData) → IsSchema j.schema → IsInstance j → IsListed j → AreNullsSpelled j (null_term_of j)) → AreNullsSpelled i (null_term_of i)
spelled i schema is built of_given of_listed = elim built [
  | inl listed ↦ of_listed i schema is listed
  | inr same ↦ of_given i schema is (ap (λ (j : InstanceData). j.given) same)
]

-- what a call answers has such images
module _ (Are : List Image → Type 0) (start finish : InstanceData) (images : List Image) (are : Are images) where
  pub has_images : (r : Result Transform SizeRefusal) → IfOk r (λ t. t.images ≡ images) → IfOk r (λ _. has_long images ≡ false) → IfOk r (λ t. GoesFrom t start finish)
      → IfOk r (HasImages Are start finish)
  has_images (Ok t) is fits goes = record { images = subst Are (sym is) are; fits = subst (λ (l : List Image). has_long l ≡ false) (sym is) fits; goes = goes }
  has_images (Err refusal) is fits goes = tt

  pub has_own_images : (r : Result Transform SizeRefusal) → IfOk r (λ t. t.images ≡ images) → IfOk r (λ t. has_long t.images ≡ false) → IfOk r (λ t. GoesFrom t start finish)
      → IfOk r (HasImages Are start finish)
  has_own_images (Ok t) is fits goes = record { images = subst Are (sym is) are; fits = fits; goes = goes }
  has_own_images (Err refusal) is fits goes = tt

  pub tells_long : (r : Result Transform SizeRefusal) → IfErr r (TellsSize (has_long images)) → IfErr r (TellsLong Are)
  tells_long (Ok t) tells = tt
  tells_long (Err TooLarge) tells = (images, are, tells)
  tells_long (Err Memory) tells = tt

  pub tells_own : (r : Result Transform SizeRefusal) → IfErr r (λ refusal. (refusal ≡ Memory) ⊎ ((refusal ≡ TooLarge) × (has_long images ≡ true))) → IfErr r (TellsLong Are)
  tells_own (Ok t) tells = tt
  tells_own (Err TooLarge) tells = elim tells [
    | inl is ↦ absurd (cc is)
    | inr both ↦ (images, are, both.1)
  ]
  tells_own (Err Memory) tells = tt

start_whole : (v : Movement) (e : Ends) → IsMovement v e → IsWhole e.start.instance
start_whole (moved_along r h) e is = is.start
start_whole (there_and_back r x) e is = is.start_whole

-- a transform with the images of a movement stands for it
pub stands_move : (v : Move) (m : Meant) (t : Transform) → IsMoving v → IsSchema v.ends.start.instance.schema
    → HasImages (AreImages v.movement v.ends) v.ends.start.instance v.ends.finish.instance t → m ≡ transform v.ends t → Stands (a_move v) m
stands_move v m t is schema has named = (
  t,
  named,
  record { images_are = refl; schema = schema; initial = (start_whole v.movement v.ends is).model.0; goes = has.goes },
  has.images,
  has.fits,
)

-- what is answered along a route is answered along the same one
module _ (r s : Route) (k l : Carried) (routes : r ≡ s) (same : k ≡ l) (answer : Result Transform SizeRefusal) where
  pub made_along : IfOk answer (HasImages (AreMoved r k) k.start k.finish) → IfOk answer (HasImages (AreMoved s l) l.start l.finish)
  made_along made = subst (λ (p : Route × Carried). IfOk answer (HasImages (AreMoved p.0 p.1) p.1.start p.1.finish)) (λ i. (routes i, same i)) made

  pub refused_along : IfErr answer (TellsLong (AreMoved r k)) → IfErr answer (TellsLong (AreMoved s l))
  refused_along refused = subst (λ (p : Route × Carried). IfErr answer (TellsLong (AreMoved p.0 p.1))) (λ i. (routes i, same i)) refused

module _ (r s : Route) (start start' finish finish' : InstanceData) (there : InstanceData) (routes : r ≡ s) (starts : start ≡ start') (finishes : finish ≡ finish')
    (answer : Result Transform SizeRefusal) where
  pub made_around : IfOk answer (HasImages (AreAround r start finish there) start finish) → IfOk answer (HasImages (AreAround s start' finish' there) start' finish')
  made_around made =
      subst (λ (p : Route × InstanceData × InstanceData). IfOk answer (HasImages (AreAround p.0 p.1 p.2 there) p.1 p.2)) (λ i. (routes i, starts i, finishes i)) made

  pub refused_around : IfErr answer (TellsLong (AreAround r start finish there)) → IfErr answer (TellsLong (AreAround s start' finish' there))
  refused_around refused =
      subst (λ (p : Route × InstanceData × InstanceData). IfErr answer (TellsLong (AreAround p.0 p.1 p.2 there))) (λ i. (routes i, starts i, finishes i)) refused
