-- What images pose, and what their refusals tell.
use Rattle.std.proofs.Common.{ℕ, Bool, true, false, List, ◌≡◌, ◌⊎◌, inl, inr, Option, Some, None, refl, sym, ap, subst, ◌∙◌, length}
use Rattle.std.specs.Prelude.{Result, Ok, Err, IfOk, IfErr, not, if◌then◌else◌, option_and_then}
use Rattle.std.proofs.lemmas.List.{length-map}
use Rattle.cq_base.specs.declared.name.Name.{Name}
use Rattle.cq_base.specs.declared.place.Place.{Place}
use Rattle.cq_base.specs.declared.raw.Raw.{Raw}
use Rattle.cq_base.specs.Names.{same_name}
use Rattle.cq_syntax.specs.declared.literal.TransformLit.{TransformLit}
use Rattle.cq_syntax.specs.declared.part.Bind.{Bind}
use Rattle.cq_theory.specs.Schema.{IsSchema}
use Rattle.cq_theory.specs.declared.refusal.ArrowRefusal.{ArrowRefusal}
use Rattle.cq_theory.specs.declared.refusal.ArrowRefusal.TheVariants as arrow
use Rattle.cq_instance.specs.InstanceData.{InstanceData}
use Rattle.cq_instance.specs.declared.transform.Image.{Image}
use Rattle.cq_instance.specs.declared.transform.Transform.{Transform}
use Rattle.cq_transform.specs.declared.refusal.TransformRefusal.{TransformRefusal}
use Rattle.cq_transform.specs.declared.refusal.TransformRefusal.TheVariants as images
use Rattle.cq_transform.specs.Images.{images_fault, images_made}
use Rattle.cq_transform.specs.Transforming as transforming
use Rattle.cq_transform.specs.Transforms.{GoesFrom}
use Rattle.cq_environment.specs.declared.refusal.ProgramRefusal.{ProgramRefusal}
use Rattle.cq_environment.specs.declared.reason.Reason.TheVariants.{WrongSchema}
use Rattle.cq_program.specs.declared.statement.Statement.{Statement}
use Rattle.cq_environment.specs.Meanings.{Checked, Ends, Environment, InstanceMeant, and_then, instance_used}
use Rattle.cq_program.specs.Posed.{Posed, a_transform, arrow_breach}
use Rattle.cq_program.specs.Transforms.{ends_of, images_given, images_posed, transform_between, transform_posed}
use Rattle.cq_environment.specs.Environment.{Answers, AreEnds, IsTermModel, TellsChecked, Tells}
use Rattle.cq_program.specs.Images.{broken_by_images, rule_on_images}
use Rattle.cq_parts.specs.Parts.{transform_count, transform_parts, transform_places}
use Rattle.cq_program.specs.Posing.{IsGrounded, posed_as}
use Rattle.cq_program.specs.Posing.{IsTransformOf}
use Rattle.cq_program.proofs.Given.{given_after, given_parts, refused, refused_then}

-- each image is one part
pub images_fit : (lit : TransformLit) → length (transform_parts lit) ≡ transform_count lit
unfolding transform_parts
images_fit lit = length-map {B = Name × Raw} lit.images (λ (b : Bind). (b.name, b.term.raw))

-- images that break no rule are posed
pub images_accepted : (place : Place) (lit : TransformLit) (e : Ends) (parts : List (Name × Raw)) → parts ≡ transform_parts lit
    → images_fault e.start.instance e.finish.instance parts ≡ None
    → images_posed place lit e ≡ Ok (a_transform e (images_made e.start.instance e.finish.instance parts))
unfolding images_given
images_accepted place lit e parts are none =
    let made : List Image = images_made e.start.instance e.finish.instance parts in
    given_after (images_given place e.start.instance e.finish.instance lit) made (λ found. Ok (a_transform e found)) (a_transform e made)
    (given_parts (broken_by_images e.start.instance e.finish.instance) (images_made e.start.instance e.finish.instance) (arrow_breach place) (transform_places lit)
    parts (transform_parts lit) are made (ap (option_and_then rule_on_images) none) refl) refl

none_some : {X : Type 0} (x : X) → None ≡ Some x → ⊥
none_some x h = absurd (cc h)

same_some : {X : Type 0} (x y : X) → Some x ≡ Some y → x ≡ y
same_some x y h = cc

-- the rule that a refusal tells is the first that the images break, unless it is want of memory
told : (i j : InstanceData) (parts : List (Name × Raw)) (refusal : TransformRefusal) (rule : ArrowRefusal) → transforming.Tells i j parts refusal → rule_on_images refusal ≡ Some rule
    → (rule ≡ arrow.Memory) ⊎ (broken_by_images i j parts ≡ Some rule)
told i j parts (images.Duplicate n) rule tells is = inr (ap (option_and_then rule_on_images) tells ∙ is)
told i j parts (images.Unknown n) rule tells is = inr (ap (option_and_then rule_on_images) tells ∙ is)
told i j parts (images.WrongCount n) rule tells is = inr (ap (option_and_then rule_on_images) tells ∙ is)
told i j parts (images.WrongSort n) rule tells is = inr (ap (option_and_then rule_on_images) tells ∙ is)
told i j parts (images.Reserved n) rule tells is = inr (ap (option_and_then rule_on_images) tells ∙ is)
told i j parts (images.TooLarge n) rule tells is = inr (ap (option_and_then rule_on_images) tells ∙ is)
told i j parts (images.Missing name) rule tells is = inr (ap (option_and_then rule_on_images) tells ∙ is)
told i j parts (images.Broken n) rule tells is = absurd (none_some rule is)
told i j parts images.Memory rule tells is = inl (sym (same_some arrow.Memory rule is))

-- images that break a rule are refused by it
pub images_refused : (place : Place) (lit : TransformLit) (e : Ends) (refusal : TransformRefusal) (rule : ArrowRefusal) (answer : ProgramRefusal)
    → transforming.Tells e.start.instance e.finish.instance (transform_parts lit) refusal → rule_on_images refusal ≡ Some rule
    → Tells answer (arrow_breach place (transform_places lit) rule) → TellsChecked answer (images_posed place lit e)
unfolding images_given
images_refused place lit e refusal rule answer tells is said =
    let i : InstanceData = e.start.instance in
    let j : InstanceData = e.finish.instance in
    refused_then answer (images_given place i j lit) (λ found. Ok (a_transform e found))
    (refused (arrow_breach place (transform_places lit)) arrow.Memory refl answer rule (broken_by_images i j (transform_parts lit)) (images_made i j (transform_parts lit)) said
    (told i j (transform_parts lit) refusal rule tells is))

-- two instances over one schema whose images are posed
passes : (b : Bool) → false ≡ not b → b ≡ true
passes true h = refl
passes false h = absurd (cc h)

pub images_are_posed : (env : Environment) (place : Place) (lit : TransformLit) (i j : InstanceMeant) → instance_used env lit.source ≡ Ok i → instance_used env lit.target ≡ Ok j
    → false ≡ not (same_name i.schema j.schema) → transform_posed env place lit ≡ images_posed place lit (ends_of lit i j)
images_are_posed env place lit i j is there same =
    ap (λ r. and_then r (λ start. and_then (instance_used env lit.target) (λ finish. transform_between place lit start finish))) is
    ∙ ap (λ r. and_then r (λ finish. transform_between place lit i finish)) there
    ∙ ap (λ (b : Bool). if b then images_posed place lit (ends_of lit i j) else Err (lit.target.place, WrongSchema)) (passes (same_name i.schema j.schema) same)

-- what images pose goes between its ends
over_ends : (env : Environment) (name : Name) (e : Ends) (check : Checked (List Image)) (posed : Posed) → AreEnds env e
    → and_then check (λ found. Ok (a_transform e found)) ≡ Ok posed → IsGrounded env name posed
over_ends env name e (Ok found) posed are is = let same : a_transform e found ≡ posed = cc in subst (IsGrounded env name) same are
over_ends env name e (Err broken) posed are is = absurd (cc is)

pub images_grounded : (env : Environment) (name : Name) (place : Place) (lit : TransformLit) (e : Ends) (r : Result Statement ProgramRefusal) → AreEnds env e
    → Answers posed_as r (images_posed place lit e) → IfOk r (λ statement. IsGrounded env name (posed_as statement))
images_grounded env name place lit e (Ok statement) are is = over_ends env name e (images_given place e.start.instance e.finish.instance lit) (posed_as statement) are is
images_grounded env name place lit e (Err refusal) are is = tt

-- what the call says of its answer
abbrev Agreed : Result Transform TransformRefusal → List (Name × Raw) → InstanceData → InstanceData → Type 0
Agreed r parts i j = IfOk r (λ _. transforming.AreRight i j parts) × IfOk r (λ t. t.images ≡ images_made i j parts) × IfOk r (λ t. IsTermModel i → GoesFrom t i j)
    × IfErr r (transforming.Tells i j parts)

-- the same of the ends between which it is called
pub agreed_between : (r : Result Transform TransformRefusal) (parts : List (Name × Raw)) (i i' j j' : InstanceData) → i ≡ i' → j ≡ j' → Agreed r parts i j → Agreed r parts i' j'
agreed_between r parts i i' j j' start finish agreed = let same : Agreed r parts i j ≡ Agreed r parts i' j' = λ k. Agreed r parts (start k) (finish k) in subst (λ (Y : Type 0). Y) same agreed

pub accepted_between : (r : Result Transform TransformRefusal) (parts : List (Name × Raw)) (i j : InstanceData) → Agreed r parts i j → IfOk r (λ _. images_fault i j parts ≡ None)
accepted_between (Ok t) parts i j agreed = agreed.0.images
accepted_between (Err refusal) parts i j agreed = tt

pub stands_between : (r : Result Transform TransformRefusal) (parts : List (Name × Raw)) (e : Ends) → Agreed r parts e.start.instance e.finish.instance → IsSchema e.start.instance.schema
    → IsTermModel e.start.instance → IfOk r (IsTransformOf e (images_made e.start.instance e.finish.instance parts))
stands_between (Ok t) parts e agreed schema model = record { images_are = agreed.1; schema = schema; initial = model.0; goes = agreed.2 model }
stands_between (Err refusal) parts e agreed schema model = tt
