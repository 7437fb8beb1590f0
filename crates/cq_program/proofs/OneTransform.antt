-- Images stand for one transform, and where they stand for one none is told to be broken.
use Rattle.std.proofs.Common.{ℕ, List, Some, ◌≡◌, ◌<◌, ◌+◌, inl, inr, refl, sym, ap, subst, ◌∙◌}
use Rattle.std.specs.Prelude.{slice_get}
use Rattle.std.proofs.lemmas.Bool.{cases_order}
use Rattle.cq_theory.specs.declared.presentation.Equation.{Equation}
use Rattle.cq_theory.specs.declared.value.Value.{Value}
use Rattle.cq_theory.specs.Derivation.{left_of, right_of}
use Rattle.cq_theory.specs.Tables.{Tables, Holds, meaning_of}
use Rattle.cq_instance.specs.InstanceData.{InstanceData}
use Rattle.cq_instance.specs.declared.transform.Image.{Image}
use Rattle.cq_instance.specs.declared.transform.Transform.{Transform}
use Rattle.cq_transform.specs.Agreement.{Agrees}
use Rattle.cq_transform.specs.Refusals.{IsBrokenAt, IsKept}
use Rattle.cq_transform.specs.Transforms.{GoesFrom, meanings_in}
use Rattle.cq_transform.proofs.ExactlyOne.{one_homomorphism}
use Rattle.cq_environment.specs.declared.reason.Reason.{Reason}
use Rattle.cq_environment.specs.declared.reason.Reason.TheVariants.{Broken}
use Rattle.cq_environment.specs.Meanings.{Ends}
use Rattle.cq_program.specs.Posing.{IsTransformOf}
use Rattle.cq_program.specs.Program.{TellsBroken}

-- the images of a transform keep each equation of its start
kept : (i j : InstanceData) (t : Transform) → GoesFrom t i j → (n : ℕ) (e : Equation) → slice_get i.presentation.equations n ≡ Some e → IsKept j t.images e
kept i j t goes n e is = goes.holds.equations n e is

pub none_broken : (e : Ends) (images : List Image) (t : Transform) (reason : Reason) → IsTransformOf e images t → TellsBroken e images reason → ⊥
none_broken e images t reason is tells =
    let broken = tells.2 in
    broken.broken (subst (λ (l : List Image). IsKept e.finish.instance l broken.equation) is.images_are
    (kept e.start.instance e.finish.instance t is.goes broken.place broken.equation broken.there))

one_place : (i j : InstanceData) (images : List Image) (n m : ℕ) → IsBrokenAt i j images n → IsBrokenAt i j images m → n ≡ m
one_place i j images n m one other = elim (cases_order one.place other.place) [
  | inl same ↦ one.number ∙ ap (λ k. k + 1) same ∙ sym other.number
  | inr rest ↦ elim rest [
    | inl less ↦ absurd (one.broken (other.first one.place less one.equation one.there))
    | inr more ↦ absurd (other.broken (one.first other.place more other.equation other.there))
  ]
]

-- images tell one equation
pub one_broken : (e : Ends) (images : List Image) (reason other : Reason) → TellsBroken e images reason → TellsBroken e images other → reason ≡ other
one_broken e images reason other tells tells' =
    tells.1 ∙ ap Broken (one_place e.start.instance e.finish.instance images tells.0 tells'.0 tells.2 tells'.2) ∙ sym tells'.1

-- two transforms of one list of images are one
pub one_transform : (e : Ends) (images : List Image) (t u : Transform) → IsTransformOf e images t → IsTransformOf e images u → t ≡ u
one_transform e images t u h g =
    let i = e.start.instance in
    let j = e.finish.instance in
    let same : t.images ≡ u.images = h.images_are ∙ sym g.images_are in
    let agrees : Agrees i.schema i.presentation i.tables j.tables i.assignment (meanings_in j t.images) u.rows u.nulls =
    subst (λ (l : List Image). Agrees i.schema i.presentation i.tables j.tables i.assignment (meanings_in j l) u.rows u.nulls) (sym same) g.goes.agrees in
    let both = one_homomorphism i.schema i.presentation i.tables j.tables i.assignment (meanings_in j t.images) h.schema h.initial h.goes.holds
    t.rows u.rows t.nulls u.nulls h.goes.homomorphism h.goes.agrees g.goes.homomorphism agrees in
    λ k. record { images = same k; rows = both.0 k; nulls = both.1 k }
