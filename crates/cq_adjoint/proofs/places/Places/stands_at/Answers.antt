use Rattle.std.proofs.Common.{ℕ, List, Vec, Global, Some, ◌≡◌, sym, ap, ◌∙◌}
use Rattle.std.specs.Prelude.{slice_get}
use Rattle.std.proofs.lemmas.Bool.Decides.{Decides-eqb}
use Rattle.std.proofs.lemmas.Option.{slice_get-get_or}
use Rattle.std.proofs.lemmas.Slice.Eq.{slice_eq-Decides}
use Rattle.cq_adjoint.specs.Copies.{place_of}
use Rattle.cq_adjoint.proofs.Searched.{known_at}
use Rattle.cq_adjoint.proofs.places.Places.stands_at.Goals as goal

pub returns-in-Some : goal.returns-in-Some
returns-in-Some c = λ yes.
    let f : Vec ℕ Global → List ℕ = λ rows. rows.items in
    let xs : List (Vec ℕ Global) = c.self.inside.answers.now in
    let x : Vec ℕ Global = c.in-Some.answer.now in
    let found = c.in-Some.ensures.lookup.3 in
    let at : slice_get xs c.args.place ≡ Some x = slice_get-get_or xs c.args.place x found.0 ∙ ap (λ (y : Vec ℕ Global). Some y) (sym (found.1 x)) in
    let alike : f x ≡ c.args.rows.now = sym c.as_slice.ensures.value ∙ (slice_eq-Decides Decides-eqb _ c.args.rows.now c.eq.result c.eq.ensures).0 yes in
    known_at f xs c.args.rows.now c.args.place x at alike c.self.invariant.1
    ∙ ap (λ (l : List (List ℕ)). place_of l c.args.rows.now) c.self.view_is
