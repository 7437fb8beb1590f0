use Rattle.std.proofs.Common.{ℕ, List, Vec, Global, map, ap, ◌∙◌}
use Rattle.cq_adjoint.specs.Copies.{place_of}
use Rattle.cq_adjoint.proofs.Searched.{found_at, found_nowhere}
use Rattle.cq_adjoint.proofs.places.Places.place_of.Goals as goal

pub returns-then-stands_at : goal.returns-then-stands_at
returns-then-stands_at c = c.stands_at.ensures c.if-stands_at.true ∙ ap (place_of c.args.self.now) c.as_slice.ensures.value

pub returns-in-Ok : goal.returns-in-Ok
returns-in-Ok c =
    let f : Vec ℕ Global → List ℕ = λ rows. rows.items in
    let rows : List ℕ = c.args.rows.now.items in
    found_at f c.self.inside.answers.now rows c.in-Ok.place c.in-Ok.ensures.bound c.in-Ok.ensures.ok c.self.invariant.1
    ∙ ap (λ (l : List (List ℕ)). place_of l rows) c.self.view_is

pub returns-in-Err : goal.returns-in-Err
returns-in-Err c =
    let f : Vec ℕ Global → List ℕ = λ rows. rows.items in
    let rows : List ℕ = c.args.rows.now.items in
    found_nowhere f c.self.inside.answers.now rows c.in-Err.field-0 c.in-Err.ensures.position c.self.invariant.0
    ∙ ap (λ (l : List (List ℕ)). place_of l rows) c.self.view_is
