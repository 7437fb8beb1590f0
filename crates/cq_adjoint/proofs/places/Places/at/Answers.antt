use Rattle.std.proofs.Common.{ℕ, List, Vec, Global, Some, ◌≡◌, ◌<◌, map, length, get_or, sym, ap, subst, ◌∙◌, arith}
use Rattle.std.specs.Prelude.{slice_get}
use Rattle.std.proofs.lemmas.List.{length-map}
use Rattle.std.proofs.lemmas.Option.{slice_get-get_or}
use Rattle.cq_instance.proofs.Lists.{get-map}
use Rattle.cq_adjoint.proofs.places.Places.at.Goals as goal

pub returns : goal.returns
returns c =
    let f : Vec ℕ Global → List ℕ = λ rows. rows.items in
    let xs : List (Vec ℕ Global) = c.self.inside.answers.now in
    let seen : c.args.place < length (map f xs) = subst (λ (l : List (List ℕ)). c.args.place < length l) (sym c.self.view_is) c.requires in
    let within : c.args.place < length xs = omega (arith, seen, length-map xs f) in
    let x : Vec ℕ Global = get_or xs c.args.place c.index-self-place.result in
    ap (λ (l : List (List ℕ)). slice_get l c.args.place) (sym c.self.view_is)
    ∙ get-map f xs c.args.place x (slice_get-get_or xs c.args.place c.index-self-place.result within)
    ∙ ap (λ (l : List ℕ). Some l) (sym c.as_slice.ensures.value)
