use Rattle.std.proofs.Common.{ℕ, List, [], ◌∷◌, ◌++◌, ◌≡◌, Vec, Global, map, take, get_or, sym, ap, subst, ◌∙◌}
use Rattle.std.proofs.lemmas.List.{take_more, map-append}
use Rattle.cq_adjoint.specs.Copies.{AreInOrder}
use Rattle.cq_adjoint.proofs.places.all_places.Goals as goal

pub loop-list-preserved : goal.loop-list-preserved
loop-list-preserved c =
    let lists : List (Vec (Vec ℕ Global) Global) = c.args.answers.now in
    let n : ℕ = c.loop-list.list-index in
    let f : Vec (Vec ℕ Global) Global → List (List ℕ) = λ list. map (λ (rows : Vec ℕ Global). rows.items) list.items in
    c.in_ok-push.ensures.items
    ∙ (λ j. c.loop-list.invariant j ++ (c.new.ensures ∙ ap (map (λ (rows : Vec ℕ Global). rows.items)) c.as_slice.ensures.value ∙ ap f c.list-item.is) j ∷ [])
    ∙ sym (ap (map f) (take_more lists n c.list-item.result c.loop-list-test.true) ∙ map-append f (take n lists) (get_or lists n c.list-item.result ∷ []))

pub new-requires : goal.new-requires
new-requires c =
    let lists : List (Vec (Vec ℕ Global) Global) = c.args.answers.now in
    let here : AreInOrder (map (λ (rows : Vec ℕ Global). rows.items) c.list-item.result.items) =
    subst (λ (list : Vec (Vec ℕ Global) Global). AreInOrder (map (λ (rows : Vec ℕ Global). rows.items) list.items)) (sym c.list-item.is) (c.requires c.loop-list.list-index c.list-item.result c.loop-list-test.true) in
    subst (λ (l : List (Vec ℕ Global)). AreInOrder (map (λ (rows : Vec ℕ Global). rows.items) l)) (sym c.as_slice.ensures.value) here
