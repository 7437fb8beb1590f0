use Rattle.std.proofs.Common.{ℕ, List, [], ◌∷◌, ◌++◌, map, take, get_or, slice_index, sym, ap, ◌∙◌, append_assoc}
use Rattle.std.specs.List.{flat_map}
use Rattle.std.proofs.lemmas.List.{take_more, append-nil}
use Rattle.std.proofs.lemmas.List.Concat.{flat_map-append}
use Rattle.cq_model.proofs.nulls.push_entity.Goals as goal

pub loop-row-preserved : goal.loop-row-preserved
loop-row-preserved c =
    let i : ℕ = c.loop-row._row-index in
    let rows : List ℕ = c.args.rows.now in
    let part : List ℕ = map (slice_index c.args.targets.now) c.args.places.now in
    let f : ℕ → List ℕ = λ row. part in
    c.in_ok-push_row.ensures ∙ ap (λ l. l ++ part) c.loop-row.invariant
    ∙ append_assoc c.args.types.now.items (flat_map f (take i rows)) part
    ∙ ap (λ l. c.args.types.now.items ++ (flat_map f (take i rows) ++ l)) (sym (append-nil part))
    ∙ ap (λ l. c.args.types.now.items ++ l) (sym (ap (flat_map f) (take_more rows i 0 c.loop-row-test.true) ∙ flat_map-append f (take i rows) (get_or rows i 0 ∷ [])))
