use Rattle.std.proofs.Common.{ℕ, List, [], ◌∷◌, ◌++◌, ◌≡◌, ◌+◌, map, take, get_or, slice_index, sym, ap, ◌∙◌}
use Rattle.std.proofs.lemmas.List.{take_more, map-append}
use Rattle.std.proofs.lemmas.Option.{get_or_from_slice_get}
use Rattle.cq_flat.specs.Values.{value_at}
use Rattle.cq_theory.specs.declared.constant.Con.TheVariants.{Named}
use Rattle.cq_theory.specs.declared.value.Value.{Value}
use Rattle.cq_theory.specs.declared.value.Value.TheVariants.{Const}
use Rattle.cq_model.specs.declared.places.Places.{Places}
use Rattle.cq_model.specs.NodeTerms.{cell_place}
use Rattle.cq_model.proofs.reading.cell_column.Goals as goal

pub loop-row-preserved : goal.loop-row-preserved
loop-row-preserved c =
    let places : Places = c.args.closed.now.places.now in
    let values : List Value = c.args.closed.now.flat.now.values in
    let a : ℕ = c.args.attribute in
    let rows : List ℕ = c.args.rows.now in
    let i : ℕ = c.loop-row.row-index in
    let row : ℕ = get_or rows i 0 in
    let f : ℕ → Value = λ r. value_at values (cell_place places r a) in
    let first_is : c.place_at-first.result ≡ slice_index places.firsts row = c.place_at-first.ensures ∙ ap (λ (l : List ℕ). slice_index l row) c.as_slice-firsts.ensures in
    let rank_is : c.number_at-rank.result ≡ slice_index places.ranks a = c.number_at-rank.ensures ∙ ap (λ (l : List ℕ). slice_index l a) c.as_slice.ensures in
    let place_is : c.place_at-first.result + c.number_at-rank.result ≡ cell_place places row a = λ j. first_is j + rank_is j in
    let read : value_at values (c.place_at-first.result + c.number_at-rank.result) ≡ c.value.result.now = get_or_from_slice_get values (c.place_at-first.result + c.number_at-rank.result) c.value.result.now (Const (Named 0)) c.value.ensures in
    c.in_ok-push.ensures.items
    ∙ (λ j. c.loop-row.invariant j ++ (c.in_ok-copied.ensures ∙ sym read ∙ ap (value_at values) place_is) j ∷ [])
    ∙ sym (ap (map f) (take_more rows i 0 c.loop-row-test.true) ∙ map-append f (take i rows) (row ∷ []))
