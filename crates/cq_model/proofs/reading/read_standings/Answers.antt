use Rattle.std.proofs.Common.{ℕ, List, [], ◌∷◌, ◌++◌, Some, ◌≡◌, map, sym, ap, ◌∙◌}
use Rattle.std.specs.Prelude.{slice_get}
use Rattle.std.specs.List.{enumerate_from}
use Rattle.std.proofs.lemmas.List.{take_all, map-append}
use Rattle.std.proofs.lemmas.Option.{slice_get-get_or}
use Rattle.cq_base.specs.declared.name.Name.{Name}
use Rattle.cq_theory.specs.declared.presentation.Presentation.{Presentation}
use Rattle.cq_theory.specs.declared.presentation.Sort.{Sort}
use Rattle.cq_theory.specs.Tables.{Meaning}
use Rattle.cq_model.specs.Built.{standing}
use Rattle.cq_instance.specs.Standing.{meaning}
use Rattle.cq_instance.proofs.Enumerated.{enumerated_more}
use Rattle.cq_model.proofs.reading.read_standings.Goals as goal

pub read_standing-requires : goal.read_standing-requires
read_standing-requires c =
    let i : ℕ = c.loop-number.number in
    let g : Name × Sort = c.index-generators-number.result in
    let gens : List (Name × Sort) = c.as_slice-generators.result.now in
    let found : slice_get c.args.presentation.now.generators i ≡ Some g =
    ap (λ (l : List (Name × Sort)). slice_get l i) (sym c.as_slice-generators.ensures) ∙ slice_get-get_or gens i g c.loop-number-test.true ∙ ap (λ (h : Name × Sort). Some h) (sym c.index-generators-number.is) in
    c.requires i g found

pub loop-number-preserved : goal.loop-number-preserved
loop-number-preserved c = λ S m order.
    let i : ℕ = c.loop-number.number in
    let P : Presentation = c.args.presentation.now in
    let g : Name × Sort = c.index-generators-number.result in
    let gens : List (Name × Sort) = c.as_slice-generators.result.now in
    let f : ℕ × (Name × Sort) → Meaning = λ g. standing S P m c.args.rows.now order c.args.numbers.now c.args.closed.now.places.now c.args.closed.now.flat.now.values g.0 g.1.1 in
    ap (map meaning) c.in_ok-push.ensures.items
    ∙ map-append meaning c.loop-number.made.items (c.in_ok-read_standing.field-0 ∷ [])
    ∙ (λ j. c.loop-number.invariant S m order j ++ (c.in_ok-read_standing.ensures S P m order ∙ ap (λ (h : Name × Sort). f (i, h)) c.index-generators-number.is) j ∷ [])
    ∙ sym (enumerated_more f gens i g c.loop-number-test.true)

pub returns : goal.returns
returns c = λ S m order.
    let P : Presentation = c.args.presentation.now in
    let f : ℕ × (Name × Sort) → Meaning = λ g. standing S P m c.args.rows.now order c.args.numbers.now c.args.closed.now.places.now c.args.closed.now.flat.now.values g.0 g.1.1 in
    ap (map meaning) c.from_vec.ensures
    ∙ c.loop-number.invariant S m order
    ∙ ap (λ (l : List (Name × Sort)). map f (enumerate_from 0 l)) (take_all c.loop-number.number c.as_slice-generators.result.now c.loop-number-test.false ∙ c.as_slice-generators.ensures)
