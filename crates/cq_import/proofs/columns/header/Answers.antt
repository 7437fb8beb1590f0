use Rattle.std.proofs.Common.{◌∷◌, ◌++◌, [], List, map, take, refl, ap, ◌∙◌}
use Rattle.std.specs.Prelude.{ℕ, codes}
use Rattle.std.proofs.lemmas.List.{get_or_default, take_all}
use Rattle.cq_theory.proofs.PartLoops.{map_more}
use Rattle.cq_import.specs.declared.columns.Column.{Column}
use Rattle.cq_import.specs.Columns.{column_name, header_with}
use Rattle.cq_import.proofs.columns.header.Goals as goal

pub loop-column-preserved : goal.loop-column-preserved
loop-column-preserved c =
    let f : Column → List ℕ = column_name c.args.schema.now in
    let columns = c.args.columns.now in
    let i = c.loop-column.column-index in
    let before : List (List ℕ) = map f (take i columns) in
    c.in_ok-push-2.ensures.items ∙ (λ k. c.loop-column.invariant k ++ c.in_ok-name_of.ensures k ∷ [])
    ∙ ap (λ (l : List (List ℕ)). codes "id" ∷ l)
    (map_more f columns i _ before _ _ c.loop-column-test.true (get_or_default columns i _ _ c.loop-column-test.true) refl refl refl)

pub returns : goal.returns
returns c = c.loop-column.invariant ∙ ap (header_with c.args.schema.now) (take_all c.loop-column.column-index c.args.columns.now c.loop-column-test.false)
