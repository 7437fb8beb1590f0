use Rattle.std.proofs.Common.{List, Some, ◌≡◌, get_or, sym, ap, ◌∙◌}
use Rattle.std.specs.Prelude.{slice_get, option_copied}
use Rattle.std.proofs.lemmas.Option.{slice_get-get_or}
use Rattle.cq_theory.specs.declared.presentation.Equation.{Equation}
use Rattle.cq_theory.specs.Tables.{Tables}
use Rattle.cq_eval.proofs.Covered.{rows_cover, some_listed}
use Rattle.cq_eval.proofs.joining.Join.fewer.Goals as goal

pub returns-else-others-rows : goal.returns-else-others-rows
returns-else-others-rows c =
    let M : Tables = c.args.self.now.instance.now.tables in
    let tests : List Equation = c.args.self.now.tests.now in
    let e : Equation = c.index-self-place.result in
    let at : slice_get tests c.args.place ≡ Some e = slice_get-get_or tests c.args.place e c.requires.place ∙ ap (λ x. Some x) (sym c.index-self-place.is) in
    let known : slice_get c.args.self.now.indexes c.args.place ≡ Some (Some c.in-Some-Some.index) = sym c.index_at.ensures ∙ ap option_copied c.in-Some-Some.is ∙ ap (λ o. Some o) c.in-Some-Some.field-0-is in
    rows_cover M tests c.args.self.now.counts c.args.choice.now c.requires.choice e c.in-Some-Some.index (c.requires.indexed c.args.place e c.in-Some-Some.index at known) c.args.place at
    c.args.bound c.in-Some.rows.now c.if-index-bound.false
    (some_listed M c.args.choice.now c.in-Some-Some.index c.in_ok-rows.field-0 c.in-Some.rows (get_or tests c.args.place e) e c.in-Some.is (sym c.index-self-place.is) c.in_ok-rows.ensures)

pub returns-in-None : goal.returns-in-None
returns-in-None c =
    let M : Tables = c.args.self.now.instance.now.tables in
    let tests : List Equation = c.args.self.now.tests.now in
    let e : Equation = c.index-self-place.result in
    let at : slice_get tests c.args.place ≡ Some e = slice_get-get_or tests c.args.place e c.requires.place ∙ ap (λ x. Some x) (sym c.index-self-place.is) in
    let known : slice_get c.args.self.now.indexes c.args.place ≡ Some (Some c.in-Some-Some.index) = sym c.index_at.ensures ∙ ap option_copied c.in-Some-Some.is ∙ ap (λ o. Some o) c.in-Some-Some.field-0-is in
    rows_cover M tests c.args.self.now.counts c.args.choice.now c.requires.choice e c.in-Some-Some.index (c.requires.indexed c.args.place e c.in-Some-Some.index at known) c.args.place at
    c.args.bound c.in-Some.rows.now c.if-index-bound.false
    (some_listed M c.args.choice.now c.in-Some-Some.index c.in_ok-rows.field-0 c.in-Some.rows (get_or tests c.args.place e) e c.in-Some.is (sym c.index-self-place.is) c.in_ok-rows.ensures)
