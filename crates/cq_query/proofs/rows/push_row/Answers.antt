use Rattle.std.proofs.Common.{List, ◌++◌, ◌≡◌, Result, Ok, Err, map, sym, ap, ◌∙◌, append_assoc}
use Rattle.std.specs.Prelude.{OnOk}
use Rattle.std.specs.List.{flat_map}
use Rattle.cq_theory.specs.declared.presentation.Equation.{Equation}
use Rattle.cq_theory.specs.declared.term.EntTerm.{EntTerm}
use Rattle.cq_theory.specs.Groups.{positions}
use Rattle.cq_query.specs.Puts.{put_equation}
use Rattle.cq_query.specs.Translation.{key_sources, attribute_sources, tests_at}
use Rattle.cq_query.specs.Coeval.{row_terms, key_equations, cell_equation}
use Rattle.cq_query.proofs.rows.push_row.Goals as goal

on_ok : {T E : Type 0} (r : Result T E) (P Q : Type 0) → (P → Q) → OnOk r P → OnOk r Q
on_ok (Ok x) P Q f h = f h
on_ok (Err e) P Q f h = h

-- three lists behind one another
in_turn : (before some more all a b c : List Equation) → some ≡ before ++ a → more ≡ some ++ b → all ≡ more ++ c → all ≡ before ++ (a ++ b ++ c)
in_turn before some more all a b c first second third =
    third ∙ ap (λ l. l ++ c) (second ∙ ap (λ l. l ++ b) first ∙ append_assoc before a b) ∙ append_assoc before (a ++ b) c

pub returns : goal.returns
returns c =
    let Q = c.args.layout.now.query.now in
    let sheet = c.args.layout.now.sheet.now in
    let same : c.as_slice-terms.result.now ≡ row_terms Q sheet.counts c.args.entity c.args.row = c.as_slice-terms.ensures.value ∙ c.in_ok-terms.ensures in
    let tests : List EntTerm → List Equation = λ terms. map (put_equation terms) (tests_at Q c.args.entity) in
    on_ok c.push_row_cells.result _ _
    (in_turn c.args.made.now.items c.push_row_tests.new.made.items c.push_row_keys.new.made.items c.push_row_cells.new.made.items
    (tests (row_terms Q sheet.counts c.args.entity c.args.row))
    (flat_map (key_equations Q sheet c.args.entity c.args.row) (positions (key_sources Q) c.args.entity))
    (map (cell_equation Q sheet c.args.layout.now.nulls c.args.entity c.args.row) (positions (attribute_sources Q) c.args.entity))
    (c.in_ok-push_row_tests.ensures ∙ ap (λ terms. c.args.made.now.items ++ tests terms) same)
    c.in_ok-push_row_keys.ensures)
    c.push_row_cells.ensures
