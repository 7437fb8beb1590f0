use Rattle.std.proofs.Common.{ℕ, List, ◌++◌, ◌≡◌, ap, sym, ◌∙◌, append_assoc}
use Rattle.std.specs.List.{flat_map}
use Rattle.std.specs.declared.alloc.Global.{Global}
use Rattle.std.specs.declared.vec.Vec.{Vec}
use Rattle.cq_text.specs.Spelling.{cell_equation_line, key_equation_line}
use Rattle.cq_text.proofs.EquationLines.{row_lines}
use Rattle.cq_text.proofs.Numbers.{leaves_row}
use Rattle.cq_text.proofs.equations.push_equations_at.Goals as goal

pub push_cells-requires-clause-row : goal.push_cells-requires-clause-row
push_cells-requires-clause-row c =
    let i = c.args.instance.now in
    leaves_row i.tables c.args.entity c.args.row i.schema.attributes c.as_slice-attributes.result.now
    (c.as_slice-attributes.ensures.value ∙ ap (λ (v : Vec ℕ Global). v.items) c.index.ensures ∙ c.requires.plan.attributes.group c.args.entity c.index.result.now c.requires.entity)
    c.requires.row

pub push_keys-requires-clause-row : goal.push_keys-requires-clause-row
push_keys-requires-clause-row c =
    let i = c.args.instance.now in
    leaves_row i.tables c.args.entity c.args.row i.schema.keys c.as_slice-keys.result.now
    (c.as_slice-keys.ensures.value ∙ ap (λ (v : Vec ℕ Global). v.items) c.index-2.ensures ∙ c.requires.plan.keys.group c.args.entity c.index-2.result.now c.requires.entity)
    c.requires.row

pub returns : goal.returns
returns c =
    let i = c.args.instance.now in
    let before = c.args.text.now.items in
    let attributes = c.as_slice-attributes.ensures.value ∙ ap (λ (v : Vec ℕ Global). v.items) c.index.ensures ∙ c.requires.plan.attributes.group c.args.entity c.index.result.now c.requires.entity in
    let keys = c.as_slice-keys.ensures.value ∙ ap (λ (v : Vec ℕ Global). v.items) c.index-2.ensures ∙ c.requires.plan.keys.group c.args.entity c.index-2.result.now c.requires.entity in
    let cell_lines : ℕ → List ℕ → List ℕ = λ number numbers. flat_map (cell_equation_line i.schema i.tables number c.args.row) numbers in
    let key_lines : ℕ → List ℕ → List ℕ = λ number numbers. flat_map (key_equation_line i.schema i.tables number c.args.row) numbers in
    c.in_ok-push_keys.ensures ∙ ap (λ l. l ++ key_lines c.in_ok-number.number c.as_slice-keys.result.now) c.in_ok-push_cells.ensures
    ∙ append_assoc before (cell_lines c.in_ok-number.number c.as_slice-attributes.result.now) (key_lines c.in_ok-number.number c.as_slice-keys.result.now)
    ∙ (λ j. before ++ (cell_lines (c.in_ok-number.ensures j) (attributes j) ++ key_lines (c.in_ok-number.ensures j) (keys j)))
    ∙ ap (λ l. before ++ l) (sym (row_lines i.schema i.tables c.args.entity c.args.row))
