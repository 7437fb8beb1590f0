use Rattle.std.proofs.Common.{◌≡◌, get_or, ap, subst, ◌∙◌}
use Rattle.cq_theory.specs.declared.constant.Con.TheVariants.{Named}
use Rattle.cq_theory.specs.declared.value.Value.TheVariants.{Const}
use Rattle.cq_theory.specs.Tables.{count_of}
use Rattle.cq_instance.specs.InstanceData.{InstanceData, IsInstance}
use Rattle.cq_instance.proofs.Columns.{row_within, cell_read}
use Rattle.cq_instance.proofs.instance.Instance.cell.Goals as goal

pub bounds-as_slice-row : goal.bounds-as_slice-row
bounds-as_slice-row c =
    let i : InstanceData = c.args.self.now in
    let instance_is : IsInstance i = subst IsInstance c.self.view_is c.self.invariant in
    let columns : c.as_slice.result.now ≡ i.tables.sheet.cells = c.as_slice.ensures ∙ ap (λ (j : InstanceData). j.tables.sheet.cells) c.self.view_is in
    let column : c.as_slice-2.result.now ≡ get_or i.tables.sheet.cells c.args.attribute c.as_slice-2.result.now = cc in
    row_within i.schema.attributes i.tables.sheet.cells (count_of i.tables) instance_is.well_formed.attributes (λ k edge h. (instance_is.well_formed.cell_columns k edge h).0)
    c.args.attribute c.args.row c.as_slice-2.result.now c.requires.attribute c.requires.row column

pub returns : goal.returns
returns c =
    let i : InstanceData = c.args.self.now in
    let instance_is : IsInstance i = subst IsInstance c.self.view_is c.self.invariant in
    let columns : c.as_slice.result.now ≡ i.tables.sheet.cells = c.as_slice.ensures ∙ ap (λ (j : InstanceData). j.tables.sheet.cells) c.self.view_is in
    let column : c.as_slice-2.result.now ≡ get_or i.tables.sheet.cells c.args.attribute c.as_slice-2.result.now = cc in
    cell_read i.schema.attributes i.tables.sheet.cells (count_of i.tables) instance_is.well_formed.attributes (λ k edge h. (instance_is.well_formed.cell_columns k edge h).0)
    c.args.attribute c.args.row c.as_slice-2.result.now c.index-as_slice-row.result (Const (Named 0)) c.requires.attribute c.requires.row column c.index-as_slice-row.is
