use Rattle.std.proofs.Common.{◌≡◌, get_or, ap, subst, ◌∙◌}
use Rattle.cq_theory.specs.Tables.{count_of}
use Rattle.cq_instance.specs.InstanceData.{InstanceData, IsInstance}
use Rattle.cq_instance.proofs.Columns.{row_within}
use Rattle.cq_instance.proofs.instance.Instance.key.Goals as goal

pub bounds-as_slice-row : goal.bounds-as_slice-row
bounds-as_slice-row c =
    let i : InstanceData = c.args.self.now in
    let instance_is : IsInstance i = subst IsInstance c.self.view_is c.self.invariant in
    let columns : c.as_slice.result.now ≡ i.tables.sheet.keys = c.as_slice.ensures ∙ ap (λ (j : InstanceData). j.tables.sheet.keys) c.self.view_is in
    let column : c.as_slice-2.result.now ≡ get_or i.tables.sheet.keys c.args.key c.as_slice-2.result.now = cc in
    row_within i.schema.keys i.tables.sheet.keys (count_of i.tables) instance_is.well_formed.keys (λ k edge h. (instance_is.well_formed.key_columns k edge h).0)
    c.args.key c.args.row c.as_slice-2.result.now c.requires.key c.requires.row column
