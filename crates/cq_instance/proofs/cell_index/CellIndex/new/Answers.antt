use Rattle.std.proofs.Common.{ℕ, List, Some, ◌≡◌, length, sym, ap, ◌∙◌, arith}
use Rattle.std.specs.Prelude.{slice_get, slice_index}
use Rattle.cq_theory.specs.declared.schema.Edge.{Edge}
use Rattle.cq_theory.specs.declared.value.Sheet.{Sheet}
use Rattle.cq_theory.specs.SchemaData.{SchemaData as Schema}
use Rattle.cq_instance.specs.InstanceData.{InstanceData, IsInstance}
use Rattle.cq_instance.proofs.IndexedRows.{column_read}
use Rattle.cq_instance.proofs.Columns.{read_at}
use Rattle.cq_instance.proofs.cell_index.CellIndex.new.Goals as goal

pub lists_of-requires : goal.lists_of-requires
lists_of-requires c =
    let i : InstanceData = c.args.instance.now in
    let attribute : ℕ = c.args.attribute in
    let edge : Edge = c.index-as_slice-attribute.result in
    let h : IsInstance i = c.sheet-sheet.ensures.instance in
    let attributes : c.as_slice.result.now ≡ i.schema.attributes = c.as_slice.ensures ∙ ap (λ (s : Schema). s.attributes) (c.behind-schema.view_is ∙ c.deref.ensures ∙ c.schema.ensures.schema) in
    let known : slice_get i.schema.attributes attribute ≡ Some edge =
    read_at i.schema.attributes c.as_slice.result.now attribute edge attributes (omega (arith, c.requires, ap length attributes)) ∙ ap (λ (e : Edge). Some e) (sym c.index-as_slice-attribute.is) in
    let columns = c.as_slice-3.ensures ∙ ap (λ (s : Sheet). s.cells) c.sheet-sheet.ensures.sheet in
    let column = c.as_slice-column.ensures ∙ column_read i.tables.sheet.cells c.as_slice-3.result.now attribute c.index-as_slice-attribute-2.result columns (omega (arith, c.requires, h.well_formed.attributes)) c.index-as_slice-attribute-2.is in
    let count : c.number_at-count.result ≡ slice_index i.tables.sheet.counts edge.from =
    c.number_at-count.ensures ∙ ap (λ (l : List ℕ). slice_index l edge.from) (c.as_slice-2.ensures ∙ ap (λ (s : Sheet). s.counts) c.sheet-sheet.ensures.sheet) in
    ap length column ∙ (h.well_formed.cell_columns attribute edge known).0 ∙ sym count
