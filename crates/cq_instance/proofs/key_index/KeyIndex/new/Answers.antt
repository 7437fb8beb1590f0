use Rattle.std.proofs.Common.{ℕ, List, Some, [], ◌≡◌, ◌<◌, length, sym, ap, subst, ◌∙◌, arith}
use Rattle.std.specs.Prelude.{All, slice_get, slice_index, slice_index_or}
use Rattle.cq_theory.specs.declared.schema.Edge.{Edge}
use Rattle.cq_theory.specs.declared.value.Sheet.{Sheet}
use Rattle.cq_theory.specs.SchemaData.{SchemaData as Schema}
use Rattle.cq_instance.specs.InstanceData.{InstanceData, IsInstance}
use Rattle.cq_instance.proofs.IndexedRows.{column_read}
use Rattle.cq_instance.proofs.Columns.{read_at}
use Rattle.cq_instance.proofs.key_index.KeyIndex.new.Goals as goal

pub lists_of-requires-clause-rows : goal.lists_of-requires-clause-rows
lists_of-requires-clause-rows c =
    let i : InstanceData = c.args.instance.now in
    let key : ℕ = c.args.key in
    let edge : Edge = c.index-as_slice-key.result in
    let h : IsInstance i = c.sheet-sheet.ensures.instance in
    let keys : c.as_slice.result.now ≡ i.schema.keys = c.as_slice.ensures ∙ ap (λ (s : Schema). s.keys) (c.behind-schema.view_is ∙ c.deref.ensures ∙ c.schema.ensures.schema) in
    let known : slice_get i.schema.keys key ≡ Some edge =
    read_at i.schema.keys c.as_slice.result.now key edge keys (omega (arith, c.requires, ap length keys)) ∙ ap (λ (e : Edge). Some e) (sym c.index-as_slice-key.is) in
    let columns : c.as_slice-4.result.now ≡ i.tables.sheet.keys = c.as_slice-4.ensures ∙ ap (λ (s : Sheet). s.keys) c.sheet-sheet.ensures.sheet in
    let column : c.as_slice-column.result.now ≡ slice_index_or i.tables.sheet.keys key [] =
    c.as_slice-column.ensures ∙ column_read i.tables.sheet.keys c.as_slice-4.result.now key c.index-as_slice-key-2.result columns (omega (arith, c.requires, h.well_formed.keys)) c.index-as_slice-key-2.is in
    let rows : c.number_at-rows.result ≡ slice_index i.tables.sheet.counts edge.from =
    c.number_at-rows.ensures ∙ ap (λ (l : List ℕ). slice_index l edge.from) (c.as_slice-2.ensures ∙ ap (λ (s : Sheet). s.counts) c.sheet-sheet.ensures.sheet) in
    ap length column ∙ (h.well_formed.key_columns key edge known).0 ∙ sym rows

pub lists_of-requires-clause-within : goal.lists_of-requires-clause-within
lists_of-requires-clause-within c =
    let i : InstanceData = c.args.instance.now in
    let key : ℕ = c.args.key in
    let edge : Edge = c.index-as_slice-key.result in
    let h : IsInstance i = c.sheet-sheet.ensures.instance in
    let keys : c.as_slice.result.now ≡ i.schema.keys = c.as_slice.ensures ∙ ap (λ (s : Schema). s.keys) (c.behind-schema.view_is ∙ c.deref.ensures ∙ c.schema.ensures.schema) in
    let known : slice_get i.schema.keys key ≡ Some edge =
    read_at i.schema.keys c.as_slice.result.now key edge keys (omega (arith, c.requires, ap length keys)) ∙ ap (λ (e : Edge). Some e) (sym c.index-as_slice-key.is) in
    let columns : c.as_slice-4.result.now ≡ i.tables.sheet.keys = c.as_slice-4.ensures ∙ ap (λ (s : Sheet). s.keys) c.sheet-sheet.ensures.sheet in
    let column : c.as_slice-column.result.now ≡ slice_index_or i.tables.sheet.keys key [] =
    c.as_slice-column.ensures ∙ column_read i.tables.sheet.keys c.as_slice-4.result.now key c.index-as_slice-key-2.result columns (omega (arith, c.requires, h.well_formed.keys)) c.index-as_slice-key-2.is in
    let count : c.number_at-count.result ≡ slice_index i.tables.sheet.counts edge.to =
    c.number_at-count.ensures ∙ ap (λ (l : List ℕ). slice_index l edge.to) (c.as_slice-3.ensures ∙ ap (λ (s : Sheet). s.counts) c.sheet-sheet.ensures.sheet) in
    subst (λ (l : List ℕ). All (λ row. row < c.number_at-count.result) l) (sym column)
    (subst (λ n. All (λ row. row < n) (slice_index_or i.tables.sheet.keys key [])) (sym count) (h.well_formed.key_columns key edge known).1)
