use Rattle.std.proofs.Common.{ℕ, [], ◌≡◌, ◌<◌, ◌+◌, ◌++◌, ◌^◌, map, slice_index, slice_index_or, sym, ap, subst, ◌∙◌, append_assoc, arith}
use Rattle.std.specs.Prelude.{All}
use Rattle.cq_instance.specs.Numbers.{target_generator, cell_made, key_made, cells_made, keys_made}
use Rattle.cq_instance.proofs.canonical.equations.push_row.Goals as goal

pub overflow_add-generator : goal.overflow_add-generator
overflow_add-generator c =
    let start : c.number_at.result ≡ slice_index c.args.numbers.now.starts c.args.entity = c.number_at.ensures ∙ ap (λ l. slice_index l c.args.entity) c.as_slice.ensures in
    omega (arith, start, c.requires.room.rows c.args.entity c.args.row c.requires.row)

pub push_cells-requires : goal.push_cells-requires
push_cells-requires c = c.requires.room.null_room

pub push_keys-requires : goal.push_keys-requires
push_keys-requires c =
    let keys : c.list_at-keys.result.now ≡ slice_index_or c.args.numbers.now.keys c.args.entity [] = c.list_at-keys.ensures ∙ ap (λ l. slice_index_or l c.args.entity []) c.as_slice-3.ensures in
    subst (All (λ (k : ℕ). target_generator c.args.sheet.now c.args.numbers.now k c.args.row < 2 ^ 32)) (sym keys) (c.requires.room.keys c.args.entity c.args.row c.requires.row)

pub returns : goal.returns
returns c =
    let start : c.number_at.result + c.args.row ≡ slice_index c.args.numbers.now.starts c.args.entity + c.args.row =
    ap (λ n. n + c.args.row) (c.number_at.ensures ∙ ap (λ l. slice_index l c.args.entity) c.as_slice.ensures) in
    let attributes : c.list_at-attributes.result.now ≡ slice_index_or c.args.numbers.now.attributes c.args.entity [] = c.list_at-attributes.ensures ∙ ap (λ l. slice_index_or l c.args.entity []) c.as_slice-2.ensures in
    let keys : c.list_at-keys.result.now ≡ slice_index_or c.args.numbers.now.keys c.args.entity [] = c.list_at-keys.ensures ∙ ap (λ l. slice_index_or l c.args.entity []) c.as_slice-3.ensures in
    c.in_ok-push_keys.ensures
    ∙ (λ i. c.in_ok-push_cells.ensures i ++ map (key_made c.args.sheet.now c.args.numbers.now (start i) c.args.row) (keys i))
    ∙ (λ i. (c.args.made.now.items ++ map (cell_made c.args.sheet.now c.args.numbers.now (start i) c.args.row) (attributes i)) ++ keys_made c.args.sheet.now c.args.numbers.now c.args.entity c.args.row)
    ∙ append_assoc c.args.made.now.items (cells_made c.args.sheet.now c.args.numbers.now c.args.entity c.args.row) (keys_made c.args.sheet.now c.args.numbers.now c.args.entity c.args.row)
