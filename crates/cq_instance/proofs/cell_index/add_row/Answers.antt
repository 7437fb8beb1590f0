use Rattle.std.proofs.Common.{ℕ, List, Vec, Global, [], ◌∷◌, ◌++◌, ◌≡◌, ◌<◌, ◌%◌, if◌then◌else◌, map, length, get_or, slice_set, sym, ap, ◌∙◌, arith}
use Rattle.std.proofs.lemmas.List.{map-set, length-map, get_or-map}
use Rattle.cq_base.specs.declared.hashing.Hashing.{Hashing}
use Rattle.cq_theory.specs.declared.value.Value.{Value}
use Rattle.cq_instance.specs.Digests.{digest_of}
use Rattle.cq_instance.specs.SameValue.{same_value}
use Rattle.cq_instance.specs.CellRows.{group_rows, indexed_rows}
use Rattle.cq_instance.specs.declared.cell_index.ValueRows.{ValueRows}
use Rattle.cq_instance.proofs.IndexedRows.{on_ok, put_among}
use Rattle.cq_instance.proofs.cell_index.add_row.Goals as goal

pub returns-clause-rows : goal.returns-clause-rows
returns-clause-rows c =
    let v : Value = c.args.value.now in
    let row : ℕ = c.args.row in
    let hashing : Hashing = c.args.hashing in
    let vecs : List (Vec ValueRows Global) = c.args.lists.now.items in
    let items : Vec ValueRows Global → List ValueRows = λ list. list.items in
    let lists : List (List ValueRows) = map items vecs in
    let place : ℕ = c.digest.result % c.len.result in
    let d : Vec ValueRows Global = c.index_mut.result.now in
    let new : Vec ValueRows Global = c.add_to.new.groups in
    let many : c.len.result ≡ length lists = omega (arith, c.len.ensures, c.args.lists.now.ok.0, length-map vecs items) in
    let is : place ≡ digest_of hashing v % length lists = λ i. c.digest.ensures i % many i in
    let some : 0 < length lists = omega (arith, c.requires, length-map vecs items) in
    let within : place < length vecs = omega (arith, c.requires, c.len.ensures, c.args.lists.now.ok.0) in
    let old : d.items ≡ get_or lists place [] = ap items c.index_mut.ensures.value ∙ sym (get_or-map items vecs place d [] within) in
    let adds : (other : Value) → List ℕ = λ other. if same_value v other then row ∷ [] else [] in
    on_ok c.add_to.result ((other : Value) → group_rows new.items other ≡ group_rows d.items other ++ adds other)
    ((other : Value) → group_rows new.items other ≡ group_rows d.items other ++ adds other)
    ((other : Value) → indexed_rows (hashing, map items (slice_set vecs place new)) other ≡ indexed_rows (hashing, lists) other ++ adds other)
    (λ added _ other. put_among v row hashing lists (map items (slice_set vecs place new)) new.items place some is (map-set items vecs place new)
    (λ o. added o ∙ ap (λ (l : List ValueRows). group_rows l o ++ adds o) old) other)
    c.add_to.ensures c.add_to.ensures
