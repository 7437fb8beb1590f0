use Rattle.std.proofs.Common.{ℕ, List, [], ◌∷◌, ◌++◌, ◌≡◌, ◌<◌, true, false, if◌then◌else◌, length, take, get_or, slice_set, refl, ap, subst, ◌∙◌, arith}
use Rattle.std.specs.Prelude.{All}
use Rattle.cq_theory.specs.declared.value.Value.{Value}
use Rattle.cq_instance.specs.SameValue.{same_value}
use Rattle.cq_instance.specs.CellRows.{group_rows}
use Rattle.cq_instance.specs.declared.cell_index.ValueRows.{ValueRows}
use Rattle.cq_instance.proofs.IndexedRows.{on_ok, put_into, put_behind}
use Rattle.cq_instance.proofs.cell_index.add_to.Goals as goal

pub returns-in-Some : goal.returns-in-Some
returns-in-Some c =
    let v : Value = c.args.value.now in
    let row : ℕ = c.args.row in
    let groups : List ValueRows = c.args.groups.now.items in
    let p : ℕ = c.in-Some.place in
    let d : ValueRows = c.index_mut.result.now in
    let new : ValueRows = c.add.new.self in
    let slice : c.as_slice.result.now ≡ groups = c.as_slice.ensures.value in
    let is : d ≡ get_or groups p d = c.index_mut.ensures.value in
    let within : p < length groups = omega (arith, c.in-Some.ensures.within, ap length slice) in
    let before : All (λ (g : ValueRows). same_value g.value v ≡ false) (take p groups) =
    subst (λ (l : List ValueRows). All (λ (g : ValueRows). same_value g.value v ≡ false) (take p l)) slice c.in-Some.ensures.first in
    let same : same_value (get_or groups p d).value v ≡ true = subst (λ (l : List ValueRows). same_value (get_or l p d).value v ≡ true) slice (c.in-Some.ensures.same d) in
    on_ok c.add.result (new.value ≡ d.value) (new.rows.items ≡ d.rows.items ++ row ∷ [])
    ((other : Value) → group_rows (slice_set groups p new) other ≡ group_rows groups other ++ (if same_value v other then row ∷ [] else []))
    (λ value rows. put_into v row groups p new d within before same (value ∙ ap (λ (g : ValueRows). g.value) is) (rows ∙ ap (λ (g : ValueRows). g.rows.items ++ row ∷ []) is))
    c.add.ensures.value c.add.ensures.rows

pub returns-in_ok-of-in-None : goal.returns-in_ok-of-in-None
returns-in_ok-of-in-None c =
    let v : Value = c.args.value.now in
    let groups : List ValueRows = c.args.groups.now.items in
    let group : ValueRows = c.in_ok-of-in-None.field-0 in
    let slice : c.as_slice.result.now ≡ groups = c.as_slice.ensures.value in
    let absent : All (λ (g : ValueRows). same_value g.value v ≡ false) groups = subst (All (λ (g : ValueRows). same_value g.value v ≡ false)) slice (c.in-None.ensures.absent refl) in
    on_ok c.push_group.result (c.push_group.new.groups.items ≡ groups ++ group ∷ []) (c.push_group.new.groups.items ≡ groups ++ group ∷ [])
    ((other : Value) → group_rows c.push_group.new.groups.items other ≡ group_rows groups other ++ (if same_value v other then c.args.row ∷ [] else []))
    (λ pushed _ other. ap (λ (l : List ValueRows). group_rows l other) pushed
    ∙ put_behind v c.args.row groups group absent c.in_ok-of-in-None.ensures.value c.in_ok-of-in-None.ensures.rows other)
    c.push_group.ensures c.push_group.ensures
