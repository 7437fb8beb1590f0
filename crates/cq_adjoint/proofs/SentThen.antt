-- Where a composite sends rows and values.
use Rattle.std.proofs.Common.{ℕ, List, [], ◌≡◌, ◌<◌, sym, ap, subst, ◌∙◌, arith}
use Rattle.std.specs.Prelude.{slice_index}
use Rattle.std.proofs.lemmas.Option.{slice_get_within, get_or_from_slice_get}
use Rattle.cq_theory.specs.declared.value.Value.{Value}
use Rattle.cq_theory.specs.SchemaData.{SchemaData as Schema}
use Rattle.cq_theory.specs.Homomorphism.{row_image, value_image, IsHomomorphism}
use Rattle.cq_theory.specs.Tables.{Tables, count_of, IsWellFormed}
use Rattle.cq_instance.specs.InstanceData.{InstanceData, IsInstance}
use Rattle.cq_instance.specs.declared.transform.Transform.{Transform}
use Rattle.cq_transform.specs.Composing.{composed}
use Rattle.cq_transform.specs.Transforms.{GoesFrom}
use Rattle.cq_transform.proofs.Composed as both
use Rattle.cq_transform.proofs.ExactlyOne.{within_counts}
use Rattle.cq_transform.proofs.Loops.{member_at}
use Rattle.cq_adjoint.proofs.AnsweredRows.{same_list}

-- a row goes to a row
pub row_inside : (a b : InstanceData) (s : Transform) → IsInstance a → GoesFrom s a b → (e row : ℕ) → row < count_of a.tables e → row_image a.schema a.tables b.tables s.rows s.nulls e row < count_of b.tables e
row_inside a b s start goes e row inside =
    let list = member_at s.rows e (omega (arith, within_counts a.tables.sheet.counts e row inside, start.well_formed.entities, goes.homomorphism.entities)) in
    let are = goes.homomorphism.each_row e list.0 list.1 in
    let is : row_image a.schema a.tables b.tables s.rows s.nulls e row ≡ slice_index list.0 row = ap (λ (l : List ℕ). slice_index l row) (get_or_from_slice_get s.rows e list.0 [] list.1) in
    subst (λ m. m < count_of b.tables e) (sym is) (are.1 row 0 (omega (arith, are.0, inside)))

module _ (a b c : InstanceData) (s t : Transform) (start : IsInstance a) (first : GoesFrom s a b) (second : GoesFrom t b c) where
  start_formed : IsWellFormed b.schema a.tables
  start_formed = subst (λ (S : Schema). IsWellFormed S a.tables) (sym first.schema) start.well_formed

  first_homomorphism : IsHomomorphism b.schema a.tables b.tables s.rows s.nulls
  first_homomorphism = subst (λ (S : Schema). IsHomomorphism S a.tables b.tables s.rows s.nulls) (sym first.schema) first.homomorphism

  pub row_then : (e row : ℕ) → row < count_of a.tables e
      → row_image a.schema a.tables c.tables (composed b c s t).rows (composed b c s t).nulls e row ≡ row_image b.schema b.tables c.tables t.rows t.nulls e (row_image a.schema a.tables b.tables s.rows s.nulls e row)
  row_then e row inside =
      both.row_then b.schema a.tables b.tables c.tables s.rows t.rows s.nulls t.nulls start_formed second.holds.well_formed first_homomorphism second.homomorphism e row inside

  pub value_then : (v : Value)
      → value_image a.schema a.tables c.tables (composed b c s t).rows (composed b c s t).nulls v ≡ value_image b.schema b.tables c.tables t.rows t.nulls (value_image a.schema a.tables b.tables s.rows s.nulls v)
  value_then v = both.value_then b.schema a.tables b.tables c.tables s.rows t.rows s.nulls t.nulls start_formed second.holds.well_formed first_homomorphism second.homomorphism v

-- homomorphisms that send each row alike
pub same_rows : (S : Schema) (M N : Tables) (rows rows' : List (List ℕ)) (nulls nulls' : List Value) → IsHomomorphism S M N rows nulls → IsHomomorphism S M N rows' nulls'
    → ((e row : ℕ) → row < count_of M e → row_image S M N rows nulls e row ≡ row_image S M N rows' nulls' e row) → rows ≡ rows'
same_rows S M N rows rows' nulls nulls' is is' same = same_list rows rows' (is.entities ∙ sym is'.entities) (λ e xs ys left right.
    same_list xs ys ((is.each_row e xs left).0 ∙ sym (is'.each_row e ys right).0) (λ r x y at at'.
    let inside : r < count_of M e = omega (arith, slice_get_within xs r x at, (is.each_row e xs left).0) in
    let one : row_image S M N rows nulls e r ≡ x = ap (λ (l : List ℕ). slice_index l r) (get_or_from_slice_get rows e xs [] left) ∙ get_or_from_slice_get xs r x 0 at in
    let other : row_image S M N rows' nulls' e r ≡ y = ap (λ (l : List ℕ). slice_index l r) (get_or_from_slice_get rows' e ys [] right) ∙ get_or_from_slice_get ys r y 0 at' in
    sym one ∙ same e r inside ∙ other))
