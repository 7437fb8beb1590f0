-- The records of an entity's file by the columns of the entity.
use Rattle.std.proofs.Common.{ℕ, suc, true, List, [], ◌∷◌, ◌++◌, Option, Some, None, ◌≡◌, ◌&&◌, map, length, refl, sym, ap, ◌∙◌}
use Rattle.std.specs.Prelude.{codes, slice_get}
use Rattle.std.specs.List.{list_all}
use Rattle.std.specs.Str.{is_utf8}
use Rattle.std.specs.Cmp.Lexicographic.{nat_list_eq_equiv}
use Rattle.std.proofs.lemmas.Bool.{eq-eqb}
use Rattle.std.proofs.lemmas.List.{length-map, map-append}
use Rattle.cq_theory.specs.declared.schema.Edge.{Edge}
use Rattle.cq_theory.specs.Canonical.{edges_from}
use Rattle.cq_instance.specs.InstanceData.{InstanceData}
use Rattle.cq_text.specs.Grouped.{numbers_from}
use Rattle.cq_text.specs.Transcript as transcript
use Rattle.cq_import.specs.declared.columns.Column.{Column}
use Rattle.cq_import.specs.declared.columns.Column.TheVariants.{Attribute, Key}
use Rattle.cq_import.specs.Columns as import
use Rattle.cq_import.specs.Records.{Record}
use Rattle.cq_import.specs.Rows.{is_row, same_record}
use Rattle.cq_csv.specs.Files as export
use Rattle.cq_theory.proofs.Every.{Every}
use Rattle.cq_return.proofs.Ids.{id_text}

same_edge_name : (o : Option Edge) → transcript.edge_name o ≡ import.edge_name o
same_edge_name None = refl
same_edge_name (Some edge) = refl

map_same : {X Y : Type 0} (f g : X → Y) (xs : List X) → ((x : X) → f x ≡ g x) → map f xs ≡ map g xs
map_same f g [] same = refl
map_same f g (x ∷ xs) same = let one = same x in let others = map_same f g xs same in λ i. one i ∷ others i

map_map : {X Y Z : Type 0} (f : Y → Z) (g : X → Y) (xs : List X) → map f (map g xs) ≡ map (λ x. f (g x)) xs
map_map f g [] = refl
map_map f g (x ∷ xs) = ap (λ l. f (g x) ∷ l) (map_map f g xs)

-- a list that is made of the attributes' numbers and of the keys' is made of the columns
pub by_columns : {X : Type 0} (f g : ℕ → X) (h : Column → X) (attributes keys : List Edge) (entity : ℕ) → ((a type : ℕ) → f a ≡ h (Attribute a type)) → ((k target : ℕ) → g k ≡ h (Key k target))
    → map f (numbers_from entity attributes) ++ map g (numbers_from entity keys)
    ≡ map h (import.attribute_columns attributes entity ++ map import.key_of (edges_from entity keys))
by_columns f g h attributes keys entity attribute key =
    let first : map f (numbers_from entity attributes) ≡ map h (import.attribute_columns attributes entity) =
    map_map f (λ p. p.0) (edges_from entity attributes)
    ∙ map_same (λ (p : ℕ × Edge). f p.0) (λ p. h (import.attribute_of p)) (edges_from entity attributes) (λ p. attribute p.0 p.1.to)
    ∙ sym (map_map h import.attribute_of (edges_from entity attributes)) in
    let second : map g (numbers_from entity keys) ≡ map h (map import.key_of (edges_from entity keys)) =
    map_map g (λ p. p.0) (edges_from entity keys)
    ∙ map_same (λ (p : ℕ × Edge). g p.0) (λ p. h (import.key_of p)) (edges_from entity keys) (λ p. key p.0 p.1.to)
    ∙ sym (map_map h import.key_of (edges_from entity keys)) in
    (λ i. first i ++ second i) ∙ sym (map-append h (import.attribute_columns attributes entity) (map import.key_of (edges_from entity keys)))

same_itself : (fields : Record) → same_record fields fields ≡ true
same_itself [] = refl
same_itself (field ∷ fields) = ap (λ b. b && same_record fields fields) (nat_list_eq_equiv.refl field) ∙ same_itself fields

pub same_header : (first wanted : Record) → first ≡ wanted → same_record first wanted ≡ true
same_header first wanted is = ap (λ r. same_record r wanted) is ∙ same_itself wanted

module _ (i : InstanceData) (entity : ℕ) where
  abbrev pub columns : List Column
  columns = import.columns i.schema entity

  pub header_is : export.header i (numbers_from entity i.schema.attributes) (numbers_from entity i.schema.keys) ≡ import.header i.schema entity
  header_is = ap (λ l. codes "id" ∷ l)
      (by_columns (λ n. transcript.edge_name (slice_get i.schema.attributes n)) (λ n. transcript.edge_name (slice_get i.schema.keys n)) (import.column_name i.schema)
      i.schema.attributes i.schema.keys entity (λ a type. same_edge_name (slice_get i.schema.attributes a)) (λ k target. same_edge_name (slice_get i.schema.keys k)))

  -- what a row has in a column
  abbrev pub column_field : ℕ → Column → List ℕ
  column_field row (Attribute a type) = export.cell i row a
  column_field row (Key k target) = export.reference i row k

  abbrev pub fields_of : ℕ → Record
  fields_of row = id_text row ∷ map (column_field row) columns

  pub record_is : (row : ℕ) → export.row_record i (numbers_from entity i.schema.attributes) (numbers_from entity i.schema.keys) row ≡ fields_of row
  record_is row = ap (λ l. id_text row ∷ l)
      (by_columns (export.cell i row) (export.reference i row) (column_field row) i.schema.attributes i.schema.keys entity (λ a type. refl) (λ k target. refl))

  all_texts : (row : ℕ) (cs : List Column) → Every (λ c. is_utf8 (column_field row c) ≡ true) cs → list_all is_utf8 (map (column_field row) cs) ≡ true
  all_texts row [] each = refl
  all_texts row (c ∷ cs) each = let one = each.0 in let others = all_texts row cs each.1 in (λ j. one j && others j)

  -- a record of a row has as many fields as the header
  pub is_whole : (row : ℕ) → is_utf8 (id_text row) ≡ true → Every (λ c. is_utf8 (column_field row c) ≡ true) columns → is_row (length (import.header i.schema entity)) (fields_of row) ≡ true
  is_whole row id each =
      let same : length (fields_of row) ≡ length (import.header i.schema entity) =
      ap suc (length-map columns (column_field row) ∙ sym (length-map columns (import.column_name i.schema))) in
      let width = eq-eqb (length (fields_of row)) (length (import.header i.schema entity)) same in
      let texts = all_texts row columns each in
      (λ j. width j && (id j && texts j))
