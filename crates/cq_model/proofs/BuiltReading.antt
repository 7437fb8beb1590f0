-- What is asked where sheet and algebra are read follows of numbered rows and closed nodes.
use Rattle.std.proofs.Common.{ℕ, List, Some, ◌≡◌, ◌<◌, true, length, map, refl, sym, ap, ◌∙◌, arith}
use Rattle.std.specs.Prelude.{slice_get, slice_index, All}
use Rattle.std.proofs.lemmas.Option.{slice_get_within}
use Rattle.cq_rows.specs.Plain.{ends_of}
use Rattle.cq_tables.specs.Content.{Content, live_of, keys_of}
use Rattle.cq_tables.specs.Content.{entity_of as row_entity}
use Rattle.cq_flat.specs.declared.node.Node.{Node}
use Rattle.cq_flat.specs.Values.{Closure}
use Rattle.cq_theory.specs.declared.presentation.Presentation.{Presentation}
use Rattle.cq_theory.specs.declared.schema.Edge.{Edge}
use Rattle.cq_theory.specs.SchemaData.{SchemaData as Schema}
use Rattle.cq_theory.specs.declared.term.EntTerm.{EntTerm}
use Rattle.cq_theory.specs.declared.value.Sheet.{Sheet}
use Rattle.cq_theory.specs.declared.value.Algebra.{Algebra}
use Rattle.cq_model.specs.declared.places.Places.{Places}
use Rattle.cq_names.specs.Closed.{AreClosed}
use Rattle.cq_names.specs.LeastNames.{rows_at}
use Rattle.cq_model.specs.NodeTerms.{cell_place}
use Rattle.cq_model.specs.Built.{IsClosureOf, IsBuilt, HasPlace, sheet_of, tables_of}
use Rattle.cq_base.specs.declared.name.Name.{Name}
use Rattle.cq_theory.specs.declared.presentation.Sort.{Sort}
use Rattle.cq_theory.specs.declared.presentation.Sort.TheVariants.{Plain, Entity}
use Rattle.cq_theory.specs.Sorts.{type_at}
use Rattle.cq_instance.proofs.Lists.{All_from}

module _ (S : Schema) (P : Presentation) (m : Content) (rows : List ℕ) (closed : AreClosed S P m rows)
    (order : List (List ℕ)) (names : List (List EntTerm)) (numbers : List ℕ) (places : Places) (nodes : List Node) (equations : List (ℕ × ℕ)) (types : List ℕ)
    (built : IsBuilt S P m rows order names numbers places nodes equations types) (flat : Closure) (closure : IsClosureOf nodes equations flat) where
  pub entities_counted : length order ≡ length S.entities
  entities_counted = built.numbered.entities

  pub keys_are : keys_of m ≡ map ends_of S.keys
  keys_are = closed.keys

  pub rows_are : (e n r : ℕ) → slice_get (rows_at order e) n ≡ Some r → (live_of m r ≡ true) × (row_entity m r ≡ e)
  rows_are = built.numbered.live

  -- as many values as nodes, and as types
  pub values_counted : length flat.values ≡ length nodes
  values_counted = closure.values.count

  pub types_counted : length types ≡ length flat.values
  types_counted = omega (arith, built.types_are.count, built.nodes_are.count, closure.values.count)

  pub places_within : (a n r : ℕ) (edge : Edge) → slice_get S.attributes a ≡ Some edge → slice_get (rows_at order edge.from) n ≡ Some r → cell_place places r a < length flat.values
  places_within a n r edge found at =
      let row = built.numbered.live edge.from n r at in
      let cell = built.places_are.cell r a edge row.0 found (sym row.1) in
      omega (arith, slice_get_within _ (cell_place places r a) _ cell.1, built.nodes_are.count, closure.values.count)

  pub nulls_within : All (λ node. node < length types) flat.nulls
  nulls_within = All_from (λ node. node < length types) flat.nulls (λ label node at.
      let has = (closure.labels.first label node at).has in
      omega (arith, slice_get_within flat.values node _ has, types_counted))

  generators_placed : (n : ℕ) (sort : Sort) → ((type : ℕ) → sort ≡ Plain type → slice_index places.generators n < length flat.values) → HasPlace places flat.values n sort
  generators_placed n (Plain type) h = h type refl
  generators_placed n (Entity entity) h = tt

  -- the generators of types have places
  pub generators_within : (n : ℕ) (g : Name × Sort) → slice_get P.generators n ≡ Some g → HasPlace places flat.values n g.1
  generators_within n g found = generators_placed n g.1 (λ type is.
      let typed : type_at (slice_get P.generators n) ≡ Some type = ap type_at found ∙ ap (λ (sort : Sort). type_at (Some (g.0, sort))) is in
      let at = built.places_are.generator n type typed in
      omega (arith, slice_get_within _ (slice_index places.generators n) _ at, built.nodes_are.count, closure.values.count))

  -- what was read are the tables
  pub tables_read : (sheet : Sheet) (algebra : Algebra) → sheet ≡ sheet_of S P m rows order numbers places flat.values
      → algebra.nulls ≡ map (slice_index types) flat.nulls → algebra.entries ≡ flat.entries
      → record { sheet = sheet; algebra = algebra } ≡ tables_of S P m rows order numbers places types flat
  tables_read sheet algebra sheet_is nulls entries = λ i. record { sheet = sheet_is i; algebra = record { nulls = nulls i; entries = entries i } }
