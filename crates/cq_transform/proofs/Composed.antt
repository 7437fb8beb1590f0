-- The composite of two homomorphisms is one, and that of two transforms is a transform.
use Rattle.std.proofs.Common.{ℕ, zero, suc, List, [], ◌∷◌, Option, Some, None, ◌≡◌, ◌<◌, ◌≤◌, ◌+◌, ◌⊎◌, inl, inr, map, length, get_or, refl, sym, ap, subst, ◌∙◌, arith}
use Rattle.std.specs.Prelude.{slice_get, slice_index, slice_index_or, option_map, All}
use Rattle.std.specs.List.{enumerate_from}
use Rattle.std.proofs.lemmas.Bool.{cases_lt}
use Rattle.std.proofs.lemmas.List.{length-map}
use Rattle.std.proofs.lemmas.List.FromFn.{length-enumerate_from}
use Rattle.std.proofs.lemmas.Option.{slice_get_within, slice_get-get_or, get_or_from_slice_get}
use Rattle.cq_theory.specs.declared.constant.Con.TheVariants.{Named}
use Rattle.cq_theory.specs.SchemaData.{SchemaData as Schema}
use Rattle.cq_theory.specs.declared.schema.Edge.{Edge}
use Rattle.cq_theory.specs.declared.value.Value.{Value}
use Rattle.cq_theory.specs.declared.value.Value.TheVariants.{Const, Null, Fun}
use Rattle.cq_theory.specs.declared.value.Entry.{Entry}
use Rattle.cq_theory.specs.Tables.{Tables, count_of, key_at, cell_at, applied, value_type, normal_of, IsWellFormed}
use Rattle.cq_theory.specs.Homomorphism.{row_image, value_image, value_image_step, IsHomomorphism}
use Rattle.cq_theory.proofs.Values as values
use Rattle.cq_theory.proofs.OnValues.{Each, on_values}
use Rattle.cq_theory.proofs.Every.{enumerated}
use Rattle.cq_instance.proofs.Lists.{get-map}
use Rattle.cq_transform.proofs.ExactlyOne.{within_counts}
use Rattle.cq_transform.proofs.Kept.{applied_goes}
use Rattle.cq_transform.proofs.SortedValues.{value_sorted}

-- what stands at a place of a mapped list, whose default is mapped too
default-map : {X Y : Type 0} (f : X → Y) (xs : List X) (n : ℕ) (d : X) → slice_index_or (map f xs) n (f d) ≡ f (slice_index_or xs n d)
default-map f [] n d = refl
default-map f (x ∷ xs) zero d = refl
default-map f (x ∷ xs) (suc n) d = default-map f xs n d

beyond : {X : Type 0} (xs : List X) (n : ℕ) (d : X) → length xs ≤ n → slice_index_or xs n d ≡ d
beyond [] n d h = refl
beyond (x ∷ xs) zero d h = absurd (omega arith)
beyond (x ∷ xs) (suc n) d h = beyond xs n d (omega arith)

-- a list of lists that is mapped with the numbers of the lists
mapped_at : (h : ℕ → ℕ → ℕ) (lists : List (List ℕ)) (n : ℕ) (list : List ℕ) → slice_get lists n ≡ Some list
    → slice_get (map (λ (e : ℕ × List ℕ). map (h e.0) e.1) (enumerate_from 0 lists)) n ≡ Some (map (h n) list)
mapped_at h lists n list at =
    let here : 0 + n ≡ n = omega arith in
    get-map (λ (e : ℕ × List ℕ). map (h e.0) e.1) (enumerate_from 0 lists) n (0 + n, list) (enumerated 0 lists n list at)
    ∙ ap (λ (m : ℕ). Some (map (h m) list)) here

mapped_count : (h : ℕ → ℕ → ℕ) (lists : List (List ℕ)) → length (map (λ (e : ℕ × List ℕ). map (h e.0) e.1) (enumerate_from 0 lists)) ≡ length lists
mapped_count h lists = length-map (enumerate_from 0 lists) (λ (e : ℕ × List ℕ). map (h e.0) e.1) ∙ length-enumerate_from 0 lists

module _ (S : Schema) (L M N : Tables) (rows rows' : List (List ℕ)) (nulls nulls' : List Value) (from : IsWellFormed S L) (well : IsWellFormed S N)
    (first : IsHomomorphism S L M rows nulls) (second : IsHomomorphism S M N rows' nulls') where
  abbrev image : Value → Value
  image = value_image S L M rows nulls

  abbrev image' : Value → Value
  image' = value_image S M N rows' nulls'

  abbrev goes : ℕ → ℕ → ℕ
  goes = row_image S L M rows nulls

  abbrev goes' : ℕ → ℕ → ℕ
  goes' = row_image S M N rows' nulls'

  -- the composite
  abbrev rows'' : List (List ℕ)
  rows'' = map (λ (e : ℕ × List ℕ). map (goes' e.0) e.1) (enumerate_from 0 rows)

  abbrev nulls'' : List Value
  nulls'' = map image' nulls

  abbrev image'' : Value → Value
  image'' = value_image S L N rows'' nulls''

  abbrev goes'' : ℕ → ℕ → ℕ
  goes'' = row_image S L N rows'' nulls''

  abbrev IsThen : Value → Type 0
  IsThen v = image'' v ≡ image' (image v)

  each_then : (vs : List Value) → Each IsThen vs → map image'' vs ≡ map image' (map image vs)
  each_then [] each = refl
  each_then (v ∷ vs) each = let one : image'' v ≡ image' (image v) = each.0 in let rest : map image'' vs ≡ map image' (map image vs) = each_then vs each.1 in λ i. one i ∷ rest i

  const_stays : image' (Const (Named 0)) ≡ Const (Named 0)
  const_stays = values.fold-Const Value (value_image_step S M N rows' nulls') (Named 0)

  -- a value goes first by the one and then by the other
  pub value_then : (v : Value) → IsThen v
  value_then = on_values IsThen
      (λ c.
      values.fold-Const Value (value_image_step S L N rows'' nulls'') c ∙ sym (values.fold-Const Value (value_image_step S M N rows' nulls') c)
      ∙ sym (ap image' (values.fold-Const Value (value_image_step S L M rows nulls) c)))
      (λ n.
      values.fold-Null Value (value_image_step S L N rows'' nulls'') n ∙ ap (slice_index_or nulls'' n) (sym const_stays) ∙ default-map image' nulls n (Const (Named 0))
      ∙ sym (ap image' (values.fold-Null Value (value_image_step S L M rows nulls) n)))
      (λ f vs each.
      values.fold-Fun Value (value_image_step S L N rows'' nulls'') f vs ∙ ap (applied N f) (each_then vs each)
      ∙ sym (applied_goes S M N rows' nulls' second f (map image vs)) ∙ sym (ap image' (values.fold-Fun Value (value_image_step S L M rows nulls) f vs)))

  all_then : (vs : List Value) → map image'' vs ≡ map image' (map image vs)
  all_then [] = refl
  all_then (v ∷ vs) = let one : image'' v ≡ image' (image v) = value_then v in let rest : map image'' vs ≡ map image' (map image vs) = all_then vs in λ i. one i ∷ rest i

  -- the rows of an entity
  known : (e row : ℕ) → row < count_of L e → e < length rows
  known e row within = omega (arith, within_counts L.sheet.counts e row within, from.entities, first.entities)

  list_at : (e row : ℕ) → row < count_of L e → (list : List ℕ) × (slice_get rows e ≡ Some list)
  list_at e row within = (slice_index_or rows e [], slice_get-get_or rows e [] (known e row within))

  pub row_then : (e row : ℕ) → row < count_of L e → goes'' e row ≡ goes' e (goes e row)
  row_then e row within =
      let list = list_at e row within in
      let counted = first.each_row e list.0 list.1 in
      let inside : row < length list.0 = omega (arith, within, counted.0) in
      let is : goes e row ≡ slice_index list.0 row = ap (λ (l : List ℕ). slice_index l row) (get_or_from_slice_get rows e list.0 [] list.1) in
      let all : goes'' e row ≡ slice_index (map (goes' e) list.0) row =
      ap (λ (l : List ℕ). slice_index l row) (get_or_from_slice_get rows'' e (map (goes' e) list.0) [] (mapped_at goes' rows e list.0 list.1)) in
      all ∙ get_or_from_slice_get (map (goes' e) list.0) row (goes' e (slice_index list.0 row)) 0
      (get-map (goes' e) list.0 row (slice_index list.0 row) (slice_get-get_or list.0 row 0 inside)) ∙ ap (goes' e) (sym is)

  row_within : (e row : ℕ) → row < count_of L e → goes e row < count_of M e
  row_within e row within =
      let list = list_at e row within in
      let counted = first.each_row e list.0 list.1 in
      let inside : row < length list.0 = omega (arith, within, counted.0) in
      let is : goes e row ≡ slice_index list.0 row = ap (λ (l : List ℕ). slice_index l row) (get_or_from_slice_get rows e list.0 [] list.1) in
      subst (λ n. n < count_of M e) (sym is) (counted.1 row 0 inside)

  row_within' : (e row : ℕ) → e < length rows' → row < count_of M e → goes' e row < count_of N e
  row_within' e row here within =
      let at : slice_get rows' e ≡ Some (slice_index_or rows' e []) = slice_get-get_or rows' e [] here in
      let counted = second.each_row e (slice_index_or rows' e []) at in
      counted.1 row 0 (omega (arith, within, counted.0))

  each_row : (e : ℕ) (images : List ℕ) → slice_get rows'' e ≡ Some images → (length images ≡ count_of L e) × All (λ row. row < count_of N e) images
  each_row e images at =
      let here : e < length rows = omega (arith, slice_get_within rows'' e images at, mapped_count goes' rows) in
      let list : List ℕ = slice_index_or rows e [] in
      let there : slice_get rows e ≡ Some list = slice_get-get_or rows e [] here in
      let counted = first.each_row e list there in
      let both : Some images ≡ Some (map (goes' e) list) = sym at ∙ mapped_at goes' rows e list there in
      let same : map (goes' e) list ≡ images = cc in
      let size : length (map (goes' e) list) ≡ length list = length-map list (goes' e) in
      let within : All (λ row. row < count_of N e) (map (goes' e) list) = λ n d inside.
      let short : n < length list = omega (arith, inside, size) in
      let is : get_or (map (goes' e) list) n d ≡ goes' e (get_or list n 0) =
      get_or_from_slice_get (map (goes' e) list) n (goes' e (get_or list n 0)) d (get-map (goes' e) list n (get_or list n 0) (slice_get-get_or list n 0 short)) in
      subst (λ m. m < count_of N e) (sym is) (row_within' e (get_or list n 0) (omega (arith, here, first.entities, second.entities)) (counted.1 n 0 short)) in
      (ap length (sym same) ∙ size ∙ counted.0, subst (All (λ row. row < count_of N e)) same within)

  key_then : (k : ℕ) (edge : Edge) → slice_get S.keys k ≡ Some edge → (row : ℕ) → row < count_of L edge.from → goes'' edge.to (key_at L k row) ≡ key_at N k (goes'' edge.from row)
  key_then k edge at row within =
      let column = from.key_columns k edge at in
      let reached : key_at L k row < count_of L edge.to = column.1 row 0 (omega (arith, within, column.0)) in
      row_then edge.to (key_at L k row) reached ∙ ap (goes' edge.to) (first.keys k edge at row within)
      ∙ second.keys k edge at (goes edge.from row) (row_within edge.from row within) ∙ ap (key_at N k) (sym (row_then edge.from row within))

  cell_then : (a : ℕ) (edge : Edge) → slice_get S.attributes a ≡ Some edge → (row : ℕ) → row < count_of L edge.from → image'' (cell_at L a row) ≡ cell_at N a (goes'' edge.from row)
  cell_then a edge at row within =
      value_then (cell_at L a row) ∙ ap image' (first.cells a edge at row within)
      ∙ second.cells a edge at (goes edge.from row) (row_within edge.from row within) ∙ ap (cell_at N a) (sym (row_then edge.from row within))

  entry_then : (e : Entry) → applied M e.function (map image e.args) ≡ image e.value → applied N e.function (map image'' e.args) ≡ image'' e.value
  entry_then e h =
      ap (applied N e.function) (all_then e.args) ∙ sym (applied_goes S M N rows' nulls' second e.function (map image e.args)) ∙ ap image' h ∙ sym (value_then e.value)

  null_typed : (n type : ℕ) → slice_get L.algebra.nulls n ≡ Some type
      → (value_type S N.algebra.nulls (image'' (Null n)) ≡ Some type) × (normal_of N (image'' (Null n)) ≡ image'' (Null n))
  null_typed n type at =
      let sorted = value_sorted S M N rows' nulls' well second (image (Null n)) type (first.typed n type at).0 in
      let is : image'' (Null n) ≡ image' (image (Null n)) = value_then (Null n) in
      (ap (value_type S N.algebra.nulls) is ∙ sorted.0, ap (normal_of N) is ∙ sorted.1 ∙ sym is)

  pub then_homomorphism : IsHomomorphism S L N rows'' nulls''
  then_homomorphism = record {
    entities = mapped_count goes' rows ∙ first.entities;
    each_row = each_row;
    each_null = length-map nulls image' ∙ first.each_null;
    typed = null_typed;
    keys = key_then;
    cells = cell_then;
    entries = λ n d inside. entry_then (get_or L.algebra.entries n d) (first.entries n d inside);
  }
