-- The identity is a homomorphism.
use Rattle.std.proofs.Common.{ℕ, zero, suc, true, List, [], ◌∷◌, Option, Some, ◌≡◌, ◌<◌, ◌+◌, map, length, get_or, refl, sym, ap, subst, ◌∙◌, arith}
use Rattle.std.specs.Prelude.{slice_get, slice_index, slice_index_or, All}
use Rattle.std.proofs.lemmas.Bool.{and_parts}
use Rattle.std.proofs.lemmas.List.{length-map}
use Rattle.std.proofs.lemmas.Option.{slice_get_within, slice_get-get_or}
use Rattle.std.proofs.lemmas.List.Elements.{All-head, All-tail}
use Rattle.std.proofs.lemmas.List.FromFn.{get_or-range_with_len, get_or-map-range_with_len, length-map-range_with_len, length-range_with_len}
use Rattle.cq_theory.specs.SchemaData.{SchemaData as Schema}
use Rattle.cq_theory.specs.declared.constant.Con.TheVariants.{Named}
use Rattle.cq_theory.specs.declared.value.Value.{Value}
use Rattle.cq_theory.specs.declared.value.Value.TheVariants.{Const, Null}
use Rattle.cq_theory.specs.declared.value.Entry.{Entry}
use Rattle.cq_theory.specs.Canonical.{below}
use Rattle.cq_theory.specs.Sorts.{is_type, have_types}
use Rattle.cq_theory.specs.Tables.{Tables, count_of, key_at, cell_at, applied, value_type, value_type_step, normal_of, normal_step, IsPlain, IsSoundEntry, IsWellFormed}
use Rattle.cq_theory.specs.Homomorphism.{row_image, value_image, value_image_step, IsHomomorphism, identity_rows, identity_nulls}
use Rattle.cq_theory.proofs.Sound.{is_type_some, applied_type_some}
use Rattle.cq_theory.proofs.Values.{fold-Const, fold-Null, fold-Fun}
use Rattle.cq_theory.proofs.OnValues.{Each, on_values, All_at, applied-entry}

row_itself : (counts : List ℕ) (entity row : ℕ) → row < slice_index counts entity → slice_index (slice_index_or (map below counts) entity []) row ≡ row
row_itself [] entity row h = absurd (omega arith)
row_itself (count ∷ counts) zero row h = let here : 0 + row ≡ row = omega arith in get_or-range_with_len 0 count row 0 h ∙ here
row_itself (count ∷ counts) (suc entity) row h = row_itself counts entity row h

-- the list of an entity's rows is that below its count
own_rows : (counts : List ℕ) (entity : ℕ) (images : List ℕ) → slice_get (map below counts) entity ≡ Some images → below (slice_index counts entity) ≡ images
own_rows [] entity images h = cc
own_rows (count ∷ counts) zero images h = cc
own_rows (count ∷ counts) (suc entity) images h = own_rows counts entity images h

all_below : (n : ℕ) → (length (below n) ≡ n) × All (λ row. row < n) (below n)
all_below n =
    let long : length (below n) ≡ n = length-range_with_len 0 n in
    (long, λ k d within. let at : get_or (below n) k d ≡ 0 + k = get_or-range_with_len 0 n k d (omega (arith, long)) in omega (arith, at, long))

plain_normal : (M : Tables) (v : Value) → IsPlain v → normal_of M v ≡ v
plain_normal M (Const c) h = fold-Const Value (normal_step M) c
plain_normal M (Null n) h = fold-Null Value (normal_step M) n
plain_normal M _ h = absurd h

module _ (S : Schema) (M : Tables) (well : IsWellFormed S M) where
  abbrev rows : List (List ℕ)
  rows = identity_rows M

  abbrev nulls : List Value
  nulls = identity_nulls M

  abbrev image : Value → Value
  image = value_image S M M rows nulls

  abbrev type_in : Value → Option ℕ
  type_in = value_type S M.algebra.nulls

  null_itself : (n : ℕ) → n < length M.algebra.nulls → image (Null n) ≡ Null n
  null_itself n h = fold-Null Value (value_image_step S M M rows nulls) n ∙ get_or-map-range_with_len Null 0 (length M.algebra.nulls) n n (Const (Named 0)) h (omega arith)

  -- the image of a value that has a type is the value with its functions applied anew
  abbrev IsNormalized : Value → Type 0
  IsNormalized v = (type : ℕ) → type_in v ≡ Some type → image v ≡ normal_of M v

  all_normalized : (vs : List Value) (types : List ℕ) → Each IsNormalized vs → have_types (map type_in vs) types ≡ true → map image vs ≡ map (normal_of M) vs
  all_normalized [] types each h = refl
  all_normalized (v ∷ vs) [] each h = cc
  all_normalized (v ∷ vs) (type ∷ types) each h =
      let parts = and_parts (is_type (type_in v) type) (have_types (map type_in vs) types) h in
      let first : image v ≡ normal_of M v = each.0 type (is_type_some (type_in v) type parts.0) in
      let rest : map image vs ≡ map (normal_of M) vs = all_normalized vs types each.1 parts.1 in
      λ i. first i ∷ rest i

  normalized : (v : Value) → IsNormalized v
  normalized = on_values IsNormalized
      (λ c type h. fold-Const Value (value_image_step S M M rows nulls) c ∙ sym (fold-Const Value (normal_step M) c))
      (λ n type h.
      let typed : slice_get M.algebra.nulls n ≡ Some type = sym (fold-Null (Option ℕ) (value_type_step S M.algebra.nulls) n) ∙ h in
      null_itself n (slice_get_within M.algebra.nulls n type typed) ∙ sym (fold-Null Value (normal_step M) n))
      (λ f vs each type h.
      let parts = applied_type_some (slice_get S.typeside.functions f) (map type_in vs) type (sym (fold-Fun (Option ℕ) (value_type_step S M.algebra.nulls) f vs) ∙ h) in
      fold-Fun Value (value_image_step S M M rows nulls) f vs ∙ ap (applied M f) (all_normalized vs parts.0.args each parts.2) ∙ sym (fold-Fun Value (normal_step M) f vs))

  plain_args : (vs : List Value) (types : List ℕ) → have_types (map type_in vs) types ≡ true → All IsPlain vs → map image vs ≡ vs
  plain_args [] types h plain = refl
  plain_args (v ∷ vs) [] h plain = cc
  plain_args (v ∷ vs) (type ∷ types) h plain =
      let parts = and_parts (is_type (type_in v) type) (have_types (map type_in vs) types) h in
      let first : image v ≡ v = normalized v type (is_type_some (type_in v) type parts.0) ∙ plain_normal M v (All-head IsPlain v vs plain) in
      let rest : map image vs ≡ vs = plain_args vs types parts.1 (All-tail IsPlain v vs plain) in
      λ i. first i ∷ rest i

  entry_kept : (n : ℕ) (e : Entry) → slice_get M.algebra.entries n ≡ Some e → applied M e.function (map image e.args) ≡ image e.value
  entry_kept n e at =
      let sound : IsSoundEntry S M e = All_at (IsSoundEntry S M) M.algebra.entries n e well.entries at in
      let parts = applied_type_some (slice_get S.typeside.functions e.function) (map type_in e.args) sound.function.result (sym (fold-Fun (Option ℕ) (value_type_step S M.algebra.nulls) e.function e.args) ∙ sound.typed) in
      ap (applied M e.function) (plain_args e.args parts.0.args parts.2 sound.plain.0) ∙ applied-entry S M well n e at
      ∙ sym (normalized e.value sound.function.result sound.same_type ∙ plain_normal M e.value sound.plain.1)

  entries_kept : All (λ e. applied M e.function (map image e.args) ≡ image e.value) M.algebra.entries
  entries_kept n d within = entry_kept n (get_or M.algebra.entries n d) (slice_get-get_or M.algebra.entries n d within)

  same_row : (entity row : ℕ) → row < count_of M entity → row_image S M M rows nulls entity row ≡ row
  same_row entity row h = row_itself M.sheet.counts entity row h

  pub identity_is_homomorphism : IsHomomorphism S M M rows nulls
  identity_is_homomorphism = record {
    entities = length-map M.sheet.counts below ∙ well.entities;
    each_row = λ entity images h. subst (λ (l : List ℕ). (length l ≡ count_of M entity) × All (λ row. row < count_of M entity) l) (own_rows M.sheet.counts entity images h) (all_below (count_of M entity));
    each_null = length-map-range_with_len Null 0 (length M.algebra.nulls);
    typed = λ n type h.
        let itself : image (Null n) ≡ Null n = null_itself n (slice_get_within M.algebra.nulls n type h) in (
          ap type_in itself ∙ fold-Null (Option ℕ) (value_type_step S M.algebra.nulls) n ∙ h,
          ap (normal_of M) itself ∙ fold-Null Value (normal_step M) n ∙ sym itself,
        );
    keys = λ k edge h row within.
        let column = well.key_columns k edge h in
        let next : key_at M k row < count_of M edge.to = column.1 row 0 (subst (λ n. row < n) (sym column.0) within) in
        same_row edge.to (key_at M k row) next ∙ ap (key_at M k) (sym (same_row edge.from row within));
    cells = λ a edge h row within.
        let column = well.cell_columns a edge h in
        let cell = column.1 row (Const (Named 0)) (subst (λ n. row < n) (sym column.0) within) in
        normalized (cell_at M a row) edge.to cell.0 ∙ cell.1 ∙ ap (cell_at M a) (sym (same_row edge.from row within));
    entries = entries_kept;
  }
