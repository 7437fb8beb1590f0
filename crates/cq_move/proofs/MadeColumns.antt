-- The columns that are made, and what they are asked for.
use Rattle.std.proofs.Common.{ℕ, zero, suc, Bool, true, false, List, [], ◌∷◌, Some, ◌≡◌, ◌<◌, ◌≤◌, ◌+◌, map, take, length, sum, get_or, refl, sym, ap, subst, ◌∙◌, arith}
use Rattle.std.specs.Prelude.{slice_get, slice_index_or, All, nat_lt}
use Rattle.std.specs.List.{list_any, enumerate_from}
use Rattle.std.proofs.lemmas.Bool.{lt-ltb, ltb-false}
use Rattle.std.proofs.lemmas.List.Sums.{sum_by-cons}
use Rattle.std.proofs.lemmas.Option.{slice_get-get_or}
use Rattle.cq_base.specs.declared.name.Name.{Name}
use Rattle.cq_theory.specs.declared.refusal.SizeRefusal.{SizeRefusal}
use Rattle.cq_theory.specs.declared.refusal.SizeRefusal.TheVariants.{TooLarge, Memory}
use Rattle.cq_theory.specs.declared.presentation.Sort.TheVariants.{Entity}
use Rattle.cq_theory.specs.declared.presentation.Sort.{Sort}
use Rattle.cq_theory.specs.declared.schema.Edge.{Edge}
use Rattle.cq_theory.specs.SchemaData.{SchemaData as Schema}
use Rattle.cq_theory.specs.declared.value.Value.{Value}
use Rattle.cq_theory.specs.declared.value.Sheet.{Sheet}
use Rattle.cq_theory.specs.declared.value.Algebra.{Algebra}
use Rattle.cq_theory.specs.Canonical.{below}
use Rattle.cq_theory.specs.Schema.{one_of}
use Rattle.cq_theory.specs.Sorts.{target_of, type_of}
use Rattle.cq_theory.specs.Tables.{Tables, AtRow, count_of, HasSort, IsWellFormed, Satisfies}
use Rattle.cq_theory.specs.Value.{symbols_of}
use Rattle.cq_mapping.specs.MappingData.{MappingData as Mapping}
use Rattle.cq_mapping.specs.Mapping.{IsMapping}
use Rattle.cq_mapping.specs.Images.{entity_image, key_image, attribute_image}
use Rattle.cq_mapping.specs.Duties.{Preserves}
use Rattle.cq_mapping.specs.Moved.{cell_column, delta_tables}
use Rattle.cq_instance.specs.Given.{IsModel, tables, size_of, has_long_cell, is_oversized}
use Rattle.cq_instance.specs.Terms.{IsOnWay, IsTypeTermOf}
use Rattle.cq_instance.proofs.Lists.{All_from, get-map, get-range}
use Rattle.cq_instance.proofs.Enumerated.{get-enumerate}
use Rattle.cq_move.specs.Pulling.{TellsSize}
use Rattle.cq_move.proofs.Tests.{neither, some_at, none_at}
use Rattle.cq_move.proofs.Pulled.{well_formed, satisfied}

-- Rows are counted until the room is used up.

rows_before : (f : ℕ → ℕ) (xs : List ℕ) (i : ℕ) → i < length xs → sum (map f (take i xs)) + f (get_or xs i 0) ≤ sum (map f xs)
rows_before f [] i h = absurd (omega arith)
rows_before f (x ∷ xs) zero h = omega (arith, sum_by-cons (λ n. n) (f x) (map f xs))
rows_before f (x ∷ xs) (suc i) h =
    omega (arith, rows_before f xs i (omega arith), sum_by-cons (λ n. n) (f x) (map f xs), sum_by-cons (λ n. n) (f x) (map f (take i xs)))

pub many_rows : (f : ℕ → ℕ) (xs ys : List ℕ) (i room count nulls size : ℕ) → ys ≡ xs → i < length ys → count ≡ f (get_or ys i 0)
    → room + sum (map f (take i xs)) + nulls ≡ 16000000 → room < count → nulls ≡ size → true ≡ nat_lt 16000000 (sum (map f xs) + size)
many_rows f xs ys i room count nulls size same within is so_far over nulls_are =
    let inside : i < length xs = omega (arith, within, ap length same) in
    let here : count ≡ f (get_or xs i 0) = is ∙ ap (λ (l : List ℕ). f (get_or l i 0)) same in
    let many : 16000000 < sum (map f xs) + size = omega (arith, rows_before f xs i inside, here, so_far, over, nulls_are) in
    sym (lt-ltb 16000000 (sum (map f xs) + size) many)

-- A refusal that tells one limit tells another, if that is passed wherever the one is.
pub tells_too : (b b' : Bool) (refusal : SizeRefusal) → (b ≡ true → b' ≡ true) → TellsSize b refusal → TellsSize b' refusal
tells_too b b' TooLarge more h = more h
tells_too b b' Memory more h = tt

abbrev pub is_long : Value → Bool
is_long v = nat_lt 1024 (symbols_of v)

-- a value among those at the first rows
pub long_value : (f : ℕ → Value) (n row : ℕ) → row < n → is_long (f row) ≡ true → list_any is_long (map f (below n)) ≡ true
long_value f n row within h =
    let here : 0 + row ≡ row = omega arith in
    some_at is_long (map f (below n)) row (f row) (get-map f (below n) row row (get-range 0 n row within ∙ ap (λ k. Some k) here)) h

-- what an index into a list of edges reads
pub edge_at : (edges items : List Edge) (i : ℕ) (edge : Edge) → items ≡ edges → i < length items → edge ≡ get_or items i edge → slice_get edges i ≡ Some edge
edge_at edges items i edge same within is = ap (λ (l : List Edge). slice_get l i) (sym same) ∙ slice_get-get_or items i edge within ∙ ap (λ (e : Edge). Some e) (sym is)

module _ (F : Mapping) (M : Tables) where
  -- a column among those of the attributes
  pub long_column : (a : ℕ) (edge : Edge) → slice_get F.source.attributes a ≡ Some edge → list_any is_long (cell_column F M (a, edge)) ≡ true → has_long_cell (delta_tables F M) ≡ true
  long_column a edge at h =
      some_at (list_any is_long) (map (cell_column F M) (enumerate_from 0 F.source.attributes)) a (cell_column F M (a, edge))
      (get-map (cell_column F M) (enumerate_from 0 F.source.attributes) a (a, edge) (get-enumerate F.source.attributes a edge at)) h

  module _ (is : IsMapping F) (S : Schema) (over : S ≡ F.target) where
    one_sorted : (e row : ℕ) → row < count_of M e → (n : ℕ) (g : Name × Sort) → slice_get (one_of e) n ≡ Some g → HasSort S M g.1 (slice_index_or (AtRow row ∷ []) n (AtRow 0))
    one_sorted e row inside zero g h =
        let same : ([], Entity e) ≡ g = cc in
        subst (λ (x : Name × Sort). HasSort S M x.1 (AtRow row)) same inside
    one_sorted e row inside (suc n) g h = cc

    -- the term of an attribute, over a variable that stands for a row
    pub cell_term : (a row : ℕ) (edge : Edge) → slice_get F.source.attributes a ≡ Some edge → row < count_of M (entity_image F edge.from) → IsTypeTermOf S M (AtRow row ∷ []) (attribute_image F a) edge.to
    cell_term a row edge at inside = record {
      generators = one_of (entity_image F edge.from);
      standings = record { count = refl; sorts = one_sorted (entity_image F edge.from) row inside };
      typed = subst (λ (T : Schema). type_of T (one_of (entity_image F edge.from)) (attribute_image F a) ≡ Some edge.to) (sym over) (is.attribute_images a edge at).typed;
    }

    -- the path of a foreign key leads from a row to the image of its target
    pub key_way : (k row : ℕ) (edge : Edge) → slice_get F.source.keys k ≡ Some edge → row < count_of M (entity_image F edge.from) → IsOnWay S M (key_image F k) row (entity_image F edge.to)
    key_way k row edge at inside = record {
      entity = entity_image F edge.from;
      within = inside;
      leads = subst (λ (T : Schema). target_of T.keys (key_image F k) (entity_image F edge.from) ≡ Some (entity_image F edge.to)) (sym over) (is.key_images k edge at).leads;
    }

  -- what is pulled back and isn't too large is a model
  module _ (is : IsMapping F) (preserves : Preserves F) (well : IsWellFormed F.target M) (satisfies : Satisfies F.target M)
      (entries_fit : All (λ e. length e.args ≤ 1023) M.algebra.entries) (fits : is_oversized (delta_tables F M) ≡ false) where
    abbrev D : Tables
    D = delta_tables F M

    short_cells : has_long_cell D ≡ false
    short_cells = (neither (nat_lt 16000000 (size_of D)) (has_long_cell D) fits).1

    cells_fit : All (λ column. All (λ v. symbols_of v ≤ 1024) column) D.sheet.cells
    cells_fit = All_from (λ column. All (λ v. symbols_of v ≤ 1024) column) D.sheet.cells (λ n column at.
        All_from (λ v. symbols_of v ≤ 1024) column (λ m v here.
        ltb-false 1024 (symbols_of v) (none_at is_long column m v here (none_at (list_any is_long) D.sheet.cells n column at short_cells))))

    pub pulled_model : IsModel F.source D
    pulled_model = record {
      well_formed = well_formed F is M well satisfies;
      satisfies = satisfied F is M well satisfies preserves;
      cells_fit = cells_fit;
      entries_fit = entries_fit;
    }

    pub given_model : (S : Schema) (sheet : Sheet) (algebra : Algebra) → S ≡ F.source → sheet ≡ D.sheet → algebra ≡ M.algebra → IsModel S (tables sheet algebra)
    given_model S sheet algebra source_is sheet_is algebra_is =
        let same : IsModel F.source D ≡ IsModel S (tables sheet algebra) = λ i. IsModel (sym source_is i) (tables (sym sheet_is i) (sym algebra_is i)) in
        subst (λ (X : Type 0). X) same pulled_model
