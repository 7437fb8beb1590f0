-- Which copy, or which null, a generator of coeval is.
use Rattle.std.proofs.Common.{ℕ, zero, suc, List, [], ◌∷◌, ◌++◌, Some, ◌≡◌, ◌<◌, ◌+◌, ◌*◌, ◌⊎◌, inl, inr, map, length, refl, sym, ap, ◌∙◌, arith}
use Rattle.std.specs.Prelude.{slice_get, slice_index}
use Rattle.std.specs.List.{flat_map, range_with_len, sum_by}
use Rattle.std.proofs.lemmas.List.{length-map}
use Rattle.std.proofs.lemmas.List.Sums.{sum_by-cons, sum-map}
use Rattle.cq_base.specs.declared.name.Name.{Name}
use Rattle.cq_theory.specs.declared.presentation.Sort.{Sort}
use Rattle.cq_theory.specs.declared.presentation.Sort.TheVariants.{Plain, Entity}
use Rattle.cq_theory.specs.Canonical.{below}
use Rattle.cq_theory.specs.Tables.{Tables, count_of}
use Rattle.cq_theory.proofs.Faults.{made_of}
use Rattle.cq_terms.proofs.Naming.{sort_of_named}
use Rattle.cq_instance.proofs.CanonicalPlaces.{split}
use Rattle.cq_query.specs.QueryData.{QueryData as Query}
use Rattle.cq_query.specs.Translation.{variables_at}
use Rattle.cq_query.specs.Coeval.{size_of, start_of, null_start, row_sorts, coeval_of}
use Rattle.cq_query.proofs.Copying.{const_sum, rows_size, rows_count}

-- a place in lists behind one another: the list, and the place in it
pub record IsIn {X : Type 0} (f : ℕ → List X) (s n p : ℕ) (x : X) : Type 0 where
  pub list : ℕ
  pub inner : ℕ
  pub within : list < n
  pub place : p ≡ sum_by (λ m. length (f m)) (range_with_len s list) + inner
  pub at : slice_get (f (s + list)) inner ≡ Some x

pub from_flat : {X : Type 0} (f : ℕ → List X) (s n p : ℕ) (x : X) → slice_get (flat_map f (range_with_len s n)) p ≡ Some x → IsIn f s n p x
from_flat f s zero p x h = cc
from_flat {X} f s (suc n) p x h = by (split (f s) (flat_map f (range_with_len (s + 1) n)) p x h) (λ m later. from_flat f (s + 1) n m x later)
  where
    by : (slice_get (f s) p ≡ Some x) ⊎ ((m : ℕ) × (p ≡ length (f s) + m) × (slice_get (flat_map f (range_with_len (s + 1) n)) m ≡ Some x))
        → ((m : ℕ) → slice_get (flat_map f (range_with_len (s + 1) n)) m ≡ Some x → IsIn f (s + 1) n m x) → IsIn f s (suc n) p x
    by (inl first) behind =
        let here : s ≡ s + 0 = omega arith in
        record { list = zero; inner = p; within = omega arith; place = omega arith; at = ap (λ m. slice_get (f m) p) (sym here) ∙ first }
    by (inr later) behind =
        let rest = behind later.0 later.2 in
        let there : s + suc rest.list ≡ s + 1 + rest.list = omega arith in
        record {
          list = suc rest.list;
          inner = rest.inner;
          within = omega (arith, rest.within);
          place = omega (arith, later.1, rest.place, sum_by-cons (λ m. length (f m)) s (range_with_len (s + 1) rest.list));
          at = ap (λ m. slice_get (f m) rest.inner) there ∙ rest.at;
        }

module _ (Q : Query) (M : Tables) where
  abbrev counts : List ℕ
  counts = M.sheet.counts

  abbrev width : ℕ → ℕ
  width e = length (variables_at Q e)

  -- generator p is the copy of a row for a variable
  pub record IsCopy (p : ℕ) (sort : Sort) : Type 0 where
    pub entity : ℕ
    pub row : ℕ
    pub number : ℕ
    pub variable : Name × ℕ
    pub within : row < count_of M entity
    pub at : slice_get (variables_at Q entity) number ≡ Some variable
    pub place : p ≡ start_of Q counts entity + row * width entity + number
    pub of_sort : sort ≡ Entity variable.1

  -- generator p is that of a null
  pub record IsOfNull (p : ℕ) (sort : Sort) : Type 0 where
    pub label : ℕ
    pub type : ℕ
    pub at : slice_get M.algebra.nulls label ≡ Some type
    pub place : p ≡ null_start Q counts + label
    pub of_sort : sort ≡ Plain type

  abbrev rows : List Sort
  rows = flat_map (row_sorts Q counts) (below (length Q.target.entities))

  abbrev of_row : ℕ → List Sort
  of_row e = map (λ (v : Name × ℕ). Entity v.1) (variables_at Q e)

  row_copy : (e q p : ℕ) (sort : Sort) → p ≡ start_of Q counts e + q → slice_get (row_sorts Q counts e) q ≡ Some sort → IsCopy p sort
  row_copy e q p sort place at =
      let row = from_flat (λ (r : ℕ). of_row e) 0 (slice_index counts e) q sort at in
      let v = made_of (λ (w : Name × ℕ). Entity w.1) (variables_at Q e) row.inner sort row.at in
      let before : sum_by (λ (r : ℕ). length (of_row e)) (below row.list) ≡ row.list * width e =
      ap (λ w. sum_by (λ (r : ℕ). w) (below row.list)) (length-map (variables_at Q e) (λ (w : Name × ℕ). Entity w.1)) ∙ const_sum (width e) 0 row.list in
      record {
        entity = e;
        row = row.list;
        number = row.inner;
        variable = v.0;
        within = row.within;
        at = v.1;
        place = omega (arith, place, row.place, before);
        of_sort = v.2;
      }

  copy_of_place : (p : ℕ) (sort : Sort) → slice_get rows p ≡ Some sort → IsCopy p sort
  copy_of_place p sort at =
      let e = from_flat (row_sorts Q counts) 0 (length Q.target.entities) p sort at in
      let here : 0 + e.list ≡ e.list = omega arith in
      let start : sum_by (λ m. length (row_sorts Q counts m)) (below e.list) ≡ start_of Q counts e.list =
      (λ i. sum_by (λ m. rows_size Q M m i) (below e.list)) ∙ sym (sum-map (size_of Q counts) (below e.list)) in
      row_copy e.list e.inner p sort (omega (arith, e.place, start)) (ap (λ m. slice_get (row_sorts Q counts m) e.inner) (sym here) ∙ e.at)

  pub copy_or_null : (p : ℕ) (g : Name × Sort) → slice_get (coeval_of Q M).generators p ≡ Some g → IsCopy p g.1 ⊎ IsOfNull p g.1
  copy_or_null p g at = by (split rows (map Plain M.algebra.nulls) p g.1 (sort_of_named (rows ++ map Plain M.algebra.nulls) p g at))
    where
      by : (slice_get rows p ≡ Some g.1) ⊎ ((m : ℕ) × (p ≡ length rows + m) × (slice_get (map Plain M.algebra.nulls) m ≡ Some g.1)) → IsCopy p g.1 ⊎ IsOfNull p g.1
      by (inl first) = inl (copy_of_place p g.1 first)
      by (inr later) =
          let type = made_of Plain M.algebra.nulls later.0 g.1 later.2 in
          inr (record { label = later.0; type = type.0; at = type.1; place = omega (arith, later.1, rows_count Q M); of_sort = type.2 })
