-- A homomorphism out of coeval is known by where it sends the copies of rows and the generators of nulls.
use Rattle.std.proofs.Common.{ℕ, List, [], Some, ◌≡◌, ◌<◌, ◌+◌, ◌*◌, ◌⊎◌, inl, inr, map, length, refl, sym, ap, subst, ◌∙◌, arith}
use Rattle.std.specs.Prelude.{slice_get, slice_index, slice_index_or}
use Rattle.std.specs.List.{range_with_len, enumerate_from}
use Rattle.std.proofs.lemmas.List.FromFn.{get_or-range_with_len}
use Rattle.std.proofs.lemmas.Option.{slice_get_within}
use Rattle.cq_base.specs.declared.name.Name.{Name}
use Rattle.cq_theory.specs.declared.presentation.Presentation.{Presentation}
use Rattle.cq_theory.specs.declared.presentation.Sort.{Sort}
use Rattle.cq_theory.specs.declared.presentation.Sort.TheVariants.{Plain, Entity}
use Rattle.cq_theory.specs.declared.term.TypeTerm.{TypeTerm}
use Rattle.cq_theory.specs.declared.value.Value.{Value}
use Rattle.cq_theory.specs.declared.value.Value.TheVariants.{Null}
use Rattle.cq_theory.specs.EntTerm.{alone}
use Rattle.cq_theory.specs.Homomorphism.{row_image, value_image, IsHomomorphism}
use Rattle.cq_theory.specs.Schema.{IsSchema}
use Rattle.cq_theory.specs.Tables.{Tables, Meaning, AtRow, AtValue, Assignment, row_in, value_in, count_of, value_of, value_step, HasSort}
use Rattle.cq_theory.proofs.Every.{enumerated}
use Rattle.cq_theory.proofs.TypeTerms.{fold-Gen}
use Rattle.cq_theory.proofs.Values as values
use Rattle.cq_terms.specs.ValueTerms.{value_term_step}
use Rattle.cq_instance.specs.InstanceData.{InstanceData, IsInstance}
use Rattle.cq_instance.specs.declared.transform.Transform.{Transform}
use Rattle.cq_instance.proofs.Lists.{get-map}
use Rattle.cq_transform.specs.Agreement.{meaning_image, Agrees}
use Rattle.cq_transform.specs.Transforms.{meanings_in, GoesFrom}
use Rattle.cq_transform.proofs.ExactlyOne.{one_homomorphism}
use Rattle.cq_query.specs.QueryData.{QueryData as Query}
use Rattle.cq_query.specs.Coeval.{start_of, null_start, coeval_of}
use Rattle.cq_query.specs.Translation.{variables_at}
use Rattle.cq_adjoint.specs.Copies.{copy_of, copied_value}
use Rattle.cq_adjoint.specs.QueryMoves.{IsCoeval, row_sent, value_sent, copies_sent}
use Rattle.cq_adjoint.proofs.CopyPlaces.{IsCopy, IsOfNull, copy_or_null}

module _ (Q : Query) (i a j : InstanceData) (coeval : IsCoeval Q i a) (first : IsInstance a) (schema : IsSchema Q.source) (made : Transform) (goes : GoesFrom made a j)
    (other : Transform) (is : IsHomomorphism a.schema a.tables j.tables other.rows other.nulls)
    (same_copies : (e row : ℕ) → row < count_of i.tables e → copies_sent Q other i a j e row ≡ copies_sent Q made i a j e row)
    (same_nulls : (label : ℕ) → label < length i.tables.algebra.nulls → value_sent other a j (copied_value Q i.tables (Null label)) ≡ value_sent made a j (copied_value Q i.tables (Null label))) where
  abbrev M : Tables
  M = i.tables

  abbrev A : Assignment
  A = a.assignment

  abbrev sent : Transform → Sort → Meaning → Meaning
  sent k sort m = meaning_image a.schema a.tables j.tables k.rows k.nulls sort m

  -- a copy goes to one row
  row_same : (e row k : ℕ) (v : Name × ℕ) → row < count_of M e → slice_get (variables_at Q e) k ≡ Some v
      → row_sent other a j v.1 (copy_of Q M e row k) ≡ row_sent made a j v.1 (copy_of Q M e row k)
  row_same e row k v inside at =
      let here : 0 + k ≡ k = omega arith in
      let there : slice_get (enumerate_from 0 (variables_at Q e)) k ≡ Some (k, v) =
      enumerated 0 (variables_at Q e) k v at ∙ ap (λ (m : ℕ). let p : ℕ × (Name × ℕ) = (m, v) in Some p) here in
      let left : slice_get (copies_sent Q other i a j e row) k ≡ Some (row_sent other a j v.1 (copy_of Q M e row k)) =
      get-map (λ (w : ℕ × (Name × ℕ)). row_sent other a j w.1.1 (copy_of Q M e row w.0)) (enumerate_from 0 (variables_at Q e)) k (k, v) there in
      let right : slice_get (copies_sent Q made i a j e row) k ≡ Some (row_sent made a j v.1 (copy_of Q M e row k)) =
      get-map (λ (w : ℕ × (Name × ℕ)). row_sent made a j w.1.1 (copy_of Q M e row w.0)) (enumerate_from 0 (variables_at Q e)) k (k, v) there in
      let both : Some (row_sent other a j v.1 (copy_of Q M e row k)) ≡ Some (row_sent made a j v.1 (copy_of Q M e row k)) =
      sym left ∙ ap (λ (l : List ℕ). slice_get l k) (same_copies e row inside) ∙ right in
      cc

  row_meaning : (p e : ℕ) (m : Meaning) → slice_index_or A p (AtRow 0) ≡ m → HasSort a.schema a.tables (Entity e) m → row_sent other a j e (alone p) ≡ row_sent made a j e (alone p)
      → sent other (Entity e) m ≡ sent made (Entity e) m
  row_meaning p e (AtRow r) at sorted same =
      let row : row_in (slice_index_or A p (AtRow 0)) ≡ r = ap row_in at in
      ap AtRow (ap (row_image a.schema a.tables j.tables other.rows other.nulls e) (sym row) ∙ same ∙ ap (row_image a.schema a.tables j.tables made.rows made.nulls e) row)
  row_meaning p e (AtValue v) at sorted same = absurd sorted

  value_meaning : (p type : ℕ) (m : Meaning) → slice_index_or A p (AtRow 0) ≡ m → HasSort a.schema a.tables (Plain type) m
      → value_image a.schema a.tables j.tables other.rows other.nulls (value_in (slice_index_or A p (AtRow 0))) ≡ value_image a.schema a.tables j.tables made.rows made.nulls (value_in (slice_index_or A p (AtRow 0)))
      → sent other (Plain type) m ≡ sent made (Plain type) m
  value_meaning p type (AtRow r) at sorted same = absurd sorted
  value_meaning p type (AtValue v) at sorted same =
      let value : value_in (slice_index_or A p (AtRow 0)) ≡ v = ap value_in at in
      ap AtValue (ap (value_image a.schema a.tables j.tables other.rows other.nulls) (sym value) ∙ same ∙ ap (value_image a.schema a.tables j.tables made.rows made.nulls) value)

  -- what the generator of a null means
  null_means : (label : ℕ) → label < length M.algebra.nulls → value_of a.tables A (copied_value Q M (Null label)) ≡ value_in (slice_index_or A (null_start Q M.sheet.counts + label) (AtRow 0))
  null_means label less =
      let nulls : ℕ = length M.algebra.nulls in
      let start : ℕ = null_start Q M.sheet.counts in
      ap (value_of a.tables A) (values.fold-Null TypeTerm (value_term_step start nulls) label)
      ∙ fold-Gen Value (value_step a.tables A) (slice_index (range_with_len start nulls) label)
      ∙ ap (λ (m : ℕ). value_in (slice_index_or A m (AtRow 0))) (get_or-range_with_len start nulls label 0 less)

  copy_same : (p : ℕ) (sort : Sort) → IsCopy Q M p sort → HasSort a.schema a.tables sort (slice_index_or A p (AtRow 0))
      → sent other sort (slice_index_or A p (AtRow 0)) ≡ sent made sort (slice_index_or A p (AtRow 0))
  copy_same p sort copy sorted =
      let e : ℕ = copy.variable.1 in
      let same : row_sent other a j e (alone p) ≡ row_sent made a j e (alone p) =
      ap (λ (m : ℕ). row_sent other a j e (alone m)) copy.place ∙ row_same copy.entity copy.row copy.number copy.variable copy.within copy.at ∙ ap (λ (m : ℕ). row_sent made a j e (alone m)) (sym copy.place) in
      let m : Meaning = slice_index_or A p (AtRow 0) in
      subst (λ (s : Sort). sent other s m ≡ sent made s m) (sym copy.of_sort)
      (row_meaning p e m refl (subst (λ (s : Sort). HasSort a.schema a.tables s m) copy.of_sort sorted) same)

  null_same : (p : ℕ) (sort : Sort) → IsOfNull Q M p sort → HasSort a.schema a.tables sort (slice_index_or A p (AtRow 0))
      → sent other sort (slice_index_or A p (AtRow 0)) ≡ sent made sort (slice_index_or A p (AtRow 0))
  null_same p sort null sorted =
      let m : Meaning = slice_index_or A p (AtRow 0) in
      let less : null.label < length M.algebra.nulls = slice_get_within M.algebra.nulls null.label null.type null.at in
      let means : value_of a.tables A (copied_value Q M (Null null.label)) ≡ value_in m =
      null_means null.label less ∙ ap (λ (k : ℕ). value_in (slice_index_or A k (AtRow 0))) (sym null.place) in
      let same : value_image a.schema a.tables j.tables other.rows other.nulls (value_in m) ≡ value_image a.schema a.tables j.tables made.rows made.nulls (value_in m) =
      ap (value_image a.schema a.tables j.tables other.rows other.nulls) (sym means) ∙ same_nulls null.label less ∙ ap (value_image a.schema a.tables j.tables made.rows made.nulls) means in
      subst (λ (s : Sort). sent other s m ≡ sent made s m) (sym null.of_sort)
      (value_meaning p null.type m refl (subst (λ (s : Sort). HasSort a.schema a.tables s m) null.of_sort sorted) same)

  generator_same : (p : ℕ) (g : Name × Sort) → slice_get a.presentation.generators p ≡ Some g → sent other g.1 (slice_index_or A p (AtRow 0)) ≡ sent made g.1 (slice_index_or A p (AtRow 0))
  generator_same p g at = by (copy_or_null Q M p g (ap (λ (P : Presentation). slice_get P.generators p) (sym coeval.presentation) ∙ at))
    where
      by : IsCopy Q M p g.1 ⊎ IsOfNull Q M p g.1 → sent other g.1 (slice_index_or A p (AtRow 0)) ≡ sent made g.1 (slice_index_or A p (AtRow 0))
      by (inl copy) = copy_same p g.1 copy (first.sorts p g at)
      by (inr null) = null_same p g.1 null (first.sorts p g at)

  agrees : Agrees a.schema a.presentation a.tables j.tables A (meanings_in j made.images) other.rows other.nulls
  agrees p g at = generator_same p g at ∙ goes.agrees p g at

  pub one_out : (other.rows ≡ made.rows) × (other.nulls ≡ made.nulls)
  one_out = one_homomorphism a.schema a.presentation a.tables j.tables A (meanings_in j made.images) (subst IsSchema (sym coeval.schema) schema) coeval.initial.0 goes.holds
      other.rows made.rows other.nulls made.nulls is agrees goes.homomorphism goes.agrees
