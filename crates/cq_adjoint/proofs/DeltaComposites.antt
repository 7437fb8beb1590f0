-- Along delta, the composite of two transforms is the composite of what they become.
use Rattle.std.proofs.Common.{ℕ, zero, suc, List, [], ◌∷◌, Option, Some, ◌≡◌, ◌<◌, map, length, refl, sym, ap, subst, ◌∙◌, arith}
use Rattle.std.specs.Prelude.{slice_get, slice_index, slice_index_or}
use Rattle.std.proofs.lemmas.Option.{slice_get_within, get_or_from_slice_get}
use Rattle.cq_base.specs.declared.name.Name.{Name}
use Rattle.cq_theory.specs.declared.constant.Con.TheVariants.{Named}
use Rattle.cq_theory.specs.declared.presentation.Sort.{Sort}
use Rattle.cq_theory.specs.declared.presentation.Sort.TheVariants.{Plain, Entity}
use Rattle.cq_theory.specs.declared.value.Algebra.{Algebra}
use Rattle.cq_theory.specs.declared.value.Entry.{Entry}
use Rattle.cq_theory.specs.declared.value.Value.{Value}
use Rattle.cq_theory.specs.declared.value.Value.TheVariants.{Const, Null}
use Rattle.cq_theory.specs.SchemaData.{SchemaData as Schema}
use Rattle.cq_theory.specs.Canonical.{row_generator, null_generator}
use Rattle.cq_theory.specs.Homomorphism.{row_image, value_image, value_image_step}
use Rattle.cq_theory.specs.Sorts.{entity_at, type_at}
use Rattle.cq_theory.specs.Tables.{Tables, Meaning, AtRow, AtValue, row_in, value_in, count_of}
use Rattle.cq_theory.proofs.Values as values
use Rattle.cq_mapping.specs.MappingData.{MappingData as Mapping}
use Rattle.cq_mapping.specs.Mapping.{IsMapping}
use Rattle.cq_mapping.specs.Images.{entity_image, sort_image}
use Rattle.cq_mapping.specs.Moved.{delta_tables}
use Rattle.cq_instance.specs.InstanceData.{InstanceData, IsInstance}
use Rattle.cq_instance.specs.Given.{given}
use Rattle.cq_instance.specs.declared.transform.Transform.{Transform}
use Rattle.cq_instance.proofs.CanonicalGenerators as generators
use Rattle.cq_transform.specs.Agreement.{meaning_image}
use Rattle.cq_transform.specs.Composing.{composed}
use Rattle.cq_transform.specs.Sent.{value_sent}
use Rattle.cq_transform.specs.Transforms.{GoesFrom}
use Rattle.cq_transform.proofs.Composites.{composite_goes}
use Rattle.cq_transform.proofs.ExactlyOne.{within_counts}
use Rattle.cq_transform.proofs.Loops.{member_at}
use Rattle.cq_transform.proofs.Normal.{entity_at_some, type_at_some}
use Rattle.cq_transform.proofs.Placed.{sent_image}
use Rattle.cq_adjoint.specs.Moved.{IsDeltaOf}
use Rattle.cq_adjoint.specs.Moves.{delta_images}
use Rattle.cq_adjoint.proofs.AnsweredRows.{same_list}
use Rattle.cq_adjoint.proofs.DeltaMap.{sends}
use Rattle.cq_adjoint.proofs.SentThen.{row_inside, row_then, same_rows}

-- where a transform along delta sends rows and nulls
module _ (F : Mapping) (is : IsMapping F) (i j a b : InstanceData) (first : IsInstance i) (last : IsInstance j) (start : IsInstance a) (end : IsInstance b)
    (from_pulled : IsDeltaOf F i a) (pulled : IsDeltaOf F j b) (h made : Transform) (goes : GoesFrom h i j) (above : GoesFrom made a b) (images : made.images ≡ delta_images F h i j a b) where
  abbrev S : Schema
  S = F.source

  abbrev M : Tables
  M = a.tables

  is_given : a ≡ given S M
  is_given = from_pulled.instance ∙ ap (given S) (sym (ap (λ (x : InstanceData). x.tables) from_pulled.instance))

  entities : length M.sheet.counts ≡ length S.entities
  entities = start.well_formed.entities ∙ ap (λ (x : InstanceData). length x.schema.entities) from_pulled.instance

  sent_at : (n : ℕ) (g : Name × Sort) (m : Meaning) (sort : Sort) → slice_get a.presentation.generators n ≡ Some g → g.1 ≡ sort → slice_index_or a.assignment n (AtRow 0) ≡ m
      → meaning_image a.schema M b.tables made.rows made.nulls sort m ≡ meaning_image F.target i.tables j.tables h.rows h.nulls (sort_image F sort) m
  sent_at n g m sort at of stands =
      subst (λ (x : Sort × Meaning). meaning_image a.schema M b.tables made.rows made.nulls x.0 x.1 ≡ meaning_image F.target i.tables j.tables h.rows h.nulls (sort_image F x.0) x.1)
      (λ k. (of k, stands k)) (sends F is i j a b first last start end from_pulled pulled h goes made images above n g at)

  pub row_goes : (e row : ℕ) → row < count_of M e → row_image a.schema M b.tables made.rows made.nulls e row ≡ row_image i.schema i.tables j.tables h.rows h.nulls (entity_image F e) row
  row_goes e row inside =
      let within : e < length S.entities = omega (arith, within_counts M.sheet.counts e row inside, entities) in
      let p : ℕ = row_generator S M e row in
      let g = entity_at_some (slice_get a.presentation.generators p) e
      (ap (λ (x : InstanceData). entity_at (slice_get x.presentation.generators p)) is_given ∙ generators.row_entity S M entities e row within inside) in
      let stands : slice_index_or a.assignment p (AtRow 0) ≡ AtRow row =
      ap (λ (x : InstanceData). slice_index_or x.assignment p (AtRow 0)) is_given ∙ generators.row_stands S M entities e row within inside in
      ap row_in (sent_at p g.0 (AtRow row) (Entity e) g.1 g.2 stands)

  null_goes : (label : ℕ) → label < length M.algebra.nulls → value_image a.schema M b.tables made.rows made.nulls (Null label) ≡ value_image i.schema i.tables j.tables h.rows h.nulls (Null label)
  null_goes label within =
      let type = member_at M.algebra.nulls label within in
      let p : ℕ = null_generator S M label in
      let g = type_at_some (slice_get a.presentation.generators p) type.0
      (ap (λ (x : InstanceData). type_at (slice_get x.presentation.generators p)) is_given ∙ generators.null_type S M entities label ∙ type.1) in
      let stands : slice_index_or a.assignment p (AtRow 0) ≡ AtValue (Null label) =
      ap (λ (x : InstanceData). slice_index_or x.assignment p (AtRow 0)) is_given ∙ generators.null_stands S M entities label within in
      ap value_in (sent_at p g.0 (AtValue (Null label)) (Plain type.0) g.1 g.2 stands)

  pub same_nulls : made.nulls ≡ h.nulls
  same_nulls =
      let count : length M.algebra.nulls ≡ length i.tables.algebra.nulls = ap (λ (x : InstanceData). length x.tables.algebra.nulls) from_pulled.instance in
      same_list made.nulls h.nulls (above.homomorphism.each_null ∙ count ∙ sym goes.homomorphism.each_null) (λ k x y at at'.
      let within : k < length M.algebra.nulls = omega (arith, slice_get_within made.nulls k x at, above.homomorphism.each_null) in
      sym (get_or_from_slice_get made.nulls k x (Const (Named 0)) at) ∙ sym (values.fold-Null Value (value_image_step a.schema M b.tables made.rows made.nulls) k) ∙ null_goes k within
      ∙ values.fold-Null Value (value_image_step i.schema i.tables j.tables h.rows h.nulls) k ∙ get_or_from_slice_get h.nulls k y (Const (Named 0)) at')

  -- so each value goes alike
  pub value_goes : (v : Value) → value_image a.schema M b.tables made.rows made.nulls v ≡ value_image i.schema i.tables j.tables h.rows h.nulls v
  value_goes v =
      let entries : b.tables.algebra.entries ≡ j.tables.algebra.entries = ap (λ (x : InstanceData). x.tables.algebra.entries) pulled.instance in
      sym (sent_image a.schema M b.tables made.rows made.nulls v) ∙ (λ k. value_sent (entries k) (same_nulls k) v) ∙ sent_image i.schema i.tables j.tables h.rows h.nulls v

-- a number below what a function gives at a place
below_mapped : (f : ℕ → ℕ) (xs : List ℕ) (n k : ℕ) → k < slice_index (map f xs) n → k < f (slice_index xs n)
below_mapped f [] n k less = absurd (omega arith)
below_mapped f (x ∷ xs) zero k less = less
below_mapped f (x ∷ xs) (suc n) k less = below_mapped f xs n k less

module _ (F : Mapping) (is : IsMapping F) (i j k a b c : InstanceData) (h g s t u : Transform) (of_i : IsDeltaOf F i a) (of_j : IsDeltaOf F j b) (of_k : IsDeltaOf F k c)
    (first_i : IsInstance i) (first_j : IsInstance j) (first_k : IsInstance k) (first_a : IsInstance a) (first_b : IsInstance b) (first_c : IsInstance c)
    (from_i : GoesFrom h i j) (from_j : GoesFrom g j k) (from_a : GoesFrom s a b) (from_b : GoesFrom t b c) (over : GoesFrom u a c)
    (is_s : s.images ≡ delta_images F h i j a b) (is_t : t.images ≡ delta_images F g j k b c) (is_u : u.images ≡ delta_images F (composed j k h g) i k a c) where
  abbrev hg : Transform
  hg = composed j k h g

  abbrev st : Transform
  st = composed b c s t

  from_both : GoesFrom hg i k
  from_both = composite_goes i j k h g first_i first_j first_k from_i from_j hg refl

  along_both : GoesFrom st a c
  along_both = composite_goes a b c s t first_a first_b first_c from_a from_b st refl

  row_same : (e row : ℕ) → row < count_of a.tables e → row_image a.schema a.tables c.tables st.rows st.nulls e row ≡ row_image a.schema a.tables c.tables u.rows u.nulls e row
  row_same e row inside =
      let there : ℕ = row_image a.schema a.tables b.tables s.rows s.nulls e row in
      let below : row < count_of i.tables (entity_image F e) =
      below_mapped (count_of i.tables) F.entities e row (subst (λ (x : InstanceData). row < count_of x.tables e) of_i.instance inside) in
      row_then a b c s t first_a from_a from_b e row inside
      ∙ row_goes F is j k b c first_j first_k first_b first_c of_j of_k g t from_j from_b is_t e there (row_inside a b s first_a from_a e row inside)
      ∙ ap (row_image j.schema j.tables k.tables g.rows g.nulls (entity_image F e)) (row_goes F is i j a b first_i first_j first_a first_b of_i of_j h s from_i from_a is_s e row inside)
      ∙ sym (row_then i j k h g first_i from_i from_j (entity_image F e) row below)
      ∙ sym (row_goes F is i k a c first_i first_k first_a first_c of_i of_k hg u from_both over is_u e row inside)

  nulls_same : st.nulls ≡ u.nulls
  nulls_same =
      ap (map (value_image b.schema b.tables c.tables t.rows t.nulls)) (same_nulls F is i j a b first_i first_j first_a first_b of_i of_j h s from_i from_a is_s)
      ∙ (λ l. map (λ (v : Value). value_goes F is j k b c first_j first_k first_b first_c of_j of_k g t from_j from_b is_t v l) h.nulls)
      ∙ sym (same_nulls F is i k a c first_i first_k first_a first_c of_i of_k hg u from_both over is_u)

  pub delta_of_composite : (st.rows ≡ u.rows) × (st.nulls ≡ u.nulls)
  delta_of_composite = (same_rows a.schema a.tables c.tables st.rows u.rows st.nulls u.nulls along_both.homomorphism over.homomorphism row_same, nulls_same)
