-- Along a mapping's delta the images of an identity are those of one.
use Rattle.std.proofs.Common.{ℕ, false, suc, List, [], ◌∷◌, Some, ◌≡◌, ◌<◌, ◌+◌, inl, inr, map, length, refl, sym, ap, subst, ◌∙◌, arith}
use Rattle.std.specs.Prelude.{slice_get, slice_index_or}
use Rattle.std.specs.List.{enumerate_from}
use Rattle.std.proofs.lemmas.Option.{slice_get_within}
use Rattle.cq_base.specs.declared.name.Name.{Name}
use Rattle.cq_theory.specs.declared.presentation.Sort.{Sort}
use Rattle.cq_theory.specs.declared.presentation.Sort.TheVariants.{Plain, Entity}
use Rattle.cq_theory.specs.declared.term.TypeTerm.{TypeTerm}
use Rattle.cq_theory.specs.declared.term.TypeTerm.TheVariants as term
use Rattle.cq_theory.specs.declared.value.Value.TheVariants.{Null}
use Rattle.cq_theory.specs.SchemaData.{SchemaData as Schema}
use Rattle.cq_theory.specs.Canonical.{canonical, canonical_assignment, value_term_step}
use Rattle.cq_theory.specs.Sorts.{Generators}
use Rattle.cq_theory.specs.Tables.{Tables, AtRow, AtValue, Assignment, Holds}
use Rattle.cq_theory.proofs.Values as values
use Rattle.cq_mapping.specs.MappingData.{MappingData as Mapping}
use Rattle.cq_mapping.specs.Mapping.{IsMapping}
use Rattle.cq_mapping.specs.Images.{sort_image, sigma}
use Rattle.cq_mapping.specs.Moved.{delta_tables}
use Rattle.cq_instance.specs.InstanceData.{InstanceData, IsInstance}
use Rattle.cq_instance.specs.Given.{given}
use Rattle.cq_instance.specs.declared.transform.Image.{Image}
use Rattle.cq_instance.specs.declared.transform.Image.TheVariants.{Row, Value as ValueImage}
use Rattle.cq_instance.proofs.CanonicalGenerators as generators
use Rattle.cq_instance.proofs.Lists.{get-map}
use Rattle.cq_transform.specs.Agreement.{meaning_image}
use Rattle.cq_transform.specs.Identities.{itself, identity_images}
use Rattle.cq_transform.proofs.Itself.{identity_goes}
use Rattle.cq_adjoint.specs.Moved.{IsDeltaOf}
use Rattle.cq_adjoint.specs.Moves.{spelled, delta_images}
use Rattle.cq_adjoint.specs.Units.{identity_of}
use Rattle.cq_adjoint.proofs.DeltaMap as lemmas
use Rattle.cq_adjoint.proofs.IdentityMoves.{sent_itself}
use Rattle.cq_adjoint.proofs.MovedImages.{same_image}

-- images that are the same at each generator
same_numbered : (f f' : ℕ × (Name × Sort) → Image) (s : ℕ) (G : Generators) → ((n : ℕ) (g : Name × Sort) → slice_get G n ≡ Some g → f (s + n, g) ≡ f' (s + n, g))
    → map f (enumerate_from s G) ≡ map f' (enumerate_from s G)
same_numbered f f' s [] h = refl
same_numbered f f' s (x ∷ xs) h =
    let here : s + 0 ≡ s = omega arith in
    let first : f (s, x) ≡ f' (s, x) = subst (λ (m : ℕ). f (m, x) ≡ f' (m, x)) here (h 0 x refl) in
    let rest : map f (enumerate_from (s + 1) xs) ≡ map f' (enumerate_from (s + 1) xs) =
    same_numbered f f' (s + 1) xs (λ n g at.
    let there : s + suc n ≡ s + 1 + n = omega arith in
    subst (λ (m : ℕ). f (m, g) ≡ f' (m, g)) there (h (suc n) g at)) in
    λ i. first i ∷ rest i

-- what a generator of the canonical presentation stands for is spelled by the generator
canonical_itself : (S : Schema) (M : Tables) → length M.sheet.counts ≡ length S.entities → (n : ℕ) (g : Name × Sort) → slice_get (canonical S M).generators n ≡ Some g
    → spelled (given S M) g.1 (slice_index_or (canonical_assignment S M) n (AtRow 0)) ≡ itself (n, g)
canonical_itself S M same n g at = elim (generators.from_generator S M same n g at) [
  | inl row ↦
      let stands : slice_index_or (canonical_assignment S M) n (AtRow 0) ≡ AtRow row.row =
      ap (λ m. slice_index_or (canonical_assignment S M) m (AtRow 0)) row.place ∙ generators.row_stands S M same row.entity row.row row.within row.inside in
      let first : spelled (given S M) g.1 (slice_index_or (canonical_assignment S M) n (AtRow 0)) ≡ spelled (given S M) (Entity row.entity) (AtRow row.row) =
      λ k. spelled (given S M) (row.sort_is k) (stands k) in
      first ∙ ap (λ m. Row (record { generator = m; path = [] })) (sym row.place) ∙ ap (λ (s : Sort). itself (n, (g.0, s))) (sym row.sort_is)
  | inr null ↦
      let within : null.label < length M.algebra.nulls = slice_get_within M.algebra.nulls null.label null.type null.typed in
      let stands : slice_index_or (canonical_assignment S M) n (AtRow 0) ≡ AtValue (Null null.label) =
      ap (λ m. slice_index_or (canonical_assignment S M) m (AtRow 0)) null.place ∙ generators.null_stands S M same null.label within in
      let first : spelled (given S M) g.1 (slice_index_or (canonical_assignment S M) n (AtRow 0)) ≡ spelled (given S M) (Plain null.type) (AtValue (Null null.label)) =
      λ k. spelled (given S M) (null.sort_is k) (stands k) in
      first ∙ ap ValueImage (values.fold-Null TypeTerm (value_term_step S M) null.label) ∙ ap (λ m. ValueImage (term.Gen m)) (sym null.place)
      ∙ ap (λ (s : Sort). itself (n, (g.0, s))) (sym null.sort_is)
]

module _ (F : Mapping) (i a : InstanceData) (is : IsMapping F) (first : IsInstance i) (start : IsInstance a) (pulled : IsDeltaOf F i a)
    (holds : Holds i.schema i.presentation i.tables i.assignment) where
  -- the presentation of a, along F, in i
  abbrev along : InstanceData
  along = record { schema = F.target; presentation = sigma F a.presentation; names = []; tables = i.tables; assignment = a.assignment; given = false }

  along_holds : Holds along.schema along.presentation along.tables along.assignment
  along_holds = lemmas.holds F is i i a a first first start start pulled pulled (identity_of i) (identity_goes i holds (identity_of i).images (identity_of i).rows (identity_of i).nulls refl refl refl)

  image_itself : (n : ℕ) (g : Name × Sort) → slice_get a.presentation.generators n ≡ Some g
      → spelled a g.1 (meaning_image i.schema i.tables i.tables (identity_of i).rows (identity_of i).nulls (sort_image F g.1) (slice_index_or a.assignment n (AtRow 0))) ≡ itself (n, g)
  image_itself n g at =
      ap (spelled a g.1)
      (same_image i.schema F.target i.tables i.tables i.tables i.tables (identity_of i).rows (identity_of i).nulls refl (sort_image F g.1) (slice_index_or a.assignment n (AtRow 0))
      ∙ sent_itself along along_holds n (g.0, sort_image F g.1) (get-map (λ (x : Name × Sort). (x.0, sort_image F x.1)) a.presentation.generators n g at))
      ∙ ap (λ (x : InstanceData). spelled x g.1 (slice_index_or x.assignment n (AtRow 0))) pulled.instance
      ∙ canonical_itself F.source (delta_tables F i.tables) (subst (λ (x : InstanceData). length x.tables.sheet.counts ≡ length x.schema.entities) pulled.instance start.well_formed.entities) n g
      (ap (λ (x : InstanceData). slice_get x.presentation.generators n) (sym pulled.instance) ∙ at)

  pub delta_of_identity : delta_images F (identity_of i) i i a a ≡ identity_images a.presentation.generators
  delta_of_identity =
      same_numbered
      (λ (x : ℕ × (Name × Sort)). spelled a x.1.1 (meaning_image i.schema i.tables i.tables (identity_of i).rows (identity_of i).nulls (sort_image F x.1.1) (slice_index_or a.assignment x.0 (AtRow 0))))
      itself 0 a.presentation.generators (λ n g at.
      let here : n ≡ 0 + n = omega arith in
      subst (λ (m : ℕ). spelled a g.1 (meaning_image i.schema i.tables i.tables (identity_of i).rows (identity_of i).nulls (sort_image F g.1) (slice_index_or a.assignment m (AtRow 0))) ≡ itself (m, g)) here
      (image_itself n g at))
