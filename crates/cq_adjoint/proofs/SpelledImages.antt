-- Rows and values that are spelled in an instance of tables are terms that mean them.
use Rattle.std.proofs.Common.{ℕ, List, [], Some, ◌≡◌, ◌<◌, length, sym, ap, subst, ◌∙◌, arith}
use Rattle.std.specs.Prelude.{slice_index_or, option_map}
use Rattle.std.proofs.lemmas.List.FromFn.{get_or-map-range_with_len}
use Rattle.cq_theory.specs.declared.presentation.Sort.{Sort}
use Rattle.cq_theory.specs.declared.presentation.Sort.TheVariants.{Plain, Entity}
use Rattle.cq_theory.specs.declared.term.EntTerm.{EntTerm}
use Rattle.cq_theory.specs.SchemaData.{SchemaData as Schema}
use Rattle.cq_theory.specs.Canonical.{row_term}
use Rattle.cq_theory.specs.Sorts.{sort_of}
use Rattle.cq_theory.specs.Tables.{Tables, Meaning, AtRow, AtValue, count_of, meaning_of, HasSort, IsWellFormed}
use Rattle.cq_instance.specs.InstanceData.{InstanceData, name_at}
use Rattle.cq_instance.specs.Given.{given, row_names}
use Rattle.cq_instance.specs.declared.transform.Image.{Image}
use Rattle.cq_instance.proofs.CanonicalGenerators as generators
use Rattle.cq_instance.proofs.CanonicalTerms as terms
use Rattle.cq_transform.specs.Transforms.{term_of}
use Rattle.cq_transform.proofs.ExactlyOne.{within_counts}
use Rattle.cq_adjoint.specs.Moves.{spelled}

-- the image is a term of the sort over d that means this
pub record IsImageOf (d : InstanceData) (sort : Sort) (m : Meaning) (image : Image) : Type 0 where
  pub of_sort : sort_of d.schema d.presentation.generators (term_of image) ≡ Some sort
  pub means : meaning_of d.tables d.assignment (term_of image) ≡ m

module _ (S : Schema) (M : Tables) (well : IsWellFormed S M) where
  known : (e row : ℕ) → row < count_of M e → e < length S.entities
  known e row inside = omega (arith, within_counts M.sheet.counts e row inside, well.entities)

  -- the name of a row is its generator
  pub name_is : (e row : ℕ) → row < count_of M e → name_at (given S M).names e row ≡ row_term S M e row
  name_is e row inside =
      ap (λ (names : List EntTerm). slice_index_or names row (record { generator = 0; path = [] }))
      (get_or-map-range_with_len (row_names S M) 0 (length S.entities) e e [] (known e row inside) (omega arith))
      ∙ get_or-map-range_with_len (row_term S M e) 0 (count_of M e) row row (record { generator = 0; path = [] }) inside (omega arith)

  given_spelled : (sort : Sort) (m : Meaning) → HasSort S M sort m → IsImageOf (given S M) sort m (spelled (given S M) sort m)
  given_spelled (Entity e) (AtRow r) h = record {
    of_sort = ap (option_map Entity) (generators.row_term_entity S M well.entities e r (known e r h) h);
    means = ap AtRow (generators.row_term_row S M well.entities e r (known e r h) h);
  }
  given_spelled (Entity e) (AtValue v) h = absurd h
  given_spelled (Plain type) (AtRow r) h = absurd h
  given_spelled (Plain type) (AtValue v) h = record {
    of_sort = ap (option_map Plain) (terms.value_term_type S M well.entities v ∙ h.0);
    means = ap AtValue (terms.value_term_value S M well.entities v type h.0 ∙ h.1);
  }

  -- so in an instance that is one of tables
  pub spelled_image : (d : InstanceData) → d ≡ given S M → (sort : Sort) (m : Meaning) → HasSort S M sort m → IsImageOf d sort m (spelled d sort m)
  spelled_image d is sort m h = subst (λ (x : InstanceData). IsImageOf x sort m (spelled x sort m)) (sym is) (given_spelled sort m h)
