-- What the code makes of a generator is where the transform sends what the generator stands for.
use Rattle.std.proofs.Common.{ℕ, List, [], Some, ◌≡◌, ◌<◌, refl, sym, ap, ◌∙◌}
use Rattle.std.specs.Prelude.{slice_index, slice_index_or}
use Rattle.cq_theory.specs.declared.presentation.Sort.{Sort}
use Rattle.cq_theory.specs.declared.presentation.Sort.TheVariants.{Plain, Entity}
use Rattle.cq_theory.specs.declared.value.Value.{Value}
use Rattle.cq_theory.specs.declared.value.Entry.{Entry}
use Rattle.cq_theory.specs.SchemaData.{SchemaData as Schema}
use Rattle.cq_theory.specs.Canonical.{row_term}
use Rattle.cq_theory.specs.Tables.{Tables, Meaning, AtRow, AtValue, row_in, value_in, count_of, value_type, HasSort}
use Rattle.cq_instance.specs.InstanceData.{InstanceData, name_at, IsInstance}
use Rattle.cq_instance.specs.Given.{given}
use Rattle.cq_instance.specs.declared.transform.Image.TheVariants.{Row}
use Rattle.cq_transform.specs.Agreement.{meaning_image}
use Rattle.cq_transform.specs.Sent.{value_sent}
use Rattle.cq_transform.proofs.Placed.{sent_image}
use Rattle.cq_adjoint.specs.Moves.{spelled}
use Rattle.cq_adjoint.proofs.SpelledImages.{name_is}

module _ (S T : Schema) (L M N : Tables) (rows : List (List ℕ)) (nulls : List Value) where
  -- a row goes to a row
  pub row_within : (e image : ℕ) (m : Meaning) → HasSort S N (Entity e) (meaning_image T L M rows nulls (Entity image) m) → slice_index (slice_index_or rows image []) (row_in m) < count_of N e
  row_within e image (AtRow r) h = h
  row_within e image (AtValue v) h = absurd h

  pub row_found : (e image : ℕ) (m : Meaning) → HasSort S N (Entity e) (meaning_image T L M rows nulls (Entity image) m)
      → slice_index (slice_index_or rows image []) (row_in m) ≡ row_in (meaning_image T L M rows nulls (Entity image) m)
  row_found e image (AtRow r) h = refl
  row_found e image (AtValue v) h = absurd h

  pub value_found : (type : ℕ) (m : Meaning) → HasSort S N (Plain type) (meaning_image T L M rows nulls (Plain type) m)
      → value_sent M.algebra.entries nulls (value_in m) ≡ value_in (meaning_image T L M rows nulls (Plain type) m)
  value_found type (AtRow r) h = absurd h
  value_found type (AtValue v) h = sent_image T L M rows nulls v

pub typed_value : (S : Schema) (N : Tables) (type : ℕ) (m : Meaning) → HasSort S N (Plain type) m → value_type S N.algebra.nulls (value_in m) ≡ Some type
typed_value S N type (AtRow r) h = absurd h
typed_value S N type (AtValue v) h = h.0

-- the row's name is its spelling in an instance of tables
pub row_spelled : (d : InstanceData) → IsInstance d → d ≡ given d.schema d.tables → (e : ℕ) (m : Meaning) (row : ℕ) → row < count_of d.tables e → row ≡ row_in m
    → Row (name_at d.names e row) ≡ spelled d (Entity e) m
row_spelled d instance is e m row inside same =
    ap (λ (x : InstanceData). Row (name_at x.names e row)) is ∙ ap Row (name_is d.schema d.tables instance.well_formed e row inside)
    ∙ ap (λ r. Row (row_term d.schema d.tables e r)) same

-- tables with the same entries have the same images
pub same_image : (S T : Schema) (L L' M N : Tables) (rows : List (List ℕ)) (nulls : List Value) → M.algebra.entries ≡ N.algebra.entries → (sort : Sort) (m : Meaning)
    → meaning_image S L M rows nulls sort m ≡ meaning_image T L' N rows nulls sort m
same_image S T L L' M N rows nulls same (Entity e) (AtRow r) = refl
same_image S T L L' M N rows nulls same (Plain type) (AtRow r) = refl
same_image S T L L' M N rows nulls same (Entity e) (AtValue v) =
    ap AtValue (sym (sent_image S L M rows nulls v) ∙ ap (λ (entries : List Entry). value_sent entries nulls v) same ∙ sent_image T L' N rows nulls v)
same_image S T L L' M N rows nulls same (Plain type) (AtValue v) =
    ap AtValue (sym (sent_image S L M rows nulls v) ∙ ap (λ (entries : List Entry). value_sent entries nulls v) same ∙ sent_image T L' N rows nulls v)
