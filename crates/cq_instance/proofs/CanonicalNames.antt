-- The generator of a row is the least term that names the row.
use Rattle.std.proofs.Common.{ℕ, List, [], ◌∷◌, Some, ◌≡◌, ◌<◌, inl, inr, sym, ap, ◌∙◌, arith}
use Rattle.std.specs.Prelude.{slice_get, slice_index_or}
use Rattle.std.proofs.lemmas.Option.{option_and_then_some}
use Rattle.cq_theory.specs.SchemaData.{SchemaData as Schema}
use Rattle.cq_theory.specs.Schema.{IsSchema}
use Rattle.cq_theory.specs.Sorts.{Generators, target_of, entity_at, entity_of}
use Rattle.cq_theory.specs.Tables.{Tables, AtRow, Assignment, row_in, count_of, row_of, IsWellFormed}
use Rattle.cq_theory.specs.Canonical.{row_generator, row_term, canonical, canonical_assignment}
use Rattle.cq_theory.specs.Listed.{IsLeastName}
use Rattle.cq_instance.specs.TermOrder.{IsUpTo}
use Rattle.cq_instance.proofs.TermOrder.{is_gt-up_to}
use Rattle.cq_instance.proofs.CanonicalGenerators as generators
use Rattle.cq_instance.proofs.CanonicalDerived.{count_within}

module _ (S : Schema) (M : Tables) (schema : IsSchema S) (well : IsWellFormed S M) where
  abbrev G : Generators
  G = (canonical S M).generators

  abbrev A : Assignment
  A = canonical_assignment S M

  -- a generator alone names the row that it stands for
  one_generator : (g e row : ℕ) → entity_of S G (record { generator = g; path = [] }) ≡ Some e → row_of M A (record { generator = g; path = [] }) ≡ row → g ≡ row_generator S M e row
  one_generator g e row h one = option_and_then_some (target_of S.keys []) (entity_at (slice_get G g)) e h (λ start first rest.
      let at = generators.from_entity S M well.entities g start first in
      let same_entity : start ≡ e = cc in
      let means : row_in (slice_index_or A g (AtRow 0)) ≡ at.0 =
      ap (λ n. row_in (slice_index_or A n (AtRow 0))) at.3 ∙ ap row_in (generators.row_stands S M well.entities start at.0 at.1 at.2) in
      let same_row : at.0 ≡ row = sym means ∙ one in
      at.3 ∙ (λ i. row_generator S M (same_entity i) (same_row i)))

  up_to : (e row g : ℕ) (path : List ℕ) → entity_of S G (record { generator = g; path = path }) ≡ Some e → row_of M A (record { generator = g; path = path }) ≡ row
      → IsUpTo (row_term S M e row) (record { generator = g; path = path })
  up_to e row g [] h one = inr (ap (λ n. record { generator = n; path = [] }) (sym (one_generator g e row h one)))
  up_to e row g (k ∷ path) h one = inl (inl (omega arith))

  pub least_name : (e row : ℕ) → row < count_of M e → IsLeastName S (canonical S M) M A e row (row_term S M e row)
  least_name e row inside =
      let within = count_within S M schema well e row inside in
      record {
        of_entity = generators.row_term_entity S M well.entities e row within inside;
        of_row = generators.row_term_row S M well.entities e row within inside;
        least = λ u h one. is_gt-up_to (row_term S M e row) u (up_to e row u.generator u.path h one);
      }
