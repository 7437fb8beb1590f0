-- The generators of rows and the spellings of values in an instance of tables.
use Rattle.std.proofs.Common.{ℕ, zero, suc, List, [], ◌∷◌, Some, ◌≡◌, ◌<◌, ◌≤◌, ◌+◌, map, length, sum, sym, ap, subst, ◌∙◌, arith}
use Rattle.std.specs.Prelude.{slice_get, slice_index, slice_index_or, option_map}
use Rattle.std.proofs.lemmas.List.FromFn.{get_or-map-range_with_len}
use Rattle.std.proofs.lemmas.List.Sums.{sum_by-cons}
use Rattle.cq_theory.specs.declared.presentation.Sort.{Sort}
use Rattle.cq_theory.specs.declared.presentation.Sort.TheVariants.{Plain, Entity}
use Rattle.cq_theory.specs.declared.term.EntTerm.{EntTerm}
use Rattle.cq_theory.specs.declared.term.Term.{Term}
use Rattle.cq_theory.specs.declared.term.Term.TheVariants.{Ent, Typ}
use Rattle.cq_theory.specs.declared.value.Value.{Value}
use Rattle.cq_theory.specs.SchemaData.{SchemaData as Schema}
use Rattle.cq_theory.specs.Schema.{IsSchema}
use Rattle.cq_theory.specs.Listed.{IsLeastName}
use Rattle.cq_theory.specs.Canonical.{row_term, value_term, canonical, canonical_assignment}
use Rattle.cq_theory.specs.Sorts.{sort_of}
use Rattle.cq_theory.specs.Tables.{Tables, Meaning, AtRow, AtValue, count_of, meaning_of, value_type, normal_of, IsWellFormed, Satisfies}
use Rattle.cq_instance.specs.InstanceData.{InstanceData, IsInstance, name_at}
use Rattle.cq_instance.specs.Given.{given, row_names}
use Rattle.cq_instance.proofs.CanonicalDerived as derived
use Rattle.cq_instance.proofs.CanonicalGenerators as generators
use Rattle.cq_instance.proofs.CanonicalNames as names
use Rattle.cq_instance.proofs.CanonicalTerms as terms
use Rattle.cq_transform.specs.Nulls.{IsInitial}
use Rattle.cq_transform.proofs.ExactlyOne.{within_counts}

-- the term has this sort over d, and means this
pub record IsTermOf (d : InstanceData) (sort : Sort) (m : Meaning) (t : Term) : Type 0 where
  pub of_sort : sort_of d.schema d.presentation.generators t ≡ Some sort
  pub means : m ≡ meaning_of d.tables d.assignment t

module _ (T : Schema) (d : InstanceData) (is : d ≡ given T d.tables) (well : IsWellFormed T d.tables) where
  abbrev D : Tables
  D = d.tables

  sorted_in : (t : Term) → sort_of d.schema d.presentation.generators t ≡ sort_of T (canonical T D).generators t
  sorted_in t = ap (λ (x : InstanceData). sort_of x.schema x.presentation.generators t) is

  meant_in : (t : Term) → meaning_of D d.assignment t ≡ meaning_of D (canonical_assignment T D) t
  meant_in t = ap (λ (x : InstanceData). meaning_of D x.assignment t) is

  pub entity_within : (e row : ℕ) → row < count_of D e → e < length T.entities
  entity_within e row inside = omega (arith, within_counts D.sheet.counts e row inside, well.entities)

  pub row_spelled : (e row : ℕ) → row < count_of D e → IsTermOf d (Entity e) (AtRow row) (Ent (row_term T D e row))
  row_spelled e row inside = record {
    of_sort = sorted_in (Ent (row_term T D e row)) ∙ ap (option_map Entity) (generators.row_term_entity T D well.entities e row (entity_within e row inside) inside);
    means = ap AtRow (sym (generators.row_term_row T D well.entities e row (entity_within e row inside) inside)) ∙ sym (meant_in (Ent (row_term T D e row)));
  }

  pub value_spelled : (v : Value) (type : ℕ) → value_type T D.algebra.nulls v ≡ Some type → normal_of D v ≡ v → IsTermOf d (Plain type) (AtValue v) (Typ (value_term T D v))
  value_spelled v type typed normal = record {
    of_sort = sorted_in (Typ (value_term T D v)) ∙ ap (option_map Plain) (terms.value_term_type T D well.entities v ∙ typed);
    means = ap AtValue (sym (terms.value_term_value T D well.entities v type typed ∙ normal)) ∙ sym (meant_in (Typ (value_term T D v)));
  }

  -- the name of a row is its generator
  pub name_is : (e row : ℕ) → row < count_of D e → name_at d.names e row ≡ row_term T D e row
  name_is e row inside =
      ap (λ (x : InstanceData). name_at x.names e row) is
      ∙ ap (λ (names : List EntTerm). slice_index_or names row (record { generator = 0; path = [] }))
      (get_or-map-range_with_len (row_names T D) 0 (length T.entities) e e [] (entity_within e row inside) (omega arith))
      ∙ get_or-map-range_with_len (row_term T D e) 0 (count_of D e) row row (record { generator = 0; path = [] }) inside (omega arith)

  -- how many generators there are
  pub generators_are : length d.presentation.generators ≡ sum D.sheet.counts + length D.algebra.nulls
  generators_are = ap (λ (x : InstanceData). length x.presentation.generators) is ∙ generators.generator_count T D well.entities

  at_most : (counts : List ℕ) (e : ℕ) → slice_index counts e ≤ sum counts
  at_most [] e = omega arith
  at_most (x ∷ xs) zero = omega (arith, sum_by-cons (λ m. m) x xs)
  at_most (x ∷ xs) (suc e) = let rest : slice_index xs e ≤ sum xs = at_most xs e in omega (arith, sum_by-cons (λ m. m) x xs)

  pub few_rows : IsInstance d → (e : ℕ) → count_of D e ≤ 16000000
  few_rows instance e = omega (arith, at_most D.sheet.counts e, generators_are, instance.presented.count)

  -- it is the initial model of its presentation, and its names are the least ones
  pub given_initial : IsSchema T → Satisfies T D → IsInitial d
  given_initial schema satisfies = subst IsInitial (sym is) (
    derived.initial T D schema well satisfies,
    λ e row inside.
        subst (IsLeastName T (canonical T D) D (canonical_assignment T D) e row) (sym (name_is e row inside) ∙ ap (λ (x : InstanceData). name_at x.names e row) is)
        (names.least_name T D schema well e row inside),
  )
