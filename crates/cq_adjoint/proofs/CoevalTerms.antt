-- Terms over coeval of an instance, and how many generators there are.
use Rattle.std.proofs.Common.{ℕ, zero, suc, List, [], ◌∷◌, Some, ◌≡◌, ◌<◌, ◌≤◌, ◌+◌, ◌*◌, ◌++◌, map, length, sum, sym, ap, subst, ◌∙◌, arith}
use Rattle.std.specs.Prelude.{slice_get, slice_index, slice_index_or, option_map}
use Rattle.std.specs.List.{flat_map}
use Rattle.std.proofs.lemmas.List.FromFn.{get_or-map-range_with_len}
use Rattle.cq_base.specs.declared.name.Name.{Name}
use Rattle.cq_theory.specs.declared.presentation.Presentation.{Presentation}
use Rattle.cq_theory.specs.declared.presentation.Sort.{Sort}
use Rattle.cq_theory.specs.declared.presentation.Sort.TheVariants.{Plain, Entity}
use Rattle.cq_theory.specs.declared.term.Term.TheVariants.{Ent, Typ}
use Rattle.cq_theory.specs.declared.value.Value.{Value}
use Rattle.cq_theory.specs.SchemaData.{SchemaData as Schema}
use Rattle.cq_theory.specs.Canonical.{below}
use Rattle.cq_theory.specs.Sorts.{entity_of, type_of, sort_of, IsGround}
use Rattle.cq_theory.specs.Tables.{Tables, count_of, value_type, IsWellFormed}
use Rattle.cq_terms.proofs.Naming.{named_length}
use Rattle.cq_instance.specs.InstanceData.{InstanceData, IsInstance}
use Rattle.cq_transform.proofs.ExactlyOne.{within_counts}
use Rattle.cq_query.specs.QueryData.{QueryData as Query}
use Rattle.cq_query.specs.IsQuery.{IsQuery}
use Rattle.cq_query.specs.Translation.{variables_at}
use Rattle.cq_query.specs.Coeval.{size_of, start_of, starts, null_start, row_sorts, coeval_of}
use Rattle.cq_query.proofs.Copying.{sorts_count, start_before, row_fits}
use Rattle.cq_adjoint.specs.Copies.{copy_of, copied_value}
use Rattle.cq_adjoint.specs.QueryMoves.{IsCoeval}
use Rattle.cq_adjoint.proofs.Copied.{copy_sorted}
use Rattle.cq_adjoint.proofs.TypedCopies.{value_typed}

module _ (Q : Query) (query : IsQuery Q) (i a : InstanceData) (coeval : IsCoeval Q i a) (source : IsInstance i) where
  abbrev M : Tables
  M = i.tables

  abbrev counts : List ℕ
  counts = M.sheet.counts

  pub tables : IsWellFormed Q.target M
  tables = subst (λ (S : Schema). IsWellFormed S M) coeval.over source.well_formed

  pub known : (e row : ℕ) → row < count_of M e → e < length Q.target.entities
  known e row inside = omega (arith, within_counts counts e row inside, tables.entities)

  pub copy_over : (e row k : ℕ) (v : Name × ℕ) → row < count_of M e → slice_get (variables_at Q e) k ≡ Some v
      → entity_of a.schema a.presentation.generators (copy_of Q M e row k) ≡ Some v.1
  copy_over e row k v inside at =
      ap (λ (S : Schema). entity_of S a.presentation.generators (copy_of Q M e row k)) coeval.schema
      ∙ ap (λ (P : Presentation). entity_of Q.source P.generators (copy_of Q M e row k)) coeval.presentation
      ∙ copy_sorted Q M e row k v (known e row inside) inside at

  pub copy_ground : (e row k : ℕ) (v : Name × ℕ) → row < count_of M e → slice_get (variables_at Q e) k ≡ Some v → IsGround a.schema a.presentation (Ent (copy_of Q M e row k))
  copy_ground e row k v inside at = (Entity v.1, ap (option_map Entity) (copy_over e row k v inside at))

  pub value_over : (v : Value) (type : ℕ) → value_type Q.target M.algebra.nulls v ≡ Some type → type_of a.schema a.presentation.generators (copied_value Q M v) ≡ Some type
  value_over v type typed =
      ap (λ (S : Schema). type_of S a.presentation.generators (copied_value Q M v)) coeval.schema
      ∙ ap (λ (P : Presentation). type_of Q.source P.generators (copied_value Q M v)) coeval.presentation
      ∙ value_typed Q query M v type typed

  pub start_is : (e : ℕ) → e < length Q.target.entities → slice_index (starts Q counts) e ≡ start_of Q counts e
  start_is e within = let here : 0 + e ≡ e = omega arith in get_or-map-range_with_len (start_of Q counts) 0 (length Q.target.entities) e e 0 within here

  module _ (instance : IsInstance a) where
    generator_count : length a.presentation.generators ≡ null_start Q counts + length M.algebra.nulls
    generator_count = ap (λ (P : Presentation). length P.generators) coeval.presentation
        ∙ named_length (flat_map (row_sorts Q counts) (below (length Q.target.entities)) ++ map Plain M.algebra.nulls) ∙ sorts_count Q M

    pub few_generators : null_start Q counts + length M.algebra.nulls ≤ 16000000
    few_generators = omega (arith, generator_count, instance.presented.count)

    pub copies_fit : (e row : ℕ) → row < count_of M e → start_of Q counts e + row * length (variables_at Q e) + length (variables_at Q e) ≤ 16000000
    copies_fit e row inside =
        let whole : start_of Q counts e + count_of M e * length (variables_at Q e) ≤ 16000000 = omega (arith, start_before Q counts e (known e row inside), few_generators) in
        row_fits (start_of Q counts e) row (count_of M e) (length (variables_at Q e)) inside whole
