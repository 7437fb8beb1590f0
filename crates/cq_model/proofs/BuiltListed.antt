-- What is built is the listed model.
use Rattle.std.proofs.Common.{ℕ, zero, suc, true, false, List, [], ◌∷◌, Some, None, ◌≡◌, ◌<◌, length, get_or, refl, sym, ap, subst, ◌∙◌, arith}
use Rattle.std.specs.Prelude.{slice_get, slice_index_or, All}
use Rattle.std.proofs.lemmas.Option.{option_and_then_some, get_or_from_slice_get, slice_get-get_or, slice_get_within}
use Rattle.cq_tables.specs.Content.{Content}
use Rattle.cq_flat.specs.declared.node.Node.{Node}
use Rattle.cq_flat.specs.Values.{Closure}
use Rattle.cq_model.specs.declared.places.Places.{Places}
use Rattle.cq_names.specs.Closed.{AreClosed}
use Rattle.cq_instance.specs.InstanceData.{IsName, IsNameOf, IsInstance, name_at}
use Rattle.cq_names.specs.LeastNames.{rows_at, terms_at}
use Rattle.cq_model.specs.Built.{IsClosureOf, IsBuilt, tables_of, assignment_of}
use Rattle.cq_theory.specs.declared.constant.Con.{Con}
use Rattle.cq_theory.specs.declared.presentation.Presentation.{Presentation}
use Rattle.cq_theory.specs.declared.schema.Edge.{Edge}
use Rattle.cq_theory.specs.SchemaData.{SchemaData as Schema}
use Rattle.cq_theory.specs.Schema.{IsSchema}
use Rattle.cq_theory.specs.Presentation.{IsPresentation}
use Rattle.cq_theory.specs.declared.term.EntTerm.{EntTerm}
use Rattle.cq_theory.specs.Closing.{IsInconsistentAt}
use Rattle.cq_theory.specs.Sorts.{followed, target_of, entity_at, entity_of}
use Rattle.cq_theory.specs.Tables.{Tables, Assignment, count_of}
use Rattle.cq_theory.specs.Listed.{Lists}
use Rattle.cq_theory.proofs.Sound.{followed_some}
use Rattle.cq_instance.proofs.Lists.{All_from}
use Rattle.cq_instance.proofs.TypedTerms.{entity_at_some}
use Rattle.cq_model.proofs.BuiltRows.{counts_are, least_name}
use Rattle.cq_model.proofs.ListedHolds.{well_formed, initial}
use Rattle.cq_model.proofs.ListedNodes.{all_plain, nulls_listed, entries_listed}
use Rattle.cq_model.proofs.ListedClash.{inconsistent_at}
use Rattle.cq_model.proofs.FewArguments.{entries_few}

-- the keys of a path that can be followed exist
keys_within : (keys : List Edge) (path : List ℕ) (start e : ℕ) → target_of keys path start ≡ Some e → (n k : ℕ) → slice_get path n ≡ Some k → k < length keys
keys_within keys [] start e h n k at = let none : slice_get [] n ≡ Some k = at in cc
keys_within keys (j ∷ path) start e h zero k at = option_and_then_some (target_of keys path) (followed (slice_get keys j) start) e h (λ middle first rest.
    let edge = followed_some (slice_get keys j) start middle first in
    let same : j ≡ k = cc in
    subst (λ i. i < length keys) same (slice_get_within keys j edge.0 edge.1))
keys_within keys (j ∷ path) start e h (suc n) k at = option_and_then_some (target_of keys path) (followed (slice_get keys j) start) e h (λ middle first rest. keys_within keys path middle e rest n k at)

module _ (S : Schema) (P : Presentation) (m : Content) (rows : List ℕ) (schema : IsSchema S) (presentation : IsPresentation S P) (closed : AreClosed S P m rows)
    (order : List (List ℕ)) (names : List (List EntTerm)) (numbers : List ℕ) (places : Places) (nodes : List Node) (equations : List (ℕ × ℕ)) (types : List ℕ)
    (built : IsBuilt S P m rows order names numbers places nodes equations types)
    (flat : Closure) (closure : IsClosureOf nodes equations flat) where
  abbrev M : Tables
  M = tables_of S P m rows order numbers places types flat

  abbrev A : Assignment
  A = assignment_of S P m rows order numbers places flat.values

  counted : (e : ℕ) → length (terms_at names e) ≡ count_of M e
  counted e = built.numbered.counted e ∙ sym (counts_are S P m rows schema presentation closed order names numbers built.numbered places types flat e)

  pub listed : flat.clash ≡ None → (lists : Lists S P M A) × (lists.names ≡ names)
  listed consistent = (
    record {
      initial = initial S P m rows schema presentation closed order names numbers places nodes equations types built flat closure consistent;
      names = names;
      entities = built.numbered.names_entities;
      named = least_name S P m rows schema presentation closed order names numbers built.numbered places types flat;
      counted = counted;
      ordered = built.numbered.ordered;
      plain = all_plain S P m rows schema presentation closed order names numbers places nodes equations types built flat closure consistent;
      nulls = nulls_listed S P m rows schema presentation closed order names numbers places nodes equations types built flat closure consistent;
      entries = entries_listed S P m rows schema presentation closed order names numbers places nodes equations types built flat closure consistent;
    },
    refl,
  )

  -- a name is a term over the presentation
  ground_name : (t : EntTerm) (e : ℕ) → entity_of S P.generators t ≡ Some e → IsName (record { schema = S; presentation = P; names = names; tables = M; assignment = A; given = false }) t
  ground_name t e h = option_and_then_some (target_of S.keys t.path) (entity_at (slice_get P.generators t.generator)) e h (λ start first rest.
      let g = entity_at_some (slice_get P.generators t.generator) start first in (
        slice_get_within P.generators t.generator g.0 g.1,
        All_from (λ k. k < length S.keys) t.path (keys_within S.keys t.path start e rest),
      ))

  name_ground : (e n : ℕ) (ts : List EntTerm) (t : EntTerm) → slice_get names e ≡ Some ts → slice_get ts n ≡ Some t → IsName (record { schema = S; presentation = P; names = names; tables = M; assignment = A; given = false }) t
  name_ground e n ts t found at =
      let here : terms_at names e ≡ ts = get_or_from_slice_get names e ts [] found in
      let named : slice_get (terms_at names e) n ≡ Some t = ap (λ l. slice_get l n) here ∙ at in
      let within : n < length (rows_at order e) = omega (arith, slice_get_within (terms_at names e) n t named, built.numbered.counted e) in
      let r : ℕ = get_or (rows_at order e) n 0 in
      let least = built.numbered.named e n r t (slice_get-get_or (rows_at order e) n 0 within) named in
      ground_name t _ least.entity

  -- the name of a row means the row
  meant_there : ((lists : Lists S P M A) × (lists.names ≡ names)) → (e row : ℕ) → row < count_of M e
      → IsNameOf (record { schema = S; presentation = P; names = names; tables = M; assignment = A; given = false }) e row (name_at names e row)
  meant_there listed e row inside =
      let t = listed.0.named e row inside in
      let here : name_at names e row ≡ t.0 = ap (λ (N : List (List EntTerm)). name_at N e row) (sym listed.1) ∙ get_or_from_slice_get (slice_index_or listed.0.names e []) row t.0 (record { generator = 0; path = [] }) t.1 in
      subst (IsNameOf (record { schema = S; presentation = P; names = names; tables = M; assignment = A; given = false }) e row) (sym here) (record { of_entity = t.2.of_entity; of_row = t.2.of_row })

  pub is_instance : flat.clash ≡ None → IsInstance (record { schema = S; presentation = P; names = names; tables = M; assignment = A; given = false })
  is_instance consistent = record {
    presented = presentation;
    well_formed = well_formed S P m rows schema presentation closed order names numbers places nodes equations types built flat closure consistent;
    satisfies = (listed consistent).0.initial.holds.schema;
    entries_fit = entries_few S P schema presentation M A (listed consistent).0;
    entities = built.numbered.names_entities;
    counted = counted;
    assigned = (listed consistent).0.initial.holds.count;
    sorts = (listed consistent).0.initial.holds.sorts;
    meant = λ e row inside. meant_there (listed consistent) e row inside;
    canonical_where_given = λ h. let none : false ≡ true = h in cc;
    named = All_from (λ ts. All (IsName (record { schema = S; presentation = P; names = names; tables = M; assignment = A; given = false })) ts) names (λ e ts found.
        All_from (IsName (record { schema = S; presentation = P; names = names; tables = M; assignment = A; given = false })) ts (λ n t at. name_ground e n ts t found at));
  }

  pub inconsistent : (c d : Con) → flat.clash ≡ Some (c, d) → IsInconsistentAt S P c d
  inconsistent c d clash = inconsistent_at S P m rows schema presentation closed order names numbers places nodes equations types built flat closure c d clash
