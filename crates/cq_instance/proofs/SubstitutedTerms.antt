-- A term in which a row's name stands for the variable means what the term means at the row.
use Rattle.std.proofs.Common.{ℕ, zero, suc, List, [], ◌∷◌, ◌++◌, Some, ◌≡◌, map, refl, sym, ap, ◌∙◌}
use Rattle.std.specs.Prelude.{slice_get, slice_index_or}
use Rattle.std.proofs.lemmas.Option.{option_and_then_some}
use Rattle.cq_theory.specs.SchemaData.{SchemaData as Schema}
use Rattle.cq_theory.specs.Schema.{one_of}
use Rattle.cq_theory.specs.declared.term.EntTerm.{EntTerm}
use Rattle.cq_theory.specs.declared.term.TypeTerm.{TypeTerm}
use Rattle.cq_theory.specs.declared.term.TypeTerm.TheVariants as term
use Rattle.cq_theory.specs.declared.value.Value.{Value}
use Rattle.cq_theory.specs.EntTerm.{extended}
use Rattle.cq_theory.specs.TypeTerm.{substituted, substituted_step}
use Rattle.cq_theory.specs.Sorts.{target_of, entity_at, type_at, type_of}
use Rattle.cq_theory.specs.Tables.{Tables, AtRow, Assignment, row_in, key_at, cell_at, row_from, row_of, value_of, value_step, applied}
use Rattle.cq_theory.proofs.TypeTerms.{fold-Const, fold-Att, fold-Fun, Each, on_terms}
use Rattle.cq_instance.proofs.TypedTerms.{EachTyped, args_typed, typed_cell, typed_generator}

pub row_from-append : (M : Tables) (row : ℕ) (p q : List ℕ) → row_from M row (p ++ q) ≡ row_from M (row_from M row p) q
row_from-append M row [] q = refl
row_from-append M row (k ∷ p) q = row_from-append M (key_at M k row) p q

no_variable : (e n type : ℕ) → type_at (slice_get (one_of e) n) ≡ Some type → ⊥
no_variable e zero type h = cc
no_variable e (suc n) type h = cc

first_variable : (e n start : ℕ) → entity_at (slice_get (one_of e) n) ≡ Some start → n ≡ 0
first_variable e zero start h = refl
first_variable e (suc n) start h = cc

module _ (S : Schema) (M : Tables) (A : Assignment) (at : EntTerm) (e row : ℕ) (of_row : row_of M A at ≡ row) where
  abbrev here : Assignment
  here = AtRow row ∷ []

  abbrev IsSubstituted : TypeTerm → Type 0
  IsSubstituted t = (type : ℕ) → type_of S (one_of e) t ≡ Some type → value_of M A (substituted at t) ≡ value_of M here t

  args_substituted : (ts : List TypeTerm) → EachTyped S (one_of e) ts → Each IsSubstituted ts → map (value_of M A) (map (substituted at) ts) ≡ map (value_of M here) ts
  args_substituted [] typed each = refl
  args_substituted (t ∷ ts) typed each =
      let first : value_of M A (substituted at t) ≡ value_of M here t = each.0 typed.0.0 typed.0.1 in
      let rest : map (value_of M A) (map (substituted at) ts) ≡ map (value_of M here) ts = args_substituted ts typed.1 each.1 in
      λ i. first i ∷ rest i

  path_substituted : (a : ℕ) (t : EntTerm) (type : ℕ) → type_of S (one_of e) (term.Att a t) ≡ Some type → row_of M A (extended at t.path) ≡ row_of M here t
  path_substituted a t type h =
      let cell = typed_cell S (one_of e) a t type h in
      let zeroth : t.generator ≡ 0 = option_and_then_some (target_of S.keys t.path) (entity_at (slice_get (one_of e) t.generator)) cell.edge.from cell.of_entity (λ start first _.
      first_variable e t.generator start first) in
      row_from-append M (row_in (slice_index_or A at.generator (AtRow 0))) at.path t.path
      ∙ ap (λ r. row_from M r t.path) of_row
      ∙ ap (λ n. row_from M (row_in (slice_index_or here n (AtRow 0))) t.path) (sym zeroth)

  pub value_of-substituted : (t : TypeTerm) → IsSubstituted t
  value_of-substituted = on_terms IsSubstituted
      (λ n type h. absurd (no_variable e n type (typed_generator S (one_of e) n type h)))
      (λ c type h. ap (value_of M A) (fold-Const TypeTerm (substituted_step at) c) ∙ fold-Const Value (value_step M A) c ∙ sym (fold-Const Value (value_step M here) c))
      (λ a t type h. ap (value_of M A) (fold-Att TypeTerm (substituted_step at) a t) ∙ fold-Att Value (value_step M A) a (extended at t.path)
      ∙ ap (cell_at M a) (path_substituted a t type h) ∙ sym (fold-Att Value (value_step M here) a t))
      (λ f ts each type h. ap (value_of M A) (fold-Fun TypeTerm (substituted_step at) f ts) ∙ fold-Fun Value (value_step M A) f (map (substituted at) ts)
      ∙ ap (applied M f) (args_substituted ts (args_typed S (one_of e) f ts type h) each) ∙ sym (fold-Fun Value (value_step M here) f ts))
