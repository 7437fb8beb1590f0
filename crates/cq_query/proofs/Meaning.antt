-- What terms mean in which other terms stand for the generators.
use Rattle.std.proofs.Common.{ℕ, zero, suc, true, List, [], ◌∷◌, Option, Some, ◌≡◌, map, length, sym, ap, ◌∙◌}
use Rattle.std.specs.Prelude.{slice_get, slice_index_or}
use Rattle.std.proofs.lemmas.Option.{option_and_then_some}
use Rattle.cq_theory.specs.declared.presentation.Equation.{Equation}
use Rattle.cq_theory.specs.declared.presentation.Equation.TheVariants.{Ent as EntEquation, Typ as TypEquation}
use Rattle.cq_theory.specs.declared.term.EntTerm.{EntTerm}
use Rattle.cq_theory.specs.declared.term.TypeTerm.{TypeTerm}
use Rattle.cq_theory.specs.declared.term.TypeTerm.TheOpen as layer
use Rattle.cq_theory.specs.declared.value.Value.{Value}
use Rattle.cq_theory.specs.EntTerm.{extended}
use Rattle.cq_theory.specs.Sorts.{followed, target_of, entity_at, entity_of, is_type, have_types, type_of, type_step}
use Rattle.cq_theory.specs.Derivation.{left_of, right_of}
use Rattle.cq_theory.specs.Tables.{Tables, AtRow, AtValue, Assignment, row_in, value_in, cell_at, row_from, row_of, value_of, value_step, meaning_of, applied}
use Rattle.cq_theory.proofs.TypeTerms.{fold-Gen, fold-Const, fold-Att, fold-Fun, Each, on_terms}
use Rattle.cq_theory.proofs.Sound.{row_from-append, both, is_type_some, applied_type_some}
use Rattle.cq_theory.proofs.ResolvedSorts.{map_some}
use Rattle.cq_theory.specs.declared.presentation.Sort.TheVariants.{Plain, Entity}
use Rattle.cq_query.specs.QueryData.{QueryData as Query}
use Rattle.cq_query.specs.Puts.{term_or_first, put, put_type, put_type_step, put_equation}
use Rattle.cq_query.specs.Translation.{variables_at}
use Rattle.cq_query.specs.Answers.{stands}
use Rattle.cq_query.proofs.Standing.{HasOneSort, generators_at, variable_at, no_type_at, within_length}

-- Terms that stand for a row of a target entity are read at an assignment: a term on them means what it means at the rows that they name.
module _ (Q : Query) (M : Tables) (A : Assignment) (terms : List EntTerm) (entity : ℕ) (count : length terms ≡ length (variables_at Q entity)) where
  abbrev named : Assignment
  named = stands Q M (map (row_of M A) terms)

  standing_row : (ts : List EntTerm) (n : ℕ) (u : EntTerm) → slice_get ts n ≡ Some u → slice_index_or (map AtRow (map (row_of M A) ts)) n (AtRow 0) ≡ AtRow (row_of M A u)
  standing_row [] n u h = cc
  standing_row (t ∷ ts) zero u h = let same : t ≡ u = cc in ap (λ v. AtRow (row_of M A v)) same
  standing_row (t ∷ ts) (suc n) u h = standing_row ts n u h

  pub put_row : (t : EntTerm) (e : ℕ) → entity_of Q.source (generators_at Q entity) t ≡ Some e → row_of M A (put terms t) ≡ row_of M named t
  put_row t e h = option_and_then_some (target_of Q.source.keys t.path) (entity_at (slice_get (generators_at Q entity) t.generator)) e h (λ start first rest.
      let v = variable_at Q entity t.generator start first in
      let u = within_length terms (variables_at Q entity) t.generator v.0 v.1 count in
      ap (λ o. row_of M A (extended (term_or_first o) t.path)) u.1
      ∙ row_from-append M (row_in (slice_index_or A u.0.generator (AtRow 0))) u.0.path t.path
      ∙ ap (λ m. row_from M (row_in m) t.path) (sym (standing_row terms t.generator u.0 u.1)))

  abbrev IsPut : TypeTerm → Type 0
  IsPut t = (type : ℕ) → type_of Q.source (generators_at Q entity) t ≡ Some type → value_of M A (put_type terms t) ≡ value_of M named t

  args_put : (ts : List TypeTerm) (types : List ℕ) → have_types (map (type_of Q.source (generators_at Q entity)) ts) types ≡ true → Each IsPut ts
      → map (value_of M A) (map (put_type terms) ts) ≡ map (value_of M named) ts
  args_put [] types h each = λ i. []
  args_put (t ∷ ts) [] h each = cc
  args_put (t ∷ ts) (type ∷ types) h each =
      let parts : (is_type (type_of Q.source (generators_at Q entity) t) type ≡ true) × (have_types (map (type_of Q.source (generators_at Q entity)) ts) types ≡ true) = both _ _ h in
      let first : value_of M A (put_type terms t) ≡ value_of M named t = each.0 type (is_type_some (type_of Q.source (generators_at Q entity) t) type parts.0) in
      let rest : map (value_of M A) (map (put_type terms) ts) ≡ map (value_of M named) ts = args_put ts types parts.1 each.1 in
      λ i. first i ∷ rest i

  pub put_value : (t : TypeTerm) → IsPut t
  put_value = on_terms IsPut
      (λ n type h. absurd (no_type_at Q entity n type (sym (fold-Gen (Option ℕ) (type_step Q.source (generators_at Q entity)) n) ∙ h)))
      (λ c type h. ap (value_of M A) (fold-Const TypeTerm (put_type_step terms) c) ∙ fold-Const Value (value_step M A) c ∙ sym (fold-Const Value (value_step M named) c))
      (λ a t type h.
      let looked_up : type_step Q.source (generators_at Q entity) (layer.Att a t) ≡ Some type = sym (fold-Att (Option ℕ) (type_step Q.source (generators_at Q entity)) a t) ∙ h in
      option_and_then_some (followed (slice_get Q.source.attributes a)) (entity_of Q.source (generators_at Q entity) t) type looked_up (λ target led last.
      ap (value_of M A) (fold-Att TypeTerm (put_type_step terms) a t) ∙ fold-Att Value (value_step M A) a (put terms t)
      ∙ ap (cell_at M a) (put_row t target led) ∙ sym (fold-Att Value (value_step M named) a t)))
      (λ f ts each type h.
      let looked_up : type_step Q.source (generators_at Q entity) (layer.Fun f (map (type_of Q.source (generators_at Q entity)) ts)) ≡ Some type = sym (fold-Fun (Option ℕ) (type_step Q.source (generators_at Q entity)) f ts) ∙ h in
      let f' = applied_type_some (slice_get Q.source.typeside.functions f) (map (type_of Q.source (generators_at Q entity)) ts) type looked_up in
      ap (value_of M A) (fold-Fun TypeTerm (put_type_step terms) f ts) ∙ fold-Fun Value (value_step M A) f (map (put_type terms) ts)
      ∙ ap (applied M f) (args_put ts f'.0.args f'.2 each) ∙ sym (fold-Fun Value (value_step M named) f ts))

  -- an equation holds at the rows where the equation that is put holds
  pub put_holds : (e : Equation) → HasOneSort Q (generators_at Q entity) e → meaning_of M A (left_of (put_equation terms e)) ≡ meaning_of M A (right_of (put_equation terms e))
      → meaning_of M named (left_of e) ≡ meaning_of M named (right_of e)
  put_holds (EntEquation t u) h equal =
      let left = map_some Entity (entity_of Q.source (generators_at Q entity) t) h.0 h.1 in
      let right = map_some Entity (entity_of Q.source (generators_at Q entity) u) h.0 h.2 in
      ap AtRow (sym (put_row t left.0 left.1) ∙ ap row_in equal ∙ put_row u right.0 right.1)
  put_holds (TypEquation t u) h equal =
      let left = map_some Plain (type_of Q.source (generators_at Q entity) t) h.0 h.1 in
      let right = map_some Plain (type_of Q.source (generators_at Q entity) u) h.0 h.2 in
      ap AtValue (sym (put_value t left.0 left.1) ∙ ap value_in equal ∙ put_value u right.0 right.1)
