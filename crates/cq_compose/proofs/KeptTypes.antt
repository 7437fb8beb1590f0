-- A type term over a block of the second query, translated to components, has its type.
use Rattle.std.proofs.Common.{ℕ, Bool, true, List, [], ◌∷◌, Option, Some, None, ◌≡◌, ◌&&◌, if◌then◌else◌, map, refl, sym, ap, ◌∙◌}
use Rattle.std.specs.Prelude.{slice_get}
use Rattle.std.proofs.lemmas.Option.{option_and_then_some}
use Rattle.cq_theory.specs.Typeside.{constant_type}
use Rattle.cq_theory.specs.declared.presentation.Presentation.{Presentation}
use Rattle.cq_theory.specs.SchemaData.{SchemaData as Schema}
use Rattle.cq_theory.specs.declared.term.EntTerm.{EntTerm}
use Rattle.cq_theory.specs.declared.term.TypeTerm.{TypeTerm}
use Rattle.cq_theory.specs.Sorts.{followed, entity_of, is_type, have_types, applied_type, type_of, type_step}
use Rattle.cq_theory.proofs.TypeTerms.{fold-Gen, fold-Const, fold-Att, fold-Fun, Each, on_terms}
use Rattle.cq_theory.proofs.Sound.{followed_some, both, is_type_some, applied_type_some}
use Rattle.cq_blocks.specs.declared.block.Block.{Block}
use Rattle.cq_query.specs.QueryData.{QueryData as Query}
use Rattle.cq_query.specs.Translation.{attribute_term}
use Rattle.cq_query.specs.Duties.{frozen}
use Rattle.cq_query.specs.IsQuery.{IsQuery}
use Rattle.cq_query.proofs.Standing.{Stand, no_type_at, put_type_sorted}
use Rattle.cq_compose.specs.Composite.{term_components, translated, translated_step, composite}
use Rattle.cq_compose.proofs.Fitting.{attribute_typed}
use Rattle.cq_compose.proofs.Components.{second_query, term_stand}

module _ (Q : Query) (U : Schema) (blocks : List Block) (query : IsQuery Q) (u : ℕ) where
  abbrev W : Query
  W = second_query Q U blocks

  abbrev There : Presentation
  There = frozen W u

  abbrev Here : Presentation
  Here = frozen (composite Q W) u

  abbrev comps : EntTerm → List EntTerm
  comps = term_components Q W u

  abbrev turned : TypeTerm → TypeTerm
  turned = translated Q W u

  abbrev Keeps : TypeTerm → Type 0
  Keeps t = (type : ℕ) → type_of Q.target There.generators t ≡ Some type → type_of Q.source Here.generators (turned t) ≡ Some type

  all_keep : (ts : List TypeTerm) (types : List ℕ) → have_types (map (type_of Q.target There.generators) ts) types ≡ true → Each Keeps ts
      → have_types (map (type_of Q.source Here.generators) (map turned ts)) types ≡ true
  all_keep [] [] h each = refl
  all_keep [] (type ∷ types) h each = cc
  all_keep (t ∷ ts) [] h each = cc
  all_keep (t ∷ ts) (type ∷ types) h each =
      let parts : (is_type (type_of Q.target There.generators t) type ≡ true) × (have_types (map (type_of Q.target There.generators) ts) types ≡ true) = both _ _ h in
      let before : type_of Q.target There.generators t ≡ Some type = is_type_some (type_of Q.target There.generators t) type parts.0 in
      let after : type_of Q.source Here.generators (turned t) ≡ Some type = each.0 type before in
      let one : is_type (type_of Q.source Here.generators (turned t)) type ≡ true = ap (λ o. is_type o type) (after ∙ sym before) ∙ parts.0 in
      ap (λ b. b && have_types (map (type_of Q.source Here.generators) (map turned ts)) types) one ∙ all_keep ts types parts.1 each.1

  pub keeps : (t : TypeTerm) → Keeps t
  keeps = on_terms Keeps
      (λ n type h. absurd (no_type_at W u n type (sym (fold-Gen (Option ℕ) (type_step Q.target There.generators) n) ∙ h)))
      (λ c type h.
      ap (type_of Q.source Here.generators) (fold-Const TypeTerm (translated_step Q W u) c) ∙ fold-Const (Option ℕ) (type_step Q.source Here.generators) c
      ∙ ap (λ T. constant_type T c) query.typeside
      ∙ sym (fold-Const (Option ℕ) (type_step Q.target There.generators) c) ∙ h)
      (λ a t type h.
      option_and_then_some (followed (slice_get Q.target.attributes a)) (entity_of Q.target There.generators t) type (sym (fold-Att (Option ℕ) (type_step Q.target There.generators) a t) ∙ h) (λ e led last.
      let edge = followed_some (slice_get Q.target.attributes a) e type last in
      let stand : Stand Q Here.generators (comps t) edge.0.from = term_stand Q U blocks query u t edge.0.from (led ∙ ap (λ n. Some n) (sym edge.2)) in
      ap (type_of Q.source Here.generators) (fold-Att TypeTerm (translated_step Q W u) a t)
      ∙ put_type_sorted Q Here.generators (comps t) edge.0.from stand (attribute_term Q a) edge.0.to (attribute_typed Q query a edge.0 edge.1)
      ∙ ap (λ n. Some n) edge.3))
      (λ f ts each type h.
      let f' = applied_type_some (slice_get Q.target.typeside.functions f) (map (type_of Q.target There.generators) ts) type (sym (fold-Fun (Option ℕ) (type_step Q.target There.generators) f ts) ∙ h) in
      let kept : have_types (map (type_of Q.source Here.generators) (map turned ts)) f'.0.args ≡ true = all_keep ts f'.0.args f'.2 each in
      ap (type_of Q.source Here.generators) (fold-Fun TypeTerm (translated_step Q W u) f ts) ∙ fold-Fun (Option ℕ) (type_step Q.source Here.generators) f (map turned ts)
      ∙ ap (λ T. applied_type (slice_get T.functions f) (map (type_of Q.source Here.generators) (map turned ts))) query.typeside
      ∙ ap (λ o. applied_type o (map (type_of Q.source Here.generators) (map turned ts))) f'.1
      ∙ ap (λ (b : Bool). if b then Some f'.0.result else None) kept ∙ ap (λ n. Some n) f'.3)
