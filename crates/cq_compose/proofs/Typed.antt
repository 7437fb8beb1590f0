-- Induction over the terms that have a type.
use Rattle.std.proofs.Common.{ℕ, zero, suc, true, List, [], ◌∷◌, Option, Some, ◌≡◌, map, refl, sym, ap, ◌∙◌}
use Rattle.std.specs.Prelude.{slice_get}
use Rattle.std.proofs.lemmas.Option.{option_and_then_some}
use Rattle.cq_theory.specs.SchemaData.{SchemaData as Schema}
use Rattle.cq_theory.specs.declared.constant.Con.{Con}
use Rattle.cq_theory.specs.declared.schema.Edge.{Edge}
use Rattle.cq_theory.specs.declared.presentation.Presentation.{Presentation}
use Rattle.cq_theory.specs.declared.term.EntTerm.{EntTerm}
use Rattle.cq_theory.specs.declared.term.TypeTerm.{TypeTerm}
use Rattle.cq_theory.specs.declared.term.TypeTerm.TheVariants.{Gen, Const, Att, Fun}
use Rattle.cq_theory.specs.declared.term.Term.TheVariants.{Typ}
use Rattle.cq_theory.specs.Schema.{one_of}
use Rattle.cq_theory.specs.Sorts.{Generators, followed, entity_at, type_at, entity_of, is_type, have_types, type_of, type_step}
use Rattle.cq_theory.specs.Derivation.{Derives, EachDerives}
use Rattle.cq_theory.proofs.TypeTerms.{fold-Gen, fold-Att, fold-Fun, Each, on_terms}
use Rattle.cq_theory.proofs.Sound.{followed_some, both, is_type_some, applied_type_some}

-- the one variable of an equation is of its entity, and of no type
pub no_variable : (e n type : ℕ) → type_at (slice_get (one_of e) n) ≡ Some type → ⊥
no_variable e zero type h = cc
no_variable e (suc n) type h = cc

pub variable_is : (e n start : ℕ) → entity_at (slice_get (one_of e) n) ≡ Some start → e ≡ start
variable_is e zero start h = cc
variable_is e (suc n) start h = cc

module _ (S : Schema) (G : Generators) (R : TypeTerm → Type 0)
    (on_gen : (n type : ℕ) → type_at (slice_get G n) ≡ Some type → R (Gen n))
    (on_const : (c : Con) (type : ℕ) → type_of S G (Const c) ≡ Some type → R (Const c))
    (on_att : (a : ℕ) (t : EntTerm) (edge : Edge) → slice_get S.attributes a ≡ Some edge → entity_of S G t ≡ Some edge.from → type_of S G (Att a t) ≡ Some edge.to → R (Att a t))
    (on_fun : (f : ℕ) (ts : List TypeTerm) (type : ℕ) → type_of S G (Fun f ts) ≡ Some type → Each R ts → R (Fun f ts)) where
  abbrev IfTyped : TypeTerm → Type 0
  IfTyped t = (type : ℕ) → type_of S G t ≡ Some type → R t

  all_typed : (ts : List TypeTerm) (types : List ℕ) → have_types (map (type_of S G) ts) types ≡ true → Each IfTyped ts → Each R ts
  all_typed [] types h each = tt
  all_typed (t ∷ ts) [] h each = cc
  all_typed (t ∷ ts) (type ∷ types) h each =
      let parts = both (is_type (type_of S G t) type) (have_types (map (type_of S G) ts) types) h in
      (each.0 type (is_type_some (type_of S G t) type parts.0), all_typed ts types parts.1 each.1)

  -- what holds of each term that has a type
  pub on_typed : (t : TypeTerm) → IfTyped t
  on_typed = on_terms IfTyped
      (λ n type h. on_gen n type (sym (fold-Gen (Option ℕ) (type_step S G) n) ∙ h))
      (λ c type h. on_const c type h)
      (λ a t type h. option_and_then_some (followed (slice_get S.attributes a)) (entity_of S G t) type (sym (fold-Att (Option ℕ) (type_step S G) a t) ∙ h) (λ e led last.
      let edge = followed_some (slice_get S.attributes a) e type last in
      on_att a t edge.0 edge.1 (led ∙ ap (λ n. Some n) (sym edge.2)) (h ∙ ap (λ n. Some n) (sym edge.3))))
      (λ f ts each type h.
      let f' = applied_type_some (slice_get S.typeside.functions f) (map (type_of S G) ts) type (sym (fold-Fun (Option ℕ) (type_step S G) f ts) ∙ h) in
      on_fun f ts type h (all_typed ts f'.0.args f'.2 each))

-- terms of a list that are sent to the same
pub each_same : (f g : TypeTerm → TypeTerm) (ts : List TypeTerm) → Each (λ t. f t ≡ g t) ts → map f ts ≡ map g ts
each_same f g [] each = refl
each_same f g (t ∷ ts) each =
    let first : f t ≡ g t = each.0 in
    let rest = each_same f g ts each.1 in
    λ i. first i ∷ rest i

pub each_twice : (f g h : TypeTerm → TypeTerm) (ts : List TypeTerm) → Each (λ t. f (g t) ≡ h t) ts → map f (map g ts) ≡ map h ts
each_twice f g h [] each = refl
each_twice f g h (t ∷ ts) each =
    let first : f (g t) ≡ h t = each.0 in
    let rest = each_twice f g h ts each.1 in
    λ i. first i ∷ rest i

pub each_apart : (f g h : TypeTerm → TypeTerm) (ts : List TypeTerm) → Each (λ t. f t ≡ g (h t)) ts → map f ts ≡ map g (map h ts)
each_apart f g h [] each = refl
each_apart f g h (t ∷ ts) each =
    let first : f t ≡ g (h t) = each.0 in
    let rest = each_apart f g h ts each.1 in
    λ i. first i ∷ rest i

pub each_across : (f g h k : TypeTerm → TypeTerm) (ts : List TypeTerm) → Each (λ t. f (g t) ≡ h (k t)) ts → map f (map g ts) ≡ map h (map k ts)
each_across f g h k [] each = refl
each_across f g h k (t ∷ ts) each =
    let first : f (g t) ≡ h (k t) = each.0 in
    let rest = each_across f g h k ts each.1 in
    λ i. first i ∷ rest i

-- terms of a list that are sent to derivably equal terms
pub each_derives : (S : Schema) (P : Presentation) (f g : TypeTerm → TypeTerm) (ts : List TypeTerm) → Each (λ t. Derives S P (Typ (f t)) (Typ (g t))) ts
    → EachDerives S P (map f ts) (map g ts)
each_derives S P f g [] each = tt
each_derives S P f g (t ∷ ts) each = (each.0, each_derives S P f g ts each.1)
