-- Terms whose generators stand behind others have the sorts that they had.
use Rattle.std.proofs.Common.{ℕ, Bool, true, List, [], ◌∷◌, Option, Some, None, ◌≡◌, ◌+◌, ◌&&◌, if◌then◌else◌, map, refl, sym, ap, ◌∙◌, arith}
use Rattle.std.specs.Prelude.{slice_get, option_and_then, option_map}
use Rattle.std.proofs.lemmas.Option.{option_and_then_some}
use Rattle.cq_base.specs.declared.name.Name.{Name}
use Rattle.cq_theory.specs.declared.presentation.Sort.{Sort}
use Rattle.cq_theory.specs.declared.presentation.Sort.TheVariants.{Plain, Entity}
use Rattle.cq_theory.specs.declared.presentation.Equation.{Equation}
use Rattle.cq_theory.specs.declared.presentation.Equation.TheVariants as equation
use Rattle.cq_theory.specs.declared.term.EntTerm.{EntTerm}
use Rattle.cq_theory.specs.declared.term.TypeTerm.{TypeTerm}
use Rattle.cq_theory.specs.declared.term.TypeTerm.TheVariants as term
use Rattle.cq_theory.specs.declared.term.Term.{Term}
use Rattle.cq_theory.specs.declared.term.Term.TheVariants.{Ent, Typ}
use Rattle.cq_theory.specs.SchemaData.{SchemaData as Schema}
use Rattle.cq_theory.specs.Sorts.{Generators, followed, target_of, entity_at, type_at, entity_of, is_type, have_types, applied_type, type_of, type_step, sort_of}
use Rattle.cq_theory.proofs.TypeTerms.{fold-Gen, fold-Const, fold-Att, fold-Fun, Each, on_terms}
use Rattle.cq_theory.proofs.Sound.{both, is_type_some, applied_type_some}
use Rattle.cq_theory.proofs.ResolvedSorts.{map_some}
use Rattle.cq_transform.proofs.Normal.{type_at_some, entity_at_some}
use Rattle.cq_transform.specs.Shifted.{shifted_ent, shifted_type, shifted_type_step, shifted_term, shifted_equation}
use Rattle.cq_push.specs.Sorted.{HasOneSort}

entity_of_sort : (g : Name × Sort) (e : ℕ) → g.1 ≡ Entity e → entity_at (Some g) ≡ Some e
entity_of_sort g e is = ap (λ (sort : Sort). entity_at (Some (g.0, sort))) is

type_of_sort : (g : Name × Sort) (n : ℕ) → g.1 ≡ Plain n → type_at (Some g) ≡ Some n
type_of_sort g n is = ap (λ (sort : Sort). type_at (Some (g.0, sort))) is

-- no generator before
each_itself : (ts : List TypeTerm) → Each (λ t. shifted_type 0 t ≡ t) ts → map (shifted_type 0) ts ≡ ts
each_itself [] each = refl
each_itself (t ∷ ts) each = λ i. each.0 i ∷ each_itself ts each.1 i

pub ent_itself : (t : EntTerm) → shifted_ent 0 t ≡ t
ent_itself t = let same : 0 + t.generator ≡ t.generator = omega arith in λ i. record { generator = same i; path = t.path }

pub type_itself : (t : TypeTerm) → shifted_type 0 t ≡ t
type_itself = on_terms (λ t. shifted_type 0 t ≡ t)
    (λ n. let same : 0 + n ≡ n = omega arith in fold-Gen TypeTerm (shifted_type_step 0) n ∙ ap term.Gen same)
    (λ c. fold-Const TypeTerm (shifted_type_step 0) c)
    (λ a t. fold-Att TypeTerm (shifted_type_step 0) a t ∙ ap (term.Att a) (ent_itself t))
    (λ f ts each. fold-Fun TypeTerm (shifted_type_step 0) f ts ∙ ap (term.Fun f) (each_itself ts each))

pub term_itself : (t : Term) → shifted_term 0 t ≡ t
term_itself (Ent t) = ap Ent (ent_itself t)
term_itself (Typ t) = ap Typ (type_itself t)

-- the generators of H stand in G behind `first` others
abbrev pub AreBehind : ℕ → Generators → Generators → Type 0
AreBehind first H G = (n : ℕ) (g : Name × Sort) → slice_get H n ≡ Some g → (h : Name × Sort) × (slice_get G (first + n) ≡ Some h) × (h.1 ≡ g.1)

module _ (S : Schema) (first : ℕ) (H G : Generators) (behind : AreBehind first H G) where
  ent_keeps : (t : EntTerm) (e : ℕ) → entity_of S H t ≡ Some e → entity_of S G (shifted_ent first t) ≡ Some e
  ent_keeps t e h = option_and_then_some (target_of S.keys t.path) (entity_at (slice_get H t.generator)) e h (λ start found leads.
      let g = entity_at_some (slice_get H t.generator) start found in
      let there = behind t.generator g.0 g.1 in
      let here : entity_at (slice_get G (first + t.generator)) ≡ Some start = ap entity_at there.1 ∙ entity_of_sort there.0 start (there.2 ∙ g.2) in
      ap (option_and_then (target_of S.keys t.path)) here ∙ leads)

  abbrev Keeps : TypeTerm → Type 0
  Keeps t = (type : ℕ) → type_of S H t ≡ Some type → type_of S G (shifted_type first t) ≡ Some type

  args_keep : (ts : List TypeTerm) (types : List ℕ) → have_types (map (type_of S H) ts) types ≡ true → Each Keeps ts → have_types (map (type_of S G) (map (shifted_type first) ts)) types ≡ true
  args_keep [] [] h each = refl
  args_keep [] (type ∷ types) h each = cc
  args_keep (t ∷ ts) [] h each = cc
  args_keep (t ∷ ts) (type ∷ types) h each =
      let parts = both (is_type (type_of S H t) type) (have_types (map (type_of S H) ts) types) h in
      let before : type_of S H t ≡ Some type = is_type_some (type_of S H t) type parts.0 in
      let one : is_type (type_of S G (shifted_type first t)) type ≡ true = ap (λ o. is_type o type) (each.0 type before ∙ sym before) ∙ parts.0 in
      ap (λ b. b && have_types (map (type_of S G) (map (shifted_type first) ts)) types) one ∙ args_keep ts types parts.1 each.1

  type_keeps : (t : TypeTerm) → Keeps t
  type_keeps = on_terms Keeps
      (λ n type h.
      let g = type_at_some (slice_get H n) type (sym (fold-Gen (Option ℕ) (type_step S H) n) ∙ h) in
      let there = behind n g.0 g.1 in
      ap (type_of S G) (fold-Gen TypeTerm (shifted_type_step first) n) ∙ fold-Gen (Option ℕ) (type_step S G) (first + n) ∙ ap type_at there.1
      ∙ type_of_sort there.0 type (there.2 ∙ g.2))
      (λ c type h. ap (type_of S G) (fold-Const TypeTerm (shifted_type_step first) c) ∙ fold-Const (Option ℕ) (type_step S G) c ∙ sym (fold-Const (Option ℕ) (type_step S H) c) ∙ h)
      (λ a t type h.
      option_and_then_some (followed (slice_get S.attributes a)) (entity_of S H t) type (sym (fold-Att (Option ℕ) (type_step S H) a t) ∙ h) (λ e led last.
      ap (type_of S G) (fold-Att TypeTerm (shifted_type_step first) a t) ∙ fold-Att (Option ℕ) (type_step S G) a (shifted_ent first t)
      ∙ ap (option_and_then (followed (slice_get S.attributes a))) (ent_keeps t e led) ∙ last))
      (λ f ts each type h.
      let parts = applied_type_some (slice_get S.typeside.functions f) (map (type_of S H) ts) type (sym (fold-Fun (Option ℕ) (type_step S H) f ts) ∙ h) in
      ap (type_of S G) (fold-Fun TypeTerm (shifted_type_step first) f ts) ∙ fold-Fun (Option ℕ) (type_step S G) f (map (shifted_type first) ts)
      ∙ ap (λ o. applied_type o (map (type_of S G) (map (shifted_type first) ts))) parts.1
      ∙ ap (λ (b : Bool). if b then Some parts.0.result else None) (args_keep ts parts.0.args parts.2 each) ∙ ap (λ n. Some n) parts.3)

  pub term_keeps : (t : Term) (sort : Sort) → sort_of S H t ≡ Some sort → sort_of S G (shifted_term first t) ≡ Some sort
  term_keeps (Ent t) sort h = let found = map_some Entity (entity_of S H t) sort h in ap (option_map Entity) (ent_keeps t found.0 found.1) ∙ ap (λ (s : Sort). Some s) found.2
  term_keeps (Typ t) sort h = let found = map_some Plain (type_of S H t) sort h in ap (option_map Plain) (type_keeps t found.0 found.1) ∙ ap (λ (s : Sort). Some s) found.2

  pub equation_keeps : (e : Equation) → HasOneSort S H e → HasOneSort S G (shifted_equation first e)
  equation_keeps (equation.Ent t u) h = record { sort = h.sort; left = term_keeps (Ent t) h.sort h.left; right = term_keeps (Ent u) h.sort h.right }
  equation_keeps (equation.Typ t u) h = record { sort = h.sort; left = term_keeps (Typ t) h.sort h.left; right = term_keeps (Typ u) h.sort h.right }
