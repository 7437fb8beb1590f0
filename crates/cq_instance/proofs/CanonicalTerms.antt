-- Values as terms over the canonical generators: their types, their symbols, and what they mean.
use Rattle.std.proofs.Common.{ℕ, true, List, [], ◌∷◌, Option, Some, ◌≡◌, ◌+◌, map, length, sum, refl, sym, ap, ◌∙◌, arith}
use Rattle.std.specs.Prelude.{slice_get, All}
use Rattle.std.proofs.lemmas.Bool.{and_parts}
use Rattle.std.proofs.lemmas.Option.{slice_get_within}
use Rattle.std.proofs.lemmas.List.Sums.{sum_by-cons}
use Rattle.std.proofs.lemmas.List.Elements.{All-head, All-tail}
use Rattle.cq_theory.specs.SchemaData.{SchemaData as Schema}
use Rattle.cq_theory.specs.declared.term.TypeTerm.{TypeTerm}
use Rattle.cq_theory.specs.declared.value.Value.{Value}
use Rattle.cq_theory.specs.declared.value.Value.TheVariants.{Const, Null, Fun}
use Rattle.cq_theory.specs.TypeTerm as typ
use Rattle.cq_theory.specs.Value as val
use Rattle.cq_theory.specs.Sorts.{Generators, is_type, have_types, applied_type, type_of, type_step}
use Rattle.cq_theory.specs.Tables.{Tables, Assignment, value_in, value_of, value_step, applied, value_type, value_type_step, normal_of, normal_step, IsPlain}
use Rattle.cq_theory.specs.Canonical.{null_generator, value_term, value_term_step, canonical, canonical_assignment}
use Rattle.cq_theory.proofs.TypeTerms.{fold-Gen, fold-Const, fold-Fun}
use Rattle.cq_theory.proofs.Values as values
use Rattle.cq_theory.proofs.OnValues.{Each, on_values}
use Rattle.cq_theory.proofs.Sound.{is_type_some, applied_type_some}
use Rattle.cq_instance.proofs.CanonicalGenerators as generators

-- two functions that agree at each value of a list
pub map_each : {X : Type 0} (f g : Value → X) (vs : List Value) → Each (λ v. f v ≡ g v) vs → map f vs ≡ map g vs
map_each f g [] each = refl
map_each f g (v ∷ vs) each =
    let first = each.0 in
    let rest : map f vs ≡ map g vs = map_each f g vs each.1 in
    λ i. first i ∷ rest i

map_twice : {X : Type 0} (f : TypeTerm → X) (g : Value → TypeTerm) (vs : List Value) → map f (map g vs) ≡ map (λ v. f (g v)) vs
map_twice f g [] = refl
map_twice f g (v ∷ vs) = ap (λ l. f (g v) ∷ l) (map_twice f g vs)

pub plain_normal : (M : Tables) (v : Value) → IsPlain v → normal_of M v ≡ v
plain_normal M (Const c) h = values.fold-Const Value (normal_step M) c
plain_normal M (Null n) h = values.fold-Null Value (normal_step M) n
plain_normal M _ h = absurd h

plain_symbols : (v : Value) → IsPlain v → val.symbols_of v ≡ 1
plain_symbols (Const c) h = values.fold-Const ℕ val.symbols_step c
plain_symbols (Null n) h = values.fold-Null ℕ val.symbols_step n
plain_symbols _ h = absurd h

pub all_plain_normal : (M : Tables) (vs : List Value) → All IsPlain vs → map (normal_of M) vs ≡ vs
all_plain_normal M [] h = refl
all_plain_normal M (v ∷ vs) h =
    let first : normal_of M v ≡ v = plain_normal M v (All-head IsPlain v vs h) in
    let rest : map (normal_of M) vs ≡ vs = all_plain_normal M vs (All-tail IsPlain v vs h) in
    λ i. first i ∷ rest i

module _ (S : Schema) (M : Tables) (same : length M.sheet.counts ≡ length S.entities) where
  abbrev nulls : List ℕ
  nulls = M.algebra.nulls

  abbrev G : Generators
  G = (canonical S M).generators

  abbrev A : Assignment
  A = canonical_assignment S M

  abbrev as_term : Value → TypeTerm
  as_term = value_term S M

  abbrev type_in : Value → Option ℕ
  type_in = value_type S nulls

  -- a value as a term has the type of the value
  pub value_term_type : (v : Value) → type_of S G (as_term v) ≡ type_in v
  value_term_type = on_values (λ v. type_of S G (as_term v) ≡ type_in v)
      (λ c.
      ap (type_of S G) (values.fold-Const TypeTerm (value_term_step S M) c) ∙ fold-Const (Option ℕ) (type_step S G) c ∙ sym (values.fold-Const (Option ℕ) (value_type_step S nulls) c))
      (λ n.
      ap (type_of S G) (values.fold-Null TypeTerm (value_term_step S M) n) ∙ fold-Gen (Option ℕ) (type_step S G) (null_generator S M n) ∙ generators.null_type S M same n
      ∙ sym (values.fold-Null (Option ℕ) (value_type_step S nulls) n))
      (λ f vs each.
      ap (type_of S G) (values.fold-Fun TypeTerm (value_term_step S M) f vs) ∙ fold-Fun (Option ℕ) (type_step S G) f (map as_term vs)
      ∙ ap (applied_type (slice_get S.typeside.functions f)) (map_twice (type_of S G) as_term vs ∙ map_each (λ v. type_of S G (as_term v)) type_in vs each)
      ∙ sym (values.fold-Fun (Option ℕ) (value_type_step S nulls) f vs))

  pub value_terms_type : (vs : List Value) → map (type_of S G) (map as_term vs) ≡ map type_in vs
  value_terms_type [] = refl
  value_terms_type (v ∷ vs) =
      let first : type_of S G (as_term v) ≡ type_in v = value_term_type v in
      let rest : map (type_of S G) (map as_term vs) ≡ map type_in vs = value_terms_type vs in
      λ i. first i ∷ rest i

  -- and as many symbols
  pub value_term_symbols : (v : Value) → typ.symbols_of (as_term v) ≡ val.symbols_of v
  value_term_symbols = on_values (λ v. typ.symbols_of (as_term v) ≡ val.symbols_of v)
      (λ c. ap typ.symbols_of (values.fold-Const TypeTerm (value_term_step S M) c) ∙ fold-Const ℕ typ.symbols_step c ∙ sym (values.fold-Const ℕ val.symbols_step c))
      (λ n. ap typ.symbols_of (values.fold-Null TypeTerm (value_term_step S M) n) ∙ fold-Gen ℕ typ.symbols_step (null_generator S M n) ∙ sym (values.fold-Null ℕ val.symbols_step n))
      (λ f vs each.
      ap typ.symbols_of (values.fold-Fun TypeTerm (value_term_step S M) f vs) ∙ fold-Fun ℕ typ.symbols_step f (map as_term vs)
      ∙ ap (λ counts. sum counts + 1) (map_twice typ.symbols_of as_term vs ∙ map_each (λ v. typ.symbols_of (as_term v)) val.symbols_of vs each)
      ∙ sym (values.fold-Fun ℕ val.symbols_step f vs))

  pub plain_term_symbols : (v : Value) → IsPlain v → typ.symbols_of (as_term v) ≡ 1
  plain_term_symbols v h = value_term_symbols v ∙ plain_symbols v h

  pub plain_terms_symbols : (vs : List Value) → All IsPlain vs → sum (map typ.symbols_of (map as_term vs)) ≡ length vs
  plain_terms_symbols [] h = refl
  plain_terms_symbols (v ∷ vs) h =
      omega (arith, sum_by-cons (λ m. m) (typ.symbols_of (as_term v)) (map typ.symbols_of (map as_term vs)), plain_term_symbols v (All-head IsPlain v vs h), plain_terms_symbols vs (All-tail IsPlain v vs h))

  -- a value that has a type means itself as a term, with its functions applied anew
  abbrev IsMeant : Value → Type 0
  IsMeant v = (type : ℕ) → type_in v ≡ Some type → value_of M A (as_term v) ≡ normal_of M v

  all_meant : (vs : List Value) (types : List ℕ) → Each IsMeant vs → have_types (map type_in vs) types ≡ true → map (value_of M A) (map as_term vs) ≡ map (normal_of M) vs
  all_meant [] types each h = refl
  all_meant (v ∷ vs) [] each h = cc
  all_meant (v ∷ vs) (type ∷ types) each h =
      let parts = and_parts (is_type (type_in v) type) (have_types (map type_in vs) types) h in
      let first : value_of M A (as_term v) ≡ normal_of M v = each.0 type (is_type_some (type_in v) type parts.0) in
      let rest : map (value_of M A) (map as_term vs) ≡ map (normal_of M) vs = all_meant vs types each.1 parts.1 in
      λ i. first i ∷ rest i

  args_meant : (f type : ℕ) (vs : List Value) → Each IsMeant vs → type_in (Fun f vs) ≡ Some type → map (value_of M A) (map as_term vs) ≡ map (normal_of M) vs
  args_meant f type vs each h =
      let parts = applied_type_some (slice_get S.typeside.functions f) (map type_in vs) type (sym (values.fold-Fun (Option ℕ) (value_type_step S nulls) f vs) ∙ h) in
      all_meant vs parts.0.args each parts.2

  pub value_term_value : (v : Value) → IsMeant v
  value_term_value = on_values IsMeant
      (λ c type h. ap (value_of M A) (values.fold-Const TypeTerm (value_term_step S M) c) ∙ fold-Const Value (value_step M A) c ∙ sym (values.fold-Const Value (normal_step M) c))
      (λ n type h.
      let typed : slice_get nulls n ≡ Some type = sym (values.fold-Null (Option ℕ) (value_type_step S nulls) n) ∙ h in
      ap (value_of M A) (values.fold-Null TypeTerm (value_term_step S M) n) ∙ fold-Gen Value (value_step M A) (null_generator S M n)
      ∙ ap value_in (generators.null_stands S M same n (slice_get_within nulls n type typed)) ∙ sym (values.fold-Null Value (normal_step M) n))
      (λ f vs each type h.
      ap (value_of M A) (values.fold-Fun TypeTerm (value_term_step S M) f vs) ∙ fold-Fun Value (value_step M A) f (map as_term vs)
      ∙ ap (applied M f) (args_meant f type vs each h) ∙ sym (values.fold-Fun Value (normal_step M) f vs))

  each_meant : (vs : List Value) → Each IsMeant vs
  each_meant [] = tt
  each_meant (v ∷ vs) = (value_term_value v, each_meant vs)

  pub value_terms_value : (f type : ℕ) (vs : List Value) → type_in (Fun f vs) ≡ Some type → map (value_of M A) (map as_term vs) ≡ map (normal_of M) vs
  value_terms_value f type vs h = args_meant f type vs (each_meant vs) h
