-- Values as terms: their types and their symbols.
use Rattle.std.proofs.Common.{ℕ, Bool, true, List, [], ◌∷◌, Option, Some, None, ◌≡◌, ◌<◌, ◌≤◌, ◌+◌, ◌⊎◌, ◌&&◌, inl, inr, map, sum, length, refl, sym, ap, subst, ◌∙◌, arith}
use Rattle.std.specs.Prelude.{slice_get, if◌then◌else◌, All}
use Rattle.std.proofs.lemmas.Bool.{eq-eqb}
use Rattle.cq_theory.specs.declared.constant.Con.{Con}
use Rattle.cq_theory.specs.declared.typeside.Fun.{Fun as Function}
use Rattle.cq_theory.specs.declared.term.TypeTerm.{TypeTerm}
use Rattle.cq_theory.specs.declared.term.TypeTerm.TheVariants as term
use Rattle.cq_theory.specs.declared.value.Value.{Value}
use Rattle.cq_theory.specs.declared.value.Value.TheVariants as value
use Rattle.cq_theory.specs.SchemaData.{SchemaData as Schema}
use Rattle.cq_theory.specs.TypesideData.{TypesideData as Typeside}
use Rattle.cq_theory.specs.Sorts.{Generators, is_type, have_types, applied_type, type_of, type_step}
use Rattle.cq_theory.specs.Typeside.{IsTypeside, constant_type}
use Rattle.cq_theory.specs.TypeTerm as typ
use Rattle.cq_theory.specs.Value as val
use Rattle.cq_theory.proofs.Every.{Every, Every-append, Every-from_All, Every-parts}
use Rattle.cq_theory.proofs.OnValues.{All_at, Each, on_values}
use Rattle.cq_theory.proofs.TypeTerms as terms
use Rattle.cq_theory.proofs.Values as values
use Rattle.cq_values.specs.Readable.{IsReadable, IsWithin, AreWithin, constant, null, application, none, more}
use Rattle.cq_import.specs.Labels.{Use, Labels, function_types, place_of_label, uses_args, uses_in, uses_step, value_term, value_term_step}
use Rattle.cq_import.proofs.LabelPlaces.{Has, AreNamed, place_named}
use Rattle.cq_import.proofs.Uses.{uses_at}

-- a readable value of this type, or a constant of this type
abbrev pub IsMeant : Typeside → ℕ → Value → Type 0
IsMeant T type v = IsReadable T type v ⊎ ((c : Con) × (v ≡ value.Const c) × (constant_type T c ≡ Some type))

-- the uses in a value, by its shape
constant_uses : (T : Typeside) (v : Value) (c : Con) (sort : ℕ) → v ≡ value.Const c → uses_in T v sort ≡ []
constant_uses T v c sort is = ap (λ w. uses_in T w sort) is ∙ ap (λ (g : ℕ → List Use). g sort) (values.fold-Const (ℕ → List Use) (uses_step T) c)

null_uses : (T : Typeside) (v : Value) (label sort : ℕ) → v ≡ value.Null label → uses_in T v sort ≡ (label, sort) ∷ []
null_uses T v label sort is = ap (λ w. uses_in T w sort) is ∙ ap (λ (g : ℕ → List Use). g sort) (values.fold-Null (ℕ → List Use) (uses_step T) label)

application_uses : (T : Typeside) (v : Value) (f sort : ℕ) (function : Function) (args : List Value) → v ≡ value.Fun f args → slice_get T.functions f ≡ Some function
    → uses_in T v sort ≡ uses_args (map (uses_in T) args) function.args
application_uses T v f sort function args is at = uses_at T v f args args function.args sort is refl (sym (ap function_types at))

-- Symbols: as many as those of the value.
module _ (first : ℕ) (labels : Labels) where
  abbrev HasSame : Value → Type 0
  HasSame v = typ.symbols_of (value_term first labels v) ≡ val.symbols_of v

  same_each : (vs : List Value) → Each HasSame vs → map typ.symbols_of (map (value_term first labels) vs) ≡ map val.symbols_of vs
  same_each [] each = refl
  same_each (v ∷ vs) each = (λ i. each.0 i ∷ same_each vs each.1 i)

  pub symbols_same : (v : Value) → HasSame v
  symbols_same = on_values HasSame
      (λ c. ap typ.symbols_of (values.fold-Const TypeTerm (value_term_step first labels) c) ∙ terms.fold-Const ℕ typ.symbols_step c ∙ sym (values.fold-Const ℕ val.symbols_step c))
      (λ n. ap typ.symbols_of (values.fold-Null TypeTerm (value_term_step first labels) n) ∙ terms.fold-Gen ℕ typ.symbols_step (first + place_of_label labels n) ∙ sym (values.fold-Null ℕ val.symbols_step n))
      (λ f vs each.
      ap typ.symbols_of (values.fold-Fun TypeTerm (value_term_step first labels) f vs) ∙ terms.fold-Fun ℕ typ.symbols_step f (map (value_term first labels) vs)
      ∙ ap (λ counts. sum counts + 1) (same_each vs each) ∙ sym (values.fold-Fun ℕ val.symbols_step f vs))

  constant_symbols : (T : Typeside) (v : Value) (c : Con) → v ≡ value.Const c → val.symbols_of v ≡ 1
  constant_symbols T v c is = ap val.symbols_of is ∙ values.fold-Const ℕ val.symbols_step c

  pub meant_symbols : (T : Typeside) (type : ℕ) (v : Value) → IsMeant T type v → typ.symbols_of (value_term first labels v) ≤ 1024
  meant_symbols T type v (inl readable) = let same = symbols_same v in omega (arith, same, readable.symbols)
  meant_symbols T type v (inr (c, is, typing)) = let same = symbols_same v in let one = constant_symbols T v c is in omega (arith, same, one)

-- Types: that of the value, where each label in it has the type of its place.
module _ (S : Schema) (G : Generators) (first : ℕ) (labels : Labels) (named : AreNamed G first labels) where
  constant_typed : (v : Value) (c : Con) (sort : ℕ) → v ≡ value.Const c → constant_type S.typeside c ≡ Some sort → type_of S G (value_term first labels v) ≡ Some sort
  constant_typed v c sort is typing =
      ap (λ w. type_of S G (value_term first labels w)) is ∙ ap (type_of S G) (values.fold-Const TypeTerm (value_term_step first labels) c)
      ∙ terms.fold-Const (Option ℕ) (type_step S G) c ∙ typing

  null_typed : (v : Value) (label sort : ℕ) → v ≡ value.Null label → Has labels (label, sort) → type_of S G (value_term first labels v) ≡ Some sort
  null_typed v label sort is has =
      ap (λ w. type_of S G (value_term first labels w)) is ∙ ap (type_of S G) (values.fold-Null TypeTerm (value_term_step first labels) label)
      ∙ terms.fold-Gen (Option ℕ) (type_step S G) (first + place_of_label labels label) ∙ place_named G first labels (label, sort) named has

  application_typed : (v : Value) (f sort : ℕ) (function : Function) (args : List Value) → v ≡ value.Fun f args → slice_get S.typeside.functions f ≡ Some function → function.result ≡ sort
      → have_types (map (type_of S G) (map (value_term first labels) args)) function.args ≡ true → type_of S G (value_term first labels v) ≡ Some sort
  application_typed v f sort function args is at gives have =
      let types = map (type_of S G) (map (value_term first labels) args) in
      ap (λ w. type_of S G (value_term first labels w)) is ∙ ap (type_of S G) (values.fold-Fun TypeTerm (value_term_step first labels) f args)
      ∙ terms.fold-Fun (Option ℕ) (type_step S G) f (map (value_term first labels) args) ∙ ap (λ o. applied_type o types) at
      ∙ ap (λ (b : Bool). if b then Some function.result else None) have ∙ ap (λ (n : ℕ). Some n) gives

  mutual
    typed : {levels sort : ℕ} {v : Value} → IsWithin S.typeside levels sort v → Every (Has labels) (uses_in S.typeside v sort) → type_of S G (value_term first labels v) ≡ Some sort
    typed {sort = sort} {v = v} (constant c is typing name) has = constant_typed v c sort is typing
    typed {sort = sort} {v = v} (null label is small) has = null_typed v label sort is (subst (Every (Has labels)) (null_uses S.typeside v label sort is) has).0
    typed {sort = sort} {v = v} (application f function args is at gives word name each) has =
        application_typed v f sort function args is at gives (args_typed each (subst (Every (Has labels)) (application_uses S.typeside v f sort function args is at) has))

    args_typed : {levels : ℕ} {sorts : List ℕ} {vs : List Value} → AreWithin S.typeside levels sorts vs → Every (Has labels) (uses_args (map (uses_in S.typeside) vs) sorts)
        → have_types (map (type_of S G) (map (value_term first labels) vs)) sorts ≡ true
    args_typed none has = refl
    args_typed (more {sort = sort} {sorts = sorts} {v = v} {vs = vs} one each) has =
        let parts = Every-parts (Has labels) (uses_in S.typeside v sort) (uses_args (map (uses_in S.typeside) vs) sorts) has in
        let others = have_types (map (type_of S G) (map (value_term first labels) vs)) sorts in
        ap (λ o. is_type o sort && others) (typed one parts.0) ∙ ap (λ b. b && others) (eq-eqb sort sort refl) ∙ args_typed each parts.1

  pub meant_typed : (type : ℕ) (v : Value) → IsMeant S.typeside type v → Every (Has labels) (uses_in S.typeside v type) → type_of S G (value_term first labels v) ≡ Some type
  meant_typed type v (inl readable) has = typed readable.within has
  meant_typed type v (inr (c, is, typing)) has = constant_typed v c type is typing

-- The types of labels are types of the typeside.
module _ (T : Typeside) (made : IsTypeside T) where
  abbrev pub IsInRange : Use → Type 0
  IsInRange u = u.1 < length T.types

  arguments_in_range : (f : ℕ) (function : Function) → slice_get T.functions f ≡ Some function → Every (λ (n : ℕ). n < length T.types) function.args
  arguments_in_range f function at =
      Every-from_All (λ (n : ℕ). n < length T.types) function.args
      (All_at (λ (g : Function). All (λ (n : ℕ). n < length T.types) g.args × (g.result < length T.types)) T.functions f function made.functions at).0

  mutual
    in_range : {levels sort : ℕ} {v : Value} → IsWithin T levels sort v → sort < length T.types → Every IsInRange (uses_in T v sort)
    in_range {sort = sort} {v = v} (constant c is typing name) within = subst (Every IsInRange) (sym (constant_uses T v c sort is)) tt
    in_range {sort = sort} {v = v} (null label is small) within = subst (Every IsInRange) (sym (null_uses T v label sort is)) (within, tt)
    in_range {sort = sort} {v = v} (application f function args is at gives word name each) within =
        subst (Every IsInRange) (sym (application_uses T v f sort function args is at)) (args_in_range each (arguments_in_range f function at))

    args_in_range : {levels : ℕ} {sorts : List ℕ} {vs : List Value} → AreWithin T levels sorts vs → Every (λ (n : ℕ). n < length T.types) sorts
        → Every IsInRange (uses_args (map (uses_in T) vs) sorts)
    args_in_range none within = tt
    args_in_range (more {sort = sort} {sorts = sorts} {v = v} {vs = vs} one each) within =
        Every-append IsInRange (uses_in T v sort) (uses_args (map (uses_in T) vs) sorts) (in_range one within.0) (args_in_range each within.1)

  pub meant_in_range : (type : ℕ) (v : Value) → IsMeant T type v → type < length T.types → Every IsInRange (uses_in T v type)
  meant_in_range type v (inl readable) within = in_range readable.within within
  meant_in_range type v (inr (c, is, typing)) within = subst (Every IsInRange) (sym (constant_uses T v c type is)) tt
