-- Values over labels that are given: the uses in them, and the terms that they are.
use Rattle.std.proofs.Common.{ℕ, Bool, true, List, [], ◌∷◌, Option, Some, None, ◌≡◌, ◌+◌, map, sum, refl, sym, ap, subst, ◌∙◌}
use Rattle.std.specs.Prelude.{slice_get, if◌then◌else◌}
use Rattle.std.proofs.lemmas.Bool.{and_parts, eq-eqb}
use Rattle.cq_theory.specs.declared.term.TypeTerm.{TypeTerm}
use Rattle.cq_theory.specs.declared.term.TypeTerm.TheVariants as term
use Rattle.cq_theory.specs.declared.value.Value.{Value}
use Rattle.cq_theory.specs.declared.value.Value.TheVariants.{Fun}
use Rattle.cq_theory.specs.SchemaData.{SchemaData as Schema}
use Rattle.cq_theory.specs.Sorts.{have_types, is_type}
use Rattle.cq_theory.specs.Tables.{Tables, value_type, value_type_step}
use Rattle.cq_theory.specs.Canonical as canonical
use Rattle.cq_theory.proofs.Every.{Every, Every-append}
use Rattle.cq_theory.proofs.OnValues.{Each, on_values}
use Rattle.cq_theory.proofs.Sound.{applied_type_some, is_type_some}
use Rattle.cq_theory.proofs.Values as values
use Rattle.cq_import.specs.declared.labels.Trouble.TheVariants.{Wrong}
use Rattle.cq_import.specs.Labels.{Use, Labels, function_types, then_trouble, trouble_at, use_trouble, uses_args, uses_in, uses_step, uses_trouble, value_term, value_term_step, with_new, with_use}
use Rattle.cq_import.proofs.LabelPlaces.{Has}
use Rattle.cq_import.proofs.Uses.{uses_at}
use Rattle.cq_return.proofs.Given.{AreGiven}

-- a label that is given with its type is no trouble, and adds nothing
no_trouble : (labels : Labels) (u : Use) → Has labels u → use_trouble None labels u ≡ None
no_trouble labels u has = ap (trouble_at None labels u) has ∙ ap (λ (b : Bool). if b then None else Some Wrong) (eq-eqb u.1 u.1 refl)

none_new : (labels : Labels) (u : Use) → Has labels u → with_use labels u ≡ labels
none_new labels u has = ap (with_new labels u) has

pub no_troubles : (labels : Labels) (us : List Use) → Every (Has labels) us → uses_trouble None labels us ≡ None
no_troubles labels [] has = refl
no_troubles labels (u ∷ us) has =
    ap (λ o. then_trouble o (uses_trouble None (with_use labels u) us)) (no_trouble labels u has.0)
    ∙ ap (λ l. uses_trouble None l us) (none_new labels u has.0) ∙ no_troubles labels us has.1

module _ (S : Schema) (nulls : List ℕ) (labels : Labels) (given : AreGiven nulls labels) where
  abbrev HasUses : Value → Type 0
  HasUses v = (type : ℕ) → value_type S nulls v ≡ Some type → Every (Has labels) (uses_in S.typeside v type)

  args_uses : (vs : List Value) (types : List ℕ) → Each HasUses vs → have_types (map (value_type S nulls) vs) types ≡ true
      → Every (Has labels) (uses_args (map (uses_in S.typeside) vs) types)
  args_uses [] types each typed = tt
  args_uses (v ∷ vs) [] each typed = tt
  args_uses (v ∷ vs) (type ∷ types) each typed =
      let parts = and_parts (is_type (value_type S nulls v) type) (have_types (map (value_type S nulls) vs) types) typed in
      Every-append (Has labels) (uses_in S.typeside v type) (uses_args (map (uses_in S.typeside) vs) types)
      (each.0 type (is_type_some _ _ parts.0)) (args_uses vs types each.1 parts.1)

  pub has_uses : (v : Value) → HasUses v
  has_uses = on_values HasUses
      (λ c type typed. subst (Every (Has labels)) (sym (ap (λ (g : ℕ → List Use). g type) (values.fold-Const (ℕ → List Use) (uses_step S.typeside) c))) tt)
      (λ n type typed.
      subst (Every (Has labels)) (sym (ap (λ (g : ℕ → List Use). g type) (values.fold-Null (ℕ → List Use) (uses_step S.typeside) n)))
      (given.typed n type (sym (values.fold-Null (Option ℕ) (value_type_step S nulls) n) ∙ typed), tt))
      (λ f vs each type typed.
      let parts = applied_type_some (slice_get S.typeside.functions f) (map (value_type S nulls) vs) type (sym (values.fold-Fun (Option ℕ) (value_type_step S nulls) f vs) ∙ typed) in
      subst (Every (Has labels)) (sym (uses_at S.typeside (Fun f vs) f vs vs parts.0.args type refl refl (sym (ap function_types parts.1))))
      (args_uses vs parts.0.args each parts.2))

module _ (S : Schema) (M : Tables) (labels : Labels) (given : AreGiven M.algebra.nulls labels) (first : ℕ) (is_first : first ≡ sum M.sheet.counts) where
  abbrev type_in : Value → Option ℕ
  type_in = value_type S M.algebra.nulls

  abbrev HasTerm : Value → Type 0
  HasTerm v = (type : ℕ) → type_in v ≡ Some type → value_term first labels v ≡ canonical.value_term S M v

  args_terms : (vs : List Value) (types : List ℕ) → Each HasTerm vs → have_types (map type_in vs) types ≡ true
      → map (value_term first labels) vs ≡ map (canonical.value_term S M) vs
  args_terms [] types each typed = refl
  args_terms (v ∷ vs) [] each typed = cc
  args_terms (v ∷ vs) (type ∷ types) each typed =
      let parts = and_parts (is_type (type_in v) type) (have_types (map type_in vs) types) typed in
      let one = each.0 type (is_type_some _ _ parts.0) in
      let others = args_terms vs types each.1 parts.1 in
      λ i. one i ∷ others i

  pub has_term : (v : Value) → HasTerm v
  has_term = on_values HasTerm
      (λ c type typed.
      values.fold-Const TypeTerm (value_term_step first labels) c ∙ sym (values.fold-Const TypeTerm (canonical.value_term_step S M) c))
      (λ n type typed.
      let place = given.placed n type (sym (values.fold-Null (Option ℕ) (value_type_step S M.algebra.nulls) n) ∙ typed) in
      values.fold-Null TypeTerm (value_term_step first labels) n ∙ (λ i. term.Gen (is_first i + place i)) ∙ sym (values.fold-Null TypeTerm (canonical.value_term_step S M) n))
      (λ f vs each type typed.
      let parts = applied_type_some (slice_get S.typeside.functions f) (map type_in vs) type (sym (values.fold-Fun (Option ℕ) (value_type_step S M.algebra.nulls) f vs) ∙ typed) in
      values.fold-Fun TypeTerm (value_term_step first labels) f vs ∙ ap (term.Fun f) (args_terms vs parts.0.args each parts.2)
      ∙ sym (values.fold-Fun TypeTerm (canonical.value_term_step S M) f vs))

  -- so are the arguments of an application that has a type
  pub application_terms : (f : ℕ) (vs : List Value) (type : ℕ) → type_in (Fun f vs) ≡ Some type → map (value_term first labels) vs ≡ map (canonical.value_term S M) vs
  application_terms f vs type typed =
      let parts = applied_type_some (slice_get S.typeside.functions f) (map type_in vs) type (sym (values.fold-Fun (Option ℕ) (value_type_step S M.algebra.nulls) f vs) ∙ typed) in
      args_terms vs parts.0.args (each_term vs) parts.2
    where
      each_term : (ws : List Value) → Each HasTerm ws
      each_term [] = tt
      each_term (w ∷ ws) = (has_term w, each_term ws)
