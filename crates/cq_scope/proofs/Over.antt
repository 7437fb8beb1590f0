-- A term as it is written means the same over the names of generators and over the first generators of their names.
use Rattle.std.proofs.Common.{ℕ, Bool, List, [], ◌∷◌, Option, Some, None, ◌≡◌, ◌<◌, ◌&&◌, map, length, refl, sym, ap, ◌∙◌, arith}
use Rattle.std.specs.Prelude.{slice_get, slice_index, is_none, option_and_then}
use Rattle.std.proofs.lemmas.Option.{get_or_from_slice_get}
use Rattle.cq_base.specs.declared.name.Name.{Name}
use Rattle.cq_base.specs.declared.raw.Raw.{Raw}
use Rattle.cq_base.specs.declared.raw.Raw.TheOpen.{Raw-F, Word, Text, App}
use Rattle.cq_base.specs.declared.raw.Raw.TheFolds.{fold-Raw}
use Rattle.cq_base.specs.Names.{number_of}
use Rattle.cq_base.proofs.Numbers.{number_of-within}
use Rattle.cq_theory.specs.declared.constant.Con.{Con}
use Rattle.cq_theory.specs.declared.constant.Con.TheVariants.{Named}
use Rattle.cq_theory.specs.declared.lookup.Symbol.{Symbol}
use Rattle.cq_theory.specs.declared.lookup.Symbol.TheVariants.{Function, Key, Attribute}
use Rattle.cq_theory.specs.declared.presentation.Sort.{Sort}
use Rattle.cq_theory.specs.declared.presentation.Sort.TheVariants.{Plain, Entity}
use Rattle.cq_theory.specs.declared.term.EntTerm.{EntTerm}
use Rattle.cq_theory.specs.declared.term.TypeTerm.{TypeTerm}
use Rattle.cq_theory.specs.declared.term.TypeTerm.TheVariants as term
use Rattle.cq_theory.specs.declared.term.Term.{Term}
use Rattle.cq_theory.specs.declared.term.Term.TheVariants.{Ent, Typ}
use Rattle.cq_theory.specs.EntTerm.{extended}
use Rattle.cq_theory.specs.SchemaData.{SchemaData as Schema}
use Rattle.cq_theory.specs.Sorts.{Generators}
use Rattle.cq_theory.specs.Resolve.{constant_of, word_constant, text_constant, symbol_of, word_sort, unknown_step, has_unknown, raw_sort_step, raw_sort}
use Rattle.cq_theory.specs.Resolved.{resolved, resolved_step, type_term_in, entity_term_in, generator_term, constant_term, word_term, first_entity_term, symbol_term}
use Rattle.cq_theory.proofs.TypeTerms.{fold-Gen, fold-Const, fold-Att, fold-Fun}
use Rattle.cq_theory.proofs.Raws.{fold-Word, fold-Text, fold-App, Each, on_raws}
use Rattle.cq_terms.specs.Generators.{names_of, sorts_of}
use Rattle.cq_scope.specs.Firsts.{AreFirsts}
use Rattle.cq_scope.specs.Renumbered.{entity_renumbered, type_renumbered, type_renumbered_step, renumbered}
use Rattle.cq_scope.proofs.Places.{get_some}

module _ (S : Schema) (G : Generators) (names : List Name) (sorts : List Sort) (numbers : List ℕ) (firsts : AreFirsts G names sorts numbers) where
  -- the first generator of a name
  record IsFirst (name : Name) (k : ℕ) : Type 0 where
    pub number : ℕ
    pub at : slice_get numbers k ≡ Some number
    pub place : number_of (names_of G) name ≡ Some number

  first_of_name : (name : Name) (k : ℕ) → number_of names name ≡ Some k → IsFirst name k
  first_of_name name k h =
      let within : k < length names = number_of-within names name k h in
      let at = get_some numbers k (omega (arith, within, firsts.numbers_count)) in
      record { number = at.0; at = at.1; place = sym (firsts.finds name) ∙ ap (option_and_then (slice_get numbers)) h ∙ at.1 }

  none_of_name : (name : Name) → number_of names name ≡ None → number_of (names_of G) name ≡ None
  none_of_name name h = sym (firsts.finds name) ∙ ap (option_and_then (slice_get numbers)) h

  -- a name that one table doesn't have isn't in the other
  unknown_name : (name : Name) (o : Option ℕ) → number_of names name ≡ o → is_none o ≡ is_none (number_of (names_of G) name)
  unknown_name name None h = sym (ap is_none (none_of_name name h))
  unknown_name name (Some k) h = sym (ap is_none (first_of_name name k h).place)

  unknown_same : (x : Raw-F Bool) → unknown_step S names x ≡ unknown_step S (names_of G) x
  unknown_same (Word name) = ap (λ b. b && is_none (constant_of S name)) (unknown_name name (number_of names name) refl)
  unknown_same (Text name) = refl
  unknown_same (App name args) = refl

  pub has_unknown_over : has_unknown S names ≡ has_unknown S (names_of G)
  has_unknown_over = ap (λ (step : Raw-F Bool → Bool). fold-Raw Bool step) (λ i x. unknown_same x i)

  -- a name stands for one sort
  sort_same : (name : Name) (constant o : Option ℕ) → number_of names name ≡ o → word_sort S sorts o constant ≡ word_sort S (sorts_of G) (number_of (names_of G) name) constant
  sort_same name constant None h = ap (λ p. word_sort S (sorts_of G) p constant) (sym (none_of_name name h))
  sort_same name constant (Some k) h =
      let first = first_of_name name k h in
      firsts.sorted k first.number first.at ∙ ap (λ p. word_sort S (sorts_of G) p constant) (sym first.place)

  raw_same : (x : Raw-F (Option Sort)) → raw_sort_step S names sorts x ≡ raw_sort_step S (names_of G) (sorts_of G) x
  raw_same (Word name) = sort_same name (constant_of S name) (number_of names name) refl
  raw_same (Text name) = refl
  raw_same (App name args) = refl

  pub raw_sort_over : raw_sort S names sorts ≡ raw_sort S (names_of G) (sorts_of G)
  raw_sort_over = ap (λ (step : Raw-F (Option Sort) → Option Sort). fold-Raw (Option Sort) step) (λ i x. raw_same x i)

  sort_at : (name : Name) (o : Option ℕ) → number_of names name ≡ o → option_and_then (slice_get sorts) o ≡ option_and_then (slice_get (sorts_of G)) (number_of (names_of G) name)
  sort_at name None h = ap (option_and_then (slice_get (sorts_of G))) (sym (none_of_name name h))
  sort_at name (Some k) h =
      let first = first_of_name name k h in
      firsts.sorted k first.number first.at ∙ ap (option_and_then (slice_get (sorts_of G))) (sym first.place)

  pub sort_over : (name : Name) → option_and_then (slice_get sorts) (number_of names name) ≡ option_and_then (slice_get (sorts_of G)) (number_of (names_of G) name)
  sort_over name = sort_at name (number_of names name) refl

  -- the parts of a term, with the numbers of the generators
  constant_same : (o : Option Con) → renumbered numbers (constant_term o) ≡ constant_term o
  constant_same None = ap Typ (fold-Const TypeTerm (type_renumbered_step numbers) (Named 0))
  constant_same (Some c) = ap Typ (fold-Const TypeTerm (type_renumbered_step numbers) c)

  generator_same : (k n : ℕ) (o : Option Sort) → slice_index numbers k ≡ n → renumbered numbers (generator_term k o) ≡ generator_term n o
  generator_same k n None h = ap Typ (fold-Gen TypeTerm (type_renumbered_step numbers) k) ∙ ap (λ m. Typ (term.Gen m)) h
  generator_same k n (Some (Plain type)) h = ap Typ (fold-Gen TypeTerm (type_renumbered_step numbers) k) ∙ ap (λ m. Typ (term.Gen m)) h
  generator_same k n (Some (Entity entity)) h = ap (λ m. Ent (record { generator = m; path = [] })) h

  word_same : (name : Name) (constant : Option Con) (o : Option ℕ) → number_of names name ≡ o
      → renumbered numbers (word_term sorts o constant) ≡ word_term (sorts_of G) (number_of (names_of G) name) constant
  word_same name constant None h = constant_same constant ∙ ap (λ p. word_term (sorts_of G) p constant) (sym (none_of_name name h))
  word_same name constant (Some k) h =
      let first = first_of_name name k h in
      generator_same k first.number (slice_get sorts k) (get_or_from_slice_get numbers k first.number 0 first.at)
      ∙ ap (generator_term first.number) (firsts.sorted k first.number first.at)
      ∙ ap (λ p. word_term (sorts_of G) p constant) (sym first.place)

  type_part : (t : Term) → type_renumbered numbers (type_term_in t) ≡ type_term_in (renumbered numbers t)
  type_part (Typ t) = refl
  type_part (Ent t) = fold-Const TypeTerm (type_renumbered_step numbers) (Named 0)

  entity_part : (t : Term) → entity_renumbered numbers (entity_term_in t) ≡ entity_term_in (renumbered numbers t)
  entity_part (Ent t) = refl
  entity_part (Typ t) = ap (λ m. record { generator = m; path = [] }) firsts.from_first

  abbrev IsOver : Raw → Type 0
  IsOver raw = renumbered numbers (resolved S names sorts raw) ≡ resolved S (names_of G) (sorts_of G) raw

  types_same : (args : List Raw) → Each IsOver args
      → map (type_renumbered numbers) (map type_term_in (map (resolved S names sorts) args)) ≡ map type_term_in (map (resolved S (names_of G) (sorts_of G)) args)
  types_same [] each = refl
  types_same (a ∷ args) each =
      let one : type_renumbered numbers (type_term_in (resolved S names sorts a)) ≡ type_term_in (resolved S (names_of G) (sorts_of G) a) =
      type_part (resolved S names sorts a) ∙ ap type_term_in each.0 in
      let rest = types_same args each.1 in
      λ i. one i ∷ rest i

  first_same : (args : List Raw) → Each IsOver args
      → entity_renumbered numbers (first_entity_term (map (resolved S names sorts) args)) ≡ first_entity_term (map (resolved S (names_of G) (sorts_of G)) args)
  first_same [] each = ap (λ m. record { generator = m; path = [] }) firsts.from_first
  first_same (a ∷ args) each = entity_part (resolved S names sorts a) ∙ ap entity_term_in each.0

  symbol_same : (o : Option Symbol) (args : List Raw) → Each IsOver args
      → renumbered numbers (symbol_term o (map (resolved S names sorts) args)) ≡ symbol_term o (map (resolved S (names_of G) (sorts_of G)) args)
  symbol_same None args each = ap Typ (fold-Const TypeTerm (type_renumbered_step numbers) (Named 0))
  symbol_same (Some (Function f)) args each =
      ap Typ (fold-Fun TypeTerm (type_renumbered_step numbers) f (map type_term_in (map (resolved S names sorts) args)) ∙ ap (term.Fun f) (types_same args each))
  symbol_same (Some (Key k)) args each = ap (λ (t : EntTerm). Ent (extended t (k ∷ []))) (first_same args each)
  symbol_same (Some (Attribute a)) args each =
      ap Typ (fold-Att TypeTerm (type_renumbered_step numbers) a (first_entity_term (map (resolved S names sorts) args)) ∙ ap (term.Att a) (first_same args each))

  pub resolved_over : (raw : Raw) → IsOver raw
  resolved_over = on_raws IsOver
      (λ n. ap (renumbered numbers) (fold-Word Term (resolved_step S names sorts) n) ∙ word_same n (word_constant S n) (number_of names n) refl
      ∙ sym (fold-Word Term (resolved_step S (names_of G) (sorts_of G)) n))
      (λ n. ap (renumbered numbers) (fold-Text Term (resolved_step S names sorts) n) ∙ constant_same (text_constant S n)
      ∙ sym (fold-Text Term (resolved_step S (names_of G) (sorts_of G)) n))
      (λ n args each. ap (renumbered numbers) (fold-App Term (resolved_step S names sorts) n args) ∙ symbol_same (symbol_of S n) args each
      ∙ sym (fold-App Term (resolved_step S (names_of G) (sorts_of G)) n args))
