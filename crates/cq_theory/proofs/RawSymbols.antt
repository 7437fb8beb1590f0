-- A term that is looked up has no more symbols than are written.
use Rattle.std.proofs.Common.{ℕ, Bool, false, List, [], ◌∷◌, Option, Some, None, ◌≡◌, ◌≤◌, ◌+◌, ◌||◌, map, length, sum, refl, sym, ap, ◌∙◌, arith, length-append}
use Rattle.std.specs.List.{list_any}
use Rattle.std.proofs.lemmas.List.{length-map}
use Rattle.std.proofs.lemmas.List.Sums.{sum_by-cons}
use Rattle.std.proofs.lemmas.Bool.{eqb-true}
use Rattle.cq_base.specs.declared.name.Name.{Name}
use Rattle.cq_base.specs.declared.raw.Raw.{Raw}
use Rattle.cq_base.specs.Names.{number_of}
use Rattle.cq_theory.specs.declared.constant.Con.{Con}
use Rattle.cq_theory.specs.declared.constant.Con.TheVariants.{Named}
use Rattle.cq_theory.specs.declared.presentation.Sort.{Sort}
use Rattle.cq_theory.specs.declared.presentation.Sort.TheVariants.{Plain, Entity}
use Rattle.cq_theory.specs.declared.lookup.Symbol.{Symbol}
use Rattle.cq_theory.specs.declared.lookup.Symbol.TheVariants.{Function, Key, Attribute}
use Rattle.cq_theory.specs.SchemaData.{SchemaData as Schema}
use Rattle.cq_theory.specs.declared.term.TypeTerm.{TypeTerm}
use Rattle.cq_theory.specs.declared.term.Term.{Term}
use Rattle.cq_theory.specs.declared.term.Term.TheVariants.{Ent, Typ}
use Rattle.cq_theory.specs.EntTerm as ent
use Rattle.cq_theory.specs.TypeTerm.{symbols_of, symbols_step}
use Rattle.cq_theory.specs.Presentation.{term_symbols}
use Rattle.cq_theory.specs.Resolve.{word_constant, text_constant, symbol_of, argument_count, takes_another_count, has_wrong_count, wrong_count_step, raw_symbols, raw_symbols_step}
use Rattle.cq_theory.specs.Resolved.{resolved, resolved_step, type_term_in, entity_term_in, generator_term, constant_term, word_term, first_entity_term, symbol_term}
use Rattle.cq_theory.proofs.TypeTerms.{fold-Gen, fold-Const, fold-Att, fold-Fun, on_terms}
use Rattle.cq_theory.proofs.Raws.{fold-Word, fold-Text, fold-App, Each, on_raws}
use Rattle.cq_theory.proofs.Faults.{neither, not_false}

sum_more : (n : ℕ) (ns : List ℕ) → sum (n ∷ ns) ≡ n + sum ns
sum_more n ns = sum_by-cons (λ m. m) n ns

constant_symbols : (o : Option Con) → term_symbols (constant_term o) ≡ 1
constant_symbols None = fold-Const ℕ symbols_step (Named 0)
constant_symbols (Some c) = fold-Const ℕ symbols_step c

generator_symbols : (n : ℕ) (o : Option Sort) → term_symbols (generator_term n o) ≡ 1
generator_symbols n None = fold-Gen ℕ symbols_step n
generator_symbols n (Some (Entity e)) = refl
generator_symbols n (Some (Plain t)) = fold-Gen ℕ symbols_step n

word_symbols : (sorts : List Sort) (number : Option ℕ) (other : Option Con) → term_symbols (word_term sorts number other) ≡ 1
word_symbols sorts None other = constant_symbols other
word_symbols sorts (Some n) other = generator_symbols n _

has_one : (t : TypeTerm) → 1 ≤ symbols_of t
has_one = on_terms (λ t. 1 ≤ symbols_of t)
    (λ n. omega (arith, fold-Gen ℕ symbols_step n))
    (λ n. omega (arith, fold-Const ℕ symbols_step n))
    (λ a t. omega (arith, fold-Att ℕ symbols_step a t))
    (λ f ts each. omega (arith, fold-Fun ℕ symbols_step f ts))

pub type_part : (t : Term) → symbols_of (type_term_in t) ≤ term_symbols t
type_part (Typ t) = omega arith
type_part (Ent t) = omega (arith, fold-Const ℕ symbols_step (Named 0))

entity_part : (t : Term) → ent.symbols_of (entity_term_in t) ≤ term_symbols t
entity_part (Ent t) = omega arith
entity_part (Typ t) = has_one t

module _ (S : Schema) (names : List Name) (sorts : List Sort) where
  abbrev IsNoLonger : Raw → Type 0
  IsNoLonger raw = has_wrong_count S raw ≡ false → term_symbols (resolved S names sorts raw) ≤ raw_symbols raw

  abbrev Fits : Raw → Type 0
  Fits raw = term_symbols (resolved S names sorts raw) ≤ raw_symbols raw

  each_fits : (args : List Raw) → Each IsNoLonger args → list_any (λ b. b) (map (has_wrong_count S) args) ≡ false → Each Fits args
  each_fits [] each h = tt
  each_fits (a ∷ args) each h =
      let parts = neither (has_wrong_count S a) (list_any (λ b. b) (map (has_wrong_count S) args)) h in
      (each.0 parts.0, each_fits args each.1 parts.1)

  sums : (args : List Raw) → Each Fits args → sum (map symbols_of (map type_term_in (map (resolved S names sorts) args))) ≤ sum (map raw_symbols args)
  sums [] each = omega arith
  sums (a ∷ args) each =
      let first : symbols_of (type_term_in (resolved S names sorts a)) ≤ term_symbols (resolved S names sorts a) = type_part (resolved S names sorts a) in
      let here : term_symbols (resolved S names sorts a) ≤ raw_symbols a = each.0 in
      let rest : sum (map symbols_of (map type_term_in (map (resolved S names sorts) args))) ≤ sum (map raw_symbols args) = sums args each.1 in
      omega (arith, sum_more (symbols_of (type_term_in (resolved S names sorts a))) (map symbols_of (map type_term_in (map (resolved S names sorts) args))), sum_more (raw_symbols a) (map raw_symbols args))

  first_fits : (args : List Raw) → length args ≡ 1 → Each Fits args → ent.symbols_of (first_entity_term (map (resolved S names sorts) args)) ≤ sum (map raw_symbols args)
  first_fits [] one each = cc
  first_fits (a ∷ args) one each =
      let first : ent.symbols_of (entity_term_in (resolved S names sorts a)) ≤ term_symbols (resolved S names sorts a) = entity_part (resolved S names sorts a) in
      let here : term_symbols (resolved S names sorts a) ≤ raw_symbols a = each.0 in
      omega (arith, sum_more (raw_symbols a) (map raw_symbols args))

  one_argument : (symbol : Symbol) (count : ℕ) → takes_another_count S (Some symbol) count ≡ false → argument_count S symbol ≡ 1 → count ≡ 1
  one_argument symbol count h one = sym (sym one ∙ eqb-true (argument_count S symbol) count (not_false _ h))

  symbol_fits : (o : Option Symbol) (args : List Raw) → takes_another_count S o (length (map (has_wrong_count S) args)) ≡ false → Each Fits args
      → term_symbols (symbol_term o (map (resolved S names sorts) args)) ≤ sum (map raw_symbols args) + 1
  symbol_fits None args h each = omega (arith, fold-Const ℕ symbols_step (Named 0))
  symbol_fits (Some (Function f)) args h each =
      omega (arith, fold-Fun ℕ symbols_step f (map type_term_in (map (resolved S names sorts) args)), sums args each)
  symbol_fits (Some (Key k)) args h each =
      let one : length args ≡ 1 = sym (length-map args (has_wrong_count S)) ∙ one_argument (Key k) _ h refl in
      let first = first_fits args one each in
      omega (arith, first, length-append ((first_entity_term (map (resolved S names sorts) args)).path) (k ∷ []))
  symbol_fits (Some (Attribute a)) args h each =
      let one : length args ≡ 1 = sym (length-map args (has_wrong_count S)) ∙ one_argument (Attribute a) _ h refl in
      let first = first_fits args one each in
      omega (arith, first, fold-Att ℕ symbols_step a (first_entity_term (map (resolved S names sorts) args)))

  pub resolved-no_longer : (raw : Raw) → IsNoLonger raw
  resolved-no_longer = on_raws IsNoLonger
      (λ n h. omega (arith, ap term_symbols (fold-Word Term (resolved_step S names sorts) n), word_symbols sorts (number_of names n) (word_constant S n), fold-Word ℕ raw_symbols_step n))
      (λ n h. omega (arith, ap term_symbols (fold-Text Term (resolved_step S names sorts) n), constant_symbols (text_constant S n), fold-Text ℕ raw_symbols_step n))
      (λ n args each h.
      let counted : (takes_another_count S (symbol_of S n) (length (map (has_wrong_count S) args)) || list_any (λ b. b) (map (has_wrong_count S) args)) ≡ false
      = sym (fold-App Bool (wrong_count_step S) n args) ∙ h in
      let parts = neither (takes_another_count S (symbol_of S n) (length (map (has_wrong_count S) args))) (list_any (λ b. b) (map (has_wrong_count S) args)) counted in
      let fits = symbol_fits (symbol_of S n) args parts.0 (each_fits args each parts.1) in
      omega (arith, fits, ap term_symbols (fold-App Term (resolved_step S names sorts) n args), fold-App ℕ raw_symbols_step n args))
