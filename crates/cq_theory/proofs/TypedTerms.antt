-- A term with its sort, at each way to write a term.
use Rattle.std.proofs.Common.{ℕ, List, Option, ◌≡◌, map, option_map, sym, ap, ◌∙◌}
use Rattle.cq_base.specs.declared.name.Name.{Name}
use Rattle.cq_base.specs.declared.raw.Raw.{Raw}
use Rattle.cq_base.specs.declared.raw.Raw.TheVariants.{Word, Text, App}
use Rattle.cq_base.specs.Names.{number_of}
use Rattle.cq_theory.specs.SchemaData.{SchemaData as Schema}
use Rattle.cq_theory.specs.declared.presentation.Sort.{Sort}
use Rattle.cq_theory.specs.declared.term.Term.{Term}
use Rattle.cq_theory.specs.Resolve.{constant_of, text_constant, word_constant, symbol_of, word_sort, text_sort, symbol_sort, raw_sort, raw_sort_step}
use Rattle.cq_theory.specs.Resolved.{word_term, constant_term, symbol_term, resolved, resolved_step}
use Rattle.cq_theory.proofs.Raws.{fold-Word, fold-Text, fold-App}

with_sort : (t u : Term) (s r : Option Sort) → t ≡ u → s ≡ r → option_map {U = Term × Sort} (λ sort. (t, sort)) s ≡ option_map {U = Term × Sort} (λ sort. (u, sort)) r
with_sort t u s r e f = ap (λ (v : Term). option_map {U = Term × Sort} (λ sort. (v, sort)) s) e ∙ ap (option_map {U = Term × Sort} (λ sort. (u, sort))) f

module _ (S : Schema) (names : List Name) (sorts : List Sort) where
  pub typed-at_Word : (raw : Raw) (name : Name) (number : Option ℕ) → raw ≡ Word name → number ≡ number_of names name
      → option_map {U = Term × Sort} (λ sort. (word_term sorts number (word_constant S name), sort)) (word_sort S sorts number (constant_of S name))
      ≡ option_map {U = Term × Sort} (λ sort. (resolved S names sorts raw, sort)) (raw_sort S names sorts raw)
  typed-at_Word raw name number e f =
      ap (λ (n : Option ℕ). option_map {U = Term × Sort} (λ sort. (word_term sorts n (word_constant S name), sort)) (word_sort S sorts n (constant_of S name))) f
      ∙ sym (with_sort _ _ _ _ (ap (resolved S names sorts) e ∙ fold-Word Term (resolved_step S names sorts) name)
      (ap (raw_sort S names sorts) e ∙ fold-Word (Option Sort) (raw_sort_step S names sorts) name))

  pub typed-at_Text : (raw : Raw) (text : Name) → raw ≡ Text text
      → option_map {U = Term × Sort} (λ sort. (constant_term (text_constant S text), sort)) (text_sort S (constant_of S text))
      ≡ option_map {U = Term × Sort} (λ sort. (resolved S names sorts raw, sort)) (raw_sort S names sorts raw)
  typed-at_Text raw text e =
      sym (with_sort _ _ _ _ (ap (resolved S names sorts) e ∙ fold-Text Term (resolved_step S names sorts) text)
      (ap (raw_sort S names sorts) e ∙ fold-Text (Option Sort) (raw_sort_step S names sorts) text))

  pub typed-at_App : (raw : Raw) (name : Name) (args slice : List Raw) → raw ≡ App name args → slice ≡ args
      → option_map {U = Term × Sort} (λ sort. (symbol_term (symbol_of S name) (map (resolved S names sorts) slice), sort))
      (symbol_sort S (symbol_of S name) (map (raw_sort S names sorts) slice))
      ≡ option_map {U = Term × Sort} (λ sort. (resolved S names sorts raw, sort)) (raw_sort S names sorts raw)
  typed-at_App raw name args slice e f =
      ap (λ (l : List Raw). option_map {U = Term × Sort} (λ sort. (symbol_term (symbol_of S name) (map (resolved S names sorts) l), sort))
      (symbol_sort S (symbol_of S name) (map (raw_sort S names sorts) l))) f
      ∙ sym (with_sort _ _ _ _ (ap (resolved S names sorts) e ∙ fold-App Term (resolved_step S names sorts) name args)
      (ap (raw_sort S names sorts) e ∙ fold-App (Option Sort) (raw_sort_step S names sorts) name args))
