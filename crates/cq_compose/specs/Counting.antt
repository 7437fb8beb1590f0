-- The symbols of the terms of a composite's block, as numbers: a term over the limit is never made.
use Rattle.std.specs.Prelude.{ℕ, Bool, List, ◌+◌, ◌||◌, map, take, length, sum, nat_lt, slice_index_or}
use Rattle.std.specs.List.{list_any}
use Rattle.cq_base.specs.declared.name.Name.{Name}
use Rattle.cq_theory.specs.declared.presentation.Equation.{Equation}
use Rattle.cq_theory.specs.declared.term.EntTerm.{EntTerm}
use Rattle.cq_theory.specs.declared.term.TypeTerm.{TypeTerm}
use Rattle.cq_theory.specs.declared.term.TypeTerm.TheOpen.{TypeTerm-F, Gen, Const, Att, Fun}
use Rattle.cq_theory.specs.declared.term.TypeTerm.TheFolds.{fold-TypeTerm}
use Rattle.cq_theory.specs.EntTerm as ent
use Rattle.cq_theory.specs.EntTerm.{alone}
use Rattle.cq_theory.specs.TypeTerm as typ
use Rattle.cq_theory.specs.Presentation.{has_long_side}
use Rattle.cq_blocks.specs.declared.block.Block.{Block}
use Rattle.cq_query.specs.QueryData.{QueryData as Query}
use Rattle.cq_query.specs.Translation.{variables_at, attribute_term}
use Rattle.cq_compose.specs.Composite.{term_components, translated, translated_test}
use Rattle.cq_compose.specs.declared.frame.Frame.{Frame}
use Rattle.cq_compose.specs.Frame.{terms_of}

module _ (frame : Frame) where
  -- how many foreign keys a component of a term follows
  abbrev pub keys_of : EntTerm → ℕ → ℕ
  keys_of t n = length (slice_index_or (terms_of frame t) n (alone 0)).path

  -- the symbols of a term of the first query, with the components of a term in place of its generators
  abbrev pub put_symbols_step : EntTerm → TypeTerm-F ℕ → ℕ
  put_symbols_step at (Gen n) = 1
  put_symbols_step at (Const c) = 1
  put_symbols_step at (Att a t) = keys_of at t.generator + length t.path + 2
  put_symbols_step at (Fun f counts) = sum counts + 1

  abbrev pub put_symbols : EntTerm → TypeTerm → ℕ
  put_symbols at = fold-TypeTerm ℕ (put_symbols_step at)

  -- the symbols of a type term with the first query's terms for attributes on the components
  abbrev pub translated_symbols_step : TypeTerm-F ℕ → ℕ
  translated_symbols_step (Gen n) = 1
  translated_symbols_step (Const c) = 1
  translated_symbols_step (Att a t) = put_symbols t (attribute_term frame.first.now a)
  translated_symbols_step (Fun f counts) = sum counts + 1

  abbrev pub translated_symbols : TypeTerm → ℕ
  translated_symbols = fold-TypeTerm ℕ translated_symbols_step

-- how many components each variable has, and the first component of a variable
abbrev pub widths : Query → List (Name × ℕ) → List ℕ
widths Q variables = map (λ v. length (variables_at Q v.1)) variables

abbrev pub start_in : Query → List (Name × ℕ) → ℕ → ℕ
start_in Q variables y = sum (widths Q (take y variables))

-- A term of the composite's block has over 1,024 symbols. The first query's where equations on components are as short
-- as they were.
module _ (Q W : Query) (u : ℕ) where
  abbrev pub has_long_test : List Equation → Bool
  has_long_test tests = list_any (λ test. list_any has_long_side (translated_test Q W u test)) tests

  abbrev pub has_long_attribute : List TypeTerm → Bool
  has_long_attribute terms = list_any (λ t. nat_lt 1024 (typ.symbols_of (translated Q W u t))) terms

  abbrev pub has_long_key : List (List EntTerm) → Bool
  has_long_key keys = list_any (list_any
      (λ t. list_any (λ s. nat_lt 1024 (ent.symbols_of s)) (term_components Q W u t))) keys

  abbrev pub has_long_term : Block → Bool
  has_long_term b = has_long_test b.tests || has_long_attribute b.attributes || has_long_key b.keys
