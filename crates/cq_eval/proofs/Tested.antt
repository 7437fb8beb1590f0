-- Tests of where equations decide them, and only look at the variables that they need.
use Rattle.std.proofs.Common.{ℕ, zero, suc, true, List, [], ◌∷◌, ◌++◌, ◌≡◌, ◌<◌, ◌≤◌, ◌+◌, ◌==◌, map, length, refl, sym, ap, subst, ◌∙◌, arith}
use Rattle.std.specs.Prelude.{slice_index_or}
use Rattle.std.proofs.lemmas.Bool.{eqb-true, eq-eqb}
use Rattle.std.proofs.lemmas.List.{length-map, map-append}
use Rattle.cq_theory.specs.declared.value.Value.{Value}
use Rattle.cq_theory.specs.declared.term.EntTerm.{EntTerm}
use Rattle.cq_theory.specs.declared.term.TypeTerm.{TypeTerm}
use Rattle.cq_theory.specs.declared.presentation.Equation.{Equation}
use Rattle.cq_theory.specs.declared.presentation.Equation.TheVariants as equation
use Rattle.cq_theory.specs.Derivation.{left_of, right_of}
use Rattle.cq_theory.specs.Tables.{Tables, AtRow, AtValue, Assignment, row_in, value_in, cell_at, row_from, row_of, value_of, value_step, meaning_of, applied}
use Rattle.cq_theory.proofs.TypeTerms.{fold-Gen, fold-Const, fold-Att, fold-Fun, Each, on_terms}
use Rattle.cq_instance.specs.SameValue.{same_value}
use Rattle.cq_instance.proofs.SameValues.{same_from_value, value_from_same}
use Rattle.cq_theory.specs.Term.{greatest}
use Rattle.cq_eval.specs.Testing.{holds_at, reach_of_entity, reach_step, reach_of, reach}

-- the test of an equation decides it
pub from_test : (M : Tables) (rows : List ℕ) (e : Equation) → holds_at M rows e ≡ true → meaning_of M (map AtRow rows) (left_of e) ≡ meaning_of M (map AtRow rows) (right_of e)
from_test M rows (equation.Ent t u) h = ap AtRow (eqb-true (row_of M (map AtRow rows) t) (row_of M (map AtRow rows) u) h)
from_test M rows (equation.Typ t u) h = ap AtValue (same_from_value (value_of M (map AtRow rows) t) (value_of M (map AtRow rows) u) h)

pub to_test : (M : Tables) (rows : List ℕ) (e : Equation) → meaning_of M (map AtRow rows) (left_of e) ≡ meaning_of M (map AtRow rows) (right_of e) → holds_at M rows e ≡ true
to_test M rows (equation.Ent t u) h = eq-eqb (row_of M (map AtRow rows) t) (row_of M (map AtRow rows) u) (ap row_in h)
to_test M rows (equation.Typ t u) h = value_from_same (value_of M (map AtRow rows) t) (value_of M (map AtRow rows) u) (ap value_in h)

-- what stands for the first generators decides
module _ (M : Tables) (A B : Assignment) where
  front : (xs : Assignment) (n : ℕ) → n < length xs → slice_index_or (xs ++ B) n (AtRow 0) ≡ slice_index_or xs n (AtRow 0)
  front [] n h = absurd (omega arith)
  front (x ∷ xs) zero h = refl
  front (x ∷ xs) (suc n) h = front xs n (omega arith)

  row_local : (t : EntTerm) → reach_of_entity t ≤ length A → row_of M (A ++ B) t ≡ row_of M A t
  row_local t h = ap (λ m. row_from M (row_in m) t.path) (front A t.generator (omega arith))

  abbrev IsLocal : TypeTerm → Type 0
  IsLocal t = reach_of t ≤ length A → value_of M (A ++ B) t ≡ value_of M A t

  reach_args : (ts : List TypeTerm) → Each IsLocal ts → greatest (map reach_of ts) ≤ length A → map (value_of M (A ++ B)) ts ≡ map (value_of M A) ts
  reach_args [] each h = refl
  reach_args (t ∷ ts) each h = λ i. each.0 (omega arith) i ∷ reach_args ts each.1 (omega arith) i

  value_local : (t : TypeTerm) → IsLocal t
  value_local = on_terms IsLocal
      (λ n h. fold-Gen Value (value_step M (A ++ B)) n
      ∙ ap value_in (front A n (let reached : n + 1 ≤ length A = subst (λ r. r ≤ length A) (fold-Gen ℕ reach_step n) h in omega arith))
      ∙ sym (fold-Gen Value (value_step M A) n))
      (λ c h. fold-Const Value (value_step M (A ++ B)) c ∙ sym (fold-Const Value (value_step M A) c))
      (λ a t h. fold-Att Value (value_step M (A ++ B)) a t
      ∙ ap (λ row. cell_at M a row) (row_local t (subst (λ r. r ≤ length A) (fold-Att ℕ reach_step a t) h))
      ∙ sym (fold-Att Value (value_step M A) a t))
      (λ f ts each h. fold-Fun Value (value_step M (A ++ B)) f ts
      ∙ ap (λ vs. applied M f vs) (reach_args ts each (subst (λ r. r ≤ length A) (fold-Fun ℕ reach_step f ts) h))
      ∙ sym (fold-Fun Value (value_step M A) f ts))

module _ (M : Tables) (bound rest : List ℕ) where
  split : map AtRow (bound ++ rest) ≡ map AtRow bound ++ map AtRow rest
  split = map-append AtRow bound rest

  long : length (map AtRow bound) ≡ length bound
  long = length-map bound AtRow

  pub row_front : (t : EntTerm) → reach_of_entity t ≤ length bound → row_of M (map AtRow (bound ++ rest)) t ≡ row_of M (map AtRow bound) t
  row_front t h = ap (λ (A : Assignment). row_of M A t) split ∙ row_local M (map AtRow bound) (map AtRow rest) t (omega (arith, long, h))

  pub value_front : (t : TypeTerm) → reach_of t ≤ length bound → value_of M (map AtRow (bound ++ rest)) t ≡ value_of M (map AtRow bound) t
  value_front t h = ap (λ (A : Assignment). value_of M A t) split ∙ value_local M (map AtRow bound) (map AtRow rest) t (omega (arith, long, h))

  -- a where equation only looks at the variables that it needs
  pub holds_local : (e : Equation) → reach e ≤ length bound → holds_at M (bound ++ rest) e ≡ holds_at M bound e
  holds_local (equation.Ent t u) h = λ i. row_front t (omega arith) i == row_front u (omega arith) i
  holds_local (equation.Typ t u) h = λ i. same_value (value_front t (omega arith) i) (value_front u (omega arith) i)
