-- Where the lengths of a query are small and its widths too, it keeps the limits on queries.
use Rattle.std.proofs.Common.{ℕ, suc, Bool, true, false, List, [], ◌∷◌, Some, ◌≡◌, ◌≤◌, ◌+◌, ◌*◌, ◌||◌, map, sum, length, refl, sym, ap, ◌∙◌, arith}
use Rattle.std.specs.Prelude.{slice_get, nat_lt, All}
use Rattle.std.specs.List.{list_any}
use Rattle.std.proofs.lemmas.Bool.Decides.{nat_tests}
use Rattle.cq_theory.specs.declared.presentation.Equation.{Equation}
use Rattle.cq_theory.specs.declared.presentation.Equation.TheVariants as equation
use Rattle.cq_theory.specs.declared.term.EntTerm.{EntTerm}
use Rattle.cq_theory.specs.declared.term.TypeTerm.{TypeTerm}
use Rattle.cq_theory.specs.EntTerm as ent
use Rattle.cq_theory.specs.TypeTerm as typ
use Rattle.cq_theory.specs.TypeTerm.{symbols_step}
use Rattle.cq_theory.specs.Presentation.{has_long_side}
use Rattle.cq_theory.proofs.Every.{Every, Every-from_All}
use Rattle.cq_theory.proofs.TypeTerms.{fold-Gen, fold-Const, fold-Att, fold-Fun, Each, on_terms}
use Rattle.cq_blocks.specs.declared.block.Block.{Block}
use Rattle.cq_query.specs.QueryData.{QueryData as Query}
use Rattle.cq_compose.specs.Composite.{is_large_block, is_large}
use Rattle.cq_lazy.specs.declared.lengths.Lengths.{Lengths}
use Rattle.cq_lazy.specs.Lengths.{length_at, plain, IsShortKey, IsShortAttribute, IsShortTest, IsShortBlock, AreLengths}
use Rattle.cq_lazy.specs.Widths.{widths_of}
use Rattle.cq_lazy.proofs.Counts.{few_variables}
use Rattle.cq_lazy.proofs.Lengthening.{length-Gen, length-Const, length-Att, length-Fun}

same_lengths : (ts : List TypeTerm) → Each (λ t. length_at plain 0 t ≡ typ.symbols_of t) ts → map (length_at plain 0) ts ≡ map typ.symbols_of ts
same_lengths [] each = refl
same_lengths (t ∷ ts) each =
    let first : length_at plain 0 t ≡ typ.symbols_of t = each.0 in
    let rest = same_lengths ts each.1 in
    λ i. first i ∷ rest i

-- what is plain has as many symbols as it has
symbols_are : (t : TypeTerm) → length_at plain 0 t ≡ typ.symbols_of t
symbols_are = on_terms (λ t. length_at plain 0 t ≡ typ.symbols_of t)
    (λ n. length-Gen plain 0 n ∙ sym (fold-Gen ℕ symbols_step n))
    (λ c. length-Const plain 0 c ∙ sym (fold-Const ℕ symbols_step c))
    (λ a t.
    let same : 2 + 1 * (1 * length t.path + 0) ≡ length t.path + 1 + 1 = omega arith in
    length-Att plain 0 a t ∙ same ∙ sym (fold-Att ℕ symbols_step a t))
    (λ f ts each. length-Fun plain 0 f ts ∙ ap (λ l. sum l + 1) (same_lengths ts each) ∙ sym (fold-Fun ℕ symbols_step f ts))

none_of : {X : Type 0} (P : X → Type 0) (p : X → Bool) → ((x : X) → P x → p x ≡ false) → (xs : List X) → Every P xs → list_any p xs ≡ false
none_of P p h [] each = refl
none_of P p h (x ∷ xs) each = ap (λ b. b || list_any p xs) (h x each.0) ∙ none_of P p h xs each.1

fits : (n : ℕ) → n ≤ 1024 → nat_lt 1024 n ≡ false
fits n h = grind (arith, nat_tests)

module _ (n : Lengths) (small : n.most ≤ 1024) where
  test_fits : (e : Equation) → IsShortTest plain n.most e → has_long_side e ≡ false
  test_fits (equation.Ent t s) h =
      let one : 1 * length t.path + 1 ≤ n.most = h.0 in
      let other : 1 * length s.path + 1 ≤ n.most = h.1 in
      let left = fits (ent.symbols_of t) (omega (arith, one, small)) in
      let right = fits (ent.symbols_of s) (omega (arith, other, small)) in
      λ i. left i || right i
  test_fits (equation.Typ t s) h =
      let left = fits (typ.symbols_of t) (omega (arith, symbols_are t, h.0, small)) in
      let right = fits (typ.symbols_of s) (omega (arith, symbols_are s, h.1, small)) in
      λ i. left i || right i

  module _ (some : n.symbols ≤ n.most) (keys : n.keys + 1 ≤ n.most) where
    attribute_fits : (t : TypeTerm) → IsShortAttribute plain n t → nat_lt 1024 (typ.symbols_of t) ≡ false
    attribute_fits t h = fits (typ.symbols_of t) (omega (arith, symbols_are t, h 0, some, small))

    key_fits : (t : EntTerm) → IsShortKey plain n t → nat_lt 1024 (ent.symbols_of t) ≡ false
    key_fits t h = let own : 1 * length t.path ≤ n.keys = h in fits (ent.symbols_of t) (omega (arith, own, keys, small))

    block_fits : (b : Block) → IsShortBlock plain n b → nat_lt 16000000 (length b.vars) ≡ false → is_large_block b ≡ false
    block_fits b short few =
        let tests = none_of (IsShortTest plain n.most) has_long_side test_fits b.tests (Every-from_All (IsShortTest plain n.most) b.tests short.tests) in
        let attributes = none_of (IsShortAttribute plain n) (λ t. nat_lt 1024 (typ.symbols_of t)) attribute_fits b.attributes (Every-from_All (IsShortAttribute plain n) b.attributes short.attributes) in
        let own = none_of (All (IsShortKey plain n)) (list_any (λ t. nat_lt 1024 (ent.symbols_of t))) (λ ts all.
        none_of (IsShortKey plain n) (λ t. nat_lt 1024 (ent.symbols_of t)) key_fits ts (Every-from_All (IsShortKey plain n) ts all)) b.keys (Every-from_All (All (IsShortKey plain n)) b.keys short.keys) in
        λ i. few i || tests i || attributes i || own i

-- no limit is passed
pub none_large : (Q : Query) (n : Lengths) → AreLengths plain Q n → n.most ≤ 1024 → list_any (nat_lt 16000000) (widths_of Q) ≡ false → is_large Q ≡ false
none_large Q n lengths small few = go Q.blocks (Every-from_All (IsShortBlock plain n) Q.blocks lengths.blocks) (few_variables Q few)
  where
    go : (bs : List Block) → Every (IsShortBlock plain n) bs → ((u : ℕ) (b : Block) → slice_get bs u ≡ Some b → nat_lt 16000000 (length b.vars) ≡ false) → list_any is_large_block bs ≡ false
    go [] each within = refl
    go (b ∷ bs) each within =
        ap (λ c. c || list_any is_large_block bs) (block_fits n small lengths.symbols lengths.keys b each.0 (within 0 b refl)) ∙ go bs each.1 (λ u c at. within (suc u) c at)
