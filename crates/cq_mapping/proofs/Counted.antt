-- The symbols of images.
use Rattle.std.proofs.Common.{ℕ, List, [], ◌∷◌, ◌++◌, Option, Some, None, ◌≡◌, ◌<◌, ◌≤◌, ◌+◌, ◌⊎◌, map, sum, length, refl, sym, ap, subst, ◌∙◌, inl, inr, arith, length-append}
use Rattle.std.specs.Prelude.{min, MatchOption}
use Rattle.std.proofs.lemmas.Bool.{cases_lt}
use Rattle.std.proofs.lemmas.List.Sums.{sum_by-cons}
use Rattle.cq_theory.specs.declared.constant.Con.TheVariants.{Named}
use Rattle.cq_theory.specs.declared.term.EntTerm.{EntTerm}
use Rattle.cq_theory.specs.declared.term.TypeTerm.{TypeTerm}
use Rattle.cq_theory.specs.declared.term.TypeTerm.TheVariants.{Const, Att, Fun}
use Rattle.cq_theory.specs.EntTerm as ent
use Rattle.cq_theory.specs.EntTerm.{extended}
use Rattle.cq_theory.specs.TypeTerm.{symbols_of, symbols_step, substituted, substituted_step}
use Rattle.cq_theory.proofs.TypeTerms.{fold-Gen, fold-Const, fold-Att, fold-Fun, Each, on_terms}
use Rattle.cq_mapping.specs.Symbols.{symbols_at, symbols_at_step}

sum_more : (n : ℕ) (ns : List ℕ) → sum (n ∷ ns) ≡ n + sum ns
sum_more n ns = sum_by-cons (λ m. m) n ns

symbols-substituted : (at : EntTerm) (t : TypeTerm) → symbols_of (substituted at t) ≡ symbols_at (ent.symbols_of at) t
symbols-substituted at = on_terms (λ t. symbols_of (substituted at t) ≡ symbols_at (ent.symbols_of at) t)
    (λ n. ap symbols_of (fold-Gen TypeTerm (substituted_step at) n) ∙ fold-Gen ℕ symbols_step n ∙ sym (fold-Gen ℕ (symbols_at_step (ent.symbols_of at)) n))
    (λ c. ap symbols_of (fold-Const TypeTerm (substituted_step at) c) ∙ fold-Const ℕ symbols_step c ∙ sym (fold-Const ℕ (symbols_at_step (ent.symbols_of at)) c))
    (λ a t. let longer : length (at.path ++ t.path) + 1 + 1 ≡ length at.path + 1 + length t.path + 1 = omega (arith, length-append at.path t.path) in
    ap symbols_of (fold-Att TypeTerm (substituted_step at) a t) ∙ fold-Att ℕ symbols_step a (extended at t.path) ∙ longer ∙ sym (fold-Att ℕ (symbols_at_step (ent.symbols_of at)) a t))
    (λ f ts each. ap symbols_of (fold-Fun TypeTerm (substituted_step at) f ts) ∙ fold-Fun ℕ symbols_step f (map (substituted at) ts)
    ∙ ap (λ ns. sum ns + 1) (each_same ts each) ∙ sym (fold-Fun ℕ (symbols_at_step (ent.symbols_of at)) f ts))
  where
    each_same : (ts : List TypeTerm) → Each (λ t. symbols_of (substituted at t) ≡ symbols_at (ent.symbols_of at) t) ts → map symbols_of (map (substituted at) ts) ≡ map (symbols_at (ent.symbols_of at)) ts
    each_same [] each = refl
    each_same (t ∷ ts) each =
        let first : symbols_of (substituted at t) ≡ symbols_at (ent.symbols_of at) t = each.0 in
        let rest = each_same ts each.1 in
        λ i. first i ∷ rest i

-- equal, or both over 1,024
abbrev Alike : ℕ → ℕ → Type 0
Alike m n = (m ≡ n) ⊎ ((1025 ≤ m) × (1025 ≤ n))

alike_sum : (a b m n : ℕ) → Alike a b → Alike m n → Alike (a + m) (b + n)
alike_sum a b m n (inl e) (inl f) = inl (λ i. e i + f i)
alike_sum a b m n (inl e) (inr f) = inr (omega (arith, f.0), omega (arith, f.1))
alike_sum a b m n (inr e) _ = inr (omega (arith, e.0), omega (arith, e.1))

module _ (b c : ℕ) (alike : Alike b c) where
  abbrev AreAlikeAt : TypeTerm → Type 0
  AreAlikeAt t = Alike (symbols_at b t) (symbols_at c t)

  both_alike : (m n m' n' : ℕ) → m ≡ m' → n ≡ n' → Alike m' n' → Alike m n
  both_alike m n m' n' e f h = subst (λ x. Alike x n) (sym e) (subst (λ x. Alike m' x) (sym f) h)

  args_alike : (ts : List TypeTerm) → Each AreAlikeAt ts → Alike (sum (map (symbols_at b) ts)) (sum (map (symbols_at c) ts))
  args_alike [] each = inl refl
  args_alike (t ∷ ts) each =
      both_alike (sum (map (symbols_at b) (t ∷ ts))) (sum (map (symbols_at c) (t ∷ ts))) (symbols_at b t + sum (map (symbols_at b) ts)) (symbols_at c t + sum (map (symbols_at c) ts))
      (sum_more (symbols_at b t) (map (symbols_at b) ts)) (sum_more (symbols_at c t) (map (symbols_at c) ts))
      (alike_sum (symbols_at b t) (symbols_at c t) (sum (map (symbols_at b) ts)) (sum (map (symbols_at c) ts)) each.0 (args_alike ts each.1))

  alike_at : (t : TypeTerm) → AreAlikeAt t
  alike_at = on_terms AreAlikeAt
      (λ n. inl (fold-Gen ℕ (symbols_at_step b) n ∙ sym (fold-Gen ℕ (symbols_at_step c) n)))
      (λ n. inl (fold-Const ℕ (symbols_at_step b) n ∙ sym (fold-Const ℕ (symbols_at_step c) n)))
      (λ a t. both_alike (symbols_at b (Att a t)) (symbols_at c (Att a t)) (b + length t.path + 1) (c + length t.path + 1) (fold-Att ℕ (symbols_at_step b) a t) (fold-Att ℕ (symbols_at_step c) a t)
      (alike_sum (b + length t.path) (c + length t.path) 1 1 (alike_sum b c (length t.path) (length t.path) alike (inl refl)) (inl refl)))
      (λ f ts each. both_alike (symbols_at b (Fun f ts)) (symbols_at c (Fun f ts)) (sum (map (symbols_at b) ts) + 1) (sum (map (symbols_at c) ts) + 1)
      (fold-Fun ℕ (symbols_at_step b) f ts) (fold-Fun ℕ (symbols_at_step c) f ts)
      (alike_sum (sum (map (symbols_at b) ts)) (sum (map (symbols_at c) ts)) 1 1 (args_alike ts each) (inl refl)))

capped : (n : ℕ) → Alike (min 1025 n) n
capped n = elim (cases_lt 1025 n) [
  | inl h ↦ let one : min 1025 n ≡ 1025 = omega arith in inr (omega arith, omega arith)
  | inr h ↦ let one : min 1025 n ≡ n = omega arith in inl one
]

room_alike : (o : Option ℕ) (room m n : ℕ) → room ≤ 1024 → Alike m n → MatchOption o (room < m) (λ left. m + left ≡ room) → MatchOption o (room < n) (λ left. n + left ≡ room)
room_alike None room m n small (inl e) h = omega arith
room_alike None room m n small (inr e) h = omega (arith, e.1)
room_alike (Some left) room m n small (inl e) h = omega (arith, e, h)
room_alike (Some left) room m n small (inr e) h = absurd (omega (arith, e.0, h))

-- the room after a term with an entity term in its variable's place, from a count of that one's symbols up to 1,025
pub attribute_room-is : (at : EntTerm) (base room : ℕ) (t u : TypeTerm) (o : Option ℕ) → base ≡ min 1025 (ent.symbols_of at) → t ≡ u → room ≤ 1024
    → MatchOption o (room < symbols_at base t) (λ left. symbols_at base t + left ≡ room)
    → MatchOption o (room < symbols_of (substituted at u)) (λ left. symbols_of (substituted at u) + left ≡ room)
attribute_room-is at base room t u o counted same small h =
    let here : symbols_at (min 1025 (ent.symbols_of at)) u ≡ symbols_at base t = λ i. symbols_at (sym counted i) (sym same i) in
    let alike = alike_at (min 1025 (ent.symbols_of at)) (ent.symbols_of at) (capped (ent.symbols_of at)) u in
    let moved : MatchOption o (room < symbols_at (min 1025 (ent.symbols_of at)) u) (λ left. symbols_at (min 1025 (ent.symbols_of at)) u + left ≡ room) =
    subst (λ m. MatchOption o (room < m) (λ left. m + left ≡ room)) (sym here) h in
    subst (λ m. MatchOption o (room < m) (λ left. m + left ≡ room)) (sym (symbols-substituted at u)) (room_alike o room (symbols_at (min 1025 (ent.symbols_of at)) u) (symbols_at (ent.symbols_of at) u) small alike moved)

-- a constant has one symbol, whatever stands in the variable's place
pub constant_room : (at : EntTerm) (room : ℕ) (u : TypeTerm) (o : Option ℕ) → u ≡ Const (Named 0) → MatchOption o (room < 1) (λ left. 1 + left ≡ room)
    → MatchOption o (room < symbols_of (substituted at u)) (λ left. symbols_of (substituted at u) + left ≡ room)
constant_room at room u o same h =
    let one : symbols_of (substituted at u) ≡ 1 = ap (λ t. symbols_of (substituted at t)) same ∙ ap symbols_of (fold-Const TypeTerm (substituted_step at) (Named 0)) ∙ fold-Const ℕ symbols_step (Named 0) in
    subst (λ m. MatchOption o (room < m) (λ left. m + left ≡ room)) (sym one) h
