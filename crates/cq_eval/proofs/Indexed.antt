-- Indexes of where equations, one by one.
use Rattle.std.proofs.lemmas.List.{length-map}
use Rattle.std.specs.Prelude.{slice_index, slice_index_or}
use Rattle.std.specs.List.{list_any}
use Rattle.std.proofs.Common.{set, false, ◌==◌, refl}
use Rattle.cq_theory.specs.declared.presentation.Equation.TheVariants.{Ent}
use Rattle.cq_theory.specs.declared.term.EntTerm.{EntTerm}
use Rattle.cq_theory.specs.SchemaData.{SchemaData as Schema}
use Rattle.cq_theory.specs.Tables.{AtRow, row_in}
use Rattle.cq_instance.specs.Terms.{IsOnWay}
use Rattle.cq_instance.proofs.OnWay.{begins}
use Rattle.cq_query.specs.Answers.{IsTuple}
use Rattle.cq_eval.specs.Testing.{IsTestAt}
use Rattle.cq_eval.proofs.Extended.{tuple_set, first_tuple}
use Rattle.std.proofs.Common.{ℕ, zero, suc, List, [], ◌∷◌, ◌++◌, Option, Some, None, ◌≡◌, ◌<◌, ◌+◌, map, take, length, get_or, IfSome, sym, ap, subst, ◌∙◌, arith}
use Rattle.std.specs.Prelude.{slice_get}
use Rattle.std.proofs.lemmas.List.{take_more, length-take-le}
use Rattle.cq_theory.specs.declared.presentation.Equation.{Equation}
use Rattle.cq_theory.specs.Tables.{Tables}
use Rattle.cq_eval.specs.Index.{IsIndex, AreIndexes}
use Rattle.cq_eval.specs.declared.index.TestIndex.{TestIndex}

-- one more member beside one more
module _ {X Y : Type 0} (R : X → Y → Type 0) (x : X) (y : Y) (here : R x y) where
  beside_more : (xs : List X) (ys : List Y) → length xs ≡ length ys → ((n : ℕ) (e : X) (o : Y) → slice_get xs n ≡ Some e → slice_get ys n ≡ Some o → R e o)
      → (n : ℕ) (e : X) (o : Y) → slice_get (xs ++ x ∷ []) n ≡ Some e → slice_get (ys ++ y ∷ []) n ≡ Some o → R e o
  beside_more [] [] same h zero e o at there =
      let first : x ≡ e = cc in
      let second : y ≡ o = cc in
      subst (λ o. R e o) second (subst (λ e. R e y) first here)
  beside_more [] [] same h (suc n) e o at there = cc
  beside_more [] (b ∷ ys) same h n e o at there = absurd (omega arith)
  beside_more (a ∷ xs) [] same h n e o at there = absurd (omega arith)
  beside_more (a ∷ xs) (b ∷ ys) same h zero e o at there = h 0 e o at there
  beside_more (a ∷ xs) (b ∷ ys) same h (suc n) e o at there = beside_more xs ys (omega arith) (λ k f p. h (suc k) f p) n e o at there

module _ (M : Tables) (counts : List ℕ) where
  abbrev HasIndex : Equation → Option TestIndex → Type 0
  HasIndex e o = IfSome o (IsIndex M counts e)

  known : (tests : List Equation) (made : List (Option TestIndex)) → AreIndexes M counts tests made → (n : ℕ) (e : Equation) (o : Option TestIndex) → slice_get tests n ≡ Some e → slice_get made n ≡ Some o → HasIndex e o
  known tests made before n e (Some index) at there = before n e index at there
  known tests made before n e None at there = tt

  pub indexes_more : (tests : List Equation) (made : List (Option TestIndex)) (i : ℕ) (test : Equation) (new : Option TestIndex) → i < length tests → length made ≡ i → test ≡ get_or tests i test
      → AreIndexes M counts (take i tests) made → HasIndex test new → AreIndexes M counts (take (i + 1) tests) (made ++ new ∷ [])
  indexes_more tests made i test new within size is before here =
      let longer : take (i + 1) tests ≡ take i tests ++ test ∷ [] = take_more tests i test within ∙ ap (λ t. take i tests ++ t ∷ []) (sym is) in
      let same : length (take i tests) ≡ length made = length-take-le i tests (omega arith) ∙ sym size in
      λ n e index at there.
      beside_more HasIndex test new here (take i tests) made same (λ k f o p q. known (take i tests) made before k f o p q) n e (Some index) (ap (λ l. slice_get l n) (sym longer) ∙ at) there

read_set : (zs : List ℕ) (g row : ℕ) → g < length zs → slice_index_or (map AtRow (set zs g row)) g (AtRow 0) ≡ AtRow row
read_set [] g row h = absurd (omega arith)
read_set (z ∷ zs) zero row h = refl
read_set (z ∷ zs) (suc g) row h = read_set zs g row (omega arith)

-- the paths of a where equation lead from each row of their variables
module _ (S : Schema) (M : Tables) (counts : List ℕ) (some : list_any (λ count. count == 0) counts ≡ false) (e : Equation) (typed : (rows : List ℕ) → IsTuple rows counts → IsTestAt S M rows e)
    (t u : EntTerm) (is : e ≡ Ent t u) where
  abbrev rows_at : ℕ → ℕ → List ℕ
  rows_at g row = set (map (λ _. 0) counts) g row

  sides_at : (g row : ℕ) → row < slice_index counts g → IsTestAt S M (rows_at g row) (Ent t u)
  sides_at g row less = subst (IsTestAt S M (rows_at g row)) is (typed (rows_at g row) (tuple_set (map (λ _. 0) counts) counts g row (first_tuple counts some) less))

  zeros : length {A = ℕ} (map (λ _. 0) counts) ≡ length counts
  zeros = length-map counts (λ _. 0)

  pub left_way : t.generator < length counts → (row : ℕ) → row < slice_index counts t.generator → (target : ℕ) × IsOnWay S M t.path row target
  left_way within row less =
      let sides = sides_at t.generator row less in
      (sides.0, subst (λ r. IsOnWay S M t.path r sides.0) (ap row_in (read_set (map (λ _. 0) counts) t.generator row (omega (arith, within, zeros)))) (begins S M (map AtRow (rows_at t.generator row)) t sides.0 sides.1))

  pub right_way : u.generator < length counts → (row : ℕ) → row < slice_index counts u.generator → (target : ℕ) × IsOnWay S M u.path row target
  right_way within row less =
      let sides = sides_at u.generator row less in
      (sides.0, subst (λ r. IsOnWay S M u.path r sides.0) (ap row_in (read_set (map (λ _. 0) counts) u.generator row (omega (arith, within, zeros)))) (begins S M (map AtRow (rows_at u.generator row)) u sides.0 sides.2))
