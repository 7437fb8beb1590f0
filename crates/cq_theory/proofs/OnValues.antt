-- Induction over values, and the value that a function gives.
use Rattle.std.proofs.Common.{ℕ, zero, suc, Bool, true, false, List, [], ◌∷◌, Some, ◌≡◌, ◌<◌, ◌==◌, ◌&&◌, map, refl, sym, ap, subst, ◌∙◌, inl, inr}
use Rattle.std.specs.Prelude.{slice_get, slice_index_or, find, All}
use Rattle.std.proofs.lemmas.Bool.{eqb-true, eq-eqb, cases_order, and_parts}
use Rattle.std.proofs.lemmas.Option.{slice_get_within, get_or_from_slice_get}
use Rattle.std.proofs.lemmas.List.Elements.{All-head, All-tail}
use Rattle.cq_theory.specs.SchemaData.{SchemaData as Schema}
use Rattle.cq_theory.specs.declared.value.Value.{Value}
use Rattle.cq_theory.specs.declared.value.Value.TheVariants.{Const, Null, Fun, rolls-Const, rolls-Null, rolls-Fun}
use Rattle.cq_theory.specs.declared.value.Value.TheOpen as layer
use Rattle.cq_theory.specs.declared.value.Value.TheFolds.{ind-Value, map-Value}
use Rattle.cq_theory.specs.declared.value.Value.TheViews.{roll-Value}
use Rattle.cq_theory.specs.declared.value.Entry.{Entry}
use Rattle.cq_theory.specs.declared.constant.Con.{Con}
use Rattle.cq_theory.specs.Constant.{con_equal}
use Rattle.cq_theory.proofs.Constants.{same_con_true}
use Rattle.cq_theory.specs.Tables.{Tables, same_plain, all_same_plain, is_for, entry_or_built, applied, IsPlain, IsSoundEntry, IsWellFormed}

-- P holds of each value of a list
abbrev pub Each : (Value → Type 0) → List Value → Type 0
Each P [] = Unit {0}
Each P (v ∷ vs) = P v × Each P vs

module _ (P : Value → Type 0)
    (on_const : (n : Con) → P (Const n)) (on_null : (n : ℕ) → P (Null n))
    (on_fun : (f : ℕ) (vs : List Value) → Each P vs → P (Fun f vs)) where
  each_such : (ys : List ((v : Value) × P v)) → Each P (map (λ e. e.0) ys)
  each_such [] = tt
  each_such (y ∷ ys) = (y.1, each_such ys)

  at_layer : (x : layer.Value-F Value) (y : layer.Value-F ((v : Value) × P v)) → map-Value ((v : Value) × P v) Value (λ e. e.0) y ≡ x → P (roll-Value x)
  at_layer x (layer.Const n) is = subst (λ z. P (roll-Value z)) is (subst P (sym (rolls-Const n)) (on_const n))
  at_layer x (layer.Null n) is = subst (λ z. P (roll-Value z)) is (subst P (sym (rolls-Null n)) (on_null n))
  at_layer x (layer.Fun f ys) is = subst (λ z. P (roll-Value z)) is (subst P (sym (rolls-Fun f (map (λ e. e.0) ys))) (on_fun f (map (λ e. e.0) ys) (each_such ys)))

  -- induction over values
  pub on_values : (v : Value) → P v
  on_values = ind-Value P at_layer

-- a claim on all members, at one of them, and from each of them
pub All_at : {X : Type 0} (P : X → Type 0) (xs : List X) (n : ℕ) (x : X) → All P xs → slice_get xs n ≡ Some x → P x
All_at P xs n x all h = subst P (get_or_from_slice_get xs n x x h) (all n x (slice_get_within xs n x h))

same_plain_true : (v w : Value) → same_plain v w ≡ true → v ≡ w
same_plain_true (Const c) (Const d) h = ap Const (same_con_true c d h)
same_plain_true (Null n) (Null m) h = ap Null (eqb-true n m h)
same_plain_true _ _ h = cc

all_same_plain_true : (vs ws : List Value) → all_same_plain vs ws ≡ true → vs ≡ ws
all_same_plain_true [] [] h = refl
all_same_plain_true [] (w ∷ ws) h = cc
all_same_plain_true (v ∷ vs) [] h = cc
all_same_plain_true (v ∷ vs) (w ∷ ws) h =
    let parts = and_parts (same_plain v w) (all_same_plain vs ws) h in
    let first : v ≡ w = same_plain_true v w parts.0 in
    let rest : vs ≡ ws = all_same_plain_true vs ws parts.1 in
    λ i. first i ∷ rest i

-- an entry for a function at some values has that function and those values
pub entry_for : (f : ℕ) (vs : List Value) (e : Entry) → is_for f vs e ≡ true → (e.function ≡ f) × (vs ≡ e.args)
entry_for f vs e h = let parts = and_parts (e.function == f) (all_same_plain vs e.args) h in (eqb-true e.function f parts.0, all_same_plain_true vs e.args parts.1)

-- what is found passes the test and stands in the list
pub found_passes : {X : Type 0} (p : X → Bool) (xs : List X) (x : X) → find p xs ≡ Some x → (n : ℕ) × (slice_get xs n ≡ Some x) × (p x ≡ true)
found_passes p [] x h = cc
found_passes p (y ∷ ys) x h = at_test (p y) refl (λ later. found_passes p ys x later)
  where
    at_test : (b : Bool) → p y ≡ b → (find p ys ≡ Some x → (n : ℕ) × (slice_get ys n ≡ Some x) × (p x ≡ true)) → (n : ℕ) × (slice_get (y ∷ ys) n ≡ Some x) × (p x ≡ true)
    at_test true e next = let same : y ≡ x = let here : find p (y ∷ ys) ≡ Some y = rw e in cc in (0, ap (λ z. Some z) same, ap p (sym same) ∙ e)
    at_test false e next =
        let later : find p (y ∷ ys) ≡ find p ys = rw e in
        let rest = next (sym later ∙ h) in
        (suc rest.0, rest.1, rest.2)

-- a list with a member that passes the test has a first one
some_found : {X : Type 0} (p : X → Bool) (xs : List X) (n : ℕ) (x : X) → slice_get xs n ≡ Some x → p x ≡ true → (y : X) × (find p xs ≡ Some y)
some_found p [] n x h passes = cc
some_found p (y ∷ ys) n x h passes = at_test (p y) refl n h (λ m at. some_found p ys m x at passes)
  where
    at_test : (b : Bool) → p y ≡ b → (m : ℕ) → slice_get (y ∷ ys) m ≡ Some x → ((k : ℕ) → slice_get ys k ≡ Some x → (z : _) × (find p ys ≡ Some z)) → (z : _) × (find p (y ∷ ys) ≡ Some z)
    at_test true e m at next = (y, rw e)
    at_test false e zero at next = let same : y ≡ x = cc in let other : p y ≡ true = ap p same ∙ passes in cc
    at_test false e (suc m) at next =
        let later : find p (y ∷ ys) ≡ find p ys = rw e in
        let rest = next m at in
        (rest.0, later ∙ rest.1)

same_plain_itself : (v : Value) → IsPlain v → same_plain v v ≡ true
same_plain_itself (Const c) h = con_equal.refl c
same_plain_itself (Null n) h = eq-eqb n n refl
same_plain_itself _ h = absurd h

all_same_plain_itself : (vs : List Value) → All IsPlain vs → all_same_plain vs vs ≡ true
all_same_plain_itself [] h = refl
all_same_plain_itself (v ∷ vs) h =
    ap (λ b. b && all_same_plain vs vs) (same_plain_itself v (All-head IsPlain v vs h)) ∙ all_same_plain_itself vs (All-tail IsPlain v vs h)

module _ (S : Schema) (M : Tables) (well : IsWellFormed S M) where
  -- entries of one function at equal arguments are one
  one_entry : (i j : ℕ) (e e' : Entry) → slice_get M.algebra.entries i ≡ Some e → slice_get M.algebra.entries j ≡ Some e'
      → e.function ≡ e'.function → e.args ≡ e'.args → e ≡ e'
  one_entry i j e e' at at' same_function same_args =
      elim (cases_order i j) [
        | inl same ↦ let there : Some e ≡ Some e' = sym at ∙ ap (slice_get M.algebra.entries) same ∙ at' in cc
        | inr other ↦ elim other [
          | inl before ↦ absurd (apart i j e e' at at' before same_function same_args)
          | inr after ↦ absurd (apart j i e' e at' at after (sym same_function) (sym same_args))
        ]
      ]
    where
      apart : (m n : ℕ) (f g : Entry) → slice_get M.algebra.entries m ≡ Some f → slice_get M.algebra.entries n ≡ Some g → m < n → f.function ≡ g.function → f.args ≡ g.args → ⊥
      apart m n f g here there before one_function one_args =
          let P : Entry → Entry → Type 0 = λ x y. x.function ≡ y.function → x.args ≡ y.args → ⊥ in
          let far : P (slice_index_or M.algebra.entries m f) (slice_index_or M.algebra.entries n f) = well.distinct m n f before (slice_get_within M.algebra.entries n g there) in
          let both : P f g = subst (λ (x : Entry). P x g) (get_or_from_slice_get M.algebra.entries m f f here)
          (subst (λ (y : Entry). P (slice_index_or M.algebra.entries m f) y) (get_or_from_slice_get M.algebra.entries n g f there) far) in
          both one_function one_args

  -- a function at the arguments of an entry gives the value of the entry
  pub applied-entry : (n : ℕ) (e : Entry) → slice_get M.algebra.entries n ≡ Some e → applied M e.function e.args ≡ e.value
  applied-entry n e at =
      let sound : IsSoundEntry S M e = All_at (IsSoundEntry S M) M.algebra.entries n e well.entries at in
      let passes : is_for e.function e.args e ≡ true = ap (λ b. b && all_same_plain e.args e.args) (eq-eqb e.function e.function refl) ∙ all_same_plain_itself e.args sound.plain.0 in
      let found = some_found (is_for e.function e.args) M.algebra.entries n e at passes in
      let stands = found_passes (is_for e.function e.args) M.algebra.entries found.0 found.1 in
      let for_it = entry_for e.function e.args found.0 stands.2 in
      let same : found.0 ≡ e = one_entry stands.0 n found.0 e stands.1 at for_it.0 (sym for_it.1) in
      ap (λ o. entry_or_built o e.function e.args) found.1 ∙ ap (λ (x : Entry). x.value) same
