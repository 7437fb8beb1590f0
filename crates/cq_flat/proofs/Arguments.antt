-- Arguments are earlier nodes, and equal keys make nodes equal.
use Rattle.std.proofs.Common.{◌≡◌, ℕ, ◌+◌, ◌<◌, ◌≤◌, List, [], ◌∷◌, length, Some, sym, ◌∙◌, ap, arith, map, inl, inr}
use Rattle.std.proofs.lemmas.Bool.{cases_lt}
use Rattle.std.proofs.lemmas.Option.{slice_get_within, same_Some}
use Rattle.std.proofs.lemmas.List.Elements.{All-head, All-tail, All-weaker}
use Rattle.std.specs.Prelude.{All, slice_get}
use Rattle.cq_theory.specs.declared.constant.Con.{Con}
use Rattle.cq_theory.specs.declared.constant.Con.TheVariants.{Named, Open}
use Rattle.cq_flat.specs.declared.node.Node.{Node}
use Rattle.cq_flat.specs.declared.node.Node.TheVariants.{Leaf, Const, Fun}
use Rattle.cq_flat.specs.Nodes.{HasEarlierArguments, HasArgumentsBelow}
use Rattle.cq_flat.specs.Keys.{key_of, con_key}
use Rattle.cq_flat.specs.Partition.{Has}
use Rattle.cq_flat.specs.Congruence.{Congruent, AllCongruent, symmetric, transitive, constants, functions, none, more}
use Rattle.cq_flat.specs.Closing.{AreSound}

-- the arguments of the first n nodes
abbrev pub AreEarlierBelow : List Node → ℕ → Type 0
AreEarlierBelow nodes n = (a f : ℕ) (args : List ℕ) → a < n → slice_get nodes a ≡ Some (Fun f args) → All (λ x. x < a) args

module _ (nodes : List Node) (n : ℕ) where
  pub earlier_plain : AreEarlierBelow nodes n → ((f : ℕ) (args : List ℕ) → slice_get nodes n ≡ Some (Fun f args) → ⊥) → AreEarlierBelow nodes (n + 1)
  earlier_plain s plain a f args l is = elim (cases_lt a n) as (λ _. All (λ x. x < a) args) [
    | inl h ↦ s a f args h is
    | inr g ↦ let e : a ≡ n = omega arith in absurd (plain f args (rw e at is))
  ]

  pub earlier_more : (g : ℕ) (own : List ℕ) → slice_get nodes n ≡ Some (Fun g own) → All (λ x. x < n) own → AreEarlierBelow nodes n → AreEarlierBelow nodes (n + 1)
  earlier_more g own here h s a f args l is = elim (cases_lt a n) as (λ _. All (λ x. x < a) args) [
    | inl m ↦ s a f args m is
    | inr q ↦
        let e : a ≡ n = omega arith in
        let i : Some (Fun f args) ≡ Some (Fun g own) = sym is ∙ ap (slice_get nodes) e ∙ here in
        let j : args ≡ own = cc in
        rw (e, j) h
  ]

  pub earlier_all : length nodes ≤ n → AreEarlierBelow nodes n → HasEarlierArguments nodes
  earlier_all l s a f args is = s a f args (omega (arith, l, slice_get_within nodes a (Fun f args) is)) is

module _ (nodes : List Node) (early : HasEarlierArguments nodes) where
  pub args_within : (a f : ℕ) (args : List ℕ) → slice_get nodes a ≡ Some (Fun f args) → All (λ x. x < length nodes) args
  args_within a f args is =
      let l = slice_get_within nodes a (Fun f args) is in
      All-weaker (λ x. x < a) (λ x. x < length nodes) (λ x h. omega (arith, h, l)) args (early a f args is)

  pub argument_within : (a f x : ℕ) (args : List ℕ) → slice_get nodes a ≡ Some (Fun f args) → Has args x → x < length nodes
  argument_within a f x args is h = omega (arith, args_within a f args is h.0 0 h.1, h.2)

  pub args_below : (a : ℕ) (x : Node) → slice_get nodes a ≡ Some x → HasArgumentsBelow (length nodes) x
  args_below a Leaf is = tt
  args_below a (Const c) is = tt
  args_below a (Fun f args) is = args_within a f args is

  module _ (equations : List (ℕ × ℕ)) (class class' : ℕ → ℕ) (s : AreSound nodes equations class) (s' : AreSound nodes equations class') where
    equal_args : (xs ys : List ℕ) → All (λ x. x < length nodes) xs → All (λ x. x < length nodes) ys → map class xs ≡ map class' ys → AllCongruent nodes equations xs ys
    equal_args [] [] p q e = none
    equal_args [] (y ∷ ys) p q e = absurd (cc)
    equal_args (x ∷ xs) [] p q e = absurd (cc)
    equal_args (x ∷ xs) (y ∷ ys) p q e =
        let h : class x ≡ class' y = cc in
        let t : map class xs ≡ map class' ys = cc in
        more
        (transitive (s x (All-head (λ z. z < length nodes) x xs p)) (rw h (symmetric (s' y (All-head (λ z. z < length nodes) y ys q)))))
        (equal_args xs ys (All-tail (λ z. z < length nodes) x xs p) (All-tail (λ z. z < length nodes) y ys q) t)

    -- the keys of constants tell them apart, also from functions
    con_key-one : (c d : Con) → con_key c ≡ con_key d → c ≡ d
    con_key-one (Named m) (Named n) h = let same : m ≡ n = cc in ap Named same
    con_key-one (Named m) (Open t) h = cc
    con_key-one (Open s) (Named n) h = cc
    con_key-one (Open s) (Open t) h = let same : s ≡ t = cc in ap Open same

    no_function : (c : Con) (f : ℕ) (args : List ℕ) → con_key c ≡ 0 ∷ 1 ∷ f ∷ args → ⊥
    no_function (Named n) f args h = cc
    no_function (Open t) f args h = cc

    -- two nodes have one key, each under classes that are sound
    pub equal_keys : (a b : ℕ) (x y : Node) (key : List ℕ) → slice_get nodes a ≡ Some x → slice_get nodes b ≡ Some y → key_of class x ≡ Some key → key_of class' y ≡ Some key → Congruent nodes equations a b
    equal_keys a b Leaf y key ia ib e f = absurd (cc)
    equal_keys a b (Const c) Leaf key ia ib e f = absurd (cc)
    equal_keys a b (Const c) (Const d) key ia ib e f =
        let h : c ≡ d = con_key-one c d (same_Some (con_key c) (con_key d) (e ∙ sym f)) in
        constants d (ia ∙ ap (λ z. Some (Const z)) h) ib
    equal_keys a b (Const c) (Fun g ys) key ia ib e f = absurd (no_function c g (map class' ys) (same_Some (con_key c) (0 ∷ 1 ∷ g ∷ map class' ys) (e ∙ sym f)))
    equal_keys a b (Fun g xs) Leaf key ia ib e f = absurd (cc)
    equal_keys a b (Fun g xs) (Const d) key ia ib e f = absurd (no_function d g (map class xs) (same_Some (con_key d) (0 ∷ 1 ∷ g ∷ map class xs) (f ∙ sym e)))
    equal_keys a b (Fun g xs) (Fun h ys) key ia ib e f =
        let i : g ≡ h = cc in
        let m : map class xs ≡ map class' ys = cc in
        functions h (ia ∙ ap (λ z. Some (Fun z xs)) i) ib (equal_args xs ys (args_within a g xs ia) (args_within b h ys ib) m)
