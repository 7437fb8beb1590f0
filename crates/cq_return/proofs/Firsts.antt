-- Lists without what equals an earlier member.
use Rattle.std.proofs.Common.{Bool, true, false, not, List, [], ◌∷◌, ◌++◌, ◌≡◌, ◌||◌, cond, filter, refl, sym, ap, ◌∙◌}
use Rattle.std.proofs.lemmas.List.{append-nil}
use Rattle.std.proofs.lemmas.List.Elements.{filter-append}
use Rattle.cq_theory.specs.Listed.{firsts}
use Rattle.cq_theory.proofs.Every.{Every}

module _ {X : Type 0} (same : X → X → Bool) where
  -- some member equals it
  abbrev pub among : List X → X → Bool
  among [] y = false
  among (x ∷ xs) y = same x y || among xs y

  keep_all : (zs : List X) → filter (λ y. not false) zs ≡ zs
  keep_all [] = refl
  keep_all (z ∷ zs) = ap (λ l. z ∷ l) (keep_all zs)

  twice : (p q : X → Bool) (zs : List X) → filter (λ y. not (p y)) (filter (λ y. not (q y)) zs) ≡ filter (λ y. not (p y || q y)) zs
  twice p q [] = refl
  twice p q (z ∷ zs) = at_tests (p z) (q z) refl (twice p q zs)
    where
      at_tests : (a b : Bool) → p z ≡ a → filter (λ y. not (p y)) (filter (λ y. not (q y)) zs) ≡ filter (λ y. not (p y || q y)) zs
          → filter (λ y. not (p y)) (cond (not b) (z ∷ filter (λ y. not (q y)) zs) (filter (λ y. not (q y)) zs)) ≡ cond (not (a || b)) (z ∷ filter (λ y. not (p y || q y)) zs) (filter (λ y. not (p y || q y)) zs)
      at_tests true true e next = next
      at_tests true false e next = ap (λ c. cond (not c) (z ∷ filter (λ y. not (p y)) (filter (λ y. not (q y)) zs)) (filter (λ y. not (p y)) (filter (λ y. not (q y)) zs))) e ∙ next
      at_tests false true e next = next
      at_tests false false e next =
          ap (λ c. cond (not c) (z ∷ filter (λ y. not (p y)) (filter (λ y. not (q y)) zs)) (filter (λ y. not (p y)) (filter (λ y. not (q y)) zs))) e ∙ ap (λ l. z ∷ l) next

  pub firsts-append : (xs ys : List X) → firsts same (xs ++ ys) ≡ firsts same xs ++ filter (λ y. not (among xs y)) (firsts same ys)
  firsts-append [] ys = sym (keep_all (firsts same ys))
  firsts-append (x ∷ xs) ys =
      ap (λ l. x ∷ filter (λ y. not (same x y)) l) (firsts-append xs ys)
      ∙ ap (λ l. x ∷ l) (filter-append (λ y. not (same x y)) (firsts same xs) (filter (λ y. not (among xs y)) (firsts same ys))
      ∙ ap (λ l. filter (λ y. not (same x y)) (firsts same xs) ++ l) (twice (same x) (among xs) (firsts same ys)))

  -- what is all among others is left out
  pub none_left : (xs zs : List X) → Every (λ y. among xs y ≡ true) zs → filter (λ y. not (among xs y)) zs ≡ []
  none_left xs [] each = refl
  none_left xs (z ∷ zs) each = ap (λ b. cond (not b) (z ∷ filter (λ y. not (among xs y)) zs) (filter (λ y. not (among xs y)) zs)) each.0 ∙ none_left xs zs each.1

  pub filtered : (P : X → Type 0) (p : X → Bool) (zs : List X) → Every P zs → Every P (filter p zs)
  filtered P p [] each = tt
  filtered P p (z ∷ zs) each = at_test (p z) (filtered P p zs each.1)
    where
      at_test : (b : Bool) → Every P (filter p zs) → Every P (cond b (z ∷ filter p zs) (filter p zs))
      at_test true rest = (each.0, rest)
      at_test false rest = rest

  pub firsts_each : (P : X → Type 0) (zs : List X) → Every P zs → Every P (firsts same zs)
  firsts_each P [] each = tt
  firsts_each P (z ∷ zs) each = (each.0, filtered P (λ y. not (same z y)) (firsts same zs) (firsts_each P zs each.1))

  module _ (reflexive : (x : X) → same x x ≡ true) where
    later : (x : X) (xs zs : List X) → Every (λ y. among xs y ≡ true) zs → Every (λ y. among (x ∷ xs) y ≡ true) zs
    later x xs [] each = tt
    later x xs (z ∷ zs) each = (ap (λ b. same x z || b) each.0 ∙ or_true (same x z), later x xs zs each.1)
      where
        or_true : (b : Bool) → (b || true) ≡ true
        or_true true = refl
        or_true false = refl

    -- each member is among them
    pub among_itself : (xs : List X) → Every (λ y. among xs y ≡ true) xs
    among_itself [] = tt
    among_itself (x ∷ xs) = (ap (λ b. b || among xs x) (reflexive x), later x xs xs (among_itself xs))

    -- Where those before make some list with others, so they do with this list and what is among it.
    pub same_firsts : (xs ys ms zs : List X) → firsts same (xs ++ ys) ≡ ms → firsts same ms ≡ ms → Every (λ y. among ms y ≡ true) zs → firsts same (xs ++ (ms ++ zs)) ≡ ms
    same_firsts xs ys ms zs whole alone each =
        let rest = filter (λ y. not (among xs y)) (firsts same ys) in
        let none : filter (λ y. not (among ms y)) (firsts same zs) ≡ [] = none_left ms (firsts same zs) (firsts_each (λ y. among ms y ≡ true) zs each) in
        let behind : firsts same (ms ++ zs) ≡ ms = firsts-append ms zs ∙ (λ j. alone j ++ none j) ∙ append-nil ms in
        let parts : firsts same xs ++ filter (λ y. not (among xs y)) (firsts same ys) ≡ ms = sym (firsts-append xs ys) ∙ whole in
        let own : filter (λ y. not (among xs y)) (firsts same xs) ≡ [] = none_left xs (firsts same xs) (firsts_each (λ y. among xs y ≡ true) xs (among_itself xs)) in
        let again : filter (λ y. not (among xs y)) (filter (λ y. not (among xs y)) (firsts same ys)) ≡ filter (λ y. not (among xs y)) (firsts same ys) =
        twice (among xs) (among xs) (firsts same ys) ∙ or_same (among xs) (firsts same ys) in
        let left : filter (λ y. not (among xs y)) ms ≡ filter (λ y. not (among xs y)) (firsts same ys) =
        ap (filter (λ y. not (among xs y))) (sym parts) ∙ filter-append (λ y. not (among xs y)) (firsts same xs) (filter (λ y. not (among xs y)) (firsts same ys)) ∙ (λ j. own j ++ again j) in
        firsts-append xs (ms ++ zs) ∙ ap (λ l. firsts same xs ++ filter (λ y. not (among xs y)) l) behind ∙ ap (λ l. firsts same xs ++ l) left ∙ parts
      where
        or_one : (b : Bool) → (b || b) ≡ b
        or_one true = refl
        or_one false = refl

        or_same : (p : X → Bool) (zs : List X) → filter (λ y. not (p y || p y)) zs ≡ filter (λ y. not (p y)) zs
        or_same p [] = refl
        or_same p (z ∷ zs) = let one = or_one (p z) in let others = or_same p zs in λ j. cond (not (one j)) (z ∷ others j) (others j)

    -- each member is among the firsts
    module _ (transitive : (x y z : X) → same x y ≡ true → same y z ≡ true → same x z ≡ true) where
      kept : (x y : X) (zs : List X) → among zs y ≡ true → same x y ≡ false → among (filter (λ z. not (same x z)) zs) y ≡ true
      kept x y [] h other = cc
      kept x y (z ∷ zs) h other = at_tests (same x z) (same z y) refl refl h (λ rest. kept x y zs rest other)
        where
          at_tests : (a b : Bool) → same x z ≡ a → same z y ≡ b → (b || among zs y) ≡ true → (among zs y ≡ true → among (filter (λ w. not (same x w)) zs) y ≡ true)
              → among (cond (not a) (z ∷ filter (λ w. not (same x w)) zs) (filter (λ w. not (same x w)) zs)) y ≡ true
          at_tests true true e f h' next = let clash = transitive x z y e f in cc (sym other ∙ clash)
          at_tests true false e f h' next = next h'
          at_tests false true e f h' next = ap (λ b. b || among (filter (λ w. not (same x w)) zs) y) f
          at_tests false false e f h' next = ap (λ b. b || among (filter (λ w. not (same x w)) zs) y) f ∙ next h'

      grown : (x : X) (xs zs : List X) → Every (λ y. among (firsts same xs) y ≡ true) zs → Every (λ y. among (firsts same (x ∷ xs)) y ≡ true) zs
      grown x xs [] each = tt
      grown x xs (z ∷ zs) each = (at_test (same x z) refl, grown x xs zs each.1)
        where
          at_test : (b : Bool) → same x z ≡ b → (same x z || among (filter (λ w. not (same x w)) (firsts same xs)) z) ≡ true
          at_test true e = ap (λ c. c || among (filter (λ w. not (same x w)) (firsts same xs)) z) e
          at_test false e = ap (λ c. c || among (filter (λ w. not (same x w)) (firsts same xs)) z) e ∙ kept x z (firsts same xs) each.0 e

      pub among_firsts : (xs : List X) → Every (λ y. among (firsts same xs) y ≡ true) xs
      among_firsts [] = tt
      among_firsts (x ∷ xs) = (ap (λ b. b || among (filter (λ w. not (same x w)) (firsts same xs)) x) (reflexive x), grown x xs xs (among_firsts xs))
