-- Lists of which some members are left out.
use Rattle.std.proofs.Common.{ℕ, zero, suc, Bool, true, false, not, List, [], ◌∷◌, ◌++◌, Option, Some, None, ◌≡◌, ◌⊎◌, inl, inr, ◌&&◌, cond, filter, refl, sym, ap, subst, ◌∙◌, eq-eqb}
use Rattle.std.specs.Prelude.{slice_get, nat_eq}
use Rattle.std.specs.List.{filter_map, cons_option}
use borrow.Author.Tests.{eqb-true}
use Rattle.std.proofs.lemmas.Bool.{cases_Bool}
use Rattle.std.proofs.lemmas.List.Elements.{filter_map-append}
use Rattle.cq_theory.specs.Listed.{firsts}
use Rattle.cq_model.specs.Thins.{Thins, ended, kept, skipped}
use Rattle.cq_instance.proofs.Lists.{IsIn}
use Rattle.cq_model.proofs.BuiltEntries.{in_filter_map}

module _ {X : Type 0} (Skips : X → Type 0) where
  -- none is left out
  pub Thins-all : (xs : List X) → Thins Skips xs xs
  Thins-all [] = ended
  Thins-all (x ∷ xs) = kept x (Thins-all xs)

  -- what is kept is a member
  pub in_thinned : {xs ys : List X} → Thins Skips xs ys → (n : ℕ) (y : X) → slice_get ys n ≡ Some y → IsIn y xs
  in_thinned ended n y h = let none : slice_get [] n ≡ Some y = h in cc
  in_thinned (kept x s) zero y h = record { place = 0; is = h }
  in_thinned (kept x s) (suc n) y h = let i = in_thinned s n y h in record { place = suc i.place; is = i.is }
  in_thinned (skipped x d s) n y h = let i = in_thinned s n y h in record { place = suc i.place; is = i.is }

  pub Thins-append : {xs ys zs ws : List X} → Thins Skips xs ys → Thins Skips zs ws → Thins Skips (xs ++ zs) (ys ++ ws)
  Thins-append ended t = t
  Thins-append (kept x s) t = kept x (Thins-append s t)
  Thins-append (skipped x h s) t = skipped x h (Thins-append s t)

  pub Thins-moved : (xs xs' ys ys' : List X) → xs ≡ xs' → ys ≡ ys' → Thins Skips xs' ys' → Thins Skips xs ys
  Thins-moved xs xs' ys ys' p q t = subst (λ (l : List X). Thins Skips l ys) (sym p) (subst (λ (l : List X). Thins Skips xs' l) (sym q) t)

  pub Thins-weaker : (Others : X → Type 0) → ((x : X) → Skips x → Others x) → {xs ys : List X} → Thins Skips xs ys → Thins Others xs ys
  Thins-weaker Others weaker ended = ended
  Thins-weaker Others weaker (kept x s) = kept x (Thins-weaker Others weaker s)
  Thins-weaker Others weaker (skipped x h s) = skipped x (weaker x h) (Thins-weaker Others weaker s)

  -- what holds of the members that are kept and of those that are left out
  pub from_Thins : (P : X → Type 0) → ((x : X) → Skips x → P x) → {xs ys : List X} → Thins Skips xs ys → ((y : X) → IsIn y ys → P y) → (n : ℕ) (x : X) → slice_get xs n ≡ Some x → P x
  from_Thins P skips ended each n x h = let none : slice_get [] n ≡ Some x = h in cc
  from_Thins P skips (kept y s) each zero x h = each x (record { place = 0; is = h })
  from_Thins P skips (kept y s) each (suc n) x h = from_Thins P skips s (λ z i. each z (record { place = suc i.place; is = i.is })) n x h
  from_Thins P skips (skipped y d s) each zero x h = let same : y ≡ x = cc in subst P same (skips y d)
  from_Thins P skips (skipped y d s) each (suc n) x h = from_Thins P skips s each n x h

  pub filter_map-Thins : {Y : Type 0} (f : X → Option Y) → ((x : X) → Skips x → f x ≡ None) → {xs ys : List X} → Thins Skips xs ys → filter_map f xs ≡ filter_map f ys
  filter_map-Thins f none ended = refl
  filter_map-Thins f none (kept x s) = ap (cons_option (f x)) (filter_map-Thins f none s)
  filter_map-Thins f none (skipped {xs = xs} x h s) = ap (λ o. cons_option o (filter_map f xs)) (none x h) ∙ filter_map-Thins f none s

-- Two filters.

filter_swap : {X : Type 0} (p q : X → Bool) (xs : List X) → filter p (filter q xs) ≡ filter q (filter p xs)
filter_swap p q [] = refl
filter_swap p q (x ∷ xs) = go (p x) (q x) refl refl (filter_swap p q xs)
  where
    go : (a b : Bool) → p x ≡ a → q x ≡ b → filter p (filter q xs) ≡ filter q (filter p xs)
        → filter p (cond (q x) (x ∷ filter q xs) (filter q xs)) ≡ filter q (cond (p x) (x ∷ filter p xs) (filter p xs))
    go true true e f h = rw (f, e, f) (ap (λ l. x ∷ l) h)
    go true false e f h = rw (f, e, f) h
    go false true e f h = rw (f, e) h
    go false false e f h = rw (f, e) h

-- a filter that lets pass what another lets pass
filter_implied : {X : Type 0} (p q : X → Bool) → ((x : X) → p x ≡ true → q x ≡ true) → (xs : List X) → filter p (filter q xs) ≡ filter p xs
filter_implied p q implied [] = refl
filter_implied p q implied (x ∷ xs) = go (p x) (q x) refl refl (filter_implied p q implied xs)
  where
    go : (a b : Bool) → p x ≡ a → q x ≡ b → filter p (filter q xs) ≡ filter p xs
        → filter p (cond (q x) (x ∷ filter q xs) (filter q xs)) ≡ cond (p x) (x ∷ filter p xs) (filter p xs)
    go true true e f h = rw (f, e) (ap (λ l. x ∷ l) h)
    go true false e f h = let passes : q x ≡ true = implied x e in cc
    go false true e f h = rw (f, e) h
    go false false e f h = rw (f, e) h

filter_both : {X : Type 0} (p q : X → Bool) (xs : List X) → filter p (filter q xs) ≡ filter (λ x. p x && q x) xs
filter_both p q [] = refl
filter_both p q (x ∷ xs) = go (p x) (q x) refl refl (filter_both p q xs)
  where
    go : (a b : Bool) → p x ≡ a → q x ≡ b → filter p (filter q xs) ≡ filter (λ x. p x && q x) xs
        → filter p (cond (q x) (x ∷ filter q xs) (filter q xs)) ≡ cond (p x && q x) (x ∷ filter (λ x. p x && q x) xs) (filter (λ x. p x && q x) xs)
    go true true e f h = rw (f, e) (ap (λ l. x ∷ l) h)
    go true false e f h = rw (f, e) h
    go false true e f h = rw (f, e) h
    go false false e f h = rw (f, e) h

filter_true : {X : Type 0} (xs : List X) → filter (λ _. true) xs ≡ xs
filter_true [] = refl
filter_true (x ∷ xs) = ap (λ l. x ∷ l) (filter_true xs)

-- Numbers that equal an earlier one, or that a filter drops, may be left out.

abbrev Dropped : (ℕ → Bool) → List ℕ → ℕ → Type 0
Dropped p us x = IsIn x us ⊎ (p x ≡ false)

other_number : (p : ℕ → Bool) (x y : ℕ) → p x ≡ false → p y ≡ true → not (nat_eq x y) ≡ true
other_number p x y d h = elim (cases_Bool (nat_eq x y)) [
  | inl e ↦ let same : x ≡ y = eqb-true x y e in let both : p x ≡ p y = ap p same in cc
  | inr e ↦ ap not e
]

firsts_filtered : (p : ℕ → Bool) {bs cs : List ℕ} → Thins (λ x. p x ≡ false) bs cs → filter p (firsts nat_eq bs) ≡ filter p (firsts nat_eq cs)
firsts_filtered p ended = refl
firsts_filtered p (kept {xs = xs} {ys = ys} x s) =
    let other : ℕ → Bool = λ y. not (nat_eq x y) in
    let rest : filter p (filter other (firsts nat_eq xs)) ≡ filter p (filter other (firsts nat_eq ys)) =
    filter_swap p other (firsts nat_eq xs) ∙ ap (filter other) (firsts_filtered p s) ∙ sym (filter_swap p other (firsts nat_eq ys)) in
    ap (λ l. cond (p x) (x ∷ l) l) rest
firsts_filtered p (skipped {xs = xs} {ys = ys} x d s) =
    let other : ℕ → Bool = λ y. not (nat_eq x y) in
    ap (λ b. cond b (x ∷ filter p (filter other (firsts nat_eq xs))) (filter p (filter other (firsts nat_eq xs)))) d
    ∙ filter_implied p other (λ y h. other_number p x y d h) (firsts nat_eq xs)
    ∙ firsts_filtered p s

past_first : (p : ℕ → Bool) (a : ℕ) (us : List ℕ) (x : ℕ) → Dropped p (a ∷ us) x → Dropped (λ y. p y && not (nat_eq a y)) us x
past_first p a us x (inl i) = go i.place i.is
  where
    and_false : (b : Bool) → (b && false) ≡ false
    and_false true = refl
    and_false false = refl

    go : (n : ℕ) → slice_get (a ∷ us) n ≡ Some x → Dropped (λ y. p y && not (nat_eq a y)) us x
    go zero h = let same : a ≡ x = cc in inr (ap (λ b. p x && not b) (eq-eqb a x same) ∙ and_false (p x))
    go (suc n) h = inl (record { place = n; is = h })
past_first p a us x (inr d) = inr (ap (λ b. b && not (nat_eq a x)) d)

firsts_thinned : (us : List ℕ) (p : ℕ → Bool) {bs cs : List ℕ} → Thins (Dropped p us) bs cs → filter p (firsts nat_eq (us ++ bs)) ≡ filter p (firsts nat_eq (us ++ cs))
firsts_thinned [] p t = firsts_filtered p (Thins-weaker (Dropped p []) (λ x. p x ≡ false) none t)
  where
    none : (x : ℕ) → Dropped p [] x → p x ≡ false
    none x (inl i) = let nowhere : slice_get [] i.place ≡ Some x = i.is in cc
    none x (inr d) = d
firsts_thinned (a ∷ us) p {bs} {cs} t =
    let other : ℕ → Bool = λ y. not (nat_eq a y) in
    let rest : filter p (filter other (firsts nat_eq (us ++ bs))) ≡ filter p (filter other (firsts nat_eq (us ++ cs))) =
    filter_both p other (firsts nat_eq (us ++ bs))
    ∙ firsts_thinned us (λ y. p y && other y) (Thins-weaker (Dropped p (a ∷ us)) (Dropped (λ y. p y && other y) us) (past_first p a us) t)
    ∙ sym (filter_both p other (firsts nat_eq (us ++ cs))) in
    ap (λ l. cond (p a) (a ∷ l) l) rest

module _ {X : Type 0} (Skips : X → Type 0) (f : X → Option ℕ) (zs : List X) (earlier : (x : X) → Skips x → (z : X) × IsIn z zs × (f x ≡ f z)) where
  abbrev Known : ℕ → Type 0
  Known = Dropped (λ _. true) (filter_map f zs)

  kept_option : (o : Option ℕ) {us bs : List ℕ} → Thins Known us bs → Thins Known (cons_option o us) (cons_option o bs)
  kept_option None t = t
  kept_option (Some n) t = kept n t

  skipped_option : (o : Option ℕ) {us bs : List ℕ} → ((n : ℕ) → o ≡ Some n → Known n) → Thins Known us bs → Thins Known (cons_option o us) bs
  skipped_option None known t = t
  skipped_option (Some n) known t = skipped n (known n refl) t

  numbers_thinned : {xs ys : List X} → Thins Skips xs ys → Thins Known (filter_map f xs) (filter_map f ys)
  numbers_thinned ended = ended
  numbers_thinned (kept x s) = kept_option (f x) (numbers_thinned s)
  numbers_thinned (skipped x d s) = skipped_option (f x) (λ n h. let z = earlier x d in inl (in_filter_map f z.0 n zs z.1 (sym z.2 ∙ h))) (numbers_thinned s)

  -- members that give a number which an earlier member gives may be left out
  pub firsts-Thins : (xs ys : List X) → Thins Skips xs ys → firsts nat_eq (filter_map f (zs ++ xs)) ≡ firsts nat_eq (filter_map f (zs ++ ys))
  firsts-Thins xs ys t =
      ap (firsts nat_eq) (filter_map-append f zs xs)
      ∙ sym (filter_true (firsts nat_eq (filter_map f zs ++ filter_map f xs)))
      ∙ firsts_thinned (filter_map f zs) (λ _. true) (numbers_thinned t)
      ∙ filter_true (firsts nat_eq (filter_map f zs ++ filter_map f ys))
      ∙ ap (firsts nat_eq) (sym (filter_map-append f zs ys))
