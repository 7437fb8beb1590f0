-- The entries of functions: which node each is of, and which entry is found.
use Rattle.std.proofs.Common.{ℕ, zero, suc, Bool, true, false, not, cond, List, [], ◌∷◌, Option, Some, None, ◌≡◌, ◌<◌, ◌+◌, ◌==◌, ◌&&◌, ◌⊎◌, map, filter, refl, sym, ap, subst, ◌∙◌, arith, inl, inr, eqb-true, eq-eqb}
use Rattle.std.specs.Prelude.{slice_get, find, All}
use Rattle.std.specs.List.{filter_map, cons_option, enumerate_from}
use Rattle.std.proofs.lemmas.List.Elements.{All-head, All-tail}
use Rattle.cq_theory.proofs.Constants.{same_con_true, same_con_itself}
use Rattle.cq_theory.specs.declared.value.Value.{Value}
use Rattle.cq_theory.specs.declared.value.Value.TheVariants.{Const, Null}
use Rattle.cq_theory.specs.declared.value.Entry.{Entry}
use Rattle.cq_theory.specs.Tables.{IsPlain, is_for, same_plain, all_same_plain}
use Rattle.cq_theory.specs.Listed.{firsts}
use Rattle.cq_theory.proofs.Sound.{both}
use Rattle.cq_flat.specs.declared.node.Node.{Node}
use Rattle.cq_flat.specs.declared.node.Node.TheVariants as node
use Rattle.cq_flat.specs.Values.{value_at, entry_of, entries_of}
use Rattle.cq_instance.proofs.Enumerated.{get-enumerate_from}
use Rattle.cq_instance.proofs.Lists.{IsIn}

later : {X : Type 0} (x y : X) (ys : List X) → IsIn x ys → IsIn x (y ∷ ys)
later x y ys h = record { place = suc h.place; is = h.is }

-- what stands in a list stands at its head or behind it
in_cons : {X : Type 0} (y x : X) (xs : List X) → IsIn y (x ∷ xs) → (x ≡ y) ⊎ IsIn y xs
in_cons y x xs h = go h.place h.is
  where
    go : (n : ℕ) → slice_get (x ∷ xs) n ≡ Some y → (x ≡ y) ⊎ IsIn y xs
    go zero is = inl (let same : x ≡ y = cc in same)
    go (suc n) is = inr (record { place = n; is = is })

-- members that pass a test
pub in_filter : {X : Type 0} (p : X → Bool) (y : X) (xs : List X) → IsIn y xs → p y ≡ true → IsIn y (filter p xs)
in_filter p y [] h passes = let none : slice_get [] h.place ≡ Some y = h.is in cc
in_filter p y (x ∷ xs) h passes = elim (in_cons y x xs h) [
  | inl same ↦ subst (λ b. IsIn y (cond b (x ∷ filter p xs) (filter p xs))) (sym (ap p same ∙ passes)) (record { place = 0; is = ap (λ z. Some z) same })
  | inr rest ↦ behind (p x) (in_filter p y xs rest passes)
] where
  behind : (b : Bool) → IsIn y (filter p xs) → IsIn y (cond b (x ∷ filter p xs) (filter p xs))
  behind true i = later y x (filter p xs) i
  behind false i = i

pub from_filter : {X : Type 0} (p : X → Bool) (y : X) (xs : List X) → IsIn y (filter p xs) → IsIn y xs × (p y ≡ true)
from_filter p y [] h = let none : slice_get [] h.place ≡ Some y = h.is in cc
from_filter p y (x ∷ xs) h = go (λ i. from_filter p y xs i) (p x) refl h
  where
    go : (IsIn y (filter p xs) → IsIn y xs × (p y ≡ true)) → (b : Bool) → p x ≡ b → IsIn y (cond b (x ∷ filter p xs) (filter p xs)) → IsIn y (x ∷ xs) × (p y ≡ true)
    go before true e i = elim (in_cons y x (filter p xs) i) [
      | inl same ↦ (record { place = 0; is = ap (λ z. Some z) same }, ap p (sym same) ∙ e)
      | inr rest ↦ (later y x xs (before rest).0, (before rest).1)
    ]
    go before false e i = (later y x xs (before i).0, (before i).1)

pub in_filter_map : {X Y : Type 0} (f : X → Option Y) (x : X) (y : Y) (xs : List X) → IsIn x xs → f x ≡ Some y → IsIn y (filter_map f xs)
in_filter_map f x y [] h e = let none : slice_get [] h.place ≡ Some x = h.is in cc
in_filter_map f x y (z ∷ zs) h e = elim (in_cons x z zs h) [
  | inl same ↦ subst (λ o. IsIn y (cons_option o (filter_map f zs))) (sym (ap f same ∙ e)) (record { place = 0; is = refl })
  | inr rest ↦ behind (f z) (in_filter_map f x y zs rest e)
] where
  behind : (o : Option _) → IsIn y (filter_map f zs) → IsIn y (cons_option o (filter_map f zs))
  behind None i = i
  behind (Some w) i = later y w (filter_map f zs) i

pub from_filter_map : {X Y : Type 0} (f : X → Option Y) (y : Y) (xs : List X) → IsIn y (filter_map f xs) → (x : X) × IsIn x xs × (f x ≡ Some y)
from_filter_map f y [] h = let none : slice_get [] h.place ≡ Some y = h.is in cc
from_filter_map f y (z ∷ zs) h = go (λ i. from_filter_map f y zs i) (f z) refl h
  where
    go : (IsIn y (filter_map f zs) → (x : _) × IsIn x zs × (f x ≡ Some y)) → (o : Option _) → f z ≡ o → IsIn y (cons_option o (filter_map f zs)) → (x : _) × IsIn x (z ∷ zs) × (f x ≡ Some y)
    go before None e i = ((before i).0, later (before i).0 z zs (before i).1, (before i).2)
    go before (Some w) e i = elim (in_cons y w (filter_map f zs) i) [
      | inl same ↦ (z, record { place = 0; is = refl }, e ∙ ap (λ v. Some v) same)
      | inr rest ↦ ((before rest).0, later (before rest).0 z zs (before rest).1, (before rest).2)
    ]

pub from_enumerate : {X : Type 0} (s : ℕ) (xs : List X) (n : ℕ) (e : ℕ × X) → slice_get (enumerate_from s xs) n ≡ Some e → (e.0 ≡ s + n) × (slice_get xs n ≡ Some e.1)
from_enumerate s [] n e h = cc
from_enumerate s (y ∷ ys) zero e h =
    let same : (s, y) ≡ e = cc in
    let here : s ≡ s + 0 = omega arith in
    (ap (λ (p : ℕ × _). p.0) (sym same) ∙ here, ap (λ (p : ℕ × _). Some p.1) same)
from_enumerate s (y ∷ ys) (suc n) e h =
    let there : s + 1 + n ≡ s + suc n = omega arith in
    let before = from_enumerate (s + 1) ys n e h in
    (before.0 ∙ there, before.1)

-- the member that is found
pub find_some : {X : Type 0} (test : X → Bool) (xs : List X) (x : X) → find test xs ≡ Some x → IsIn x xs × (test x ≡ true)
find_some test [] x h = cc
find_some test (y ∷ ys) x h = go (λ found. find_some test ys x found) (test y) refl h
  where
    go : (find test ys ≡ Some x → IsIn x ys × (test x ≡ true)) → (b : Bool) → test y ≡ b → cond b (Some y) (find test ys) ≡ Some x → IsIn x (y ∷ ys) × (test x ≡ true)
    go before true e found = let same : y ≡ x = cc in (record { place = 0; is = found }, ap test (sym same) ∙ e)
    go before false e found = (later x y ys (before found).0, (before found).1)

pub find_from : {X : Type 0} (test : X → Bool) (xs : List X) (x : X) → IsIn x xs → test x ≡ true → (y : X) × (find test xs ≡ Some y)
find_from test [] x h passes = let none : slice_get [] h.place ≡ Some x = h.is in cc
find_from test (y ∷ ys) x h passes = go (λ rest. find_from test ys x rest passes) (test y) refl
  where
    go : (IsIn x ys → (z : _) × (find test ys ≡ Some z)) → (b : Bool) → test y ≡ b → (z : _) × (cond b (Some y) (find test ys) ≡ Some z)
    go before true e = (y, refl)
    go before false e = elim (in_cons x y ys h) [
      | inl same ↦ let wrong : true ≡ false = sym passes ∙ ap test (sym same) ∙ e in cc
      | inr rest ↦ before rest
    ]

-- Lists without the members that equal an earlier one.
module _ {X : Type 0} (same : X → X → Bool) where
  pub from_firsts : (xs : List X) (y : X) → IsIn y (firsts same xs) → IsIn y xs
  from_firsts [] y h = h
  from_firsts (x ∷ xs) y h = elim (in_cons y x (filter (λ z. not (same x z)) (firsts same xs)) h) [
    | inl e ↦ record { place = 0; is = ap (λ z. Some z) e }
    | inr rest ↦ later y x xs (from_firsts xs y (from_filter (λ z. not (same x z)) y (firsts same xs) rest).0)
  ]

  -- no two members are equal
  abbrev pub AreApart : List X → Type 0
  AreApart [] = Unit {0}
  AreApart (x ∷ xs) = ((y : X) → IsIn y xs → same x y ≡ false) × AreApart xs

  apart_filter : (p : X → Bool) (xs : List X) → AreApart xs → AreApart (filter p xs)
  apart_filter p [] h = tt
  apart_filter p (x ∷ xs) h = go (apart_filter p xs h.1) (p x)
    where
      go : AreApart (filter p xs) → (b : Bool) → AreApart (cond b (x ∷ filter p xs) (filter p xs))
      go rest true = (λ y i. h.0 y (from_filter p y xs i).0, rest)
      go rest false = rest

  unlike : (b : Bool) → not b ≡ true → b ≡ false
  unlike true h = cc
  unlike false h = refl

  apart_firsts : (xs : List X) → AreApart (firsts same xs)
  apart_firsts [] = tt
  apart_firsts (x ∷ xs) = (
    λ y i. unlike (same x y) (from_filter (λ z. not (same x z)) y (firsts same xs) i).1,
    apart_filter (λ z. not (same x z)) (firsts same xs) (apart_firsts xs),
  )

  apart_at : (xs : List X) → AreApart xs → (i j : ℕ) (x y : X) → i < j → slice_get xs i ≡ Some x → slice_get xs j ≡ Some y → same x y ≡ false
  apart_at [] h i j x y less e e' = cc
  apart_at (z ∷ zs) h i zero x y less e e' = absurd (omega arith)
  apart_at (z ∷ zs) h zero (suc j) x y less e e' =
      let head : z ≡ x = cc in
      ap (λ w. same w y) (sym head) ∙ h.0 y (record { place = j; is = e' })
  apart_at (z ∷ zs) h (suc i) (suc j) x y less e e' = apart_at zs h.1 i j x y (omega arith) e e'

  pub firsts_apart : (xs : List X) (i j : ℕ) (x y : X) → i < j → slice_get (firsts same xs) i ≡ Some x → slice_get (firsts same xs) j ≡ Some y → same x y ≡ false
  firsts_apart xs = apart_at (firsts same xs) (apart_firsts xs)

  -- a member stays, or one that equals it
  module _ (transitive : (x y z : X) → same x y ≡ true → same y z ≡ true → same x z ≡ true) where
    pub stays : (xs : List X) (y : X) → IsIn y xs → (z : X) × IsIn z (firsts same xs) × ((z ≡ y) ⊎ (same z y ≡ true))
    stays [] y h = let none : slice_get [] h.place ≡ Some y = h.is in cc
    stays (x ∷ xs) y h = elim (in_cons y x xs h) [
      | inl e ↦ (x, record { place = 0; is = refl }, inl e)
      | inr rest ↦ let before = stays xs y rest in go before.0 before.1 before.2 (same x before.0) refl
    ] where
      go : (z : X) → IsIn z (firsts same xs) → (z ≡ y) ⊎ (same z y ≡ true) → (b : Bool) → same x z ≡ b → (w : X) × IsIn w (firsts same (x ∷ xs)) × ((w ≡ y) ⊎ (same w y ≡ true))
      go z i equal false e = (z, later z x (filter (λ v. not (same x v)) (firsts same xs)) (in_filter (λ v. not (same x v)) z (firsts same xs) i (ap not e)), equal)
      go z i equal true e = (
        x,
        record { place = 0; is = refl },
        inr (elim equal [
          | inl e' ↦ ap (same x) (sym e') ∙ e
          | inr e' ↦ transitive x z y e e'
        ]),
      )

-- Values and entries.
same_plain_equal : (v w : Value) → same_plain v w ≡ true → v ≡ w
same_plain_equal (Const c) (Const d) h = ap Const (same_con_true c d h)
same_plain_equal (Null n) (Null m) h = ap Null (eqb-true n m h)
same_plain_equal (Const c) (Null m) h = cc
same_plain_equal (Null n) (Const d) h = cc
same_plain_equal (Const c) _ h = cc
same_plain_equal (Null n) _ h = cc
same_plain_equal _ w h = cc

all_same_plain_equal : (vs ws : List Value) → all_same_plain vs ws ≡ true → vs ≡ ws
all_same_plain_equal [] [] h = refl
all_same_plain_equal [] (w ∷ ws) h = cc
all_same_plain_equal (v ∷ vs) [] h = cc
all_same_plain_equal (v ∷ vs) (w ∷ ws) h =
    let parts : (same_plain v w ≡ true) × (all_same_plain vs ws ≡ true) = both _ _ h in
    let first : v ≡ w = same_plain_equal v w parts.0 in
    let rest : vs ≡ ws = all_same_plain_equal vs ws parts.1 in
    λ i. first i ∷ rest i

same_plain_itself : (v : Value) → IsPlain v → same_plain v v ≡ true
same_plain_itself (Const c) p = same_con_itself c
same_plain_itself (Null n) p = eq-eqb n n refl
same_plain_itself _ p = absurd p

all_same_plain_itself : (vs : List Value) → All IsPlain vs → all_same_plain vs vs ≡ true
all_same_plain_itself [] h = refl
all_same_plain_itself (v ∷ vs) h =
    ap (λ b. b && all_same_plain vs vs) (same_plain_itself v (All-head IsPlain v vs h)) ∙ all_same_plain_itself vs (All-tail IsPlain v vs h)

-- an entry is for its own function and arguments alone
pub is_for_parts : (f : ℕ) (vs : List Value) (entry : Entry) → is_for f vs entry ≡ true → (entry.function ≡ f) × (vs ≡ entry.args)
is_for_parts f vs entry h =
    let parts : ((entry.function == f) ≡ true) × (all_same_plain vs entry.args ≡ true) = both _ _ h in
    (eqb-true entry.function f parts.0, all_same_plain_equal vs entry.args parts.1)

pub is_for_from : (f : ℕ) (vs : List Value) (entry : Entry) → entry.function ≡ f → entry.args ≡ vs → All IsPlain vs → is_for f vs entry ≡ true
is_for_from f vs entry e e' plain =
    ap (λ b. b && all_same_plain vs entry.args) (eq-eqb entry.function f e) ∙ ap (all_same_plain vs) e' ∙ all_same_plain_itself vs plain

abbrev alike : Entry → Entry → Bool
alike e = is_for e.function e.args

alike_transitive : (x y z : Entry) → alike x y ≡ true → alike y z ≡ true → alike x z ≡ true
alike_transitive x y z h h' =
    let parts = is_for_parts x.function x.args y h in
    (let back : x.function ≡ y.function = sym parts.0 in λ i. is_for (back i) (parts.1 i) z) ∙ h'

module _ (nodes : List Node) (values : List Value) where
  -- the node of an entry
  pub record IsEntryOf (entry : Entry) : Type 0 where
    pub place : ℕ
    pub args : List ℕ
    pub is : slice_get nodes place ≡ Some (node.Fun entry.function args)
    pub args_are : entry.args ≡ map (value_at values) args
    pub value_is : entry.value ≡ value_at values place

  of_node : (p : ℕ) (content : Node) (entry : Entry) → slice_get nodes p ≡ Some content → entry_of values (p, content) ≡ Some entry → IsEntryOf entry
  of_node p node.Leaf entry is e = cc
  of_node p (node.Const c) entry is e = cc
  of_node p (node.Fun f args) entry is e =
      let same : record { function = f; args = map (value_at values) args; value = value_at values p } ≡ entry = cc in
      subst IsEntryOf same (record { place = p; args = args; is = is; args_are = refl; value_is = refl })

  pub entry_node : (entry : Entry) → IsIn entry (entries_of nodes values) → IsEntryOf entry
  entry_node entry h =
      let source = from_filter_map (entry_of values) entry (enumerate_from 0 nodes) (from_firsts alike (filter_map (entry_of values) (enumerate_from 0 nodes)) entry h) in
      let at = from_enumerate 0 nodes source.1.place source.0 source.1.is in
      let place : source.0.0 ≡ source.1.place = omega (arith, at.0) in
      of_node source.0.0 source.0.1 entry (ap (slice_get nodes) place ∙ at.1) source.2

  -- the node of the entry that is found
  pub found_node : (f : ℕ) (vs : List Value) (entry : Entry) → find (is_for f vs) (entries_of nodes values) ≡ Some entry → IsEntryOf entry × (entry.function ≡ f) × (vs ≡ entry.args)
  found_node f vs entry h =
      let found = find_some (is_for f vs) (entries_of nodes values) entry h in
      let parts = is_for_parts f vs entry found.1 in
      (entry_node entry found.0, parts.0, parts.1)

  -- for a node an entry is found
  pub find_entry : (p f : ℕ) (args : List ℕ) → slice_get nodes p ≡ Some (node.Fun f args) → All IsPlain (map (value_at values) args)
      → (entry : Entry) × (find (is_for f (map (value_at values) args)) (entries_of nodes values) ≡ Some entry)
  find_entry p f args is plain =
      let vs : List Value = map (value_at values) args in
      let own : Entry = record { function = f; args = vs; value = value_at values p } in
      let listed : List Entry = filter_map (entry_of values) (enumerate_from 0 nodes) in
      let member : IsIn own listed = in_filter_map (entry_of values) (0 + p, node.Fun f args) own (enumerate_from 0 nodes) (record { place = p; is = get-enumerate_from 0 nodes p (node.Fun f args) is })
      (let here : 0 + p ≡ p = omega arith in ap (λ k. Some (record { function = f; args = vs; value = value_at values k })) here) in
      let first = stays alike alike_transitive listed own member in
      find_from (is_for f vs) (entries_of nodes values) first.0 first.1 (elim first.2 [
        | inl e ↦ ap (is_for f vs) e ∙ is_for_from f vs own refl refl plain
        | inr e ↦ let parts = is_for_parts first.0.function first.0.args own e in is_for_from f vs first.0 (sym parts.0) parts.1 plain
      ])

  -- no two entries are for one function and the same arguments
  pub entries_apart : (i j : ℕ) (e e' : Entry) → i < j → slice_get (entries_of nodes values) i ≡ Some e → slice_get (entries_of nodes values) j ≡ Some e' → is_for e.function e.args e' ≡ false
  entries_apart = firsts_apart alike (filter_map (entry_of values) (enumerate_from 0 nodes))
