-- One more node, for the entries of functions.
use Rattle.std.proofs.Common.{◌≡◌, ◌≢◌, ℕ, ◌+◌, ◌<◌, ◌≤◌, Bool, true, false, cond, List, [], ◌∷◌, ◌++◌, length, get_or, take, Option, Some, sym, ◌∙◌, ap, refl, arith, map, inl, inr, ◌||◌, ◌&&◌, zero-add}
use Rattle.std.proofs.lemmas.Bool.{cases_eq, eq-eqb, ne_eqb}
use Rattle.std.proofs.lemmas.List.{append-nil, take_more, take_all}
use Rattle.std.proofs.lemmas.List.FromFn.{length-enumerate_from, get_or-enumerate_from}
use Rattle.std.proofs.lemmas.List.Elements.{filter_map-append, All-head, All-tail}
use Rattle.std.proofs.lemmas.List.Folds.{list_any-append}
use Rattle.std.proofs.lemmas.Option.{slice_get_within, get_or_from_slice_get}
use Rattle.std.specs.Prelude.{slice_get, nat_eq, is_some, All}
use Rattle.std.specs.List.{filter_map, list_any, enumerate_from}
use Rattle.std.specs.Cmp.Lexicographic.{pointwise}
use Rattle.cq_theory.specs.declared.constant.Con.TheVariants.{Named}
use Rattle.cq_theory.proofs.Constants.{same_con_itself, same_con_other}
use Rattle.cq_theory.specs.declared.value.Value.{Value}
use Rattle.cq_theory.specs.declared.value.Value.TheVariants.{Const, Null}
use Rattle.cq_theory.specs.declared.value.Entry.{Entry}
use Rattle.cq_theory.specs.Tables.{IsPlain, is_for, same_plain, all_same_plain}
use Rattle.cq_theory.specs.Listed.{firsts}
use Rattle.cq_flat.specs.declared.node.Node.{Node}
use Rattle.cq_flat.specs.declared.node.Node.TheVariants as node
use Rattle.cq_flat.specs.Nodes.{HasEarlierArguments}
use Rattle.cq_flat.specs.Keys.{found, same_key}
use Rattle.cq_flat.specs.Values.{value_at, entry_of, entries_of}
use Rattle.cq_flat.specs.Entries.{AreValuesOf}
use Rattle.cq_flat.proofs.Arguments.{args_within}
use Rattle.cq_flat.proofs.Firsts.{firsts_push}

same_itself : (v : Value) → IsPlain v → same_plain v v ≡ true
same_itself (Const c) p = same_con_itself c
same_itself (Null n) p = eq-eqb n n refl
same_itself _ p = absurd p

same_other : (v w : Value) → IsPlain v → IsPlain w → v ≢ w → same_plain v w ≡ false
same_other (Const c) (Const d) p q n = same_con_other c d (λ e. n (ap Const e))
same_other (Const c) (Null m) p q n = refl
same_other (Null k) (Const d) p q n = refl
same_other (Null k) (Null m) p q n = ne_eqb k m (λ e. n (ap Null e))
same_other (Const c) _ p q n = absurd q
same_other (Null k) _ p q n = absurd q
same_other _ w p q n = absurd p

-- one more pair of a list with places
enumerate_more : {X : Type 0} (xs : List X) (i : ℕ) (x : X) → slice_get xs i ≡ Some x → take (i + 1) (enumerate_from 0 xs) ≡ take i (enumerate_from 0 xs) ++ (i, x) ∷ []
enumerate_more {X} xs i x e =
    let l = slice_get_within xs i x e in
    let m : i < length (enumerate_from 0 xs) = omega (arith, l, length-enumerate_from 0 xs) in
    take_more (enumerate_from 0 xs) i (i, x) m
    ∙ ap (λ (p : ℕ × X). take i (enumerate_from 0 xs) ++ p ∷ []) (get_or-enumerate_from 0 xs i (i, x) l ∙ pair i (get_or xs i x) x (get_or_from_slice_get xs i x x e)) where
      pair : {X : Type 0} (i : ℕ) (a x : X) → a ≡ x → ◌≡◌ {A = ℕ × X} (0 + i, a) (i, x)
      pair i a x e = rw (e, zero-add) refl

module _ (nodes : List Node) (classes : List ℕ) (values : List Value) where
  abbrev key_at : ℕ → List ℕ → List ℕ
  key_at f args = 0 ∷ 1 ∷ f ∷ map (λ a. get_or classes a 0) args

  abbrev test_at : ℕ → List ℕ → Entry → Bool
  test_at f args e = nat_eq f e.function && all_same_plain e.args (map (value_at values) args)

  abbrev sofar_at : ℕ → List Entry
  sofar_at n = filter_map (entry_of values) (take n (enumerate_from 0 nodes))

  -- the entries of the first n nodes, and the keys that they have
  pub record IsListing (n : ℕ) (table : List (List ℕ × ℕ)) (entries : List Entry) : Type 0 where
    pub entries_are : entries ≡ firsts (λ e. is_for e.function e.args) (filter_map (entry_of values) (take n (enumerate_from 0 nodes)))
    pub known : (f : ℕ) (args : List ℕ) → All (λ a. a < length nodes) args
        → is_some (found table (0 ∷ 1 ∷ f ∷ map (λ a. get_or classes a 0) args))
        ≡ list_any (λ e. nat_eq f e.function && all_same_plain e.args (map (value_at values) args)) (filter_map (entry_of values) (take n (enumerate_from 0 nodes)))

  pub listing_none : IsListing 0 [] []
  listing_none = record { entries_are = refl; known = λ f args h. refl }

module _ (nodes : List Node) (early : HasEarlierArguments nodes) (classes : List ℕ) (values : List Value) (v : AreValuesOf (length nodes) classes values) where
  abbrev class : ℕ → ℕ
  class a = get_or classes a 0

  abbrev key : ℕ → List ℕ → List ℕ
  key = key_at nodes classes values

  abbrev test : ℕ → List ℕ → Entry → Bool
  test = test_at nodes classes values

  abbrev sofar : ℕ → List Entry
  sofar = sofar_at nodes classes values

  plain_at : (a : ℕ) → a < length nodes → IsPlain (value_at values a)
  plain_at a l = v.plain a (Const (Named 0)) (omega (arith, l, v.values_count))

  tests_agree : (a b : ℕ) → a < length nodes → b < length nodes → nat_eq (class a) (class b) ≡ same_plain (value_at values a) (value_at values b)
  tests_agree a b la lb = elim (cases_eq (class a) (class b)) as (λ _. nat_eq (class a) (class b) ≡ same_plain (value_at values a) (value_at values b)) [
    | inl e ↦ eq-eqb (class a) (class b) e ∙ sym (rw (← (v.equal a b la lb).1 e) (same_itself (value_at values a) (plain_at a la)))
    | inr n ↦ ne_eqb (class a) (class b) n ∙ sym (same_other (value_at values a) (value_at values b) (plain_at a la) (plain_at b lb) (λ q. n ((v.equal a b la lb).0 q)))
  ]

  lists_agree : (xs ys : List ℕ) → All (λ a. a < length nodes) xs → All (λ a. a < length nodes) ys → pointwise nat_eq (map class xs) (map class ys) ≡ all_same_plain (map (value_at values) xs) (map (value_at values) ys)
  lists_agree [] [] p q = refl
  lists_agree [] (y ∷ ys) p q = refl
  lists_agree (x ∷ xs) [] p q = refl
  lists_agree (x ∷ xs) (y ∷ ys) p q =
      ap (λ b. b && pointwise nat_eq (map class xs) (map class ys)) (tests_agree x y (All-head (λ a. a < length nodes) x xs p) (All-head (λ a. a < length nodes) y ys q))
      ∙ ap (λ b. same_plain (value_at values x) (value_at values y) && b) (lists_agree xs ys (All-tail (λ a. a < length nodes) x xs p) (All-tail (λ a. a < length nodes) y ys q))

  eq_flip : (a b : ℕ) → nat_eq a b ≡ nat_eq b a
  eq_flip a b = elim (cases_eq a b) as (λ _. nat_eq a b ≡ nat_eq b a) [
    | inl e ↦ eq-eqb a b e ∙ sym (eq-eqb b a (sym e))
    | inr n ↦ ne_eqb a b n ∙ sym (ne_eqb b a (λ e. n (sym e)))
  ]

  keys_agree : (g f : ℕ) (xs ys : List ℕ) → All (λ a. a < length nodes) xs → All (λ a. a < length nodes) ys
      → same_key (key g xs) (key f ys) ≡ (nat_eq f g && all_same_plain (map (value_at values) xs) (map (value_at values) ys))
  keys_agree g f xs ys p q = ap (λ b. b && pointwise nat_eq (map class xs) (map class ys)) (eq_flip g f) ∙ ap (λ b. nat_eq f g && b) (lists_agree xs ys p q)

  module _ (n : ℕ) (table : List (List ℕ × ℕ)) (entries : List Entry) (s : IsListing nodes classes values n table entries) where
    more : (x : Node) → slice_get nodes n ≡ Some x → sofar (n + 1) ≡ sofar n ++ filter_map (entry_of values) ((n, x) ∷ [])
    more x is = ap (filter_map (entry_of values)) (enumerate_more nodes n x is) ∙ filter_map-append (entry_of values) (take n (enumerate_from 0 nodes)) ((n, x) ∷ [])

    pub listing_plain : (x : Node) → slice_get nodes n ≡ Some x → ((f : ℕ) (args : List ℕ) → x ≡ node.Fun f args → ⊥) → IsListing nodes classes values (n + 1) table entries
    listing_plain x is other = record {
      entries_are = s.entries_are ∙ ap (firsts (λ e. is_for e.function e.args)) (sym (same x is other));
      known = λ f args h. s.known f args h ∙ ap (list_any (test f args)) (sym (same x is other));
    } where
      same : (x : Node) → slice_get nodes n ≡ Some x → ((f : ℕ) (args : List ℕ) → x ≡ node.Fun f args → ⊥) → sofar (n + 1) ≡ sofar n
      same node.Leaf is other = more node.Leaf is ∙ append-nil (sofar n)
      same (node.Const c) is other = more (node.Const c) is ∙ append-nil (sofar n)
      same (node.Fun f args) is other = absurd (other f args refl)

    module _ (g : ℕ) (own : List ℕ) (is : slice_get nodes n ≡ Some (node.Fun g own)) (table' : List (List ℕ × ℕ)) (put : (q : List ℕ) → found table' q ≡ cond (same_key (key g own) q) (Some n) (found table q)) where
      abbrev entry : Entry
      entry = record { function = g; args = map (value_at values) own; value = value_at values n }

      more_entry : sofar (n + 1) ≡ sofar n ++ entry ∷ []
      more_entry = more (node.Fun g own) is

      own_within : All (λ a. a < length nodes) own
      own_within = args_within nodes early n g own is

      known_more : (f : ℕ) (args : List ℕ) → All (λ a. a < length nodes) args → is_some (found table' (key f args)) ≡ list_any (test f args) (sofar (n + 1))
      known_more f args h =
          ap is_some (put (key f args)) ∙ split (same_key (key g own) (key f args)) (found table (key f args))
          ∙ ap (λ b. b || is_some (found table (key f args))) (keys_agree g f own args own_within h)
          ∙ ap (λ b. test f args entry || b) (s.known f args h)
          ∙ swapped (test f args entry) (list_any (test f args) (sofar n))
          ∙ sym (ap (list_any (test f args)) more_entry ∙ list_any-append (test f args) (sofar n) (entry ∷ []))
        where
          split : (b : Bool) (o : Option ℕ) → is_some (cond b (Some n) o) ≡ (b || is_some o)
          split true o = refl
          split false o = refl

          swapped : (a b : Bool) → (a || b) ≡ (b || (a || false))
          swapped true true = refl
          swapped true false = refl
          swapped false true = refl
          swapped false false = refl

      pushed : firsts (λ e. is_for e.function e.args) (sofar (n + 1)) ≡ cond (is_some (found table (key g own))) entries (entries ++ entry ∷ [])
      pushed =
          ap (firsts (λ e. is_for e.function e.args)) more_entry ∙ firsts_push (λ e. is_for e.function e.args) (sofar n) entry
          ∙ ap (λ b. cond b (firsts (λ e. is_for e.function e.args) (sofar n)) (firsts (λ e. is_for e.function e.args) (sofar n) ++ entry ∷ [])) (sym (s.known g own own_within))
          ∙ ap (λ es. cond (is_some (found table (key g own))) es (es ++ entry ∷ [])) (sym s.entries_are)

      pub listing_again : is_some (found table (key g own)) ≡ true → IsListing nodes classes values (n + 1) table' entries
      listing_again e = record { entries_are = sym (pushed ∙ rw e refl); known = known_more }

      pub listing_first : is_some (found table (key g own)) ≡ false → IsListing nodes classes values (n + 1) table' (entries ++ entry ∷ [])
      listing_first e = record { entries_are = sym (pushed ∙ rw e refl); known = known_more }

pub listing_all : (nodes : List Node) (classes : List ℕ) (values : List Value) (n : ℕ) (table : List (List ℕ × ℕ)) (entries : List Entry) → length nodes ≤ n → IsListing nodes classes values n table entries → entries ≡ entries_of nodes values
listing_all nodes classes values n table entries l s =
    s.entries_are ∙ ap (λ xs. firsts (λ e. is_for e.function e.args) (filter_map (entry_of values) xs)) (take_all n (enumerate_from 0 nodes) (omega (arith, l, length-enumerate_from 0 nodes)))
