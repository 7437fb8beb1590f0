-- The symbol of a name that stands among the foreign keys or the attributes of a schema.
use Rattle.std.proofs.Common.{ℕ, zero, suc, Bool, true, false, List, [], ◌∷◌, ◌++◌, Option, Some, None, ◌≡◌, ◌<◌, ◌+◌, map, length, get_or, refl, sym, ap, subst, ◌∙◌, append_assoc, arith}
use Rattle.std.specs.Prelude.{slice_get, option_map, cond, position}
use Rattle.std.specs.List.{IsDistinct, AllByRecursion}
use Rattle.std.specs.Cmp.Lexicographic.{nat_list_eq_equiv, same_text}
use Rattle.std.proofs.lemmas.List.Quantifiers.{position-Some}
use Rattle.std.proofs.lemmas.Option.{slice_get-get_or, slice_get_within}
use Rattle.cq_base.specs.declared.name.Name.{Name}
use Rattle.cq_base.specs.Names.{same_name, number_of, AreDistinct}
use Rattle.cq_base.proofs.Numbers.{position-cons}
use Rattle.cq_theory.specs.declared.lookup.Symbol.TheVariants.{Function, Key, Attribute}
use Rattle.cq_theory.specs.declared.schema.Edge.{Edge}
use Rattle.cq_theory.specs.SchemaData.{SchemaData as Schema}
use Rattle.cq_theory.specs.Typeside.{function_names}
use Rattle.cq_theory.specs.Schema.{IsSchema, edge_names}
use Rattle.cq_theory.specs.Resolve.{or_else, symbol_of}

pub get_front : {X : Type 0} (xs ys : List X) (n : ℕ) (x : X) → slice_get xs n ≡ Some x → slice_get (xs ++ ys) n ≡ Some x
get_front [] ys n x h = cc
get_front (y ∷ xs) ys zero x h = h
get_front (y ∷ xs) ys (suc n) x h = get_front xs ys n x h

pub get_back : {X : Type 0} (xs ys : List X) (n : ℕ) (x : X) → slice_get ys n ≡ Some x → slice_get (xs ++ ys) (length xs + n) ≡ Some x
get_back [] ys n x h = let here : 0 + n ≡ n = omega arith in ap (slice_get ys) here ∙ h
get_back (y ∷ xs) ys n x h = let there : suc (length xs) + n ≡ suc (length xs + n) = omega arith in ap (slice_get (y ∷ (xs ++ ys))) there ∙ get_back xs ys n x h

pub get_mapped : {X Y : Type 0} (f : X → Y) (xs : List X) (n : ℕ) (x : X) → slice_get xs n ≡ Some x → slice_get (map f xs) n ≡ Some (f x)
get_mapped f [] n x h = cc
get_mapped f (y ∷ ys) zero x h = let same : y ≡ x = cc in ap (λ z. Some (f z)) same
get_mapped f (y ∷ ys) (suc n) x h = get_mapped f ys n x h

-- the name with a number stands there
pub found_name : (names : List Name) (name : Name) (i : ℕ) → number_of names name ≡ Some i → slice_get names i ≡ Some name
found_name names name i h =
    let found = position-Some (same_name name) names i [] h in
    let same : name ≡ get_or names i [] = same_text name (get_or names i []) (sym found.1) in
    slice_get-get_or names i [] found.0 ∙ ap (λ (n : Name). Some n) (sym same)

all_at : (P : Name → Type 0) (names : List Name) (k : ℕ) (name : Name) → AllByRecursion P names → slice_get names k ≡ Some name → P name
all_at P [] k name all h = cc
all_at P (x ∷ xs) zero name all h = let same : x ≡ name = cc in subst P same all.0
all_at P (x ∷ xs) (suc k) name all h = all_at P xs k name all.1 h

-- a name of a table stands at its number
number_of-at : (names : List Name) (k : ℕ) (name : Name) → AreDistinct names → slice_get names k ≡ Some name → number_of names name ≡ Some k
unfolding IsDistinct
number_of-at [] k name distinct h = cc
number_of-at (x ∷ xs) zero name distinct h =
    let same : x ≡ name = cc in
    let passes : same_name name x ≡ true = ap (same_name name) same ∙ nat_list_eq_equiv.refl name in
    position-cons (same_name name) x xs ∙ ap (λ b. cond b (Some 0) (option_map suc (position (same_name name) xs))) passes
number_of-at (x ∷ xs) (suc k) name distinct h =
    let other : same_name name x ≡ false = nat_list_eq_equiv.symm name x ∙ all_at (λ y. same_name x y ≡ false) xs k name distinct.0 h in
    position-cons (same_name name) x xs ∙ ap (λ b. cond b (Some 0) (option_map suc (position (same_name name) xs))) other
    ∙ ap (option_map suc) (number_of-at xs k name distinct.1 h)

one_place : (names : List Name) (name : Name) (i j : ℕ) → AreDistinct names → slice_get names i ≡ Some name → slice_get names j ≡ Some name → i ≡ j
one_place names name i j distinct h h' =
    let both : Some i ≡ Some j = sym (number_of-at names i name distinct h) ∙ number_of-at names j name distinct h' in cc

pub has_number : (names : List Name) (k : ℕ) (name : Name) → slice_get names k ≡ Some name → (i : ℕ) × (number_of names name ≡ Some i)
has_number [] k name h = cc
has_number (x ∷ xs) k name h = at_test (same_name name x) refl k h (λ j at. has_number xs j name at)
  where
    at_test : (b : Bool) → same_name name x ≡ b → (j : ℕ) → slice_get (x ∷ xs) j ≡ Some name
        → ((m : ℕ) → slice_get xs m ≡ Some name → (i : ℕ) × (number_of xs name ≡ Some i)) → (i : ℕ) × (number_of (x ∷ xs) name ≡ Some i)
    at_test true e j at next = (0, position-cons (same_name name) x xs ∙ ap (λ b. cond b (Some 0) (option_map suc (position (same_name name) xs))) e)
    at_test false e zero at next =
        let same : x ≡ name = cc in
        let passes : same_name name x ≡ true = ap (same_name name) same ∙ nat_list_eq_equiv.refl name in
        cc
    at_test false e (suc m) at next =
        let rest = next m at in
        (suc rest.0, position-cons (same_name name) x xs ∙ ap (λ b. cond b (Some 0) (option_map suc (position (same_name name) xs))) e ∙ ap (option_map suc) rest.1)

module _ (xs ys : List Name) (distinct : AreDistinct (xs ++ ys)) where
  -- a name of the second table doesn't stand in the first
  not_before : (k : ℕ) (name : Name) → slice_get ys k ≡ Some name → number_of xs name ≡ None
  not_before k name h = at_number (number_of xs name) refl
    where
      at_number : (o : Option ℕ) → number_of xs name ≡ o → number_of xs name ≡ None
      at_number None e = e
      at_number (Some i) e =
          let here = found_name xs name i e in
          let same : i ≡ length xs + k = one_place (xs ++ ys) name i (length xs + k) distinct (get_front xs ys i name here) (get_back xs ys k name h) in
          let within : i < length xs = slice_get_within xs i name here in
          absurd (omega arith)

module _ (S : Schema) (schema : IsSchema S) where
  abbrev functions : List Name
  functions = function_names S.typeside

  abbrev keys : List Name
  keys = edge_names S.keys

  abbrev attributes : List Name
  attributes = edge_names S.attributes

  distinct : AreDistinct (functions ++ (keys ++ attributes))
  distinct = subst AreDistinct (append_assoc functions keys attributes) schema.distinct_symbols

  no_function : (n : ℕ) (name : Name) → slice_get (keys ++ attributes) n ≡ Some name → number_of functions name ≡ None
  no_function = not_before functions (keys ++ attributes) distinct

  pub symbol_of-key : (k : ℕ) (edge : Edge) → slice_get S.keys k ≡ Some edge → symbol_of S edge.name ≡ Some (Key k)
  symbol_of-key k edge at =
      let here : slice_get keys k ≡ Some edge.name = get_mapped (λ (e : Edge). e.name) S.keys k edge at in
      let number = has_number keys k edge.name here in
      let place : slice_get keys number.0 ≡ Some edge.name = found_name keys edge.name number.0 number.1 in
      let whole : (n : ℕ) → slice_get keys n ≡ Some edge.name → slice_get (functions ++ (keys ++ attributes)) (length functions + n) ≡ Some edge.name
      = λ n is. get_back functions (keys ++ attributes) n edge.name (get_front keys attributes n edge.name is) in
      let same : length functions + number.0 ≡ length functions + k = one_place (functions ++ (keys ++ attributes)) edge.name (length functions + number.0) (length functions + k) distinct (whole number.0 place) (whole k here) in
      let one : number.0 ≡ k = omega arith in
      ap (λ o. or_else (option_map Function o) (or_else (option_map Key (number_of keys edge.name)) (option_map Attribute (number_of attributes edge.name)))) (no_function k edge.name (get_front keys attributes k edge.name here))
      ∙ ap (λ o. or_else (option_map Key o) (option_map Attribute (number_of attributes edge.name))) number.1 ∙ ap (λ n. Some (Key n)) one

  pub symbol_of-attribute : (a : ℕ) (edge : Edge) → slice_get S.attributes a ≡ Some edge → symbol_of S edge.name ≡ Some (Attribute a)
  symbol_of-attribute a edge at =
      let here : slice_get attributes a ≡ Some edge.name = get_mapped (λ (e : Edge). e.name) S.attributes a edge at in
      let beside : slice_get (keys ++ attributes) (length keys + a) ≡ Some edge.name = get_back keys attributes a edge.name here in
      let number = has_number attributes a edge.name here in
      let place : slice_get attributes number.0 ≡ Some edge.name = found_name attributes edge.name number.0 number.1 in
      let whole : (n : ℕ) → slice_get attributes n ≡ Some edge.name → slice_get (functions ++ (keys ++ attributes)) (length functions + (length keys + n)) ≡ Some edge.name
      = λ n is. get_back functions (keys ++ attributes) (length keys + n) edge.name (get_back keys attributes n edge.name is) in
      let same : length functions + (length keys + number.0) ≡ length functions + (length keys + a)
      = one_place (functions ++ (keys ++ attributes)) edge.name (length functions + (length keys + number.0)) (length functions + (length keys + a)) distinct (whole number.0 place) (whole a here) in
      let one : number.0 ≡ a = omega arith in
      let no_key : number_of keys edge.name ≡ None = at_number a edge.name here (number_of keys edge.name) refl in
      ap (λ o. or_else (option_map Function o) (or_else (option_map Key (number_of keys edge.name)) (option_map Attribute (number_of attributes edge.name)))) (no_function (length keys + a) edge.name beside)
      ∙ ap (λ o. or_else (option_map Key o) (option_map Attribute (number_of attributes edge.name))) no_key
      ∙ ap (option_map Attribute) number.1 ∙ ap (λ n. Some (Attribute n)) one
    where
      at_number : (b : ℕ) (name : Name) → slice_get attributes b ≡ Some name → (o : Option ℕ) → number_of keys name ≡ o → number_of keys name ≡ None
      at_number b name is None e = e
      at_number b name is (Some i) e =
          let front = found_name keys name i e in
          let first = get_back functions (keys ++ attributes) i name (get_front keys attributes i name front) in
          let second = get_back functions (keys ++ attributes) (length keys + b) name (get_back keys attributes b name is) in
          let same : length functions + i ≡ length functions + (length keys + b) = one_place (functions ++ (keys ++ attributes)) name (length functions + i) (length functions + (length keys + b)) distinct first second in
          let within : i < length keys = slice_get_within keys i name front in
          absurd (omega arith)
