-- Names that are looked up: those of functions, keys and attributes, and those of types and entities.
use Rattle.std.proofs.Common.{ℕ, zero, suc, Bool, true, false, List, [], ◌∷◌, ◌++◌, Option, Some, None, ◌≡◌, ◌+◌, cond, map, length, refl, sym, ap, ◌∙◌, arith}
use Rattle.std.specs.Prelude.{slice_get, option_map}
use Rattle.std.specs.List.{AllByRecursion, IsDistinct}
use Rattle.std.proofs.lemmas.Option.{slice_get-map}
use Rattle.cq_base.specs.declared.name.Name.{Name}
use Rattle.cq_base.specs.Names.{AreDistinct, number_of, same_name}
use Rattle.cq_base.proofs.Numbers.{number_of-within, position-cons}
use Rattle.cq_theory.specs.declared.lookup.Symbol.TheVariants.{Function, Key, Attribute}
use Rattle.cq_theory.specs.declared.presentation.Sort.TheVariants.{Plain, Entity}
use Rattle.cq_theory.specs.declared.schema.Edge.{Edge}
use Rattle.cq_theory.specs.declared.typeside.Fun.{Fun}
use Rattle.cq_theory.specs.Resolve.{or_else, sort_named, symbol_of}
use Rattle.cq_theory.specs.Schema.{IsSchema, edge_names}
use Rattle.cq_theory.specs.SchemaData.{SchemaData as Schema}
use Rattle.cq_theory.specs.Typeside.{function_names}
use Rattle.cq_values.proofs.Tabled.{number_of-at}

get-behind : {X : Type 0} (xs ys : List X) (n : ℕ) (y : X) → slice_get ys n ≡ Some y → slice_get (xs ++ ys) (length xs + n) ≡ Some y
get-behind [] ys n y h = let here : 0 + n ≡ n = omega arith in ap (slice_get ys) here ∙ h
get-behind (x ∷ xs) ys n y h = let there : suc (length xs) + n ≡ suc (length xs + n) = omega arith in ap (slice_get (x ∷ (xs ++ ys))) there ∙ get-behind xs ys n y h

get-front : {X : Type 0} (xs ys : List X) (n : ℕ) (x : X) → slice_get xs n ≡ Some x → slice_get (xs ++ ys) n ≡ Some x
get-front [] ys n x h = cc
get-front (y ∷ xs) ys zero x h = h
get-front (y ∷ xs) ys (suc n) x h = get-front xs ys n x h

-- a name that stands in the first table stands in both, at its number
first_counts : (xs ys : List Name) (name : Name) (n : ℕ) → number_of xs name ≡ Some n → number_of (xs ++ ys) name ≡ Some n
first_counts [] ys name n h = cc
first_counts (x ∷ xs) ys name n h = at_test (same_name name x) refl (λ m e. first_counts xs ys name m e)
  where
    at_rest : (o : Option ℕ) → number_of xs name ≡ o → option_map suc o ≡ Some n → ((m : ℕ) → number_of xs name ≡ Some m → number_of (xs ++ ys) name ≡ Some m)
        → option_map suc (number_of (xs ++ ys) name) ≡ Some n
    at_rest None e h' next = cc
    at_rest (Some m) e h' next = ap (option_map suc) (next m e) ∙ h'

    at_test : (b : Bool) → same_name name x ≡ b → ((m : ℕ) → number_of xs name ≡ Some m → number_of (xs ++ ys) name ≡ Some m) → number_of ((x ∷ xs) ++ ys) name ≡ Some n
    at_test true e next =
        position-cons (same_name name) x (xs ++ ys) ∙ ap (λ b. cond b (Some 0) (option_map suc (number_of (xs ++ ys) name))) e
        ∙ sym (ap (λ b. cond b (Some 0) (option_map suc (number_of xs name))) e) ∙ sym (position-cons (same_name name) x xs) ∙ h
    at_test false e next =
        let rest : option_map suc (number_of xs name) ≡ Some n =
        sym (ap (λ b. cond b (Some 0) (option_map suc (number_of xs name))) e) ∙ sym (position-cons (same_name name) x xs) ∙ h in
        position-cons (same_name name) x (xs ++ ys) ∙ ap (λ b. cond b (Some 0) (option_map suc (number_of (xs ++ ys) name))) e
        ∙ at_rest (number_of xs name) refl rest next

-- a name of the second table is none of the first, where no name stands twice
pub not_first : (xs ys : List Name) (n : ℕ) (name : Name) → AreDistinct (xs ++ ys) → slice_get ys n ≡ Some name → number_of xs name ≡ None
not_first xs ys n name distinct at = at_number (number_of xs name) refl
  where
    at_number : (o : Option ℕ) → number_of xs name ≡ o → number_of xs name ≡ None
    at_number None e = e
    at_number (Some m) e =
        let first : number_of (xs ++ ys) name ≡ Some m = first_counts xs ys name m e in
        let second : number_of (xs ++ ys) name ≡ Some (length xs + n) = number_of-at (xs ++ ys) (length xs + n) name distinct (get-behind xs ys n name at) in
        let both : Some m ≡ Some (length xs + n) = sym first ∙ second in
        let same : m ≡ length xs + n = cc in
        absurd (omega (arith, number_of-within xs name m e, same))

all_front : (P : Name → Type 0) (xs ys : List Name) → AllByRecursion P (xs ++ ys) → AllByRecursion P xs
all_front P [] ys all = tt
all_front P (x ∷ xs) ys all = (all.0, all_front P xs ys all.1)

pub front_distinct : (xs ys : List Name) → AreDistinct (xs ++ ys) → AreDistinct xs
unfolding IsDistinct
front_distinct [] ys distinct = tt
front_distinct (x ∷ xs) ys distinct = (all_front _ xs ys distinct.0, front_distinct xs ys distinct.1)

pub behind_distinct : (xs ys : List Name) → AreDistinct (xs ++ ys) → AreDistinct ys
unfolding IsDistinct
behind_distinct [] ys distinct = distinct
behind_distinct (x ∷ xs) ys distinct = behind_distinct xs ys distinct.1

named_at : {X : Type 0} (name : X → Name) (xs : List X) (n : ℕ) (x : X) → slice_get xs n ≡ Some x → slice_get (map name xs) n ≡ Some (name x)
named_at name xs n x at = slice_get-map name xs n ∙ ap (option_map name) at

module _ (S : Schema) (schema : IsSchema S) where
  abbrev functions : List Name
  functions = function_names S.typeside

  abbrev keys : List Name
  keys = edge_names S.keys

  abbrev attributes : List Name
  attributes = edge_names S.attributes

  -- the list of all symbols, whose brackets stand to the left
  front_two : AreDistinct (function_names S.typeside ++ edge_names S.keys)
  front_two = front_distinct (functions ++ keys) attributes schema.distinct_symbols

  pub function_symbol : (f : ℕ) (function : Fun) → slice_get S.typeside.functions f ≡ Some function → symbol_of S function.name ≡ Some (Function f)
  function_symbol f function at =
      let found = number_of-at functions f function.name (front_distinct functions keys front_two) (named_at (λ g. g.name) S.typeside.functions f function at) in
      ap (λ o. or_else (option_map Function o) (or_else (option_map Key (number_of keys function.name)) (option_map Attribute (number_of attributes function.name)))) found

  pub key_symbol : (k : ℕ) (edge : Edge) → slice_get S.keys k ≡ Some edge → symbol_of S edge.name ≡ Some (Key k)
  key_symbol k edge at =
      let there = named_at (λ e. e.name) S.keys k edge at in
      let first = not_first functions keys k edge.name front_two there in
      let found = number_of-at keys k edge.name (behind_distinct functions keys front_two) there in
      ap (λ o. or_else (option_map Function o) (or_else (option_map Key (number_of keys edge.name)) (option_map Attribute (number_of attributes edge.name)))) first
      ∙ ap (λ o. or_else (option_map Key o) (option_map Attribute (number_of attributes edge.name))) found

  pub attribute_symbol : (a : ℕ) (edge : Edge) → slice_get S.attributes a ≡ Some edge → symbol_of S edge.name ≡ Some (Attribute a)
  attribute_symbol a edge at =
      let there = named_at (λ e. e.name) S.attributes a edge at in
      let neither = not_first (functions ++ keys) attributes a edge.name schema.distinct_symbols there in
      let parts = in_neither_of functions keys edge.name neither in
      let found = number_of-at attributes a edge.name (behind_distinct (functions ++ keys) attributes schema.distinct_symbols) there in
      ap (λ o. or_else (option_map Function o) (or_else (option_map Key (number_of keys edge.name)) (option_map Attribute (number_of attributes edge.name)))) parts.0
      ∙ ap (λ o. or_else (option_map Key o) (option_map Attribute (number_of attributes edge.name))) parts.1 ∙ ap (option_map Attribute) found
    where
      none_of : (o : Option ℕ) → (o ≡ None → ⊥) → (n : ℕ) × (o ≡ Some n)
      none_of None h = absurd (h refl)
      none_of (Some n) h = (n, refl)

      none_first : (xs ys : List Name) (name : Name) → number_of (xs ++ ys) name ≡ None → number_of xs name ≡ None
      none_first xs ys name h = at_number (number_of xs name) refl
        where
          at_number : (o : Option ℕ) → number_of xs name ≡ o → number_of xs name ≡ None
          at_number None e = e
          at_number (Some m) e = let some = first_counts xs ys name m e in cc (sym h ∙ some)

      none_second : (xs ys : List Name) (name : Name) → number_of (xs ++ ys) name ≡ None → number_of ys name ≡ None
      none_second [] ys name h = h
      none_second (x ∷ xs) ys name h = none_second xs ys name (at_test (same_name name x) (sym (position-cons (same_name name) x (xs ++ ys)) ∙ h))
        where
          mapped : (o : Option ℕ) → option_map suc o ≡ None → o ≡ None
          mapped None e = refl
          mapped (Some m) e = cc e

          at_test : (b : Bool) → cond b (Some 0) (option_map suc (number_of (xs ++ ys) name)) ≡ None → number_of (xs ++ ys) name ≡ None
          at_test true e = cc e
          at_test false e = mapped (number_of (xs ++ ys) name) e

      in_neither_of : (xs ys : List Name) (name : Name) → number_of (xs ++ ys) name ≡ None → (number_of xs name ≡ None) × (number_of ys name ≡ None)
      in_neither_of xs ys name h = (none_first xs ys name h, none_second xs ys name h)

  pub type_sort : (type : ℕ) (name : Name) → slice_get S.typeside.types type ≡ Some name → sort_named S name ≡ Some (Plain type)
  type_sort type name at =
      let found = number_of-at S.typeside.types type name (front_distinct S.typeside.types S.entities schema.distinct_sorts) at in
      ap (λ o. or_else (option_map Plain o) (option_map Entity (number_of S.entities name))) found

  pub entity_sort : (entity : ℕ) (name : Name) → slice_get S.entities entity ≡ Some name → sort_named S name ≡ Some (Entity entity)
  entity_sort entity name at =
      let first = not_first S.typeside.types S.entities entity name schema.distinct_sorts at in
      let found = number_of-at S.entities entity name (behind_distinct S.typeside.types S.entities schema.distinct_sorts) at in
      ap (λ o. or_else (option_map Plain o) (option_map Entity (number_of S.entities name))) first ∙ ap (option_map Entity) found
