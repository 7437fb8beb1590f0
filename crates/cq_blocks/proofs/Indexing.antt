-- A search among the members of one owner finds what a search among all finds.
use Rattle.std.proofs.Common.{ℕ, Bool, true, false, List, [], ◌∷◌, ◌++◌, Option, Some, None, ◌≡◌, ◌<◌, ◌+◌, ◌==◌, ◌&&◌, ◌||◌, if◌then◌else◌, map, length, get_or, refl, sym, ap, subst, ◌∙◌, arith, length-append}
use Rattle.std.specs.Prelude.{All, slice_get, option_and_then, option_map}
use Rattle.std.specs.List.{list_any}
use Rattle.std.proofs.lemmas.List.{append_assoc, length-map}
use Rattle.std.proofs.lemmas.List.Elements.{All-map}
use Rattle.cq_base.specs.declared.name.Name.{Name}
use Rattle.cq_base.specs.Names.{same_name, number_of}
use Rattle.cq_base.proofs.Numbers.{number_of-within}
use Rattle.cq_theory.specs.declared.lookup.Symbol.{Symbol}
use Rattle.cq_theory.specs.declared.lookup.Symbol.TheVariants as symbol
use Rattle.cq_theory.specs.SchemaData.{SchemaData as Schema}
use Rattle.cq_theory.specs.Typeside.{function_names}
use Rattle.cq_theory.specs.Schema.{edge_names}
use Rattle.cq_theory.specs.Resolve.{or_else, symbol_of}
use Rattle.cq_theory.specs.Groups.{positions, positions_from}
use Rattle.cq_blocks.specs.Blocks.{first_of, is_attribute, is_key, attribute_given, key_given, assigned_given, attribute_in, has_key, assigned_in}
use Rattle.cq_blocks.specs.declared.parts.Clause.{Clause}
use Rattle.cq_blocks.specs.declared.parts.Clause.TheVariants as clause
use Rattle.cq_blocks.specs.declared.index.Index.{Index}
use Rattle.cq_theory.proofs.Grouped.{group_within, group_read}
use Rattle.cq_blocks.specs.Index.{at_place, is_at_place, is_there, attribute_number, key_number, attribute_owner, key_owner, IsIndex}

get_behind : {X : Type 0} (pre xs : List X) (x : X) → slice_get (pre ++ x ∷ xs) (length pre) ≡ Some x
get_behind [] xs x = refl
get_behind (y ∷ pre) xs x = get_behind pre xs x

module _ {X : Type 0} (owner : X → ℕ) (e : ℕ) where
  abbrev owned : ℕ → List X → List ℕ
  owned s xs = positions_from s (map owner xs) e

  module _ {R : Type 0} (f : X → Option R) (others : (x : X) → (owner x == e) ≡ false → f x ≡ None) where
    from : (pre xs : List X) → first_of (at_place f (pre ++ xs)) (owned (length pre) xs) ≡ first_of f xs
    from pre [] = refl
    from pre (x ∷ xs) =
        let longer : length (pre ++ x ∷ []) ≡ length pre + 1 = length-append pre (x ∷ []) in
        let rest : first_of (at_place f (pre ++ x ∷ xs)) (owned (length pre + 1) xs) ≡ first_of f xs =
        (λ i. first_of (at_place f (sym (append_assoc pre (x ∷ []) xs) i)) (owned (sym longer i) xs)) ∙ from (pre ++ x ∷ []) xs in
        by_owner (owner x == e) refl rest
      where
        by_owner : (b : Bool) → (owner x == e) ≡ b → first_of (at_place f (pre ++ x ∷ xs)) (owned (length pre + 1) xs) ≡ first_of f xs
            → first_of (at_place f (pre ++ x ∷ xs)) (if b then length pre ∷ owned (length pre + 1) xs else owned (length pre + 1) xs) ≡ or_else (f x) (first_of f xs)
        by_owner true is rest = λ i. or_else (option_and_then f (get_behind pre xs x i)) (rest i)
        by_owner false is rest = rest ∙ ap (λ o. or_else o (first_of f xs)) (sym (others x is))

    pub first_among : (xs : List X) → first_of (at_place f xs) (positions (map owner xs) e) ≡ first_of f xs
    first_among xs = from [] xs

  module _ (p : X → Bool) (others : (x : X) → (owner x == e) ≡ false → p x ≡ false) where
    any_from : (pre xs : List X) → list_any (is_at_place p (pre ++ xs)) (owned (length pre) xs) ≡ list_any p xs
    any_from pre [] = refl
    any_from pre (x ∷ xs) =
        let longer : length (pre ++ x ∷ []) ≡ length pre + 1 = length-append pre (x ∷ []) in
        let rest : list_any (is_at_place p (pre ++ x ∷ xs)) (owned (length pre + 1) xs) ≡ list_any p xs =
        (λ i. list_any (is_at_place p (sym (append_assoc pre (x ∷ []) xs) i)) (owned (sym longer i) xs)) ∙ any_from (pre ++ x ∷ []) xs in
        by_owner (owner x == e) refl rest
      where
        by_owner : (b : Bool) → (owner x == e) ≡ b → list_any (is_at_place p (pre ++ x ∷ xs)) (owned (length pre + 1) xs) ≡ list_any p xs
            → list_any (is_at_place p (pre ++ x ∷ xs)) (if b then length pre ∷ owned (length pre + 1) xs else owned (length pre + 1) xs) ≡ (p x || list_any p xs)
        by_owner true is rest = λ i. is_there p (get_behind pre xs x i) || rest i
        by_owner false is rest = rest ∙ ap (λ b. b || list_any p xs) (sym (others x is))

    pub any_among : (xs : List X) → list_any (is_at_place p xs) (positions (map owner xs) e) ≡ list_any p xs
    any_among xs = any_from [] xs

module _ (T : Schema) where
  attribute_within : (c : Clause) → attribute_owner T (length T.attributes) c < length T.attributes + 1
  attribute_within (clause.Test left right) = omega arith
  attribute_within (clause.Key name) = omega arith
  attribute_within (clause.Assign key variable raw) = omega arith
  attribute_within (clause.Att name raw) = by_numbers (number_of (function_names T.typeside) name) (number_of (edge_names T.keys) name) (number_of (edge_names T.attributes) name) refl
    where
      by_numbers : (f k a : Option ℕ) → number_of (edge_names T.attributes) name ≡ a
          → attribute_number (length T.attributes) (or_else (option_map symbol.Function f) (or_else (option_map symbol.Key k) (option_map symbol.Attribute a))) < length T.attributes + 1
      by_numbers (Some f) k a h = omega arith
      by_numbers None (Some k) a h = omega arith
      by_numbers None None (Some a) h = omega (arith, number_of-within (edge_names T.attributes) name a h, length-map T.attributes (λ edge. edge.name))
      by_numbers None None None h = omega arith

  key_symbol_within : (name : Name) → key_number (length T.keys) (symbol_of T name) < length T.keys + 1
  key_symbol_within name = by_numbers (number_of (function_names T.typeside) name) (number_of (edge_names T.keys) name) (number_of (edge_names T.attributes) name) refl
    where
      by_numbers : (f k a : Option ℕ) → number_of (edge_names T.keys) name ≡ k
          → key_number (length T.keys) (or_else (option_map symbol.Function f) (or_else (option_map symbol.Key k) (option_map symbol.Attribute a))) < length T.keys + 1
      by_numbers (Some f) k a h = omega arith
      by_numbers None (Some k) a h = omega (arith, number_of-within (edge_names T.keys) name k h, length-map T.keys (λ edge. edge.name))
      by_numbers None None (Some a) h = omega arith
      by_numbers None None None h = omega arith

  key_within : (c : Clause) → key_owner T (length T.keys) c < length T.keys + 1
  key_within (clause.Test left right) = omega arith
  key_within (clause.Att name raw) = omega arith
  key_within (clause.Key name) = key_symbol_within name
  key_within (clause.Assign name variable raw) = key_symbol_within name

  module _ (clauses : List (ℕ × Clause)) (owners : List ℕ) (n count : ℕ) where
    pub attributes_within : owners ≡ map (λ (c : ℕ × Clause). attribute_owner T n c.1) clauses → n ≡ length T.attributes → count ≡ n + 1 → All (λ o. o < count) owners
    attributes_within are size more =
        let P : List ℕ × ℕ → Type 0 = λ x. All (λ o. o < x.1) x.0 in
        let owners_are : map (λ (c : ℕ × Clause). attribute_owner T (length T.attributes) c.1) clauses ≡ owners = ap (λ m. map (λ (c : ℕ × Clause). attribute_owner T m c.1) clauses) (sym size) ∙ sym are in
        let count_is : length T.attributes + 1 ≡ count = omega arith in
        let both : (map (λ (c : ℕ × Clause). attribute_owner T (length T.attributes) c.1) clauses, length T.attributes + 1) ≡ (owners, count) = λ i. (owners_are i, count_is i) in
        subst P both (All-map (λ o. o < length T.attributes + 1) (λ (c : ℕ × Clause). attribute_owner T (length T.attributes) c.1) clauses (λ k d h. attribute_within (get_or clauses k d).1))

    pub keys_within : owners ≡ map (λ (c : ℕ × Clause). key_owner T n c.1) clauses → n ≡ length T.keys → count ≡ n + 1 → All (λ o. o < count) owners
    keys_within are size more =
        let P : List ℕ × ℕ → Type 0 = λ x. All (λ o. o < x.1) x.0 in
        let owners_are : map (λ (c : ℕ × Clause). key_owner T (length T.keys) c.1) clauses ≡ owners = ap (λ m. map (λ (c : ℕ × Clause). key_owner T m c.1) clauses) (sym size) ∙ sym are in
        let count_is : length T.keys + 1 ≡ count = omega arith in
        let both : (map (λ (c : ℕ × Clause). key_owner T (length T.keys) c.1) clauses, length T.keys + 1) ≡ (owners, count) = λ i. (owners_are i, count_is i) in
        subst P both (All-map (λ o. o < length T.keys + 1) (λ (c : ℕ × Clause). key_owner T (length T.keys) c.1) clauses (λ k d h. key_within (get_or clauses k d).1))

  other_attribute : (n a : ℕ) (c : Clause) → (attribute_owner T n c == a) ≡ false → attribute_given T a c ≡ None
  other_attribute n a (clause.Test left right) h = refl
  other_attribute n a (clause.Key name) h = refl
  other_attribute n a (clause.Assign key variable raw) h = refl
  other_attribute n a (clause.Att name raw) h = at_symbol (symbol_of T name) h
    where
      at_symbol : (o : Option Symbol) → (attribute_number n o == a) ≡ false → (if is_attribute a o then Some raw else None) ≡ None
      at_symbol None h' = refl
      at_symbol (Some (symbol.Function f)) h' = refl
      at_symbol (Some (symbol.Key k)) h' = refl
      at_symbol (Some (symbol.Attribute m)) h' = ap (λ b. if b then Some raw else None) h'

  not_the_key : (n k : ℕ) (o : Option Symbol) → (key_number n o == k) ≡ false → is_key k o ≡ false
  not_the_key n k None h = refl
  not_the_key n k (Some (symbol.Function f)) h = refl
  not_the_key n k (Some (symbol.Attribute a)) h = refl
  not_the_key n k (Some (symbol.Key m)) h = h

  other_key : (n k : ℕ) (c : Clause) → (key_owner T n c == k) ≡ false → key_given T k c ≡ false
  other_key n k (clause.Test left right) h = refl
  other_key n k (clause.Att name raw) h = refl
  other_key n k (clause.Assign key variable raw) h = refl
  other_key n k (clause.Key name) h = not_the_key n k (symbol_of T name) h

  other_assigned : (n k : ℕ) (v : Name) (c : Clause) → (key_owner T n c == k) ≡ false → assigned_given T k v c ≡ None
  other_assigned n k v (clause.Test left right) h = refl
  other_assigned n k v (clause.Att name raw) h = refl
  other_assigned n k v (clause.Key name) h = refl
  other_assigned n k v (clause.Assign key variable raw) h = ap (λ b. if b && same_name v variable then Some raw else None) (not_the_key n k (symbol_of T key) h)

  module _ (clauses : List (ℕ × Clause)) (index : Index) (is : IsIndex T clauses index) where
    pub attribute_places : (a : ℕ) → a < length T.attributes → a < length index.attributes.groups
    attribute_places a within = group_within _ (length T.attributes + 1) a index.attributes is.attributes (omega arith)

    pub key_places : (k : ℕ) → k < length T.keys → k < length index.keys.groups
    key_places k within = group_within _ (length T.keys + 1) k index.keys is.keys (omega arith)

    pub attribute_found : (a : ℕ) → a < length T.attributes → (group : List ℕ) → slice_get index.attributes.groups a ≡ Some group
        → first_of (at_place (λ (c : ℕ × Clause). attribute_given T a c.1) clauses) group ≡ attribute_in T clauses a
    attribute_found a within group h =
        ap (first_of (at_place (λ (c : ℕ × Clause). attribute_given T a c.1) clauses)) (group_read _ (length T.attributes + 1) a index.attributes is.attributes (omega arith) group h)
        ∙ first_among (λ (c : ℕ × Clause). attribute_owner T (length T.attributes) c.1) a (λ c. attribute_given T a c.1) (λ c h'. other_attribute (length T.attributes) a c.1 h') clauses

    pub key_found : (k : ℕ) → k < length T.keys → (group : List ℕ) → slice_get index.keys.groups k ≡ Some group
        → list_any (is_at_place (λ (c : ℕ × Clause). key_given T k c.1) clauses) group ≡ has_key T clauses k
    key_found k within group h =
        ap (list_any (is_at_place (λ (c : ℕ × Clause). key_given T k c.1) clauses)) (group_read _ (length T.keys + 1) k index.keys is.keys (omega arith) group h)
        ∙ any_among (λ (c : ℕ × Clause). key_owner T (length T.keys) c.1) k (λ c. key_given T k c.1) (λ c h'. other_key (length T.keys) k c.1 h') clauses

    pub assigned_found : (k : ℕ) (v : Name) → k < length T.keys → (group : List ℕ) → slice_get index.keys.groups k ≡ Some group
        → first_of (at_place (λ (c : ℕ × Clause). assigned_given T k v c.1) clauses) group ≡ assigned_in T clauses k v
    assigned_found k v within group h =
        ap (first_of (at_place (λ (c : ℕ × Clause). assigned_given T k v c.1) clauses)) (group_read _ (length T.keys + 1) k index.keys is.keys (omega arith) group h)
        ∙ first_among (λ (c : ℕ × Clause). key_owner T (length T.keys) c.1) k (λ c. assigned_given T k v c.1) (λ c h'. other_assigned (length T.keys) k v c.1 h') clauses
