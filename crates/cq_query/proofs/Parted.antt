-- What parts without faults say: of each part, and of the names of each block. Places of what begins at an entity.
use Rattle.std.proofs.Common.{ℕ, zero, suc, Bool, true, false, List, [], ◌∷◌, ◌++◌, Option, Some, None, ◌≡◌, ◌<◌, ◌≤◌, ◌+◌, ◌==◌, if◌then◌else◌, inl, inr, take, length, refl, sym, ap, subst, ◌∙◌, append_assoc, arith, eq-eqb}
use Rattle.std.specs.Prelude.{slice_get, slice_index, is_none, nat_le, cond, option_map, position}
use Rattle.std.specs.List.{range_with_len, IsDistinct, AllByRecursion}
use Rattle.std.specs.Cmp.Lexicographic.{nat_list_eq_equiv}
use Rattle.std.proofs.lemmas.Bool.{cases_eq, ne_eqb}
use Rattle.std.proofs.lemmas.Bool.Decides.{nat_tests}
use Rattle.std.proofs.lemmas.List.{append-nil, length-append, map-append}
use Rattle.std.proofs.lemmas.Grind.{flat_map-append}
use Rattle.std.proofs.lemmas.Option.{get_or_from_slice_get}
use Rattle.cq_base.specs.declared.name.Name.{Name}
use Rattle.cq_base.specs.Names.{same_name, number_of, AreDistinct}
use Rattle.cq_base.proofs.Numbers.{position-cons, AreDistinct-more}
use Rattle.cq_theory.specs.declared.refusal.TheoryRefusal.{TheoryRefusal}
use Rattle.cq_theory.specs.declared.refusal.TheoryRefusal.TheVariants.{TooLarge, WrongSort, Unknown}
use Rattle.cq_theory.specs.SchemaData.{SchemaData as Schema}
use Rattle.cq_theory.specs.Schema.{IsSchema}
use Rattle.cq_theory.specs.Canonical.{below}
use Rattle.cq_theory.specs.Resolve.{or_else, sort_named, entity_in}
use Rattle.cq_theory.specs.Declaring.{number_or_zero}
use Rattle.cq_theory.proofs.DeclaredParts.{or_else_none, new_name}
use Rattle.cq_theory.proofs.MadeObservations.{stated_within}
use Rattle.cq_theory.specs.Groups.{positions_from, positions, place_of}
use Rattle.cq_blocks.specs.Blocks.{first_of, first_fault_after, entity_fault, entity_named, name_in, names_in, variable_in, variables_in, variable_fault, names_of}
use Rattle.cq_query.proofs.SortedDuties.{All_in, all_flat_map}

pub none_each : {X R : Type 0} (f : X → Option R) (xs : List X) → first_of f xs ≡ None → (k : ℕ) (x : X) → slice_get xs k ≡ Some x → f x ≡ None
none_each f [] h k x at = cc
none_each f (y ∷ ys) h zero x at = let same : y ≡ x = cc in ap f (sym same) ∙ (or_else_none (f y) (first_of f ys) h).0
none_each f (y ∷ ys) h (suc k) x at = none_each f ys (or_else_none (f y) (first_of f ys) h).1 k x at

pub some_one : {X R : Type 0} (f : X → Option R) (xs : List X) (r : R) → first_of f xs ≡ Some r → (k : ℕ) × (x : X) × (slice_get xs k ≡ Some x) × (f x ≡ Some r)
some_one f [] r h = cc
some_one {X} {R} f (y ∷ ys) r h = at_first (f y) refl h (λ e. some_one f ys r e)
  where
    at_first : (o : Option R) → f y ≡ o → or_else o (first_of f ys) ≡ Some r → (first_of f ys ≡ Some r → (k : ℕ) × (x : X) × (slice_get ys k ≡ Some x) × (f x ≡ Some r))
        → (k : ℕ) × (x : X) × (slice_get (y ∷ ys) k ≡ Some x) × (f x ≡ Some r)
    at_first (Some q) e e' next = (0, y, refl, e ∙ e')
    at_first None e e' next = let rest = next e' in (suc rest.0, rest.1, rest.2, rest.3)

pub fault_each : {X : Type 0} (fault : List X → ℕ → X → Option TheoryRefusal) (P : X → Type 0) → ((earlier : List X) (n : ℕ) (x : X) → fault earlier n x ≡ None → P x)
    → (earlier : List X) (n : ℕ) (xs : List X) → first_fault_after fault earlier n xs ≡ None → All_in P xs
fault_each fault P one earlier n [] h k x at = cc
fault_each fault P one earlier n (y ∷ ys) h zero x at =
    let same : y ≡ x = cc in
    subst P same (one earlier n y (or_else_none (fault earlier n y) (first_fault_after fault (earlier ++ y ∷ []) (n + 1) ys) h).0)
fault_each fault P one earlier n (y ∷ ys) h (suc k) x at =
    fault_each fault P one (earlier ++ y ∷ []) (n + 1) ys (or_else_none (fault earlier n y) (first_fault_after fault (earlier ++ y ∷ []) (n + 1) ys) h).1 k x at

not_reached : (n : ℕ) (r : TheoryRefusal) → cond (nat_le 16000000 n) (Some r) None ≡ None → n < 16000000
not_reached n r h = below_limit (at_test (nat_le 16000000 n) h)
  where
    at_test : (b : Bool) → cond b (Some r) None ≡ None → b ≡ false
    at_test true e = cc
    at_test false e = refl

    below_limit : nat_le 16000000 n ≡ false → n < 16000000
    below_limit e = grind (arith, nat_tests)

-- a name that breaks no rule is that of an entity
pub named_entity : (S : Schema) → IsSchema S → (n : ℕ) (name : Name) → entity_fault S n name ≡ None → entity_named S name < length S.entities
named_entity S schema n name h = at_tests (is_none (sort_named S name)) (entity_in (sort_named S name)) refl h
  where
    at_tests : (b : Bool) (o : Option ℕ) → entity_in (sort_named S name) ≡ o → cond b (Some (Unknown n)) (cond (is_none o) (Some (WrongSort n)) None) ≡ None → number_or_zero o < length S.entities
    at_tests true o is h' = cc
    at_tests false None is h' = cc
    at_tests false (Some f) is h' = stated_within S schema name f is

abbrev AreWhole : List Name → Type 0
AreWhole names = AreDistinct names × (length names ≤ 16000000)

module _ (S : Schema) (entities : List ℕ) (e : ℕ) where
  names_more : (parts : List (ℕ × Name × Name)) (part : ℕ × Name × Name) → names_in entities e (parts ++ part ∷ []) ≡ names_in entities e parts ++ name_in entities e part
  names_more parts part = flat_map-append (name_in entities e) parts (part ∷ []) ∙ ap (λ l. names_in entities e parts ++ l) (append-nil (name_in entities e part))

  whole_more : (earlier : List (ℕ × Name × Name)) (n : ℕ) (part : ℕ × Name × Name) → AreWhole (names_in entities e earlier) → variable_fault S entities earlier n part ≡ None
      → AreWhole (names_in entities e (earlier ++ part ∷ []))
  whole_more earlier n part is h = elim (cases_eq (slice_index entities part.0) e) [
    | inl same ↦
        let fresh = new_name (names_in entities (slice_index entities part.0) earlier) n part.1 _ h in
        let rules = or_else_none (entity_fault S n part.2) _ fresh.1 in
        let new : number_of (names_in entities e earlier) part.1 ≡ None = ap (λ o. number_of (names_in entities o earlier) part.1) (sym same) ∙ fresh.0 in
        let few : length (names_in entities (slice_index entities part.0) earlier) < 16000000 = not_reached (length (names_in entities (slice_index entities part.0) earlier)) (TooLarge n) rules.1 in
        let here : length (names_in entities (slice_index entities part.0) earlier) ≡ length (names_in entities e earlier) = ap (λ o. length (names_in entities o earlier)) same in
        let names : names_in entities e (earlier ++ part ∷ []) ≡ names_in entities e earlier ++ part.1 ∷ []
        = names_more earlier part ∙ ap (λ b. names_in entities e earlier ++ (if b then part.1 ∷ [] else [])) (eq-eqb (slice_index entities part.0) e same) in
        let longer : length (names_in entities e earlier ++ part.1 ∷ []) ≡ length (names_in entities e earlier) + 1 = length-append (names_in entities e earlier) (part.1 ∷ []) in
        subst AreWhole (sym names) (AreDistinct-more (names_in entities e earlier) part.1 is.0 new, (let short : length (names_in entities e earlier ++ part.1 ∷ []) ≤ 16000000 = omega arith in short))
    | inr other ↦
        let names : names_in entities e (earlier ++ part ∷ []) ≡ names_in entities e earlier
        = names_more earlier part ∙ ap (λ b. names_in entities e earlier ++ (if b then part.1 ∷ [] else [])) (ne_eqb (slice_index entities part.0) e other) ∙ append-nil (names_in entities e earlier) in
        subst AreWhole (sym names) is
  ]

  names_whole : (earlier : List (ℕ × Name × Name)) (n : ℕ) (parts : List (ℕ × Name × Name)) → AreWhole (names_in entities e earlier) → first_fault_after (variable_fault S entities) earlier n parts ≡ None
      → AreWhole (names_in entities e (earlier ++ parts))
  names_whole earlier n [] is h = subst (λ l. AreWhole (names_in entities e l)) (sym (append-nil earlier)) is
  names_whole earlier n (part ∷ parts) is h =
      let both = or_else_none (variable_fault S entities earlier n part) (first_fault_after (variable_fault S entities) (earlier ++ part ∷ []) (n + 1) parts) h in
      subst (λ l. AreWhole (names_in entities e l)) (append_assoc earlier (part ∷ []) parts) (names_whole (earlier ++ part ∷ []) (n + 1) parts (whole_more earlier n part is both.0) both.1)

  one_name : (b : Bool) (name : Name) (o : ℕ) → names_of (if b then (name, o) ∷ [] else []) ≡ (if b then name ∷ [] else [])
  one_name true name o = refl
  one_name false name o = refl

  same_names : (parts : List (ℕ × Name × Name)) → names_of (variables_in S entities e parts) ≡ names_in entities e parts
  same_names [] = refl
  same_names (part ∷ parts) =
      map-append (λ (v : Name × ℕ). v.0) (variable_in S entities e part) (variables_in S entities e parts)
      ∙ (λ i. one_name (slice_index entities part.0 == e) part.1 (entity_named S part.2) i ++ same_names parts i)

  empty_whole : AreWhole []
  unfolding IsDistinct
  empty_whole = (tt, (let none : 0 ≤ 16000000 = omega arith in none))

  -- the variables of a block have names of their own and are not too many
  pub variables_whole : (n : ℕ) (parts : List (ℕ × Name × Name)) → first_fault_after (variable_fault S entities) [] n parts ≡ None → AreWhole (names_of (variables_in S entities e parts))
  variables_whole n parts h = subst AreWhole (sym (same_names parts)) (names_whole [] n parts empty_whole h)

  -- they are of entities
  pub variables_sorted : IsSchema S → (n : ℕ) (parts : List (ℕ × Name × Name)) → first_fault_after (variable_fault S entities) [] n parts ≡ None
      → All_in (λ (v : Name × ℕ). v.1 < length S.entities) (variables_in S entities e parts)
  variables_sorted schema n parts h =
      all_flat_map (λ (v : Name × ℕ). v.1 < length S.entities) (variable_in S entities e) parts (λ k part at.
      one (slice_index entities part.0 == e) part.1 (entity_named S part.2)
      (fault_each (variable_fault S entities) (λ (p : ℕ × Name × Name). entity_named S p.2 < length S.entities)
      (λ earlier m p none.
      named_entity S schema m p.2 (or_else_none (entity_fault S m p.2) _ (new_name (names_in entities (slice_index entities p.0) earlier) m p.1 _ none).1).0)
      [] n parts h k part at))
    where
      one : (b : Bool) (name : Name) (o : ℕ) → o < length S.entities → All_in (λ (v : Name × ℕ). v.1 < length S.entities) (if b then (name, o) ∷ [] else [])
      one true name o within zero v is = let same : o ≡ v.1 = ap (λ (v : Name × ℕ). v.1) (let whole : (name, o) ≡ v = cc in whole) in subst (λ m. m < length S.entities) same within
      one true name o within (suc k) v is = cc
      one false name o within k v is = cc

-- the numbers below n, in order
pub below_at : (n k : ℕ) → k < n → slice_get (below n) k ≡ Some k
below_at n k h = let here : 0 + k ≡ k = omega arith in from 0 n k h ∙ ap (λ i. Some i) here
  where
    from : (s m j : ℕ) → j < m → slice_get (range_with_len s m) j ≡ Some (s + j)
    from s zero j h' = absurd (omega arith)
    from s (suc m) zero h' = let here : s ≡ s + 0 = omega arith in ap (λ i. Some i) here
    from s (suc m) (suc j) h' = let there : s + 1 + j ≡ s + suc j = omega arith in from (s + 1) m j (omega arith) ∙ ap (λ i. Some i) there

module _ (x : ℕ) (xs : List ℕ) (e : ℕ) where
  positions_same : x ≡ e → (s : ℕ) → positions_from s (x ∷ xs) e ≡ s ∷ positions_from (s + 1) xs e
  positions_same h s = ap (λ b. if b then s ∷ positions_from (s + 1) xs e else positions_from (s + 1) xs e) (eq-eqb x e h)

  positions_other : (x == e) ≡ false → (s : ℕ) → positions_from s (x ∷ xs) e ≡ positions_from (s + 1) xs e
  positions_other h s = ap (λ b. if b then s ∷ positions_from (s + 1) xs e else positions_from (s + 1) xs e) h

place_from : (s : ℕ) (xs : List ℕ) (e k : ℕ) → slice_get xs k ≡ Some e → slice_get (positions_from s xs e) (length (positions_from s (take k xs) e)) ≡ Some (s + k)
place_from s [] e k h = cc
place_from s (x ∷ xs) e zero h =
    let same : x ≡ e = cc in
    let here : s ≡ s + 0 = omega arith in
    ap (λ l. slice_get l 0) (positions_same x xs e same s) ∙ ap (λ n. Some n) here
place_from s (x ∷ xs) e (suc k) h =
    let rest = place_from (s + 1) xs e k h in
    let there : s + 1 + k ≡ s + suc k = omega arith in
    elim (cases_eq x e) [
      | inl same ↦ (λ i. slice_get (positions_same x xs e same s i) (length (positions_same x (take k xs) e same s i))) ∙ rest ∙ ap (λ n. Some n) there
      | inr other ↦ (λ i. slice_get (positions_other x xs e (ne_eqb x e other) s i) (length (positions_other x (take k xs) e (ne_eqb x e other) s i))) ∙ rest ∙ ap (λ n. Some n) there
    ]

-- what stands at the place of a member among those of its owner
pub place_read : (xs : List ℕ) (e k : ℕ) → slice_get xs k ≡ Some e → slice_get (positions xs e) (place_of xs k) ≡ Some k
place_read xs e k h =
    let owner : slice_index xs k ≡ e = get_or_from_slice_get xs k e 0 h in
    let here : 0 + k ≡ k = omega arith in
    ap (λ o. slice_get (positions xs e) (length (positions (take k xs) o))) owner ∙ place_from 0 xs e k h ∙ ap (λ n. Some n) here

all_at : (P : Name → Type 0) (names : List Name) (k : ℕ) (name : Name) → AllByRecursion P names → slice_get names k ≡ Some name → P name
all_at P [] k name all h = cc
all_at P (x ∷ xs) zero name all h = let same : x ≡ name = cc in subst P same all.0
all_at P (x ∷ xs) (suc k) name all h = all_at P xs k name all.1 h

-- a name of a table stands at its number
pub number_of-at : (names : List Name) (k : ℕ) (name : Name) → AreDistinct names → slice_get names k ≡ Some name → number_of names name ≡ Some k
unfolding IsDistinct
number_of-at [] k name distinct h = cc
number_of-at (x ∷ xs) zero name distinct h =
    let same : x ≡ name = cc in
    let passes : same_name name x ≡ true = ap (same_name name) same ∙ nat_list_eq_equiv.refl name in
    position-cons (same_name name) x xs ∙ ap (λ b. cond b (Some 0) (option_map suc (position (same_name name) xs))) passes
number_of-at (x ∷ xs) (suc k) name distinct h =
    let other : same_name name x ≡ false = nat_list_eq_equiv.symm name x ∙ all_at (λ y. same_name x y ≡ false) xs k name distinct.0 h in
    position-cons (same_name name) x xs ∙ ap (λ b. cond b (Some 0) (option_map suc (position (same_name name) xs))) other
    ∙ ap (option_map suc) (number_of-at xs k name distinct.1 h)
