-- Parts without faults give a query.
use Rattle.std.proofs.Common.{ℕ, zero, suc, Bool, true, false, List, [], Option, Some, None, ◌≡◌, ◌<◌, ◌≤◌, ◌==◌, ◌&&◌, inl, inr, if◌then◌else◌, map, length, refl, sym, ap, subst, ◌∙◌, arith, eq-eqb}
use Rattle.std.specs.Prelude.{slice_get, slice_index, is_none, cond, option_map, option_and_then}
use Rattle.std.specs.List.{list_any, IsDistinct}
use Rattle.std.specs.Cmp.Lexicographic.{same_text}
use Rattle.std.proofs.lemmas.Bool.{cases_eq, ne_eqb, and_parts, eqb-true}
use Rattle.std.proofs.lemmas.List.{length-map}
use Rattle.std.proofs.lemmas.List.Elements.{All-map}
use Rattle.std.proofs.lemmas.List.FromFn.{length-map-range_with_len}
use Rattle.std.proofs.lemmas.Option.{cond_some, slice_get-map, slice_get-get_or, slice_get_within}
use Rattle.cq_base.specs.declared.name.Name.{Name}
use Rattle.cq_base.specs.declared.raw.Raw.{Raw}
use Rattle.cq_base.specs.Names.{same_name, number_of, AreDistinct}
use Rattle.cq_theory.specs.declared.lookup.Symbol.{Symbol}
use Rattle.cq_theory.specs.declared.lookup.Symbol.TheVariants as symbol
use Rattle.cq_theory.specs.declared.refusal.TermRefusal.{TermRefusal}
use Rattle.cq_theory.specs.declared.refusal.TermRefusal.TheVariants.{Unknown, WrongCount, WrongSort, Reserved, TooLarge}
use Rattle.cq_theory.specs.declared.refusal.TheoryRefusal.TheVariants as theory_refusal
use Rattle.cq_theory.specs.declared.refusal.ArrowRefusal.TheVariants.{Missing}
use Rattle.cq_theory.specs.declared.presentation.Equation.{Equation}
use Rattle.cq_theory.specs.declared.presentation.Presentation.{Presentation}
use Rattle.cq_theory.specs.declared.presentation.Sort.{Sort}
use Rattle.cq_theory.specs.declared.presentation.Sort.TheVariants.{Plain, Entity}
use Rattle.cq_theory.specs.declared.schema.Edge.{Edge}
use Rattle.cq_theory.specs.declared.term.EntTerm.{EntTerm}
use Rattle.cq_theory.specs.declared.term.TypeTerm.{TypeTerm}
use Rattle.cq_theory.specs.declared.term.Term.{Term}
use Rattle.cq_theory.specs.declared.term.Term.TheVariants.{Ent, Typ}
use Rattle.cq_theory.specs.EntTerm as ent
use Rattle.cq_theory.specs.SchemaData.{SchemaData as Schema}
use Rattle.cq_theory.specs.Schema.{IsSchema}
use Rattle.cq_theory.specs.Sorts.{entity_of, type_of, sort_of}
use Rattle.cq_theory.specs.Derivation.{left_of, right_of}
use Rattle.cq_theory.specs.Canonical.{below}
use Rattle.cq_theory.specs.Presentation.{IsSort, IsEquation, IsPresentation, term_symbols}
use Rattle.cq_theory.specs.Resolve.{or_else, symbol_of, has_wrong_count, has_reserved, raw_sort, raw_symbols, are_of_one_sort, is_too_large, in_part}
use Rattle.cq_theory.specs.Resolved.{resolved, type_term_in, entity_term_in}
use Rattle.cq_theory.specs.Parts.{equation_of}
use Rattle.cq_theory.proofs.DeclaredParts.{or_else_none}
use Rattle.cq_theory.proofs.Faults.{of_five, not_false, neither, at_most, made_of}
use Rattle.cq_theory.proofs.OnValues.{All_at}
use Rattle.cq_theory.proofs.RawSymbols.{resolved-no_longer, type_part}
use Rattle.cq_theory.proofs.ResolvedSorts.{map_some, sort_of-resolved, type_of-in}
use Rattle.cq_blocks.specs.declared.parts.Clause.{Clause}
use Rattle.cq_blocks.specs.declared.parts.Clause.TheVariants as clause
use Rattle.cq_blocks.specs.declared.block.Block.{Block}
use Rattle.cq_query.specs.QueryData.{QueryData as Query}
use Rattle.cq_theory.specs.Groups.{positions, place_of, places}
use Rattle.cq_query.specs.Translation.{variables_at, tests_at, found_term, found_terms, variables_in as variables_of, tests_in as tests_of}
use Rattle.cq_theory.specs.Groups.{edge_sources}
use Rattle.cq_query.specs.Duties.{frozen}
use Rattle.cq_query.specs.IsQuery.{HasBlockTerms, IsQuery, IsAttributeTerm, AreKeyTerms}
use Rattle.cq_blocks.specs.Blocks.{first_of, variables_in, scopes_of, variables_fault, names_of, sorts_of, is_from, is_right_attribute, is_attribute, is_key, attribute_edge, key_edge, variable_sort, target_sort, clause_rule, rule_over, rule_in, gives_same, clause_fault, clauses_fault, attribute_given, assigned_given, attribute_in, assigned_in, missing_attribute, missing_variable, missing_variables, missing_attributes, missing_keys, missing_assigned, missing_in, missing_at, missing_part, scope_or_none, type_made, entity_made, test_made, test_in, tests_made, attribute_made, attribute_made_at, key_made, key_made_at, block_in, block_made, blocks_made}
use Rattle.cq_theory.proofs.Grouped.{made_at}
use Rattle.cq_query.proofs.SortedDuties.{All_in, all_flat_map}
use Rattle.cq_query.proofs.Parted.{none_each, some_one, fault_each, variables_whole, variables_sorted, below_at, place_read, number_of-at}

get_mapped : {X Y : Type 0} (f : X → Y) (xs : List X) (n : ℕ) (x : X) → slice_get xs n ≡ Some x → slice_get (map f xs) n ≡ Some (f x)
get_mapped f xs n x h = slice_get-map f xs n ∙ ap (option_map f) h

no_rule : (n : ℕ) (o : Option TermRefusal) → option_map (in_part n) o ≡ None → o ≡ None
no_rule n None h = refl
no_rule n (Some r) h = cc

there_is : {X R : Type 0} (o : Option X) (r : R) → cond (is_none o) (Some r) None ≡ None → (x : X) × (o ≡ Some x)
there_is None r h = cc
there_is (Some x) r h = (x, refl)

of_sort : (o : Option Sort) (sort : Sort) → are_of_one_sort o (Some sort) ≡ true → o ≡ Some sort
of_sort None sort h = cc
of_sort (Some (Plain n)) (Plain m) h = ap (λ k. Some (Plain k)) (eqb-true n m h)
of_sort (Some (Entity n)) (Entity m) h = ap (λ k. Some (Entity k)) (eqb-true n m h)
of_sort (Some (Plain n)) (Entity m) h = cc
of_sort (Some (Entity n)) (Plain m) h = cc

one_sort : (o p : Option Sort) → are_of_one_sort o p ≡ true → (sort : Sort) × (o ≡ Some sort) × (p ≡ Some sort)
one_sort None p h = cc
one_sort (Some s) None h = cc
one_sort (Some s) (Some t) h = (t, of_sort (Some s) t h, refl)

attribute_symbol : (a : ℕ) (o : Option Symbol) → is_attribute a o ≡ true → o ≡ Some (symbol.Attribute a)
attribute_symbol a None h = cc
attribute_symbol a (Some (symbol.Attribute n)) h = ap (λ m. Some (symbol.Attribute m)) (eqb-true n a h)
attribute_symbol a (Some (symbol.Key n)) h = cc
attribute_symbol a (Some (symbol.Function n)) h = cc

key_symbol : (k : ℕ) (o : Option Symbol) → is_key k o ≡ true → o ≡ Some (symbol.Key k)
key_symbol k None h = cc
key_symbol k (Some (symbol.Key n)) h = ap (λ m. Some (symbol.Key m)) (eqb-true n k h)
key_symbol k (Some (symbol.Attribute n)) h = cc
key_symbol k (Some (symbol.Function n)) h = cc

apart : (e t : ℕ) → Entity e ≡ Plain t → ⊥
apart e t h = cc

-- a variable as a generator
abbrev generator : Name × ℕ → Name × Sort
generator v = (v.0, Entity v.1)

-- Terms over the variables of a block.
module _ (S : Schema) (vs : List (Name × ℕ)) where
  abbrev made : Raw → Term
  made raw = resolved S (names_of vs) (sorts_of vs) raw

  agrees : (n : ℕ) (sort : Sort) → slice_get (sorts_of vs) n ≡ Some sort → (g : Name × Sort) × (slice_get (map generator vs) n ≡ Some g) × (g.1 ≡ sort)
  agrees n sort h =
      let found = map_some (λ (v : Name × ℕ). Entity v.1) (slice_get vs n) sort (sym (slice_get-map (λ (v : Name × ℕ). Entity v.1) vs n) ∙ h) in
      (generator found.0, slice_get-map generator vs n ∙ ap (option_map generator) found.1, found.2)

  made_sort : (raw : Raw) (sort : Sort) → has_reserved S raw ≡ false → raw_sort S (names_of vs) (sorts_of vs) raw ≡ Some sort → sort_of S (map generator vs) (made raw) ≡ Some sort
  made_sort raw sort free h = sort_of-resolved S (map generator vs) (names_of vs) (sorts_of vs) agrees raw free sort h

  made_fits : (raw : Raw) → has_wrong_count S raw ≡ false → is_too_large raw ≡ false → term_symbols (made raw) ≤ 1024
  made_fits raw counted short =
      let a = resolved-no_longer S (names_of vs) (sorts_of vs) raw counted in
      let b = at_most 1024 (raw_symbols raw) short in
      omega arith

  entity_parts : (t : Term) (e : ℕ) → sort_of S (map generator vs) t ≡ Some (Entity e) → (entity_of S (map generator vs) (entity_term_in t) ≡ Some e) × (term_symbols t ≡ ent.symbols_of (entity_term_in t))
  entity_parts (Ent t) e h =
      let found = map_some Entity (entity_of S (map generator vs) t) (Entity e) h in
      (found.1 ∙ (let same : found.0 ≡ e = cc in ap (λ n. Some n) same), refl)
  entity_parts (Typ t) e h = let found = map_some Plain (type_of S (map generator vs) t) (Entity e) h in absurd (apart e found.0 (sym found.2))

  sides : (t u : Term) (sort : Sort) → sort_of S (map generator vs) t ≡ Some sort → sort_of S (map generator vs) u ≡ Some sort → (left_of (equation_of t u) ≡ t) × (right_of (equation_of t u) ≡ u)
  sides (Ent t) (Ent u) sort h h' = (refl, refl)
  sides (Typ t) (Typ u) sort h h' = (refl, refl)
  sides (Ent t) (Typ u) sort h h' =
      let e = map_some Entity (entity_of S (map generator vs) t) sort h in
      let f = map_some Plain (type_of S (map generator vs) u) sort h' in
      absurd (apart e.0 f.0 (e.2 ∙ sym f.2))
  sides (Typ t) (Ent u) sort h h' =
      let e = map_some Entity (entity_of S (map generator vs) u) sort h' in
      let f = map_some Plain (type_of S (map generator vs) t) sort h in
      absurd (apart e.0 f.0 (e.2 ∙ sym f.2))

  test_is : (T : Schema) (scopes : List (List (Name × ℕ))) (e : ℕ) (left right : Raw) → clause_rule S T scopes vs e (clause.Test left right) ≡ None → (equations : List Equation)
      → IsEquation S (record { generators = map generator vs; equations = equations }) (equation_of (made left) (made right))
  test_is T scopes e left right h equations =
      let rules = of_five _ _ _ _ _ Unknown WrongCount WrongSort Reserved TooLarge h in
      let counted = neither (has_wrong_count S left) (has_wrong_count S right) rules.1 in
      let free = neither (has_reserved S left) (has_reserved S right) rules.3 in
      let short = neither (is_too_large left) (is_too_large right) rules.4 in
      let found = one_sort (raw_sort S (names_of vs) (sorts_of vs) left) (raw_sort S (names_of vs) (sorts_of vs) right) (not_false _ rules.2) in
      let first = made_sort left found.0 free.0 found.1 in
      let second = made_sort right found.0 free.1 found.2 in
      let same = sides (made left) (made right) found.0 first second in
      record {
        sort = found.0;
        left = ap (sort_of S (map generator vs)) same.0 ∙ first;
        right = ap (sort_of S (map generator vs)) same.1 ∙ second;
        left_fits = subst (λ (t : Term). term_symbols t ≤ 1024) (sym same.0) (made_fits left counted.0 short.0);
        right_fits = subst (λ (t : Term). term_symbols t ≤ 1024) (sym same.1) (made_fits right counted.1 short.1);
      }

-- The rules of a clause that breaks none.
module _ (S T : Schema) (scopes : List (List (Name × ℕ))) where
  with_scope : (e : ℕ) (c : Clause) → rule_in S T scopes e c ≡ None → (vs : List (Name × ℕ)) × (slice_get scopes e ≡ Some vs) × (clause_rule S T scopes vs e c ≡ None)
  unfolding rule_in
  with_scope e c h = at_scope (slice_get scopes e) refl h
    where
      at_scope : (o : Option (List (Name × ℕ))) → slice_get scopes e ≡ o → rule_over S T scopes o e c ≡ None → (vs : List (Name × ℕ)) × (slice_get scopes e ≡ Some vs) × (clause_rule S T scopes vs e c ≡ None)
      at_scope None is h' = cc
      at_scope (Some vs) is h' = (vs, is, h')

  each_rule : (entities : List ℕ) (n : ℕ) (clauses : List (ℕ × Clause)) → clauses_fault S T entities scopes n clauses ≡ None
      → All_in (λ (part : ℕ × Clause). rule_in S T scopes (slice_index entities part.0) part.1 ≡ None) clauses
  each_rule entities n clauses h =
      fault_each (clause_fault S T entities scopes) (λ (part : ℕ × Clause). rule_in S T scopes (slice_index entities part.0) part.1 ≡ None)
      (λ earlier m part none. at_test m (list_any (λ c. gives_same part.1 c.1) earlier) (rule_in S T scopes (slice_index entities part.0) part.1) none) [] n clauses h
    where
      at_test : (m : ℕ) (b : Bool) (o : Option TermRefusal) → cond b (Some (theory_refusal.Duplicate m)) (option_map (in_part m) o) ≡ None → o ≡ None
      at_test m true o e = cc
      at_test m false o e = no_rule m o e

  -- a term over the variables of block e, of this sort, that breaks no rule
  record IsRight (e : ℕ) (raw : Raw) (sort : Sort) : Type 0 where
    vs : List (Name × ℕ)
    there : slice_get scopes e ≡ Some vs
    sorted : raw_sort S (names_of vs) (sorts_of vs) raw ≡ Some sort
    counted : has_wrong_count S raw ≡ false
    free : has_reserved S raw ≡ false
    short : is_too_large raw ≡ false

  -- the term that a clause gives to an attribute
  attribute_right : (a : ℕ) (edge : Edge) → slice_get T.attributes a ≡ Some edge → (e : ℕ) (c : Clause) (raw : Raw) → attribute_given T a c ≡ Some raw → rule_in S T scopes e c ≡ None
      → (e ≡ edge.from) × IsRight e raw (Plain edge.to)
  attribute_right a edge at e (clause.Test left right) raw h rule = cc
  attribute_right a edge at e (clause.Key name) raw h rule = cc
  attribute_right a edge at e (clause.Assign key variable other) raw h rule = cc
  attribute_right a edge at e (clause.Att name other) raw h rule =
      let given = cond_some (is_attribute a (symbol_of T name)) other raw h in
      let scope = with_scope e (clause.Att name other) rule in
      let rules = of_five _ _ _ _ _ Unknown WrongCount WrongSort Reserved TooLarge scope.2 in
      let found : attribute_edge T (symbol_of T name) ≡ Some edge = ap (attribute_edge T) (attribute_symbol a (symbol_of T name) given.0) ∙ at in
      let right : is_right_attribute e (Some edge) (raw_sort S (names_of scope.0) (sorts_of scope.0) other) ≡ true =
      ap (λ o. is_right_attribute e o (raw_sort S (names_of scope.0) (sorts_of scope.0) other)) (sym found) ∙ not_false _ rules.2 in
      let parts = and_parts (edge.from == e) (are_of_one_sort (raw_sort S (names_of scope.0) (sorts_of scope.0) other) (Some (Plain edge.to))) right in (
        sym (eqb-true edge.from e parts.0),
        record {
          vs = scope.0;
          there = scope.1;
          sorted = ap (raw_sort S (names_of scope.0) (sorts_of scope.0)) (sym given.1) ∙ of_sort _ (Plain edge.to) parts.1;
          counted = ap (has_wrong_count S) (sym given.1) ∙ rules.1;
          free = ap (has_reserved S) (sym given.1) ∙ rules.3;
          short = ap is_too_large (sym given.1) ∙ rules.4;
        },
      )

  -- the term that a clause assigns to variable n of the block to which a foreign key leads
  assigned_right : (k : ℕ) (edge : Edge) → slice_get T.keys k ≡ Some edge → (to : List (Name × ℕ)) → slice_get scopes edge.to ≡ Some to → AreDistinct (names_of to)
      → (n : ℕ) (v : Name × ℕ) → slice_get to n ≡ Some v → (e : ℕ) (c : Clause) (raw : Raw) → assigned_given T k v.0 c ≡ Some raw → rule_in S T scopes e c ≡ None
      → (e ≡ edge.from) × IsRight e raw (Entity v.1)
  assigned_right k edge at to there distinct n v here e (clause.Test left right) raw h rule = cc
  assigned_right k edge at to there distinct n v here e (clause.Key name) raw h rule = cc
  assigned_right k edge at to there distinct n v here e (clause.Att name other) raw h rule = cc
  assigned_right k edge at to there distinct n v here e (clause.Assign key variable other) raw h rule =
      let given = cond_some (is_key k (symbol_of T key) && same_name v.0 variable) other raw h in
      let names = and_parts (is_key k (symbol_of T key)) (same_name v.0 variable) given.0 in
      let scope = with_scope e (clause.Assign key variable other) rule in
      let rules = of_five _ _ _ _ _ Unknown WrongCount WrongSort Reserved TooLarge scope.2 in
      let found : key_edge T (symbol_of T key) ≡ Some edge = ap (key_edge T) (key_symbol k (symbol_of T key) names.0) ∙ at in
      let same : v.0 ≡ variable = same_text v.0 variable (sym names.1) in
      let number : number_of (names_of to) variable ≡ Some n =
      number_of-at (names_of to) n variable distinct (get_mapped (λ (w : Name × ℕ). w.0) to n v here ∙ ap (λ (m : Name). Some m) same) in
      let wanted : target_sort T scopes key variable ≡ Some (Entity v.1) =
      ap (option_and_then (λ (edge : Edge). option_and_then (variable_sort variable) (slice_get scopes edge.to))) found
      ∙ ap (option_and_then (variable_sort variable)) there ∙ ap (option_and_then (slice_get (sorts_of to))) number ∙ get_mapped (λ (w : Name × ℕ). Entity w.1) to n v here in
      let right = and_parts (is_from e (key_edge T (symbol_of T key))) (are_of_one_sort (raw_sort S (names_of scope.0) (sorts_of scope.0) other) (target_sort T scopes key variable)) (not_false _ rules.2) in
      let begins : is_from e (Some edge) ≡ true = ap (is_from e) (sym found) ∙ right.0 in
      let sorted : are_of_one_sort (raw_sort S (names_of scope.0) (sorts_of scope.0) other) (Some (Entity v.1)) ≡ true =
      ap (are_of_one_sort (raw_sort S (names_of scope.0) (sorts_of scope.0) other)) (sym wanted) ∙ right.1 in (
        sym (eqb-true edge.from e begins),
        record {
          vs = scope.0;
          there = scope.1;
          sorted = ap (raw_sort S (names_of scope.0) (sorts_of scope.0)) (sym given.1) ∙ of_sort _ (Entity v.1) sorted;
          counted = ap (has_wrong_count S) (sym given.1) ∙ rules.1;
          free = ap (has_reserved S) (sym given.1) ∙ rules.3;
          short = ap is_too_large (sym given.1) ∙ rules.4;
        },
      )

missing_parts : (T : Schema) (scopes : List (List (Name × ℕ))) (clauses : List (ℕ × Clause)) (attributes keys : List ℕ) → missing_in T scopes clauses attributes keys ≡ None
    → (missing_attributes T clauses attributes ≡ None) × (missing_assigned T scopes clauses keys ≡ None)
unfolding missing_in
missing_parts T scopes clauses attributes keys h =
    let first = or_else_none (missing_attributes T clauses attributes) (or_else (missing_keys T clauses keys) (missing_assigned T scopes clauses keys)) h in
    let second = or_else_none (missing_keys T clauses keys) (missing_assigned T scopes clauses keys) first.1 in
    (first.0, second.1)

empty_distinct : AreDistinct []
unfolding IsDistinct
empty_distinct = tt

module _ (S T : Schema) (source : IsSchema S) (target : IsSchema T) (entities : List ℕ) (m n : ℕ) (parts : List (ℕ × Name × Name)) (clauses : List (ℕ × Clause))
    (right : variables_fault S entities m parts ≡ None) (ruled : clauses_fault S T entities (scopes_of S entities (length T.entities) parts) n clauses ≡ None)
    (whole : missing_part T (scopes_of S entities (length T.entities) parts) clauses ≡ None) where
  abbrev count : ℕ
  count = length T.entities

  abbrev scopes : List (List (Name × ℕ))
  scopes = scopes_of S entities count parts

  abbrev block_at : ℕ → Block
  block_at = block_made S T entities scopes clauses

  abbrev Q : Query
  Q = record { source = S; target = T; blocks = blocks_made S T entities scopes clauses }

  abbrev vars : ℕ → List (Name × ℕ)
  vars e = variables_in S entities e parts

  scope_there : (e : ℕ) → e < count → slice_get scopes e ≡ Some (vars e)
  scope_there e within = made_at vars count e within

  block_there : (e : ℕ) → e < count → slice_get Q.blocks e ≡ Some (block_at e)
  block_there e within = made_at block_at count e within

  vars_there : (e : ℕ) → e < count → variables_at Q e ≡ vars e
  unfolding block_in
  vars_there e within = ap variables_of (block_there e within) ∙ ap scope_or_none (scope_there e within)

  tests_there : (e : ℕ) → e < count → tests_at Q e ≡ tests_made S entities scopes clauses e
  unfolding block_in
  tests_there e within = ap tests_of (block_there e within)

  attributes_there : (e : ℕ) → (block_at e).attributes ≡ map (attribute_made S T scopes clauses) (positions (edge_sources T.attributes) e)
  unfolding block_in
  attributes_there e = refl

  keys_there : (e : ℕ) → (block_at e).keys ≡ map (key_made S T scopes clauses) (positions (edge_sources T.keys) e)
  unfolding block_in
  keys_there e = refl

  -- of an entity's variables, or of those of a number that is none of an entity, of which there are none
  each_variables : (P : List (Name × ℕ) → Type 0) → P [] → ((e : ℕ) → P (vars e)) → (e : ℕ) → P (variables_at Q e)
  each_variables P none some e = at_block (slice_get Q.blocks e) refl
    where
      at_block : (o : Option Block) → slice_get Q.blocks e ≡ o → P (variables_at Q e)
      at_block None is = subst P (sym (ap variables_of is)) none
      at_block (Some block) is =
          let within : e < count = subst (λ k. e < k) (length-map-range_with_len block_at 0 count) (slice_get_within Q.blocks e block is) in
          subst P (sym (vars_there e within)) (some e)

  block_terms : (e : ℕ) (block : Block) → slice_get Q.blocks e ≡ Some block → HasBlockTerms Q e block
  block_terms e block at =
      let within : e < count = subst (λ k. e < k) (length-map-range_with_len block_at 0 count) (slice_get_within Q.blocks e block at) in
      let one : block_at e ≡ block = (let both : Some (block_at e) ≡ Some block = sym (block_there e within) ∙ at in cc) in
      let here : HasBlockTerms Q e (block_at e) = record {
        attributes = ap length (attributes_there e) ∙ length-map (positions (edge_sources T.attributes) e) (attribute_made S T scopes clauses);
        keys = ap length (keys_there e) ∙ length-map (positions (edge_sources T.keys) e) (key_made S T scopes clauses);
      } in
      subst (HasBlockTerms Q e) one here

  few_distinct : (e : ℕ) → AreDistinct (names_of (vars e)) × (length (names_of (vars e)) ≤ 16000000)
  few_distinct e = variables_whole S entities e m parts right

  rules : All_in (λ (part : ℕ × Clause). rule_in S T scopes (slice_index entities part.0) part.1 ≡ None) clauses
  rules = each_rule S T scopes entities n clauses ruled

  abbrev IsTest : ℕ → Equation → Type 0
  IsTest e equation = (equations : List Equation) → IsEquation S (record { generators = map generator (vars e); equations = equations }) equation

  test_right : (e : ℕ) → e < count → (c : Clause) → rule_in S T scopes e c ≡ None → All_in (IsTest e) (test_made S (vars e) c)
  test_right e within (clause.Att name raw) h k x at = cc
  test_right e within (clause.Key name) h k x at = cc
  test_right e within (clause.Assign key variable raw) h k x at = cc
  test_right e within (clause.Test left right) h (suc k) x at = cc
  test_right e within (clause.Test left right) h zero x at =
      let scope = with_scope S T scopes e (clause.Test left right) h in
      let same : scope.0 ≡ vars e = (let both : Some scope.0 ≡ Some (vars e) = sym scope.1 ∙ scope_there e within in cc) in
      let rule : clause_rule S T scopes (vars e) e (clause.Test left right) ≡ None = ap (λ vs. clause_rule S T scopes vs e (clause.Test left right)) (sym same) ∙ scope.2 in
      let equation : equation_of (made S (vars e) left) (made S (vars e) right) ≡ x = cc in
      subst (IsTest e) equation (test_is S (vars e) T scopes e left right rule)

  tests_right : (e : ℕ) → e < count → All_in (IsTest e) (tests_made S entities scopes clauses e)
  tests_right e within =
      all_flat_map (IsTest e) (test_in S entities (scope_or_none (slice_get scopes e)) e) clauses (λ k part at. elim (cases_eq (slice_index entities part.0) e) [
        | inl same ↦
            let rule : rule_in S T scopes e part.1 ≡ None = ap (λ o. rule_in S T scopes o part.1) (sym same) ∙ rules k part at in
            let here : test_in S entities (scope_or_none (slice_get scopes e)) e part ≡ test_made S (vars e) part.1 =
            ap (λ b. if b then test_made S (scope_or_none (slice_get scopes e)) part.1 else []) (eq_true (slice_index entities part.0) e same)
            ∙ ap (λ vs. test_made S vs part.1) (ap scope_or_none (scope_there e within)) in
            subst (All_in (IsTest e)) (sym here) (test_right e within part.1 rule)
        | inr other ↦
            let here : test_in S entities (scope_or_none (slice_get scopes e)) e part ≡ [] =
            ap (λ b. if b then test_made S (scope_or_none (slice_get scopes e)) part.1 else []) (ne_eqb (slice_index entities part.0) e other) in
            subst (All_in (IsTest e)) (sym here) (nothing e)
      ])
    where
      eq_true : (x y : ℕ) → x ≡ y → (x == y) ≡ true
      eq_true x y h = eq-eqb x y h

      nothing : (e : ℕ) → All_in (IsTest e) []
      nothing e k x at = cc

  abbrev frozen_made : ℕ → Presentation
  frozen_made e = record { generators = map generator (vars e); equations = tests_made S entities scopes clauses e }

  frozen_there : (e : ℕ) → e < count → frozen Q e ≡ frozen_made e
  frozen_there e within = λ i. record { generators = map generator (vars_there e within i); equations = tests_there e within i }

  presentation : (e : ℕ) → e < count → IsPresentation S (frozen_made e)
  presentation e within = record {
    generators = All-map (λ g. IsSort S g.1) generator (vars e) (λ k d h. variables_sorted S entities e source m parts right k _ (slice_get-get_or (vars e) k d h));
    count = omega (arith, (few_distinct e).1, length-map (vars e) generator, length-map (vars e) (λ (v : Name × ℕ). v.0));
    equations = λ k x at. tests_right e within k x at (frozen_made e).equations;
  }

  missing_there : (e : ℕ) → e < count → (missing_attributes T clauses (positions (edge_sources T.attributes) e) ≡ None) × (missing_assigned T scopes clauses (positions (edge_sources T.keys) e) ≡ None)
  missing_there e within =
      missing_parts T scopes clauses (positions (edge_sources T.attributes) e) (positions (edge_sources T.keys) e)
      (none_each (missing_at T scopes clauses) (below count) whole e e (below_at count e within))

  module _ (a : ℕ) (edge : Edge) (at : slice_get T.attributes a ≡ Some edge) where
    attribute_within : edge.from < count
    attribute_within = (All_at (λ (x : Edge). (x.from < length T.entities) × (x.to < length T.typeside.types)) T.attributes a edge target.attributes at).0

    attribute_source : slice_get (edge_sources T.attributes) a ≡ Some edge.from
    attribute_source = get_mapped (λ (x : Edge). x.from) T.attributes a edge at

    attribute_found : found_term Q a ≡ Some (attribute_made S T scopes clauses a)
    attribute_found =
        ap (option_and_then (λ (x : Edge). option_and_then (λ (block : Block). option_and_then (slice_get block.attributes) (slice_get (places (edge_sources T.attributes)) a)) (slice_get Q.blocks x.from))) at
        ∙ ap (option_and_then (λ (block : Block). option_and_then (slice_get block.attributes) (slice_get (places (edge_sources T.attributes)) a))) (block_there edge.from attribute_within)
        ∙ ap (option_and_then (slice_get (block_at edge.from).attributes))
        (made_at (place_of (edge_sources T.attributes)) (length (edge_sources T.attributes)) a (slice_get_within (edge_sources T.attributes) a edge.from attribute_source))
        ∙ ap (λ l. slice_get l (place_of (edge_sources T.attributes) a)) (attributes_there edge.from)
        ∙ get_mapped (attribute_made S T scopes clauses) (positions (edge_sources T.attributes) edge.from) (place_of (edge_sources T.attributes) a) a (place_read (edge_sources T.attributes) edge.from a attribute_source)

    attribute_is : IsAttributeTerm Q a edge
    attribute_is =
        let none = none_each (λ b. missing_attribute T clauses b (slice_get T.attributes b)) (positions (edge_sources T.attributes) edge.from) (missing_there edge.from attribute_within).0
        (place_of (edge_sources T.attributes) a) a (place_read (edge_sources T.attributes) edge.from a attribute_source) in
        let given = there_is (attribute_in T clauses a) (Missing edge.name) (ap (missing_attribute T clauses a) (sym at) ∙ none) in
        let one = some_one (λ (part : ℕ × Clause). attribute_given T a part.1) clauses given.0 given.1 in
        let right = attribute_right S T scopes a edge at (slice_index entities one.1.0) one.1.1 given.0 one.3 (rules one.0 one.1 one.2) in
        let term_is : IsRight S T scopes edge.from given.0 (Plain edge.to) = subst (λ e. IsRight S T scopes e given.0 (Plain edge.to)) right.0 right.1 in
        let same : term_is.vs ≡ vars edge.from = (let both : Some term_is.vs ≡ Some (vars edge.from) = sym term_is.there ∙ scope_there edge.from attribute_within in cc) in
        let sorted : raw_sort S (names_of (vars edge.from)) (sorts_of (vars edge.from)) given.0 ≡ Some (Plain edge.to) = ap (λ vs. raw_sort S (names_of vs) (sorts_of vs) given.0) (sym same) ∙ term_is.sorted in
        let term : TypeTerm = type_term_in (made S (vars edge.from) given.0) in
        let made_is : attribute_made S T scopes clauses a ≡ term =
        ap (attribute_made_at S T scopes clauses a) at ∙ λ i. type_made S (scope_there edge.from attribute_within i) (given.1 i) in
        let fits = made_fits S (vars edge.from) given.0 term_is.counted term_is.short in
        let small = type_part (made S (vars edge.from) given.0) in
        record {
          term = term;
          found = attribute_found ∙ ap (λ (t : TypeTerm). Some t) made_is;
          typed = ap (λ (P : Presentation). type_of S P.generators term) (frozen_there edge.from attribute_within)
              ∙ type_of-in S (map generator (vars edge.from)) (made S (vars edge.from) given.0) edge.to (made_sort S (vars edge.from) given.0 (Plain edge.to) term_is.free sorted);
          fits = omega arith;
        }

  module _ (k : ℕ) (edge : Edge) (at : slice_get T.keys k ≡ Some edge) where
    key_within : (edge.from < count) × (edge.to < count)
    key_within = All_at (λ (x : Edge). (x.from < length T.entities) × (x.to < length T.entities)) T.keys k edge target.keys at

    key_source : slice_get (edge_sources T.keys) k ≡ Some edge.from
    key_source = get_mapped (λ (x : Edge). x.from) T.keys k edge at

    key_found : found_terms Q k ≡ Some (key_made S T scopes clauses k)
    key_found =
        ap (option_and_then (λ (x : Edge). option_and_then (λ (block : Block). option_and_then (slice_get block.keys) (slice_get (places (edge_sources T.keys)) k)) (slice_get Q.blocks x.from))) at
        ∙ ap (option_and_then (λ (block : Block). option_and_then (slice_get block.keys) (slice_get (places (edge_sources T.keys)) k))) (block_there edge.from key_within.0)
        ∙ ap (option_and_then (slice_get (block_at edge.from).keys))
        (made_at (place_of (edge_sources T.keys)) (length (edge_sources T.keys)) k (slice_get_within (edge_sources T.keys) k edge.from key_source))
        ∙ ap (λ l. slice_get l (place_of (edge_sources T.keys) k)) (keys_there edge.from)
        ∙ get_mapped (key_made S T scopes clauses) (positions (edge_sources T.keys) edge.from) (place_of (edge_sources T.keys) k) k (place_read (edge_sources T.keys) edge.from k key_source)

    abbrev term_for : Name × ℕ → EntTerm
    term_for v = entity_made S (Some (vars edge.from)) (assigned_in T clauses k v.0)

    key_terms : key_made S T scopes clauses k ≡ map term_for (vars edge.to)
    key_terms =
        ap (key_made_at S T scopes clauses k) at
        ∙ λ i. map (λ (v : Name × ℕ). entity_made S (scope_there edge.from key_within.0 i) (assigned_in T clauses k v.0)) (scope_or_none (scope_there edge.to key_within.1 i))

    variable_is : (p : ℕ) (v : Name × ℕ) → slice_get (vars edge.to) p ≡ Some v → (entity_of S (map generator (vars edge.from)) (term_for v) ≡ Some v.1) × (ent.symbols_of (term_for v) ≤ 1024)
    variable_is p v here =
        let none = none_each (λ j. missing_variables T scopes clauses j (slice_get T.keys j)) (positions (edge_sources T.keys) edge.from) (missing_there edge.from key_within.0).1
        (place_of (edge_sources T.keys) k) k (place_read (edge_sources T.keys) edge.from k key_source) in
        let each : first_of (missing_variable T clauses k) (vars edge.to) ≡ None =
        ap (λ o. first_of (missing_variable T clauses k) (scope_or_none o)) (sym (scope_there edge.to key_within.1)) ∙ ap (missing_variables T scopes clauses k) (sym at) ∙ none in
        let given = there_is (assigned_in T clauses k v.0) (Missing v.0) (none_each (missing_variable T clauses k) (vars edge.to) each p v here) in
        let one = some_one (λ (part : ℕ × Clause). assigned_given T k v.0 part.1) clauses given.0 given.1 in
        let right = assigned_right S T scopes k edge at (vars edge.to) (scope_there edge.to key_within.1) (few_distinct edge.to).0 p v here
        (slice_index entities one.1.0) one.1.1 given.0 one.3 (rules one.0 one.1 one.2) in
        let term_is : IsRight S T scopes edge.from given.0 (Entity v.1) = subst (λ e. IsRight S T scopes e given.0 (Entity v.1)) right.0 right.1 in
        let same : term_is.vs ≡ vars edge.from = (let both : Some term_is.vs ≡ Some (vars edge.from) = sym term_is.there ∙ scope_there edge.from key_within.0 in cc) in
        let sorted : raw_sort S (names_of (vars edge.from)) (sorts_of (vars edge.from)) given.0 ≡ Some (Entity v.1) = ap (λ vs. raw_sort S (names_of vs) (sorts_of vs) given.0) (sym same) ∙ term_is.sorted in
        let made_is : term_for v ≡ entity_term_in (made S (vars edge.from) given.0) = ap (entity_made S (Some (vars edge.from))) given.1 in
        let ends = entity_parts S (vars edge.from) (made S (vars edge.from) given.0) v.1 (made_sort S (vars edge.from) given.0 (Entity v.1) term_is.free sorted) in
        let fits = made_fits S (vars edge.from) given.0 term_is.counted term_is.short in
        let small : ent.symbols_of (entity_term_in (made S (vars edge.from) given.0)) ≤ 1024 = subst (λ s. s ≤ 1024) ends.1 fits in
        (ap (entity_of S (map generator (vars edge.from))) made_is ∙ ends.0, subst (λ (t : EntTerm). ent.symbols_of t ≤ 1024) (sym made_is) small)

    key_is : AreKeyTerms Q k edge
    key_is = record {
      terms = map term_for (vars edge.to);
      found = key_found ∙ ap (λ (l : List EntTerm). Some l) key_terms;
      each = length-map (vars edge.to) term_for ∙ ap length (sym (vars_there edge.to key_within.1));
      sorted = λ p t v at_term at_variable.
          let term = made_of term_for (vars edge.to) p t at_term in
          let here : slice_get (vars edge.to) p ≡ Some v = ap (λ l. slice_get l p) (sym (vars_there edge.to key_within.1)) ∙ at_variable in
          let one : term.0 ≡ v = (let both : Some term.0 ≡ Some v = sym term.1 ∙ here in cc) in
          let is : t ≡ term_for v = term.2 ∙ ap term_for one in
          let right = variable_is p v here in (
            ap (λ (P : Presentation). entity_of S P.generators t) (frozen_there edge.from key_within.0) ∙ ap (entity_of S (map generator (vars edge.from))) is ∙ right.0,
            subst (λ (u : EntTerm). ent.symbols_of u ≤ 1024) (sym is) right.1,
          );
    }

  -- parts without faults give a query
  pub made_is : S.typeside ≡ T.typeside → IsQuery Q
  made_is typeside = record {
    source = source;
    target = target;
    typeside = typeside;
    blocks = length-map-range_with_len block_at 0 count;
    each_block = block_terms;
    each_frozen = λ e within. subst (IsPresentation S) (sym (frozen_there e within)) (presentation e within);
    distinct = each_variables (λ l. AreDistinct (map (λ (v : Name × ℕ). v.0) l)) empty_distinct (λ e. (few_distinct e).0);
    few = each_variables (λ l. length l ≤ 16000000) (omega arith) (λ e. omega (arith, (few_distinct e).1, length-map (vars e) (λ (v : Name × ℕ). v.0)));
    attributes = attribute_is;
    keys = key_is;
  }
