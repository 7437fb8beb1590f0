-- The variables of each block, part by part.
use Rattle.std.proofs.Common.{ℕ, suc, Bool, true, false, List, [], ◌∷◌, ◌++◌, Option, Some, None, ◌≡◌, ◌<◌, ◌≤◌, ◌+◌, ◌-◌, ◌^◌, ◌==◌, ◌⊎◌, if◌then◌else◌, inl, inr, map, take, drop, length, get_or, slice_set, slice_index, refl, sym, ap, subst, ◌∙◌, arith, eq-eqb}
use Rattle.std.specs.Prelude.{All, option_map}
use Rattle.std.specs.List.{range_with_len}
use Rattle.std.proofs.lemmas.Bool.{ne_eqb}
use Rattle.std.proofs.lemmas.List.{append-nil, take_more, drop_more, length-append, length-map, get_or-map}
use Rattle.std.proofs.lemmas.List.FromFn.{get_or-map-range_with_len, length-map-range_with_len}
use Rattle.std.proofs.lemmas.Grind.{flat_map-append}
use Rattle.cq_base.specs.declared.name.Name.{Name}
use Rattle.cq_theory.specs.declared.refusal.TheoryRefusal.{TheoryRefusal}
use Rattle.cq_theory.specs.declared.refusal.TheoryRefusal.TheVariants.{Memory}
use Rattle.cq_theory.specs.Canonical.{below}
use Rattle.cq_theory.specs.SchemaData.{SchemaData as Schema}
use Rattle.cq_theory.specs.ArrowRefusals.{of_arrow}
use Rattle.cq_theory.specs.Resolve.{or_else}
use Rattle.cq_blocks.specs.declared.parts.Clause.{Clause}
use Rattle.cq_blocks.specs.Blocks.{scopes_of, variables_and_rest_fault, clauses_and_rest_fault, name_in, names_in, variable_in, variables_in, entity_named, first_of, first_fault_after, variable_fault_after, variable_fault, variables_fault}
use Rattle.cq_theory.proofs.Grouped.{set-map_below}

-- one step through the parts
pub fault_step : {X : Type 0} (fault : List X → ℕ → X → Option TheoryRefusal) (n i : ℕ) (parts : List X) (part : X) → part ≡ get_or parts i part → i < length parts
    → first_fault_after fault (take i parts) n (drop i parts) ≡ or_else (fault (take i parts) n part) (first_fault_after fault (take (i + 1) parts) (n + 1) (drop (i + 1) parts))
fault_step fault n i parts part is within =
    ap (first_fault_after fault (take i parts) n) (drop_more parts i part within)
    ∙ ap (λ x. or_else (fault (take i parts) n x) (first_fault_after fault (take i parts ++ x ∷ []) (n + 1) (drop (i + 1) parts))) (sym is)
    ∙ ap (λ l. or_else (fault (take i parts) n part) (first_fault_after fault l (n + 1) (drop (i + 1) parts))) (ap (λ x. take i parts ++ x ∷ []) is ∙ sym (take_more parts i part within))

module _ (S : Schema) (entities : List ℕ) (count first n i : ℕ) (parts : List (ℕ × Name × Name)) (part : ℕ × Name × Name) (tables : List (List Name)) (is : part ≡ get_or parts i part) (within : i < length parts)
    (blocks : All (λ (p : ℕ × Name × Name). p.0 < length entities) parts) (owners : All (λ entity. entity < count) entities)
    (are : tables ≡ map (λ e. names_in entities e (take i parts)) (below count))
    (rest : first_fault_after (variable_fault S entities) (take i parts) n (drop i parts) ≡ variables_fault S entities first parts) where
  abbrev owner : ℕ
  owner = slice_index entities part.0

  pub inside : owner < count
  inside = owners part.0 0 (subst (λ (p : ℕ × Name × Name). p.0 < length entities) (sym is) (blocks i part within))

  one_more : (e : ℕ) → names_in entities e (take (i + 1) parts) ≡ names_in entities e (take i parts) ++ name_in entities e part
  one_more e =
      ap (names_in entities e) (take_more parts i part within ∙ ap (λ p. take i parts ++ p ∷ []) (sym is)) ∙ flat_map-append (name_in entities e) (take i parts) (part ∷ [])
      ∙ ap (λ l. names_in entities e (take i parts) ++ l) (append-nil (name_in entities e part))

  module _ (table : List Name) (read : table ≡ get_or tables owner table) where
    -- the table of a part's block
    table_before : table ≡ names_in entities owner (take i parts)
    table_before = read ∙ ap (λ l. get_or l owner table) are ∙ get_or-map-range_with_len (λ e. names_in entities e (take i parts)) 0 count owner owner table inside (omega arith)

    -- the name of a part is put at the end of its table
    pub tabled_more : (after : List Name) → after ≡ table ++ part.1 ∷ [] → slice_set tables owner after ≡ map (λ e. names_in entities e (take (i + 1) parts)) (below count)
    tabled_more after h =
        ap (λ l. slice_set l owner after) are
        ∙ set-map_below (λ e. names_in entities e (take i parts)) (λ e. names_in entities e (take (i + 1) parts)) count owner after inside
        (h ∙ ap (λ l. l ++ part.1 ∷ []) table_before ∙ ap (λ b. names_in entities owner (take i parts) ++ (if b then part.1 ∷ [] else [])) (sym (eq-eqb owner owner refl)) ∙ sym (one_more owner))
        (λ k other.
        let unlike : (owner == k) ≡ false = ne_eqb owner k (λ same. other (sym same)) in
        sym (append-nil (names_in entities k (take i parts))) ∙ ap (λ b. names_in entities k (take i parts) ++ (if b then part.1 ∷ [] else [])) (sym unlike) ∙ sym (one_more k))

    here : variable_fault S entities (take i parts) n part ≡ variable_fault_after S table n part
    here = ap (λ l. variable_fault_after S l n part) (sym table_before)

    -- a part that breaks a rule is the first one
    pub refused_here : (refusal : TheoryRefusal) → variable_fault_after S table n part ≡ Some refusal → variables_fault S entities first parts ≡ Some refusal
    refused_here refusal h =
        sym rest ∙ fault_step (variable_fault S entities) n i parts part is within
        ∙ ap (λ o. or_else o (first_fault_after (variable_fault S entities) (take (i + 1) parts) (n + 1) (drop (i + 1) parts))) (here ∙ h)

    pub refused_either : (refusal : TheoryRefusal) → (refusal ≡ Memory) ⊎ (variable_fault_after S table n part ≡ Some refusal) → (refusal ≡ Memory) ⊎ (variables_fault S entities first parts ≡ Some refusal)
    refused_either refusal (inl h) = inl h
    refused_either refusal (inr h) = inr (refused_here refusal h)

    pub rest_more : variable_fault_after S table n part ≡ None → first_fault_after (variable_fault S entities) (take (i + 1) parts) (n + 1) (drop (i + 1) parts) ≡ variables_fault S entities first parts
    rest_more h =
        sym (ap (λ o. or_else o (first_fault_after (variable_fault S entities) (take (i + 1) parts) (n + 1) (drop (i + 1) parts))) (here ∙ h))
        ∙ sym (fault_step (variable_fault S entities) n i parts part is within) ∙ rest

-- a block has no more variables than there are parts
pub few_variables : (S : Schema) (entities : List ℕ) (e : ℕ) (parts : List (ℕ × Name × Name)) → length (variables_in S entities e parts) ≤ length parts
few_variables S entities e [] = omega arith
few_variables S entities e (part ∷ parts) =
    let rest = few_variables S entities e parts in
    let whole : length (variables_in S entities e (part ∷ parts)) ≡ length (variable_in S entities e part) + length (variables_in S entities e parts)
    = length-append (variable_in S entities e part) (variables_in S entities e parts) in
    let one = at_most_one (slice_index entities part.0 == e) in
    omega arith
  where
    at_most_one : (b : Bool) → length {A = Name × ℕ} (if b then (part.1, entity_named S part.2) ∷ [] else []) ≤ 1
    at_most_one true = omega arith
    at_most_one false = omega arith

-- no list of variables is longer than the list of parts
pub few_in_each : {X : Type 0} (f : X → List (Name × ℕ)) (lists : List X) (S : Schema) (entities : List ℕ) (count : ℕ) (parts : List (ℕ × Name × Name)) → map f lists ≡ scopes_of S entities count parts → length parts < 2 ^ 32
    → All (λ list. length (f list) < 2 ^ 32) lists
few_in_each f lists S entities count parts are few k d h =
    let size : length lists ≡ count = sym (length-map lists f) ∙ ap length are ∙ length-map-range_with_len (λ e. variables_in S entities e parts) 0 count in
    let here : f (get_or lists k d) ≡ variables_in S entities k parts =
    sym (get_or-map f lists k d [] h) ∙ ap (λ l. get_or l k []) are ∙ get_or-map-range_with_len (λ e. variables_in S entities e parts) 0 count k k [] (omega arith) (omega arith) in
    omega (arith, few, ap length here, few_variables S entities k parts)

-- one step of a search through the numbers below m
pub first_of-range : {R : Type 0} (f : ℕ → Option R) (i m : ℕ) → i < m → first_of f (range_with_len i (m - i)) ≡ or_else (f i) (first_of f (range_with_len (i + 1) (m - (i + 1))))
first_of-range f i m h = let more : m - i ≡ suc (m - (i + 1)) = omega arith in ap (λ k. first_of f (range_with_len i k)) more

-- the faults after the entities are those after the variables, where these have none
pub rest_after : (S T : Schema) (entities : List ℕ) (n next : ℕ) (parts : List (ℕ × Name × Name)) (clauses : List (ℕ × Clause)) (scopes : List (List (Name × ℕ)))
    → variables_fault S entities n parts ≡ None → scopes ≡ scopes_of S entities (length T.entities) parts → next ≡ n + length parts
    → variables_and_rest_fault S T entities n parts clauses ≡ clauses_and_rest_fault S T entities scopes clauses next
rest_after S T entities n next parts clauses scopes none are is =
    ap (λ o. or_else (option_map of_arrow o) (clauses_and_rest_fault S T entities (scopes_of S entities (length T.entities) parts) clauses (n + length parts))) none
    ∙ λ i. clauses_and_rest_fault S T entities (sym are i) clauses (sym is i)
