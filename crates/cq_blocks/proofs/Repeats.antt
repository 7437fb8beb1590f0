-- Clauses that give what an earlier one gives.
use Rattle.std.proofs.Common.{ℕ, Bool, true, false, List, [], ◌∷◌, ◌++◌, Option, Some, None, ◌≡◌, ◌<◌, ◌+◌, ◌&&◌, ◌||◌, take, drop, length, get_or, refl, sym, ap, subst, ◌∙◌}
use Rattle.std.specs.Prelude.{cond, is_some}
use Rattle.std.specs.List.{list_any}
use Rattle.std.proofs.lemmas.Cmp.{nat_list_eq_equiv}
use Rattle.std.proofs.lemmas.List.{take_more}
use Rattle.std.proofs.lemmas.List.Folds.{list_any-append}
use Rattle.cq_base.specs.declared.name.Name.{Name}
use Rattle.cq_base.specs.Names.{same_name}
use Rattle.cq_blocks.specs.declared.parts.Clause.{Clause}
use Rattle.cq_blocks.specs.Blocks.{gives_symbol, gives_variable, first_fault_after, clause_fault, clauses_fault}
use Rattle.cq_theory.specs.declared.refusal.TheoryRefusal.{TheoryRefusal}
use Rattle.cq_theory.specs.SchemaData.{SchemaData as Schema}
use Rattle.cq_theory.specs.Resolve.{or_else}
use Rattle.cq_blocks.proofs.Scoping.{fault_step}
use Rattle.cq_blocks.specs.Given.{same_pair, HasGiven}

added : (a b c : Bool) → a ≡ c → cond a true b ≡ (b || (c || false))
added true true c h = refl
added true false c h = ap (λ x. x || false) h
added false true c h = refl
added false false c h = ap (λ x. x || false) h

not_added : (b c : Bool) → c ≡ false → b ≡ (b || (c || false))
not_added true c h = refl
not_added false c h = sym (ap (λ x. x || false) h)

same_pair-symm : (p q : Name × Name) → same_pair p q ≡ same_pair q p
same_pair-symm p q = λ i. nat_list_eq_equiv.symm p.0 q.0 i && nat_list_eq_equiv.symm p.1 q.1 i

-- the set has one member more
abbrev pub IsAdded : {X : Type 0} → (X → X → Bool) → List X → List X → X → Type 0
IsAdded {X} same old new x = (q : X) → list_any (same q) new ≡ cond (same x q) true (list_any (same q) old)

pub none_taken : (clauses : List (ℕ × Clause)) → false ≡ list_any (λ c. false) clauses
none_taken [] = refl
none_taken (c ∷ clauses) = none_taken clauses

pub nothing_given : (symbols : List Name) (assigned : List (Name × Name)) → symbols ≡ [] → assigned ≡ [] → HasGiven [] symbols assigned
nothing_given symbols assigned none no_variable = record { of_symbols = λ name. ap (list_any (same_name name)) none; of_assigned = λ key variable. ap (list_any (same_pair (key, variable))) no_variable }

module _ (earlier : List (ℕ × Clause)) (block : ℕ) (c : Clause) (symbols : List Name) (assigned : List (Name × Name)) (given : HasGiven earlier symbols assigned) where
  neither_more : ((q : Name) → gives_symbol q c ≡ false) → (name : Name) → list_any (same_name name) symbols ≡ list_any (λ d. gives_symbol name d.1) (earlier ++ (block, c) ∷ [])
  neither_more h name = given.of_symbols name ∙ not_added _ (gives_symbol name c) (h name) ∙ sym (list_any-append (λ (d : ℕ × Clause). gives_symbol name d.1) earlier ((block, c) ∷ []))

  no_variable_more : ((k v : Name) → gives_variable k v c ≡ false) → (k v : Name) → list_any (same_pair (k, v)) assigned ≡ list_any (λ d. gives_variable k v d.1) (earlier ++ (block, c) ∷ [])
  no_variable_more h k v = given.of_assigned k v ∙ not_added _ (gives_variable k v c) (h k v) ∙ sym (list_any-append (λ (d : ℕ × Clause). gives_variable k v d.1) earlier ((block, c) ∷ []))

  pub symbol_given : (name : Name) → ((q : Name) → gives_symbol q c ≡ same_name q name) → ((k v : Name) → gives_variable k v c ≡ false) → (new : List Name) → IsAdded same_name symbols new name
      → HasGiven (earlier ++ (block, c) ∷ []) new assigned
  symbol_given name is none new h = record {
    of_symbols = λ q. h q ∙ ap (cond (same_name name q) true) (given.of_symbols q) ∙ added (same_name name q) _ (gives_symbol q c) (nat_list_eq_equiv.symm name q ∙ sym (is q))
        ∙ sym (list_any-append (λ (d : ℕ × Clause). gives_symbol q d.1) earlier ((block, c) ∷ []));
    of_assigned = no_variable_more none;
  }

  pub variable_given : (key variable : Name) → ((q : Name) → gives_symbol q c ≡ false) → ((k v : Name) → gives_variable k v c ≡ same_pair (k, v) (key, variable)) → (new : List (Name × Name))
      → IsAdded same_pair assigned new (key, variable) → HasGiven (earlier ++ (block, c) ∷ []) symbols new
  variable_given key variable none is new h = record {
    of_symbols = neither_more none;
    of_assigned = λ k v. h (k, v) ∙ ap (cond (same_pair (key, variable) (k, v)) true) (given.of_assigned k v)
        ∙ added (same_pair (key, variable) (k, v)) _ (gives_variable k v c) (same_pair-symm (key, variable) (k, v) ∙ sym (is k v))
        ∙ sym (list_any-append (λ (d : ℕ × Clause). gives_variable k v d.1) earlier ((block, c) ∷ []));
  }

  pub nothing_more : ((q : Name) → gives_symbol q c ≡ false) → ((k v : Name) → gives_variable k v c ≡ false) → HasGiven (earlier ++ (block, c) ∷ []) symbols assigned
  nothing_more none no_variable = record { of_symbols = neither_more none; of_assigned = no_variable_more no_variable }

module _ (S T : Schema) (entities : List ℕ) (scopes : List (List (Name × ℕ))) (first n i : ℕ) (parts : List (ℕ × Clause)) (part : ℕ × Clause) (is : part ≡ get_or parts i part) (within : i < length parts)
    (rest : first_fault_after (clause_fault S T entities scopes) (take i parts) n (drop i parts) ≡ clauses_fault S T entities scopes first parts) (fault : Option TheoryRefusal)
    (here : fault ≡ clause_fault S T entities scopes (take i parts) n part) where
  abbrev later : Option TheoryRefusal
  later = first_fault_after (clause_fault S T entities scopes) (take (i + 1) parts) (n + 1) (drop (i + 1) parts)

  step : clauses_fault S T entities scopes first parts ≡ or_else fault later
  step = sym rest ∙ fault_step (clause_fault S T entities scopes) n i parts part is within ∙ ap (λ o. or_else o later) (sym here)

  -- a clause with a fault is the first one
  pub clause_refused : is_some fault ≡ true → fault ≡ clauses_fault S T entities scopes first parts
  clause_refused h = found fault h ∙ sym step
    where
      found : (o : Option TheoryRefusal) → is_some o ≡ true → o ≡ or_else o later
      found None h' = cc
      found (Some r) h' = refl

  pub clause_passed : is_some fault ≡ false → later ≡ clauses_fault S T entities scopes first parts
  clause_passed h = found fault h ∙ sym step
    where
      found : (o : Option TheoryRefusal) → is_some o ≡ false → later ≡ or_else o later
      found None h' = refl
      found (Some r) h' = cc

pub given_more : (i : ℕ) (parts : List (ℕ × Clause)) (part : ℕ × Clause) (symbols : List Name) (assigned : List (Name × Name)) → part ≡ get_or parts i part → i < length parts
    → HasGiven (take i parts ++ (part.0, part.1) ∷ []) symbols assigned → HasGiven (take (i + 1) parts) symbols assigned
given_more i parts part symbols assigned is within h =
    subst (λ l. HasGiven l symbols assigned) (ap (λ x. take i parts ++ x ∷ []) is ∙ sym (take_more parts i part within)) h
