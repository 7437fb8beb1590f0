-- The constructor of queries, over plain variables: the schemas and the parts are read several times.
use Rattle.std.proofs.Common.{ℕ, List, [], Option, Some, None, ◌≡◌, ◌<◌, ◌+◌, ◌⊎◌, inl, inr, length, refl, sym, ap, subst, ◌∙◌}
use Rattle.std.specs.Prelude.{All, option_map}
use Rattle.std.proofs.lemmas.List.{length-map}
use Rattle.std.proofs.lemmas.List.Elements.{All-map}
use Rattle.cq_base.specs.declared.name.Name.{Name}
use Rattle.cq_theory.specs.declared.refusal.TheoryRefusal.{TheoryRefusal}
use Rattle.cq_theory.specs.declared.refusal.ArrowRefusal.{ArrowRefusal}
use Rattle.cq_theory.specs.declared.refusal.ArrowRefusal.TheVariants.{Memory}
use Rattle.cq_theory.specs.SchemaData.{SchemaData as Schema}
use Rattle.cq_theory.specs.Schema.{IsSchema}
use Rattle.cq_theory.specs.ArrowRefusals.{of_arrow, first_missing}
use Rattle.cq_theory.specs.Resolve.{or_else}
use Rattle.cq_theory.proofs.DeclaredParts.{or_else_none, new_name, first_part_fault-each}
use Rattle.cq_blocks.specs.declared.parts.QueryParts.{QueryParts}
use Rattle.cq_blocks.specs.declared.parts.Clause.{Clause}
use Rattle.cq_blocks.specs.declared.block.Block.{Block}
use Rattle.cq_theory.specs.declared.beginnings.Beginnings.{Beginnings}
use Rattle.cq_theory.specs.Beginnings.{AreBeginningsOf}
use Rattle.cq_query.specs.IsQuery.{IsQuery}
use Rattle.cq_blocks.specs.Blocks.{block_fault, blocks_fault, block_entities, entity_named, scopes_of, variables_fault, clauses_fault, missing_part, blocks_made, clauses_and_rest_fault, variables_and_rest_fault}
use Rattle.cq_query.specs.QueryParts.{query_fault, query_made}
use Rattle.cq_query.proofs.Parted.{named_entity}
use Rattle.cq_query.proofs.MadeQueries.{made_is}

no_refusal : (o : Option TheoryRefusal) → option_map of_arrow o ≡ None → o ≡ None
no_refusal None h = refl
no_refusal (Some r) h = cc

-- parts without faults give a query
query_made-is : (S T : Schema) → IsSchema S → IsSchema T → S.typeside ≡ T.typeside → (parts : QueryParts) → query_fault S T parts ≡ None → IsQuery (query_made S T parts)
query_made-is S T source target typeside parts none =
    let E : List ℕ = block_entities T parts.entities in
    let scopes : List (List (Name × ℕ)) = scopes_of S E (length T.entities) parts.vars in
    let first = or_else_none (option_map of_arrow (blocks_fault T parts.entities)) (or_else (first_missing parts.entities T.entities) (variables_and_rest_fault S T E (length parts.entities) parts.vars parts.clauses)) none in
    let second = or_else_none (first_missing parts.entities T.entities) (variables_and_rest_fault S T E (length parts.entities) parts.vars parts.clauses) first.1 in
    let third = or_else_none (option_map of_arrow (variables_fault S E (length parts.entities) parts.vars)) (clauses_and_rest_fault S T E scopes parts.clauses (length parts.entities + length parts.vars)) second.1 in
    let fourth = or_else_none (option_map of_arrow (clauses_fault S T E scopes (length parts.entities + length parts.vars) parts.clauses)) (missing_part T scopes parts.clauses) third.1 in
    made_is S T source target E (length parts.entities) (length parts.entities + length parts.vars) parts.vars parts.clauses (no_refusal _ third.0) (no_refusal _ fourth.0) fourth.1 typeside

entities_within : (T : Schema) → IsSchema T → (names : List Name) → blocks_fault T names ≡ None → All (λ e. e < length T.entities) (block_entities T names)
entities_within T target names h =
    All-map (λ e. e < length T.entities) (entity_named T) names
    (first_part_fault-each (λ (name : Name). name) (block_fault T) (λ name. entity_named T name < length T.entities)
    (λ earlier n name none. named_entity T target n name (new_name earlier n name _ none).1) [] 0 names h)

module _ (S T S₁ T₁ T₂ : Schema) (parts : QueryParts) (names : List Name) (vars : List (ℕ × Name × Name)) (clauses : List (ℕ × Clause)) (items entities : List ℕ) (first : ℕ)
    (source₁ : S₁ ≡ S) (target₁ : T₁ ≡ T) (target₂ : T₂ ≡ T)
    (same_names : names ≡ parts.entities) (same_vars : vars ≡ parts.vars) (same_clauses : clauses ≡ parts.clauses) (same_first : first ≡ length parts.entities)
    (right : (blocks_fault T₂ names ≡ None) × (first_missing names T₂.entities ≡ None)) (same_items : items ≡ block_entities T₂ names) (same_entities : entities ≡ items) where
  abbrev E : List ℕ
  E = block_entities T parts.entities

  entities_are : entities ≡ E
  entities_are = same_entities ∙ same_items ∙ λ i. block_entities (target₂ i) (same_names i)

  right_here : (blocks_fault T parts.entities ≡ None) × (first_missing parts.entities T.entities ≡ None)
  right_here =
      let Right : Schema × List Name → Type 0 = λ x. (blocks_fault x.0 x.1 ≡ None) × (first_missing x.1 x.0.entities ≡ None) in
      let both : (T₂, names) ≡ (T, parts.entities) = λ i. (target₂ i, same_names i) in
      subst Right both right

  pub new_entities : IsSchema T → All (λ e. e < length T₁.entities) entities
  new_entities target =
      let Within : List ℕ × Schema → Type 0 = λ x. All (λ e. e < length x.1.entities) x.0 in
      let both : (E, T) ≡ (entities, T₁) = λ i. (sym entities_are i, sym target₁ i) in
      subst Within both (entities_within T target parts.entities right_here.0)

  pub new_blocks : All (λ (part : ℕ × Name × Name). part.0 < length parts.entities) parts.vars → All (λ (part : ℕ × Name × Name). part.0 < length entities) vars
  new_blocks h =
      let size : length entities ≡ length parts.entities = ap length entities_are ∙ length-map parts.entities (entity_named T) in
      let Within : List (ℕ × Name × Name) × ℕ → Type 0 = λ x. All (λ (part : ℕ × Name × Name). part.0 < x.1) x.0 in
      let both : (parts.vars, length parts.entities) ≡ (vars, length entities) = λ i. (sym same_vars i, sym size i) in
      subst Within both h

  pub new_clauses : All (λ (part : ℕ × Clause). part.0 < length parts.entities) parts.clauses → All (λ (part : ℕ × Clause). part.0 < length entities) clauses
  new_clauses h =
      let size : length entities ≡ length parts.entities = ap length entities_are ∙ length-map parts.entities (entity_named T) in
      let Within : List (ℕ × Clause) × ℕ → Type 0 = λ x. All (λ (part : ℕ × Clause). part.0 < x.1) x.0 in
      let both : (parts.clauses, length parts.entities) ≡ (clauses, length entities) = λ i. (sym same_clauses i, sym size i) in
      subst Within both h

  abbrev rest : Option ArrowRefusal
  rest = variables_and_rest_fault S T E (length parts.entities) parts.vars parts.clauses

  pub new_fault : query_fault S T parts ≡ variables_and_rest_fault S₁ T₁ entities first vars clauses
  new_fault =
      ap (λ o. or_else (option_map of_arrow o) (or_else (first_missing parts.entities T.entities) rest)) right_here.0 ∙ ap (λ o. or_else o rest) right_here.1
      ∙ λ i. variables_and_rest_fault (sym source₁ i) (sym target₁ i) (sym entities_are i) (sym same_first i) (sym same_vars i) (sym same_clauses i)

  pub new_refused : (refusal : ArrowRefusal) → (refusal ≡ Memory) ⊎ (variables_and_rest_fault S₁ T₁ entities first vars clauses ≡ Some refusal) → (refusal ≡ Memory) ⊎ (query_fault S T parts ≡ Some refusal)
  new_refused refusal (inl h) = inl h
  new_refused refusal (inr h) = inr (new_fault ∙ h)

  module _ (own blocks : List Block) (own_are : own ≡ blocks) (blocks_are : blocks ≡ blocks_made S₁ T₁ entities (scopes_of S₁ entities (length T₁.entities) vars) clauses) where
    pub new_made : (record { source = S; target = T; blocks = own }) ≡ query_made S T parts
    new_made =
        let all : own ≡ blocks_made S T E (scopes_of S E (length T.entities) parts.vars) parts.clauses =
        own_are ∙ blocks_are ∙ λ i. blocks_made (source₁ i) (target₁ i) (entities_are i) (scopes_of (source₁ i) (entities_are i) (length (target₁ i).entities) (same_vars i)) (same_clauses i) in
        λ i. record { source = S; target = T; blocks = all i }

    pub new_is : IsSchema S → IsSchema T → S.typeside ≡ T.typeside → variables_and_rest_fault S₁ T₁ entities first vars clauses ≡ None → IsQuery (record { source = S; target = T; blocks = own })
    new_is source target typeside none = subst IsQuery (sym new_made) (query_made-is S T source target typeside parts (new_fault ∙ none))

pub beginnings_at : (T T₁ : Schema) (made : Beginnings) → T₁ ≡ T → AreBeginningsOf T₁ made → AreBeginningsOf T made
beginnings_at T T₁ made same h = subst (λ (U : Schema). AreBeginningsOf U made) same h
