-- The blocks that are made are those of the query of a mapping.
use Rattle.std.proofs.Common.{ℕ, Result, Ok, Err, IfOk, List, [], ◌∷◌, ◌++◌, ◌≡◌, ◌<◌, map, length, sym, ap, subst, ◌∙◌, arith}
use Rattle.std.specs.Prelude.{codes, decimal}
use Rattle.std.proofs.lemmas.Fmt.{decimal_digit}
use Rattle.std.proofs.lemmas.List.FromFn.{fill_by_all}
use Rattle.std.proofs.lemmas.Option.{get_or_from_slice_get}
use Rattle.cq_base.specs.declared.name.Name.{Name}
use Rattle.cq_theory.specs.declared.presentation.Equation.{Equation}
use Rattle.cq_theory.specs.declared.term.EntTerm.{EntTerm}
use Rattle.cq_theory.specs.declared.term.TypeTerm.{TypeTerm}
use Rattle.cq_theory.specs.SchemaData.{SchemaData as Schema}
use Rattle.cq_theory.specs.Canonical.{below}
use Rattle.cq_theory.specs.Groups.{positions, edge_sources}
use Rattle.cq_blocks.specs.declared.block.Block.{Block}
use Rattle.cq_mapping.specs.MappingData.{MappingData as Mapping}
use Rattle.cq_mapping.specs.Mapping.{IsMapping}
use Rattle.cq_mapping.specs.Images.{entity_image, key_image, attribute_image}
use Rattle.cq_compose.specs.Composite.{numbered}
use Rattle.cq_query.specs.IsQuery.{IsQuery}
use Rattle.cq_compose.specs.MappingQuery.{from_variable, mapping_block, mapping_query}
use Rattle.cq_compose.proofs.Placing.{numbers_from}
use Rattle.cq_compose.proofs.Variable.{block_there, mapping_query_is}

-- what follows for a value from what is known of it
pub if_ok : {T E : Type 0} (r : Result T E) (P R : T → Type 0) → ((x : T) → P x → R x) → IfOk r P → IfOk r R
if_ok (Ok x) P R f h = f x h
if_ok (Err e) P R f h = h

one_name : (entity : ℕ) → numbered (entity ∷ []) ≡ (codes "x1", entity) ∷ []
one_name entity = ap (λ digits. (codes "x" ++ digits, entity) ∷ []) (decimal_digit 1 (omega arith))

pub block_made : (F : Mapping) (entity image : ℕ) (vars vars' : List (Name × ℕ)) (tests : List Equation) (attributes attributes' : List TypeTerm) (keys keys' : List (List EntTerm)) (there away : List ℕ)
    → vars ≡ vars' → vars' ≡ numbered (image ∷ []) → tests ≡ [] → attributes ≡ attributes' → attributes' ≡ map (attribute_image F) there → keys ≡ keys'
    → keys' ≡ map (λ k. from_variable F (key_image F k) ∷ []) away → there ≡ positions (edge_sources F.source.attributes) entity → away ≡ positions (edge_sources F.source.keys) entity
    → image ≡ entity_image F entity
    → (record { vars = vars; tests = tests; attributes = attributes; keys = keys }) ≡ mapping_block F (entity, entity_image F entity)
block_made F entity image vars vars' tests attributes attributes' keys keys' there away own_vars vars_are none own_attributes attributes_are own_keys keys_are there_are away_are image_is =
    let all_vars : vars ≡ (codes "x1", entity_image F entity) ∷ [] = own_vars ∙ vars_are ∙ one_name image ∙ ap (λ e. (codes "x1", e) ∷ []) image_is in
    let all_attributes = own_attributes ∙ attributes_are ∙ ap (map (attribute_image F)) there_are ∙ sym (numbers_from (attribute_image F) 0 F.source.attributes entity) in
    let all_keys = own_keys ∙ keys_are ∙ ap (map (λ k. from_variable F (key_image F k) ∷ [])) away_are ∙ sym (numbers_from (λ k. from_variable F (key_image F k) ∷ []) 0 F.source.keys entity) in
    λ i. record { vars = all_vars i; tests = none i; attributes = all_attributes i; keys = all_keys i }

module _ (F : Mapping) (mapping : IsMapping F) where
  abbrev block_of : ℕ → Block
  block_of e = mapping_block F (e, entity_image F e)

  all_made : (mapping_query F).blocks ≡ map block_of (below (length F.source.entities))
  all_made =
      fill_by_all block_of (mapping_query F).blocks (length F.source.entities) (mapping_block F (0, 0)) (mapping_query_is F mapping).blocks (λ e within.
      get_or_from_slice_get (mapping_query F).blocks e (block_of e) (mapping_block F (0, 0)) (block_there F mapping e within))

  -- the blocks by the numbers of the entities
  pub query_made : (S T : Schema) (blocks : List Block) → S ≡ F.target → T ≡ F.source → blocks ≡ map (λ e. mapping_block F (e, entity_image F e)) (below (length F.source.entities))
      → (record { source = S; target = T; blocks = blocks }) ≡ mapping_query F
  query_made S T blocks source target are =
      let all : blocks ≡ (mapping_query F).blocks = are ∙ sym all_made in
      λ i. record { source = source i; target = target i; blocks = all i }

  pub query_made-is : (S T : Schema) (blocks : List Block) → S ≡ F.target → T ≡ F.source → blocks ≡ map (λ e. mapping_block F (e, entity_image F e)) (below (length F.source.entities))
      → IsQuery (record { source = S; target = T; blocks = blocks })
  query_made-is S T blocks source target are = subst IsQuery (sym (query_made S T blocks source target are)) (mapping_query_is F mapping)
