-- The query of a mapping is a query: its blocks have one variable.
use Rattle.std.proofs.Common.{ℕ, zero, suc, List, [], ◌∷◌, Option, Some, None, ◌≡◌, ◌<◌, ◌≤◌, ◌+◌, map, length, get_or, refl, sym, ap, subst, ◌∙◌, arith}
use Rattle.std.specs.Prelude.{slice_get, option_and_then, option_map, codes, All}
use Rattle.std.specs.List.{enumerate_from, IsDistinct}
use Rattle.std.proofs.lemmas.List.{length-map}
use Rattle.std.proofs.lemmas.List.FromFn.{length-enumerate_from}
use Rattle.std.proofs.lemmas.Option.{slice_get-map, slice_get-get_or, slice_get_within}
use Rattle.cq_base.specs.declared.name.Name.{Name}
use Rattle.cq_base.specs.Names.{AreDistinct}
use Rattle.cq_theory.specs.declared.presentation.Presentation.{Presentation}
use Rattle.cq_theory.specs.declared.presentation.Equation.{Equation}
use Rattle.cq_theory.specs.declared.presentation.Sort.{Sort}
use Rattle.cq_theory.specs.declared.presentation.Sort.TheVariants.{Entity}
use Rattle.cq_theory.specs.declared.schema.Edge.{Edge}
use Rattle.cq_theory.specs.declared.term.EntTerm.{EntTerm}
use Rattle.cq_theory.specs.declared.term.TypeTerm.{TypeTerm}
use Rattle.cq_theory.specs.declared.term.TypeTerm.TheOpen as layer
use Rattle.cq_theory.specs.declared.term.TypeTerm.TheFolds.{fold-TypeTerm}
use Rattle.cq_theory.specs.SchemaData.{SchemaData as Schema}
use Rattle.cq_theory.specs.EntTerm as ent
use Rattle.cq_theory.specs.Schema.{one_of}
use Rattle.cq_theory.specs.Sorts.{Generators, followed, target_of, entity_at, type_at, entity_of, type_of, type_step}
use Rattle.cq_theory.specs.Presentation.{IsSort, IsPresentation}
use Rattle.cq_theory.specs.Groups.{positions, edge_sources}
use Rattle.cq_theory.proofs.Every.{enumerated, from_enumerated}
use Rattle.cq_theory.proofs.Faults.{made_of}
use Rattle.cq_theory.proofs.OnValues.{All_at}
use Rattle.cq_blocks.specs.declared.block.Block.{Block}
use Rattle.cq_mapping.specs.MappingData.{MappingData as Mapping}
use Rattle.cq_mapping.specs.Mapping.{IsMapping}
use Rattle.cq_mapping.specs.Images.{entity_image, key_image, attribute_image}
use Rattle.cq_query.specs.QueryData.{QueryData as Query}
use Rattle.cq_query.specs.Translation.{variables_in, tests_in, variables_at, found_term, found_terms}
use Rattle.cq_query.specs.Duties.{frozen}
use Rattle.cq_query.specs.IsQuery.{IsQuery, HasBlockTerms, IsAttributeTerm, AreKeyTerms}
use Rattle.cq_compose.specs.MappingQuery.{from_variable, mapping_block, mapping_query}
use Rattle.cq_compose.proofs.Placing.{numbers_from, at_edge-listed}

-- one generator of the entity
abbrev pub variable : Name → ℕ → Generators
variable name e = (name, Entity e) ∷ []

-- The variable of an equation has another name.
module _ (S : Schema) (name : Name) (e : ℕ) where
  entity_named : (n : ℕ) → entity_at (slice_get (variable name e) n) ≡ entity_at (slice_get (one_of e) n)
  entity_named zero = refl
  entity_named (suc n) = refl

  type_named : (n : ℕ) → type_at (slice_get (variable name e) n) ≡ type_at (slice_get (one_of e) n)
  type_named zero = refl
  type_named (suc n) = refl

  step_named : (x : layer.TypeTerm-F (Option ℕ)) → type_step S (variable name e) x ≡ type_step S (one_of e) x
  step_named (layer.Gen n) = type_named n
  step_named (layer.Const c) = refl
  step_named (layer.Att a t) = ap (λ (o : Option ℕ). option_and_then (followed (slice_get S.attributes a)) (option_and_then (target_of S.keys t.path) o)) (entity_named t.generator)
  step_named (layer.Fun f types) = refl

  pub type_of-variable : (t : TypeTerm) → type_of S (variable name e) t ≡ type_of S (one_of e) t
  type_of-variable t = λ i. fold-TypeTerm (Option ℕ) (λ x. step_named x i) t

only_one : {X : Type 0} (P : X → Type 0) (x : X) → P x → All P (x ∷ [])
only_one P x h zero d within = h
only_one P x h (suc n) d within = absurd (omega arith)

one_distinct : (name : Name) → AreDistinct (name ∷ [])
unfolding IsDistinct
one_distinct name = (tt, tt)

none_distinct : AreDistinct []
unfolding IsDistinct
none_distinct = tt

module _ (F : Mapping) (mapping : IsMapping F) where
  abbrev Q : Query
  Q = mapping_query F

  abbrev one_variable : ℕ → List (Name × ℕ)
  one_variable e = (codes "x1", e) ∷ []

  image_at : (e : ℕ) → e < length F.source.entities → slice_get F.entities e ≡ Some (entity_image F e)
  image_at e within = slice_get-get_or F.entities e 0 (omega (arith, mapping.entities))

  pub block_there : (e : ℕ) → e < length F.source.entities → slice_get Q.blocks e ≡ Some (mapping_block F (e, entity_image F e))
  block_there e within =
      let here : 0 + e ≡ e = omega arith in
      slice_get-map (mapping_block F) (enumerate_from 0 F.entities) e
      ∙ ap (option_map (mapping_block F)) (enumerated 0 F.entities e (entity_image F e) (image_at e within) ∙ ap (λ n. let p : ℕ × ℕ = (n, entity_image F e) in Some p) here)

  pub variables_there : (e : ℕ) → e < length F.source.entities → variables_at Q e ≡ one_variable (entity_image F e)
  variables_there e within = ap variables_in (block_there e within)

  pub frozen_there : (e : ℕ) → e < length F.source.entities → frozen Q e ≡ record { generators = variable (codes "x1") (entity_image F e); equations = [] }
  frozen_there e within =
      ap (λ (o : Option Block). let made : Presentation = record { generators = map (λ (v : Name × ℕ). (v.0, Entity v.1)) (variables_in o); equations = tests_in o } in made) (block_there e within)

  pub each_variables : (P : List (Name × ℕ) → Type 0) → P [] → ((e : ℕ) → P (one_variable e)) → (e : ℕ) → P (variables_at Q e)
  each_variables P none one e = at_block (slice_get Q.blocks e) refl
    where
      at_block : (o : Option Block) → slice_get Q.blocks e ≡ o → P (variables_in o)
      at_block None is = none
      at_block (Some b) is =
          let made = made_of (mapping_block F) (enumerate_from 0 F.entities) e b is in
          subst (λ (c : Block). P c.vars) (sym made.2) (one made.0.1)

  block_terms : (e : ℕ) (block : Block) → slice_get Q.blocks e ≡ Some block → HasBlockTerms Q e block
  block_terms e block at =
      let made = made_of (mapping_block F) (enumerate_from 0 F.entities) e block at in
      let from = from_enumerated 0 F.entities e made.0 made.1 in
      let number : made.0.0 ≡ e = omega (arith, from.1) in
      record {
        attributes = ap (λ (b : Block). length b.attributes) made.2 ∙ ap length (numbers_from (attribute_image F) 0 F.source.attributes made.0.0)
            ∙ length-map (positions (edge_sources F.source.attributes) made.0.0) (attribute_image F) ∙ ap (λ n. length (positions (edge_sources F.source.attributes) n)) number;
        keys = ap (λ (b : Block). length b.keys) made.2 ∙ ap length (numbers_from (λ k. from_variable F (key_image F k) ∷ []) 0 F.source.keys made.0.0)
            ∙ length-map (positions (edge_sources F.source.keys) made.0.0) (λ k. from_variable F (key_image F k) ∷ []) ∙ ap (λ n. length (positions (edge_sources F.source.keys) n)) number;
      }

  no_equation : (e n : ℕ) (x : Equation) → slice_get [] n ≡ Some x → ⊥
  no_equation e n x h = cc

  presentation : (e : ℕ) → e < length F.source.entities → IsPresentation F.target (record { generators = variable (codes "x1") (entity_image F e); equations = [] })
  presentation e within =
      let image : entity_image F e < length F.target.entities = All_at (λ n. n < length F.target.entities) F.entities e (entity_image F e) mapping.entity_images (image_at e within) in
      record {
        generators = only_one (λ (g : Name × Sort). IsSort F.target g.1) (codes "x1", Entity (entity_image F e)) image;
        count = omega arith;
        equations = λ n x at. absurd (no_equation e n x at);
      }

  module _ (a : ℕ) (edge : Edge) (at : slice_get F.source.attributes a ≡ Some edge) where
    pub attribute_within : edge.from < length F.source.entities
    attribute_within = (All_at (λ (x : Edge). (x.from < length F.source.entities) × (x.to < length F.source.typeside.types)) F.source.attributes a edge mapping.source.attributes at).0

    pub attribute_found : found_term Q a ≡ Some (attribute_image F a)
    attribute_found =
        at_edge-listed Q F.source.attributes (λ (b : Block). b.attributes) a edge at (mapping_block F (edge.from, entity_image F edge.from)) (block_there edge.from attribute_within)
        (attribute_image F) (numbers_from (attribute_image F) 0 F.source.attributes edge.from)

    attribute_is : IsAttributeTerm Q a edge
    attribute_is = record {
      term = attribute_image F a;
      found = attribute_found;
      typed = ap (λ (P : Presentation). type_of F.target P.generators (attribute_image F a)) (frozen_there edge.from attribute_within)
          ∙ type_of-variable F.target (codes "x1") (entity_image F edge.from) (attribute_image F a) ∙ (mapping.attribute_images a edge at).typed;
      fits = (mapping.attribute_images a edge at).fits;
    }

  module _ (k : ℕ) (edge : Edge) (at : slice_get F.source.keys k ≡ Some edge) where
    pub key_within : (edge.from < length F.source.entities) × (edge.to < length F.source.entities)
    key_within = All_at (λ (x : Edge). (x.from < length F.source.entities) × (x.to < length F.source.entities)) F.source.keys k edge mapping.source.keys at

    pub key_found : found_terms Q k ≡ Some (from_variable F (key_image F k) ∷ [])
    key_found =
        at_edge-listed Q F.source.keys (λ (b : Block). b.keys) k edge at (mapping_block F (edge.from, entity_image F edge.from)) (block_there edge.from key_within.0)
        (λ n. from_variable F (key_image F n) ∷ []) (numbers_from (λ n. from_variable F (key_image F n) ∷ []) 0 F.source.keys edge.from)

    one_term : (n : ℕ) (t : EntTerm) (v : Name × ℕ) → slice_get (from_variable F (key_image F k) ∷ []) n ≡ Some t → slice_get (one_variable (entity_image F edge.to)) n ≡ Some v
        → (entity_of F.target (frozen Q edge.from).generators t ≡ Some v.1) × (ent.symbols_of t ≤ 1024)
    one_term zero t v at_term at_variable =
        let term : from_variable F (key_image F k) ≡ t = cc in
        let one : (codes "x1", entity_image F edge.to) ≡ v = cc in
        let image = mapping.key_images k edge at in (
          ap (entity_of F.target (frozen Q edge.from).generators) (sym term)
              ∙ ap (λ (P : Presentation). entity_of F.target P.generators (from_variable F (key_image F k))) (frozen_there edge.from key_within.0)
              ∙ image.leads ∙ ap (λ (w : Name × ℕ). Some w.1) one,
          subst (λ (u : EntTerm). ent.symbols_of u ≤ 1024) term (let fits : length (key_image F k) + 1 ≤ 1024 = omega (arith, image.fits) in fits),
        )
    one_term (suc n) t v at_term at_variable = cc

    key_is : AreKeyTerms Q k edge
    key_is = record {
      terms = from_variable F (key_image F k) ∷ [];
      found = key_found;
      each = ap length (sym (variables_there edge.to key_within.1));
      sorted = λ n t v at_term at_variable. one_term n t v at_term (ap (λ l. slice_get l n) (sym (variables_there edge.to key_within.1)) ∙ at_variable);
    }

  pub mapping_query_is : IsQuery Q
  mapping_query_is = record {
    source = mapping.target;
    target = mapping.source;
    typeside = sym mapping.typeside;
    blocks = length-map (enumerate_from 0 F.entities) (mapping_block F) ∙ length-enumerate_from 0 F.entities ∙ mapping.entities;
    each_block = block_terms;
    each_frozen = λ e within. subst (IsPresentation F.target) (sym (frozen_there e within)) (presentation e within);
    distinct = each_variables (λ l. AreDistinct (map (λ (v : Name × ℕ). v.0) l)) none_distinct (λ e. one_distinct (codes "x1"));
    few = each_variables (λ l. length l ≤ 16000000) (omega arith) (λ e. omega arith);
    attributes = attribute_is;
    keys = key_is;
  }
