-- The blocks of a composite, and that the components of each term over a block of the second query fit.
use Rattle.std.proofs.Common.{ℕ, zero, suc, List, [], ◌∷◌, ◌++◌, Option, Some, None, ◌≡◌, ◌<◌, ◌+◌, map, length, refl, sym, ap, subst, ◌∙◌, arith}
use Rattle.std.specs.Prelude.{slice_get, sum, codes, decimal, option_and_then}
use Rattle.std.specs.List.{flat_map, enumerate_from, range_with_len}
use Rattle.std.proofs.lemmas.List.{length-map}
use Rattle.std.proofs.lemmas.List.Folds.{flat_map-map}
use Rattle.std.proofs.lemmas.List.FromFn.{length-range_with_len}
use Rattle.std.proofs.lemmas.Option.{option_and_then_some}
use Rattle.cq_base.specs.declared.name.Name.{Name}
use Rattle.cq_theory.specs.declared.presentation.Equation.{Equation}
use Rattle.cq_theory.specs.declared.presentation.Sort.{Sort}
use Rattle.cq_theory.specs.declared.presentation.Sort.TheVariants.{Entity}
use Rattle.cq_theory.specs.declared.schema.Edge.{Edge}
use Rattle.cq_theory.specs.SchemaData.{SchemaData as Schema}
use Rattle.cq_theory.specs.declared.term.EntTerm.{EntTerm}
use Rattle.cq_theory.specs.declared.term.TypeTerm.{TypeTerm}
use Rattle.cq_theory.specs.declared.term.TypeTerm.TheVariants as term
use Rattle.cq_theory.specs.declared.constant.Con.TheVariants.{Named}
use Rattle.cq_theory.specs.EntTerm.{alone}
use Rattle.cq_theory.specs.Groups.{places, edge_sources}
use Rattle.cq_theory.specs.Sorts.{target_of, entity_at, entity_of}
use Rattle.cq_theory.proofs.Every.{enumerated}
use Rattle.cq_theory.proofs.OnValues.{All_at}
use Rattle.cq_theory.specs.Presentation.{IsSort}
use Rattle.cq_theory.proofs.TypeTerms.{fold-Const}
use Rattle.cq_blocks.specs.declared.block.Block.{Block}
use Rattle.cq_query.specs.QueryData.{QueryData as Query}
use Rattle.cq_query.specs.Puts.{generators_from, put_equation}
use Rattle.cq_query.specs.Translation.{variables_at, tests_at, variables_in, tests_in, terms_or_none, term_or_constant, assigned, attribute_term, variable_terms}
use Rattle.cq_query.specs.Duties.{frozen, Sound}
use Rattle.cq_query.specs.IsQuery.{IsQuery}
use Rattle.cq_query.proofs.Answering.{IsIn, in_front, in_back}
use Rattle.cq_query.proofs.Holding.{in_map, in_flat_map}
use Rattle.cq_query.proofs.Standing.{Stand, generators_at, variable_at, alone_at, along_stand}
use Rattle.cq_compose.specs.Composite.{numbered, width, first_of, components_of, components, term_components, translated, translated_step, translated_test, component_entities, composite_tests, composite_block, composite}
use Rattle.cq_compose.proofs.Putting.{get_mapped, put-left, put-right, Fits}
use Rattle.cq_compose.proofs.Equals.{Derives-moved, Derives-given}
use Rattle.cq_compose.proofs.Fitting.{along_fits}
use Rattle.cq_compose.proofs.Places.{no_mapped, no_enumerated, length-enumerated, flat_at, length-flat, all_rows}

-- what stands at a place that may not be there
mapped_terms : (f : List EntTerm → List EntTerm) → f [] ≡ [] → (xs : List (List EntTerm)) (n : ℕ) → terms_or_none (slice_get (map f xs) n) ≡ f (terms_or_none (slice_get xs n))
mapped_terms f empty [] n = sym empty
mapped_terms f empty (x ∷ xs) zero = refl
mapped_terms f empty (x ∷ xs) (suc n) = mapped_terms f empty xs n

mapped_term : (f : TypeTerm → TypeTerm) → f (term.Const (Named 0)) ≡ term.Const (Named 0) → (xs : List TypeTerm) (n : ℕ)
    → term_or_constant (slice_get (map f xs) n) ≡ f (term_or_constant (slice_get xs n))
mapped_term f constant [] n = sym constant
mapped_term f constant (x ∷ xs) zero = refl
mapped_term f constant (x ∷ xs) (suc n) = mapped_term f constant xs n

-- the terms of a foreign key and of an attribute in a block, by their place there
abbrev terms_in : Option ℕ → Option Block → List EntTerm
terms_in place b = terms_or_none (option_and_then (λ (block : Block). option_and_then (slice_get block.keys) place) b)

abbrev term_in : Option ℕ → Option Block → TypeTerm
term_in place b = term_or_constant (option_and_then (λ (block : Block). option_and_then (slice_get block.attributes) place) b)

module _ (Q W : Query) where
  pub block_at : (u : ℕ) (block : Block) → slice_get W.blocks u ≡ Some block → slice_get (composite Q W).blocks u ≡ Some (composite_block Q W (u, block))
  block_at u block is =
      let here : 0 + u ≡ u = omega arith in
      get_mapped (composite_block Q W) (enumerate_from 0 W.blocks) u (u, block) (enumerated 0 W.blocks u block is ∙ ap (λ m. Some (m, block)) here)

  no_block : (u : ℕ) → slice_get W.blocks u ≡ None → slice_get (composite Q W).blocks u ≡ None
  no_block u is = no_mapped (composite_block Q W) (enumerate_from 0 W.blocks) u (no_enumerated 0 W.blocks u is)

  pub variables_are : (u : ℕ) → variables_at (composite Q W) u ≡ numbered (component_entities Q W u)
  variables_are u = at (slice_get W.blocks u) refl
    where
      at : (o : Option Block) → slice_get W.blocks u ≡ o → variables_at (composite Q W) u ≡ numbered (component_entities Q W u)
      at None is = ap variables_in (no_block u is)
          ∙ sym (ap (λ o. numbered (flat_map (λ (y : Name × ℕ). map (λ (v : Name × ℕ). v.1) (variables_at Q y.1)) (variables_in o))) is)
      at (Some block) is = ap variables_in (block_at u block is)

  pub tests_are : (u : ℕ) → tests_at (composite Q W) u ≡ composite_tests Q W u
  tests_are u = at (slice_get W.blocks u) refl
    where
      at : (o : Option Block) → slice_get W.blocks u ≡ o → tests_at (composite Q W) u ≡ composite_tests Q W u
      at None is = ap tests_in (no_block u is)
          ∙ sym (ap (λ o. flat_map (λ (y : ℕ × (Name × ℕ)). map (put_equation (components Q W u y.0)) (tests_at Q y.1.1)) (enumerate_from 0 (variables_in o))
          ++ flat_map (translated_test Q W u) (tests_in o)) is)
      at (Some block) is = ap tests_in (block_at u block is)

  -- the terms of a foreign key
  pub assigned_are : (k : ℕ) (edge : Edge) → slice_get W.target.keys k ≡ Some edge → assigned (composite Q W) k ≡ flat_map (term_components Q W edge.from) (assigned W k)
  assigned_are k edge is = at (slice_get W.blocks edge.from) refl
    where
      at_number : (block : Block) (o : Option ℕ)
          → terms_or_none (option_and_then (slice_get (map (flat_map (term_components Q W edge.from)) block.keys)) o)
          ≡ flat_map (term_components Q W edge.from) (terms_or_none (option_and_then (slice_get block.keys) o))
      at_number block None = refl
      at_number block (Some p) = mapped_terms (flat_map (term_components Q W edge.from)) refl block.keys p

      edge_found : (X : Query) → slice_get X.target.keys k ≡ Some edge → X.target ≡ W.target → assigned X k ≡ terms_in (slice_get (places (edge_sources W.target.keys)) k) (slice_get X.blocks edge.from)
      edge_found X here same =
          ap (λ (e : Option Edge). terms_or_none (option_and_then (λ (e : Edge). option_and_then (λ (block : Block). option_and_then (slice_get block.keys)
          (slice_get (places (edge_sources X.target.keys)) k)) (slice_get X.blocks e.from)) e)) here
          ∙ ap (λ (T : Schema). terms_or_none (option_and_then (λ (block : Block). option_and_then (slice_get block.keys) (slice_get (places (edge_sources T.keys)) k)) (slice_get X.blocks edge.from))) same

      at : (o : Option Block) → slice_get W.blocks edge.from ≡ o → assigned (composite Q W) k ≡ flat_map (term_components Q W edge.from) (assigned W k)
      at None none = edge_found (composite Q W) is refl ∙ ap (terms_in (slice_get (places (edge_sources W.target.keys)) k)) (no_block edge.from none)
          ∙ sym (ap (flat_map (term_components Q W edge.from)) (edge_found W is refl ∙ ap (terms_in (slice_get (places (edge_sources W.target.keys)) k)) none))
      at (Some block) here = edge_found (composite Q W) is refl ∙ ap (terms_in (slice_get (places (edge_sources W.target.keys)) k)) (block_at edge.from block here) ∙ at_number block (slice_get (places (edge_sources W.target.keys)) k)
          ∙ sym (ap (flat_map (term_components Q W edge.from)) (edge_found W is refl ∙ ap (terms_in (slice_get (places (edge_sources W.target.keys)) k)) here))

  -- the term of an attribute
  pub attribute_are : (a : ℕ) (edge : Edge) → slice_get W.target.attributes a ≡ Some edge → attribute_term (composite Q W) a ≡ translated Q W edge.from (attribute_term W a)
  attribute_are a edge is = at (slice_get W.blocks edge.from) refl
    where
      constant : translated Q W edge.from (term.Const (Named 0)) ≡ term.Const (Named 0)
      constant = fold-Const TypeTerm (translated_step Q W edge.from) (Named 0)

      at_number : (block : Block) (o : Option ℕ)
          → term_or_constant (option_and_then (slice_get (map (translated Q W edge.from) block.attributes)) o)
          ≡ translated Q W edge.from (term_or_constant (option_and_then (slice_get block.attributes) o))
      at_number block None = sym constant
      at_number block (Some p) = mapped_term (translated Q W edge.from) constant block.attributes p

      edge_found : (X : Query) → slice_get X.target.attributes a ≡ Some edge → X.target ≡ W.target → attribute_term X a ≡ term_in (slice_get (places (edge_sources W.target.attributes)) a) (slice_get X.blocks edge.from)
      edge_found X here same =
          ap (λ (e : Option Edge). term_or_constant (option_and_then (λ (e : Edge). option_and_then (λ (block : Block). option_and_then (slice_get block.attributes)
          (slice_get (places (edge_sources X.target.attributes)) a)) (slice_get X.blocks e.from)) e)) here
          ∙ ap (λ (T : Schema). term_or_constant (option_and_then (λ (block : Block). option_and_then (slice_get block.attributes) (slice_get (places (edge_sources T.attributes)) a)) (slice_get X.blocks edge.from))) same

      at : (o : Option Block) → slice_get W.blocks edge.from ≡ o → attribute_term (composite Q W) a ≡ translated Q W edge.from (attribute_term W a)
      at None none = edge_found (composite Q W) is refl ∙ ap (term_in (slice_get (places (edge_sources W.target.attributes)) a)) (no_block edge.from none)
          ∙ sym (ap (translated Q W edge.from) (edge_found W is refl ∙ ap (term_in (slice_get (places (edge_sources W.target.attributes)) a)) none) ∙ constant)
      at (Some block) here = edge_found (composite Q W) is refl ∙ ap (term_in (slice_get (places (edge_sources W.target.attributes)) a)) (block_at edge.from block here) ∙ at_number block (slice_get (places (edge_sources W.target.attributes)) a)
          ∙ sym (ap (translated Q W edge.from) (edge_found W is refl ∙ ap (term_in (slice_get (places (edge_sources W.target.attributes)) a)) here))

  -- a component's variable is of the component's entity
  component_sorted : (u m e : ℕ) → slice_get (component_entities Q W u) m ≡ Some e → entity_of Q.source (generators_at (composite Q W) u) (alone m) ≡ Some e
  component_sorted u m e is =
      let name : Name = codes "x" ++ decimal (1 + m) in
      let named : slice_get (numbered (component_entities Q W u)) m ≡ Some (name, e) =
      get_mapped (λ (p : ℕ × ℕ). let v : Name × ℕ = (codes "x" ++ decimal p.0, p.1) in v) (enumerate_from 1 (component_entities Q W u)) m (1 + m, e) (enumerated 1 (component_entities Q W u) m e is) in
      let there : slice_get (variables_at (composite Q W) u) m ≡ Some (name, e) = ap (λ l. slice_get l m) (variables_are u) ∙ named in
      let generator = get_mapped (λ (v : Name × ℕ). let g : Name × Sort = (v.0, Entity v.1) in g) (variables_at (composite Q W) u) m (name, e) there in
      ap (λ o. option_and_then (target_of Q.source.keys []) (entity_at o)) generator

  -- a variable's components
  pub components_are : (u y : ℕ) (v : Name × ℕ) → slice_get (variables_at W u) y ≡ Some v → components Q W u y ≡ generators_from (first_of Q W u y) (width Q W v)
  components_are u y v is = ap (components_of Q W u y) is

  component_stand : (u y : ℕ) (v : Name × ℕ) → slice_get (variables_at W u) y ≡ Some v → Stand Q (generators_at (composite Q W) u) (generators_from (first_of Q W u y) (width Q W v)) v.1
  component_stand u y v is = record {
    count = length-map (range_with_len (first_of Q W u y) (width Q W v)) alone ∙ length-range_with_len (first_of Q W u y) (width Q W v);
    each = λ n t x at at'.
        let same : alone (first_of Q W u y + n) ≡ t = alone_at Q (first_of Q W u y) (width Q W v) n t at in
        let entities : Name × ℕ → List ℕ = λ (w : Name × ℕ). map (λ (z : Name × ℕ). z.1) (variables_at Q w.1) in
        let there : slice_get (component_entities Q W u) (first_of Q W u y + n) ≡ Some x.1 =
        flat_at (λ (w : Name × ℕ). map (λ (z : Name × ℕ). z.1) (variables_at Q w.1)) (width Q W) (variables_at W u) (variables_at W u)
        (λ i a b left right. same_width (variables_at W u) i a b left right) refl y v n x.1 is (get_mapped (λ (z : Name × ℕ). z.1) (variables_at Q v.1) n x at') in
        ap (entity_of Q.source (generators_at (composite Q W) u)) (sym same) ∙ component_sorted u (first_of Q W u y + n) x.1 there;
  }
    where
      same_width : (vs : List (Name × ℕ)) (i : ℕ) (a b : Name × ℕ) → slice_get vs i ≡ Some a → slice_get vs i ≡ Some b
          → length (map (λ (z : Name × ℕ). z.1) (variables_at Q a.1)) ≡ width Q W b
      same_width vs i a b left right = let same : a ≡ b = cc in length-map (variables_at Q a.1) (λ (z : Name × ℕ). z.1) ∙ ap (width Q W) same

  -- the where equations of the first query on a variable's components are where equations of the composite
  pub component_test : (u y n : ℕ) (v : Name × ℕ) (e : Equation) → slice_get (variables_at W u) y ≡ Some v → slice_get (tests_at Q v.1) n ≡ Some e
      → IsIn (put_equation (components Q W u y) e) (tests_at (composite Q W) u)
  component_test u y n v e is at =
      let here : 0 + y ≡ y = omega arith in
      let number : slice_get (enumerate_from 0 (variables_at W u)) y ≡ Some (y, v) = enumerated 0 (variables_at W u) y v is ∙ ap (λ m. Some (m, v)) here in
      subst (IsIn (put_equation (components Q W u y) e)) (sym (tests_are u))
      (in_front (put_equation (components Q W u y) e)
      (flat_map (λ (x : ℕ × (Name × ℕ)). map (put_equation (components Q W u x.0)) (tests_at Q x.1.1)) (enumerate_from 0 (variables_at W u)))
      (flat_map (translated_test Q W u) (tests_at W u))
      (in_flat_map (λ (x : ℕ × (Name × ℕ)). map (put_equation (components Q W u x.0)) (tests_at Q x.1.1)) (y, v) (enumerate_from 0 (variables_at W u)) (put_equation (components Q W u y) e) (y, number)
      (in_map (put_equation (components Q W u y)) (tests_at Q v.1) n e at)))

  -- the equations that a where equation of the second query gives are where equations of the composite
  pub translated_test_in : (u n : ℕ) (e f : Equation) → slice_get (tests_at W u) n ≡ Some e → IsIn f (translated_test Q W u e) → IsIn f (tests_at (composite Q W) u)
  translated_test_in u n e f at is =
      subst (IsIn f) (sym (tests_are u))
      (in_back f (flat_map (λ (x : ℕ × (Name × ℕ)). map (put_equation (components Q W u x.0)) (tests_at Q x.1.1)) (enumerate_from 0 (variables_at W u)))
      (flat_map (translated_test Q W u) (tests_at W u))
      (in_flat_map (translated_test Q W u) e (tests_at W u) f (n, at) is))

  -- a variable's components fit
  pub component_fits : (u y : ℕ) (v : Name × ℕ) → slice_get (variables_at W u) y ≡ Some v → Fits Q (frozen (composite Q W) u) (components Q W u y) v.1
  component_fits u y v is = record {
    stand = subst (λ (ts : List EntTerm). Stand Q (generators_at (composite Q W) u) ts v.1) (sym (components_are u y v is)) (component_stand u y v is);
    meets = λ n e at. Derives-moved Q.source (frozen (composite Q W) u) _ _ _ _ (put-left (components Q W u y) e) (put-right (components Q W u y) e)
        (Derives-given Q.source (frozen (composite Q W) u) (put_equation (components Q W u y) e) (component_test u y n v e is at));
  }

  -- a block of the composite has as many variables as components
  pub variable_count_is : (u : ℕ) → length (variables_at (composite Q W) u) ≡ sum (map (width Q W) (variables_at W u))
  variable_count_is u =
      ap length (variables_are u) ∙ length-map (enumerate_from 1 (component_entities Q W u)) (λ (p : ℕ × ℕ). let v : Name × ℕ = (codes "x" ++ decimal p.0, p.1) in v)
      ∙ length-enumerated 1 (component_entities Q W u)
      ∙ length-flat {V = Name × ℕ} (λ (w : Name × ℕ). map (λ (z : Name × ℕ). z.1) (variables_at Q w.1)) (width Q W) (variables_at W u) (width Q W) (λ w. length-map (variables_at Q w.1) (λ (z : Name × ℕ). z.1))

  -- they are the components of all variables of the second query's block
  pub variable_components : (u : ℕ) → variable_terms (composite Q W) u ≡ flat_map (term_components Q W u) (variable_terms W u)
  variable_components u =
      ap (generators_from 0) (variable_count_is u)
      ∙ sym (flat_map-map (term_components Q W u) alone (range_with_len 0 (length (variables_at W u)))
      ∙ all_rows alone (width Q W) (components Q W u) (variables_at W u) (λ y v at. components_are u y v at))

-- a query from the target of the first to a schema
abbrev pub second_query : Query → Schema → List Block → Query
second_query Q U blocks = record { source = Q.target; target = U; blocks = blocks }

module _ (Q : Query) (U : Schema) (blocks : List Block) (second : IsQuery (second_query Q U blocks)) where
  -- a variable is of an entity of the first query's target
  pub variable_within : (u y : ℕ) (v : Name × ℕ) → u < length U.entities → slice_get (variables_at (second_query Q U blocks) u) y ≡ Some v → v.1 < length Q.target.entities
  variable_within u y v within at =
      let generator = get_mapped (λ (w : Name × ℕ). let g : Name × Sort = (w.0, Entity w.1) in g) (variables_at (second_query Q U blocks) u) y v at in
      All_at (λ (g : Name × Sort). IsSort Q.target g.1) (generators_at (second_query Q U blocks) u) y (v.0, Entity v.1) (second.each_frozen u within).generators generator

-- the components of a term stand for a row
pub term_stand : (Q : Query) (U : Schema) (blocks : List Block) → IsQuery Q → (u : ℕ) (t : EntTerm) (e : ℕ) → entity_of Q.target (generators_at (second_query Q U blocks) u) t ≡ Some e
    → Stand Q (generators_at (composite Q (second_query Q U blocks)) u) (term_components Q (second_query Q U blocks) u t) e
term_stand Q U blocks query u t e h = option_and_then_some (target_of Q.target.keys t.path) (entity_at (slice_get (generators_at (second_query Q U blocks) u) t.generator)) e h (λ start first rest.
    let v = variable_at (second_query Q U blocks) u t.generator start first in
    along_stand Q query (generators_at (composite Q (second_query Q U blocks)) u) t.path (components Q (second_query Q U blocks) u t.generator) start e rest
    (subst (Stand Q (generators_at (composite Q (second_query Q U blocks)) u) (components Q (second_query Q U blocks) u t.generator)) v.2 (component_fits Q (second_query Q U blocks) u t.generator v.0 v.1).stand))

module _ (Q : Query) (U : Schema) (blocks : List Block) (query : IsQuery Q) (sound : Sound Q) where
  abbrev Second : Query
  Second = second_query Q U blocks

  -- the components of a term fit
  pub term_fits : (u : ℕ) (t : EntTerm) (e : ℕ) → entity_of Q.target (generators_at Second u) t ≡ Some e → Fits Q (frozen (composite Q Second) u) (term_components Q Second u t) e
  term_fits u t e h = option_and_then_some (target_of Q.target.keys t.path) (entity_at (slice_get (generators_at Second u) t.generator)) e h (λ start first rest.
      let v = variable_at Second u t.generator start first in
      along_fits Q query sound (frozen (composite Q Second) u) t.path (components Q Second u t.generator) start e rest
      (subst (Fits Q (frozen (composite Q Second) u) (components Q Second u t.generator)) v.2 (component_fits Q Second u t.generator v.0 v.1)))
