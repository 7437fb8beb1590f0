-- A composite that is not too large is a query.
use Rattle.std.proofs.Common.{ℕ, zero, suc, false, List, [], ◌∷◌, ◌++◌, Option, Some, None, ◌≡◌, ◌<◌, ◌≤◌, ◌+◌, ◌^◌, ◌||◌, map, length, get_or, refl, sym, ap, subst, ◌∙◌, arith}
use Rattle.std.specs.Prelude.{slice_get, option_map, codes, decimal, nat_lt}
use Rattle.std.specs.List.{flat_map, enumerate_from, list_any}
use Rattle.std.proofs.lemmas.List.{length-map}
use Rattle.std.proofs.lemmas.List.Elements.{All-map}
use Rattle.std.proofs.lemmas.List.FromFn.{length-enumerate_from}
use Rattle.std.proofs.lemmas.Option.{slice_get-get_or, slice_get_within}
use Rattle.cq_base.specs.declared.name.Name.{Name}
use Rattle.cq_base.specs.Names.{AreDistinct}
use Rattle.cq_theory.specs.declared.presentation.Equation.{Equation}
use Rattle.cq_theory.specs.declared.presentation.Equation.TheVariants as equation
use Rattle.cq_theory.specs.declared.presentation.Sort.{Sort}
use Rattle.cq_theory.specs.declared.presentation.Sort.TheVariants.{Plain, Entity}
use Rattle.cq_theory.specs.declared.schema.Edge.{Edge}
use Rattle.cq_theory.specs.declared.term.EntTerm.{EntTerm}
use Rattle.cq_theory.specs.SchemaData.{SchemaData as Schema}
use Rattle.cq_theory.specs.EntTerm as ent
use Rattle.cq_theory.specs.TypeTerm as typ
use Rattle.cq_theory.specs.Sorts.{entity_of, type_of}
use Rattle.cq_theory.specs.Derivation.{left_of, right_of}
use Rattle.cq_theory.specs.Presentation.{term_symbols, is_long, has_long_side, IsSort, IsPresentation}
use Rattle.cq_theory.specs.Groups.{place_of, edge_sources}
use Rattle.cq_theory.proofs.Every.{from_enumerated}
use Rattle.cq_theory.proofs.Faults.{neither, at_most, made_of}
use Rattle.cq_theory.proofs.OnValues.{All_at}
use Rattle.cq_theory.proofs.ResolvedSorts.{map_some}
use Rattle.cq_blocks.specs.declared.block.Block.{Block}
use Rattle.cq_query.specs.QueryData.{QueryData as Query}
use Rattle.cq_query.specs.Puts.{put_equation}
use Rattle.cq_query.specs.Translation.{variables_in, tests_in, variables_at, tests_at}
use Rattle.cq_query.specs.Duties.{frozen}
use Rattle.cq_query.specs.IsQuery.{IsQuery, HasBlockTerms, IsAttributeTerm, AreKeyTerms}
use Rattle.cq_query.proofs.SortedDuties.{All_in, all_append, all_flat_map, all_equal}
use Rattle.cq_query.proofs.Standing.{HasOneSort, Stand, generators_at, put_equation_sorted}
use Rattle.cq_compose.specs.Composite.{numbered, components, term_components, translated, translated_test, component_entities, composite_tests, composite_block, composite, is_large_block, is_large}
use Rattle.cq_compose.proofs.Putting.{get_mapped}
use Rattle.cq_compose.proofs.Components.{block_at, variables_are, component_fits, term_stand}
use Rattle.cq_compose.proofs.KeptTypes.{keeps}
use Rattle.cq_compose.proofs.Pairwise.{none_passes, member_there, Pairwise, pair_from, pair_length, pair_at, pair_flat}
use Rattle.cq_compose.proofs.Placing.{at_edge-in_block}
use Rattle.cq_compose.proofs.Numbering.{numbered_distinct}

from_mapped : {X Y : Type 0} (f : X → Y) (o : Option X) (x : X) → o ≡ Some x → option_map f o ≡ Some (f x)
from_mapped f o x h = ap (option_map f) h

-- a variable of a block of a query is of an entity of the source
variable_sorted : (X : Query) (e : ℕ) → IsPresentation X.source (frozen X e) → (n : ℕ) (v : Name × ℕ) → slice_get (variables_at X e) n ≡ Some v → v.1 < length X.source.entities
variable_sorted X e is n v at =
    let generator : Name × ℕ → Name × Sort = λ w. (w.0, Entity w.1) in
    All_at (λ (g : Name × Sort). IsSort X.source g.1) (generators_at X e) n (v.0, Entity v.1) is.generators (get_mapped (λ (w : Name × ℕ). let g : Name × Sort = (w.0, Entity w.1) in g) (variables_at X e) n v at)

short_sides : (e : Equation) → has_long_side e ≡ false → (term_symbols (left_of e) ≤ 1024) × (term_symbols (right_of e) ≤ 1024)
short_sides e h =
    let sides = neither (is_long (left_of e)) (is_long (right_of e)) h in
    (at_most 1024 (term_symbols (left_of e)) sides.0, at_most 1024 (term_symbols (right_of e)) sides.1)

-- the block has few variables and short terms
record IsSmall (b : Block) : Type 0 where
  vars : length b.vars ≤ 16000000
  tests : list_any has_long_side b.tests ≡ false
  attributes : list_any (λ t. nat_lt 1024 (typ.symbols_of t)) b.attributes ≡ false
  keys : list_any (list_any (λ t. nat_lt 1024 (ent.symbols_of t))) b.keys ≡ false

small_block : (b : Block) → is_large_block b ≡ false → IsSmall b
small_block b h =
    let last = neither (nat_lt 16000000 (length b.vars) || list_any has_long_side b.tests || list_any (λ t. nat_lt 1024 (typ.symbols_of t)) b.attributes)
    (list_any (list_any (λ t. nat_lt 1024 (ent.symbols_of t))) b.keys) h in
    let middle = neither (nat_lt 16000000 (length b.vars) || list_any has_long_side b.tests) (list_any (λ t. nat_lt 1024 (typ.symbols_of t)) b.attributes) last.0 in
    let front = neither (nat_lt 16000000 (length b.vars)) (list_any has_long_side b.tests) middle.0 in
    record { vars = at_most 16000000 (length b.vars) front.0; tests = front.1; attributes = middle.1; keys = last.1 }

module _ (Q : Query) (U : Schema) (blocks : List Block) (first : IsQuery Q) where
  abbrev W : Query
  W = record { source = Q.target; target = U; blocks = blocks }

  abbrev C : Query
  C = composite Q W

  block_of : (u : ℕ) (block : Block) → slice_get C.blocks u ≡ Some block → (b : Block) × (slice_get blocks u ≡ Some b) × (block ≡ composite_block Q W (u, b))
  block_of u block is =
      let made = made_of (composite_block Q W) (enumerate_from 0 blocks) u block is in
      let from = from_enumerated 0 blocks u made.0 made.1 in
      let number : made.0.0 ≡ u = omega (arith, from.1) in
      (made.0.1, from.0, made.2 ∙ ap (λ m. composite_block Q W (m, made.0.1)) number)

  module _ (u : ℕ) (b : Block) (there : slice_get blocks u ≡ Some b) where
    -- an equation of the second query gives equations whose sides have one sort
    test_sorted : (e : Equation) → HasOneSort W (generators_at W u) e → All_in (HasOneSort Q (generators_at C u)) (translated_test Q W u e)
    test_sorted (equation.Ent t v) h =
        let left = map_some Entity (entity_of Q.target (generators_at W u) t) h.0 h.1 in
        let right = map_some Entity (entity_of Q.target (generators_at W u) v) h.0 h.2 in
        let sorts : Entity right.0 ≡ Entity left.0 = right.2 ∙ sym left.2 in
        let same : right.0 ≡ left.0 = cc in
        all_equal Q first (generators_at C u) left.0 (term_components Q W u t) (term_components Q W u v) (term_stand Q U blocks first u t left.0 left.1)
        (subst (Stand Q (generators_at C u) (term_components Q W u v)) same (term_stand Q U blocks first u v right.0 right.1))
    test_sorted (equation.Typ t v) h = one
      where
        sides : HasOneSort Q (generators_at C u) (equation.Typ (translated Q W u t) (translated Q W u v))
        sides =
            let left = map_some Plain (type_of Q.target (generators_at W u) t) h.0 h.1 in
            let right = map_some Plain (type_of Q.target (generators_at W u) v) h.0 h.2 in
            (h.0, ap (option_map Plain) (keeps Q U blocks first u t left.0 left.1) ∙ ap (λ (s : Sort). Some s) left.2, ap (option_map Plain) (keeps Q U blocks first u v right.0 right.1) ∙ ap (λ (s : Sort). Some s) right.2)

        one : All_in (HasOneSort Q (generators_at C u)) (equation.Typ (translated Q W u t) (translated Q W u v) ∷ [])
        one zero e here = let same : equation.Typ (translated Q W u t) (translated Q W u v) ≡ e = cc in subst (HasOneSort Q (generators_at C u)) same sides
        one (suc m) e here = cc

  module _ (second : IsQuery W) (small : is_large C ≡ false) where
    module _ (u : ℕ) (b : Block) (there : slice_get blocks u ≡ Some b) where
      is_small : IsSmall (composite_block Q W (u, b))
      is_small = small_block (composite_block Q W (u, b)) (none_passes is_large_block C.blocks small u (composite_block Q W (u, b)) (block_at Q W u b there))

      within : u < length U.entities
      within = omega (arith, second.blocks, slice_get_within blocks u b there)

      entity_within : (y : ℕ) (v : Name × ℕ) → slice_get (variables_at W u) y ≡ Some v → v.1 < length Q.target.entities
      entity_within y v at = variable_sorted W u (second.each_frozen u within) y v at

      tests_sorted : All_in (HasOneSort Q (generators_at C u)) (composite_tests Q W u)
      tests_sorted =
          all_append (HasOneSort Q (generators_at C u))
          (flat_map (λ (y : ℕ × (Name × ℕ)). map (put_equation (components Q W u y.0)) (tests_at Q y.1.1)) (enumerate_from 0 (variables_at W u)))
          (flat_map (translated_test Q W u) (tests_at W u))
          (all_flat_map (HasOneSort Q (generators_at C u)) (λ (y : ℕ × (Name × ℕ)). map (put_equation (components Q W u y.0)) (tests_at Q y.1.1)) (enumerate_from 0 (variables_at W u)) (λ p y at n e at'.
          let from = from_enumerated 0 (variables_at W u) p y at in
          let number : p ≡ y.0 = omega (arith, from.1) in
          let variable : slice_get (variables_at W u) y.0 ≡ Some y.1 = ap (slice_get (variables_at W u)) (sym number) ∙ from.0 in
          let made = made_of (put_equation (components Q W u y.0)) (tests_at Q y.1.1) n e at' in
          let test = (first.each_frozen y.1.1 (entity_within y.0 y.1 variable)).equations n made.0 made.1 in
          subst (HasOneSort Q (generators_at C u)) (sym made.2)
          (put_equation_sorted Q (generators_at C u) (components Q W u y.0) y.1.1 (component_fits Q W u y.0 y.1 variable).stand made.0 (test.sort, test.left, test.right))))
          (all_flat_map (HasOneSort Q (generators_at C u)) (translated_test Q W u) (tests_at W u) (λ n e at.
          let test = (second.each_frozen u within).equations n e at in
          test_sorted u b there e (test.sort, test.left, test.right)))

      variable_entity : (n : ℕ) (v : Name × ℕ) → slice_get (variables_at C u) n ≡ Some v → slice_get (component_entities Q W u) n ≡ Some v.1
      variable_entity n v at =
          let made = made_of (λ (p : ℕ × ℕ). let w : Name × ℕ = (codes "x" ++ decimal p.0, p.1) in w) (enumerate_from 1 (component_entities Q W u)) n v (ap (λ l. slice_get l n) (sym (variables_are Q W u)) ∙ at) in
          (from_enumerated 1 (component_entities Q W u) n made.0 made.1).0 ∙ ap (λ (w : Name × ℕ). Some w.1) (sym made.2)

      entities_sorted : All_in (λ e. e < length Q.source.entities) (component_entities Q W u)
      entities_sorted =
          all_flat_map (λ e. e < length Q.source.entities) (λ (y : Name × ℕ). map (λ (v : Name × ℕ). v.1) (variables_at Q y.1)) (variables_at W u) (λ p y at n e at'.
          let made = made_of (λ (v : Name × ℕ). v.1) (variables_at Q y.1) n e at' in
          subst (λ m. m < length Q.source.entities) (sym made.2) (variable_sorted Q y.1 (first.each_frozen y.1 (entity_within p y at)) n made.0 made.1))

      presented : IsPresentation Q.source (frozen C u)
      presented = record {
        generators = All-map (λ (g : Name × Sort). IsSort Q.source g.1) (λ (v : Name × ℕ). (v.0, Entity v.1)) (variables_at C u) (λ k d h.
            entities_sorted k (get_or (variables_at C u) k d).1 (variable_entity k (get_or (variables_at C u) k d) (slice_get-get_or (variables_at C u) k d h)));
        count = omega (arith, is_small.vars, ap length (ap variables_in (block_at Q W u b there)), length-map (variables_at C u) (λ (v : Name × ℕ). let g : Name × Sort = (v.0, Entity v.1) in g));
        equations = λ n e at.
            let here : slice_get (composite_tests Q W u) n ≡ Some e = ap (λ l. slice_get l n) (sym (ap tests_in (block_at Q W u b there))) ∙ at in
            let sides = tests_sorted n e here in
            let short = short_sides e (none_passes has_long_side (composite_tests Q W u) is_small.tests n e here) in
            record { sort = sides.0; left = sides.1; right = sides.2; left_fits = short.0; right_fits = short.1 };
      }

    each_frozen : (u : ℕ) → u < length U.entities → IsPresentation Q.source (frozen C u)
    each_frozen u inside =
        let b = member_there blocks u (omega (arith, second.blocks)) in
        presented u b.0 b.1

    each_variables : (P : List (Name × ℕ) → Type 0) → P [] → ((u : ℕ) (b : Block) → slice_get blocks u ≡ Some b → P (numbered (component_entities Q W u))) → (u : ℕ) → P (variables_at C u)
    each_variables P none one u = at_block (slice_get C.blocks u) refl
      where
        at_block : (o : Option Block) → slice_get C.blocks u ≡ o → P (variables_in o)
        at_block None is = none
        at_block (Some block) is =
            let b = block_of u block is in
            subst (λ (c : Block). P c.vars) (sym b.2) (one u b.0 b.1)

    few_entities : (u : ℕ) (b : Block) → slice_get blocks u ≡ Some b → length (numbered (component_entities Q W u)) ≤ 16000000
    few_entities u b there = (is_small u b there).vars

    numbers_fit : (u : ℕ) (b : Block) → slice_get blocks u ≡ Some b → 1 + length (component_entities Q W u) < 2 ^ 63
    numbers_fit u b there =
        let count : length (numbered (component_entities Q W u)) ≡ length (component_entities Q W u) =
        length-map (enumerate_from 1 (component_entities Q W u)) (λ (p : ℕ × ℕ). let w : Name × ℕ = (codes "x" ++ decimal p.0, p.1) in w) ∙ length-enumerate_from 1 (component_entities Q W u) in
        omega (arith, few_entities u b there, count)

    block_terms : (u : ℕ) (block : Block) → slice_get C.blocks u ≡ Some block → HasBlockTerms C u block
    block_terms u block at =
        let b = block_of u block at in
        let has = second.each_block u b.0 b.1 in
        record {
          attributes = ap (λ (c : Block). length c.attributes) b.2 ∙ length-map b.0.attributes (translated Q W u) ∙ has.attributes;
          keys = ap (λ (c : Block). length c.keys) b.2 ∙ length-map b.0.keys (flat_map (term_components Q W u)) ∙ has.keys;
        }

    module _ (a : ℕ) (edge : Edge) (at : slice_get U.attributes a ≡ Some edge) where
      attribute_is : IsAttributeTerm C a edge
      attribute_is =
          let inside : edge.from < length U.entities = (All_at (λ (x : Edge). (x.from < length U.entities) × (x.to < length U.typeside.types)) U.attributes a edge second.target.attributes at).0 in
          let b = member_there blocks edge.from (omega (arith, second.blocks)) in
          let term = second.attributes a edge at in
          let place = place_of (edge_sources U.attributes) a in
          let old : slice_get b.0.attributes place ≡ Some term.term =
          sym (at_edge-in_block W U.attributes (λ (c : Block). c.attributes) a edge at b.0 b.1) ∙ term.found in
          let new : slice_get (map (translated Q W edge.from) b.0.attributes) place ≡ Some (translated Q W edge.from term.term) =
          get_mapped (translated Q W edge.from) b.0.attributes place term.term old in
          record {
            term = translated Q W edge.from term.term;
            found = at_edge-in_block C U.attributes (λ (c : Block). c.attributes) a edge at (composite_block Q W (edge.from, b.0)) (block_at Q W edge.from b.0 b.1) ∙ new;
            typed = keeps Q U blocks first edge.from term.term edge.to term.typed;
            fits = at_most 1024 (typ.symbols_of (translated Q W edge.from term.term))
                (none_passes (λ t. nat_lt 1024 (typ.symbols_of t)) (map (translated Q W edge.from) b.0.attributes) (is_small edge.from b.0 b.1).attributes place (translated Q W edge.from term.term) new);
          }

    module _ (k : ℕ) (edge : Edge) (at : slice_get U.keys k ≡ Some edge) where
      ends : (edge.from < length U.entities) × (edge.to < length U.entities)
      ends = All_at (λ (x : Edge). (x.from < length U.entities) × (x.to < length U.entities)) U.keys k edge second.target.keys at

      key_is : AreKeyTerms C k edge
      key_is =
          let b = member_there blocks edge.from (omega (arith, second.blocks, ends.0)) in
          let d = member_there blocks edge.to (omega (arith, second.blocks, ends.1)) in
          let terms = second.keys k edge at in
          let place = place_of (edge_sources U.keys) k in
          let comps = term_components Q W edge.from in
          let old : slice_get b.0.keys place ≡ Some terms.terms =
          sym (at_edge-in_block W U.keys (λ (c : Block). c.keys) k edge at b.0 b.1) ∙ terms.found in
          let new : slice_get (map (flat_map (term_components Q W edge.from)) b.0.keys) place ≡ Some (flat_map (term_components Q W edge.from) terms.terms) =
          get_mapped (flat_map (term_components Q W edge.from)) b.0.keys place terms.terms old in
          let pairs : Pairwise (λ (t : EntTerm) (e : ℕ). entity_of Q.source (generators_at C edge.from) t ≡ Some e) (flat_map (term_components Q W edge.from) terms.terms) (component_entities Q W edge.to) =
          pair_flat (λ (t : EntTerm) (e : ℕ). entity_of Q.source (generators_at C edge.from) t ≡ Some e) (term_components Q W edge.from) (λ (y : Name × ℕ). map (λ (v : Name × ℕ). v.1) (variables_at Q y.1))
          terms.terms (variables_at W edge.to) terms.each (λ n t v at_term at_variable.
          pairs_of edge.from t v.1 (term_stand Q U blocks first edge.from t v.1 (terms.sorted n t v at_term at_variable).0)) in
          let vars : variables_at C edge.to ≡ numbered (component_entities Q W edge.to) = variables_are Q W edge.to in
          record {
            terms = flat_map (term_components Q W edge.from) terms.terms;
            found = at_edge-in_block C U.keys (λ (c : Block). c.keys) k edge at (composite_block Q W (edge.from, b.0)) (block_at Q W edge.from b.0 b.1) ∙ new;
            each = pair_length (λ (t : EntTerm) (e : ℕ). entity_of Q.source (generators_at C edge.from) t ≡ Some e) _ _ pairs
                ∙ sym (ap length vars ∙ length-map (enumerate_from 1 (component_entities Q W edge.to)) (λ (p : ℕ × ℕ). let w : Name × ℕ = (codes "x" ++ decimal p.0, p.1) in w)
                ∙ length-enumerate_from 1 (component_entities Q W edge.to));
            sorted = λ n t v at_term at_variable. (
              pair_at (λ (s : EntTerm) (e : ℕ). entity_of Q.source (generators_at C edge.from) s ≡ Some e) _ _ pairs n t v.1 at_term (variable_entity edge.to d.0 d.1 n v at_variable),
              at_most 1024 (ent.symbols_of t)
                  (none_passes (λ s. nat_lt 1024 (ent.symbols_of s)) (flat_map (term_components Q W edge.from) terms.terms)
                  (none_passes (list_any (λ s. nat_lt 1024 (ent.symbols_of s))) (map (flat_map (term_components Q W edge.from)) b.0.keys) (is_small edge.from b.0 b.1).keys place (flat_map (term_components Q W edge.from) terms.terms) new)
                  n t at_term),
            );
          }
        where
          pairs_of : (u : ℕ) (t : EntTerm) (e : ℕ) → Stand Q (generators_at C u) (term_components Q W u t) e
              → Pairwise (λ (s : EntTerm) (m : ℕ). entity_of Q.source (generators_at C u) s ≡ Some m) (term_components Q W u t) (map (λ (v : Name × ℕ). v.1) (variables_at Q e))
          pairs_of u t e stand =
              pair_from (λ (s : EntTerm) (m : ℕ). entity_of Q.source (generators_at C u) s ≡ Some m) (term_components Q W u t) (map (λ (v : Name × ℕ). v.1) (variables_at Q e))
              (stand.count ∙ sym (length-map (variables_at Q e) (λ (v : Name × ℕ). v.1)))
              (λ n s m at_term at_entity.
              let made = made_of (λ (v : Name × ℕ). v.1) (variables_at Q e) n m at_entity in
              stand.each n s made.0 at_term made.1 ∙ ap (λ j. Some j) (sym made.2))

    pub composed : IsQuery C
    composed = record {
      source = first.source;
      target = second.target;
      typeside = first.typeside ∙ second.typeside;
      blocks = length-map (enumerate_from 0 blocks) (composite_block Q W) ∙ length-enumerate_from 0 blocks ∙ second.blocks;
      each_block = block_terms;
      each_frozen = each_frozen;
      distinct = each_variables (λ l. AreDistinct (map (λ (v : Name × ℕ). v.0) l)) (numbered_distinct 1 [] (omega arith)) (λ u b there. numbered_distinct 1 (component_entities Q W u) (numbers_fit u b there));
      few = each_variables (λ l. length l ≤ 16000000) (omega arith) few_entities;
      attributes = attribute_is;
      keys = key_is;
    }

-- a composite that is not too large is a query
pub composite_is_query : (Q W : Query) → IsQuery Q → IsQuery W → Q.target ≡ W.source → is_large (composite Q W) ≡ false → IsQuery (composite Q W)
composite_is_query Q W first second same small =
    composed Q W.target W.blocks first (subst (λ (S : Schema). IsQuery (record { source = S; target = W.target; blocks = W.blocks })) (sym same) second) small
