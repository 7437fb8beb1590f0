-- Components of terms that are put for the variables of a block of the second query, and what the composite makes of them.
use Rattle.std.proofs.Common.{ℕ, suc, List, [], ◌∷◌, ◌++◌, Some, ◌≡◌, map, length, refl, sym, ap, subst, ◌∙◌}
use Rattle.std.specs.Prelude.{slice_get}
use Rattle.std.specs.List.{flat_map}
use Rattle.std.proofs.lemmas.List.{map-append}
use Rattle.std.proofs.lemmas.Option.{option_and_then_some}
use Rattle.cq_base.specs.declared.name.Name.{Name}
use Rattle.cq_theory.specs.SchemaData.{SchemaData as Schema}
use Rattle.cq_theory.specs.declared.term.EntTerm.{EntTerm}
use Rattle.cq_theory.specs.declared.term.TypeTerm.{TypeTerm}
use Rattle.cq_theory.specs.declared.term.TypeTerm.TheVariants.{Fun}
use Rattle.cq_theory.specs.EntTerm.{extended}
use Rattle.cq_theory.specs.Schema.{one_of}
use Rattle.cq_theory.specs.Sorts.{followed, target_of, entity_at, entity_of, type_of}
use Rattle.cq_theory.proofs.TypeTerms.{fold-Const, fold-Att, fold-Fun}
use Rattle.cq_theory.proofs.Sound.{followed_some}
use Rattle.cq_blocks.specs.declared.block.Block.{Block}
use Rattle.cq_query.specs.QueryData.{QueryData as Query}
use Rattle.cq_query.specs.Puts.{term_or_first, generators_from, put, put_type, put_type_step}
use Rattle.cq_query.specs.Translation.{variables_at, assigned, attribute_term, along}
use Rattle.cq_query.specs.Translation as first
use Rattle.cq_query.specs.Duties.{Sound}
use Rattle.cq_query.specs.IsQuery.{IsQuery}
use Rattle.cq_query.proofs.Standing.{Stand, generators_at, variable_at, no_type_at, within_length, assigned_stand, put_stand, along_stand}
use Rattle.cq_compose.specs.Composite.{width, first_of, components, term_components, translated, translated_step, composite}
use Rattle.cq_compose.proofs.Typed.{no_variable, variable_is, on_typed, each_twice, each_across}
use Rattle.cq_compose.proofs.Putting.{put_type-put}
use Rattle.cq_compose.proofs.Fitting.{put-generators, AreSorted, along-append, put-along, stand_sorted, attribute_typed}
use Rattle.cq_compose.proofs.Places.{flat_at}
use Rattle.cq_compose.proofs.Components.{assigned_are, attribute_are, components_are, component_fits, second_query, term_fits}

module _ (Q : Query) (U : Schema) (blocks : List Block) (query : IsQuery Q) (sound : Sound Q) (u : ℕ) where
  abbrev W : Query
  W = second_query Q U blocks

  abbrev comps : EntTerm → List EntTerm
  comps = term_components Q W u

  -- terms over the block of u that stand for a row of another entity
  module _ (other : ℕ) (ts : List EntTerm) (stand : Stand W (generators_at W u) ts other) where
    abbrev pieces : List EntTerm
    pieces = flat_map comps ts

    piece_sizes : (i : ℕ) (t : EntTerm) (v : Name × ℕ) → slice_get ts i ≡ Some t → slice_get (variables_at W other) i ≡ Some v → length (comps t) ≡ width Q W v
    piece_sizes i t v at is = (term_fits Q U blocks query sound u t v.1 (stand.each i t v at is)).stand.count

    pub piece_at : (y : ℕ) (v : Name × ℕ) (a : EntTerm) → slice_get (variables_at W other) y ≡ Some v → slice_get ts y ≡ Some a → map (put pieces) (components Q W other y) ≡ comps a
    piece_at y v a is at =
        ap (map (put pieces)) (components_are Q W other y v is)
        ∙ ap (λ n. map (put pieces) (generators_from (first_of Q W other y) n)) (sym (piece_sizes y a v at is))
        ∙ put-generators pieces (first_of Q W other y) (comps a) (λ n c here. flat_at comps (width Q W) ts (variables_at W other) piece_sizes stand.count y a n c at here)

    -- the components of a term in which the terms are put
    pub put_components : (t : EntTerm) (e : ℕ) → entity_of Q.target (generators_at W other) t ≡ Some e → map (put pieces) (term_components Q W other t) ≡ comps (put ts t)
    put_components t e h = option_and_then_some (target_of Q.target.keys t.path) (entity_at (slice_get (generators_at W other) t.generator)) e h (λ start begins rest.
        let v = variable_at W other t.generator start begins in
        let a = within_length ts (variables_at W other) t.generator v.0 v.1 stand.count in
        let count : length (components Q W other t.generator) ≡ length (variables_at Q start) =
        (component_fits Q W other t.generator v.0 v.1).stand.count ∙ ap (λ n. length (variables_at Q n)) v.2 in
        put-along Q query pieces t.path (components Q W other t.generator) start e rest count
        ∙ ap (λ l. along Q l t.path) (piece_at t.generator v.0 a.0 v.1 a.1)
        ∙ sym (ap (λ o. comps (extended (term_or_first o) t.path)) a.1 ∙ along-append Q (components Q W u a.0.generator) a.0.path t.path))

    -- the same of type terms
    pub put_turned : (t : TypeTerm) (type : ℕ) → type_of Q.target (generators_at W other) t ≡ Some type → put_type pieces (translated Q W other t) ≡ translated Q W u (put_type ts t)
    put_turned = on_typed Q.target (generators_at W other) (λ t. put_type pieces (translated Q W other t) ≡ translated Q W u (put_type ts t))
        (λ n type h. absurd (no_type_at W other n type h))
        (λ c type h. ap (put_type pieces) (fold-Const TypeTerm (translated_step Q W other) c) ∙ fold-Const TypeTerm (put_type_step pieces) c
        ∙ sym (ap (translated Q W u) (fold-Const TypeTerm (put_type_step ts) c) ∙ fold-Const TypeTerm (translated_step Q W u) c))
        (λ a t edge is led h.
        let fit = term_fits Q U blocks query sound other t edge.from led in
        ap (put_type pieces) (fold-Att TypeTerm (translated_step Q W other) a t)
        ∙ put_type-put Q pieces (term_components Q W other t) edge.from fit.stand.count (attribute_term Q a) edge.to (attribute_typed Q query a edge is)
        ∙ ap (λ l. put_type l (attribute_term Q a)) (put_components t edge.from led)
        ∙ sym (ap (translated Q W u) (fold-Att TypeTerm (put_type_step ts) a t) ∙ fold-Att TypeTerm (translated_step Q W u) a (put ts t)))
        (λ f args type h each.
        ap (put_type pieces) (fold-Fun TypeTerm (translated_step Q W other) f args) ∙ fold-Fun TypeTerm (put_type_step pieces) f (map (translated Q W other) args)
        ∙ ap (Fun f) (each_across (put_type pieces) (translated Q W other) (translated Q W u) (put_type ts) args each)
        ∙ sym (ap (translated Q W u) (fold-Fun TypeTerm (put_type_step ts) f args) ∙ fold-Fun TypeTerm (translated_step Q W u) f (map (put_type ts) args)))

    put_pieces : (us : List EntTerm) → AreSorted W other us → map (put pieces) (flat_map (term_components Q W other) us) ≡ flat_map comps (map (put ts) us)
    put_pieces [] h = refl
    put_pieces (t ∷ us) h =
        let e = h 0 t refl in
        let one : map (put pieces) (term_components Q W other t) ≡ comps (put ts t) = put_components t e.0 e.1 in
        let rest : map (put pieces) (flat_map (term_components Q W other) us) ≡ flat_map comps (map (put ts) us) = put_pieces us (λ n x at. h (suc n) x at) in
        map-append (put pieces) (term_components Q W other t) (flat_map (term_components Q W other) us) ∙ (λ i. one i ++ rest i)

  module _ (second : IsQuery W) where
    -- what the composite has at the end of a path
    pub along_pieces : (path : List ℕ) (other target : ℕ) (ts : List EntTerm) → target_of U.keys path other ≡ Some target → Stand W (generators_at W u) ts other
        → along (composite Q W) (flat_map comps ts) path ≡ flat_map comps (along W ts path)
    along_pieces [] other target ts h stand = refl
    along_pieces (k ∷ path) other target ts h stand = option_and_then_some (target_of U.keys path) (followed (slice_get U.keys k) other) target h (λ middle led rest.
        let edge = followed_some (slice_get U.keys k) other middle led in
        let from : Stand W (generators_at W u) ts edge.0.from = subst (Stand W (generators_at W u) ts) (sym edge.2) stand in
        let next : Stand W (generators_at W u) (map (put ts) (assigned W k)) middle =
        subst (Stand W (generators_at W u) (map (put ts) (assigned W k))) edge.3 (put_stand W second (generators_at W u) ts k edge.0 edge.1 from) in
        let step : map (put (flat_map comps ts)) (assigned (composite Q W) k) ≡ flat_map comps (map (put ts) (assigned W k)) =
        ap (map (put (flat_map comps ts))) (assigned_are Q W k edge.0 edge.1)
        ∙ put_pieces edge.0.from ts from (assigned W k) (stand_sorted W edge.0.from edge.0.to (assigned W k) (assigned_stand W second k edge.0 edge.1)) in
        ap (λ l. along (composite Q W) l path) step ∙ along_pieces path middle target (map (put ts) (assigned W k)) rest next)

    -- what the composite makes of a term over a variable
    pub turned_translated : (other : ℕ) (ts : List EntTerm) → Stand W (generators_at W u) ts other → (t : TypeTerm) (type : ℕ) → type_of U (one_of other) t ≡ Some type
        → translated Q W u (first.translated W ts t) ≡ first.translated (composite Q W) (flat_map comps ts) t
    turned_translated other ts stand = on_typed U (one_of other) (λ t. translated Q W u (first.translated W ts t) ≡ first.translated (composite Q W) (flat_map comps ts) t)
        (λ n type h. absurd (no_variable other n type h))
        (λ c type h. ap (translated Q W u) (fold-Const TypeTerm (first.translated_step W ts) c) ∙ fold-Const TypeTerm (translated_step Q W u) c
        ∙ sym (fold-Const TypeTerm (first.translated_step (composite Q W) (flat_map comps ts)) c))
        (λ a t edge is led h.
        option_and_then_some (target_of U.keys t.path) (entity_at (slice_get (one_of other) t.generator)) edge.from led (λ start begins rest.
        let path : target_of U.keys t.path other ≡ Some edge.from = ap (target_of U.keys t.path) (variable_is other t.generator start begins) ∙ rest in
        let there = along_stand W second (generators_at W u) t.path ts other edge.from path stand in
        ap (translated Q W u) (fold-Att TypeTerm (first.translated_step W ts) a t)
        ∙ sym (put_turned edge.from (along W ts t.path) there (attribute_term W a) edge.to (attribute_typed W second a edge is))
        ∙ ap (λ l. put_type l (translated Q W edge.from (attribute_term W a))) (sym (along_pieces t.path other edge.from ts path stand))
        ∙ ap (put_type (along (composite Q W) (flat_map comps ts) t.path)) (sym (attribute_are Q W a edge is))
        ∙ sym (fold-Att TypeTerm (first.translated_step (composite Q W) (flat_map comps ts)) a t)))
        (λ f args type h each.
        ap (translated Q W u) (fold-Fun TypeTerm (first.translated_step W ts) f args) ∙ fold-Fun TypeTerm (translated_step Q W u) f (map (first.translated W ts) args)
        ∙ ap (Fun f) (each_twice (translated Q W u) (first.translated W ts) (first.translated (composite Q W) (flat_map comps ts)) args each)
        ∙ sym (fold-Fun TypeTerm (first.translated_step (composite Q W) (flat_map comps ts)) f args))
