-- The nodes of the equations stand for themselves, behind the leaves; and each row has the name at its place.
use Rattle.std.proofs.Common.{ℕ, suc, List, [], ◌∷◌, ◌++◌, Some, ◌≡◌, inl, inr, length, refl, sym, ap, subst, ◌∙◌, arith, append_assoc}
use Rattle.std.specs.Prelude.{slice_get}
use Rattle.std.specs.List.{flat_map}
use Rattle.std.proofs.lemmas.List.Concat.{flat_map-append}
use Rattle.cq_tables.specs.Content.{Content}
use Rattle.cq_model.specs.declared.places.Places.{Places}
use Rattle.cq_model.specs.Built.{IsBuilt}
use Rattle.cq_model.specs.BuiltParts.{AreLeaves}
use Rattle.cq_model.specs.Equating.{IsNameOf, AreNamesOf, none, more, AddsSides, AddsObservations}
use Rattle.cq_names.specs.LeastNames.{rows_at, terms_at, AreNumbered}
use Rattle.cq_model.specs.NodeListData.{NodeListData}
use Rattle.cq_model.specs.NodeTerms.{side_terms, equation_sides, entity_sides, given_sides, leaf_terms, IsConstantTerm, StandsAt, ArePlaces}
use Rattle.cq_model.specs.Pushing.{AreEquationsOf, HasMore}
use Rattle.cq_model.specs.Thins.{Thins}
use Rattle.cq_model.proofs.Thinning.{Thins-append}
use Rattle.cq_instance.proofs.Lists.{get-append_front}
use Rattle.cq_model.proofs.PlacedLeaves.{split_at}
use Rattle.cq_model.proofs.MadeTerms.{IsMadeLayer, AllMade, sides_made, made_thinned, from_layer}
use Rattle.cq_model.proofs.PushedTerms.{StandsFor-more}
use Rattle.cq_theory.specs.declared.presentation.Presentation.{Presentation}
use Rattle.cq_theory.specs.SchemaData.{SchemaData as Schema}
use Rattle.cq_theory.specs.declared.term.EntTerm.{EntTerm}
use Rattle.cq_theory.specs.declared.term.TypeTerm.{TypeTerm}
use Rattle.cq_theory.specs.declared.term.TypeTerm.TheVariants as term
use Rattle.cq_theory.specs.declared.term.TypeTerm.TheOpen as layer
use Rattle.cq_theory.specs.declared.term.TypeTerm.TheViews.{out-TypeTerm}
use Rattle.cq_theory.specs.Canonical.{below}

module _ (m : Content) (rows : List ℕ) (places : Places) where
  -- a constant or an application stands for itself
  made_stands : (terms : List TypeTerm) (t : TypeTerm) (p : ℕ) (l : layer.TypeTerm-F TypeTerm) → out-TypeTerm t ≡ l → IsMadeLayer l → slice_get terms p ≡ Some t → StandsAt m rows places terms l p
  made_stands terms t p (layer.Gen n) is made at = absurd made
  made_stands terms t p (layer.Const c) is made at = at ∙ ap (λ (u : TypeTerm). Some u) (from_layer t (layer.Const c) is ∙ term.rolls-Const c)
  made_stands terms t p (layer.Att a u) is made at = absurd made
  made_stands terms t p (layer.Fun f ts) is made at = at ∙ ap (λ (u : TypeTerm). Some u) (from_layer t (layer.Fun f ts) is ∙ term.rolls-Fun f ts)

  module _ (S : Schema) (P : Presentation) where
    -- more terms behind those that have places, all of them constants and applications
    places_more : (terms later : List TypeTerm) → AllMade later → ArePlaces m rows places terms S P → ArePlaces m rows places (terms ++ later) S P
    places_more terms later made h = record {
      cell = λ r a edge live found from.
          let cell = h.cell r a edge live found from in
          (cell.0, get-append_front terms later _ (term.Att a cell.0) cell.1, cell.2);
      generator = λ n type sort. get-append_front terms later _ (term.Gen n) (h.generator n type sort);
      own = λ p t at. elim (split_at terms later p t at) [
        | inl a ↦ StandsFor-more m rows places terms later t p (h.own p t a)
        | inr b ↦ made_stands (terms ++ later) t p (out-TypeTerm t) refl (made t (record { place = b.0; is = b.2 })) at
      ];
    }

    node_places : (names : List (List EntTerm)) (made : List TypeTerm) → Thins IsConstantTerm (flat_map side_terms (given_sides S P names)) made → ArePlaces m rows places (leaf_terms S P names) S P
        → ArePlaces m rows places (leaf_terms S P names ++ made) S P
    node_places names made thinned h =
        places_more (leaf_terms S P names) made (made_thinned IsConstantTerm (flat_map side_terms (given_sides S P names)) made thinned (sides_made (given_sides S P names))) h

module _ (S : Schema) (P : Presentation) (m : Content) (entries : List ℕ) where
  -- rows and names in step
  names_along : (places : Places) (e : ℕ) (rows : List ℕ) (names : List EntTerm) → length names ≡ length rows
      → ((n r : ℕ) (t : EntTerm) → slice_get rows n ≡ Some r → slice_get names n ≡ Some t → IsNameOf S m places P entries e r t) → AreNamesOf S m places P entries e rows names
  names_along places e [] [] same each = none
  names_along places e [] (t ∷ names) same each = absurd (omega arith)
  names_along places e (r ∷ rows) [] same each = absurd (omega arith)
  names_along places e (r ∷ rows) (t ∷ names) same each = more (each 0 r t refl refl) (names_along places e rows names (omega arith) (λ n r' t' a b. each (suc n) r' t' a b))

  -- the names of an entity's rows lead to these
  numbered_names : (places : Places) (order : List (List ℕ)) (names : List (List EntTerm)) (numbers : List ℕ) → AreNumbered S P m entries order names numbers
      → (e : ℕ) → AreNamesOf S m places P entries e (rows_at order e) (terms_at names e)
  numbered_names places order names numbers h e = names_along places e (rows_at order e) (terms_at names e) (h.counted e) (λ n r t row name.
      let least = h.named e n r t row name in
      record { sort = least.entity ∙ ap (λ x. Some x) (h.live e n r row).1; row_is = least.row })

  -- the leaves, and then the equations with what they are made of
  pub built_nodes : (order : List (List ℕ)) (names : List (List EntTerm)) (numbers : List ℕ) (places : Places) (leaves given list : NodeListData)
      → AreNumbered S P m entries order names numbers → AreLeaves S P m entries names places leaves
      → AddsSides S m places P entries (flat_map equation_sides P.equations) leaves given → AddsObservations S m places order (length order) given list
      → IsBuilt S P m entries order names numbers places list.nodes list.equations list.types
  built_nodes order names numbers places leaves given list numbered placed adds observed =
      let L : List TypeTerm = leaf_terms S P names in
      let first : List (TypeTerm × TypeTerm) = flat_map equation_sides P.equations in
      let second : List (TypeTerm × TypeTerm) = flat_map (entity_sides S P names) (below (length S.entities)) in
      let one : HasMore S m places P entries L (flat_map side_terms first) first given = adds L [] placed.listed in
      let two : HasMore S m places P entries (L ++ one.more) (flat_map side_terms second) (first ++ second) list =
      subst (λ n. HasMore S m places P entries (L ++ one.more) (flat_map side_terms (flat_map (entity_sides S P names) (below n))) (first ++ flat_map (entity_sides S P names) (below n)) list)
      numbered.entities (observed P entries names (λ e _. numbered_names places order names numbers numbered e) (L ++ one.more) first one.are) in
      let made : List TypeTerm = one.more ++ two.more in
      let thinned : Thins IsConstantTerm (flat_map side_terms (given_sides S P names)) made =
      subst (λ (l : List TypeTerm). Thins IsConstantTerm l made) (sym (flat_map-append side_terms first second)) (Thins-append IsConstantTerm one.thinned two.thinned) in
      let all : AreEquationsOf S m places P entries (L ++ made) (given_sides S P names) list = subst (λ (l : List TypeTerm). AreEquationsOf S m places P entries l (first ++ second) list) (append_assoc L one.more two.more) two.are in
      record {
        numbered = numbered;
        made = made;
        thinned = thinned;
        places_are = node_places m entries places S P names made thinned placed.places_are;
        nodes_are = all.listed.nodes;
        sides = all.equations;
        types_are = all.listed.types;
      }
