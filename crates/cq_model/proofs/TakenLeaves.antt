-- Equations that are added: their sides are joined, or a constant takes the node of a leaf.
use Rattle.std.proofs.Common.{ℕ, List, [], ◌∷◌, ◌++◌, Some, ◌≡◌, ◌⊎◌, inl, inr, length, get_or, refl, sym, ap, subst, ◌∙◌, arith, length-append, append_assoc}
use Rattle.std.specs.Prelude.{slice_get, slice_set}
use Rattle.std.proofs.lemmas.List.{append-nil}
use Rattle.std.proofs.lemmas.Option.{slice_get_within, slice_get-get_or, same_Some}
use Rattle.cq_tables.specs.Content.{Content}
use Rattle.cq_flat.specs.declared.node.Node.{Node}
use Rattle.cq_flat.specs.declared.node.Node.TheVariants as node
use Rattle.cq_model.specs.declared.places.Places.{Places}
use Rattle.cq_model.specs.NodeListData.{NodeListData}
use Rattle.cq_model.specs.NodeTerms.{made_terms, side_terms, StandsFor, IsNodeAt, IsConstantTerm, AreNodes, AreSidesOf, StandForSides, IsTakenFor}
use Rattle.cq_model.specs.Pushing.{AreTermsOf, AreEquationsOf, IsPushed, IsEquated}
use Rattle.cq_model.specs.Thins.{ended, skipped}
use Rattle.cq_theory.specs.declared.constant.Con.{Con}
use Rattle.cq_theory.specs.declared.presentation.Presentation.{Presentation}
use Rattle.cq_theory.specs.SchemaData.{SchemaData as Schema}
use Rattle.cq_theory.specs.declared.term.TypeTerm.{TypeTerm}
use Rattle.cq_theory.specs.declared.term.TypeTerm.TheVariants as term
use Rattle.cq_theory.specs.declared.term.TypeTerm.TheOpen as layer
use Rattle.cq_theory.specs.declared.term.TypeTerm.TheViews.{out-TypeTerm}
use Rattle.cq_instance.proofs.Lists.{get-append_front, get-set, size-set, from-set, kept-set}
use Rattle.cq_model.proofs.MadeTerms.{IsMadeLayer, IsMade, AllMade, all_made, from_layer}
use Rattle.cq_model.proofs.PlacedLeaves.{split_at}
use Rattle.cq_model.proofs.PushedTerms.{StandsFor-more, made-Const, one_more}
use Rattle.cq_model.proofs.Thinning.{Thins-all, Thins-append, Thins-moved}

last_one : {X : Type 0} (xs : List X) (x : X) → slice_get (xs ++ x ∷ []) (length xs) ≡ Some x
last_one [] x = refl
last_one (y ∷ ys) x = last_one ys x

module _ (m : Content) (entries : List ℕ) (places : Places) where
  sides_more : (terms more : List TypeTerm) (t u : TypeTerm) (a b : ℕ) → StandForSides m entries places terms t u a b → StandForSides m entries places (terms ++ more) t u a b
  sides_more terms more t u a b h = record {
    left = StandsFor-more m entries places terms more t a h.left;
    right = StandsFor-more m entries places terms more u b h.right;
    left_within = omega (arith, h.left_within, length-append terms more);
    right_within = omega (arith, h.right_within, length-append terms more);
  }

  -- a constant or an application with the node of a constant is the constant
  constant_made : (terms : List TypeTerm) (p : ℕ) (t : TypeTerm) (c : Con) → IsMade t → IsNodeAt m entries places terms p (out-TypeTerm t) (node.Const c) → t ≡ term.Const c
  constant_made terms p t c made is = from_layer t (layer.Const c) (go (out-TypeTerm t) made is) ∙ term.rolls-Const c
    where
      go : (l : layer.TypeTerm-F TypeTerm) → IsMadeLayer l → IsNodeAt m entries places terms p l (node.Const c) → l ≡ layer.Const c
      go (layer.Gen n) made is = absurd made
      go (layer.Const d) made is = let same : d ≡ c = cc in ap layer.Const same
      go (layer.Att a u) made is = absurd made
      go (layer.Fun f args) made is = let wrong : node.Const c ≡ node.Fun f is.0 = is.1 in cc

  -- Terms and nodes are added behind the others, which stay.
  sides_behind : (terms more : List TypeTerm) (sides : List (TypeTerm × TypeTerm)) (old new : List Node) (equations : List (ℕ × ℕ)) → length old ≡ length terms
      → ((p : ℕ) (content : Node) → slice_get old p ≡ Some content → slice_get new p ≡ Some content)
      → AreNodes m entries places (terms ++ more) new → AllMade more
      → AreSidesOf m entries places terms sides old equations → AreSidesOf m entries places (terms ++ more) sides new equations
  sides_behind terms more sides old new equations count kept nodes made h = record {
    met = λ i t u at. elim (h.met i t u at) [
      | inl j ↦ inl (record { number = j.number; nodes = j.nodes; is = j.is; stand = sides_more terms more t u j.nodes.0 j.nodes.1 j.stand })
      | inr k ↦ inr (record { constant = k.constant; is = k.is; place = k.place; stands = StandsFor-more m entries places terms more t k.place k.stands; node_is = kept k.place (node.Const k.constant) k.node_is })
    ];
    given = λ i a b at.
        let g = h.given i a b at in
        record { number = g.number; sides_are = g.sides_are; is = g.is; stand = sides_more terms more g.sides_are.0 g.sides_are.1 a b g.stand };
    taken = λ p t c at node_at. elim (split_at terms more p t at) [
      | inl front ↦ in_front p t c front node_at
      | inr behind ↦ inl (constant_made (terms ++ more) p t c (made t (record { place = behind.0; is = behind.2 })) (nodes.each p t (node.Const c) at node_at))
    ];
  }
    where
      in_front : (p : ℕ) (t : TypeTerm) (c : Con) → slice_get terms p ≡ Some t → slice_get new p ≡ Some (node.Const c) → (t ≡ term.Const c) ⊎ IsTakenFor m entries places (terms ++ more) sides p c
      in_front p t c front node_at =
          let content : Node = get_or old p node.Leaf in
          let there : slice_get old p ≡ Some content = slice_get-get_or old p node.Leaf (omega (arith, slice_get_within terms p t front, count)) in
          let same : content ≡ node.Const c = same_Some content (node.Const c) (sym (kept p content there) ∙ node_at) in
          elim (h.taken p t c front (there ∙ ap (λ (n : Node). Some n) same)) [
            | inl is ↦ inl is
            | inr k ↦ inr (record { number = k.number; left = k.left; is = k.is; stands = StandsFor-more m entries places terms more k.left p k.stands })
          ]

  -- an equation between two nodes is added
  sides_joined : (terms : List TypeTerm) (sides : List (TypeTerm × TypeTerm)) (nodes : List Node) (equations : List (ℕ × ℕ)) (t u : TypeTerm) (a b : ℕ) → StandForSides m entries places terms t u a b
      → AreSidesOf m entries places terms sides nodes equations → AreSidesOf m entries places terms (sides ++ (t, u) ∷ []) nodes (equations ++ (a, b) ∷ [])
  sides_joined terms sides nodes equations t u a b stand h = record {
    met = λ i x y at. elim (one_more sides (t, u) i (x, y) at) [
      | inl before ↦ elim (h.met i x y before) [
        | inl j ↦ inl (record { number = j.number; nodes = j.nodes; is = get-append_front equations ((a, b) ∷ []) j.number j.nodes j.is; stand = j.stand })
        | inr k ↦ inr k
      ]
      | inr last ↦ inl (record {
        number = length equations;
        nodes = (a, b);
        is = last_one equations (a, b);
        stand = subst (λ (z : TypeTerm × TypeTerm). StandForSides m entries places terms z.0 z.1 a b) (sym last.1) stand;
      })
    ];
    given = λ i x y at. elim (one_more equations (a, b) i (x, y) at) [
      | inl before ↦
          let g = h.given i x y before in
          record { number = g.number; sides_are = g.sides_are; is = get-append_front sides ((t, u) ∷ []) g.number g.sides_are g.is; stand = g.stand }
      | inr last ↦ record {
        number = length sides;
        sides_are = (t, u);
        is = last_one sides (t, u);
        stand = subst (λ (z : ℕ × ℕ). StandForSides m entries places terms t u z.0 z.1) (sym last.1) stand;
      }
    ];
    taken = λ p x c at node_at. elim (h.taken p x c at node_at) [
      | inl is ↦ inl is
      | inr k ↦ inr (record { number = k.number; left = k.left; is = get-append_front sides ((t, u) ∷ []) k.number (k.left, term.Const c) k.is; stands = k.stands })
    ];
  }

  not_leaf : (c : Con) → node.Leaf ≡ node.Const c → ⊥
  not_leaf c h = cc

  -- a constant takes the node of a leaf
  sides_taken : (terms : List TypeTerm) (sides : List (TypeTerm × TypeTerm)) (nodes : List Node) (equations : List (ℕ × ℕ)) (t : TypeTerm) (a : ℕ) (c : Con) → slice_get nodes a ≡ Some node.Leaf
      → StandsFor m entries places terms t a → AreSidesOf m entries places terms sides nodes equations
      → AreSidesOf m entries places terms (sides ++ (t, term.Const c) ∷ []) (slice_set nodes a (node.Const c)) equations
  sides_taken terms sides nodes equations t a c leaf stands h = record {
    met = λ i x y at. elim (one_more sides (t, term.Const c) i (x, y) at) [
      | inl before ↦ elim (h.met i x y before) [
        | inl j ↦ inl j
        | inr k ↦ inr (record { constant = k.constant; is = k.is; place = k.place; stands = k.stands; node_is = kept-set nodes a k.place node.Leaf (node.Const c) (node.Const k.constant) leaf k.node_is (not_leaf k.constant) })
      ]
      | inr last ↦ inr (record {
        constant = c;
        is = ap (λ (z : TypeTerm × TypeTerm). z.1) last.1;
        place = a;
        stands = subst (λ (z : TypeTerm × TypeTerm). StandsFor m entries places terms z.0 a) (sym last.1) stands;
        node_is = get-set nodes a node.Leaf (node.Const c) leaf;
      })
    ];
    given = λ i x y at.
        let g = h.given i x y at in
        record { number = g.number; sides_are = g.sides_are; is = get-append_front sides ((t, term.Const c) ∷ []) g.number g.sides_are g.is; stand = g.stand };
    taken = λ p x d at node_at. elim (from-set nodes a p (node.Const c) (node.Const d) node_at) [
      | inl here ↦ inr (taken_here p d here.0 here.1)
      | inr before ↦ elim (h.taken p x d at before) [
        | inl is ↦ inl is
        | inr k ↦ inr (record { number = k.number; left = k.left; is = get-append_front sides ((t, term.Const c) ∷ []) k.number (k.left, term.Const d) k.is; stands = k.stands })
      ]
    ];
  }
    where
      taken_here : (p : ℕ) (d : Con) → a ≡ p → node.Const c ≡ node.Const d → IsTakenFor m entries places terms (sides ++ (t, term.Const c) ∷ []) p d
      taken_here p d place is =
          let same : c ≡ d = cc in
          record {
            number = length sides;
            left = t;
            is = last_one sides (t, term.Const c) ∙ ap (λ e. Some (t, term.Const e)) same;
            stands = subst (StandsFor m entries places terms t) place stands;
          }

  -- the nodes where a constant takes that of a leaf
  nodes_taken : (terms : List TypeTerm) (nodes : List Node) (a : ℕ) (c : Con) → slice_get nodes a ≡ Some node.Leaf → AreNodes m entries places terms nodes
      → AreNodes m entries places terms (slice_set nodes a (node.Const c))
  nodes_taken terms nodes a c leaf h = record {
    count = size-set nodes a (node.Const c) ∙ h.count;
    each = λ p t content at node_at. elim (from-set nodes a p (node.Const c) content node_at) [
      | inl here ↦
          subst (IsNodeAt m entries places terms p (out-TypeTerm t)) here.1
          (leaf_layer p (out-TypeTerm t) (h.each p t node.Leaf at (ap (slice_get nodes) (sym here.0) ∙ leaf)))
      | inr before ↦ h.each p t content at before
    ];
  }
    where
      leaf_layer : (p : ℕ) (l : layer.TypeTerm-F TypeTerm) → IsNodeAt m entries places terms p l node.Leaf → IsNodeAt m entries places terms p l (node.Const c)
      leaf_layer p (layer.Gen n) is = tt
      leaf_layer p (layer.Const d) is = cc
      leaf_layer p (layer.Att b u) is = tt
      leaf_layer p (layer.Fun f args) is = let wrong : node.Leaf ≡ node.Fun f is.0 = is.1 in cc

module _ (S : Schema) (m : Content) (places : Places) where
  -- a term is pushed behind what stands
  equations_behind : (P : Presentation) (entries : List ℕ) (terms made : List TypeTerm) (sides : List (TypeTerm × TypeTerm)) (old new : NodeListData) → AllMade made → new.equations ≡ old.equations
      → ((p : ℕ) (content : Node) → slice_get old.nodes p ≡ Some content → slice_get new.nodes p ≡ Some content)
      → AreEquationsOf S m places P entries terms sides old → AreTermsOf S m places P entries (terms ++ made) new → AreEquationsOf S m places P entries (terms ++ made) sides new
  equations_behind P entries terms made sides old new all_are same kept before after = record {
    listed = after;
    equations = subst (AreSidesOf m entries places (terms ++ made) sides new.nodes) (sym same)
        (sides_behind m entries places terms made sides old.nodes new.nodes old.equations before.listed.nodes.count kept after.nodes all_are before.equations);
  }

  -- both sides of an equation
  pub equated : (rows : List ℕ) (old mid far new : NodeListData) (t u : TypeTerm) (a b : ℕ) → IsPushed S m places rows old mid t a → IsPushed S m places rows mid far u b
      → new ≡ record { nodes = far.nodes; types = far.types; equations = far.equations ++ (a, b) ∷ [] } → IsEquated S m places rows old new t u
  equated rows old mid far new t u a b first second added = record {
    grows = omega (arith, ap (λ (l : NodeListData). length l.nodes) added, first.grows, second.grows);
    listed = λ P entries G placed named terms sides type placing left right before.
        let one = first.listed P entries G placed named terms type placing left before.listed in
        let two = second.listed P entries G placed named (terms ++ made_terms (placed t)) type placing right one.0 in
        let all : List TypeTerm = (terms ++ made_terms (placed t)) ++ made_terms (placed u) in
        let whole : all ≡ terms ++ side_terms (placed t, placed u) = append_assoc terms (made_terms (placed t)) (made_terms (placed u)) in
        let then : AreEquationsOf S m places P entries (terms ++ made_terms (placed t)) sides mid =
        equations_behind P entries terms (made_terms (placed t)) sides old mid (all_made (placed t)) first.equations first.kept before one.0 in
        let last : AreEquationsOf S m places P entries all sides far =
        equations_behind P entries (terms ++ made_terms (placed t)) (made_terms (placed u)) sides mid far (all_made (placed u)) second.equations second.kept then two.0 in
        let count : length far.nodes ≡ length all = two.0.nodes.count in
        let stand : StandForSides m entries places all (placed t) (placed u) a b = record {
          left = StandsFor-more m entries places (terms ++ made_terms (placed t)) (made_terms (placed u)) (placed t) a one.1;
          right = two.1;
          left_within = omega (arith, first.within, second.grows, count);
          right_within = omega (arith, second.within, count);
        } in
        let joined : AreEquationsOf S m places P entries all (sides ++ (placed t, placed u) ∷ []) (record { nodes = far.nodes; types = far.types; equations = far.equations ++ (a, b) ∷ [] }) = record {
          listed = record { nodes = two.0.nodes; types = two.0.types };
          equations = sides_joined m entries places all sides far.nodes far.equations (placed t) (placed u) a b stand last.equations;
        } in
        record {
          more = side_terms (placed t, placed u);
          thinned = Thins-all IsConstantTerm (side_terms (placed t, placed u));
          are = subst (λ (l : List TypeTerm). AreEquationsOf S m places P entries l (sides ++ (placed t, placed u) ∷ []) new) whole
              (subst (AreEquationsOf S m places P entries all (sides ++ (placed t, placed u) ∷ [])) (sym added) joined);
        };
  }

  -- a constant on the right takes the node of the left side
  pub taken : (rows : List ℕ) (old mid new : NodeListData) (t : TypeTerm) (a : ℕ) (c : Con) → IsPushed S m places rows old mid t a → slice_get mid.nodes a ≡ Some node.Leaf
      → new ≡ record { nodes = slice_set mid.nodes a (node.Const c); types = mid.types; equations = mid.equations } → IsEquated S m places rows old new t (term.Const c)
  taken rows old mid new t a c first leaf changed = record {
    grows = omega (arith, ap (λ (l : NodeListData). length l.nodes) changed, size-set mid.nodes a (node.Const c), first.grows);
    listed = λ P entries G placed named terms sides type placing left right before.
        let one = first.listed P entries G placed named terms type placing left before.listed in
        let all : List TypeTerm = terms ++ made_terms (placed t) in
        let then : AreEquationsOf S m places P entries all sides mid =
        equations_behind P entries terms (made_terms (placed t)) sides old mid (all_made (placed t)) first.equations first.kept before one.0 in
        let now : AreEquationsOf S m places P entries all (sides ++ (placed t, term.Const c) ∷ []) (record { nodes = slice_set mid.nodes a (node.Const c); types = mid.types; equations = mid.equations }) = record {
          listed = record { nodes = nodes_taken m entries places all mid.nodes a c leaf then.listed.nodes; types = then.listed.types };
          equations = sides_taken m entries places all sides mid.nodes mid.equations (placed t) a c leaf one.1 then.equations;
        } in
        let constant : placed (term.Const c) ≡ term.Const c = placing.constant c in
        record {
          more = made_terms (placed t);
          thinned = Thins-moved IsConstantTerm _ (made_terms (placed t) ++ term.Const c ∷ []) _ (made_terms (placed t) ++ [])
              (ap (λ (l : List TypeTerm). made_terms (placed t) ++ l) (ap made_terms constant ∙ made-Const c)) (sym (append-nil (made_terms (placed t))))
              (Thins-append IsConstantTerm (Thins-all IsConstantTerm (made_terms (placed t))) (skipped (term.Const c) (c, refl) ended));
          are = subst (λ (x : TypeTerm). AreEquationsOf S m places P entries all (sides ++ (placed t, x) ∷ []) new) (sym constant)
              (subst (AreEquationsOf S m places P entries all (sides ++ (placed t, term.Const c) ∷ [])) (sym changed) now);
        };
  }
