-- Congruent nodes stand for derivably equal terms.
use Rattle.std.proofs.Common.{ℕ, List, [], ◌∷◌, Option, Some, None, ◌≡◌, ◌<◌, ◌+◌, ◌⊎◌, length, refl, sym, ap, subst, ◌∙◌, arith, inl, inr}
use Rattle.std.specs.Prelude.{slice_get, option_map}
use Rattle.std.proofs.lemmas.Bool.{cases_lt}
use Rattle.std.proofs.lemmas.Option.{slice_get_within}
use Rattle.cq_tables.specs.Content.{Content, made_of}
use Rattle.cq_rows.specs.Rows.{row_of_term}
use Rattle.cq_flat.specs.declared.node.Node.{Node}
use Rattle.cq_flat.specs.declared.node.Node.TheVariants as node
use Rattle.cq_flat.specs.Congruence as congruent
use Rattle.cq_flat.specs.Congruence.{Congruent, AllCongruent}
use Rattle.cq_check.specs.Frame.{IsFrame}
use Rattle.cq_check.specs.NodeListData.{NodeListData}
use Rattle.cq_check.specs.Standing.{Stands, generator, constant, cell, function, EachStands, none, more}
use Rattle.cq_check.specs.Sound.{HasTerm, AreSound}
use Rattle.cq_check.proofs.Rows.{row_leads, equal_rows}
use Rattle.cq_check.proofs.Typed.{not_both, IsTyped, EachTyped, args_typed, typed_cell, typed_generator}
use Rattle.cq_theory.specs.declared.constant.Con.{Con}
use Rattle.cq_theory.specs.declared.presentation.Presentation.{Presentation}
use Rattle.cq_theory.specs.declared.presentation.Sort.TheVariants.{Plain}
use Rattle.cq_theory.specs.SchemaData.{SchemaData as Schema}
use Rattle.cq_theory.specs.Schema.{IsSchema}
use Rattle.cq_theory.specs.Presentation.{IsPresentation}
use Rattle.cq_theory.specs.declared.term.EntTerm.{EntTerm}
use Rattle.cq_theory.specs.declared.term.TypeTerm.{TypeTerm}
use Rattle.cq_theory.specs.declared.term.TypeTerm.TheVariants as term
use Rattle.cq_theory.specs.declared.term.Term.{Term}
use Rattle.cq_theory.specs.declared.term.Term.TheVariants.{Ent, Typ}
use Rattle.cq_theory.specs.Sorts.{Generators, type_at, entity_of, type_of, IsGround}
use Rattle.cq_theory.specs.Derivation.{Derives, EachDerives}
use Rattle.cq_theory.proofs.Derivations.{Derives-reflexive, Derives-symmetric, Derives-transitive, Derives-attribute, Derives-function}
use Rattle.cq_theory.proofs.Sorted.{sort_of-derived}

type_at_within : {X : Type 0} (f : Option X → Option ℕ) → f None ≡ None → (xs : List X) (n type : ℕ) → f (slice_get xs n) ≡ Some type → n < length xs
type_at_within f nothing xs n type h = go (slice_get xs n) refl
  where
    go : (o : Option _) → slice_get xs n ≡ o → n < length xs
    go None e = let wrong : None ≡ Some type = sym nothing ∙ ap f (sym e) ∙ h in cc
    go (Some x) e = slice_get_within xs n x e

one_function : (f g : ℕ) (ps qs : List ℕ) (o : Option Node) → o ≡ Some (node.Fun f ps) → o ≡ Some (node.Fun g qs) → (f ≡ g) × (ps ≡ qs)
one_function f g ps qs o h h' =
    let same : Some (node.Fun f ps) ≡ Some (node.Fun g qs) = sym h ∙ h' in
    let same' : node.Fun f ps ≡ node.Fun g qs = cc in
    (cc, cc)

module _ (S : Schema) (P : Presentation) (m : Content) (entries : List ℕ) (schema : IsSchema S) (presentation : IsPresentation S P) (frame : IsFrame S P m entries)
    (list : NodeListData) (sound : AreSound S P m entries list) where
  abbrev G : Generators
  G = P.generators

  abbrev nodes : List Node
  nodes = list.nodes

  abbrev Stand : TypeTerm → ℕ → Type 0
  Stand = Stands m entries nodes

  ground : (t : TypeTerm) (type : ℕ) → type_of S G t ≡ Some type → IsGround S P (Typ t)
  ground t type h = (Plain type, ap (option_map Plain) h)

  moved : (t u t' u' : TypeTerm) → t ≡ t' → u ≡ u' → Derives S P (Typ t') (Typ u') → Derives S P (Typ t) (Typ u)
  moved t u t' u' e f d = subst (λ (x : TypeTerm). Derives S P (Typ x) (Typ u)) (sym e) (subst (λ (x : TypeTerm). Derives S P (Typ t') (Typ x)) (sym f) d)

  typed_as : (t t' : TypeTerm) (type : ℕ) → t ≡ t' → type_of S G t ≡ Some type → type_of S G t' ≡ Some type
  typed_as t t' type e h = ap (type_of S G) (sym e) ∙ h

  -- the node of a generator of a type is a leaf
  leaf : (n type : ℕ) → type_of S G (term.Gen n) ≡ Some type → slice_get nodes (made_of m + n) ≡ Some node.Leaf
  leaf n type h = sound.leaves (made_of m + n) (omega (arith, type_at_within type_at refl G n type (typed_generator S G n type h)))

  leaf_at : (t : TypeTerm) (p n type : ℕ) → type_of S G t ≡ Some type → t ≡ term.Gen n → p ≡ made_of m + n → slice_get nodes p ≡ Some node.Leaf
  leaf_at t p n type h is at = ap (slice_get nodes) at ∙ leaf n type (typed_as t (term.Gen n) type is h)

  no_constant : (p : ℕ) (c : Con) → slice_get nodes p ≡ Some node.Leaf → slice_get nodes p ≡ Some (node.Const c) → ⊥
  no_constant p c h h' = let wrong : Some node.Leaf ≡ Some (node.Const c) = sym h ∙ h' in cc

  no_function : (p f : ℕ) (ps : List ℕ) → slice_get nodes p ≡ Some node.Leaf → slice_get nodes p ≡ Some (node.Fun f ps) → ⊥
  no_function p f ps h h' = let wrong : Some node.Leaf ≡ Some (node.Fun f ps) = sym h ∙ h' in cc

  not_both_kinds : (p : ℕ) (c : Con) (f : ℕ) (ps : List ℕ) → slice_get nodes p ≡ Some (node.Const c) → slice_get nodes p ≡ Some (node.Fun f ps) → ⊥
  not_both_kinds p c f ps h h' = let wrong : Some (node.Const c) ≡ Some (node.Fun f ps) = sym h ∙ h' in cc

  -- the node of a row stands for no type term
  no_row : {t : TypeTerm} {r : ℕ} → r < made_of m → Stand t r → ⊥
  no_row within (generator n is at) = omega (arith, at)
  no_row {t} {r} within (constant c is there) = no_constant r c (sound.leaves r (omega arith)) there
  no_row {t} {r} within (cell a q u is leads there) = no_function r a (q ∷ []) (sound.leaves r (omega arith)) there
  no_row {t} {r} within (function f ts ps is there each) = no_function r f ps (sound.leaves r (omega arith)) there

  row_within : (t : EntTerm) (e r : ℕ) → entity_of S G t ≡ Some e → row_of_term m entries t ≡ Some r → r < made_of m
  row_within t e r h leads = frame.whole.made r (row_leads S P m entries frame t e r h leads).0

  -- no list of terms stands at the node of a row
  no_rows : (u : EntTerm) (e r : ℕ) → entity_of S G u ≡ Some e → row_of_term m entries u ≡ Some r → {ts : List TypeTerm} {ps : List ℕ} → r ∷ [] ≡ ps → EachStands m entries nodes ts ps → ⊥
  no_rows u e r h leads same none = cc
  no_rows u e r h leads same (more {t = t} {p = p} first rest) = let here : r ≡ p = cc in no_row (row_within u e r h leads) (subst (λ n. Stand t n) (sym here) first)

  -- terms at one node are derivably equal
  mutual
    pub one_node : {t u : TypeTerm} {p : ℕ} (type type' : ℕ) → type_of S G t ≡ Some type → type_of S G u ≡ Some type' → Stand t p → Stand u p → Derives S P (Typ t) (Typ u)
    one_node {t} {u} type type' h h' (generator n is at) (generator k is' at') =
        let same : n ≡ k = omega (arith, at, at') in
        let same' : term.Gen k ≡ term.Gen n = ap term.Gen (sym same) in
        moved t u (term.Gen n) (term.Gen n) is (is' ∙ same') (Derives-reflexive S P (Typ (term.Gen n)) (ground (term.Gen n) type (typed_as t (term.Gen n) type is h)))
    one_node {t} {u} {p} type type' h h' (generator n is at) (constant c is' there) = absurd (no_constant p c (leaf_at t p n type h is at) there)
    one_node {t} {u} {p} type type' h h' (generator n is at) (cell a r v is' leads there) = absurd (no_function p a (r ∷ []) (leaf_at t p n type h is at) there)
    one_node {t} {u} {p} type type' h h' (generator n is at) (function f ts ps is' there each) = absurd (no_function p f ps (leaf_at t p n type h is at) there)
    one_node {t} {u} {p} type type' h h' (constant c is there) (generator n is' at) = absurd (no_constant p c (leaf_at u p n type' h' is' at) there)
    one_node {t} {u} {p} type type' h h' (constant c is there) (constant d is' there') =
        let same : Some (node.Const c) ≡ Some (node.Const d) = sym there ∙ there' in
        let same' : c ≡ d = cc in
        moved t u (term.Const c) (term.Const c) is (is' ∙ ap term.Const (sym same')) (Derives-reflexive S P (Typ (term.Const c)) (ground (term.Const c) type (typed_as t (term.Const c) type is h)))
    one_node {t} {u} {p} type type' h h' (constant c is there) (cell a r v is' leads there') = absurd (not_both_kinds p c a (r ∷ []) there there')
    one_node {t} {u} {p} type type' h h' (constant c is there) (function f ts ps is' there' each) = absurd (not_both_kinds p c f ps there there')
    one_node {t} {u} {p} type type' h h' (cell a r v is leads there) (generator n is' at) = absurd (no_function p a (r ∷ []) (leaf_at u p n type' h' is' at) there)
    one_node {t} {u} {p} type type' h h' (cell a r v is leads there) (constant c is' there') = absurd (not_both_kinds p c a (r ∷ []) there' there)
    one_node {t} {u} {p} type type' h h' (cell a r v is leads there) (cell b q w is' leads' there') =
        let same = one_function a b (r ∷ []) (q ∷ []) (slice_get nodes p) there there' in
        let row : r ≡ q = cc in
        let left = typed_cell S G a v type (typed_as t (term.Att a v) type is h) in
        let right = typed_cell S G b w type' (typed_as u (term.Att b w) type' is' h') in
        let rows : Derives S P (Ent v) (Ent w) = equal_rows S P m entries frame v w left.edge.from right.edge.from left.of_entity right.of_entity (r, leads, leads' ∙ ap (λ n. Some n) (sym row)) in
        moved t u (term.Att a v) (term.Att a w) is (is' ∙ ap (λ n. term.Att n w) (sym same.0)) (Derives-attribute S P a v w rows (ground (term.Att a v) type (typed_as t (term.Att a v) type is h)))
    one_node {t} {u} {p} type type' h h' (cell a r v is leads there) (function f ts ps is' there' each) =
        let left = typed_cell S G a v type (typed_as t (term.Att a v) type is h) in
        absurd (no_rows v left.edge.from r left.of_entity leads (one_function a f (r ∷ []) ps (slice_get nodes p) there there').1 each)
    one_node {t} {u} {p} type type' h h' (function f ts ps is there each) (generator n is' at) = absurd (no_function p f ps (leaf_at u p n type' h' is' at) there)
    one_node {t} {u} {p} type type' h h' (function f ts ps is there each) (constant c is' there') = absurd (not_both_kinds p c f ps there' there)
    one_node {t} {u} {p} type type' h h' (function f ts ps is there each) (cell a r v is' leads there') =
        let right = typed_cell S G a v type' (typed_as u (term.Att a v) type' is' h') in
        absurd (no_rows v right.edge.from r right.of_entity leads (one_function a f (r ∷ []) ps (slice_get nodes p) there' there).1 each)
    one_node {t} {u} {p} type type' h h' (function f ts ps is there each) (function g us qs is' there' each') =
        let same = one_function f g ps qs (slice_get nodes p) there there' in
        let typed = typed_as t (term.Fun f ts) type is h in
        let args : EachDerives S P ts us = each_node (args_typed S G f ts type typed) (args_typed S G g us type' (typed_as u (term.Fun g us) type' is' h')) same.1 each each' in
        moved t u (term.Fun f ts) (term.Fun f us) is (is' ∙ ap (λ n. term.Fun n us) (sym same.0)) (Derives-function S P f ts us args (ground (term.Fun f ts) type typed))

    each_node : {ts us : List TypeTerm} {ps qs : List ℕ} → EachTyped S G ts → EachTyped S G us → ps ≡ qs → EachStands m entries nodes ts ps → EachStands m entries nodes us qs → EachDerives S P ts us
    each_node typed typed' same none none = tt
    each_node typed typed' same none (more first' rest') = cc
    each_node typed typed' same (more first rest) none = cc
    each_node typed typed' same (more {p = p} {ps = ps} first rest) (more {t = u} {p = q} {ps = qs} first' rest') =
        let here : p ≡ q = cc in
        let there : ps ≡ qs = cc in
        (one_node typed.0.0 typed'.0.0 typed.0.1 typed'.0.1 first (subst (λ n. Stand u n) (sym here) first'), each_node typed.1 typed'.1 there rest rest')

  -- a ground term that a node names: a term of the row, or one for which the node stands
  abbrev IsNamed : Term → ℕ → Type 0
  IsNamed (Ent t) r = (row_of_term m entries t ≡ Some r) × ((e : ℕ) × (entity_of S G t ≡ Some e))
  IsNamed (Typ t) p = Stand t p × IsTyped S G t

  one_name : (t u : Term) (p : ℕ) → IsNamed t p → IsNamed u p → Derives S P t u
  one_name (Ent t) (Ent u) p h h' = equal_rows S P m entries frame t u h.1.0 h'.1.0 h.1.1 h'.1.1 (p, h.0, h'.0)
  one_name (Ent t) (Typ u) p h h' = absurd (no_row (row_within t h.1.0 p h.1.1 h.0) h'.0)
  one_name (Typ t) (Ent u) p h h' = absurd (no_row (row_within u h'.1.0 p h'.1.1 h'.0) h.0)
  one_name (Typ t) (Typ u) p h h' = one_node h.1.0 h'.1.0 h.1.1 h'.1.1 h.0 h'.0

  -- both nodes have names, and all of these are derivably equal
  record AreJoined (a b : ℕ) : Type 0 where
    left : Term
    right : Term
    left_named : IsNamed left a
    right_named : IsNamed right b
    joined : (t u : Term) → IsNamed t a → IsNamed u b → Derives S P t u

  abbrev AreLinked : ℕ → ℕ → Type 0
  AreLinked a b = (a ≡ b) ⊎ AreJoined a b

  abbrev AllLinked : List ℕ → List ℕ → Type 0
  AllLinked [] [] = Unit {0}
  AllLinked (x ∷ xs) (y ∷ ys) = AreLinked x y × AllLinked xs ys
  AllLinked _ _ = ⊥

  -- it is enough that some name of the one equals some name of the other
  joined_by : (a b : ℕ) (t u : Term) → IsNamed t a → IsNamed u b → Derives S P t u → AreJoined a b
  joined_by a b t u left right d = record {
    left = t;
    right = u;
    left_named = left;
    right_named = right;
    joined = λ t' u' h h'. Derives-transitive S P t' t u' (one_name t' t a h left) (Derives-transitive S P t u u' d (one_name u u' b right h'));
  }

  linked_back : (a b : ℕ) → AreLinked a b → AreLinked b a
  linked_back a b (inl same) = inl (sym same)
  linked_back a b (inr h) = inr (joined_by b a h.right h.left h.right_named h.left_named (Derives-symmetric S P h.left h.right (h.joined h.left h.right h.left_named h.right_named)))

  linked_via : (a b c : ℕ) → AreLinked a b → AreLinked b c → AreLinked a c
  linked_via a b c (inl same) h = subst (λ n. AreLinked n c) (sym same) h
  linked_via a b c (inr h) (inl same) = inr (subst (λ n. AreJoined a n) same h)
  linked_via a b c (inr h) (inr g) =
      inr (joined_by a c h.left g.right h.left_named g.right_named
      (Derives-transitive S P h.left h.right g.right (h.joined h.left h.right h.left_named h.right_named) (g.joined h.right g.right h.right_named g.right_named)))

  -- a node that isn't a leaf stands behind the leaves, and has a term
  term_of : (p : ℕ) (content : Node) → slice_get nodes p ≡ Some content → (content ≡ node.Leaf → ⊥) → HasTerm S G m entries nodes p
  term_of p content is other = elim (cases_lt p (made_of m + length G)) [
    | inl within ↦ let same : Some node.Leaf ≡ Some content = sym (sound.leaves p within) ∙ is in absurd (other (let same' : content ≡ node.Leaf = cc in same'))
    | inr behind ↦ sound.named p behind (slice_get_within nodes p content is)
  ]

  no_leaf : (f : ℕ) (ps : List ℕ) → node.Fun f ps ≡ node.Leaf → ⊥
  no_leaf f ps h = cc

  -- what stands at a constant's node has the type of the constant
  constant_typed : (t : TypeTerm) (a : ℕ) (c : Con) (type : ℕ) → type_of S G t ≡ Some type → slice_get nodes a ≡ Some (node.Const c) → Stand t a → type_of S G (term.Const c) ≡ Some type
  constant_typed t a c type h there (generator n is at) = absurd (no_constant a c (leaf_at t a n type h is at) there)
  constant_typed t a c type h there (constant d is there') =
      let same : Some (node.Const d) ≡ Some (node.Const c) = sym there' ∙ there in
      let same' : d ≡ c = cc in
      typed_as t (term.Const c) type (is ∙ ap term.Const same') h
  constant_typed t a c type h there (cell b r u is leads there') = absurd (not_both_kinds a c b (r ∷ []) there there')
  constant_typed t a c type h there (function f ts ps is there' each) = absurd (not_both_kinds a c f ps there there')

  constants_linked : (a b : ℕ) (c : Con) → slice_get nodes a ≡ Some (node.Const c) → slice_get nodes b ≡ Some (node.Const c) → AreLinked a b
  constants_linked a b c h h' =
      let t = term_of a (node.Const c) h (λ (same : node.Const c ≡ node.Leaf). (let wrong : node.Const c ≡ node.Leaf = same in cc)) in
      let typed = constant_typed t.term a c t.type t.sort h t.stands in
      let name : Term = Typ (term.Const c) in
      inr (joined_by a b name name (constant c refl h, (t.type, typed)) (constant c refl h', (t.type, typed)) (Derives-reflexive S P name (ground (term.Const c) t.type typed)))

  -- arguments at linked nodes are derivably equal
  args_equal : {ts us : List TypeTerm} {xs ys : List ℕ} → EachTyped S G ts → EachTyped S G us → EachStands m entries nodes ts xs → EachStands m entries nodes us ys → AllLinked xs ys → EachDerives S P ts us
  args_equal typed typed' none none linked = tt
  args_equal typed typed' none (more first' rest') linked = absurd linked
  args_equal typed typed' (more first rest) none linked = absurd linked
  args_equal typed typed' (more {t = t} {p = p} first rest) (more {t = u} {p = q} first' rest') linked = (go linked.0, args_equal typed.1 typed'.1 rest rest' linked.1)
    where
      go : AreLinked p q → Derives S P (Typ t) (Typ u)
      go (inl same) = one_node typed.0.0 typed'.0.0 typed.0.1 typed'.0.1 first (subst (λ n. Stand u n) (sym same) first')
      go (inr h) = h.joined (Typ t) (Typ u) (first, typed.0) (first', typed'.0)

  -- a row's node is linked to no node that stands for a type term
  row_apart : (v : EntTerm) (e r p : ℕ) (u : TypeTerm) → entity_of S G v ≡ Some e → row_of_term m entries v ≡ Some r → IsTyped S G u → Stand u p → AreLinked r p → ⊥
  row_apart v e r p u h leads typed stands (inl same) = no_row (row_within v e r h leads) (subst (λ n. Stand u n) (sym same) stands)
  row_apart v e r p u h leads typed stands (inr joined) =
      let d = joined.joined (Ent v) (Typ u) (leads, (e, h)) (stands, typed) in
      let sorts = sort_of-derived S P schema presentation (Ent v) (Typ u) d in
      not_both (entity_of S G v) (type_of S G u) sorts.0 sorts.1 sorts.2

  rows_apart : (v : EntTerm) (e r : ℕ) → entity_of S G v ≡ Some e → row_of_term m entries v ≡ Some r → {us : List TypeTerm} {ps : List ℕ} → EachTyped S G us → EachStands m entries nodes us ps
      → AllLinked (r ∷ []) ps → ⊥
  rows_apart v e r h leads typed none linked = linked
  rows_apart v e r h leads typed (more {t = u} {p = p} first rest) linked = row_apart v e r p u h leads typed.0 first linked.0

  cells_equal : (v w : EntTerm) (d e r q : ℕ) → entity_of S G v ≡ Some d → entity_of S G w ≡ Some e → row_of_term m entries v ≡ Some r → row_of_term m entries w ≡ Some q → AreLinked r q → Derives S P (Ent v) (Ent w)
  cells_equal v w d e r q h h' leads leads' (inl same) = equal_rows S P m entries frame v w d e h h' (r, leads, leads' ∙ ap (λ n. Some n) (sym same))
  cells_equal v w d e r q h h' leads leads' (inr joined) = joined.joined (Ent v) (Ent w) (leads, (d, h)) (leads', (e, h'))

  -- applications of one function to linked nodes are derivably equal
  module _ (f : ℕ) (a b : ℕ) (xs ys : List ℕ) (at_a : slice_get nodes a ≡ Some (node.Fun f xs)) (at_b : slice_get nodes b ≡ Some (node.Fun f ys)) (linked : AllLinked xs ys) where
    applications_equal : {t u : TypeTerm} (type type' : ℕ) → type_of S G t ≡ Some type → type_of S G u ≡ Some type' → Stand t a → Stand u b → Derives S P (Typ t) (Typ u)
    applications_equal {t} {u} type type' h h' (generator n is at) other = absurd (no_function a f xs (leaf_at t a n type h is at) at_a)
    applications_equal {t} {u} type type' h h' (constant c is there) other = absurd (not_both_kinds a c f xs there at_a)
    applications_equal {t} {u} type type' h h' (cell n r v is leads there) (generator k is' at) = absurd (no_function b f ys (leaf_at u b k type' h' is' at) at_b)
    applications_equal {t} {u} type type' h h' (cell n r v is leads there) (constant c is' there') = absurd (not_both_kinds b c f ys there' at_b)
    applications_equal {t} {u} type type' h h' (cell n r v is leads there) (cell k q w is' leads' there') =
        let left = one_function n f (r ∷ []) xs (slice_get nodes a) there at_a in
        let right = one_function k f (q ∷ []) ys (slice_get nodes b) there' at_b in
        let rows : AllLinked (r ∷ []) (q ∷ []) = subst (λ (l : List ℕ). AllLinked (r ∷ []) l) (sym right.1) (subst (λ (l : List ℕ). AllLinked l ys) (sym left.1) linked) in
        let typed = typed_as t (term.Att n v) type is h in
        let one = typed_cell S G n v type typed in
        let two = typed_cell S G k w type' (typed_as u (term.Att k w) type' is' h') in
        let same : k ≡ n = right.0 ∙ sym left.0 in
        moved t u (term.Att n v) (term.Att n w) is (is' ∙ ap (λ x. term.Att x w) same)
        (Derives-attribute S P n v w (cells_equal v w one.edge.from two.edge.from r q one.of_entity two.of_entity leads leads' rows.0) (ground (term.Att n v) type typed))
    applications_equal {t} {u} type type' h h' (cell n r v is leads there) (function g us ps is' there' each) =
        let left = one_function n f (r ∷ []) xs (slice_get nodes a) there at_a in
        let right = one_function g f ps ys (slice_get nodes b) there' at_b in
        let one = typed_cell S G n v type (typed_as t (term.Att n v) type is h) in
        let rows : AllLinked (r ∷ []) ps = subst (λ (l : List ℕ). AllLinked (r ∷ []) l) (sym right.1) (subst (λ (l : List ℕ). AllLinked l ys) (sym left.1) linked) in
        absurd (rows_apart v one.edge.from r one.of_entity leads (args_typed S G g us type' (typed_as u (term.Fun g us) type' is' h')) each rows)
    applications_equal {t} {u} type type' h h' (function g ts ps is there each) (generator k is' at) = absurd (no_function b f ys (leaf_at u b k type' h' is' at) at_b)
    applications_equal {t} {u} type type' h h' (function g ts ps is there each) (constant c is' there') = absurd (not_both_kinds b c f ys there' at_b)
    applications_equal {t} {u} type type' h h' (function g ts ps is there each) (cell k q w is' leads there') =
        let left = one_function g f ps xs (slice_get nodes a) there at_a in
        let right = one_function k f (q ∷ []) ys (slice_get nodes b) there' at_b in
        let two = typed_cell S G k w type' (typed_as u (term.Att k w) type' is' h') in
        let rows : AllLinked ps (q ∷ []) = subst (λ (l : List ℕ). AllLinked ps l) (sym right.1) (subst (λ (l : List ℕ). AllLinked l ys) (sym left.1) linked) in
        absurd (rows_apart w two.edge.from q two.of_entity leads (args_typed S G g ts type (typed_as t (term.Fun g ts) type is h)) each (all_back ps (q ∷ []) rows))
      where
        all_back : (xs ys : List ℕ) → AllLinked xs ys → AllLinked ys xs
        all_back [] [] h = tt
        all_back [] (y ∷ ys) h = absurd h
        all_back (x ∷ xs) [] h = absurd h
        all_back (x ∷ xs) (y ∷ ys) h = (linked_back x y h.0, all_back xs ys h.1)
    applications_equal {t} {u} type type' h h' (function g ts ps is there each) (function k us qs is' there' each') =
        let left = one_function g f ps xs (slice_get nodes a) there at_a in
        let right = one_function k f qs ys (slice_get nodes b) there' at_b in
        let args : AllLinked ps qs = subst (λ (l : List ℕ). AllLinked ps l) (sym right.1) (subst (λ (l : List ℕ). AllLinked l ys) (sym left.1) linked) in
        let typed = typed_as t (term.Fun g ts) type is h in
        let same : k ≡ g = right.0 ∙ sym left.0 in
        moved t u (term.Fun g ts) (term.Fun g us) is (is' ∙ ap (λ x. term.Fun x us) same)
        (Derives-function S P g ts us (args_equal (args_typed S G g ts type typed) (args_typed S G k us type' (typed_as u (term.Fun k us) type' is' h')) each each' args) (ground (term.Fun g ts) type typed))

    applications_linked : AreLinked a b
    applications_linked =
        let t = term_of a (node.Fun f xs) at_a (no_leaf f xs) in
        let u = term_of b (node.Fun f ys) at_b (no_leaf f ys) in
        inr (joined_by a b (Typ t.term) (Typ u.term) (t.stands, (t.type, t.sort)) (u.stands, (u.type, u.sort)) (applications_equal t.type u.type t.sort u.sort t.stands u.stands))

  given_linked : (i a b : ℕ) → slice_get list.equations i ≡ Some (a, b) → AreLinked a b
  given_linked i a b is =
      let e = sound.equal i a b is in
      inr (joined_by a b (Typ e.left.term) (Typ e.right.term) (e.left.stands, (e.left.type, e.left.sort)) (e.right.stands, (e.right.type, e.right.sort)) e.equal)

  mutual
    linked : {a b : ℕ} → Congruent nodes list.equations a b → AreLinked a b
    linked (congruent.reflexive a within) = inl refl
    linked {a} {b} (congruent.symmetric h) = linked_back b a (linked h)
    linked (congruent.transitive {a} {b} {c} h g) = linked_via a b c (linked h) (linked g)
    linked {a} {b} (congruent.given i is) = given_linked i a b is
    linked {a} {b} (congruent.constants c h h') = constants_linked a b c h h'
    linked (congruent.functions {a} {b} {xs} {ys} f h h' args) = applications_linked f a b xs ys h h' (all_linked args)

    all_linked : {xs ys : List ℕ} → AllCongruent nodes list.equations xs ys → AllLinked xs ys
    all_linked congruent.none = tt
    all_linked (congruent.more h rest) = (linked h, all_linked rest)

  -- terms at congruent nodes are derivably equal
  pub congruent_derived : (t u : TypeTerm) (a b type type' : ℕ) → type_of S G t ≡ Some type → type_of S G u ≡ Some type' → Stand t a → Stand u b → Congruent nodes list.equations a b
      → Derives S P (Typ t) (Typ u)
  congruent_derived t u a b type type' h h' left right same = go (linked same)
    where
      go : AreLinked a b → Derives S P (Typ t) (Typ u)
      go (inl one) = one_node type type' h h' left (subst (λ n. Stand u n) (sym one) right)
      go (inr joined) = joined.joined (Typ t) (Typ u) (left, (type, h)) (right, (type', h'))
