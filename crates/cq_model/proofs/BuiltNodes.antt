-- What nodes stand for: congruent nodes have derivably equal terms.
use Rattle.std.proofs.Common.{ℕ, zero, suc, true, List, [], ◌∷◌, ◌++◌, Option, Some, None, ◌≡◌, ◌<◌, ◌==◌, filter, length, refl, sym, ap, subst, ◌∙◌, arith, inl, inr, eqb-true}
use Rattle.std.specs.Prelude.{slice_get, slice_index, option_map, All}
use Rattle.std.specs.List.{flat_map}
use Rattle.std.proofs.lemmas.Option.{slice_get_within}
use Rattle.cq_tables.specs.Content.{Content, live_of}
use Rattle.cq_tables.specs.Content.{entity_of as row_entity}
use Rattle.cq_rows.specs.Rows.{row_of_term}
use Rattle.cq_flat.specs.declared.node.Node.{Node}
use Rattle.cq_flat.specs.declared.node.Node.TheVariants as node
use Rattle.cq_flat.specs.Congruence as congruent
use Rattle.cq_flat.specs.Congruence.{Congruent, AllCongruent}
use Rattle.cq_flat.specs.Values.{Closure}
use Rattle.cq_model.specs.declared.places.Places.{Places}
use Rattle.cq_names.specs.Closed.{AreClosed}
use Rattle.cq_names.specs.LeastNames.{rows_at, terms_at}
use Rattle.cq_model.specs.NodeTerms.{equation_sides, row_sides, entity_sides, given_sides, leaf_terms, cell_place, StandsAt, StandsFor, EachStands, IsNodeAt}
use Rattle.cq_model.specs.Built.{IsClosureOf, IsBuilt}
use Rattle.cq_theory.specs.declared.constant.Con.{Con}
use Rattle.cq_theory.specs.declared.presentation.Equation.{Equation}
use Rattle.cq_theory.specs.declared.presentation.Equation.TheVariants.{Ent as EntEquation, Typ as TypEquation}
use Rattle.cq_theory.specs.declared.presentation.Presentation.{Presentation}
use Rattle.cq_theory.specs.declared.presentation.Sort.{Sort}
use Rattle.cq_theory.specs.declared.presentation.Sort.TheVariants.{Plain}
use Rattle.cq_theory.specs.declared.schema.ObsEq.{ObsEq}
use Rattle.cq_theory.specs.SchemaData.{SchemaData as Schema}
use Rattle.cq_theory.specs.Schema.{IsSchema}
use Rattle.cq_theory.specs.Presentation.{IsPresentation}
use Rattle.cq_theory.specs.Canonical.{below}
use Rattle.cq_theory.specs.Listed.{names_of}
use Rattle.cq_theory.specs.declared.term.EntTerm.{EntTerm}
use Rattle.cq_theory.specs.declared.term.TypeTerm.{TypeTerm}
use Rattle.cq_theory.specs.declared.term.TypeTerm.TheVariants as term
use Rattle.cq_theory.specs.declared.term.TypeTerm.TheOpen as layer
use Rattle.cq_theory.specs.declared.term.TypeTerm.TheViews.{out-TypeTerm, roll-TypeTerm}
use Rattle.cq_theory.specs.declared.term.Term.TheVariants.{Typ}
use Rattle.cq_theory.specs.TypeTerm.{substituted}
use Rattle.cq_theory.specs.Sorts.{Generators, entity_of, type_of, IsGround}
use Rattle.cq_theory.specs.Derivation.{given, observation, Derives, EachDerives}
use Rattle.cq_theory.proofs.TypeTerms.{on_terms}
use Rattle.cq_theory.proofs.Sorted.{sort_of-derived}
use Rattle.cq_theory.proofs.Derivations.{Derives-reflexive, Derives-symmetric, Derives-transitive, Derives-attribute, Derives-function}
use Rattle.cq_instance.proofs.Lists.{IsIn, in_append, from_flat_map, from_map}
use Rattle.cq_model.proofs.Variants.{out-Att}
use Rattle.cq_instance.proofs.TypedTerms.{out-Gen, out-Const, out-Fun, IsTyped, EachTyped, args_typed, IsTypedCell, typed_cell, typed_generator}
use Rattle.cq_model.proofs.BuiltEntries.{from_filter}
use Rattle.cq_model.proofs.BuiltRows as rows_say

-- what stands at a place within a list
pub at_place : {X : Type 0} (xs : List X) (n : ℕ) → n < length xs → (x : X) × (slice_get xs n ≡ Some x)
at_place [] n h = absurd (omega arith)
at_place (x ∷ xs) zero h = (x, refl)
at_place (x ∷ xs) (suc n) h = at_place xs n (omega arith)

pub one_at : {X : Type 0} (xs : List X) (n : ℕ) (x y : X) → slice_get xs n ≡ Some x → slice_get xs n ≡ Some y → x ≡ y
one_at xs n x y h h' = let same : Some x ≡ Some y = sym h ∙ h' in cc

-- a term is its layer, closed
from_layer : (t : TypeTerm) (l : layer.TypeTerm-F TypeTerm) → out-TypeTerm t ≡ l → t ≡ roll-TypeTerm l
from_layer t l h = closed t ∙ ap roll-TypeTerm h
  where
    closed : (t : TypeTerm) → t ≡ roll-TypeTerm (out-TypeTerm t)
    closed = on_terms (λ t. t ≡ roll-TypeTerm (out-TypeTerm t))
        (λ n. sym (term.rolls-Gen n) ∙ ap roll-TypeTerm (sym (out-Gen n)))
        (λ c. sym (term.rolls-Const c) ∙ ap roll-TypeTerm (sym (out-Const c)))
        (λ a t. sym (term.rolls-Att a t) ∙ ap roll-TypeTerm (sym (out-Att a t)))
        (λ f ts each. sym (term.rolls-Fun f ts) ∙ ap roll-TypeTerm (sym (out-Fun f ts)))

-- Which term has the node of an application.
module _ (m : Content) (rows : List ℕ) (places : Places) (T : List TypeTerm) where
  pub function_node : (p f : ℕ) (ps : List ℕ) (t : TypeTerm) → IsNodeAt m rows places T p (out-TypeTerm t) (node.Fun f ps)
      → (args : List TypeTerm) × (t ≡ term.Fun f args) × EachStands m rows places T args ps × All (λ arg. arg < p) ps
  function_node p f ps t h =
      let parts = go (out-TypeTerm t) h in
      (parts.0, from_layer t (layer.Fun f parts.0) parts.1 ∙ term.rolls-Fun f parts.0, parts.2, parts.3)
    where
      go : (l : layer.TypeTerm-F TypeTerm) → IsNodeAt m rows places T p l (node.Fun f ps)
          → (args : List TypeTerm) × (l ≡ layer.Fun f args) × EachStands m rows places T args ps × All (λ arg. arg < p) ps
      go (layer.Gen n) is = absurd is
      go (layer.Const d) is = cc
      go (layer.Att a u) is = absurd is
      go (layer.Fun g args) is =
          let one : node.Fun f ps ≡ node.Fun g is.0 = is.1 in
          let function : g ≡ f = cc in
          let same : is.0 ≡ ps = cc in
          (args, ap (λ h. layer.Fun h args) function, subst (EachStands m rows places T args) same is.2, subst (All (λ arg. arg < p)) same is.3)

module _ (S : Schema) (P : Presentation) (schema : IsSchema S) (presentation : IsPresentation S P) where
  pub typed_ground : (t : TypeTerm) (type : ℕ) → type_of S P.generators t ≡ Some type → IsGround S P (Typ t)
  typed_ground t type h = (Plain type, ap (option_map Plain) h)

  pub derived_typed : (t u : TypeTerm) → Derives S P (Typ t) (Typ u) → IsTyped S P.generators t × IsTyped S P.generators u
  derived_typed t u d =
      let sorts = sort_of-derived S P schema presentation (Typ t) (Typ u) d in
      (go (type_of S P.generators t) sorts.0 sorts.1, go (type_of S P.generators u) sorts.0 sorts.2)
    where
      go : (o : Option ℕ) (sort : Sort) → option_map Plain o ≡ Some sort → (type : ℕ) × (o ≡ Some type)
      go None sort h = cc
      go (Some type) sort h = (type, refl)

  -- derivably equal terms have one type
  pub one_type : (t u : TypeTerm) (type : ℕ) → Derives S P (Typ t) (Typ u) → type_of S P.generators t ≡ Some type → type_of S P.generators u ≡ Some type
  one_type t u type d h =
      let sorts = sort_of-derived S P schema presentation (Typ t) (Typ u) d in
      go (type_of S P.generators u) (sym (ap (option_map Plain) h) ∙ sorts.1 ∙ sym sorts.2)
    where
      go : (o : Option ℕ) → Some (Plain type) ≡ option_map Plain o → o ≡ Some type
      go None e = cc
      go (Some other) e = let same : Plain type ≡ Plain other = cc in let same' : other ≡ type = cc in ap (λ n. Some n) same'

module _ (S : Schema) (P : Presentation) (m : Content) (rows : List ℕ) (schema : IsSchema S) (presentation : IsPresentation S P) (closed : AreClosed S P m rows)
    (order : List (List ℕ)) (names : List (List EntTerm)) (numbers : List ℕ) (places : Places) (nodes : List Node) (equations : List (ℕ × ℕ)) (types : List ℕ)
    (built : IsBuilt S P m rows order names numbers places nodes equations types)
    (flat : Closure) (closure : IsClosureOf nodes equations flat) where
  abbrev G : Generators
  G = P.generators

  -- the term of each node
  abbrev T : List TypeTerm
  T = leaf_terms S P names ++ built.made

  abbrev Stands : TypeTerm → ℕ → Type 0
  Stands = StandsFor m rows places T

  -- each entity term leads to a live row of its entity
  leads : (t : EntTerm) (e : ℕ) → entity_of S G t ≡ Some e → (r : ℕ) × (row_of_term m rows t ≡ Some r) × (live_of m r ≡ true) × (row_entity m r ≡ e)
  leads = rows_say.leads S P m rows schema presentation closed order names numbers built.numbered places types flat

  pub node_within : (p : ℕ) (t : TypeTerm) → slice_get T p ≡ Some t → p < length nodes
  node_within p t h = omega (arith, slice_get_within T p t h, built.nodes_are.count)

  pub term_at : (p : ℕ) → p < length nodes → (t : TypeTerm) × (slice_get T p ≡ Some t)
  term_at p h = at_place T p (omega (arith, built.nodes_are.count))

  pub node_ground : (p : ℕ) (t : TypeTerm) → slice_get T p ≡ Some t → IsTyped S G t
  node_ground p t h =
      let type = at_place types p (omega (arith, slice_get_within T p t h, built.types_are.count)) in
      (type.0, built.types_are.each p type.0 t h type.1)

  pub function_at : (p f : ℕ) (ps : List ℕ) (t : TypeTerm) → slice_get T p ≡ Some t → slice_get nodes p ≡ Some (node.Fun f ps)
      → (args : List TypeTerm) × (t ≡ term.Fun f args) × EachStands m rows places T args ps × All (λ arg. arg < p) ps
  function_at p f ps t h h' = function_node m rows places T p f ps t (built.nodes_are.each p t (node.Fun f ps) h h')

  -- the node of a constant, and that of an application
  pub constant_place : (p : ℕ) (c : Con) → slice_get T p ≡ Some (term.Const c) → slice_get nodes p ≡ Some (node.Const c)
  constant_place p c h =
      let content = at_place nodes p (node_within p (term.Const c) h) in
      content.1 ∙ ap (λ n. Some n) (subst (λ l. IsNodeAt m rows places T p l content.0) (out-Const c) (built.nodes_are.each p (term.Const c) content.0 h content.1))

  pub function_place : (p f : ℕ) (args : List TypeTerm) → slice_get T p ≡ Some (term.Fun f args)
      → (ps : List ℕ) × (slice_get nodes p ≡ Some (node.Fun f ps)) × EachStands m rows places T args ps × All (λ arg. arg < p) ps
  function_place p f args h =
      let content = at_place nodes p (node_within p (term.Fun f args) h) in
      let is : IsNodeAt m rows places T p (layer.Fun f args) content.0 = subst (λ l. IsNodeAt m rows places T p l content.0) (out-Fun f args) (built.nodes_are.each p (term.Fun f args) content.0 h content.1) in
      (is.0, content.1 ∙ ap (λ n. Some n) is.1, is.2, is.3)

  -- the cell of a typed attribute: the row to which its term leads, and the place of the row's cell
  pub record IsCellAt (a : ℕ) (t : EntTerm) (p type : ℕ) : Type 0 where
    pub typed : IsTypedCell S G a t type
    pub row : ℕ
    pub leads_to : row_of_term m rows t ≡ Some row
    pub live : live_of m row ≡ true
    pub of_entity : typed.edge.from ≡ row_entity m row
    pub place : p ≡ cell_place places row a

  pub cell_at_place : (a : ℕ) (t : EntTerm) (p type : ℕ) → type_of S G (term.Att a t) ≡ Some type → Stands (term.Att a t) p → IsCellAt a t p type
  cell_at_place a t p type sort stands =
      let cell = typed_cell S G a t type sort in
      let led = leads t cell.edge.from cell.of_entity in
      let at : StandsAt m rows places T (layer.Att a t) p = subst (λ l. StandsAt m rows places T l p) (out-Att a t) stands in
      let one : Some at.0 ≡ Some led.0 = sym at.1 ∙ led.1 in
      let same : at.0 ≡ led.0 = cc in
      record {
        typed = cell;
        row = led.0;
        leads_to = led.1;
        live = led.2;
        of_entity = sym led.3;
        place = at.2 ∙ ap (λ r. cell_place places r a) same;
      }

  -- where a node stands for a term, its own term is derivably equal
  abbrev HasNode : TypeTerm → Type 0
  HasNode t = (p type : ℕ) → type_of S G t ≡ Some type → Stands t p → (u : TypeTerm) × (slice_get T p ≡ Some u) × Derives S P (Typ t) (Typ u)

  own : (t : TypeTerm) (p type : ℕ) → type_of S G t ≡ Some type → slice_get T p ≡ Some t → (u : TypeTerm) × (slice_get T p ≡ Some u) × Derives S P (Typ t) (Typ u)
  own t p type sort h = (t, h, Derives-reflexive S P (Typ t) (typed_ground S P schema presentation t type sort))

  cell_node : (a : ℕ) (t : EntTerm) → HasNode (term.Att a t)
  cell_node a t p type sort stands =
      let cell = cell_at_place a t p type sort stands in
      let found = built.places_are.cell cell.row a cell.typed.edge cell.live cell.typed.known cell.of_entity in
      let there : slice_get T p ≡ Some (term.Att a found.0) = ap (slice_get T) cell.place ∙ found.1 in
      let ground = node_ground p (term.Att a found.0) there in
      let other = typed_cell S G a found.0 ground.0 ground.1 in (
        term.Att a found.0,
        there,
        Derives-attribute S P a t found.0
            (closed.sound t found.0 cell.typed.edge.from other.edge.from cell.row cell.typed.of_entity other.of_entity cell.leads_to found.2)
            (typed_ground S P schema presentation (term.Att a t) type sort),
      )

  pub stands_at : (t : TypeTerm) → HasNode t
  stands_at = on_terms HasNode
      (λ n p type sort stands.
      let place : p ≡ slice_index places.generators n = subst (λ l. StandsAt m rows places T l p) (out-Gen n) stands in
      own (term.Gen n) p type sort (ap (slice_get T) place ∙ built.places_are.generator n type (typed_generator S G n type sort)))
      (λ c p type sort stands. own (term.Const c) p type sort (subst (λ l. StandsAt m rows places T l p) (out-Const c) stands))
      cell_node
      (λ f args each p type sort stands. own (term.Fun f args) p type sort (subst (λ l. StandsAt m rows places T l p) (out-Fun f args) stands))

  -- a term equals the term of the node that stands for it
  pub stands_derives : (t u : TypeTerm) (p type : ℕ) → type_of S G t ≡ Some type → Stands t p → slice_get T p ≡ Some u → Derives S P (Typ t) (Typ u)
  stands_derives t u p type sort stands found =
      let at = stands_at t p type sort stands in
      subst (λ (v : TypeTerm). Derives S P (Typ t) (Typ v)) (one_at T p at.0 u at.1 found) at.2

  -- a row's name is a term of its entity
  name_entity : (entity : ℕ) (t : EntTerm) → IsIn t (names_of S P names entity) → entity_of S G t ≡ Some entity
  name_entity entity t h =
      let row = at_place (rows_at order entity) h.place (omega (arith, slice_get_within (terms_at names entity) h.place t h.is, built.numbered.counted entity)) in
      (built.numbered.named entity h.place row.0 t row.1 h.is).entity ∙ ap (λ n. Some n) (built.numbered.live entity h.place row.0 row.1).1

  abbrev Given : TypeTerm × TypeTerm → Type 0
  Given sides = Derives S P (Typ sides.0) (Typ sides.1)

  from_presentation : (sides : TypeTerm × TypeTerm) → IsIn sides (flat_map equation_sides P.equations) → Given sides
  from_presentation sides h =
      let source = from_flat_map equation_sides P.equations sides h in
      go source.source source.in_source.place source.in_source.is source.in_part.place source.in_part.is
    where
      go : (e : Equation) (n : ℕ) → slice_get P.equations n ≡ Some e → (k : ℕ) → slice_get (equation_sides e) k ≡ Some sides → Given sides
      go (EntEquation t u) n is k at = cc
      go (TypEquation t u) n is zero at = let same : (t, u) ≡ sides = cc in subst Given same (given n, (TypEquation t u, is, refl, refl, tt, tt))
      go (TypEquation t u) n is (suc k) at = cc

  from_observations : (sides : TypeTerm × TypeTerm) → IsIn sides (flat_map (entity_sides S P names) (below (length S.entities))) → Given sides
  from_observations sides h =
      let entity = from_flat_map (entity_sides S P names) (below (length S.entities)) sides h in
      let name = from_flat_map (row_sides S P names entity.source) (names_of S P names entity.source) sides entity.in_part in
      let equation = from_map (λ (e : ObsEq). (substituted name.source e.left, substituted name.source e.right)) (filter (λ (e : ObsEq). e.entity == entity.source) S.obs_eqs) sides name.in_part in
      let known = from_filter (λ (e : ObsEq). e.entity == entity.source) equation.source S.obs_eqs equation.in_source in
      let ground : entity_of S G name.source ≡ Some equation.source.entity =
      name_entity entity.source name.source name.in_source ∙ ap (λ n. Some n) (sym (eqb-true equation.source.entity entity.source known.1)) in
      subst Given equation.image (observation known.0.place name.source, (equation.source, known.0.is, ground, tt, refl, refl, tt, tt))

  -- an equation that is given is derivable
  pub given_derives : (i : ℕ) (t u : TypeTerm) → slice_get (given_sides S P names) i ≡ Some (t, u) → Derives S P (Typ t) (Typ u)
  given_derives i t u found = in_append (Given (t, u)) (flat_map equation_sides P.equations) (flat_map (entity_sides S P names) (below (length S.entities))) i (t, u) found
      (from_presentation (t, u)) (from_observations (t, u))

  -- the node of a constant has a term that is derivably equal to it
  pub constant_derives : (p : ℕ) (c : Con) (t : TypeTerm) → slice_get T p ≡ Some t → slice_get nodes p ≡ Some (node.Const c) → Derives S P (Typ t) (Typ (term.Const c))
  constant_derives p c t h h' = elim (built.sides.taken p t c h h') [
    | inl is ↦
        let ground = node_ground p t h in
        subst (λ (v : TypeTerm). Derives S P (Typ t) (Typ v)) is (Derives-reflexive S P (Typ t) (typed_ground S P schema presentation t ground.0 ground.1))
    | inr for ↦
        let equal : Derives S P (Typ for.left) (Typ (term.Const c)) = given_derives for.number for.left (term.Const c) for.is in
        let sorts = derived_typed S P schema presentation for.left (term.Const c) equal in
        Derives-transitive S P (Typ t) (Typ for.left) (Typ (term.Const c))
        (Derives-symmetric S P (Typ for.left) (Typ t) (stands_derives for.left t p sorts.0.0 sorts.0.1 for.stands h)) equal
  ]

  -- the given equation of an equation between nodes
  pub record IsGivenAt (a b : ℕ) : Type 0 where
    pub number : ℕ
    pub left : TypeTerm
    pub right : TypeTerm
    pub is : slice_get (given_sides S P names) number ≡ Some (left, right)
    pub stands : Stands left a
    pub stands' : Stands right b
    pub within : a < length nodes
    pub within' : b < length nodes

  pub given_at : (i a b : ℕ) → slice_get equations i ≡ Some (a, b) → IsGivenAt a b
  given_at i a b h =
      let g = built.sides.given i a b h in
      record {
        number = g.number;
        left = g.sides_are.0;
        right = g.sides_are.1;
        is = g.is;
        stands = g.stand.left;
        stands' = g.stand.right;
        within = omega (arith, g.stand.left_within, built.nodes_are.count);
        within' = omega (arith, g.stand.right_within, built.nodes_are.count);
      }

  pub congruent_within : {a b : ℕ} → Congruent nodes equations a b → (a < length nodes) × (b < length nodes)
  congruent_within (congruent.reflexive a l) = (l, l)
  congruent_within (congruent.symmetric c) = let o = congruent_within c in (o.1, o.0)
  congruent_within (congruent.transitive c d) = ((congruent_within c).0, (congruent_within d).1)
  congruent_within (congruent.given {a} {b} i e) = let g = given_at i a b e in (g.within, g.within')
  congruent_within (congruent.constants {a} {b} c e f) = (slice_get_within nodes a (node.Const c) e, slice_get_within nodes b (node.Const c) f)
  congruent_within (congruent.functions {a} {b} {xs} {ys} f d e h) = (slice_get_within nodes a (node.Fun f xs) d, slice_get_within nodes b (node.Fun f ys) e)

  from_given : (i a b : ℕ) (t u : TypeTerm) → slice_get equations i ≡ Some (a, b) → slice_get T a ≡ Some t → slice_get T b ≡ Some u → Derives S P (Typ t) (Typ u)
  from_given i a b t u h left right =
      let g = given_at i a b h in
      let equal : Derives S P (Typ g.left) (Typ g.right) = given_derives g.number g.left g.right g.is in
      let sorts = derived_typed S P schema presentation g.left g.right equal in
      Derives-transitive S P (Typ t) (Typ g.left) (Typ u)
      (Derives-symmetric S P (Typ g.left) (Typ t) (stands_derives g.left t a sorts.0.0 sorts.0.1 g.stands left))
      (Derives-transitive S P (Typ g.left) (Typ g.right) (Typ u) equal (stands_derives g.right u b sorts.1.0 sorts.1.1 g.stands' right))

  from_constants : (a b : ℕ) (c : Con) (t u : TypeTerm) → slice_get nodes a ≡ Some (node.Const c) → slice_get nodes b ≡ Some (node.Const c) → slice_get T a ≡ Some t → slice_get T b ≡ Some u → Derives S P (Typ t) (Typ u)
  from_constants a b c t u e f left right =
      Derives-transitive S P (Typ t) (Typ (term.Const c)) (Typ u) (constant_derives a c t left e) (Derives-symmetric S P (Typ u) (Typ (term.Const c)) (constant_derives b c u right f))

  -- applications of one function to arguments that are equal
  from_functions : (a b f : ℕ) (xs ys : List ℕ) (t u : TypeTerm) → slice_get nodes a ≡ Some (node.Fun f xs) → slice_get nodes b ≡ Some (node.Fun f ys)
      → slice_get T a ≡ Some t → slice_get T b ≡ Some u
      → ((ts us : List TypeTerm) → EachTyped S G ts → EachTyped S G us → EachStands m rows places T ts xs → EachStands m rows places T us ys → EachDerives S P ts us)
      → Derives S P (Typ t) (Typ u)
  from_functions a b f xs ys t u d e left right each =
      let l = function_at a f xs t left d in
      let r = function_at b f ys u right e in
      let ground = node_ground a t left in
      let ground' = node_ground b u right in
      let sort : type_of S G (term.Fun f l.0) ≡ Some ground.0 = ap (type_of S G) (sym l.1) ∙ ground.1 in
      let sort' : type_of S G (term.Fun f r.0) ≡ Some ground'.0 = ap (type_of S G) (sym r.1) ∙ ground'.1 in
      let equal : Derives S P (Typ (term.Fun f l.0)) (Typ (term.Fun f r.0)) =
      Derives-function S P f l.0 r.0 (each l.0 r.0 (args_typed S G f l.0 ground.0 sort) (args_typed S G f r.0 ground'.0 sort') l.2 r.2) (typed_ground S P schema presentation (term.Fun f l.0) ground.0 sort) in
      subst (λ (v : TypeTerm). Derives S P (Typ v) (Typ u)) (sym l.1) (subst (λ (v : TypeTerm). Derives S P (Typ (term.Fun f l.0)) (Typ v)) (sym r.1) equal)

  mutual
    -- congruent nodes have derivably equal terms
    pub congruent_derives : {a b : ℕ} → Congruent nodes equations a b → (t u : TypeTerm) → slice_get T a ≡ Some t → slice_get T b ≡ Some u → Derives S P (Typ t) (Typ u)
    congruent_derives (congruent.reflexive a l) t u left right =
        let ground = node_ground a t left in
        subst (λ (v : TypeTerm). Derives S P (Typ t) (Typ v)) (one_at T a t u left right) (Derives-reflexive S P (Typ t) (typed_ground S P schema presentation t ground.0 ground.1))
    congruent_derives (congruent.symmetric c) t u left right = Derives-symmetric S P (Typ u) (Typ t) (congruent_derives c u t right left)
    congruent_derives (congruent.transitive {a} {b} {c} h h') t u left right =
        let middle = term_at b (congruent_within h).1 in
        Derives-transitive S P (Typ t) (Typ middle.0) (Typ u) (congruent_derives h t middle.0 left middle.1) (congruent_derives h' middle.0 u middle.1 right)
    congruent_derives (congruent.given {a} {b} i e) t u left right = from_given i a b t u e left right
    congruent_derives (congruent.constants {a} {b} c e f) t u left right = from_constants a b c t u e f left right
    congruent_derives (congruent.functions {a} {b} {xs} {ys} f d e h) t u left right = from_functions a b f xs ys t u d e left right (all_derive h)

    -- terms for which congruent nodes stand are derivably equal, place by place
    all_derive : {xs ys : List ℕ} → AllCongruent nodes equations xs ys → (ts us : List TypeTerm) → EachTyped S G ts → EachTyped S G us
        → EachStands m rows places T ts xs → EachStands m rows places T us ys → EachDerives S P ts us
    all_derive congruent.none [] [] typed typed' each each' = tt
    all_derive congruent.none [] (u ∷ us) typed typed' each each' = absurd each'
    all_derive congruent.none (t ∷ ts) us typed typed' each each' = absurd each
    all_derive (congruent.more {x} {y} h hs) [] us typed typed' each each' = absurd each
    all_derive (congruent.more {x} {y} h hs) (t ∷ ts) [] typed typed' each each' = absurd each'
    all_derive (congruent.more {x} {y} h hs) (t ∷ ts) (u ∷ us) typed typed' each each' =
        let l = stands_at t x typed.0.0 typed.0.1 each.0 in
        let r = stands_at u y typed'.0.0 typed'.0.1 each'.0 in (
          Derives-transitive S P (Typ t) (Typ l.0) (Typ u) l.2
              (Derives-transitive S P (Typ l.0) (Typ r.0) (Typ u) (congruent_derives h l.0 r.0 l.1 r.1) (Derives-symmetric S P (Typ u) (Typ r.0) r.2)),
          all_derive hs ts us typed.1 typed'.1 each.1 each'.1,
        )
