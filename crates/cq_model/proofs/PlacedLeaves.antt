-- The leaves stand where the places say.
use Rattle.std.proofs.Common.{ℕ, zero, suc, true, cond, List, [], ◌∷◌, ◌++◌, Option, Some, None, ◌≡◌, ◌<◌, ◌≤◌, ◌+◌, ◌*◌, ◌⊎◌, inl, inr, map, length, slice_index, slice_index_or, sym, ap, subst, ◌∙◌, arith, length-append, eq-eqb}
use Rattle.std.specs.Prelude.{slice_get, option_and_then}
use Rattle.std.specs.List.{filter_map}
use Rattle.std.proofs.lemmas.List.{length-map}
use Rattle.std.proofs.lemmas.List.FromFn.{get_or-map-range_with_len, length-map-range_with_len}
use Rattle.std.proofs.lemmas.Option.{slice_get_within, slice_get-get_or, get_or_from_slice_get, same_Some}
use Rattle.cq_tables.specs.Content.{Content, live_of, made_of}
use Rattle.cq_tables.specs.Content.{entity_of as row_entity}
use Rattle.cq_rows.specs.Rows.{row_of_term}
use Rattle.cq_flat.specs.declared.node.Node.{Node}
use Rattle.cq_flat.specs.declared.node.Node.TheVariants as node
use Rattle.cq_theory.specs.declared.presentation.Presentation.{Presentation}
use Rattle.cq_theory.specs.declared.schema.Edge.{Edge}
use Rattle.cq_theory.specs.SchemaData.{SchemaData as Schema}
use Rattle.cq_theory.specs.Schema.{IsSchema}
use Rattle.cq_theory.specs.declared.term.EntTerm.{EntTerm}
use Rattle.cq_theory.specs.declared.term.TypeTerm.{TypeTerm}
use Rattle.cq_theory.specs.declared.term.TypeTerm.TheVariants.{Gen, Att, rolls-Gen}
use Rattle.cq_theory.specs.declared.term.TypeTerm.TheOpen as layer
use Rattle.cq_theory.specs.declared.term.TypeTerm.TheViews.{out-TypeTerm, out-roll-TypeTerm}
use Rattle.cq_theory.specs.Canonical.{below}
use Rattle.cq_theory.specs.Sorts.{type_of, type_step, entity_of, followed}
use Rattle.cq_theory.proofs.TypeTerms.{fold-Gen, fold-Att}
use Rattle.cq_model.specs.declared.places.Places.{Places}
use Rattle.cq_names.specs.Closed.{AreClosed}
use Rattle.cq_theory.specs.Groups.{positions}
use Rattle.cq_names.specs.Ranks.{rank}
use Rattle.cq_names.specs.Ranks.{members as size_of}
use Rattle.cq_model.specs.Numbering.{Cell, cells, label, types, starts}
use Rattle.cq_names.specs.RowNumbers.{name_in, row_entities, names_by}
use Rattle.cq_model.specs.LeafPlaces.{sources, targets, AreFirsts, plain_type, places_from}
use Rattle.cq_names.specs.Walking.{IsWalkOf}
use Rattle.cq_model.specs.NodeListData.{NodeListData}
use Rattle.cq_model.specs.NodeTerms.{leaf_terms, cell_place, StandsAt, StandsFor, IsLeafOrConstant, IsNodeAt, ArePlaces}
use Rattle.cq_model.specs.Pushing.{HavePlaces, AreTermsOf}
use Rattle.cq_instance.proofs.Lists.{get-map, get-append, get-append_front, get-map_from}
use Rattle.cq_model.proofs.Variants.{out-Att}
use Rattle.cq_model.proofs.Numbering.{label_of, label_at, from_cells, IsCell}
use Rattle.cq_model.proofs.Counted.{types_are, first_is, attributes_at}
use Rattle.cq_names.proofs.NumberedNames.{walk_leads, walk_entity, walk_live, walk_lengths, listed}
use Rattle.cq_model.proofs.LeafCells.{all_cells, term_of, cell_terms, cell_found}
use Rattle.cq_model.proofs.LeafGenerators.{terms_from, IsGeneratorAt, generator_at, generator_place, same_count}

-- what stands in an append stands at its place in one of the two lists
pub split_at : {X : Type 0} (xs ys : List X) (n : ℕ) (x : X) → slice_get (xs ++ ys) n ≡ Some x
    → (slice_get xs n ≡ Some x) ⊎ ((k : ℕ) × (n ≡ length xs + k) × (slice_get ys k ≡ Some x))
split_at [] ys n x h = inr (n, omega arith, h)
split_at (z ∷ zs) ys zero x h = inl h
split_at (z ∷ zs) ys (suc n) x h = elim (split_at zs ys n x h) [ inl a ↦ inl a | inr b ↦ inr (b.0, omega (arith, b.1), b.2) ]

same_leaf : {X : Type 0} (xs : List X) (p : ℕ) (content : Node) → slice_get (map (λ _. node.Leaf) xs) p ≡ Some content → content ≡ node.Leaf
same_leaf xs p content h = let at = get-map_from (λ (_ : _). node.Leaf) xs p content h in sym at.2

pub out-Gen : (n : ℕ) → out-TypeTerm (Gen n) ≡ layer.Gen n
out-Gen n = ap out-TypeTerm (sym (rolls-Gen n)) ∙ out-roll-TypeTerm (layer.Gen n)

module _ (S : Schema) (P : Presentation) (m : Content) (entries : List ℕ) (schema : IsSchema S) (closed : AreClosed S P m entries)
    (rows : List ℕ) (names : List EntTerm) (walk : IsWalkOf S P m entries rows names) (places : Places) (list : NodeListData) where
  abbrev members : List ℕ
  members = row_entities m rows

  abbrev groups : List (List ℕ)
  groups = map (positions (row_entities m rows)) (below (length S.entities))

  abbrev attributes : List (List ℕ)
  attributes = map (positions (sources S)) (below (length S.entities))

  abbrev leaf_types : List ℕ
  leaf_types = types groups attributes (targets S) (length S.entities)

  abbrev named : List (List EntTerm)
  named = names_by (row_entities m rows) (length S.entities) names

  abbrev C : List Cell
  C = all_cells S P (row_entities m rows) names

  abbrev T : List TypeTerm
  T = leaf_terms S P (names_by (row_entities m rows) (length S.entities) names)

  module _ (firsts : AreFirsts (row_entities m rows) rows attributes (starts groups attributes (targets S) (length S.entities)) places.firsts)
      (firsts_count : length places.firsts ≡ made_of m)
      (ranks : places.ranks ≡ map (λ a. rank (sources S) (slice_index (sources S) a) a) (below (length (sources S))))
      (generators : places.generators ≡ places_from (length leaf_types) P.generators)
      (nodes_are : list.nodes ≡ map (λ _. node.Leaf) leaf_types ++ map (λ _. node.Leaf) (filter_map plain_type P.generators))
      (types_of : list.types ≡ leaf_types ++ filter_map plain_type P.generators) where
    leaf_types_are : leaf_types ≡ map (λ (c : Cell). slice_index (targets S) c.attribute) C
    leaf_types_are = types_are members (sources S) (targets S) (length S.entities) (length S.entities) (omega arith)

    terms_are : T ≡ map (term_of S P members names) C ++ terms_from S P named 0 P.generators
    terms_are = ap (λ (l : List TypeTerm). l ++ terms_from S P named 0 P.generators) (cell_terms S P members names)

    cell_count : length leaf_types ≡ length (map (term_of S P members names) C)
    cell_count = ap length leaf_types_are ∙ length-map C (λ (c : Cell). slice_index (targets S) c.attribute) ∙ sym (length-map C (term_of S P members names))

    member_at : (p r : ℕ) → slice_get rows p ≡ Some r → slice_get members p ≡ Some (row_entity m r)
    member_at p r h = get-map (row_entity m) rows p r h

    entity_within : (r : ℕ) → live_of m r ≡ true → row_entity m r < length S.entities
    entity_within r live = omega (arith, closed.entities, closed.whole.kind r (closed.whole.made r live))

    -- where a cell stands
    place_is : (p r a : ℕ) → slice_get rows p ≡ Some r → live_of m r ≡ true → slice_get (sources S) a ≡ Some (row_entity m r)
        → cell_place places r a ≡ label members (sources S) (row_entity m r) (rank members (row_entity m r) p) a
    place_is p r a row live source =
        let e : ℕ = row_entity m r in
        let within : e < length S.entities = entity_within r live in
        let first : slice_index places.firsts r ≡ slice_index (starts groups attributes (targets S) (length S.entities)) e + rank members e p * length (slice_index_or attributes e []) = firsts p r e row (member_at p r row) in
        let start : slice_index (starts groups attributes (targets S) (length S.entities)) e ≡ length (cells members (sources S) e) = first_is members (sources S) (targets S) (length S.entities) e within in
        let width : length (slice_index_or attributes e []) ≡ size_of (sources S) e = ap length (attributes_at members (sources S) (targets S) (length S.entities) e within) in
        let source_is : slice_index (sources S) a ≡ e = get_or_from_slice_get (sources S) a e 0 source in
        let rank_is : slice_index places.ranks a ≡ rank (sources S) e a =
        ap (λ (l : List ℕ). slice_index l a) ranks ∙ get_or-map-range_with_len (λ b. rank (sources S) (slice_index (sources S) b) b) 0 (length (sources S)) a a 0 (slice_get_within (sources S) a e source) (omega arith)
        ∙ ap (λ x. rank (sources S) x a) source_is in
        λ i. (first ∙ (λ j. start j + rank members e p * width j)) i + rank_is i

    source_of : (a : ℕ) (edge : Edge) → slice_get S.attributes a ≡ Some edge → slice_get (sources S) a ≡ Some edge.from
    source_of a edge h = get-map (λ (e : Edge). e.from) S.attributes a edge h

    cell_term : (p r a : ℕ) → slice_get rows p ≡ Some r → live_of m r ≡ true → slice_get (sources S) a ≡ Some (row_entity m r) → slice_get T (cell_place places r a) ≡ Some (Att a (name_in names p))
    cell_term p r a row live source =
        let e : ℕ = row_entity m r in
        let found = cell_found S P members names e p a (entity_within r live) (member_at p r row) source in
        ap (slice_get T) (place_is p r a row live source) ∙ ap (λ (l : List TypeTerm). slice_get l (label members (sources S) e (rank members e p) a)) terms_are
        ∙ get-append_front (map (term_of S P members names) C) (terms_from S P named 0 P.generators) (label members (sources S) e (rank members e p) a) (Att a (name_in names p))
        (get-map (term_of S P members names) C (label members (sources S) e (rank members e p) a) (record { entity = e; generator = p; attribute = a }) found)

    name_at : (p r : ℕ) → slice_get rows p ≡ Some r → slice_get names p ≡ Some (name_in names p)
    name_at p r row = slice_get-get_or names p (record { generator = 0; path = [] }) (omega (arith, slice_get_within rows p r row, walk_lengths S P m entries closed rows names walk))

    -- the leaf of a cell
    pub record IsCellAt (p : ℕ) (t : TypeTerm) : Type 0 where
      pub attribute : ℕ
      pub name : EntTerm
      pub row : ℕ
      pub edge : Edge
      pub is : t ≡ Att attribute name
      pub leads : row_of_term m entries name ≡ Some row
      pub entity : entity_of S P.generators name ≡ Some (row_entity m row)
      pub found : slice_get S.attributes attribute ≡ Some edge
      pub from : edge.from ≡ row_entity m row
      pub place : p ≡ cell_place places row attribute
      pub kind : slice_get leaf_types p ≡ Some edge.to

    cell_at : (p : ℕ) (t : TypeTerm) → slice_get (map (term_of S P members names) C) p ≡ Some t → IsCellAt p t
    cell_at p t h =
        let c = get-map_from (term_of S P members names) C p t h in
        let cell : IsCell members (sources S) (length S.entities) c.0 = from_cells members (sources S) (length S.entities) c.0 (record { place = p; is = c.1 }) in
        let row = get-map_from (row_entity m) rows c.0.generator c.0.entity cell.generator in
        let edge = get-map_from (λ (e : Edge). e.from) S.attributes c.0.attribute c.0.entity cell.attribute in
        let named_by = name_at c.0.generator row.0 row.1 in
        let live : live_of m row.0 ≡ true = walk_live S P m entries closed rows names walk c.0.generator row.0 row.1 in
        let source : slice_get (sources S) c.0.attribute ≡ Some (row_entity m row.0) = cell.attribute ∙ ap (λ x. Some x) (sym row.2) in
        let label_is : label_of members (sources S) c.0 ≡ p = label_at members (sources S) (length S.entities) p c.0 c.1 in
        record {
          attribute = c.0.attribute;
          name = name_in names c.0.generator;
          row = row.0;
          edge = edge.0;
          is = sym c.2;
          leads = walk_leads S P m entries closed rows names walk c.0.generator row.0 (name_in names c.0.generator) row.1 named_by;
          entity = walk_entity S P m entries closed rows names walk c.0.generator row.0 (name_in names c.0.generator) row.1 named_by;
          found = edge.1;
          from = edge.2 ∙ sym row.2;
          place = sym (place_is c.0.generator row.0 c.0.attribute row.1 live source ∙ (λ i. label members (sources S) (row.2 i) (rank members (row.2 i) c.0.generator) c.0.attribute) ∙ label_is);
          kind = ap (λ (l : List ℕ). slice_get l p) leaf_types_are ∙ get-map (λ (d : Cell). slice_index (targets S) d.attribute) C p c.0 c.1
              ∙ ap (λ x. Some x) (get_or_from_slice_get (targets S) c.0.attribute edge.0.to 0 (get-map (λ (e : Edge). e.to) S.attributes c.0.attribute edge.0 edge.1));
        }

    -- a term over the places of T, at its place among the cells or among the generators
    at_place : (p : ℕ) (t : TypeTerm) → slice_get T p ≡ Some t → IsCellAt p t ⊎ ((k : ℕ) × (p ≡ length leaf_types + k) × IsGeneratorAt S P named 0 (length leaf_types) P.generators k t)
    at_place p t h = elim (split_at (map (term_of S P members names) C) (terms_from S P named 0 P.generators) p t (ap (λ (l : List TypeTerm). slice_get l p) (sym terms_are) ∙ h)) [
      | inl a ↦ inl (cell_at p t a)
      | inr b ↦ inr (b.0, b.1 ∙ ap (λ n. n + b.0) (sym cell_count), generator_at S P named 0 (length leaf_types) P.generators b.0 t b.2)
    ]

    stands_cell : (p : ℕ) (t : TypeTerm) → IsCellAt p t → StandsFor m entries places T t p
    stands_cell p t c =
        subst (λ (x : TypeTerm). StandsFor m entries places T x p) (sym c.is)
        (subst (λ (x : layer.TypeTerm-F TypeTerm). StandsAt m entries places T x p) (sym (out-Att c.attribute c.name)) (c.row, c.leads, c.place))

    generator_index : (n k : ℕ) → slice_index (places_from (length leaf_types) P.generators) n ≡ length leaf_types + k → slice_index places.generators n ≡ length leaf_types + k
    generator_index n k h = ap (λ (l : List ℕ). slice_index l n) generators ∙ h

    plain_number : (n : ℕ) → 0 + n ≡ n
    plain_number n = omega arith

    stands_generator : (p k : ℕ) (t : TypeTerm) → p ≡ length leaf_types + k → IsGeneratorAt S P named 0 (length leaf_types) P.generators k t → StandsFor m entries places T t p
    stands_generator p k t at g =
        subst (λ (x : TypeTerm). StandsFor m entries places T x p) (sym (g.is ∙ ap Gen (plain_number g.number)))
        (subst (λ (x : layer.TypeTerm-F TypeTerm). StandsAt m entries places T x p) (sym (out-Gen g.number)) (at ∙ sym (generator_index g.number k g.place)))

    pub leaf_places : ArePlaces m entries places T S P
    leaf_places = record {
      cell = λ r a edge live found from.
          let p = listed S P m entries closed rows names walk r live in
          let source : slice_get (sources S) a ≡ Some (row_entity m r) = source_of a edge found ∙ ap (λ x. Some x) from in
          (name_in names p.0, cell_term p.0 r a p.1 live source, walk_leads S P m entries closed rows names walk p.0 r (name_in names p.0) p.1 (name_at p.0 r p.1));
      generator = λ n type h.
          let g = generator_place S P named 0 (length leaf_types) n type P.generators h in
          ap (slice_get T) (generator_index n g.0 g.1 ∙ ap (λ x. x + g.0) cell_count) ∙ ap (λ (l : List TypeTerm). slice_get l (length (map (term_of S P members names) C) + g.0)) terms_are
          ∙ get-append (map (term_of S P members names) C) (terms_from S P named 0 P.generators) g.0 (Gen (0 + n)) g.2 ∙ ap (λ (x : ℕ). Some (Gen x)) (plain_number n);
      own = λ p t h. elim (at_place p t h) [ inl c ↦ stands_cell p t c | inr g ↦ stands_generator p g.0 t g.1 g.2 ];
    }

    pub node_is_leaf : (p : ℕ) (content : Node) → slice_get list.nodes p ≡ Some content → content ≡ node.Leaf
    node_is_leaf p content h = elim (split_at (map (λ (_ : ℕ). node.Leaf) leaf_types) (map (λ (_ : ℕ). node.Leaf) (filter_map plain_type P.generators)) p content (ap (λ (l : List Node). slice_get l p) (sym nodes_are) ∙ h)) [
      | inl a ↦ same_leaf leaf_types p content a
      | inr b ↦ same_leaf (filter_map plain_type P.generators) b.0 content b.2
    ]

    leaf_node : (p : ℕ) (t : TypeTerm) (content : Node) → slice_get T p ≡ Some t → content ≡ node.Leaf → IsNodeAt m entries places T p (out-TypeTerm t) content
    leaf_node p t content h leaf = elim (at_place p t h) [
      | inl c ↦ subst (λ (x : layer.TypeTerm-F TypeTerm). IsNodeAt m entries places T p x content) (sym (ap out-TypeTerm c.is ∙ out-Att c.attribute c.name)) (subst IsLeafOrConstant (sym leaf) tt)
      | inr g ↦ subst (λ (x : layer.TypeTerm-F TypeTerm). IsNodeAt m entries places T p x content) (sym (ap out-TypeTerm g.2.is ∙ out-Gen (0 + g.2.number))) (subst IsLeafOrConstant (sym leaf) tt)
    ]

    type_at_place : (p type : ℕ) (t : TypeTerm) → slice_get T p ≡ Some t → slice_get list.types p ≡ Some type → type_of S P.generators t ≡ Some type
    type_at_place p type t h kind = elim (at_place p t h) [
      | inl c ↦
          let there : slice_get list.types p ≡ Some c.edge.to = ap (λ (l : List ℕ). slice_get l p) types_of ∙ get-append_front leaf_types (filter_map plain_type P.generators) p c.edge.to c.kind in
          let same : c.edge.to ≡ type = same_Some c.edge.to type (sym there ∙ kind) in
          ap (type_of S P.generators) c.is ∙ fold-Att (Option ℕ) (type_step S P.generators) c.attribute c.name
          ∙ (λ i. option_and_then (followed (c.found i)) (c.entity i)) ∙ led c.edge (row_entity m c.row) c.from ∙ ap (λ x. Some x) same
      | inr g ↦
          let there : slice_get list.types p ≡ Some g.2.type =
          (λ i. slice_get (types_of i) (g.1 i)) ∙ get-append leaf_types (filter_map plain_type P.generators) g.0 g.2.type g.2.kind in
          let same : g.2.type ≡ type = same_Some g.2.type type (sym there ∙ kind) in
          ap (type_of S P.generators) (g.2.is ∙ ap Gen (plain_number g.2.number)) ∙ fold-Gen (Option ℕ) (type_step S P.generators) g.2.number ∙ g.2.typed ∙ ap (λ x. Some x) same
    ]
      where
        led : (edge : Edge) (e : ℕ) → edge.from ≡ e → option_and_then (followed (Some edge)) (Some e) ≡ Some edge.to
        led edge e h' = ap (λ b. cond b (Some edge.to) None) (eq-eqb edge.from e h')

    term_count : length T ≡ length leaf_types + length (filter_map plain_type P.generators)
    term_count = ap length terms_are ∙ length-append (map (term_of S P members names) C) (terms_from S P named 0 P.generators) ∙ (λ i. sym cell_count i + same_count S P named 0 P.generators i)

    node_count : length list.nodes ≡ length T
    node_count =
        ap length nodes_are ∙ length-append (map (λ (_ : ℕ). node.Leaf) leaf_types) (map (λ (_ : ℕ). node.Leaf) (filter_map plain_type P.generators))
        ∙ (λ i. length-map leaf_types (λ (_ : ℕ). node.Leaf) i + length-map (filter_map plain_type P.generators) (λ (_ : ℕ). node.Leaf) i) ∙ sym term_count

    pub leaves_listed : AreTermsOf S m places P entries T list
    leaves_listed = record {
      nodes = record { count = node_count; each = λ p t content h at. leaf_node p t content h (node_is_leaf p content at) };
      types = record { count = ap length types_of ∙ length-append leaf_types (filter_map plain_type P.generators) ∙ sym term_count; each = type_at_place };
    }

    pub have_places : (count : ℕ) → length list.nodes ≤ count → HavePlaces S m places count
    have_places count h = record {
      whole = closed.whole;
      keys = closed.keys;
      filled = closed.filled;
      firsts = firsts_count;
      ranks = ap length ranks ∙ length-map-range_with_len (λ a. rank (sources S) (slice_index (sources S) a) a) 0 (length (sources S)) ∙ length-map S.attributes (λ (e : Edge). e.from);
      cells = λ r a edge live found from.
          let cell = leaf_places.cell r a edge live found from in
          omega (arith, slice_get_within T (cell_place places r a) (Att a cell.0) cell.1, node_count, h);
    }
