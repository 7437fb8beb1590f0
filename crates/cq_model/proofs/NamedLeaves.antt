-- What the making of the leaves asks for, and what it gives.
use Rattle.std.proofs.Common.{ℕ, suc, List, [], ◌∷◌, ◌++◌, Some, ◌≡◌, ◌<◌, ◌+◌, ◌*◌, ◌^◌, map, length, refl, sym, ap, subst, ◌∙◌, arith}
use Rattle.std.specs.Prelude.{slice_get, slice_index, slice_index_or, All}
use Rattle.std.specs.List.{filter_map}
use Rattle.std.proofs.lemmas.List.{length-map}
use Rattle.std.proofs.lemmas.List.FromFn.{get_or-map-range_with_len, length-map-range_with_len}
use Rattle.std.proofs.lemmas.Option.{slice_get_within}
use Rattle.cq_tables.specs.Content.{Content, made_of}
use Rattle.cq_flat.specs.declared.node.Node.{Node}
use Rattle.cq_flat.specs.declared.node.Node.TheVariants as node
use Rattle.cq_theory.specs.declared.presentation.Presentation.{Presentation}
use Rattle.cq_theory.specs.declared.presentation.Sort.TheVariants.{Plain, Entity}
use Rattle.cq_theory.specs.declared.schema.Edge.{Edge}
use Rattle.cq_theory.specs.SchemaData.{SchemaData as Schema}
use Rattle.cq_theory.specs.Schema.{IsSchema}
use Rattle.cq_theory.specs.declared.term.EntTerm.{EntTerm}
use Rattle.cq_theory.specs.declared.term.TypeTerm.{TypeTerm}
use Rattle.cq_theory.specs.declared.term.TypeTerm.TheVariants.{Gen}
use Rattle.cq_theory.specs.Canonical.{below}
use Rattle.cq_theory.specs.Sorts.{Generators}
use Rattle.cq_names.specs.declared.numbers.NumberedRows.{NumberedRows}
use Rattle.cq_model.specs.declared.places.Places.{Places}
use Rattle.cq_model.specs.BuiltParts.{AreLeaves}
use Rattle.cq_names.specs.NamedRows.{AreNamedRows}
use Rattle.cq_names.specs.Closed.{AreClosed}
use Rattle.cq_model.specs.Equating.{IsPresented}
use Rattle.cq_model.specs.LeafPlaces.{sources, targets, AreFirsts, AddsLeaves, AddsGenerators, plain_type, places_from}
use Rattle.cq_model.specs.NodeListData.{NodeListData}
use Rattle.cq_model.specs.NodeTerms.{leaf_terms, ArePlaces, AreSidesOf}
use Rattle.cq_theory.specs.Groups.{positions}
use Rattle.cq_names.specs.Ranks.{rank}
use Rattle.cq_model.specs.Numbering.{types, starts}
use Rattle.cq_model.specs.Pushing.{HavePlaces, AreTermsOf}
use Rattle.cq_names.specs.RowNumbers.{row_entities, names_by}
use Rattle.cq_instance.proofs.TypedTerms.{entity_at_some}
use Rattle.cq_instance.proofs.TypedTerms.{type_at_some}
use Rattle.cq_names.proofs.RowMembers.{members_within}
use Rattle.cq_model.proofs.Counted.{starts_fit}
use Rattle.cq_instance.proofs.Lists.{All_at, All_from, get-map_from}
use Rattle.cq_names.proofs.NumberedNames.{walk_live, walk_once}
use Rattle.cq_model.proofs.PlacedLeaves.{leaf_places, node_is_leaf, leaves_listed, have_places}
use Rattle.cq_names.proofs.RowMembers.{members_in}

-- the attributes of each entity
abbrev pub attributes_by : Schema → List (List ℕ)
attributes_by S = map (positions (sources S)) (below (length S.entities))

-- the places of each entity's rows
abbrev pub groups_by : Schema → Content → List ℕ → List (List ℕ)
groups_by S m rows = map (positions (row_entities m rows)) (below (length S.entities))

abbrev pub leaf_types : Schema → Content → List ℕ → List ℕ
leaf_types S m rows = types (groups_by S m rows) (attributes_by S) (targets S) (length S.entities)

abbrev pub leaf_starts : Schema → Content → List ℕ → List ℕ
leaf_starts S m rows = starts (groups_by S m rows) (attributes_by S) (targets S) (length S.entities)

-- each attribute is one of an entity
pub sources_in : (S : Schema) → IsSchema S → All (λ e. e < length S.entities) (sources S)
sources_in S schema = All_from (λ e. e < length S.entities) (sources S) (λ a e h.
    let edge = get-map_from (λ (edge : Edge). edge.from) S.attributes a e h in
    subst (λ d. d < length S.entities) edge.2 (All_at (λ (edge : Edge). (edge.from < length S.entities) × (edge.to < length S.typeside.types)) S.attributes a edge.0 schema.attributes edge.1).0)

pub sources_few : (S : Schema) → IsSchema S → length (sources S) < 2 ^ 32
sources_few S schema = omega (arith, length-map S.attributes (λ (edge : Edge). edge.from), schema.attribute_numbers)

pub attributes_within : (S : Schema) → All (λ places. All (λ a. a < length (targets S)) places) (attributes_by S)
attributes_within S = members_within (sources S) (length S.entities) (length (targets S)) (length-map S.attributes (λ (edge : Edge). edge.from) ∙ sym (length-map S.attributes (λ (edge : Edge). edge.to)))

pub attributes_count : (S : Schema) → length (attributes_by S) ≡ length S.entities
attributes_count S = length-map-range_with_len (positions (sources S)) 0 (length S.entities)

pub groups_count : (S : Schema) (m : Content) (rows : List ℕ) → length (groups_by S m rows) ≡ length S.entities
groups_count S m rows = length-map-range_with_len (positions (row_entities m rows)) 0 (length S.entities)

pub starts_count : (S : Schema) (m : Content) (rows : List ℕ) → length (leaf_starts S m rows) ≡ length S.entities
starts_count S m rows = length-map-range_with_len (λ e. length (types (groups_by S m rows) (attributes_by S) (targets S) e)) 0 (length S.entities)

places_count : (b : ℕ) (gs : Generators) → length (places_from b gs) ≡ length gs
places_count b [] = refl
places_count b ((name, Plain type) ∷ gs) = ap suc (places_count (b + 1) gs)
places_count b ((name, Entity entity) ∷ gs) = ap suc (places_count b gs)

module _ (S : Schema) (P : Presentation) (m : Content) (entries : List ℕ) (schema : IsSchema S) (closed : AreClosed S P m entries)
    (numbered : NumberedRows) (named : AreNamedRows S P m entries numbered) where
  pub rows_made : All (λ row. row < made_of m) numbered.rows
  rows_made = All_from (λ row. row < made_of m) numbered.rows (λ i r h. closed.whole.made r (walk_live S P m entries closed numbered.rows named.names named.walk i r h))

  pub rows_once : (i j r : ℕ) → slice_get numbered.rows i ≡ Some r → slice_get numbered.rows j ≡ Some r → i ≡ j
  rows_once = walk_once S P m entries closed numbered.rows named.names named.walk

  pub members_entities : All (λ e. e < length S.entities) (row_entities m numbered.rows)
  members_entities = members_in m numbered.rows (length S.entities) closed.whole (sym closed.entities) rows_made

  group_at : (e : ℕ) → e < length S.entities → slice_index_or (groups_by S m numbered.rows) e [] ≡ positions (row_entities m numbered.rows) e
  group_at e within = get_or-map-range_with_len (positions (row_entities m numbered.rows)) 0 (length S.entities) e e [] within (omega arith)

  pub leaves_fit : length (leaf_types S m numbered.rows) < 2 ^ 63 → (e : ℕ) → e < length S.entities
      → slice_index (leaf_starts S m numbered.rows) e + length (positions (row_entities m numbered.rows) e) * length (slice_index_or (attributes_by S) e []) < 2 ^ 63
  leaves_fit few e within =
      subst (λ (l : List ℕ). slice_index (leaf_starts S m numbered.rows) e + length l * length (slice_index_or (attributes_by S) e []) < 2 ^ 63) (group_at e within)
      (starts_fit (row_entities m numbered.rows) (sources S) (targets S) (length S.entities) (2 ^ 63) few e within)

  -- the leaves, from what each step gives
  module _ (places : Places) (begun cells list : NodeListData)
      (firsts : AreFirsts (row_entities m numbered.rows) numbered.rows (attributes_by S) (leaf_starts S m numbered.rows) places.firsts)
      (firsts_count : length places.firsts ≡ made_of m)
      (ranks : places.ranks ≡ map (λ a. rank (sources S) (slice_index (sources S) a) a) (below (length (sources S))))
      (empty : begun ≡ record { nodes = []; types = []; equations = [] })
      (leaves : AddsLeaves begun cells (leaf_types S m numbered.rows))
      (generators : AddsGenerators cells list P.generators places.generators) where
    cell_nodes : cells.nodes ≡ map (λ _. node.Leaf) (leaf_types S m numbered.rows)
    cell_nodes = leaves.nodes ∙ ap (λ (l : NodeListData). l.nodes ++ map (λ (_ : ℕ). node.Leaf) (leaf_types S m numbered.rows)) empty

    cell_types : cells.types ≡ leaf_types S m numbered.rows
    cell_types = leaves.types_are ∙ ap (λ (l : NodeListData). l.types ++ leaf_types S m numbered.rows) empty

    no_equations : list.equations ≡ []
    no_equations = generators.added.equations ∙ leaves.equations ∙ ap (λ (l : NodeListData). l.equations) empty

    generators_are : places.generators ≡ places_from (length (leaf_types S m numbered.rows)) P.generators
    generators_are = generators.places_are ∙ ap (λ n. places_from n P.generators) (ap length cell_nodes ∙ length-map (leaf_types S m numbered.rows) (λ (_ : ℕ). node.Leaf))

    nodes_are : list.nodes ≡ map (λ _. node.Leaf) (leaf_types S m numbered.rows) ++ map (λ _. node.Leaf) (filter_map plain_type P.generators)
    nodes_are = generators.added.nodes ∙ ap (λ l. l ++ map (λ (_ : ℕ). node.Leaf) (filter_map plain_type P.generators)) cell_nodes

    types_of : list.types ≡ leaf_types S m numbered.rows ++ filter_map plain_type P.generators
    types_of = generators.added.types_are ∙ ap (λ l. l ++ filter_map plain_type P.generators) cell_types

    abbrev T : List TypeTerm
    T = leaf_terms S P (names_by (row_entities m numbered.rows) (length S.entities) named.names)

    placed : ArePlaces m entries places T S P
    placed = leaf_places S P m entries schema closed numbered.rows named.names named.walk places list firsts firsts_count ranks generators_are nodes_are types_of

    listed : AreTermsOf S m places P entries T list
    listed = leaves_listed S P m entries schema closed numbered.rows named.names named.walk places list firsts firsts_count ranks generators_are nodes_are types_of

    have : HavePlaces S m places (length list.nodes)
    have = have_places S P m entries schema closed numbered.rows named.names named.walk places list firsts firsts_count ranks generators_are nodes_are types_of (length list.nodes) (omega arith)

    presented : IsPresented S m places P entries (length list.nodes)
    presented = record {
      known = λ g e h. let at = entity_at_some (slice_get P.generators g) e h in omega (arith, slice_get_within P.generators g at.0 at.1, closed.entries.count);
      live = λ g e h. (closed.entries.entity g e h).0;
      entity = λ g e h. (closed.entries.entity g e h).1;
      placed = λ g type h. let at = type_at_some (slice_get P.generators g) type h in
          omega (arith, slice_get_within P.generators g at.0 at.1, places_count (length (leaf_types S m numbered.rows)) P.generators, ap length generators_are);
      leaf = λ g type h. omega (arith, slice_get_within T (slice_index places.generators g) (Gen g) (placed.generator g type h), listed.nodes.count);
    }

    no_sides : (terms : List TypeTerm) (nodes : List Node) (equations : List (ℕ × ℕ)) → equations ≡ [] → ((p : ℕ) (content : Node) → slice_get nodes p ≡ Some content → content ≡ node.Leaf)
        → AreSidesOf m entries places terms [] nodes equations
    no_sides terms nodes equations none leaves = record {
      met = λ i t u h. let no : slice_get [] i ≡ Some (t, u) = h in cc;
      given = λ i a b h. let no : slice_get [] i ≡ Some (a, b) = ap (λ (l : List (ℕ × ℕ)). slice_get l i) (sym none) ∙ h in cc;
      taken = λ p t c h node_at. let no : node.Const c ≡ node.Leaf = leaves p (node.Const c) node_at in cc;
    }

    all_leaves : (p : ℕ) (content : Node) → slice_get list.nodes p ≡ Some content → content ≡ node.Leaf
    all_leaves = node_is_leaf S P m entries schema closed numbered.rows named.names named.walk places list firsts firsts_count ranks generators_are nodes_are types_of

    pub leaves_made : AreLeaves S P m entries numbered.names places list
    leaves_made = subst (λ (names : List (List EntTerm)). AreLeaves S P m entries names places list) (sym named.numbers.names_are) (record {
      have = have;
      presented = presented;
      places_are = placed;
      listed = record { listed = listed; equations = no_sides T list.nodes list.equations no_equations all_leaves };
    })
