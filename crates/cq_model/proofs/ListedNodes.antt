-- The nulls and the entries stand in the order of the nodes.
use Rattle.std.proofs.Common.{ℕ, suc, true, List, [], ◌∷◌, ◌++◌, Option, Some, None, ◌≡◌, ◌<◌, ◌+◌, ◌==◌, map, length, get_or, refl, sym, ap, subst, ◌∙◌, arith, eq-eqb}
use Rattle.std.specs.Prelude.{slice_get, slice_index, nat_eq, All}
use Rattle.std.specs.List.{flat_map, filter_map, enumerate_from, cons_option}
use Rattle.std.proofs.lemmas.List.{length-map}
use Rattle.std.proofs.lemmas.List.Elements.{filter_map-append}
use Rattle.std.proofs.lemmas.Option.{option_and_then_some, slice_get-get_or, slice_get_within}
use Rattle.cq_tables.specs.Content.{Content}
use Rattle.cq_flat.specs.declared.node.Node.{Node}
use Rattle.cq_flat.specs.declared.node.Node.TheVariants as node
use Rattle.cq_flat.specs.Values.{Closure, value_at, entry_of}
use Rattle.cq_model.specs.declared.places.Places.{Places}
use Rattle.cq_names.specs.Closed.{AreClosed}
use Rattle.cq_names.specs.LeastNames.{terms_at}
use Rattle.cq_model.specs.NodeTerms.{side_terms, given_sides, leaf_terms, IsConstantTerm, IsLeafOrConstant, EachStands, IsNodeAt}
use Rattle.cq_model.specs.Built.{IsClosureOf, IsBuilt, tables_of, assignment_of}
use Rattle.cq_theory.specs.declared.constant.Con.{Con}
use Rattle.cq_theory.specs.declared.presentation.Presentation.{Presentation}
use Rattle.cq_theory.specs.declared.presentation.Sort.{Sort}
use Rattle.cq_theory.specs.declared.presentation.Sort.TheVariants.{Plain}
use Rattle.cq_theory.specs.declared.schema.Edge.{Edge}
use Rattle.cq_theory.specs.SchemaData.{SchemaData as Schema}
use Rattle.cq_theory.specs.Schema.{IsSchema}
use Rattle.cq_theory.specs.Presentation.{IsPresentation}
use Rattle.cq_theory.specs.declared.term.EntTerm.{EntTerm}
use Rattle.cq_theory.specs.declared.term.TypeTerm.{TypeTerm}
use Rattle.cq_theory.specs.declared.term.TypeTerm.TheVariants as term
use Rattle.cq_theory.specs.declared.term.TypeTerm.TheOpen as layer
use Rattle.cq_theory.specs.declared.term.TypeTerm.TheViews.{out-TypeTerm}
use Rattle.cq_theory.specs.declared.term.Term.TheVariants.{Typ}
use Rattle.cq_theory.specs.declared.value.Value.{Value}
use Rattle.cq_theory.specs.declared.value.Value.TheVariants as value
use Rattle.cq_theory.specs.Sorts.{followed, entity_of, type_at, is_type, have_types, type_of, type_step}
use Rattle.cq_theory.specs.Derivation.{Derives}
use Rattle.cq_theory.specs.Canonical.{below, edges_from}
use Rattle.cq_theory.specs.Tables.{Tables, Assignment, count_of, cell_at, row_of, value_of, value_step, is_for, IsPlain}
use Rattle.cq_theory.specs.Listed.{firsts, null_label, node_entry, names_of, cell_nodes, generator_node}
use Rattle.cq_theory.specs.Listed.{nodes as listed_nodes}
use Rattle.cq_theory.proofs.TypeTerms.{fold-Const, fold-Att, fold-Fun, on_terms}
use Rattle.cq_theory.proofs.Sorted.{sort_of-derived}
use Rattle.cq_theory.proofs.Sound.{followed_some, both, is_type_some, applied_type_some}
use Rattle.cq_rows.proofs.Bridge.{map_some}
use Rattle.cq_instance.proofs.Lists.{IsIn, get-append, get-append_front, in_map, in_flat_map, in_append, in_range_from, get-map, All_at, All_from}
use Rattle.cq_model.proofs.Variants.{out-Att}
use Rattle.cq_instance.proofs.TypedTerms.{out-Gen, out-Const, out-Fun, type_at_some}
use Rattle.cq_model.proofs.BuiltEntries.{in_filter, in_filter_map}
use Rattle.cq_instance.proofs.Enumerated.{get-enumerate}
use Rattle.cq_model.specs.Thins.{Thins}
use Rattle.cq_model.proofs.Thinning.{from_Thins, filter_map-Thins, firsts-Thins}
use Rattle.cq_model.proofs.NodeList.{pair_subterms, nodes_are, IsTyped, sides_thinned}
use Rattle.cq_model.proofs.BuiltRows.{least_name, row_within}
use Rattle.cq_model.proofs.BuiltValues.{given_derives, stands_value_of, node_value, node_values}

-- Members of lists.

in_left : {X : Type 0} (x : X) (xs ys : List X) → IsIn x xs → IsIn x (xs ++ ys)
in_left x xs ys i = record { place = i.place; is = get-append_front xs ys i.place x i.is }

in_right : {X : Type 0} (x : X) (xs ys : List X) → IsIn x ys → IsIn x (xs ++ ys)
in_right x xs ys i = record { place = length xs + i.place; is = get-append xs ys i.place x i.is }

filter_map-map : {X Y Z : Type 0} (f : Y → Option Z) (g : X → Y) (xs : List X) → filter_map (λ x. f (g x)) xs ≡ filter_map f (map g xs)
filter_map-map f g [] = refl
filter_map-map f g (x ∷ xs) = ap (cons_option (f (g x))) (filter_map-map f g xs)

-- two lists that give the same at each place
filter_map_beside : {X Y Z : Type 0} (f : X → Option Z) (g : ℕ × Y → Option Z) (s : ℕ) (xs : List X) (ys : List Y) → length ys ≡ length xs
    → ((n : ℕ) (x : X) (y : Y) → slice_get xs n ≡ Some x → slice_get ys n ≡ Some y → f x ≡ g (s + n, y)) → filter_map f xs ≡ filter_map g (enumerate_from s ys)
filter_map_beside f g s [] [] same h = refl
filter_map_beside f g s [] (y ∷ ys) same h = absurd (omega (arith, same))
filter_map_beside f g s (x ∷ xs) [] same h = absurd (omega (arith, same))
filter_map_beside {Y = Y} f g s (x ∷ xs) (y ∷ ys) same h =
    let here : s + 0 ≡ s = omega arith in
    let first : f x ≡ g (s, y) = h 0 x y refl refl ∙ ap (λ n. g (n, y)) here in
    let rest : filter_map f xs ≡ filter_map g (enumerate_from (s + 1) ys) = filter_map_beside f g (s + 1) xs ys (omega (arith, same)) (λ n x' y' a b.
    let there : s + suc n ≡ s + 1 + n = omega arith in
    h (suc n) x' y' a b ∙ ap (λ k. g (k, y')) there) in
    λ i. cons_option (first i) (rest i)

-- an edge from an entity is among those from it
edge_among : (edges : List Edge) (a : ℕ) (edge : Edge) (e : ℕ) → slice_get edges a ≡ Some edge → edge.from ≡ e → IsIn (a, edge) (edges_from e edges)
edge_among edges a edge e found from =
    in_filter (λ (p : ℕ × Edge). p.1.from == e) (a, edge) (enumerate_from 0 edges) (record { place = a; is = get-enumerate edges a edge found }) (eq-eqb edge.from e from)

module _ (S : Schema) (P : Presentation) (m : Content) (rows : List ℕ) (schema : IsSchema S) (presentation : IsPresentation S P) (closed : AreClosed S P m rows)
    (order : List (List ℕ)) (names : List (List EntTerm)) (numbers : List ℕ) (places : Places) (nodes : List Node) (equations : List (ℕ × ℕ)) (types : List ℕ)
    (built : IsBuilt S P m rows order names numbers places nodes equations types)
    (flat : Closure) (closure : IsClosureOf nodes equations flat) (consistent : flat.clash ≡ None) where
  abbrev M : Tables
  M = tables_of S P m rows order numbers places types flat

  abbrev A : Assignment
  A = assignment_of S P m rows order numbers places flat.values

  abbrev T : List TypeTerm
  T = leaf_terms S P names ++ built.made

  abbrev leaves : List TypeTerm
  leaves = leaf_terms S P names

  values_are : map (value_of M A) T ≡ flat.values
  values_are = node_values S P m rows schema presentation closed order names numbers places nodes equations types built flat closure consistent

  -- What is left out of the terms of the nodes: cells and generators.

  no_generator_entry : (n : ℕ) → node_entry S P M A (term.Gen n) ≡ None
  no_generator_entry n = rw (out-Gen n, node_entry)

  no_constant_entry : (c : Con) → node_entry S P M A (term.Const c) ≡ None
  no_constant_entry c = rw (out-Const c, node_entry)

  no_cell_entry : (a : ℕ) (t : EntTerm) → node_entry S P M A (term.Att a t) ≡ None
  no_cell_entry a t = rw (out-Att a t, node_entry)

  function_entry : (f : ℕ) (ts : List TypeTerm)
      → node_entry S P M A (term.Fun f ts) ≡ Some (record { function = f; args = map (value_of M A) ts; value = value_of M A (term.Fun f ts) })
  function_entry f ts = rw (out-Fun f ts, node_entry)

  -- a term with the value of a leaf, and without an entry
  record IsEarlier (t : TypeTerm) : Type 0 where
    leaf : TypeTerm
    among : IsIn leaf leaves
    same : value_of M A t ≡ value_of M A leaf
    entry : node_entry S P M A t ≡ None

  generator_earlier : (n type : ℕ) → type_at (slice_get P.generators n) ≡ Some type → IsEarlier (term.Gen n)
  generator_earlier n type h =
      let g = type_at_some (slice_get P.generators n) type h in
      let is_node : generator_node S P names (n, g.0) ≡ Some (term.Gen n) = ap (λ (sort : Sort). generator_node S P names (n, (g.0.0, sort))) g.2 in
      let inside : IsIn (n, g.0) (enumerate_from 0 P.generators) = record { place = n; is = get-enumerate P.generators n g.0 g.1 } in
      record {
        leaf = term.Gen n;
        among = in_right (term.Gen n) (flat_map (cell_nodes S P names) (below (length S.entities))) (filter_map (generator_node S P names) (enumerate_from 0 P.generators))
            (in_filter_map (generator_node S P names) (n, g.0) (term.Gen n) (enumerate_from 0 P.generators) inside is_node);
        same = refl;
        entry = no_generator_entry n;
      }

  -- the cell at a name
  cell_leaf : (a row : ℕ) (edge : Edge) (u : EntTerm) → slice_get S.attributes a ≡ Some edge → slice_get (terms_at names edge.from) row ≡ Some u → IsIn (term.Att a u) leaves
  cell_leaf a row edge u found named =
      let within : edge.from < length S.entities = (All_at (λ (edge : Edge). (edge.from < length S.entities) × (edge.to < length S.typeside.types)) S.attributes a edge schema.attributes found).0 in
      let cell : ℕ × Edge → TypeTerm = λ x. term.Att x.0 u in
      let in_row : IsIn (term.Att a u) (map cell (edges_from edge.from S.attributes)) =
      in_map cell (a, edge) (edges_from edge.from S.attributes) (edge_among S.attributes a edge edge.from found refl) in
      let in_entity : IsIn (term.Att a u) (cell_nodes S P names edge.from) =
      in_flat_map (λ (t : EntTerm). map (λ (x : ℕ × Edge). term.Att x.0 t) (edges_from edge.from S.attributes)) u (names_of S P names edge.from) (term.Att a u) (record { place = row; is = named }) in_row in
      in_left (term.Att a u) (flat_map (cell_nodes S P names) (below (length S.entities))) (filter_map (generator_node S P names) (enumerate_from 0 P.generators))
      (in_flat_map (cell_nodes S P names) edge.from (below (length S.entities)) (term.Att a u) (in_range_from (length S.entities) edge.from within) in_entity)

  cell_earlier : (a : ℕ) (t : EntTerm) (type : ℕ) → type_of S P.generators (term.Att a t) ≡ Some type → IsEarlier (term.Att a t)
  cell_earlier a t type h =
      option_and_then_some (followed (slice_get S.attributes a)) (entity_of S P.generators t) type (sym (fold-Att (Option ℕ) (type_step S P.generators) a t) ∙ h) (λ e of_entity led.
      let edge = followed_some (slice_get S.attributes a) e type led in
      let of_source : entity_of S P.generators t ≡ Some edge.0.from = of_entity ∙ ap (λ d. Some d) (sym edge.2) in
      let within : row_of M A t < count_of M edge.0.from = row_within S P m rows schema presentation closed order names numbers built.numbered places types flat t edge.0.from of_source in
      let name = least_name S P m rows schema presentation closed order names numbers built.numbered places types flat edge.0.from (row_of M A t) within in
      record {
        leaf = term.Att a name.0;
        among = cell_leaf a (row_of M A t) edge.0 name.0 edge.1 name.1;
        same = fold-Att Value (value_step M A) a t ∙ ap (cell_at M a) (sym name.2.of_row) ∙ sym (fold-Att Value (value_step M A) a name.0);
        entry = no_cell_entry a t;
      })

  typed_side : (n : ℕ) (t u : TypeTerm) → slice_get (given_sides S P names) n ≡ Some (t, u) → IsTyped S P t × IsTyped S P u
  typed_side n t u found =
      let derived : Derives S P (Typ t) (Typ u) = given_derives S P m rows schema presentation closed order names numbers places nodes equations types built flat closure n t u found in
      let sort = sort_of-derived S P schema presentation (Typ t) (Typ u) derived in
      let left = map_some Plain (type_of S P.generators t) sort.0 sort.1 in
      let right = map_some Plain (type_of S P.generators u) sort.0 sort.2 in
      ((left.0, left.1), (right.0, right.1))

  -- what is made of the equations, what of it has a node of its own, and all subterms
  abbrev all_made : List TypeTerm
  all_made = flat_map side_terms (given_sides S P names)

  abbrev made : List TypeTerm
  made = built.made

  abbrev all_parts : List TypeTerm
  all_parts = flat_map pair_subterms (given_sides S P names)

  thinned : Thins IsEarlier all_parts all_made
  thinned = sides_thinned S P IsEarlier generator_earlier cell_earlier (given_sides S P names) typed_side

  -- Each node means a constant or a null.

  node_plain : (t : TypeTerm) → IsIn t T → IsPlain (value_of M A t)
  node_plain t i =
      let at : slice_get flat.values i.place ≡ Some (value_of M A t) = ap (λ vs. slice_get vs i.place) (sym values_are) ∙ get-map (value_of M A) T i.place t i.is in
      closure.values.plain i.place (value_of M A t) at

  earlier_plain : (t : TypeTerm) → IsEarlier t → IsPlain (value_of M A t)
  earlier_plain t e = subst IsPlain (sym e.same) (node_plain e.leaf (in_left e.leaf leaves made e.among))

  -- a constant is its own value
  constant_value : (c : Con) → value_of M A (term.Const c) ≡ value.Const c
  constant_value c = fold-Const Value (value_step M A) c

  constant_plain : (t : TypeTerm) → IsConstantTerm t → IsPlain (value_of M A t)
  constant_plain t h = subst IsPlain (sym (ap (value_of M A) h.1 ∙ constant_value h.0)) tt

  made_plain : (t : TypeTerm) → IsIn t all_made → IsPlain (value_of M A t)
  made_plain t i = from_Thins IsConstantTerm (λ t. IsPlain (value_of M A t)) constant_plain built.thinned (λ u j. node_plain u (in_right u leaves made j)) i.place t i.is

  member_plain : (n : ℕ) (t : TypeTerm) → slice_get (leaves ++ all_parts) n ≡ Some t → IsPlain (value_of M A t)
  member_plain n t found = in_append (IsPlain (value_of M A t)) leaves all_parts n t found
      (λ (i : IsIn t leaves). node_plain t (in_left t leaves made i))
      (λ (i : IsIn t all_parts). from_Thins IsEarlier (λ t. IsPlain (value_of M A t)) earlier_plain thinned made_plain i.place t i.is)

  pub all_plain : All (λ t. IsPlain (value_of M A t)) (listed_nodes S P names)
  all_plain = subst (λ (l : List TypeTerm). All (λ t. IsPlain (value_of M A t)) l) (sym (nodes_are S P names)) (All_from (λ t. IsPlain (value_of M A t)) (leaves ++ all_parts) member_plain)

  -- The nulls.

  abbrev label : TypeTerm → Option ℕ
  label t = null_label (value_of M A t)

  earlier_label : (t : TypeTerm) → IsEarlier t → (z : TypeTerm) × IsIn z leaves × (label t ≡ label z)
  earlier_label t e = (e.leaf, e.among, ap null_label e.same)

  no_constant_label : (t : TypeTerm) → IsConstantTerm t → label t ≡ None
  no_constant_label t h = ap label h.1 ∙ ap null_label (constant_value h.0)

  -- what a function tells of the leaves and of all that is made, where it tells nothing of constants
  without_constants : {Y : Type 0} (f : TypeTerm → Option Y) → ((t : TypeTerm) → IsConstantTerm t → f t ≡ None) → filter_map f (leaves ++ all_made) ≡ filter_map f T
  without_constants f none =
      filter_map-append f leaves all_made ∙ ap (λ (l : List _). filter_map f leaves ++ l) (filter_map-Thins IsConstantTerm f none built.thinned) ∙ sym (filter_map-append f leaves made)

  pub nulls_listed : firsts nat_eq (filter_map label (listed_nodes S P names)) ≡ below (length M.algebra.nulls)
  nulls_listed =
      ap (λ (l : List TypeTerm). firsts nat_eq (filter_map label l)) (nodes_are S P names)
      ∙ firsts-Thins IsEarlier label leaves earlier_label all_parts all_made thinned
      ∙ ap (firsts nat_eq) (without_constants label no_constant_label)
      ∙ ap (firsts nat_eq) (filter_map-map null_label (value_of M A) T)
      ∙ ap (λ vs. firsts nat_eq (filter_map null_label vs)) values_are
      ∙ closure.labels.labels
      ∙ ap below (sym (length-map flat.nulls (slice_index types)))

  -- The entries.

  args_values : (ts : List TypeTerm) (ps argument_types : List ℕ) → have_types (map (type_of S P.generators) ts) argument_types ≡ true → EachStands m rows places T ts ps
      → map (value_of M A) ts ≡ map (value_at flat.values) ps
  args_values [] [] argument_types h each = refl
  args_values [] (p ∷ ps) argument_types h each = absurd each
  args_values (t ∷ ts) [] argument_types h each = absurd each
  args_values (t ∷ ts) (p ∷ ps) [] h each = cc
  args_values (t ∷ ts) (p ∷ ps) (type ∷ argument_types) h each =
      let parts : (is_type (type_of S P.generators t) type ≡ true) × (have_types (map (type_of S P.generators) ts) argument_types ≡ true) = both _ _ h in
      let first : value_of M A t ≡ value_at flat.values p =
      stands_value_of S P m rows schema presentation closed order names numbers places nodes equations types built flat closure consistent t p type (is_type_some (type_of S P.generators t) type parts.0) each.0 in
      let rest : map (value_of M A) ts ≡ map (value_at flat.values) ps = args_values ts ps argument_types parts.1 each.1 in
      λ i. first i ∷ rest i

  abbrev HasEntry : TypeTerm → Type 0
  HasEntry t = (p type : ℕ) (content : Node) → type_of S P.generators t ≡ Some type → value_of M A t ≡ value_at flat.values p
      → IsNodeAt m rows places T p (out-TypeTerm t) content → node_entry S P M A t ≡ entry_of flat.values (p, content)

  leaf_entry : (p : ℕ) (content : Node) → IsLeafOrConstant content → entry_of flat.values (p, content) ≡ None
  leaf_entry p node.Leaf h = refl
  leaf_entry p (node.Const c) h = refl
  leaf_entry p (node.Fun f args) h = absurd h

  no_constant_term_entry : (t : TypeTerm) → IsConstantTerm t → node_entry S P M A t ≡ None
  no_constant_term_entry t h = ap (node_entry S P M A) h.1 ∙ no_constant_entry h.0

  has_entry : (t : TypeTerm) → HasEntry t
  has_entry = on_terms HasEntry
      (λ n p type content sort same is.
      no_generator_entry n ∙ sym (leaf_entry p content (subst (λ l. IsNodeAt m rows places T p l content) (out-Gen n) is)))
      (λ c p type content sort same is.
      let constant : content ≡ node.Const c = subst (λ l. IsNodeAt m rows places T p l content) (out-Const c) is in
      no_constant_entry c ∙ ap (λ c. entry_of flat.values (p, c)) (sym constant))
      (λ a t p type content sort same is.
      no_cell_entry a t ∙ sym (leaf_entry p content (subst (λ l. IsNodeAt m rows places T p l content) (out-Att a t) is)))
      (λ f ts each p type content sort same is.
      let parts : IsNodeAt m rows places T p (layer.Fun f ts) content = subst (λ l. IsNodeAt m rows places T p l content) (out-Fun f ts) is in
      let f' = applied_type_some (slice_get S.typeside.functions f) (map (type_of S P.generators) ts) type (sym (fold-Fun (Option ℕ) (type_step S P.generators) f ts) ∙ sort) in
      let args : map (value_of M A) ts ≡ map (value_at flat.values) parts.0 = args_values ts parts.0 f'.0.args f'.2 parts.2 in
      function_entry f ts ∙ (λ i. Some (record { function = f; args = args i; value = same i })) ∙ ap (λ c. entry_of flat.values (p, c)) (sym parts.1))

  node_entries : (p : ℕ) (t : TypeTerm) (content : Node) → slice_get T p ≡ Some t → slice_get nodes p ≡ Some content → node_entry S P M A t ≡ entry_of flat.values (0 + p, content)
  node_entries p t content found at =
      let here : p ≡ 0 + p = omega arith in
      let inside : p < length types = omega (arith, built.types_are.count, slice_get_within T p t found) in
      let type : ℕ = get_or types p 0 in
      let typed : type_of S P.generators t ≡ Some type = built.types_are.each p type t found (slice_get-get_or types p 0 inside) in
      let same : value_of M A t ≡ value_at flat.values p = node_value S P m rows schema presentation closed order names numbers places nodes equations types built flat closure consistent p t found in
      has_entry t p type content typed same (built.nodes_are.each p t content found at) ∙ ap (λ n. entry_of flat.values (n, content)) here

  pub entries_listed : firsts (λ e. is_for e.function e.args) (filter_map (node_entry S P M A) (listed_nodes S P names)) ≡ M.algebra.entries
  entries_listed =
      let same_entries : filter_map (node_entry S P M A) (leaves ++ all_parts) ≡ filter_map (node_entry S P M A) T =
      filter_map-append (node_entry S P M A) leaves all_parts
      ∙ ap (λ l. filter_map (node_entry S P M A) leaves ++ l) (filter_map-Thins IsEarlier (node_entry S P M A) (λ t e. e.entry) thinned)
      ∙ sym (filter_map-append (node_entry S P M A) leaves all_made)
      ∙ without_constants (node_entry S P M A) no_constant_term_entry in
      ap (λ (l : List TypeTerm). firsts (λ e. is_for e.function e.args) (filter_map (node_entry S P M A) l)) (nodes_are S P names)
      ∙ ap (firsts (λ e. is_for e.function e.args)) (same_entries ∙ filter_map_beside (node_entry S P M A) (entry_of flat.values) 0 T nodes built.nodes_are.count node_entries)
      ∙ sym closure.entries
