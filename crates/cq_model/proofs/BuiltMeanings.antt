-- Derivably equal terms have one value, where the constants of nodes mean the nodes' values.
use Rattle.std.proofs.Common.{ℕ, true, List, [], ◌∷◌, ◌++◌, Some, None, ◌≡◌, ◌<◌, ◌+◌, ◌==◌, map, filter, length, refl, sym, ap, subst, ◌∙◌, arith, inl, inr, slice_index_or, eq-eqb}
use Rattle.std.specs.Prelude.{slice_get, slice_index}
use Rattle.std.specs.List.{flat_map, enumerate_from}
use Rattle.std.proofs.lemmas.Option.{slice_get_within, get_or_from_slice_get}
use Rattle.cq_base.specs.declared.name.Name.{Name}
use Rattle.cq_tables.specs.Content.{Content, live_of}
use Rattle.cq_tables.specs.Content.{entity_of as row_entity}
use Rattle.cq_rows.specs.Rows.{row_of_term}
use Rattle.cq_flat.specs.declared.node.Node.{Node}
use Rattle.cq_flat.specs.declared.node.Node.TheVariants as node
use Rattle.cq_flat.specs.Congruence as congruent
use Rattle.cq_flat.specs.Congruence.{Congruent}
use Rattle.cq_flat.specs.Values.{Closure, value_at}
use Rattle.cq_model.specs.declared.places.Places.{Places}
use Rattle.cq_names.specs.Closed.{AreClosed}
use Rattle.cq_names.specs.LeastNames.{rows_at, terms_at}
use Rattle.cq_model.specs.NodeTerms.{equation_sides, row_sides, entity_sides, given_sides, leaf_terms, cell_place, StandsAt, StandsFor, EachStands}
use Rattle.cq_model.specs.Built.{IsClosureOf, IsBuilt, cell_column, standing, tables_of, assignment_of}
use Rattle.cq_theory.specs.declared.constant.Con.{Con}
use Rattle.cq_theory.specs.declared.constant.Con.TheVariants.{Named}
use Rattle.cq_theory.specs.declared.presentation.Equation.{Equation}
use Rattle.cq_theory.specs.declared.presentation.Equation.TheVariants.{Ent as EntEquation, Typ as TypEquation}
use Rattle.cq_theory.specs.declared.presentation.Presentation.{Presentation}
use Rattle.cq_theory.specs.declared.presentation.Sort.{Sort}
use Rattle.cq_theory.specs.declared.schema.Edge.{Edge}
use Rattle.cq_theory.specs.declared.schema.ObsEq.{ObsEq}
use Rattle.cq_theory.specs.SchemaData.{SchemaData as Schema}
use Rattle.cq_theory.specs.Schema.{IsSchema}
use Rattle.cq_theory.specs.Presentation.{IsPresentation}
use Rattle.cq_theory.specs.Canonical.{below}
use Rattle.cq_theory.specs.Listed.{names_of}
use Rattle.cq_theory.specs.declared.term.EntTerm.{EntTerm}
use Rattle.cq_theory.specs.declared.term.TypeTerm.{TypeTerm}
use Rattle.cq_theory.specs.declared.term.TypeTerm.TheVariants as term
use Rattle.cq_theory.specs.declared.term.TypeTerm.TheOpen as layer
use Rattle.cq_theory.specs.declared.term.TypeTerm.TheFolds.{fold-TypeTerm}
use Rattle.cq_theory.specs.declared.term.Term.{Term}
use Rattle.cq_theory.specs.declared.term.Term.TheVariants.{Ent, Typ}
use Rattle.cq_theory.specs.declared.value.Value.{Value}
use Rattle.cq_theory.specs.declared.value.Value.TheVariants as value
use Rattle.cq_theory.specs.EntTerm.{extended}
use Rattle.cq_theory.specs.TypeTerm.{substituted, substituted_step}
use Rattle.cq_theory.specs.Sorts.{Generators, type_at, entity_of, type_of}
use Rattle.cq_theory.specs.Derivation.{Derivation, Derivations, reflexivity, symmetry, transitivity, key, attribute, function, given, path_equation, observation, none, more, left_of, right_of, Concludes, Conclude, Derives}
use Rattle.cq_theory.specs.Tables.{Tables, Meaning, AtRow, AtValue, Assignment, row_in, value_in, count_of, key_at, cell_at, row_from, row_of, applied}
use Rattle.cq_theory.proofs.TypeTerms.{fold-Gen, fold-Const, fold-Att, fold-Fun, Each, on_terms}
use Rattle.cq_instance.proofs.Lists.{IsIn, get-map, get-append, get-append_front, in_map, in_flat_map, in_range_from}
use Rattle.cq_instance.proofs.TypedTerms.{out-Gen, out-Const, out-Fun, type_at_some, EachTyped, args_typed, typed_generator}
use Rattle.cq_instance.proofs.Enumerated.{get-enumerate_from}
use Rattle.cq_model.proofs.BuiltEntries.{in_filter}
use Rattle.cq_instance.proofs.SubstitutedTerms.{row_from-append}
use Rattle.cq_model.proofs.BuiltNodes as nodes_say
use Rattle.cq_model.proofs.BuiltNodes.{at_place, derived_typed}
use Rattle.cq_model.proofs.BuiltClosure as closure_says
use Rattle.cq_model.proofs.BuiltRows as rows_say

module _ (S : Schema) (P : Presentation) (m : Content) (rows : List ℕ) (schema : IsSchema S) (presentation : IsPresentation S P) (closed : AreClosed S P m rows)
    (order : List (List ℕ)) (names : List (List EntTerm)) (numbers : List ℕ) (places : Places) (nodes : List Node) (equations : List (ℕ × ℕ)) (types : List ℕ)
    (built : IsBuilt S P m rows order names numbers places nodes equations types)
    (flat : Closure) (closure : IsClosureOf nodes equations flat) where
  abbrev G : Generators
  G = P.generators

  abbrev M : Tables
  M = tables_of S P m rows order numbers places types flat

  abbrev A : Assignment
  A = assignment_of S P m rows order numbers places flat.values

  abbrev T : List TypeTerm
  T = leaf_terms S P names ++ built.made

  abbrev Stands : TypeTerm → ℕ → Type 0
  Stands = StandsFor m rows places T

  abbrev value_here : ℕ → Value
  value_here = value_at flat.values

  leads : (t : EntTerm) (e : ℕ) → entity_of S G t ≡ Some e → (r : ℕ) × (row_of_term m rows t ≡ Some r) × (live_of m r ≡ true) × (row_entity m r ≡ e)
  leads = rows_say.leads S P m rows schema presentation closed order names numbers built.numbered places types flat

  row_of_is : (t : EntTerm) (e r : ℕ) → entity_of S G t ≡ Some e → row_of_term m rows t ≡ Some r → row_of M A t ≡ slice_index numbers r
  row_of_is = rows_say.row_of_is S P m rows schema presentation closed order names numbers built.numbered places types flat

  counts_are : (e : ℕ) → count_of M e ≡ length (rows_at order e)
  counts_are = rows_say.counts_are S P m rows schema presentation closed order names numbers built.numbered places types flat

  congruent_equal : (p q : ℕ) → p < length nodes → q < length nodes → Congruent nodes equations p q → value_here p ≡ value_here q
  congruent_equal = closure_says.congruent_equal S P m rows schema presentation closed order names numbers places nodes equations types built flat closure

  -- what a generator stands for
  pub generator_is : (n : ℕ) (g : Name × Sort) → slice_get G n ≡ Some g → slice_index_or A n (AtRow 0) ≡ standing S P m rows order numbers places flat.values n g.1
  generator_is n g h =
      let stands : ℕ × (Name × Sort) → Meaning = λ (g : ℕ × (Name × Sort)). standing S P m rows order numbers places flat.values g.0 g.1.1 in
      let here : 0 + n ≡ n = omega arith in
      get_or_from_slice_get A n (stands (n, g)) (AtRow 0) (get-map stands (enumerate_from 0 G) n (0 + n, g) (get-enumerate_from 0 G n g h) ∙ ap (λ k. Some (stands (k, g))) here)

  pub type_generator : (n type : ℕ) → type_at (slice_get G n) ≡ Some type → slice_index_or A n (AtRow 0) ≡ AtValue (value_here (slice_index places.generators n))
  type_generator n type h =
      let g = type_at_some (slice_get G n) type h in
      generator_is n g.0 g.1 ∙ ap (standing S P m rows order numbers places flat.values n) g.2

  -- the column of an attribute, and the cell in it of a row
  pub cells_are : (a : ℕ) (edge : Edge) → slice_get S.attributes a ≡ Some edge → slice_index_or M.sheet.cells a [] ≡ map (λ r. value_here (cell_place places r a)) (rows_at order edge.from)
  cells_are a edge h =
      let column : ℕ × Edge → List Value = cell_column S P m rows order numbers places flat.values in
      let here : 0 + a ≡ a = omega arith in
      get_or_from_slice_get M.sheet.cells a (column (a, edge)) [] (get-map column (enumerate_from 0 S.attributes) a (0 + a, edge) (get-enumerate_from 0 S.attributes a edge h) ∙ ap (λ k. Some (column (k, edge))) here)

  cell_is : (a : ℕ) (edge : Edge) (r : ℕ) → slice_get S.attributes a ≡ Some edge → live_of m r ≡ true → edge.from ≡ row_entity m r → cell_at M a (slice_index numbers r) ≡ value_here (cell_place places r a)
  cell_is a edge r h live from =
      let place : slice_get (rows_at order edge.from) (slice_index numbers r) ≡ Some r = ap (λ e. slice_get (rows_at order e) (slice_index numbers r)) from ∙ built.numbered.all r live in
      ap (λ column. slice_index_or column (slice_index numbers r) (value.Const (Named 0))) (cells_are a edge h)
      ∙ get_or_from_slice_get (map (λ r. value_here (cell_place places r a)) (rows_at order edge.from)) (slice_index numbers r) (value_here (cell_place places r a)) (value.Const (Named 0))
      (get-map (λ r. value_here (cell_place places r a)) (rows_at order edge.from) (slice_index numbers r) r place)

  -- an entity term names a row of its entity
  pub row_within : (t : EntTerm) (e : ℕ) → entity_of S G t ≡ Some e → row_of M A t < count_of M e
  row_within t e h =
      let led = leads t e h in
      let place : slice_get (rows_at order e) (slice_index numbers led.0) ≡ Some led.0 = ap (λ e. slice_get (rows_at order e) (slice_index numbers led.0)) (sym led.3) ∙ built.numbered.all led.0 led.2 in
      let inside : slice_index numbers led.0 < length (rows_at order e) = slice_get_within (rows_at order e) (slice_index numbers led.0) led.0 place in
      omega (arith, inside, row_of_is t e led.0 h led.1, counts_are e)

  -- the name of a row
  pub record IsNamed (e row : ℕ) : Type 0 where
    pub name : EntTerm
    pub in_names : IsIn name (names_of S P names e)
    pub of_entity : entity_of S G name ≡ Some e
    pub of_row : row_of M A name ≡ row

  pub named_row : (e row : ℕ) → row < count_of M e → IsNamed e row
  named_row e row h =
      let r = at_place (rows_at order e) row (omega (arith, counts_are e)) in
      let name = at_place (terms_at names e) row (omega (arith, counts_are e, built.numbered.counted e)) in
      let least = built.numbered.named e row r.0 name.0 r.1 name.1 in
      let of_entity : entity_of S G name.0 ≡ Some e = least.entity ∙ ap (λ n. Some n) (built.numbered.live e row r.0 r.1).1 in
      record {
        name = name.0;
        in_names = record { place = row; is = name.1 };
        of_entity = of_entity;
        of_row = row_of_is name.0 e r.0 of_entity least.row ∙ built.numbered.numbered e row r.0 r.1;
      }

  row_of-extended : (a : EntTerm) (path : List ℕ) → row_of M A (extended a path) ≡ row_from M (row_of M A a) path
  row_of-extended a path = row_from-append M (row_in (slice_index_or A a.generator (AtRow 0))) a.path path

  -- Equal values from derivations, where a constant of a node means the node's value. Without a clash a constant means itself; with one,
  -- the least constant that is equal to it.
  module _ (constants : Con → Value) (agree : (p : ℕ) (c : Con) → slice_get nodes p ≡ Some (node.Const c) → constants c ≡ value_at flat.values p) where
    abbrev pub with_step : layer.TypeTerm-F Value → Value
    with_step (layer.Gen n) = value_in (slice_index_or A n (AtRow 0))
    with_step (layer.Const c) = constants c
    with_step (layer.Att a t) = cell_at M a (row_of M A t)
    with_step (layer.Fun f args) = applied M f args

    abbrev pub value_with : TypeTerm → Value
    value_with = fold-TypeTerm Value with_step

    abbrev HasValue : TypeTerm → Type 0
    HasValue t = (p type : ℕ) → type_of S G t ≡ Some type → Stands t p → value_with t ≡ value_here p

    args_values : (ts : List TypeTerm) (ps : List ℕ) → Each HasValue ts → EachTyped S G ts → EachStands m rows places T ts ps → map value_with ts ≡ map value_here ps
    args_values [] [] each typed stands = refl
    args_values [] (p ∷ ps) each typed stands = absurd stands
    args_values (t ∷ ts) [] each typed stands = absurd stands
    args_values (t ∷ ts) (p ∷ ps) each typed stands =
        let first : value_with t ≡ value_here p = each.0 p typed.0.0 typed.0.1 stands.0 in
        let rest : map value_with ts ≡ map value_here ps = args_values ts ps each.1 typed.1 stands.1 in
        λ i. first i ∷ rest i

    generator_value : (n : ℕ) → HasValue (term.Gen n)
    generator_value n p type sort stands =
        let place : p ≡ slice_index places.generators n = subst (λ l. StandsAt m rows places T l p) (out-Gen n) stands in
        fold-Gen Value with_step n ∙ ap value_in (type_generator n type (typed_generator S G n type sort)) ∙ ap value_here (sym place)

    constant_value_is : (c : Con) → HasValue (term.Const c)
    constant_value_is c p type sort stands =
        let is : slice_get T p ≡ Some (term.Const c) = subst (λ l. StandsAt m rows places T l p) (out-Const c) stands in
        fold-Const Value with_step c
        ∙ agree p c (nodes_say.constant_place S P m rows schema presentation closed order names numbers places nodes equations types built flat closure p c is)

    cell_value : (a : ℕ) (t : EntTerm) → HasValue (term.Att a t)
    cell_value a t p type sort stands =
        let cell = nodes_say.cell_at_place S P m rows schema presentation closed order names numbers places nodes equations types built flat closure a t p type sort stands in
        fold-Att Value with_step a t
        ∙ ap (cell_at M a) (row_of_is t cell.typed.edge.from cell.row cell.typed.of_entity cell.leads_to)
        ∙ cell_is a cell.typed.edge cell.row cell.typed.known cell.live cell.of_entity
        ∙ ap value_here (sym cell.place)

    application_value : (f : ℕ) (args : List TypeTerm) → Each HasValue args → HasValue (term.Fun f args)
    application_value f args each p type sort stands =
        let is : slice_get T p ≡ Some (term.Fun f args) = subst (λ l. StandsAt m rows places T l p) (out-Fun f args) stands in
        let place = nodes_say.function_place S P m rows schema presentation closed order names numbers places nodes equations types built flat closure p f args is in
        fold-Fun Value with_step f args
        ∙ ap (applied M f) (args_values args place.0 each (args_typed S G f args type sort) place.2)
        ∙ closure_says.entry_found S P m rows schema presentation closed order names numbers places nodes equations types built flat closure p f place.0 place.1

    -- a term has the value of a node that stands for it
    pub stands_value : (t : TypeTerm) (p type : ℕ) → type_of S G t ≡ Some type → Stands t p → value_with t ≡ value_here p
    stands_value = on_terms HasValue generator_value constant_value_is cell_value application_value

    -- the sides of a given equation have one value
    pub given_values : (i : ℕ) (t u : TypeTerm) → slice_get (given_sides S P names) i ≡ Some (t, u) → value_with t ≡ value_with u
    given_values i t u found =
        let sorts = derived_typed S P schema presentation t u (nodes_say.given_derives S P m rows schema presentation closed order names numbers places nodes equations types built flat closure i t u found) in
        elim (built.sides.met i t u found) [
          | inl j ↦
              let inside : j.nodes.0 < length nodes = omega (arith, j.stand.left_within, built.nodes_are.count) in
              let inside' : j.nodes.1 < length nodes = omega (arith, j.stand.right_within, built.nodes_are.count) in
              stands_value t j.nodes.0 sorts.0.0 sorts.0.1 j.stand.left
              ∙ congruent_equal j.nodes.0 j.nodes.1 inside inside' (congruent.given j.number j.is)
              ∙ sym (stands_value u j.nodes.1 sorts.1.0 sorts.1.1 j.stand.right)
          | inr k ↦
              stands_value t k.place sorts.0.0 sorts.0.1 k.stands
              ∙ sym (ap value_with k.is ∙ fold-Const Value with_step k.constant ∙ agree k.place k.constant k.node_is)
        ]

    -- an observation equation has one value at the name of a row
    pub observation_values : (n : ℕ) (e : ObsEq) (name : EntTerm) → slice_get S.obs_eqs n ≡ Some e → IsIn name (names_of S P names e.entity)
        → value_with (substituted name e.left) ≡ value_with (substituted name e.right)
    observation_values n e name h in_names =
        let sides : ObsEq → TypeTerm × TypeTerm = λ (e : ObsEq). (substituted name e.left, substituted name e.right) in
        let chosen : IsIn e (filter (λ (o : ObsEq). o.entity == e.entity) S.obs_eqs) = in_filter (λ (o : ObsEq). o.entity == e.entity) e S.obs_eqs (record { place = n; is = h }) (eq-eqb e.entity e.entity refl) in
        let at_name : IsIn (sides e) (row_sides S P names e.entity name) = in_map sides e (filter (λ (o : ObsEq). o.entity == e.entity) S.obs_eqs) chosen in
        let at_entity : IsIn (sides e) (entity_sides S P names e.entity) = in_flat_map (row_sides S P names e.entity) name (names_of S P names e.entity) (sides e) in_names at_name in
        let at_all : IsIn (sides e) (flat_map (entity_sides S P names) (below (length S.entities))) =
        in_flat_map (entity_sides S P names) e.entity (below (length S.entities)) (sides e) (in_range_from (length S.entities) e.entity (schema.obs_eqs n e h).entity) at_entity in
        let before : List (TypeTerm × TypeTerm) = flat_map equation_sides P.equations in
        given_values (length before + at_all.place) (substituted name e.left) (substituted name e.right)
        (get-append before (flat_map (entity_sides S P names) (below (length S.entities))) at_all.place (sides e) at_all.is)

    equation_values : (n : ℕ) (t u : TypeTerm) → slice_get P.equations n ≡ Some (TypEquation t u) → value_with t ≡ value_with u
    equation_values n t u h =
        let at : IsIn (t, u) (flat_map equation_sides P.equations) = in_flat_map equation_sides (TypEquation t u) P.equations (t, u) (record { place = n; is = h }) (record { place = 0; is = refl }) in
        given_values at.place t u (get-append_front (flat_map equation_sides P.equations) (flat_map (entity_sides S P names) (below (length S.entities))) at.place (t, u) at.is)

    -- terms of one row in the place of the variable
    module _ (at at' : EntTerm) (one_row : row_of M A at ≡ row_of M A at') where
      abbrev IsAlike : TypeTerm → Type 0
      IsAlike t = value_with (substituted at t) ≡ value_with (substituted at' t)

      args_alike : (ts : List TypeTerm) → Each IsAlike ts → map value_with (map (substituted at) ts) ≡ map value_with (map (substituted at') ts)
      args_alike [] each = refl
      args_alike (t ∷ ts) each =
          let first : value_with (substituted at t) ≡ value_with (substituted at' t) = each.0 in
          let rest : map value_with (map (substituted at) ts) ≡ map value_with (map (substituted at') ts) = args_alike ts each.1 in
          λ i. first i ∷ rest i

      substituted_alike : (t : TypeTerm) → IsAlike t
      substituted_alike = on_terms IsAlike
          (λ n. ap value_with (fold-Gen TypeTerm (substituted_step at) n ∙ sym (fold-Gen TypeTerm (substituted_step at') n)))
          (λ c. ap value_with (fold-Const TypeTerm (substituted_step at) c ∙ sym (fold-Const TypeTerm (substituted_step at') c)))
          (λ a t. ap value_with (fold-Att TypeTerm (substituted_step at) a t) ∙ fold-Att Value with_step a (extended at t.path)
          ∙ ap (cell_at M a) (row_of-extended at t.path ∙ ap (λ row. row_from M row t.path) one_row ∙ sym (row_of-extended at' t.path))
          ∙ sym (ap value_with (fold-Att TypeTerm (substituted_step at') a t) ∙ fold-Att Value with_step a (extended at' t.path)))
          (λ f ts each. ap value_with (fold-Fun TypeTerm (substituted_step at) f ts) ∙ fold-Fun Value with_step f (map (substituted at) ts)
          ∙ ap (applied M f) (args_alike ts each)
          ∙ sym (ap value_with (fold-Fun TypeTerm (substituted_step at') f ts) ∙ fold-Fun Value with_step f (map (substituted at') ts)))

    -- what a term means
    abbrev means : Term → Meaning
    means (Ent t) = AtRow (row_of M A t)
    means (Typ t) = AtValue (value_with t)

    abbrev HaveOneMeaning : Term → Term → Type 0
    HaveOneMeaning t u = means t ≡ means u

    same_rows : (a b : EntTerm) → HaveOneMeaning (Ent a) (Ent b) → row_of M A a ≡ row_of M A b
    same_rows a b h = ap row_in h

    same_values : (t u : TypeTerm) → HaveOneMeaning (Typ t) (Typ u) → value_with t ≡ value_with u
    same_values t u h = ap value_in h

    from_equation : (t u t' u' : Term) → t ≡ t' → u ≡ u' → HaveOneMeaning t' u' → HaveOneMeaning t u
    from_equation t u t' u' e f h = ap means e ∙ h ∙ sym (ap means f)

    given_means : (n : ℕ) (e : Equation) → slice_get P.equations n ≡ Some e → HaveOneMeaning (left_of e) (right_of e)
    given_means n (EntEquation t u) h = ap AtRow (rows_say.entity_equations_hold S P m rows schema presentation closed order names numbers built.numbered places types flat n t u h)
    given_means n (TypEquation t u) h = ap AtValue (equation_values n t u h)

    observation_means : (n : ℕ) (at : EntTerm) (e : ObsEq) → slice_get S.obs_eqs n ≡ Some e → entity_of S G at ≡ Some e.entity → HaveOneMeaning (Typ (substituted at e.left)) (Typ (substituted at e.right))
    observation_means n at e h of_entity =
        let named = named_row e.entity (row_of M A at) (row_within at e.entity of_entity) in
        ap AtValue (substituted_alike at named.name (sym named.of_row) e.left ∙ observation_values n e named.name h named.in_names ∙ substituted_alike named.name at named.of_row e.right)

    mutual
      sound : (d : Derivation) (t u : Term) → Concludes S P None d t u → HaveOneMeaning t u
      sound (reflexivity s) t u h = from_equation t u s s h.2 h.3 refl
      sound (symmetry d) t u h = sym (sound d u t h)
      sound (transitivity d e) t u h = sound d t h.0 h.1 ∙ sound e h.0 u h.2
      sound (key k d) t u h =
          from_equation t u _ _ h.3 h.4 (ap AtRow (row_of-extended h.0 (k ∷ []) ∙ ap (key_at M k) (same_rows h.0 h.1 (sound d (Ent h.0) (Ent h.1) h.2)) ∙ sym (row_of-extended h.1 (k ∷ []))))
      sound (attribute n d) t u h =
          from_equation t u _ _ h.3 h.4 (ap AtValue (fold-Att Value with_step n h.0 ∙ ap (cell_at M n) (same_rows h.0 h.1 (sound d (Ent h.0) (Ent h.1) h.2)) ∙ sym (fold-Att Value with_step n h.1)))
      sound (function f ds) t u h =
          from_equation t u _ _ h.3 h.4 (ap AtValue (fold-Fun Value with_step f h.0 ∙ ap (applied M f) (all_sound ds h.0 h.1 h.2) ∙ sym (fold-Fun Value with_step f h.1)))
      sound (given n) t u h = from_equation t u _ _ h.2 h.3 (given_means n h.0 h.1)
      sound (path_equation n at) t u h =
          from_equation t u _ _ h.4 h.5 (ap AtRow (row_of-extended at h.0.left
          ∙ rows_say.paths_hold S P m rows schema presentation closed order names numbers built.numbered places types flat n h.0 h.1 (row_of M A at) (row_within at h.0.entity h.2)
          ∙ sym (row_of-extended at h.0.right)))
      sound (observation n at) t u h = from_equation t u _ _ h.4 h.5 (observation_means n at h.0 h.1 h.2)

      all_sound : (ds : Derivations) (ts us : List TypeTerm) → Conclude S P None ds ts us → map value_with ts ≡ map value_with us
      all_sound none [] [] h = refl
      all_sound (more d ds) (t ∷ ts) (u ∷ us) h =
          let first : value_with t ≡ value_with u = same_values t u (sound d (Typ t) (Typ u) h.0) in
          let rest : map value_with ts ≡ map value_with us = all_sound ds ts us h.1 in
          λ i. first i ∷ rest i
      all_sound none [] (u ∷ us) h = absurd h
      all_sound none (t ∷ ts) us h = absurd h
      all_sound (more d ds) [] us h = absurd h
      all_sound (more d ds) (t ∷ ts) [] h = absurd h

    -- derivably equal terms mean one row or one value
    pub derived_means : (t u : Term) → Derives S P t u → means t ≡ means u
    derived_means t u d = sound d.0 t u d.1

    pub derived_values : (t u : TypeTerm) → Derives S P (Typ t) (Typ u) → value_with t ≡ value_with u
    derived_values t u derived = same_values t u (derived_means (Typ t) (Typ u) derived)
