-- Without a clash: what type terms mean in the tables.
use Rattle.std.proofs.Common.{ℕ, suc, true, false, List, [], ◌∷◌, ◌++◌, Option, Some, None, ◌≡◌, ◌<◌, map, length, refl, sym, ap, subst, ◌∙◌, arith, inl, inr, slice_index_or}
use Rattle.std.specs.Prelude.{slice_get, slice_index, find, All, AllPairs}
use Rattle.std.proofs.lemmas.List.{length-map}
use Rattle.std.proofs.lemmas.Option.{slice_get_within, slice_get-get_or, get_or_from_slice_get, MatchOption-at_none}
use Rattle.cq_tables.specs.Content.{Content}
use Rattle.cq_flat.specs.declared.node.Node.{Node}
use Rattle.cq_flat.specs.declared.node.Node.TheVariants as node
use Rattle.cq_flat.specs.Congruence as congruent
use Rattle.cq_flat.specs.Values.{Closure, value_at, AreEqualConstants, IsLeastConstant, IsLeastClash}
use Rattle.cq_model.specs.declared.places.Places.{Places}
use Rattle.cq_names.specs.Closed.{AreClosed}
use Rattle.cq_names.specs.LeastNames.{rows_at}
use Rattle.cq_model.specs.NodeTerms.{leaf_terms, cell_place, StandsAt, StandsFor, EachStands}
use Rattle.cq_model.specs.Built.{IsClosureOf, IsBuilt, tables_of, assignment_of}
use Rattle.cq_theory.specs.Constant.{IsAtMost}
use Rattle.cq_theory.proofs.Constants.{at_most-itself}
use Rattle.cq_theory.specs.declared.constant.Con.{Con}
use Rattle.cq_theory.specs.declared.constant.Con.TheVariants.{Named}
use Rattle.cq_theory.specs.declared.presentation.Presentation.{Presentation}
use Rattle.cq_theory.specs.declared.presentation.Sort.TheVariants.{Plain}
use Rattle.cq_theory.specs.declared.schema.Edge.{Edge}
use Rattle.cq_theory.specs.declared.schema.ObsEq.{ObsEq}
use Rattle.cq_theory.specs.SchemaData.{SchemaData as Schema}
use Rattle.cq_theory.specs.Schema.{IsSchema}
use Rattle.cq_theory.specs.Presentation.{IsPresentation}
use Rattle.cq_theory.specs.declared.typeside.Fun.{Fun as Function}
use Rattle.cq_theory.specs.declared.term.EntTerm.{EntTerm}
use Rattle.cq_theory.specs.declared.term.TypeTerm.{TypeTerm}
use Rattle.cq_theory.specs.declared.term.TypeTerm.TheVariants as term
use Rattle.cq_theory.specs.declared.term.TypeTerm.TheOpen as layer
use Rattle.cq_theory.specs.declared.term.TypeTerm.TheFolds.{fold-TypeTerm}
use Rattle.cq_theory.specs.declared.term.Term.TheVariants.{Typ}
use Rattle.cq_theory.specs.declared.value.Value.{Value}
use Rattle.cq_theory.specs.declared.value.Value.TheVariants as value
use Rattle.cq_theory.specs.declared.value.Value.TheOpen as value_layer
use Rattle.cq_theory.specs.declared.value.Value.TheFolds.{fold-Value}
use Rattle.cq_theory.specs.declared.value.Entry.{Entry}
use Rattle.cq_theory.specs.TypeTerm.{substituted}
use Rattle.cq_theory.specs.Sorts.{Generators, type_at, type_of, type_step, applied_type}
use Rattle.cq_theory.specs.Derivation.{Derives, EachDerives}
use Rattle.cq_theory.specs.Tables.{Tables, AtRow, Assignment, count_of, value_of, value_step, applied, entry_or_built, is_for, value_type, value_type_step, normal_of, IsPlain, IsCellColumn, IsSoundEntry, HasSort}
use Rattle.cq_theory.proofs.TypeTerms.{fold-Gen, fold-Const, fold-Fun, Each, on_terms}
use Rattle.cq_theory.proofs.Values as values_say
use Rattle.cq_theory.proofs.Derivations.{Derives-reflexive, Derives-symmetric, Derives-transitive, Derives-function}
use Rattle.cq_instance.proofs.Lists.{All_from, get-map_from}
use Rattle.cq_model.proofs.Variants.{out-Att}
use Rattle.cq_instance.proofs.TypedTerms.{out-Gen, EachTyped, args_typed, typed_cell, typed_function, type_within}
use Rattle.cq_model.proofs.BuiltEntries.{is_for_from, IsEntryOf, entry_node, entries_apart}
use Rattle.cq_instance.proofs.SubstitutedTerms.{value_of-substituted}
use Rattle.cq_model.proofs.BuiltNodes as nodes_say
use Rattle.cq_model.proofs.BuiltNodes.{one_at, typed_ground, one_type}
use Rattle.cq_model.proofs.BuiltClosure as closure_says
use Rattle.cq_model.proofs.BuiltClosure.{plain_cases, plain_normal}
use Rattle.cq_model.proofs.BuiltMeanings as meanings_say
use Rattle.cq_model.proofs.BuiltRows as rows_say
pub use Rattle.cq_model.proofs.BuiltNodes.{given_derives, stands_derives, congruent_derives}
pub use Rattle.cq_model.proofs.BuiltClosure.{node_typed, entry_found}
pub use Rattle.cq_model.proofs.BuiltMeanings.{with_step, value_with, stands_value, given_values, derived_values}

-- lists that agree place by place
same_lists : {X : Type 0} (xs ys : List X) → length xs ≡ length ys → ((n : ℕ) (x y : X) → slice_get xs n ≡ Some x → slice_get ys n ≡ Some y → x ≡ y) → xs ≡ ys
same_lists [] [] e h = refl
same_lists [] (y ∷ ys) e h = absurd (omega (arith, e))
same_lists (x ∷ xs) [] e h = absurd (omega (arith, e))
same_lists (x ∷ xs) (y ∷ ys) e h =
    let first : x ≡ y = h 0 x y refl refl in
    let rest : xs ≡ ys = same_lists xs ys (omega (arith, e)) (λ n. h (suc n)) in
    λ i. first i ∷ rest i

module _ (S : Schema) (P : Presentation) (m : Content) (rows : List ℕ) (schema : IsSchema S) (presentation : IsPresentation S P) (closed : AreClosed S P m rows)
    (order : List (List ℕ)) (names : List (List EntTerm)) (numbers : List ℕ) (places : Places) (nodes : List Node) (equations : List (ℕ × ℕ)) (types : List ℕ)
    (built : IsBuilt S P m rows order names numbers places nodes equations types)
    (flat : Closure) (closure : IsClosureOf nodes equations flat) where
  abbrev G : Generators
  G = P.generators

  abbrev M : Tables
  M = tables_of S P m rows order numbers places types flat

  abbrev A : Assignment
  A = assignment_of S P m rows order numbers places flat.values

  abbrev T : List TypeTerm
  T = leaf_terms S P names ++ built.made

  abbrev Stands : TypeTerm → ℕ → Type 0
  Stands = StandsFor m rows places T

  abbrev value_here : ℕ → Value
  value_here = value_at flat.values

  abbrev Equal : TypeTerm → TypeTerm → Type 0
  Equal t u = Derives S P (Typ t) (Typ u)

  node_within : (p : ℕ) (t : TypeTerm) → slice_get T p ≡ Some t → p < length nodes
  node_within = nodes_say.node_within S P m rows schema presentation closed order names numbers places nodes equations types built flat closure

  node_ground : (p : ℕ) (t : TypeTerm) → slice_get T p ≡ Some t → (type : ℕ) × (type_of S G t ≡ Some type)
  node_ground = nodes_say.node_ground S P m rows schema presentation closed order names numbers places nodes equations types built flat closure

  term_at : (p : ℕ) → p < length nodes → (t : TypeTerm) × (slice_get T p ≡ Some t)
  term_at = nodes_say.term_at S P m rows schema presentation closed order names numbers places nodes equations types built flat closure

  stands_at : (t : TypeTerm) (p type : ℕ) → type_of S G t ≡ Some type → Stands t p → (u : TypeTerm) × (slice_get T p ≡ Some u) × Equal t u
  stands_at = nodes_say.stands_at S P m rows schema presentation closed order names numbers places nodes equations types built flat closure

  congruent_equal_terms : {a b : ℕ} → congruent.Congruent nodes equations a b → (t u : TypeTerm) → slice_get T a ≡ Some t → slice_get T b ≡ Some u → Equal t u
  congruent_equal_terms = nodes_say.congruent_derives S P m rows schema presentation closed order names numbers places nodes equations types built flat closure

  value_plain : (p : ℕ) → p < length nodes → IsPlain (value_here p)
  value_plain = closure_says.value_plain S P m rows schema presentation closed order names numbers places nodes equations types built flat closure

  typed_node : (p type : ℕ) (t : TypeTerm) → slice_get T p ≡ Some t → type_of S G t ≡ Some type → value_type S M.algebra.nulls (value_here p) ≡ Some type
  typed_node = closure_says.node_typed S P m rows schema presentation closed order names numbers places nodes equations types built flat closure

  counts_are : (e : ℕ) → count_of M e ≡ length (rows_at order e)
  counts_are = rows_say.counts_are S P m rows schema presentation closed order names numbers built.numbered places types flat

  reflexive : (t : TypeTerm) (type : ℕ) → type_of S G t ≡ Some type → Equal t t
  reflexive t type sort = Derives-reflexive S P (Typ t) (typed_ground S P schema presentation t type sort)

  through : (t u v : TypeTerm) → Equal t u → Equal u v → Equal t v
  through t u v d e = Derives-transitive S P (Typ t) (Typ u) (Typ v) d e

  back : (t u : TypeTerm) → Equal t u → Equal u t
  back t u d = Derives-symmetric S P (Typ t) (Typ u) d

  module _ (consistent : flat.clash ≡ None) where
    -- The columns and the algebra are well formed.

    pub cell_columns : (a : ℕ) (edge : Edge) → slice_get S.attributes a ≡ Some edge → IsCellColumn S M edge (slice_index_or M.sheet.cells a [])
    cell_columns a edge found =
        let cell : ℕ → Value = λ r. value_here (cell_place places r a) in
        let is : slice_index_or M.sheet.cells a [] ≡ map cell (rows_at order edge.from) = meanings_say.cells_are S P m rows schema presentation closed order names numbers places nodes equations types built flat closure a edge found in
        subst (IsCellColumn S M edge) (sym is) (
          length-map (rows_at order edge.from) cell ∙ sym (counts_are edge.from),
          All_from (λ v. (value_type S M.algebra.nulls v ≡ Some edge.to) × (normal_of M v ≡ v)) (map cell (rows_at order edge.from)) (λ k v h.
              let r : (r : ℕ) × (slice_get (rows_at order edge.from) k ≡ Some r) × (cell r ≡ v) = get-map_from cell (rows_at order edge.from) k v h in
              subst (λ (v : Value). (value_type S M.algebra.nulls v ≡ Some edge.to) × (normal_of M v ≡ v)) r.2 (at_row k r.0 r.1)),
        )
      where
        at_row : (k r : ℕ) → slice_get (rows_at order edge.from) k ≡ Some r
            → (value_type S M.algebra.nulls (value_here (cell_place places r a)) ≡ Some edge.to) × (normal_of M (value_here (cell_place places r a)) ≡ value_here (cell_place places r a))
        at_row k r h =
            let live = built.numbered.live edge.from k r h in
            let place = built.places_are.cell r a edge live.0 found (sym live.1) in
            let p : ℕ = cell_place places r a in
            let ground = node_ground p (term.Att a place.0) place.1 in
            let typed = typed_cell S G a place.0 ground.0 ground.1 in
            let same : typed.edge ≡ edge = one_at S.attributes a typed.edge edge typed.known found in
            let type : ground.0 ≡ edge.to = sym typed.to ∙ ap (λ (x : Edge). x.to) same in (
              typed_node p edge.to (term.Att a place.0) place.1 (ground.1 ∙ ap (λ n. Some n) type),
              plain_normal M (value_here p) (value_plain p (node_within p (term.Att a place.0) place.1)),
            )

    pub null_types : All (λ n. n < length S.typeside.types) M.algebra.nulls
    null_types = All_from (λ n. n < length S.typeside.types) M.algebra.nulls (λ k type h.
        let null : (p : ℕ) × (slice_get flat.nulls k ≡ Some p) × (slice_index types p ≡ type) = get-map_from (slice_index types) flat.nulls k type h in
        subst (λ n. n < length S.typeside.types) null.2 (at_node k null.0 null.1))
      where
        at_node : (k p : ℕ) → slice_get flat.nulls k ≡ Some p → slice_index types p < length S.typeside.types
        at_node k p h =
            let first = closure.labels.first k p h in
            let within : p < length nodes = omega (arith, slice_get_within flat.values p (value.Null k) first.has, closure.values.count) in
            let t = term_at p within in
            let ground = node_ground p t.0 t.1 in
            let is : slice_index types p ≡ ground.0 = closure_says.type_is S P m rows schema presentation closed order names numbers places nodes equations types built flat closure p ground.0 t.0 t.1 ground.1 in
            subst (λ n. n < length S.typeside.types) (sym is) (type_within S P schema presentation t.0 ground.0 ground.1)

    -- the values of a node's arguments have the types of their terms
    args_types : (ts : List TypeTerm) (ps : List ℕ) → EachTyped S G ts → EachStands m rows places T ts ps → map (value_type S M.algebra.nulls) (map value_here ps) ≡ map (type_of S G) ts
    args_types [] [] typed stands = refl
    args_types [] (p ∷ ps) typed stands = absurd stands
    args_types (t ∷ ts) [] typed stands = absurd stands
    args_types (t ∷ ts) (p ∷ ps) typed stands =
        let u = stands_at t p typed.0.0 typed.0.1 stands.0 in
        let sort : type_of S G u.0 ≡ Some typed.0.0 = one_type S P schema presentation t u.0 typed.0.0 u.2 typed.0.1 in
        let first : value_type S M.algebra.nulls (value_here p) ≡ type_of S G t = typed_node p typed.0.0 u.0 u.1 sort ∙ sym typed.0.1 in
        let rest : map (value_type S M.algebra.nulls) (map value_here ps) ≡ map (type_of S G) ts = args_types ts ps typed.1 stands.1 in
        λ i. first i ∷ rest i

    -- the entry of a node, of which the term is an application of a function
    sound_at : (entry : Entry) (at : IsEntryOf nodes flat.values entry) (ts : List TypeTerm) (type : ℕ) (function : Function) → type_of S G (term.Fun entry.function ts) ≡ Some type
        → slice_get T at.place ≡ Some (term.Fun entry.function ts) → EachStands m rows places T ts at.args
        → slice_get S.typeside.functions entry.function ≡ Some function → function.result ≡ type → IsSoundEntry S M entry
    sound_at entry at ts type function sort is stands known result =
        let within : at.place < length nodes = node_within at.place (term.Fun entry.function ts) is in
        record {
          function = function;
          known = known;
          plain = (
            subst (All IsPlain) (sym at.args_are)
                (closure_says.args_plain S P m rows schema presentation closed order names numbers places nodes equations types built flat closure at.args
                (closure_says.args_within S P m rows schema presentation closed order names numbers places nodes equations types built flat closure at.place entry.function at.args at.is)),
            subst IsPlain (sym at.value_is) (value_plain at.place within),
          );
          typed = values_say.fold-Fun (Option ℕ) (value_type_step S M.algebra.nulls) entry.function entry.args
              ∙ ap (applied_type (slice_get S.typeside.functions entry.function))
              (ap (map (value_type S M.algebra.nulls)) at.args_are ∙ args_types ts at.args (args_typed S G entry.function ts type sort) stands)
              ∙ sym (fold-Fun (Option ℕ) (type_step S G) entry.function ts) ∙ sort ∙ ap (λ n. Some n) (sym result);
          same_type = ap (value_type S M.algebra.nulls) at.value_is ∙ typed_node at.place type (term.Fun entry.function ts) is sort ∙ ap (λ n. Some n) (sym result);
        }

    sound_entry : (k : ℕ) (entry : Entry) → slice_get flat.entries k ≡ Some entry → IsSoundEntry S M entry
    sound_entry k entry h =
        let at = entry_node nodes flat.values entry (record { place = k; is = ap (λ es. slice_get es k) (sym closure.entries) ∙ h }) in
        let t = term_at at.place (slice_get_within nodes at.place (node.Fun entry.function at.args) at.is) in
        let parts = nodes_say.function_at S P m rows schema presentation closed order names numbers places nodes equations types built flat closure at.place entry.function at.args t.0 t.1 at.is in
        let ground = node_ground at.place t.0 t.1 in
        let sort : type_of S G (term.Fun entry.function parts.0) ≡ Some ground.0 = subst (λ (u : TypeTerm). type_of S G u ≡ Some ground.0) parts.1 ground.1 in
        let found = typed_function S G entry.function parts.0 ground.0 sort in
        sound_at entry at parts.0 ground.0 found.0 sort (t.1 ∙ ap (λ (u : TypeTerm). Some u) parts.1) parts.2 found.1 found.3

    pub sound_entries : All (IsSoundEntry S M) M.algebra.entries
    sound_entries = All_from (IsSoundEntry S M) flat.entries sound_entry

    pub distinct_entries : AllPairs (λ e f. e.function ≡ f.function → e.args ≡ f.args → ⊥) M.algebra.entries
    distinct_entries i j d less within function args =
        let at : slice_get flat.entries i ≡ Some (slice_index_or flat.entries i d) = slice_get-get_or flat.entries i d (omega arith) in
        let at' : slice_get flat.entries j ≡ Some (slice_index_or flat.entries j d) = slice_get-get_or flat.entries j d within in
        let e : Entry = slice_index_or flat.entries i d in
        let e' : Entry = slice_index_or flat.entries j d in
        let apart = entries_apart nodes flat.values i j e e' less (ap (λ es. slice_get es i) (sym closure.entries) ∙ at) (ap (λ es. slice_get es j) (sym closure.entries) ∙ at') in
        let alike = is_for_from e.function e.args e' (sym function) (sym args) (sound_entry i e at).plain.0 in
        let wrong : true ≡ false = sym alike ∙ apart in
        cc

    pub generator_values : (n type : ℕ) → type_at (slice_get G n) ≡ Some type → HasSort S M (Plain type) (slice_index_or A n (AtRow 0))
    generator_values n type found =
        let p : ℕ = slice_index places.generators n in
        let place : slice_get T p ≡ Some (term.Gen n) = built.places_are.generator n type found in
        subst (HasSort S M (Plain type)) (sym (meanings_say.type_generator S P m rows schema presentation closed order names numbers places nodes equations types built flat closure n type found)) (
          typed_node p type (term.Gen n) place (fold-Gen (Option ℕ) (type_step S G) n ∙ found),
          plain_normal M (value_here p) (value_plain p (node_within p (term.Gen n) place)),
        )

    -- What terms mean, without a clash.

    constants_differ : (c d : Con) → AreEqualConstants nodes equations c d → c ≡ d
    constants_differ = MatchOption-at_none ((c d : Con) → AreEqualConstants nodes equations c d → c ≡ d) (IsLeastClash nodes equations) consistent closure.clash

    -- a constant is its own value
    agree : (p : ℕ) (c : Con) → slice_get nodes p ≡ Some (node.Const c) → value.Const c ≡ value_here p
    agree p c h =
        let within = slice_get_within nodes p (node.Const c) h in
        let least : IsLeastConstant nodes equations p c = record {
          has = record { at = p; is = h; equal = congruent.reflexive p within };
          least = λ d has. let same : c ≡ d = constants_differ c d (record { left = p; right = has.at; left_is = h; right_is = has.is; equal = has.equal }) in subst (IsAtMost c) same (at_most-itself c);
        } in
        sym (get_or_from_slice_get flat.values p (value.Const c) (value.Const (Named 0)) ((closure.values.constant p c within).1 least))

    abbrev value_with_constants : TypeTerm → Value
    value_with_constants = meanings_say.value_with S P m rows schema presentation closed order names numbers places nodes equations types built flat closure value.Const agree

    same_step : (l : layer.TypeTerm-F Value)
        → meanings_say.with_step S P m rows schema presentation closed order names numbers places nodes equations types built flat closure value.Const agree l ≡ value_step M A l
    same_step (layer.Gen n) = refl
    same_step (layer.Const c) = refl
    same_step (layer.Att a t) = refl
    same_step (layer.Fun f args) = refl

    value_with_is : (t : TypeTerm) → value_with_constants t ≡ value_of M A t
    value_with_is t = ap (λ (step : layer.TypeTerm-F Value → Value). fold-TypeTerm Value step t) (λ i l. same_step l i)

    pub derived_value_of : (t u : TypeTerm) → Equal t u → value_of M A t ≡ value_of M A u
    derived_value_of t u d =
        sym (value_with_is t)
        ∙ meanings_say.derived_values S P m rows schema presentation closed order names numbers places nodes equations types built flat closure value.Const agree t u d
        ∙ value_with_is u

    -- a term has the value of a node that stands for it
    pub stands_value_of : (t : TypeTerm) (p type : ℕ) → type_of S G t ≡ Some type → Stands t p → value_of M A t ≡ value_here p
    stands_value_of t p type sort stands =
        sym (value_with_is t)
        ∙ meanings_say.stands_value S P m rows schema presentation closed order names numbers places nodes equations types built flat closure value.Const agree t p type sort stands

    pub node_value : (p : ℕ) (t : TypeTerm) → slice_get T p ≡ Some t → value_of M A t ≡ value_here p
    node_value p t h = let ground = node_ground p t h in stands_value_of t p ground.0 ground.1 (built.places_are.own p t h)

    pub node_values : map (value_of M A) T ≡ flat.values
    node_values = same_lists (map (value_of M A) T) flat.values (length-map T (value_of M A) ∙ sym built.nodes_are.count ∙ sym closure.values.count) (λ p v w h h'.
        let t : (t : TypeTerm) × (slice_get T p ≡ Some t) × (value_of M A t ≡ v) = get-map_from (value_of M A) T p v h in
        sym t.2 ∙ node_value p t.0 t.1 ∙ get_or_from_slice_get flat.values p w (value.Const (Named 0)) h')

    -- a value as a term
    abbrev term_step : value_layer.Value-F TypeTerm → TypeTerm
    term_step (value_layer.Const c) = term.Const c
    term_step (value_layer.Null n) = slice_index_or T (slice_index flat.nulls n) (term.Const (Named 0))
    term_step (value_layer.Fun f args) = term.Fun f args

    abbrev pub term_in : Value → TypeTerm
    term_in = fold-Value TypeTerm term_step

    -- a node's term equals the term of the node's value
    node_derives : (p : ℕ) (t : TypeTerm) → slice_get T p ≡ Some t → Equal t (term_in (value_here p))
    node_derives p t h =
        let l = node_within p t h in
        elim (plain_cases (value_here p) (value_plain p l)) [
          | inl constant ↦
              let at = closure_says.constant_of S P m rows schema presentation closed order names numbers places nodes equations types built flat closure p constant.0 l constant.1 in
              let is : term_in (value_here p) ≡ term.Const constant.0 = ap term_in constant.1 ∙ values_say.fold-Const TypeTerm term_step constant.0 in
              subst (Equal t) (sym is) (closure_says.constant_equal S P m rows schema presentation closed order names numbers places nodes equations types built flat closure p constant.0 t at h)
          | inr null ↦
              let at = closure_says.null_of S P m rows schema presentation closed order names numbers places nodes equations types built flat closure p null.0 l null.1 in
              let u = term_at at.at at.within in
              let is : term_in (value_here p) ≡ u.0 = ap term_in null.1 ∙ values_say.fold-Null TypeTerm term_step null.0
              ∙ ap (λ k. slice_index_or T k (term.Const (Named 0))) (get_or_from_slice_get flat.nulls null.0 at.at 0 at.first) ∙ get_or_from_slice_get T at.at u.0 (term.Const (Named 0)) u.1 in
              subst (Equal t) (sym is) (congruent_equal_terms at.equal t u.0 h u.1)
        ]

    abbrev HasTerm : TypeTerm → Type 0
    HasTerm t = (type : ℕ) → type_of S G t ≡ Some type → Equal t (term_in (value_of M A t))

    -- where a node stands for the term
    stood : (t : TypeTerm) (p type : ℕ) → type_of S G t ≡ Some type → Stands t p → Equal t (term_in (value_of M A t))
    stood t p type sort stands =
        let u = stands_at t p type sort stands in
        subst (λ (v : Value). Equal t (term_in v)) (sym (stands_value_of t p type sort stands)) (through t u.0 (term_in (value_here p)) u.2 (node_derives p u.0 u.1))

    args_derive : (ts : List TypeTerm) → Each HasTerm ts → EachTyped S G ts → EachDerives S P ts (map term_in (map (value_of M A) ts))
    args_derive [] each typed = tt
    args_derive (t ∷ ts) each typed = (each.0 typed.0.0 typed.0.1, args_derive ts each.1 typed.1)

    -- terms with the values of the nodes that stand for other terms
    args_meet : (ts us : List TypeTerm) (ps : List ℕ) → Each HasTerm ts → EachTyped S G ts → EachTyped S G us → EachStands m rows places T us ps
        → map (value_of M A) ts ≡ map value_here ps → EachDerives S P ts us
    args_meet [] [] ps each typed typed' stands e = tt
    args_meet [] (u ∷ us) [] each typed typed' stands e = absurd stands
    args_meet [] (u ∷ us) (p ∷ ps) each typed typed' stands e = cc
    args_meet (t ∷ ts) us [] each typed typed' stands e = cc
    args_meet (t ∷ ts) [] (p ∷ ps) each typed typed' stands e = absurd stands
    args_meet (t ∷ ts) (u ∷ us) (p ∷ ps) each typed typed' stands e =
        let head : value_of M A t ≡ value_here p = cc in
        let tail : map (value_of M A) ts ≡ map value_here ps = cc in
        let w = stands_at u p typed'.0.0 typed'.0.1 stands.0 in
        let own : Equal t (term_in (value_here p)) = subst (λ (v : Value). Equal t (term_in v)) head (each.0 typed.0.0 typed.0.1) in
        let other : Equal u (term_in (value_here p)) = through u w.0 (term_in (value_here p)) w.2 (node_derives p w.0 w.1) in
        (through t (term_in (value_here p)) u own (back u (term_in (value_here p)) other), args_meet ts us ps each.1 typed.1 typed'.1 stands.1 tail)

    application_derives : (f : ℕ) (ts : List TypeTerm) → Each HasTerm ts → HasTerm (term.Fun f ts)
    application_derives f ts each type sort =
        subst (λ (v : Value). Equal (term.Fun f ts) (term_in v)) (sym (fold-Fun Value (value_step M A) f ts)) (go (map (value_of M A) ts) refl (find (is_for f (map (value_of M A) ts)) flat.entries) refl)
      where
        go : (vs : List Value) → map (value_of M A) ts ≡ vs → (o : Option Entry) → find (is_for f vs) flat.entries ≡ o → Equal (term.Fun f ts) (term_in (applied M f vs))
        go vs own None h =
            let is : term_in (applied M f vs) ≡ term.Fun f (map term_in vs) = ap (λ o. term_in (entry_or_built o f vs)) h ∙ values_say.fold-Fun TypeTerm term_step f vs in
            subst (Equal (term.Fun f ts)) (sym is)
            (Derives-function S P f ts (map term_in vs) (subst (λ ws. EachDerives S P ts (map term_in ws)) own (args_derive ts each (args_typed S G f ts type sort))) (typed_ground S P schema presentation (term.Fun f ts) type sort))
        go vs own (Some entry) h =
            let at = closure_says.found_at S P m rows schema presentation closed order names numbers places nodes equations types built flat closure f vs entry h in
            let u = term_at at.place (slice_get_within nodes at.place (node.Fun f at.args) at.is) in
            let parts = nodes_say.function_at S P m rows schema presentation closed order names numbers places nodes equations types built flat closure at.place f at.args u.0 u.1 at.is in
            let ground = node_ground at.place u.0 u.1 in
            let sort' : type_of S G (term.Fun f parts.0) ≡ Some ground.0 = ap (type_of S G) (sym parts.1) ∙ ground.1 in
            let equal : Equal (term.Fun f ts) (term.Fun f parts.0) =
            Derives-function S P f ts parts.0 (args_meet ts parts.0 at.args each (args_typed S G f ts type sort) (args_typed S G f parts.0 ground.0 sort') parts.2 (own ∙ at.args_are))
            (typed_ground S P schema presentation (term.Fun f ts) type sort) in
            subst (λ (v : Value). Equal (term.Fun f ts) (term_in v)) (sym at.gives)
            (through (term.Fun f ts) u.0 (term_in (value_here at.place)) (subst (Equal (term.Fun f ts)) (sym parts.1) equal) (node_derives at.place u.0 u.1))

    -- each term equals the term of its value
    pub value_derives : (t : TypeTerm) (type : ℕ) → type_of S G t ≡ Some type → Equal t (term_in (value_of M A t))
    value_derives = on_terms HasTerm
        (λ n type sort. stood (term.Gen n) (slice_index places.generators n) type sort (subst (λ l. StandsAt m rows places T l (slice_index places.generators n)) (sym (out-Gen n)) refl))
        (λ c type sort. subst (Equal (term.Const c)) (sym (ap term_in (fold-Const Value (value_step M A) c) ∙ values_say.fold-Const TypeTerm term_step c)) (reflexive (term.Const c) type sort))
        (λ a t type sort.
        let cell = typed_cell S G a t type sort in
        let led = rows_say.leads S P m rows schema presentation closed order names numbers built.numbered places types flat t cell.edge.from cell.of_entity in
        stood (term.Att a t) (cell_place places led.0 a) type sort (subst (λ l. StandsAt m rows places T l (cell_place places led.0 a)) (sym (out-Att a t)) (led.0, led.1, refl)))
        application_derives

    -- terms of one value are derivably equal
    pub one_value_derives : (t u : TypeTerm) (type : ℕ) → type_of S G t ≡ Some type → type_of S G u ≡ Some type → value_of M A t ≡ value_of M A u → Equal t u
    one_value_derives t u type sort sort' same =
        through t (term_in (value_of M A u)) u (subst (λ (v : Value). Equal t (term_in v)) same (value_derives t type sort)) (back u (term_in (value_of M A u)) (value_derives u type sort'))

    pub observations_hold : (n : ℕ) (e : ObsEq) → slice_get S.obs_eqs n ≡ Some e
        → (row : ℕ) → row < count_of M e.entity → value_of M (AtRow row ∷ []) e.left ≡ value_of M (AtRow row ∷ []) e.right
    observations_hold n e found row within =
        let named = meanings_say.named_row S P m rows schema presentation closed order names numbers places nodes equations types built flat closure e.entity row within in
        let sides = schema.obs_eqs n e found in
        let left : TypeTerm = substituted named.name e.left in
        let right : TypeTerm = substituted named.name e.right in
        let same : value_with_constants left ≡ value_with_constants right =
        meanings_say.observation_values S P m rows schema presentation closed order names numbers places nodes equations types built flat closure value.Const agree n e named.name found named.in_names in
        sym (value_of-substituted S M A named.name e.entity row named.of_row e.left sides.type sides.left)
        ∙ sym (value_with_is left) ∙ same ∙ value_with_is right
        ∙ value_of-substituted S M A named.name e.entity row named.of_row e.right sides.type sides.right
