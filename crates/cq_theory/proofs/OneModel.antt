-- Two models that are listed for one presentation are equal.
use Rattle.std.proofs.Common.{ℕ, Bool, false, List, [], ◌∷◌, ◌++◌, Option, Some, None, ◌≡◌, ◌<◌, ◌≤◌, ◌+◌, ◌==◌, ◌↔◌, if◌then◌else◌, inl, inr, map, filter, length, refl, sym, ap, subst, ◌∙◌, slice_index_or, arith}
use Rattle.std.specs.Prelude.{slice_get, option_map, option_and_then, nat_eq}
use Rattle.std.specs.List.{flat_map, enumerate_from, filter_map, cons_option}
use Rattle.std.specs.Ordering.{is_gt}
use Rattle.std.proofs.lemmas.Bool.{eq-eqb}
use Rattle.std.proofs.lemmas.Option.{slice_get_within, slice_get_cases, get_or_from_slice_get}
use Rattle.cq_theory.specs.declared.constant.Con.{Con}
use Rattle.cq_theory.specs.declared.constant.Con.TheVariants.{Named}
use Rattle.cq_theory.specs.declared.presentation.Presentation.{Presentation}
use Rattle.cq_base.specs.declared.name.Name.{Name}
use Rattle.cq_theory.specs.declared.presentation.Sort.{Sort}
use Rattle.cq_theory.specs.declared.presentation.Sort.TheVariants.{Plain, Entity}
use Rattle.cq_theory.specs.declared.schema.Edge.{Edge}
use Rattle.cq_theory.specs.declared.schema.ObsEq.{ObsEq}
use Rattle.cq_theory.specs.SchemaData.{SchemaData as Schema}
use Rattle.cq_theory.specs.declared.term.EntTerm.{EntTerm}
use Rattle.cq_theory.specs.declared.term.TypeTerm.{TypeTerm}
use Rattle.cq_theory.specs.declared.term.TypeTerm.TheVariants as term
use Rattle.cq_theory.specs.declared.term.TypeTerm.TheOpen as layer
use Rattle.cq_theory.specs.declared.term.TypeTerm.TheViews.{out-TypeTerm, out-roll-TypeTerm}
use Rattle.cq_theory.specs.declared.term.Term.TheVariants.{Ent, Typ}
use Rattle.cq_theory.specs.declared.value.Value.{Value}
use Rattle.cq_theory.specs.declared.value.Value.TheVariants.{Const, Null}
use Rattle.cq_theory.specs.EntTerm.{extended}
use Rattle.cq_theory.specs.TypeTerm.{substituted}
use Rattle.cq_theory.specs.Sorts.{followed, target_of, entity_at, entity_of, type_of, type_step}
use Rattle.cq_theory.specs.Schema.{IsSchema}
use Rattle.cq_theory.specs.Presentation.{IsPresentation}
use Rattle.cq_theory.specs.Derivation.{Derives}
use Rattle.cq_theory.specs.Canonical.{below, edges_from}
use Rattle.cq_theory.specs.Tables.{Tables, Meaning, AtRow, AtValue, Assignment, row_in, value_in, count_of, key_at, cell_at, row_of, value_of, value_step, is_for, value_type, value_type_step, HasSort, IsPlain, Holds}
use Rattle.cq_theory.specs.Listed.{term_cmp, subterms, firsts, names_of, cell_nodes, generator_node, equation_nodes, observation_nodes, nodes, null_label, node_entry, IsLeastName, Lists}
use Rattle.cq_theory.proofs.TypeTerms.{fold-Gen, fold-Const, fold-Att, Each}
use Rattle.cq_theory.proofs.Values as values
use Rattle.cq_theory.proofs.OnValues.{All_at}
use Rattle.cq_theory.proofs.Sound.{row_of-within, row_from-append}
use Rattle.cq_theory.proofs.Closings.{entity_of-extended}
use Rattle.cq_theory.proofs.Orders.{IsIn, IsBefore, one_order, before-irreflexive, before-asymmetric, both_least, same_lists}
use Rattle.cq_theory.proofs.Typing.{value_typed}
use Rattle.cq_theory.proofs.Labels.{Aligned, BothLabelled, aligned-cons, aligned-firsts, diagonal}
use Rattle.cq_theory.proofs.Every.{Every, Every-from_All, Every-parts, Every-in_flat_map, Every-in_filter_map, Every-unmap, Every-in_filter, Every-weaker, Every-both, enumerated, at_range}
use Rattle.cq_theory.proofs.NodeLists.{HasType, nodes_typed, nodes_pass}

pub out-Gen : (n : ℕ) → out-TypeTerm (term.Gen n) ≡ layer.Gen n
out-Gen n = ap out-TypeTerm (sym (term.rolls-Gen n)) ∙ out-roll-TypeTerm (layer.Gen n)

out-Const : (c : Con) → out-TypeTerm (term.Const c) ≡ layer.Const c
out-Const c = ap out-TypeTerm (sym (term.rolls-Const c)) ∙ out-roll-TypeTerm (layer.Const c)

out-Att : (a : ℕ) (t : EntTerm) → out-TypeTerm (term.Att a t) ≡ layer.Att a t
out-Att a t = ap out-TypeTerm (sym (term.rolls-Att a t)) ∙ out-roll-TypeTerm (layer.Att a t)

pub out-Fun : (f : ℕ) (ts : List TypeTerm) → out-TypeTerm (term.Fun f ts) ≡ layer.Fun f ts
out-Fun f ts = ap out-TypeTerm (sym (term.rolls-Fun f ts)) ∙ out-roll-TypeTerm (layer.Fun f ts)

same_null : (x y : ℕ) → Null x ≡ Null y → x ≡ y
same_null x y h = cc

no_null : (c : Con) (y : ℕ) → Const c ≡ Null y → ⊥
no_null c y h = cc

same_member : {X : Type 0} (o : Option X) (x y : X) → o ≡ Some x → o ≡ Some y → x ≡ y
same_member o x y h h' = cc

module _ (S : Schema) (P : Presentation) where
  -- t is the least of the terms that are derivably equal to it
  abbrev IsLeast : ℕ → EntTerm → Type 0
  IsLeast e t = (entity_of S P.generators t ≡ Some e) × ((u : EntTerm) → entity_of S P.generators u ≡ Some e → Derives S P (Ent u) (Ent t) → is_gt (term_cmp t u) ≡ false)

  -- what one listed model says in terms of derivations alone
  module _ (M : Tables) (A : Assignment) (m : Lists S P M A) where
    rows_derived : (t u : EntTerm) (e : ℕ) → entity_of S P.generators t ≡ Some e → entity_of S P.generators u ≡ Some e → row_of M A t ≡ row_of M A u → Derives S P (Ent t) (Ent u)
    rows_derived t u e h h' same = (m.initial.equal (Ent t) (Ent u) (Entity e) (ap (option_map Entity) h) (ap (option_map Entity) h')).0 (ap AtRow same)

    derived_rows : (t u : EntTerm) (e : ℕ) → entity_of S P.generators t ≡ Some e → entity_of S P.generators u ≡ Some e → Derives S P (Ent t) (Ent u) → row_of M A t ≡ row_of M A u
    derived_rows t u e h h' d = ap row_in ((m.initial.equal (Ent t) (Ent u) (Entity e) (ap (option_map Entity) h) (ap (option_map Entity) h')).1 d)

    values_derived : (t u : TypeTerm) (type : ℕ) → type_of S P.generators t ≡ Some type → type_of S P.generators u ≡ Some type → value_of M A t ≡ value_of M A u → Derives S P (Typ t) (Typ u)
    values_derived t u type h h' same = (m.initial.equal (Typ t) (Typ u) (Plain type) (ap (option_map Plain) h) (ap (option_map Plain) h')).0 (ap AtValue same)

    derived_values : (t u : TypeTerm) (type : ℕ) → type_of S P.generators t ≡ Some type → type_of S P.generators u ≡ Some type → Derives S P (Typ t) (Typ u) → value_of M A t ≡ value_of M A u
    derived_values t u type h h' d = ap value_in ((m.initial.equal (Typ t) (Typ u) (Plain type) (ap (option_map Plain) h) (ap (option_map Plain) h')).1 d)

    name_at : (e row : ℕ) (t : EntTerm) → slice_get (slice_index_or m.names e []) row ≡ Some t → IsLeastName S P M A e row t
    name_at e row t at =
        let within : row < count_of M e = subst (λ n. row < n) (m.counted e) (slice_get_within (slice_index_or m.names e []) row t at) in
        let named = m.named e row within in
        subst (IsLeastName S P M A e row) (same_member (slice_get (slice_index_or m.names e []) row) named.0 t named.1 at) named.2

    name_least : (e row : ℕ) (t : EntTerm) → slice_get (slice_index_or m.names e []) row ≡ Some t → IsLeast e t
    name_least e row t at =
        let name = name_at e row t at in
        (name.of_entity, λ u h d. name.least u h (derived_rows u t e h name.of_entity d ∙ name.of_row))

    -- the name of the row of a term, and the term derivably equals it
    name_of_row : (e : ℕ) (t : EntTerm) → entity_of S P.generators t ≡ Some e
        → (u : EntTerm) × (slice_get (slice_index_or m.names e []) (row_of M A t) ≡ Some u) × IsLeastName S P M A e (row_of M A t) u
    name_of_row e t h = m.named e (row_of M A t) (row_of-within S P M A m.initial.holds t e h)

    least_named : (e : ℕ) (t : EntTerm) → IsLeast e t → IsIn t (slice_index_or m.names e [])
    least_named e t h =
        let name = name_of_row e t h.0 in
        let to_name : is_gt (term_cmp t name.0) ≡ false = h.1 name.0 name.2.of_entity (rows_derived name.0 t e name.2.of_entity h.0 name.2.of_row) in
        let same : t ≡ name.0 = both_least t name.0 to_name (name.2.least t h.0 refl) in
        (row_of M A t, name.1 ∙ ap (λ (u : EntTerm). Some u) (sym same))

  module _ (schema : IsSchema S) (presentation : IsPresentation S P) (M N : Tables) (A B : Assignment) (m : Lists S P M A) (n : Lists S P N B) where
    -- the rows of an entity have the same names
    pub same_names : (e : ℕ) → names_of S P m.names e ≡ names_of S P n.names e
    same_names e = one_order IsBefore before-irreflexive before-asymmetric (names_of S P m.names e) (names_of S P n.names e)
        (λ i j t u less at at'. m.ordered e i j t u less at at') (λ i j t u less at at'. n.ordered e i j t u less at at')
        (λ row t at. least_named N B n e t (name_least M A m e row t at)) (λ row t at. least_named M A m e t (name_least N B n e row t at))

    -- so the lists of all names are equal too
    pub same_lists_of_names : m.names ≡ n.names
    same_lists_of_names = same_lists [] m.names n.names (m.entities ∙ sym n.entities) (λ e within. same_names e)

    same_count : (e : ℕ) → count_of M e ≡ count_of N e
    same_count e = sym (m.counted e) ∙ ap length (same_names e) ∙ n.counted e

    -- a term names the same row in both
    same_row : (t : EntTerm) (e : ℕ) → entity_of S P.generators t ≡ Some e → row_of M A t ≡ row_of N B t
    same_row t e h =
        let name = name_of_row M A m e t h in
        let derived : Derives S P (Ent name.0) (Ent t) = rows_derived M A m name.0 t e name.2.of_entity h name.2.of_row in
        let there : slice_get (slice_index_or n.names e []) (row_of M A t) ≡ Some name.0 = ap (λ l. slice_get l (row_of M A t)) (sym (same_names e)) ∙ name.1 in
        let other = name_at N B n e (row_of M A t) name.0 there in
        sym other.of_row ∙ derived_rows N B n name.0 t e name.2.of_entity h derived

    same_nodes : nodes S P m.names ≡ nodes S P n.names
    same_nodes = ap (λ (own : ℕ → List EntTerm).
        flat_map (λ entity. flat_map (λ t. map (λ (a : ℕ × Edge). term.Att a.0 t) (edges_from entity S.attributes)) (own entity)) (below (length S.entities))
        ++ filter_map (generator_node S P m.names) (enumerate_from 0 P.generators)
        ++ flat_map (equation_nodes S P m.names) P.equations
        ++ flat_map (λ entity. flat_map (λ t. flat_map (λ e. subterms (substituted t e.left) ++ subterms (substituted t e.right)) (filter (λ (e : ObsEq). e.entity == entity) S.obs_eqs)) (own entity)) (below (length S.entities)))
        (λ i e. same_names e i)

    -- a label of the one model and one of the other that name one value
    abbrev Related : ℕ → ℕ → Type 0
    Related x y = (t : TypeTerm) × (type : ℕ) × (type_of S P.generators t ≡ Some type) × (value_of M A t ≡ Null x) × (value_of N B t ≡ Null y)

  label_type : (M : Tables) (A : Assignment) (holds : Holds S P M A) (t : TypeTerm) (type x : ℕ) → type_of S P.generators t ≡ Some type → value_of M A t ≡ Null x → slice_get M.algebra.nulls x ≡ Some type
  label_type M A holds t type x h e =
      sym (values.fold-Null (Option ℕ) (value_type_step S M.algebra.nulls) x) ∙ ap (value_type S M.algebra.nulls) (sym e) ∙ value_typed S P M A holds t type h

  -- terms with one label in the one model have one in the other
  carried : (M N : Tables) (A B : Assignment) (m : Lists S P M A) (n : Lists S P N B) (t u : TypeTerm) (type type' x y y' : ℕ)
      → type_of S P.generators t ≡ Some type → type_of S P.generators u ≡ Some type' → value_of M A t ≡ Null x → value_of M A u ≡ Null x
      → value_of N B t ≡ Null y → value_of N B u ≡ Null y' → y ≡ y'
  carried M N A B m n t u type type' x y y' h h' at at' there there' =
      let first = label_type M A m.initial.holds t type x h at in
      let second = label_type M A m.initial.holds u type' x h' at' in
      let one : type' ≡ type = same_member (slice_get M.algebra.nulls x) type' type second first in
      let typed : type_of S P.generators u ≡ Some type = h' ∙ ap (λ k. Some k) one in
      let derived : Derives S P (Typ t) (Typ u) = values_derived M A m t u type h typed (at ∙ sym at') in
      same_null y y' (sym there ∙ derived_values N B n t u type h typed derived ∙ there')

  -- a term that means a constant in the one model means it in the other
  constant_too : (M N : Tables) (A B : Assignment) (m : Lists S P M A) (n : Lists S P N B) (t : TypeTerm) (type : ℕ) (c : Con) → type_of S P.generators t ≡ Some type → value_of M A t ≡ Const c → value_of N B t ≡ Const c
  constant_too M N A B m n t type c h at =
      let typed : type_of S P.generators (term.Const c) ≡ Some type =
      fold-Const (Option ℕ) (type_step S P.generators) c ∙ sym (values.fold-Const (Option ℕ) (value_type_step S M.algebra.nulls) c)
      ∙ ap (value_type S M.algebra.nulls) (sym at) ∙ value_typed S P M A m.initial.holds t type h in
      let here : value_of M A (term.Const c) ≡ Const c = fold-Const Value (value_step M A) c in
      let there : value_of N B (term.Const c) ≡ Const c = fold-Const Value (value_step N B) c in
      derived_values N B n t (term.Const c) type h typed (values_derived M A m t (term.Const c) type h typed (at ∙ sym here)) ∙ there

  module _ (schema : IsSchema S) (presentation : IsPresentation S P) (M N : Tables) (A B : Assignment) (m : Lists S P M A) (n : Lists S P N B) where
    abbrev R : ℕ → ℕ → Type 0
    R = Related schema presentation M N A B m n

    one_each : (x x' y y' : ℕ) → R x y → R x' y' → (x ≡ x') ↔ (y ≡ y')
    one_each x x' y y' r r' = (
      λ e. carried M N A B m n r.0 r'.0 r.1 r'.1 x y y' r.2 r'.2 r.3 (r'.3 ∙ ap Null (sym e)) r.4 r'.4,
      λ e. carried N M B A n m r.0 r'.0 r.1 r'.1 y x x' r.2 r'.2 r.4 (r'.4 ∙ ap Null (sym e)) r.3 r'.3,
    )

    labelled : (t : TypeTerm) → HasType S P t → (v w : Value) → value_of M A t ≡ v → value_of N B t ≡ w → IsPlain v → IsPlain w → BothLabelled R (null_label v) (null_label w)
    labelled t h (Const c) (Const d) at there p q = tt
    labelled t h (Null x) (Null y) at there p q = (t, h.0, h.1, at, there)
    labelled t h (Const c) (Null y) at there p q = absurd (no_null c y (sym (constant_too M N A B m n t h.0 c h.1 at) ∙ there))
    labelled t h (Null x) (Const d) at there p q = absurd (no_null d x (sym (constant_too N M B A n m t h.0 d h.1 there) ∙ at))
    labelled t h (Const c) _ at there p q = absurd q
    labelled t h (Null x) _ at there p q = absurd q
    labelled t h _ w at there p q = absurd p

    abbrev IsGood : TypeTerm → Type 0
    IsGood t = HasType S P t × (IsPlain (value_of M A t) × IsPlain (value_of N B t))

    abbrev all_nodes : List TypeTerm
    all_nodes = nodes S P m.names

    good : Every IsGood all_nodes
    good =
        let plain' : Every (λ t. IsPlain (value_of N B t)) all_nodes =
        subst (Every (λ t. IsPlain (value_of N B t))) (sym (same_nodes schema presentation M N A B m n)) (Every-from_All (λ t. IsPlain (value_of N B t)) (nodes S P n.names) n.plain) in
        Every-both (HasType S P) (λ t. IsPlain (value_of M A t) × IsPlain (value_of N B t)) all_nodes
        (nodes_typed S P schema presentation m.names (λ e row t at. (name_at M A m e row t at).of_entity))
        (Every-both (λ t. IsPlain (value_of M A t)) (λ t. IsPlain (value_of N B t)) all_nodes (Every-from_All (λ t. IsPlain (value_of M A t)) all_nodes m.plain) plain')

    aligned : (ts : List TypeTerm) → Every IsGood ts → Aligned R (filter_map (λ t. null_label (value_of M A t)) ts) (filter_map (λ t. null_label (value_of N B t)) ts)
    aligned [] h = tt
    aligned (t ∷ ts) h =
        aligned-cons R (null_label (value_of M A t)) (null_label (value_of N B t)) (filter_map (λ t. null_label (value_of M A t)) ts) (filter_map (λ t. null_label (value_of N B t)) ts)
        (labelled t h.0.0 (value_of M A t) (value_of N B t) refl refl h.0.1.0 h.0.1.1) (aligned ts h.1)

    matched : (length M.algebra.nulls ≡ length N.algebra.nulls) × ((k : ℕ) → 0 ≤ k → k < 0 + length M.algebra.nulls → R k k)
    matched =
        let there : firsts nat_eq (filter_map (λ t. null_label (value_of N B t)) all_nodes) ≡ below (length N.algebra.nulls) =
        ap (λ (l : List TypeTerm). firsts nat_eq (filter_map (λ t. null_label (value_of N B t)) l)) (same_nodes schema presentation M N A B m n) ∙ n.nulls in
        let both : Aligned R (firsts nat_eq (filter_map (λ t. null_label (value_of M A t)) all_nodes)) (firsts nat_eq (filter_map (λ t. null_label (value_of N B t)) all_nodes)) =
        aligned-firsts R one_each _ _ (aligned all_nodes good) in
        diagonal R 0 (length M.algebra.nulls) (length N.algebra.nulls)
        (subst (λ l. Aligned R l (below (length N.algebra.nulls))) m.nulls (subst (Aligned R (firsts nat_eq (filter_map (λ t. null_label (value_of M A t)) all_nodes))) there both))

    itself : (k : ℕ) → k < length M.algebra.nulls → R k k
    itself k h = matched.1 k (omega arith) (omega arith)

    pub same_nulls : M.algebra.nulls ≡ N.algebra.nulls
    same_nulls = same_lists 0 M.algebra.nulls N.algebra.nulls matched.0 (λ k h.
        let r = itself k h in
        get_or_from_slice_get M.algebra.nulls k r.1 0 (label_type M A m.initial.holds r.0 r.1 k r.2 r.3)
        ∙ sym (get_or_from_slice_get N.algebra.nulls k r.1 0 (label_type N B n.initial.holds r.0 r.1 k r.2 r.4)))

    same_value_at : (t : TypeTerm) → HasType S P t → (v w : Value) → value_of M A t ≡ v → value_of N B t ≡ w → IsPlain v → IsPlain w → v ≡ w
    same_value_at t h (Const c) w at there p q = sym (constant_too M N A B m n t h.0 c h.1 at) ∙ there
    same_value_at t h (Null x) (Null y) at there p q =
        let within : x < length M.algebra.nulls = slice_get_within M.algebra.nulls x h.0 (label_type M A m.initial.holds t h.0 x h.1 at) in
        let related : R x y = (t, h.0, h.1, at, there) in
        ap Null ((one_each x x x y (itself x within) related).0 refl)
    same_value_at t h (Null x) (Const d) at there p q = absurd (no_null d x (sym (constant_too N M B A n m t h.0 d h.1 there) ∙ at))
    same_value_at t h (Null x) _ at there p q = absurd q
    same_value_at t h _ w at there p q = absurd p

    abbrev HasOneValue : TypeTerm → Type 0
    HasOneValue t = value_of M A t ≡ value_of N B t

    one_value : Every HasOneValue all_nodes
    one_value = Every-weaker IsGood HasOneValue (λ t h. same_value_at t h.0 (value_of M A t) (value_of N B t) refl refl h.1.0 h.1.1) all_nodes good

    abbrev HasOneEntry : TypeTerm → Type 0
    HasOneEntry t = node_entry S P M A t ≡ node_entry S P N B t

    no_entry : (M : Tables) (A : Assignment) (a : ℕ) (t : EntTerm) → node_entry S P M A (term.Att a t) ≡ None
    no_entry M A a t = rw (out-Att a t, node_entry)

    no_entry-Gen : (M : Tables) (A : Assignment) (g : ℕ) → node_entry S P M A (term.Gen g) ≡ None
    no_entry-Gen M A g = rw (out-Gen g, node_entry)

    no_entry-Const : (M : Tables) (A : Assignment) (c : Con) → node_entry S P M A (term.Const c) ≡ None
    no_entry-Const M A c = rw (out-Const c, node_entry)

    entry-Fun : (M : Tables) (A : Assignment) (f : ℕ) (ts : List TypeTerm) → node_entry S P M A (term.Fun f ts) ≡ Some (record { function = f; args = map (value_of M A) ts; value = value_of M A (term.Fun f ts) })
    entry-Fun M A f ts = rw (out-Fun f ts, node_entry)

    one_args : (ts : List TypeTerm) → Each HasOneValue ts → map (value_of M A) ts ≡ map (value_of N B) ts
    one_args [] h = refl
    one_args (t ∷ ts) h = let first : value_of M A t ≡ value_of N B t = h.0 in let rest = one_args ts h.1 in λ i. first i ∷ rest i

    one_entry : Every HasOneEntry all_nodes
    one_entry = nodes_pass HasOneValue HasOneEntry
        (λ g. no_entry-Gen M A g ∙ sym (no_entry-Gen N B g)) (λ c. no_entry-Const M A c ∙ sym (no_entry-Const N B c)) (λ a t. no_entry M A a t ∙ sym (no_entry N B a t))
        (λ f ts each whole.
        let args : map (value_of M A) ts ≡ map (value_of N B) ts = one_args ts each in
        let value : value_of M A (term.Fun f ts) ≡ value_of N B (term.Fun f ts) = whole in
        entry-Fun M A f ts ∙ (λ i. Some (record { function = f; args = args i; value = value i })) ∙ sym (entry-Fun N B f ts))
        S P m.names one_value

    listed_alike : (ts : List TypeTerm) → Every HasOneEntry ts → filter_map (node_entry S P M A) ts ≡ filter_map (node_entry S P N B) ts
    listed_alike [] h = refl
    listed_alike (t ∷ ts) h = let first : node_entry S P M A t ≡ node_entry S P N B t = h.0 in let rest = listed_alike ts h.1 in λ i. cons_option (first i) (rest i)

    pub same_entries : M.algebra.entries ≡ N.algebra.entries
    same_entries =
        sym m.entries ∙ ap (firsts (λ e. is_for e.function e.args)) (listed_alike all_nodes one_entry)
        ∙ ap (λ (l : List TypeTerm). firsts (λ e. is_for e.function e.args) (filter_map (node_entry S P N B) l)) (same_nodes schema presentation M N A B m n) ∙ n.entries

    abbrev cells : List TypeTerm
    cells = flat_map (cell_nodes S P m.names) (below (length S.entities))

    abbrev generators : List TypeTerm
    generators = filter_map (generator_node S P m.names) (enumerate_from 0 P.generators)

    abbrev equations : List TypeTerm
    equations = flat_map (equation_nodes S P m.names) P.equations

    first_parts : Every HasOneValue cells × Every HasOneValue generators
    first_parts = Every-parts HasOneValue cells generators
        (Every-parts HasOneValue (cells ++ generators) equations
        (Every-parts HasOneValue ((cells ++ generators) ++ equations) (flat_map (observation_nodes S P m.names) (below (length S.entities))) one_value).0).0

    -- a cell's node has one value
    cell_value : (a : ℕ) (edge : Edge) (row : ℕ) (t : EntTerm) → slice_get S.attributes a ≡ Some edge → slice_get (slice_index_or m.names edge.from []) row ≡ Some t → HasOneValue (term.Att a t)
    cell_value a edge row t at at_row =
        let entity : edge.from < length S.entities = (All_at (λ (e : Edge). (e.from < length S.entities) × (e.to < length S.typeside.types)) S.attributes a edge schema.attributes at).0 in
        let here : 0 + edge.from ≡ edge.from = omega arith in
        let of_entity : Every HasOneValue (cell_nodes S P m.names edge.from) =
        Every-in_flat_map HasOneValue (cell_nodes S P m.names) (below (length S.entities)) edge.from edge.from first_parts.0 (at_range 0 (length S.entities) edge.from entity ∙ ap (λ k. Some k) here) in
        let of_row : Every HasOneValue (map (λ (b : ℕ × Edge). term.Att b.0 t) (edges_from edge.from S.attributes)) =
        Every-in_flat_map HasOneValue (λ t. map (λ (b : ℕ × Edge). term.Att b.0 t) (edges_from edge.from S.attributes)) (names_of S P m.names edge.from) row t of_entity at_row in
        let each = Every-unmap HasOneValue (λ (b : ℕ × Edge). term.Att b.0 t) (edges_from edge.from S.attributes) of_row in
        let found : HasOneValue (term.Att (0 + a) t) =
        Every-in_filter (λ (b : ℕ × Edge). HasOneValue (term.Att b.0 t)) (λ (p : ℕ × Edge). p.1.from == edge.from) (enumerate_from 0 S.attributes) a (0 + a, edge) each (enumerated 0 S.attributes a edge at) (eq-eqb edge.from edge.from refl) in
        let there : 0 + a ≡ a = omega arith in
        subst (λ k. HasOneValue (term.Att k t)) there found

    one_row : (t : EntTerm) (e : ℕ) → entity_of S P.generators t ≡ Some e → row_of M A t ≡ row_of N B t
    one_row = same_row schema presentation M N A B m n

    one_count : (e : ℕ) → count_of M e ≡ count_of N e
    one_count = same_count schema presentation M N A B m n

    one_cell : (a : ℕ) (edge : Edge) (row : ℕ) → slice_get S.attributes a ≡ Some edge → row < count_of M edge.from → cell_at M a row ≡ cell_at N a row
    one_cell a edge row at within =
        let name = m.named edge.from row within in
        ap (cell_at M a) (sym name.2.of_row) ∙ sym (fold-Att Value (value_step M A) a name.0) ∙ cell_value a edge row name.0 at name.1
        ∙ fold-Att Value (value_step N B) a name.0 ∙ ap (cell_at N a) (sym (one_row name.0 edge.from name.2.of_entity) ∙ name.2.of_row)

    cell_column : (a : ℕ) (edge : Edge) → slice_get S.attributes a ≡ Some edge → slice_index_or M.sheet.cells a [] ≡ slice_index_or N.sheet.cells a []
    cell_column a edge at =
        let left = m.initial.holds.well_formed.cell_columns a edge at in
        let right = n.initial.holds.well_formed.cell_columns a edge at in
        same_lists (Const (Named 0)) (slice_index_or M.sheet.cells a []) (slice_index_or N.sheet.cells a []) (left.0 ∙ one_count edge.from ∙ sym right.0)
        (λ row within. one_cell a edge row at (subst (λ k. row < k) left.0 within))

    same_cells : M.sheet.cells ≡ N.sheet.cells
    same_cells = same_lists [] M.sheet.cells N.sheet.cells (m.initial.holds.well_formed.attributes ∙ sym n.initial.holds.well_formed.attributes) (λ a within.
        elim (slice_get_cases S.attributes a).1 [
          | inl found ↦ cell_column a found.0 found.2
          | inr none ↦ absurd (omega (arith, m.initial.holds.well_formed.attributes))
        ])

    one_key : (k : ℕ) (edge : Edge) (row : ℕ) → slice_get S.keys k ≡ Some edge → row < count_of M edge.from → key_at M k row ≡ key_at N k row
    one_key k edge row at within =
        let name = m.named edge.from row within in
        let led : entity_of S P.generators (extended name.0 (k ∷ [])) ≡ Some edge.to =
        entity_of-extended S P name.0 (k ∷ []) ∙ ap (option_and_then (target_of S.keys (k ∷ []))) name.2.of_entity
        ∙ ap (λ o. option_and_then (target_of S.keys []) (followed o edge.from)) at
        ∙ ap (λ (b : Bool). option_and_then (target_of S.keys []) (if b then Some edge.to else None)) (eq-eqb edge.from edge.from refl) in
        let left : row_of M A (extended name.0 (k ∷ [])) ≡ key_at M k (row_of M A name.0) = row_from-append M (row_in (slice_index_or A name.0.generator (AtRow 0))) name.0.path (k ∷ []) in
        let right : row_of N B (extended name.0 (k ∷ [])) ≡ key_at N k (row_of N B name.0) = row_from-append N (row_in (slice_index_or B name.0.generator (AtRow 0))) name.0.path (k ∷ []) in
        ap (key_at M k) (sym name.2.of_row) ∙ sym left ∙ one_row (extended name.0 (k ∷ [])) edge.to led ∙ right
        ∙ ap (key_at N k) (sym (one_row name.0 edge.from name.2.of_entity) ∙ name.2.of_row)

    key_column : (k : ℕ) (edge : Edge) → slice_get S.keys k ≡ Some edge → slice_index_or M.sheet.keys k [] ≡ slice_index_or N.sheet.keys k []
    key_column k edge at =
        let left = m.initial.holds.well_formed.key_columns k edge at in
        let right = n.initial.holds.well_formed.key_columns k edge at in
        same_lists 0 (slice_index_or M.sheet.keys k []) (slice_index_or N.sheet.keys k []) (left.0 ∙ one_count edge.from ∙ sym right.0)
        (λ row within. one_key k edge row at (subst (λ j. row < j) left.0 within))

    same_keys : M.sheet.keys ≡ N.sheet.keys
    same_keys = same_lists [] M.sheet.keys N.sheet.keys (m.initial.holds.well_formed.keys ∙ sym n.initial.holds.well_formed.keys) (λ k within.
        elim (slice_get_cases S.keys k).1 [
          | inl found ↦ key_column k found.0 found.2
          | inr none ↦ absurd (omega (arith, m.initial.holds.well_formed.keys))
        ])

    same_counts : M.sheet.counts ≡ N.sheet.counts
    same_counts = same_lists 0 M.sheet.counts N.sheet.counts (m.initial.holds.well_formed.entities ∙ sym n.initial.holds.well_formed.entities) (λ e within. one_count e)

    -- the two models are equal
    pub same_models : M ≡ N
    same_models =
        let counts : M.sheet.counts ≡ N.sheet.counts = same_counts in
        let keys : M.sheet.keys ≡ N.sheet.keys = same_keys in
        let columns : M.sheet.cells ≡ N.sheet.cells = same_cells in
        let nulls : M.algebra.nulls ≡ N.algebra.nulls = same_nulls in
        let entries : M.algebra.entries ≡ N.algebra.entries = same_entries in
        λ i. record { sheet = record { counts = counts i; keys = keys i; cells = columns i }; algebra = record { nulls = nulls i; entries = entries i } }

    same_meaning : (sort : Sort) (x y : Meaning) → HasSort S M sort x → HasSort S N sort y
        → ((e : ℕ) → sort ≡ Entity e → row_in x ≡ row_in y) → ((type : ℕ) → sort ≡ Plain type → value_in x ≡ value_in y) → x ≡ y
    same_meaning (Entity e) (AtRow r) (AtRow s) h h' rows values = ap AtRow (rows e refl)
    same_meaning (Plain type) (AtValue v) (AtValue w) h h' rows values = ap AtValue (values type refl)
    same_meaning (Entity e) (AtValue v) y h h' rows values = absurd h
    same_meaning (Entity e) (AtRow r) (AtValue w) h h' rows values = absurd h'
    same_meaning (Plain type) (AtRow r) y h h' rows values = absurd h
    same_meaning (Plain type) (AtValue v) (AtRow s) h h' rows values = absurd h'

    generator_value : (k : ℕ) (g : Name × Sort) (type : ℕ) → slice_get P.generators k ≡ Some g → g.1 ≡ Plain type → value_in (slice_index_or A k (AtRow 0)) ≡ value_in (slice_index_or B k (AtRow 0))
    generator_value k g type at plain =
        let node : generator_node S P m.names (0 + k, g) ≡ Some (term.Gen (0 + k)) = ap (λ (sort : Sort). generator_node S P m.names (0 + k, (g.0, sort))) plain in
        let found : HasOneValue (term.Gen (0 + k)) =
        Every-in_filter_map HasOneValue (generator_node S P m.names) (enumerate_from 0 P.generators) k (0 + k, g) (term.Gen (0 + k)) first_parts.1 (enumerated 0 P.generators k g at) node in
        let there : 0 + k ≡ k = omega arith in
        sym (fold-Gen Value (value_step M A) k) ∙ subst (λ j. HasOneValue (term.Gen j)) there found ∙ fold-Gen Value (value_step N B) k

    generator_row : (k : ℕ) (g : Name × Sort) (e : ℕ) → slice_get P.generators k ≡ Some g → g.1 ≡ Entity e → row_in (slice_index_or A k (AtRow 0)) ≡ row_in (slice_index_or B k (AtRow 0))
    generator_row k g e at of_entity = one_row (record { generator = k; path = [] }) e
        (ap (λ o. option_and_then (target_of S.keys []) (entity_at o)) at ∙ ap (λ (sort : Sort). option_and_then (target_of S.keys []) (entity_at (Some (g.0, sort)))) of_entity)

    -- each generator stands for the same in both
    pub same_assignments : A ≡ B
    same_assignments = same_lists (AtRow 0) A B (m.initial.holds.count ∙ sym n.initial.holds.count) (λ k within.
        elim (slice_get_cases P.generators k).1 [
          | inl found ↦ same_meaning found.0.1 (slice_index_or A k (AtRow 0)) (slice_index_or B k (AtRow 0))
              (m.initial.holds.sorts k found.0 found.2) (n.initial.holds.sorts k found.0 found.2)
              (λ e is. generator_row k found.0 e found.2 is) (λ type is. generator_value k found.0 type found.2 is)
          | inr none ↦ absurd (omega (arith, m.initial.holds.count))
        ])
