-- What the values of nodes say: equal values are those of congruent nodes, and entries give the values of applications.
use Rattle.std.proofs.Common.{ℕ, true, List, [], ◌∷◌, ◌++◌, Option, Some, ◌≡◌, ◌<◌, ◌⊎◌, map, length, refl, sym, ap, subst, ◌∙◌, arith, inl, inr, eqb-true}
use Rattle.std.specs.Prelude.{slice_get, slice_index, nat_eq, find, All}
use Rattle.std.specs.List.{filter_map}
use Rattle.std.proofs.lemmas.Option.{slice_get_within, slice_get-get_or, get_or_from_slice_get}
use Rattle.std.proofs.lemmas.List.Elements.{All-head, All-tail, All-weaker, All-map}
use Rattle.cq_tables.specs.Content.{Content}
use Rattle.cq_flat.specs.declared.node.Node.{Node}
use Rattle.cq_flat.specs.declared.node.Node.TheVariants as node
use Rattle.cq_flat.specs.Congruence as congruent
use Rattle.cq_flat.specs.Congruence.{Congruent, AllCongruent}
use Rattle.cq_flat.specs.Values.{Closure, value_at}
use Rattle.cq_model.specs.declared.places.Places.{Places}
use Rattle.cq_names.specs.Closed.{AreClosed}
use Rattle.cq_model.specs.NodeTerms.{leaf_terms}
use Rattle.cq_model.specs.Built.{IsClosureOf, IsBuilt, tables_of}
use Rattle.cq_theory.specs.declared.constant.Con.{Con}
use Rattle.cq_theory.specs.declared.constant.Con.TheVariants.{Named}
use Rattle.cq_theory.specs.declared.presentation.Presentation.{Presentation}
use Rattle.cq_theory.specs.SchemaData.{SchemaData as Schema}
use Rattle.cq_theory.specs.Schema.{IsSchema}
use Rattle.cq_theory.specs.Presentation.{IsPresentation}
use Rattle.cq_theory.specs.declared.term.EntTerm.{EntTerm}
use Rattle.cq_theory.specs.declared.term.TypeTerm.{TypeTerm}
use Rattle.cq_theory.specs.declared.term.TypeTerm.TheVariants as term
use Rattle.cq_theory.specs.declared.term.Term.TheVariants.{Typ}
use Rattle.cq_theory.specs.declared.value.Value.{Value}
use Rattle.cq_theory.specs.declared.value.Value.TheVariants as value
use Rattle.cq_theory.specs.declared.value.Entry.{Entry}
use Rattle.cq_theory.specs.Sorts.{type_of, type_step}
use Rattle.cq_theory.specs.Derivation.{Derives}
use Rattle.cq_theory.specs.Tables.{Tables, IsPlain, entry_or_built, is_for, applied, value_type, value_type_step, normal_of, normal_step}
use Rattle.cq_theory.specs.Listed.{null_label}
use Rattle.cq_theory.proofs.Values as values_say
use Rattle.cq_theory.proofs.TypeTerms.{fold-Const}
use Rattle.cq_instance.proofs.Lists.{IsIn, get-map, in_range}
use Rattle.cq_model.proofs.BuiltEntries.{in_filter_map, stays, found_node, find_entry}
use Rattle.cq_model.proofs.BuiltNodes as nodes_say
use Rattle.cq_theory.proofs.Derivations.{Derives-transitive}
use Rattle.cq_model.proofs.BuiltNodes.{at_place, one_type}

-- a plain value is a constant or a null
pub plain_cases : (v : Value) → IsPlain v → ((c : Con) × (v ≡ value.Const c)) ⊎ ((n : ℕ) × (v ≡ value.Null n))
plain_cases (value.Const c) plain = inl (c, refl)
plain_cases (value.Null n) plain = inr (n, refl)
plain_cases _ plain = absurd plain

-- a plain value has no function to apply anew
pub plain_normal : (M : Tables) (v : Value) → IsPlain v → normal_of M v ≡ v
plain_normal M (value.Const c) plain = values_say.fold-Const Value (normal_step M) c
plain_normal M (value.Null n) plain = values_say.fold-Null Value (normal_step M) n
plain_normal M _ plain = absurd plain

same_numbers : (x y z : ℕ) → nat_eq x y ≡ true → nat_eq y z ≡ true → nat_eq x z ≡ true
same_numbers x y z h h' = ap (λ n. nat_eq n z) (eqb-true x y h) ∙ h'

module _ (S : Schema) (P : Presentation) (m : Content) (rows : List ℕ) (schema : IsSchema S) (presentation : IsPresentation S P) (closed : AreClosed S P m rows)
    (order : List (List ℕ)) (names : List (List EntTerm)) (numbers : List ℕ) (places : Places) (nodes : List Node) (equations : List (ℕ × ℕ)) (types : List ℕ)
    (built : IsBuilt S P m rows order names numbers places nodes equations types)
    (flat : Closure) (closure : IsClosureOf nodes equations flat) where
  abbrev M : Tables
  M = tables_of S P m rows order numbers places types flat

  abbrev T : List TypeTerm
  T = leaf_terms S P names ++ built.made

  abbrev value_here : ℕ → Value
  value_here = value_at flat.values

  abbrev AreWithin : List ℕ → Type 0
  AreWithin = All (λ a. a < length nodes)

  term_at : (p : ℕ) → p < length nodes → (t : TypeTerm) × (slice_get T p ≡ Some t)
  term_at = nodes_say.term_at S P m rows schema presentation closed order names numbers places nodes equations types built flat closure

  node_within : (p : ℕ) (t : TypeTerm) → slice_get T p ≡ Some t → p < length nodes
  node_within = nodes_say.node_within S P m rows schema presentation closed order names numbers places nodes equations types built flat closure

  derives : {a b : ℕ} → Congruent nodes equations a b → (t u : TypeTerm) → slice_get T a ≡ Some t → slice_get T b ≡ Some u → Derives S P (Typ t) (Typ u)
  derives = nodes_say.congruent_derives S P m rows schema presentation closed order names numbers places nodes equations types built flat closure

  pub valued : (p : ℕ) → p < length nodes → slice_get flat.values p ≡ Some (value_here p)
  valued p h = slice_get-get_or flat.values p (value.Const (Named 0)) (omega (arith, closure.values.count))

  pub value_plain : (p : ℕ) → p < length nodes → IsPlain (value_here p)
  value_plain p h = closure.values.plain p (value_here p) (valued p h)

  -- nodes are congruent exactly if they have one value
  pub equal_congruent : (p q : ℕ) → p < length nodes → q < length nodes → value_here p ≡ value_here q → Congruent nodes equations p q
  equal_congruent p q l l' e = (closure.values.equal p q l l').0 (valued p l ∙ ap (λ v. Some v) e ∙ sym (valued q l'))

  pub congruent_equal : (p q : ℕ) → p < length nodes → q < length nodes → Congruent nodes equations p q → value_here p ≡ value_here q
  congruent_equal p q l l' c =
      let same : Some (value_here p) ≡ Some (value_here q) = sym (valued p l) ∙ (closure.values.equal p q l l').1 c ∙ valued q l' in
      cc

  -- the node of the constant that is a node's value
  pub record IsConstantOf (p : ℕ) (c : Con) : Type 0 where
    pub at : ℕ
    pub within : at < length nodes
    pub is : slice_get nodes at ≡ Some (node.Const c)
    pub equal : Congruent nodes equations p at

  -- a term whose node has the value of a constant is derivably equal to it
  pub constant_equal : (p : ℕ) (c : Con) (t : TypeTerm) → IsConstantOf p c → slice_get T p ≡ Some t → Derives S P (Typ t) (Typ (term.Const c))
  constant_equal p c t of found =
      let u = term_at of.at of.within in
      Derives-transitive S P (Typ t) (Typ u.0) (Typ (term.Const c)) (derives of.equal t u.0 found u.1)
      (nodes_say.constant_derives S P m rows schema presentation closed order names numbers places nodes equations types built flat closure of.at c u.0 u.1 of.is)

  pub constant_of : (p : ℕ) (c : Con) → p < length nodes → value_here p ≡ value.Const c → IsConstantOf p c
  constant_of p c l e =
      let has = ((closure.values.constant p c l).0 (valued p l ∙ ap (λ v. Some v) e)).has in
      record { at = has.at; within = slice_get_within nodes has.at (node.Const c) has.is; is = has.is; equal = has.equal }

  -- the first node of a null
  pub record IsNullOf (p label : ℕ) : Type 0 where
    pub at : ℕ
    pub within : at < length nodes
    pub first : slice_get flat.nulls label ≡ Some at
    pub equal : Congruent nodes equations p at

  label_within : (p label : ℕ) → p < length nodes → value_here p ≡ value.Null label → label < length flat.nulls
  label_within p label l e =
      let member : IsIn label (filter_map null_label flat.values) = in_filter_map null_label (value.Null label) label flat.values (record { place = p; is = valued p l ∙ ap (λ v. Some v) e }) refl in
      let first = stays nat_eq same_numbers (filter_map null_label flat.values) label member in
      let same : first.0 ≡ label = elim first.2 [
        | inl e' ↦ e'
        | inr e' ↦ eqb-true first.0 label e'
      ] in
      let inside : first.0 < length flat.nulls = in_range (length flat.nulls) first.0 (record { place = first.1.place; is = ap (λ xs. slice_get xs first.1.place) (sym closure.labels.labels) ∙ first.1.is }) in
      subst (λ n. n < length flat.nulls) same inside

  pub null_of : (p label : ℕ) → p < length nodes → value_here p ≡ value.Null label → IsNullOf p label
  null_of p label l e =
      let at = at_place flat.nulls label (label_within p label l e) in
      let first = closure.labels.first label at.0 at.1 in
      let within : at.0 < length nodes = omega (arith, slice_get_within flat.values at.0 (value.Null label) first.has, closure.values.count) in
      record {
        at = at.0;
        within = within;
        first = at.1;
        equal = (closure.values.equal p at.0 l within).0 (valued p l ∙ ap (λ v. Some v) e ∙ sym first.has);
      }

  -- the type of a node at its place
  pub type_is : (p type : ℕ) (t : TypeTerm) → slice_get T p ≡ Some t → type_of S P.generators t ≡ Some type → slice_index types p ≡ type
  type_is p type t h sort =
      let own = at_place types p (omega (arith, slice_get_within T p t h, built.types_are.count)) in
      let same : Some own.0 ≡ Some type = sym (built.types_are.each p own.0 t h own.1) ∙ sort in
      let same' : own.0 ≡ type = cc in
      get_or_from_slice_get types p own.0 0 own.1 ∙ same'

  -- the value of a node has the type of its term
  pub node_typed : (p type : ℕ) (t : TypeTerm) → slice_get T p ≡ Some t → type_of S P.generators t ≡ Some type → value_type S M.algebra.nulls (value_here p) ≡ Some type
  node_typed p type t found sort =
      let l = node_within p t found in
      elim (plain_cases (value_here p) (value_plain p l)) [
        | inl constant ↦
            let at = constant_of p constant.0 l constant.1 in
            let typed : type_of S P.generators (term.Const constant.0) ≡ Some type = one_type S P schema presentation t (term.Const constant.0) type (constant_equal p constant.0 t at found) sort in
            ap (value_type S M.algebra.nulls) constant.1 ∙ values_say.fold-Const (Option ℕ) (value_type_step S M.algebra.nulls) constant.0
            ∙ sym (fold-Const (Option ℕ) (type_step S P.generators) constant.0) ∙ typed
        | inr null ↦
            let at = null_of p null.0 l null.1 in
            let u = term_at at.at at.within in
            let typed : type_of S P.generators u.0 ≡ Some type = one_type S P schema presentation t u.0 type (derives at.equal t u.0 found u.1) sort in
            ap (value_type S M.algebra.nulls) null.1 ∙ values_say.fold-Null (Option ℕ) (value_type_step S M.algebra.nulls) null.0
            ∙ get-map (slice_index types) flat.nulls null.0 at.at at.first ∙ ap (λ n. Some n) (type_is at.at type u.0 u.1 typed)
      ]

  pub args_within : (p f : ℕ) (ps : List ℕ) → slice_get nodes p ≡ Some (node.Fun f ps) → AreWithin ps
  args_within p f ps h =
      let l = slice_get_within nodes p (node.Fun f ps) h in
      let t = term_at p l in
      let parts = nodes_say.function_at S P m rows schema presentation closed order names numbers places nodes equations types built flat closure p f ps t.0 t.1 h in
      All-weaker (λ a. a < p) (λ a. a < length nodes) (λ a less. omega arith) ps parts.3

  pub args_plain : (ps : List ℕ) → AreWithin ps → All IsPlain (map value_here ps)
  args_plain ps h = All-map IsPlain value_here ps (All-weaker (λ a. a < length nodes) (λ a. IsPlain (value_here a)) value_plain ps h)

  all_congruent : (xs ys : List ℕ) → AreWithin xs → AreWithin ys → map value_here xs ≡ map value_here ys → AllCongruent nodes equations xs ys
  all_congruent [] [] h h' e = congruent.none
  all_congruent [] (y ∷ ys) h h' e = cc
  all_congruent (x ∷ xs) [] h h' e = cc
  all_congruent (x ∷ xs) (y ∷ ys) h h' e =
      let first : value_here x ≡ value_here y = cc in
      let rest : map value_here xs ≡ map value_here ys = cc in
      congruent.more (equal_congruent x y (All-head (λ a. a < length nodes) x xs h) (All-head (λ a. a < length nodes) y ys h') first)
      (all_congruent xs ys (All-tail (λ a. a < length nodes) x xs h) (All-tail (λ a. a < length nodes) y ys h') rest)

  -- the node of an entry that is found
  pub record IsFoundAt (f : ℕ) (vs : List Value) : Type 0 where
    pub place : ℕ
    pub args : List ℕ
    pub is : slice_get nodes place ≡ Some (node.Fun f args)
    pub args_are : vs ≡ map value_here args
    pub gives : applied M f vs ≡ value_here place

  pub found_at : (f : ℕ) (vs : List Value) (entry : Entry) → find (is_for f vs) flat.entries ≡ Some entry → IsFoundAt f vs
  found_at f vs entry h =
      let found = found_node nodes flat.values f vs entry (ap (find (is_for f vs)) (sym closure.entries) ∙ h) in
      record {
        place = found.0.place;
        args = found.0.args;
        is = found.0.is ∙ ap (λ g. Some (node.Fun g found.0.args)) found.1;
        args_are = found.2 ∙ found.0.args_are;
        gives = ap (λ o. entry_or_built o f vs) h ∙ found.0.value_is;
      }

  -- a function at the values of a node's arguments has the node's value
  pub entry_found : (p f : ℕ) (args : List ℕ) → slice_get nodes p ≡ Some (node.Fun f args) → applied M f (map value_here args) ≡ value_here p
  entry_found p f args h =
      let within = args_within p f args h in
      let entry = find_entry nodes flat.values p f args h (args_plain args within) in
      let found = found_at f (map value_here args) entry.0 (ap (find (is_for f (map value_here args))) closure.entries ∙ entry.1) in
      let equal : Congruent nodes equations p found.place = congruent.functions f h found.is (all_congruent args found.args within (args_within found.place f found.args found.is) found.args_are) in
      found.gives ∙ sym (congruent_equal p found.place (slice_get_within nodes p (node.Fun f args) h) (slice_get_within nodes found.place (node.Fun f found.args) found.is) equal)
