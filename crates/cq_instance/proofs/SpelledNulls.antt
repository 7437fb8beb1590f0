-- The term of each null has the null's type and means it.
use Rattle.std.proofs.Common.{ℕ, zero, suc, Bool, true, false, not, cond, List, [], ◌∷◌, Option, Some, None, ◌≡◌, ◌<◌, ◌+◌, length, find, refl, sym, ap, ◌∙◌, arith, eq-eqb}
use Rattle.std.specs.Prelude.{slice_get, slice_index_or, nat_eq, if◌then◌else◌}
use Rattle.std.specs.Option.{unwrap_or}
use Rattle.std.specs.List.{filter_map, cons_option}
use Rattle.std.proofs.lemmas.Bool.{eqb-true}
use Rattle.std.proofs.lemmas.Option.{slice_get_within, get_or_from_slice_get}
use Rattle.std.proofs.lemmas.List.FromFn.{get_or-map-range_with_len}
use Rattle.cq_theory.specs.declared.constant.Con.TheVariants.{Named}
use Rattle.cq_theory.specs.declared.presentation.Presentation.{Presentation}
use Rattle.cq_theory.specs.declared.term.EntTerm.{EntTerm}
use Rattle.cq_theory.specs.declared.term.TypeTerm.{TypeTerm}
use Rattle.cq_theory.specs.declared.term.TypeTerm.TheVariants as term
use Rattle.cq_theory.specs.declared.value.Value.{Value}
use Rattle.cq_theory.specs.declared.value.Value.TheVariants.{Const, Null}
use Rattle.cq_theory.specs.Canonical.{below, null_generator}
use Rattle.cq_theory.specs.Listed.{firsts, null_label, nodes}
use Rattle.cq_theory.specs.Schema.{IsSchema}
use Rattle.cq_theory.specs.Sorts.{entity_of, type_at, type_of, type_step}
use Rattle.cq_theory.specs.Tables.{Assignment, AtRow, count_of, value_in, value_of, value_step, value_type, value_type_step}
use Rattle.cq_theory.proofs.Every.{Every-at, from_filter, at_range}
use Rattle.cq_theory.proofs.NodeLists.{HasType, nodes_typed}
use Rattle.cq_theory.proofs.TypeTerms.{fold-Gen}
use Rattle.cq_theory.proofs.Typing.{value_typed}
use Rattle.cq_theory.proofs.Values as values
use Rattle.cq_instance.specs.InstanceData.{InstanceData, IsInstance, names_at, name_at}
use Rattle.cq_instance.specs.Listed.{IsListed}
use Rattle.cq_instance.specs.Spelling.{AreNullsSpelled, is_null, means_null, first_node, own_term, null_term_of}
use Rattle.cq_instance.proofs.CanonicalGenerators.{null_type, null_stands}
use Rattle.cq_instance.proofs.Lists.{IsIn}

-- the first members of their kind are members
in_firsts : (xs : List ℕ) (k x : ℕ) → slice_get (firsts nat_eq xs) k ≡ Some x → IsIn x xs
in_firsts [] k x h = cc
in_firsts (y ∷ ys) zero x h = let same : y ≡ x = cc in record { place = 0; is = ap (λ z. Some z) same }
in_firsts (y ∷ ys) (suc k) x h =
    let kept = from_filter (λ z. not (nat_eq y z)) (firsts nat_eq ys) k x h in
    let rest = in_firsts ys kept.0 x kept.1 in
    record { place = suc rest.place; is = rest.is }

-- the member of which f gives y
record IsOf {X Y : Type 0} (f : X → Option Y) (xs : List X) (y : Y) : Type 0 where
  source : X
  place : ℕ
  at : slice_get xs place ≡ Some source
  gives : f source ≡ Some y

one_of : {X Y : Type 0} (f : X → Option Y) (x : X) (xs : List X) (y : Y) (o : Option Y) (k : ℕ) → f x ≡ o → slice_get (cons_option o (filter_map f xs)) k ≡ Some y
    → ((n : ℕ) → slice_get (filter_map f xs) n ≡ Some y → IsOf f xs y) → IsOf f (x ∷ xs) y
one_of f x xs y None k is h rest = let later = rest k h in record { source = later.source; place = suc later.place; at = later.at; gives = later.gives }
one_of f x xs y (Some z) zero is h rest = let same : z ≡ y = cc in record { source = x; place = 0; at = refl; gives = is ∙ ap (λ w. Some w) same }
one_of f x xs y (Some z) (suc k) is h rest = let later = rest k h in record { source = later.source; place = suc later.place; at = later.at; gives = later.gives }

from_filter_map : {X Y : Type 0} (f : X → Option Y) (xs : List X) (k : ℕ) (y : Y) → slice_get (filter_map f xs) k ≡ Some y → IsOf f xs y
from_filter_map f [] k y h = cc
from_filter_map f (x ∷ xs) k y h = one_of f x xs y (f x) k refl h (λ n at. from_filter_map f xs n y at)

-- the first member that passes a test
record IsFirst {X : Type 0} (p : X → Bool) (xs : List X) : Type 0 where
  member : X
  place : ℕ
  at : slice_get xs place ≡ Some member
  passes : p member ≡ true
  found : find p xs ≡ Some member

one_first : {X : Type 0} (p : X → Bool) (x : X) (xs : List X) (b : Bool) → p x ≡ b → (b ≡ false → IsFirst p xs) → IsFirst p (x ∷ xs)
one_first p x xs true is rest = record { member = x; place = 0; at = refl; passes = is; found = ap (λ c. cond c (Some x) (find p xs)) is }
one_first p x xs false is rest =
    let later = rest refl in
    record { member = later.member; place = suc later.place; at = later.at; passes = later.passes; found = ap (λ c. cond c (Some x) (find p xs)) is ∙ later.found }

first_passing : {X : Type 0} (p : X → Bool) (xs : List X) (n : ℕ) (x : X) → slice_get xs n ≡ Some x → p x ≡ true → IsFirst p xs
first_passing p [] n x at passes = cc
first_passing p (y ∷ ys) zero x at passes =
    let same : y ≡ x = cc in
    one_first p y ys (p y) refl (λ fails. let clash : true ≡ false = sym passes ∙ ap p (sym same) ∙ fails in cc)
first_passing p (y ∷ ys) (suc n) x at passes = one_first p y ys (p y) refl (λ _. first_passing p ys n x at passes)

labelled_null : (v : Value) (label : ℕ) → null_label v ≡ Some label → v ≡ Null label
labelled_null (Const c) label h = cc
labelled_null (Null n) label h = let same : n ≡ label = cc in ap Null same
labelled_null _ label h = cc

is_null_is : (v : Value) (label : ℕ) → is_null label v ≡ true → v ≡ Null label
is_null_is (Const c) label h = cc
is_null_is (Null n) label h = ap Null (eqb-true n label h)
is_null_is _ label h = cc

module _ (i : InstanceData) (schema : IsSchema i.schema) (is : IsInstance i) where
  abbrev own_or_first : ℕ → TypeTerm
  own_or_first label = if i.given then own_term i label else first_node i label

  term_at : (label : ℕ) → label < length i.tables.algebra.nulls → null_term_of i label ≡ own_or_first label
  term_at label within = get_or-map-range_with_len own_or_first 0 (length i.tables.algebra.nulls) label label (term.Const (Named 0)) within (omega arith)

  pub given_spelled : i.given ≡ true → AreNullsSpelled i (null_term_of i)
  given_spelled given label type at =
      let canonical = is.canonical_where_given given in
      let within : label < length i.tables.algebra.nulls = slice_get_within i.tables.algebra.nulls label type at in
      let here : null_term_of i label ≡ own_term i label = term_at label within ∙ ap (λ b. if b then own_term i label else first_node i label) given in
      let n : ℕ = null_generator i.schema i.tables label in
      let count = is.well_formed.entities in (
        ap (type_of i.schema i.presentation.generators) here ∙ fold-Gen (Option ℕ) (type_step i.schema i.presentation.generators) n
            ∙ ap (λ (P : Presentation). type_at (slice_get P.generators n)) canonical.presentation ∙ null_type i.schema i.tables count label ∙ at,
        ap (value_of i.tables i.assignment) here ∙ fold-Gen Value (value_step i.tables i.assignment) n
            ∙ ap (λ (A : Assignment). value_in (slice_index_or A n (AtRow 0))) canonical.assignment ∙ ap value_in (null_stands i.schema i.tables count label within),
      )

  named_there : (e row : ℕ) (t : EntTerm) → slice_get (names_at i.names e) row ≡ Some t → entity_of i.schema i.presentation.generators t ≡ Some e
  named_there e row t at =
      let within : row < count_of i.tables e = omega (arith, slice_get_within (names_at i.names e) row t at, is.counted e) in
      let here : name_at i.names e row ≡ t = get_or_from_slice_get (names_at i.names e) row t (record { generator = 0; path = [] }) at in
      ap (entity_of i.schema i.presentation.generators) (sym here) ∙ (is.meant e row within).of_entity

  module _ (listed : IsListed i) where
    abbrev all_nodes : List TypeTerm
    all_nodes = nodes i.schema i.presentation i.names

    abbrev label_of : TypeTerm → Option ℕ
    label_of t = null_label (value_of i.tables i.assignment t)

    nulls_are : firsts nat_eq (filter_map label_of all_nodes) ≡ below (length i.tables.algebra.nulls)
    nulls_are = ap (λ (names : List (List EntTerm)). firsts nat_eq (filter_map label_of (nodes i.schema i.presentation names))) (sym listed.least) ∙ listed.lists.nulls

    node_of : (label : ℕ) → label < length i.tables.algebra.nulls → IsOf label_of all_nodes label
    node_of label within =
        let here : 0 + label ≡ label = omega arith in
        let first = in_firsts (filter_map label_of all_nodes) label label
        (ap (λ l. slice_get l label) nulls_are ∙ at_range 0 (length i.tables.algebra.nulls) label within ∙ ap (λ n. Some n) here) in
        from_filter_map label_of all_nodes first.place label first.is

    first_is : (label : ℕ) → label < length i.tables.algebra.nulls → IsFirst (means_null i label) all_nodes
    first_is label within =
        let node = node_of label within in
        let means : value_of i.tables i.assignment node.source ≡ Null label = labelled_null (value_of i.tables i.assignment node.source) label node.gives in
        first_passing (means_null i label) all_nodes node.place node.source node.at (ap (is_null label) means ∙ eq-eqb label label refl)

    typed_at : (t : TypeTerm) (n : ℕ) → slice_get all_nodes n ≡ Some t → HasType i.schema i.presentation t
    typed_at t n at = Every-at (HasType i.schema i.presentation) all_nodes n t
        (nodes_typed i.schema i.presentation schema is.presented i.names (λ e row u there.
        named_there e row u there)) at

    same_type : (o : Option ℕ) (a b : ℕ) → o ≡ Some a → o ≡ Some b → a ≡ b
    same_type o a b h k = let both : Some a ≡ Some b = sym h ∙ k in cc

    pub listed_spelled : AreNullsSpelled i (null_term_of i)
    listed_spelled label type at =
        let within : label < length i.tables.algebra.nulls = slice_get_within i.tables.algebra.nulls label type at in
        let first = first_is label within in
        let found : first_node i label ≡ first.member = ap (λ o. unwrap_or o (term.Const (Named 0))) first.found in
        let here : null_term_of i label ≡ first.member = term_at label within ∙ ap (λ b. if b then own_term i label else first_node i label) listed.made ∙ found in
        let typed = typed_at first.member first.place first.at in
        let means : value_of i.tables i.assignment first.member ≡ Null label = is_null_is (value_of i.tables i.assignment first.member) label first.passes in
        let there : slice_get i.tables.algebra.nulls label ≡ Some typed.0 =
        sym (values.fold-Null (Option ℕ) (value_type_step i.schema i.tables.algebra.nulls) label) ∙ ap (value_type i.schema i.tables.algebra.nulls) (sym means)
        ∙ value_typed i.schema i.presentation i.tables i.assignment listed.lists.initial.holds first.member typed.0 typed.1 in (
          ap (type_of i.schema i.presentation.generators) here ∙ typed.1 ∙ ap (λ n. Some n) (same_type (slice_get i.tables.algebra.nulls label) typed.0 type there at),
          ap (value_of i.tables i.assignment) here ∙ means,
        )
