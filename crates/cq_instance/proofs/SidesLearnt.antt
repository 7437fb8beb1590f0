-- What equations teach of the terms of nulls.
use Rattle.std.proofs.Common.{ℕ, zero, suc, List, [], ◌∷◌, ◌++◌, Option, Some, None, ◌≡◌, ◌<◌, ◌+◌, map, length, take, get_or, refl, sym, ap, subst, ◌∙◌}
use Rattle.std.specs.Prelude.{slice_get, slice_index_or}
use Rattle.std.specs.List.{flat_map}
use Rattle.std.proofs.lemmas.List.{append-nil}
use Rattle.std.proofs.lemmas.Grind.{flat_map-append}
use Rattle.std.proofs.lemmas.Option.{slice_get-get_or, slice_get_within}
use Rattle.cq_base.specs.declared.name.Name.{Name}
use Rattle.cq_theory.specs.declared.presentation.Sort.{Sort}
use Rattle.cq_theory.specs.declared.presentation.Sort.TheVariants.{Entity}
use Rattle.cq_theory.specs.declared.presentation.Equation.{Equation}
use Rattle.cq_theory.specs.declared.presentation.Equation.TheVariants as equation
use Rattle.cq_theory.specs.declared.schema.ObsEq.{ObsEq}
use Rattle.cq_theory.specs.declared.term.EntTerm.{EntTerm}
use Rattle.cq_theory.specs.declared.term.TypeTerm.{TypeTerm}
use Rattle.cq_theory.specs.declared.term.TypeTerm.TheVariants.{Gen, Const, Att, Fun}
use Rattle.cq_theory.specs.declared.term.Term.TheVariants.{Typ}
use Rattle.cq_theory.specs.EntTerm.{extended}
use Rattle.cq_theory.specs.TypeTerm.{substituted, substituted_step}
use Rattle.cq_theory.specs.Groups.{positions, obs_eq_sources}
use Rattle.cq_theory.specs.Listed.{subterms, subterms_step}
use Rattle.cq_theory.specs.Presentation.{IsEquation}
use Rattle.cq_theory.specs.Schema.{IsSchema, IsObsEq, one_of}
use Rattle.cq_theory.specs.Sorts.{type_of, IsGround}
use Rattle.cq_theory.specs.Tables.{Assignment, AtRow, count_of, HasSort, value_of}
use Rattle.cq_theory.proofs.TypeTerms.{fold-Gen, fold-Const, fold-Att, fold-Fun, para-Gen, para-Const, para-Att, para-Fun, Each, on_terms}
use Rattle.cq_instance.specs.InstanceData.{InstanceData, IsInstance, IsNameOf, name_at}
use Rattle.cq_instance.specs.Learning.{learned_from, node_at, nodes_in, observed, side_nodes, IsReadable}
use Rattle.cq_instance.specs.Terms.{AreStandings, IsTypeTermOf}
use Rattle.cq_instance.proofs.CellsLearnt.{at_positions}
use Rattle.cq_instance.proofs.FoundEquations.{found_at, found_more}
use Rattle.cq_instance.proofs.Learnt.{learned_then}
use Rattle.cq_instance.proofs.Lists.{get-map_from, map-append, map-flat_map}
use Rattle.cq_instance.proofs.OnWay.{ground_type}
use Rattle.cq_instance.proofs.SubstitutedTerms.{value_of-substituted}
use Rattle.cq_instance.proofs.TypedTerms.{IsTyped, EachTyped, args_typed}

first_of_pairs : (ts : List TypeTerm) → map (λ (arg : TypeTerm × List TypeTerm). arg.0) (map (λ t. (t, subterms t)) ts) ≡ ts
first_of_pairs [] = refl
first_of_pairs (t ∷ ts) = ap (λ l. t ∷ l) (first_of_pairs ts)

second_of_pairs : (ts : List TypeTerm) → flat_map (λ (arg : TypeTerm × List TypeTerm). arg.1) (map (λ t. (t, subterms t)) ts) ≡ flat_map subterms ts
second_of_pairs [] = refl
second_of_pairs (t ∷ ts) = ap (λ l. subterms t ++ l) (second_of_pairs ts)

pub subterms-Gen : (n : ℕ) → subterms (Gen n) ≡ Gen n ∷ []
subterms-Gen = para-Gen (List TypeTerm) subterms_step

pub subterms-Const : (c : _) → subterms (Const c) ≡ Const c ∷ []
subterms-Const = para-Const (List TypeTerm) subterms_step

pub subterms-Att : (a : ℕ) (t : EntTerm) → subterms (Att a t) ≡ Att a t ∷ []
subterms-Att = para-Att (List TypeTerm) subterms_step

subterms-Fun : (f : ℕ) (ts : List TypeTerm) → subterms (Fun f ts) ≡ flat_map subterms ts ++ Fun f ts ∷ []
subterms-Fun f ts = para-Fun (List TypeTerm) subterms_step f ts ∙ λ i. second_of_pairs ts i ++ Fun f (first_of_pairs ts i) ∷ []

-- the nodes of an application are those of its arguments, and then its own
pub nodes-Fun : (name : Option EntTerm) (f : ℕ) (ts : List TypeTerm) → nodes_in name (Fun f ts) ≡ flat_map (nodes_in name) ts ++ node_at name (Fun f ts) ∷ []
nodes-Fun name f ts =
    ap (map (node_at name)) (subterms-Fun f ts) ∙ map-append (node_at name) (flat_map subterms ts) (Fun f ts ∷ [])
    ∙ ap (λ l. l ++ node_at name (Fun f ts) ∷ []) (map-flat_map (node_at name) subterms ts)

-- a leaf has one node
pub nodes-leaf : (name : Option EntTerm) (t : TypeTerm) → subterms t ≡ t ∷ [] → nodes_in name t ≡ node_at name t ∷ []
nodes-leaf name t leaf = ap (map (node_at name)) leaf

map_itself : (ts : List TypeTerm) → map (node_at None) ts ≡ ts
map_itself [] = refl
map_itself (t ∷ ts) = ap (λ l. t ∷ l) (map_itself ts)

-- over the generators the nodes of a term are its subterms
pub own_nodes : (t : TypeTerm) → nodes_in None t ≡ subterms t
own_nodes t = map_itself (subterms t)

module _ (name : EntTerm) where
  abbrev IsMoved : TypeTerm → Type 0
  IsMoved t = nodes_in (Some name) t ≡ subterms (substituted name t)

  args_moved : (ts : List TypeTerm) → Each IsMoved ts → flat_map (nodes_in (Some name)) ts ≡ flat_map subterms (map (substituted name) ts)
  args_moved [] each = refl
  args_moved (t ∷ ts) each =
      let first : nodes_in (Some name) t ≡ subterms (substituted name t) = each.0 in
      let rest : flat_map (nodes_in (Some name)) ts ≡ flat_map subterms (map (substituted name) ts) = args_moved ts each.1 in
      λ i. first i ++ rest i

  -- in whose variable's place a name stands, the nodes of a term are the subterms of what it becomes
  pub moved_nodes : (t : TypeTerm) → IsMoved t
  moved_nodes = on_terms IsMoved
      (λ n. ap (map (substituted name)) (subterms-Gen n) ∙ ap (λ u. u ∷ []) (fold-Gen TypeTerm (substituted_step name) n)
      ∙ sym (ap subterms (fold-Gen TypeTerm (substituted_step name) n) ∙ subterms-Gen n))
      (λ c. ap (map (substituted name)) (subterms-Const c) ∙ ap (λ u. u ∷ []) (fold-Const TypeTerm (substituted_step name) c)
      ∙ sym (ap subterms (fold-Const TypeTerm (substituted_step name) c) ∙ subterms-Const c))
      (λ a t. ap (map (substituted name)) (subterms-Att a t) ∙ ap (λ u. u ∷ []) (fold-Att TypeTerm (substituted_step name) a t)
      ∙ sym (ap subterms (fold-Att TypeTerm (substituted_step name) a t) ∙ subterms-Att a (extended name t.path)))
      (λ f ts each. nodes-Fun (Some name) f ts ∙ (λ i. args_moved ts each i ++ fold-Fun TypeTerm (substituted_step name) f ts i ∷ [])
      ∙ sym (ap subterms (fold-Fun TypeTerm (substituted_step name) f ts) ∙ subterms-Fun f (map (substituted name) ts)))

  pub moved_sides : (e : ObsEq) → side_nodes (Some name) e.left e.right ≡ observed name e
  moved_sides e = λ i. moved_nodes e.left i ++ moved_nodes e.right i

pub own_sides : (t u : TypeTerm) → side_nodes None t u ≡ subterms t ++ subterms u
own_sides t u = λ i. own_nodes t i ++ own_nodes u i

module _ (i : InstanceData) (is : IsInstance i) where
  standings_are : AreStandings i.schema i.tables i.presentation.generators i.assignment
  standings_are = record { count = is.assigned; sorts = is.sorts }

  -- a term over the presentation is read over its generators
  pub ground_readable : (t : TypeTerm) → IsGround i.schema i.presentation (Typ t) → IsReadable i i.assignment None t
  ground_readable t ground =
      let typed = ground_type i.schema i.presentation t ground in
      record { generators = i.presentation.generators; stand = standings_are; means = λ u type h. refl; type = typed.0; typed = typed.1 }

  -- both sides of an equation of the presentation
  pub sides_readable : (n : ℕ) (e : Equation) (t u : TypeTerm) → slice_get i.presentation.equations n ≡ Some e → e ≡ equation.Typ t u
      → IsReadable i i.assignment None t × IsReadable i i.assignment None u
  sides_readable n e t u at typ =
      let equal : IsEquation i.schema i.presentation (equation.Typ t u) = subst (IsEquation i.schema i.presentation) typ (is.presented.equations n e at) in
      (ground_readable t (equal.sort, equal.left), ground_readable u (equal.sort, equal.right))

  module _ (entity row : ℕ) (inside : row < count_of i.tables entity) where
    one_stands : (n : ℕ) (g : Name × Sort) → slice_get (one_of entity) n ≡ Some g → HasSort i.schema i.tables g.1 (slice_index_or (AtRow row ∷ []) n (AtRow 0))
    one_stands zero g at =
        let both : Some ([], Entity entity) ≡ Some g = at in
        let same : ([], Entity entity) ≡ g = cc in
        subst (λ (x : Name × Sort). HasSort i.schema i.tables x.1 (AtRow row)) same inside
    one_stands (suc n) g at = let none : slice_get (one_of entity) (suc n) ≡ Some g = at in cc

    -- a term over the variable is read at the row
    pub observed_readable : (name : EntTerm) (t : TypeTerm) (type : ℕ) → IsNameOf i entity row name → type_of i.schema (one_of entity) t ≡ Some type
        → IsReadable i (AtRow row ∷ []) (Some name) t
    observed_readable name t type named typed = record {
      generators = one_of entity;
      stand = record { count = refl; sorts = one_stands };
      means = value_of-substituted i.schema i.tables i.assignment name entity row named.of_row;
      type = type;
      typed = typed;
    }

-- the equation with one of the numbers of an entity's equations
pub equation_at : (equations : List ObsEq) (entity : ℕ) (numbers : List ℕ) (k : ℕ) → numbers ≡ positions (obs_eq_sources equations) entity → k < length numbers
    → (e : ObsEq) × (slice_get equations (get_or numbers k 0) ≡ Some e) × (e.entity ≡ entity)
equation_at equations entity numbers k are within =
    get-map_from (λ (e : ObsEq). e.entity) equations (get_or numbers k 0) entity
    (at_positions (obs_eq_sources equations) entity k (get_or numbers k 0) (ap (λ l. slice_get l k) (sym are) ∙ slice_get-get_or numbers k 0 within))

-- the parts of a term that is read are read there
module _ (i : InstanceData) (standings : Assignment) (name : Option EntTerm) (t : TypeTerm) (h : IsReadable i standings name t) where
  pub readable_term : IsTypeTermOf i.schema i.tables standings t h.type
  readable_term = record { generators = h.generators; standings = h.stand; typed = h.typed }

  pub node_means : value_of i.tables i.assignment (node_at name t) ≡ value_of i.tables standings t
  node_means = h.means t h.type h.typed

  pub args_readable : (f : ℕ) (ts : List TypeTerm) → t ≡ Fun f ts → EachTyped i.schema h.generators ts
  args_readable f ts same = args_typed i.schema h.generators f ts h.type (ap (type_of i.schema h.generators) (sym same) ∙ h.typed)

  pub part_readable : (u : TypeTerm) → IsTyped i.schema h.generators u → IsReadable i standings name u
  part_readable u typed = record { generators = h.generators; stand = h.stand; means = h.means; type = typed.0; typed = typed.1 }

-- An equation of the schema that has one of the numbers of an entity's equations, at a row of the entity.
module _ (i : InstanceData) (schema : IsSchema i.schema) (is : IsInstance i) (entity row : ℕ) (inside : row < count_of i.tables entity)
    (numbers : List ℕ) (are : numbers ≡ positions (obs_eq_sources i.schema.obs_eqs) entity) (k : ℕ) (within : k < length numbers)
    (equations : List ObsEq) (same : equations ≡ i.schema.obs_eqs) where
  abbrev n : ℕ
  n = get_or numbers k 0

  pub number_within : n < length equations
  number_within =
      let e = equation_at i.schema.obs_eqs entity numbers k are within in
      subst (λ (l : List ObsEq). n < length l) (sym same) (slice_get_within i.schema.obs_eqs n e.0 e.1)

  module _ (e : ObsEq) (item : e ≡ get_or equations n e) where
    pub equation_there : slice_get i.schema.obs_eqs n ≡ Some e
    equation_there = ap (λ (l : List ObsEq). slice_get l n) (sym same) ∙ slice_get-get_or equations n e number_within ∙ ap (λ (x : ObsEq). Some x) (sym item)

    of_entity : e.entity ≡ entity
    of_entity =
        let other = equation_at i.schema.obs_eqs entity numbers k are within in
        let both : Some e ≡ Some other.0 = sym equation_there ∙ other.1 in
        let one : e ≡ other.0 = cc in
        ap (λ (x : ObsEq). x.entity) one ∙ other.2

    module _ (name : EntTerm) (named : name ≡ name_at i.names entity row) where
      row_named : IsNameOf i entity row name
      row_named = subst (IsNameOf i entity row) (sym named) (is.meant entity row inside)

      pub left_readable : IsReadable i (AtRow row ∷ []) (Some name) e.left
      left_readable =
          let sides : IsObsEq i.schema e = schema.obs_eqs n e equation_there in
          observed_readable i is entity row inside name e.left sides.type row_named (ap (λ m. type_of i.schema (one_of m) e.left) (sym of_entity) ∙ sides.left)

      pub right_readable : IsReadable i (AtRow row ∷ []) (Some name) e.right
      right_readable =
          let sides : IsObsEq i.schema e = schema.obs_eqs n e equation_there in
          observed_readable i is entity row inside name e.right sides.type row_named (ap (λ m. type_of i.schema (one_of m) e.right) (sym of_entity) ∙ sides.right)

      -- one equation more is learned from at the row
      pub observed_more : (start now next : List (Option TypeTerm))
          → now ≡ learned_from i start (flat_map (observed (name_at i.names entity row)) (found_at i.schema.obs_eqs (take k numbers)))
          → next ≡ learned_from i now (side_nodes (Some name) e.left e.right)
          → next ≡ learned_from i start (flat_map (observed (name_at i.names entity row)) (found_at i.schema.obs_eqs (take (k + 1) numbers)))
      observed_more start now next before here =
          let f : ObsEq → List TypeTerm = observed (name_at i.names entity row) in
          let all : List ObsEq = found_at i.schema.obs_eqs (take k numbers) in
          let nodes : side_nodes (Some name) e.left e.right ≡ f e = moved_sides name e ∙ ap (λ (t : EntTerm). observed t e) named in
          let last : flat_map f (found_at i.schema.obs_eqs (take (k + 1) numbers)) ≡ flat_map f all ++ f e =
          ap (flat_map f) (found_more i.schema.obs_eqs numbers k n e within refl equation_there) ∙ flat_map-append f all (e ∷ []) ∙ ap (λ l. flat_map f all ++ l) (append-nil (f e)) in
          learned_then i start now next (flat_map f all) (f e) before (here ∙ ap (learned_from i now) nodes) ∙ ap (learned_from i start) (sym last)
