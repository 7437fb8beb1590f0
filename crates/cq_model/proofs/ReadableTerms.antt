-- What it says of a term that it can be read: of an attribute its cell, of a constant and of a function its place, and of arguments that they can be read.
use Rattle.std.proofs.Common.{ℕ, zero, suc, true, List, [], ◌∷◌, ◌++◌, Option, Some, ◌≡◌, ◌<◌, ◌≤◌, map, length, Result, Ok, Err, refl, sym, ap, subst, ◌∙◌, arith}
use Rattle.std.specs.Prelude.{slice_get, slice_index, option_and_then, IsSome, IfOk, OnOk}
use Rattle.std.proofs.lemmas.Option.{same_Some, option_and_then_some, slice_get_within}
use Rattle.cq_flat.specs.declared.node.Node.TheVariants as node
use Rattle.cq_tables.specs.Content.{Content, live_of, end_of, keys_of}
use Rattle.cq_tables.specs.Content.{entity_of as row_entity}
use Rattle.cq_rows.specs.Rows.{row_of_term}
use Rattle.cq_theory.specs.Typeside.{constant_type}
use Rattle.cq_theory.specs.declared.constant.Con.{Con}
use Rattle.cq_theory.specs.SchemaData.{SchemaData as Schema}
use Rattle.cq_theory.specs.declared.typeside.Fun.{Fun as Function}
use Rattle.cq_theory.specs.declared.term.EntTerm.{EntTerm}
use Rattle.cq_theory.specs.declared.term.TypeTerm.{TypeTerm}
use Rattle.cq_theory.specs.declared.term.TypeTerm.TheVariants.{Const, Att, Fun}
use Rattle.cq_theory.specs.Sorts.{Generators, followed, target_of, entity_at, entity_of, is_type, have_types, type_of, type_step}
use Rattle.cq_theory.proofs.Sound.{followed_some, applied_type_some, both, is_type_some}
use Rattle.cq_theory.proofs.TypeTerms.{fold-Const, fold-Att, fold-Fun}
use Rattle.cq_model.specs.declared.places.Places.{Places}
use Rattle.cq_model.specs.NodeListData.{NodeListData}
use Rattle.cq_model.specs.NodeTerms.{cell_place}
use Rattle.cq_model.specs.Pushing.{HavePlaces, IsReadable, IsPushed}
use Rattle.cq_model.proofs.LeadingPaths.{path_leads, path_ends}
use Rattle.cq_model.proofs.PushedTerms.{AreReadable-wider, pushed_cell, pushed_const, ArePushed, pushed_fun}

-- where a call answers, both of its clauses hold
pub if_answered : {X E : Type 0} (result : Result X E) (P : X → Type 0) (A : Type 0) (Q : X → Type 0) → ((x : X) → P x → A → Q x) → IfOk result P → OnOk result A → IfOk result Q
if_answered (Ok x) P A Q f h g = f x h g
if_answered (Err e) P A Q f h g = tt

-- the row to which a term leads, and all that finding its cell at an attribute asks for
pub record HasCell (m : Content) (places : Places) (rows : List ℕ) (count a : ℕ) (t : EntTerm) : Type 0 where
  pub attribute : a < length places.ranks
  pub start : t.generator < length rows
  pub live : live_of m (slice_index rows t.generator) ≡ true
  pub path : IsSome (end_of (keys_of m) (row_entity m (slice_index rows t.generator)) t.path)
  pub row : ℕ
  pub traced : row_of_term m rows t ≡ Some row
  pub within : cell_place places row a < count

module _ (S : Schema) (m : Content) (places : Places) (count : ℕ) (have : HavePlaces S m places count) where
  pub has_cell : (rows : List ℕ) (a : ℕ) (t : EntTerm) → IsReadable S m places rows count (Att a t) → HasCell m places rows count a t
  has_cell rows a t h =
      let sort : option_and_then (followed (slice_get S.attributes a)) (entity_of S h.generators t) ≡ Some h.type = sym (fold-Att (Option ℕ) (type_step S h.generators) a t) ∙ h.sort in
      option_and_then_some (followed (slice_get S.attributes a)) (entity_of S h.generators t) h.type sort (λ e led leaves.
      option_and_then_some (target_of S.keys t.path) (entity_at (slice_get h.generators t.generator)) e led (λ start first rest.
      let edge = followed_some (slice_get S.attributes a) e h.type leaves in
      let live : live_of m (slice_index rows t.generator) ≡ true = h.readable.live t.generator start first in
      let leads : target_of S.keys t.path (row_entity m (slice_index rows t.generator)) ≡ Some e = ap (target_of S.keys t.path) (h.readable.entity t.generator start first) ∙ rest in
      let row = path_leads S m have.whole have.keys have.filled t.path (slice_index rows t.generator) e live leads in
      record {
        attribute = omega (arith, slice_get_within S.attributes a edge.0 edge.1, have.ranks);
        start = h.readable.known t.generator start first;
        live = live;
        path = path_ends S m have.whole have.keys have.filled t.path (row_entity m (slice_index rows t.generator)) e leads;
        row = row.0;
        traced = row.1;
        within = have.cells row.0 a edge.0 row.2 edge.1 (edge.2 ∙ sym row.3);
      }))

module _ (S : Schema) (m : Content) (places : Places) where
  pub IsReadable-wider : (rows : List ℕ) (a b : ℕ) (t : TypeTerm) → a ≤ b → IsReadable S m places rows a t → IsReadable S m places rows b t
  IsReadable-wider rows a b t le h = record {
    generators = h.generators;
    readable = AreReadable-wider S m places h.generators rows a b le h.readable;
    type = h.type;
    sort = h.sort;
  }

  -- the cell of a term
  pub readable_cell : (rows : List ℕ) (list : NodeListData) (a r place : ℕ) (t : EntTerm) → HavePlaces S m places (length list.nodes) → IsReadable S m places rows (length list.nodes) (Att a t)
      → row_of_term m rows t ≡ Some r → place ≡ cell_place places r a → IsPushed S m places rows list list (Att a t) place
  readable_cell rows list a r place t have h traced is =
      let cell : HasCell m places rows (length list.nodes) a t = has_cell S m places (length list.nodes) have rows a t h in
      let one : cell.row ≡ r = same_Some cell.row r (sym cell.traced ∙ traced) in
      pushed_cell S m places rows list a r place t traced is
      (subst (λ n. n < length list.nodes) (ap (λ q. cell_place places q a) one ∙ sym is) cell.within)
      (λ G type sort. map_and_then (followed (slice_get S.attributes a)) (entity_of S G t) type (sym (fold-Att (Option ℕ) (type_step S G) a t) ∙ sort))
    where
      map_and_then : (f : ℕ → Option ℕ) (o : Option ℕ) (type : ℕ) → option_and_then f o ≡ Some type → (e : ℕ) × (o ≡ Some e)
      map_and_then f o type h = option_and_then_some f o type h (λ e is _. (e, is))

  -- a constant has a type
  pub constant_known : (rows : List ℕ) (count : ℕ) (c : Con) (t : TypeTerm) → t ≡ Const c → IsReadable S m places rows count t → IsSome (constant_type S.typeside c)
  constant_known rows count c t is h =
      let sort : type_of S h.generators (Const c) ≡ Some h.type = ap (type_of S h.generators) (sym is) ∙ h.sort in
      subst (λ (o : Option ℕ). IsSome o) (sym (sym (fold-Const (Option ℕ) (type_step S h.generators) c) ∙ sort)) refl

  -- a constant behind the others
  pub readable_constant : (rows : List ℕ) (old new : NodeListData) (c : Con) (place kind : ℕ) → constant_type S.typeside c ≡ Some kind → place ≡ length old.nodes
      → new ≡ record { nodes = old.nodes ++ node.Const c ∷ []; types = old.types ++ kind ∷ []; equations = old.equations } → IsPushed S m places rows old new (Const c) place
  readable_constant rows old new c place kind found place_is added =
      pushed_const S m places rows old new c kind place place_is added (λ G type sort.
      same_Some type kind (sym (sym (fold-Const (Option ℕ) (type_step S G) c) ∙ sort) ∙ found))

  -- the same of a function
  pub function_known : (rows : List ℕ) (count f : ℕ) (ts : List TypeTerm) (t : TypeTerm) (functions : List Function) → t ≡ Fun f ts → functions ≡ S.typeside.functions → IsReadable S m places rows count t
      → f < length functions
  function_known rows count f ts t functions is same h =
      let sort : type_of S h.generators (Fun f ts) ≡ Some h.type = ap (type_of S h.generators) (sym is) ∙ h.sort in
      let found = applied_type_some (slice_get S.typeside.functions f) (map (type_of S h.generators) ts) h.type (sym (fold-Fun (Option ℕ) (type_step S h.generators) f ts) ∙ sort) in
      subst (λ (l : List Function). f < length l) (sym same) (slice_get_within S.typeside.functions f found.0 found.1)

  -- arguments that have the types of a list have some
  args_typed : (G : Generators) (ts : List TypeTerm) (types : List ℕ) → have_types (map (type_of S G) ts) types ≡ true → (i : ℕ) (t : TypeTerm) → slice_get ts i ≡ Some t
      → (type : ℕ) × (type_of S G t ≡ Some type)
  args_typed G [] types h i t at = cc
  args_typed G (u ∷ us) [] h i t at = cc
  args_typed G (u ∷ us) (type ∷ types) h zero t at =
      let parts : (is_type (type_of S G u) type ≡ true) × (have_types (map (type_of S G) us) types ≡ true) = both _ _ h in
      (type, ap (type_of S G) (sym (same_Some u t at)) ∙ is_type_some (type_of S G u) type parts.0)
  args_typed G (u ∷ us) (type ∷ types) h (suc i) t at =
      let parts : (is_type (type_of S G u) type ≡ true) × (have_types (map (type_of S G) us) types ≡ true) = both _ _ h in
      args_typed G us types parts.1 i t at

  args_sorted : (G : Generators) (f : ℕ) (ts : List TypeTerm) (type : ℕ) → type_of S G (Fun f ts) ≡ Some type → (i : ℕ) (t : TypeTerm) → slice_get ts i ≡ Some t
      → (type' : ℕ) × (type_of S G t ≡ Some type')
  args_sorted G f ts type sort =
      let found = applied_type_some (slice_get S.typeside.functions f) (map (type_of S G) ts) type (sym (fold-Fun (Option ℕ) (type_step S G) f ts) ∙ sort) in
      args_typed G ts found.0.args found.2

  -- each argument can be read
  pub argument_readable : (rows : List ℕ) (count f : ℕ) (ts : List TypeTerm) → IsReadable S m places rows count (Fun f ts) → (i : ℕ) (t : TypeTerm) → slice_get ts i ≡ Some t
      → IsReadable S m places rows count t
  argument_readable rows count f ts h i t at =
      let sorted = args_sorted h.generators f ts h.type h.sort i t at in
      record { generators = h.generators; readable = h.readable; type = sorted.0; sort = sorted.1 }

  -- an application behind its arguments
  pub readable_application : (rows : List ℕ) (old mid new : NodeListData) (f place : ℕ) (ts : List TypeTerm) (found : List ℕ) (function : Function) → slice_get S.typeside.functions f ≡ Some function
      → ArePushed S m places rows old mid ts found → place ≡ length mid.nodes
      → new ≡ record { nodes = mid.nodes ++ node.Fun f found ∷ []; types = mid.types ++ function.result ∷ []; equations = mid.equations } → IsPushed S m places rows old new (Fun f ts) place
  readable_application rows old mid new f place ts found function known before place_is added =
      pushed_fun S m places rows old mid new f function.result place ts found before place_is added (λ G type sort. (result_is G type sort, args_sorted G f ts type sort))
    where
      result_is : (G : Generators) (type : ℕ) → type_of S G (Fun f ts) ≡ Some type → type ≡ function.result
      result_is G type sort =
          let other = applied_type_some (slice_get S.typeside.functions f) (map (type_of S G) ts) type (sym (fold-Fun (Option ℕ) (type_step S G) f ts) ∙ sort) in
          sym other.3 ∙ ap (λ (k : Function). k.result) (same_Some other.0 function (sym other.1 ∙ known))
