-- Equations that are added with the nodes of their sides, one after the other.
use Rattle.std.proofs.Common.{ℕ, zero, suc, Bool, true, false, cond, List, [], ◌∷◌, ◌++◌, Option, Some, None, ◌≡◌, ◌<◌, ◌≤◌, ◌+◌, ◌==◌, map, length, take, get_or, refl, sym, ap, subst, ◌∙◌, arith, append_assoc}
use Rattle.std.specs.Prelude.{filter, slice_get, slice_index, slice_index_or, option_map, option_and_then}
use Rattle.std.specs.List.{flat_map}
use Rattle.std.proofs.lemmas.List.{append-nil, take_more}
use Rattle.std.proofs.lemmas.List.Concat.{flat_map-append}
use Rattle.std.proofs.lemmas.List.Elements.{filter-append}
use Rattle.std.proofs.lemmas.Option.{slice_get-get_or}
use Rattle.cq_tables.specs.Content.{Content, live_of, trace_of}
use Rattle.cq_tables.specs.Content.{entity_of as row_entity}
use Rattle.cq_rows.proofs.Tracing.{trace_append}
use Rattle.cq_theory.specs.declared.presentation.Equation.{Equation}
use Rattle.cq_theory.specs.declared.presentation.Equation.TheVariants.{Ent, Typ}
use Rattle.cq_theory.specs.declared.presentation.Presentation.{Presentation}
use Rattle.cq_theory.specs.declared.presentation.Sort.{Sort}
use Rattle.cq_theory.specs.declared.presentation.Sort.TheVariants.{Plain}
use Rattle.cq_theory.specs.declared.schema.ObsEq.{ObsEq}
use Rattle.cq_theory.specs.SchemaData.{SchemaData as Schema}
use Rattle.cq_theory.specs.declared.term.EntTerm.{EntTerm}
use Rattle.cq_theory.specs.declared.term.TypeTerm.{TypeTerm}
use Rattle.cq_theory.specs.declared.term.TypeTerm.TheVariants as term
use Rattle.cq_theory.specs.Canonical.{below}
use Rattle.cq_theory.specs.EntTerm.{extended}
use Rattle.cq_theory.specs.TypeTerm.{substituted, substituted_step}
use Rattle.cq_theory.specs.Presentation.{IsEquation}
use Rattle.cq_theory.specs.Schema.{IsObsEq, one_of}
use Rattle.cq_theory.specs.Sorts.{Generators, entity_at, type_at, target_of, type_of}
use Rattle.cq_theory.proofs.Sorted.{type_of-substituted}
use Rattle.cq_theory.proofs.TypeTerms.{fold-Gen, fold-Const, fold-Att, fold-Fun}
use Rattle.cq_model.specs.declared.places.Places.{Places}
use Rattle.cq_model.specs.NodeListData.{NodeListData}
use Rattle.cq_model.specs.NodeTerms.{side_terms, equation_sides, IsConstantTerm}
use Rattle.cq_model.specs.Pushing.{AreReadable, IsPlacing, AreEquationsOf, HasMore, IsEquated}
use Rattle.cq_model.specs.Thins.{Thins, ended}
use Rattle.cq_model.specs.Equating.{sides_at, AddsSides, IsNameOf, AreNamesOf, none, more, AddsAtRow, AddsAtRows, AddsObservations}
use Rattle.cq_instance.proofs.Lists.{map-append, range-append}
use Rattle.cq_model.proofs.Thinning.{Thins-append}

-- one member more
flat_more : {X Y : Type 0} (f : X → List Y) (xs : List X) (x : X) → flat_map f (xs ++ x ∷ []) ≡ flat_map f xs ++ f x
flat_more f xs x = flat_map-append f xs (x ∷ []) ∙ ap (λ (l : List _). flat_map f xs ++ l) (append-nil (f x))

-- a loop over a list that equals another, at its next item
pub next_longer : {X : Type 0} (items xs : List X) (i : ℕ) (x : X) → items ≡ xs → i < length items → x ≡ get_or items i x → take (i + 1) xs ≡ take i xs ++ x ∷ []
next_longer items xs i x same inside is =
    let here : i < length xs = omega (arith, inside, ap length same) in
    take_more xs i x here ∙ ap (λ (y : _). take i xs ++ y ∷ []) (sym (is ∙ ap (λ (l : List _). get_or l i x) same))

pub next_found : {X : Type 0} (items xs : List X) (i : ℕ) (x : X) → items ≡ xs → i < length items → x ≡ get_or items i x → slice_get xs i ≡ Some x
next_found items xs i x same inside is = ap (λ (l : List _). slice_get l i) (sym same) ∙ slice_get-get_or items i x inside ∙ ap (λ (y : _). Some y) (sym is)

below_more : (n : ℕ) → below (n + 1) ≡ below n ++ n ∷ []
below_more n =
    let here : 0 + n ≡ n = omega arith in
    sym (range-append 0 n 1) ∙ ap (λ t. below n ++ t ∷ []) here

same_terms : (ts : List TypeTerm) → ts ≡ map (λ t. t) ts
same_terms [] = refl
same_terms (t ∷ ts) = ap (λ (l : List TypeTerm). t ∷ l) (same_terms ts)

-- both sides have one type
pub record HaveOneType (S : Schema) (G : Generators) (t u : TypeTerm) : Type 0 where
  pub type : ℕ
  pub left : type_of S G t ≡ Some type
  pub right : type_of S G u ≡ Some type

plain_type_of : (o : Option ℕ) (sort : Sort) → option_map Plain o ≡ Some sort → (type : ℕ) × (o ≡ Some type) × (Plain type ≡ sort)
plain_type_of None sort h = cc
plain_type_of (Some type) sort h = let same : Plain type ≡ sort = cc in (type, refl, same)

pub given_typed : (S : Schema) (P : Presentation) (t u : TypeTerm) → IsEquation S P (Typ t u) → HaveOneType S P.generators t u
given_typed S P t u e =
    let left = plain_type_of (type_of S P.generators t) e.sort e.left in
    let right = plain_type_of (type_of S P.generators u) e.sort e.right in
    let plain : Plain left.0 ≡ Plain right.0 = left.2 ∙ sym right.2 in
    let same : left.0 ≡ right.0 = cc in
    record { type = left.0; left = left.1; right = right.1 ∙ ap (λ n. Some n) (sym same) }

pub observation_typed : (S : Schema) (entity : ℕ) (e : ObsEq) → IsObsEq S e → e.entity ≡ entity → HaveOneType S (one_of entity) e.left e.right
observation_typed S entity e is same = record {
  type = is.type;
  left = subst (λ n. type_of S (one_of n) e.left ≡ Some is.type) same is.left;
  right = subst (λ n. type_of S (one_of n) e.right ≡ Some is.type) same is.right;
}

-- the variable of an equation
variable_is : (entity g e : ℕ) → entity_at (slice_get (one_of entity) g) ≡ Some e → (g ≡ 0) × (entity ≡ e)
variable_is entity zero e h = let same : entity ≡ e = cc in (refl, same)
variable_is entity (suc g) e h = cc

no_variable : (entity g type : ℕ) → type_at (slice_get (one_of entity) g) ≡ Some type → ⊥
no_variable entity zero type h = cc
no_variable entity (suc g) type h = cc

entity_start : (o : Option ℕ) (f : ℕ → Option ℕ) (e : ℕ) → option_and_then f o ≡ Some e → (start : ℕ) × (o ≡ Some start)
entity_start None f e h = cc
entity_start (Some start) f e h = (start, refl)

module _ (S : Schema) (m : Content) (places : Places) where
  -- the terms over the variable of an equation can be read, where it stands for a row of its entity
  pub row_readable : (entity row count : ℕ) → live_of m row ≡ true → row_entity m row ≡ entity → AreReadable S m places (one_of entity) (row ∷ []) count
  row_readable entity row count live of_entity = record {
    known = λ g e h. let v = variable_is entity g e h in omega (arith, v.0);
    live = λ g e h. let v = variable_is entity g e h in ap (λ n. live_of m (slice_index (row ∷ []) n)) v.0 ∙ live;
    entity = λ g e h. let v = variable_is entity g e h in ap (λ n. row_entity m (slice_index (row ∷ []) n)) v.0 ∙ of_entity ∙ v.1;
    placed = λ g type h. absurd (no_variable entity g type h);
    leaf = λ g type h. absurd (no_variable entity g type h);
  }

  module _ (P : Presentation) (entries : List ℕ) where
    -- a term over the presentation stands as it is
    as_given : IsPlacing S m places P entries P.generators entries (λ t. t) (λ t. t)
    as_given = record {
      gen = λ n. refl;
      constant = λ c. refl;
      attribute = λ a t. refl;
      function = λ f ts. ap (term.Fun f) (same_terms ts);
      row = λ t e h. refl;
      sort = λ t type h. h;
    }

    -- a term over a variable, with a term that leads to the row in the variable's place
    in_place : (entity row : ℕ) (t : EntTerm) → IsNameOf S m places P entries entity row t
        → IsPlacing S m places P entries (one_of entity) (row ∷ []) (substituted t) (λ u. extended t u.path)
    in_place entity row t name = record {
      gen = λ n. fold-Gen TypeTerm (substituted_step t) n;
      constant = λ c. fold-Const TypeTerm (substituted_step t) c;
      attribute = λ a u. fold-Att TypeTerm (substituted_step t) a u;
      function = λ f ts. fold-Fun TypeTerm (substituted_step t) f ts;
      row = λ u e h.
          let start = entity_start (entity_at (slice_get (one_of entity) u.generator)) (target_of S.keys u.path) e h in
          let v = variable_is entity u.generator start.0 start.1 in
          trace_append m (slice_index entries t.generator) row t.path u.path name.row_is ∙ ap (λ n. trace_of m (slice_index (row ∷ []) n) u.path) (sym v.0);
      sort = λ u type h. type_of-substituted S P.generators t entity name.sort u type h;
    }

    pub sides_none : (list : NodeListData) → AddsSides S m places P entries [] list list
    sides_none list = λ terms sides h. record {
      more = [];
      thinned = ended;
      are = subst (λ (p : List TypeTerm × List (TypeTerm × TypeTerm)). AreEquationsOf S m places P entries p.0 p.1 list) (λ i. (sym (append-nil terms) i, sym (append-nil sides) i)) h;
    }

    pub sides_append : (old mid new : NodeListData) (xs ys : List (TypeTerm × TypeTerm)) → AddsSides S m places P entries xs old mid → AddsSides S m places P entries ys mid new
        → AddsSides S m places P entries (xs ++ ys) old new
    sides_append old mid new xs ys first second = λ terms sides h.
        let one : HasMore S m places P entries terms (flat_map side_terms xs) (sides ++ xs) mid = first terms sides h in
        let two : HasMore S m places P entries (terms ++ one.more) (flat_map side_terms ys) ((sides ++ xs) ++ ys) new = second (terms ++ one.more) (sides ++ xs) one.are in
        record {
          more = one.more ++ two.more;
          thinned = subst (λ (l : List TypeTerm). Thins IsConstantTerm l (one.more ++ two.more)) (sym (flat_map-append side_terms xs ys)) (Thins-append IsConstantTerm one.thinned two.thinned);
          are = subst (λ (p : List TypeTerm × List (TypeTerm × TypeTerm)). AreEquationsOf S m places P entries p.0 p.1 new)
              (λ i. (append_assoc terms one.more two.more i, append_assoc sides xs ys i)) two.are;
        }

    -- one equation
    pub sides_one : (G : Generators) (rows : List ℕ) (placed : TypeTerm → TypeTerm) (named : EntTerm → EntTerm) (old new : NodeListData) (t u : TypeTerm)
        → IsPlacing S m places P entries G rows placed named → HaveOneType S G t u → IsEquated S m places rows old new t u → AddsSides S m places P entries ((placed t, placed u) ∷ []) old new
    sides_one G rows placed named old new t u placing typed equated = λ terms sides h.
        subst (λ (l : List TypeTerm). HasMore S m places P entries terms l (sides ++ (placed t, placed u) ∷ []) new) (sym (append-nil (side_terms (placed t, placed u))))
        (equated.listed P entries G placed named terms sides typed.type placing typed.left typed.right h)

    -- the equations of a presentation so far
    pub record AreGiven (equations : List Equation) (old new : NodeListData) : Type 0 where
      pub grows : length old.nodes ≤ length new.nodes
      pub added : AddsSides S m places P entries (flat_map equation_sides equations) old new

    pub given_none : (list : NodeListData) → AreGiven [] list list
    given_none list = record { grows = omega arith; added = sides_none list }

    pub given_ent : (old new : NodeListData) (es : List Equation) (t u : EntTerm) → AreGiven es old new → AreGiven (es ++ Ent t u ∷ []) old new
    given_ent old new es t u before = record {
      grows = before.grows;
      added = subst (λ (l : List (TypeTerm × TypeTerm)). AddsSides S m places P entries l old new) (sym (flat_more equation_sides es (Ent t u) ∙ append-nil (flat_map equation_sides es))) before.added;
    }

    pub given_typ : (old mid new : NodeListData) (es : List Equation) (t u : TypeTerm) → AreGiven es old mid → HaveOneType S P.generators t u → IsEquated S m places entries mid new t u
        → AreGiven (es ++ Typ t u ∷ []) old new
    given_typ old mid new es t u before typed equated = record {
      grows = omega (arith, before.grows, equated.grows);
      added = subst (λ (l : List (TypeTerm × TypeTerm)). AddsSides S m places P entries l old new) (sym (flat_more equation_sides es (Typ t u)))
          (sides_append old mid new (flat_map equation_sides es) ((t, u) ∷ []) before.added (sides_one P.generators entries (λ x. x) (λ x. x) mid new t u as_given typed equated));
    }

  -- the observation equations of an entity at a row so far
  pub record AreAtRow (entity row : ℕ) (equations : List ObsEq) (old new : NodeListData) : Type 0 where
    pub grows : length old.nodes ≤ length new.nodes
    pub added : AddsAtRow S m places entity equations row old new

  sides_more : (entity : ℕ) (es : List ObsEq) (e : ObsEq) (t : EntTerm) (b : Bool) → (e.entity == entity) ≡ b
      → sides_at entity (es ++ e ∷ []) t ≡ sides_at entity es t ++ map (λ (o : ObsEq). (substituted t o.left, substituted t o.right)) (cond b (e ∷ []) [])
  sides_more entity es e t b test =
      ap (map (λ (o : ObsEq). (substituted t o.left, substituted t o.right))) (filter-append (λ (o : ObsEq). o.entity == entity) es (e ∷ []))
      ∙ map-append (λ (o : ObsEq). (substituted t o.left, substituted t o.right)) (filter (λ (o : ObsEq). o.entity == entity) es) (filter (λ (o : ObsEq). o.entity == entity) (e ∷ []))
      ∙ ap (λ c. sides_at entity es t ++ map (λ (o : ObsEq). (substituted t o.left, substituted t o.right)) (cond c (e ∷ []) [])) test

  pub row_none : (entity row : ℕ) (list : NodeListData) → AreAtRow entity row [] list list
  row_none entity row list = record { grows = omega arith; added = λ P entries t name. sides_none P entries list }

  pub row_skip : (entity row : ℕ) (old new : NodeListData) (es : List ObsEq) (e : ObsEq) → AreAtRow entity row es old new → (e.entity == entity) ≡ false → AreAtRow entity row (es ++ e ∷ []) old new
  row_skip entity row old new es e before other = record {
    grows = before.grows;
    added = λ P entries t name.
        subst (λ (l : List (TypeTerm × TypeTerm)). AddsSides S m places P entries l old new) (sym (sides_more entity es e t false other ∙ append-nil (sides_at entity es t))) (before.added P entries t name);
  }

  pub row_more : (entity row : ℕ) (old mid new : NodeListData) (es : List ObsEq) (e : ObsEq) → AreAtRow entity row es old mid → (e.entity == entity) ≡ true
      → HaveOneType S (one_of entity) e.left e.right → IsEquated S m places (row ∷ []) mid new e.left e.right → AreAtRow entity row (es ++ e ∷ []) old new
  row_more entity row old mid new es e before same typed equated = record {
    grows = omega (arith, before.grows, equated.grows);
    added = λ P entries t name.
        subst (λ (l : List (TypeTerm × TypeTerm)). AddsSides S m places P entries l old new) (sym (sides_more entity es e t true same))
        (sides_append P entries old mid new (sides_at entity es t) ((substituted t e.left, substituted t e.right) ∷ []) (before.added P entries t name)
        (sides_one P entries (one_of entity) (row ∷ []) (substituted t) (λ u. extended t u.path) mid new e.left e.right (in_place P entries entity row t name) typed equated));
  }

  -- at rows so far
  pub record AreAtRows (entity : ℕ) (rows : List ℕ) (old new : NodeListData) : Type 0 where
    pub grows : length old.nodes ≤ length new.nodes
    pub added : AddsAtRows S m places entity rows old new

  -- the last of some names
  record HasLast (P : Presentation) (entries : List ℕ) (entity : ℕ) (rows : List ℕ) (row : ℕ) (names : List EntTerm) : Type 0 where
    pub front : List EntTerm
    pub last : EntTerm
    pub is : names ≡ front ++ last ∷ []
    pub front_are : AreNamesOf S m places P entries entity rows front
    pub last_is : IsNameOf S m places P entries entity row last

  has_last : (P : Presentation) (entries : List ℕ) (entity : ℕ) (rows : List ℕ) (row : ℕ) (names : List EntTerm) → AreNamesOf S m places P entries entity (rows ++ row ∷ []) names
      → HasLast P entries entity rows row names
  has_last P entries entity [] row _ (more {t = t} is none) = record { front = []; last = t; is = refl; front_are = none; last_is = is }
  has_last P entries entity (first ∷ rows) row _ (more {t = t} {names = names} is rest) =
      let l = has_last P entries entity rows row names rest in
      record { front = t ∷ l.front; last = l.last; is = ap (λ (ts : List EntTerm). t ∷ ts) l.is; front_are = more is l.front_are; last_is = l.last_is }

  pub rows_none : (entity : ℕ) (list : NodeListData) → AreAtRows entity [] list list
  rows_none entity list = record { grows = omega arith; added = λ P entries names are. no_sides P entries names are }
    where
      no_sides : (P : Presentation) (entries : List ℕ) (names : List EntTerm) → AreNamesOf S m places P entries entity [] names
          → AddsSides S m places P entries (flat_map (sides_at entity S.obs_eqs) names) list list
      no_sides P entries _ none = sides_none P entries list

  pub rows_more : (entity row : ℕ) (old mid new : NodeListData) (rows : List ℕ) → AreAtRows entity rows old mid → length mid.nodes ≤ length new.nodes → AddsAtRow S m places entity S.obs_eqs row mid new
      → AreAtRows entity (rows ++ row ∷ []) old new
  rows_more entity row old mid new rows before grows at_row = record {
    grows = omega (arith, before.grows, grows);
    added = λ P entries names are.
        let l = has_last P entries entity rows row names are in
        subst (λ (sides : List (TypeTerm × TypeTerm)). AddsSides S m places P entries sides old new)
        (sym (ap (flat_map (sides_at entity S.obs_eqs)) l.is ∙ flat_more (sides_at entity S.obs_eqs) l.front l.last))
        (sides_append P entries old mid new (flat_map (sides_at entity S.obs_eqs) l.front) (sides_at entity S.obs_eqs l.last) (before.added P entries l.front l.front_are) (at_row P entries l.last l.last_is));
  }

  -- at the rows of the first entities
  pub record AreObserved (order : List (List ℕ)) (n : ℕ) (old new : NodeListData) : Type 0 where
    pub grows : length old.nodes ≤ length new.nodes
    pub added : AddsObservations S m places order n old new

  pub observed_none : (order : List (List ℕ)) (list : NodeListData) → AreObserved order 0 list list
  observed_none order list = record { grows = omega arith; added = λ P entries names are. sides_none P entries list }

  pub observed_more : (order : List (List ℕ)) (n : ℕ) (old mid new : NodeListData) → AreObserved order n old mid → length mid.nodes ≤ length new.nodes
      → AddsAtRows S m places n (slice_index_or order n []) mid new → AreObserved order (n + 1) old new
  observed_more order n old mid new before grows at_rows = record {
    grows = omega (arith, before.grows, grows);
    added = λ P entries names are.
        let f : ℕ → List (TypeTerm × TypeTerm) = λ e. flat_map (sides_at e S.obs_eqs) (slice_index_or names e []) in
        subst (λ (sides : List (TypeTerm × TypeTerm)). AddsSides S m places P entries sides old new) (sym (ap (flat_map f) (below_more n) ∙ flat_more f (below n) n))
        (sides_append P entries old mid new (flat_map f (below n)) (f n) (before.added P entries names (λ e less. are e (omega (arith, less)))) (at_rows P entries (slice_index_or names n []) (are n (omega arith))));
  }
