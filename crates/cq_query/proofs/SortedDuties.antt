-- The duties of a query are well-sorted equations over frozen presentations.
use Rattle.std.proofs.Common.{ℕ, zero, suc, List, [], ◌∷◌, ◌++◌, Option, Some, ◌≡◌, ◌<◌, ◌+◌, if◌then◌else◌, inl, inr, map, length, refl, sym, ap, subst, ◌∙◌, arith, eq-eqb}
use Rattle.std.specs.Prelude.{slice_get, option_map}
use Rattle.std.specs.List.{flat_map}
use Rattle.std.proofs.lemmas.Bool.{cases_eq, ne_eqb}
use Rattle.std.proofs.lemmas.Option.{get_or_from_slice_get, slice_get_within}
use Rattle.cq_base.specs.declared.name.Name.{Name}
use Rattle.cq_theory.specs.declared.presentation.Equation.{Equation}
use Rattle.cq_theory.specs.declared.presentation.Equation.TheVariants.{Ent as EntEquation, Typ as TypEquation}
use Rattle.cq_theory.specs.declared.presentation.Sort.TheVariants.{Plain, Entity}
use Rattle.cq_theory.specs.declared.schema.Edge.{Edge}
use Rattle.cq_theory.specs.declared.schema.PathEq.{PathEq}
use Rattle.cq_theory.specs.declared.schema.ObsEq.{ObsEq}
use Rattle.cq_theory.specs.declared.term.EntTerm.{EntTerm}
use Rattle.cq_theory.specs.Sorts.{Generators, entity_of}
use Rattle.cq_theory.proofs.Faults.{made_of}
use Rattle.cq_query.specs.QueryData.{QueryData as Query}
use Rattle.cq_theory.specs.Groups.{positions_from, positions}
use Rattle.cq_query.specs.Puts.{put_equation}
use Rattle.cq_query.specs.Translation.{key_sources, path_sources, observation_sources, variables_at, tests_at, variable_terms, assigned, along, translated}
use Rattle.cq_query.specs.Duties.{equal_terms, key_duties, path_duties, observation_duties, duties}
use Rattle.cq_query.specs.IsQuery.{IsQuery}
use Rattle.cq_query.proofs.Standing.{HasOneSort, Stand, generators_at, put_equation_sorted, assigned_stand, along_stand, translated_sorted, variables_stand}

abbrev pub All_in : {X : Type 0} → (X → Type 0) → List X → Type 0
All_in {X} P xs = (n : ℕ) (x : X) → slice_get xs n ≡ Some x → P x

pub all_append : {X : Type 0} (P : X → Type 0) (xs ys : List X) → All_in P xs → All_in P ys → All_in P (xs ++ ys)
all_append P [] ys left right n y h = right n y h
all_append P (x ∷ xs) ys left right zero y h = left zero y h
all_append P (x ∷ xs) ys left right (suc n) y h = all_append P xs ys (λ m z k. left (suc m) z k) right n y h

pub all_flat_map : {X Y : Type 0} (P : Y → Type 0) (f : X → List Y) (xs : List X) → All_in (λ x. All_in P (f x)) xs → All_in P (flat_map f xs)
all_flat_map P f [] h n y is = cc
all_flat_map P f (x ∷ xs) h n y is = all_append P (f x) (flat_map f xs) (h zero x refl) (all_flat_map P f xs (λ m z k. h (suc m) z k)) n y is

-- n is the number of a member that is e
abbrev IsPlace : ℕ → List ℕ → ℕ → ℕ → Type 0
IsPlace s xs e n = (place : ℕ) × (n ≡ s + place) × (slice_get xs place ≡ Some e)

one_later : (s x : ℕ) (xs : List ℕ) (e n : ℕ) → IsPlace (s + 1) xs e n → IsPlace s (x ∷ xs) e n
one_later s x xs e n p = (suc p.0, (let number : n ≡ s + suc p.0 = omega (arith, p.1) in number), p.2)

first_or_later : (s x : ℕ) (xs : List ℕ) (e n : ℕ) → x ≡ e → ((r : ℕ) → slice_get (positions_from (s + 1) xs e) r ≡ Some n → IsPlace (s + 1) xs e n)
    → (r : ℕ) → slice_get (s ∷ positions_from (s + 1) xs e) r ≡ Some n → IsPlace s (x ∷ xs) e n
first_or_later s x xs e n same later zero h = let first : s ≡ n = cc in (0, (let number : n ≡ s + 0 = omega arith in number), ap (λ y. Some y) same)
first_or_later s x xs e n same later (suc r) h = one_later s x xs e n (later r h)

-- a position is that of a member
position_of : (s : ℕ) (xs : List ℕ) (e r n : ℕ) → slice_get (positions_from s xs e) r ≡ Some n → IsPlace s xs e n
position_of s [] e r n h = cc
position_of s (x ∷ xs) e r n h = elim (cases_eq x e) [
  | inl same ↦ first_or_later s x xs e n same (λ q. position_of (s + 1) xs e q n) r (ap (λ b. slice_get (if b then s ∷ positions_from (s + 1) xs e else positions_from (s + 1) xs e) r) (sym (eq-eqb x e same)) ∙ h)
  | inr other ↦ one_later s x xs e n (position_of (s + 1) xs e r n (ap (λ b. slice_get (if b then s ∷ positions_from (s + 1) xs e else positions_from (s + 1) xs e) r) (sym (ne_eqb x e other)) ∙ h))
]

-- the member at a position of e in a list of sources begins at e
pub from_position : {X : Type 0} (source : X → ℕ) (xs : List X) (e r n : ℕ) → slice_get (positions (map source xs) e) r ≡ Some n → (x : X) × (slice_get xs n ≡ Some x) × (source x ≡ e)
from_position source xs e r n h =
    let p = position_of 0 (map source xs) e r n h in
    let number : p.0 ≡ n = omega (arith, p.1) in
    let at : slice_get (map source xs) n ≡ Some e = ap (slice_get (map source xs)) (sym number) ∙ p.2 in
    let made = made_of source xs n e at in
    (made.0, made.1, sym made.2)

module _ (Q : Query) (query : IsQuery Q) where
  -- terms that stand for one row, place by place
  pub all_equal : (H : Generators) (entity : ℕ) (ts us : List EntTerm) → Stand Q H ts entity → Stand Q H us entity → All_in (HasOneSort Q H) (equal_terms ts us)
  all_equal H entity ts us left right = go ts us (variables_at Q entity) left.count left.each right.each
    where
      go : (xs ys : List EntTerm) (vs : List (Name × ℕ)) → length xs ≡ length vs
          → ((n : ℕ) (t : EntTerm) (v : Name × ℕ) → slice_get xs n ≡ Some t → slice_get vs n ≡ Some v → entity_of Q.source H t ≡ Some v.1)
          → ((n : ℕ) (t : EntTerm) (v : Name × ℕ) → slice_get ys n ≡ Some t → slice_get vs n ≡ Some v → entity_of Q.source H t ≡ Some v.1)
          → All_in (HasOneSort Q H) (equal_terms xs ys)
      go [] ys vs same l r n e is = cc
      go (x ∷ xs) [] vs same l r n e is = cc
      go (x ∷ xs) (y ∷ ys) [] same l r n e is = absurd (omega arith)
      go (x ∷ xs) (y ∷ ys) (v ∷ vs) same l r zero e is =
          let this : EntEquation x y ≡ e = cc in
          subst (HasOneSort Q H) this (Entity v.1, ap (option_map Entity) (l zero x v refl refl), ap (option_map Entity) (r zero y v refl refl))
      go (x ∷ xs) (y ∷ ys) (v ∷ vs) same l r (suc n) e is = go xs ys vs (omega arith) (λ m. l (suc m)) (λ m. r (suc m)) n e is

  all_key : (entity : ℕ) → All_in (λ k. All_in (HasOneSort Q (generators_at Q entity)) (key_duties Q k (slice_get Q.target.keys k))) (positions (key_sources Q) entity)
  all_key entity r k is =
      let edge = from_position (λ (e : Edge). e.from) Q.target.keys entity r k is in
      subst (λ (o : Option Edge). All_in (HasOneSort Q (generators_at Q entity)) (key_duties Q k o)) (sym edge.1) (λ n e at.
      let made = made_of (put_equation (assigned Q k)) (tests_at Q edge.0.to) n e at in
      let stand : Stand Q (generators_at Q entity) (assigned Q k) edge.0.to = subst (λ m. Stand Q (generators_at Q m) (assigned Q k) edge.0.to) edge.2 (assigned_stand Q query k edge.0 edge.1) in
      let inside : edge.0.to < length Q.target.entities = target_within k edge.0 edge.1 in
      let test = (query.each_frozen edge.0.to inside).equations n made.0 made.1 in
      subst (HasOneSort Q (generators_at Q entity)) (sym made.2) (put_equation_sorted Q (generators_at Q entity) (assigned Q k) edge.0.to stand made.0 (test.sort, test.left, test.right)))
    where
      target_within : (k : ℕ) (edge : Edge) → slice_get Q.target.keys k ≡ Some edge → edge.to < length Q.target.entities
      target_within k edge is =
          (subst (λ (e : Edge). (e.from < length Q.target.entities) × (e.to < length Q.target.entities)) (get_or_from_slice_get Q.target.keys k edge edge is) (query.target.keys k edge (slice_get_within Q.target.keys k edge is))).1

  all_path : (entity : ℕ) → All_in (λ n. All_in (HasOneSort Q (generators_at Q entity)) (path_duties Q entity (slice_get Q.target.path_eqs n))) (positions (path_sources Q) entity)
  all_path entity r n is =
      let e = from_position (λ (e : PathEq). e.entity) Q.target.path_eqs entity r n is in
      let right = query.target.path_eqs n e.0 e.1 in
      subst (λ (o : Option PathEq). All_in (HasOneSort Q (generators_at Q entity)) (path_duties Q entity o)) (sym e.1)
      (all_equal (generators_at Q entity) right.target (along Q (variable_terms Q entity) e.0.left) (along Q (variable_terms Q entity) e.0.right)
      (along_stand Q query (generators_at Q entity) e.0.left (variable_terms Q entity) e.0.entity right.target right.left (subst (Stand Q (generators_at Q entity) (variable_terms Q entity)) (sym e.2) (variables_stand Q entity)))
      (along_stand Q query (generators_at Q entity) e.0.right (variable_terms Q entity) e.0.entity right.target right.right (subst (Stand Q (generators_at Q entity) (variable_terms Q entity)) (sym e.2) (variables_stand Q entity))))

  all_observation : (entity : ℕ) → All_in (λ n. All_in (HasOneSort Q (generators_at Q entity)) (observation_duties Q entity (slice_get Q.target.obs_eqs n))) (positions (observation_sources Q) entity)
  all_observation entity r n is =
      let e = from_position (λ (e : ObsEq). e.entity) Q.target.obs_eqs entity r n is in
      let right = query.target.obs_eqs n e.0 e.1 in
      let stand : Stand Q (generators_at Q entity) (variable_terms Q entity) e.0.entity = subst (Stand Q (generators_at Q entity) (variable_terms Q entity)) (sym e.2) (variables_stand Q entity) in
      subst (λ (o : Option ObsEq). All_in (HasOneSort Q (generators_at Q entity)) (observation_duties Q entity o)) (sym e.1)
      (one (TypEquation (translated Q (variable_terms Q entity) e.0.left) (translated Q (variable_terms Q entity) e.0.right)) (
        Plain right.type,
        ap (option_map Plain) (translated_sorted Q query (generators_at Q entity) (variable_terms Q entity) e.0.entity stand e.0.left right.type right.left),
        ap (option_map Plain) (translated_sorted Q query (generators_at Q entity) (variable_terms Q entity) e.0.entity stand e.0.right right.type right.right),
      ))
    where
      one : (e : Equation) → HasOneSort Q (generators_at Q entity) e → All_in (HasOneSort Q (generators_at Q entity)) (e ∷ [])
      one e h zero f at = let same : e ≡ f = cc in subst (HasOneSort Q (generators_at Q entity)) same h
      one e h (suc n) f at = cc

  pub duties_sorted : (entity n : ℕ) (e : Equation) → slice_get (duties Q entity) n ≡ Some e → HasOneSort Q (generators_at Q entity) e
  duties_sorted entity = all_append (HasOneSort Q (generators_at Q entity))
      (flat_map (λ k. key_duties Q k (slice_get Q.target.keys k)) (positions (key_sources Q) entity) ++ flat_map (λ n. path_duties Q entity (slice_get Q.target.path_eqs n)) (positions (path_sources Q) entity))
      (flat_map (λ n. observation_duties Q entity (slice_get Q.target.obs_eqs n)) (positions (observation_sources Q) entity))
      (all_append (HasOneSort Q (generators_at Q entity))
      (flat_map (λ k. key_duties Q k (slice_get Q.target.keys k)) (positions (key_sources Q) entity)) (flat_map (λ n. path_duties Q entity (slice_get Q.target.path_eqs n)) (positions (path_sources Q) entity))
      (all_flat_map (HasOneSort Q (generators_at Q entity)) (λ k. key_duties Q k (slice_get Q.target.keys k)) (positions (key_sources Q) entity) (all_key entity))
      (all_flat_map (HasOneSort Q (generators_at Q entity)) (λ n. path_duties Q entity (slice_get Q.target.path_eqs n)) (positions (path_sources Q) entity) (all_path entity)))
      (all_flat_map (HasOneSort Q (generators_at Q entity)) (λ n. observation_duties Q entity (slice_get Q.target.obs_eqs n)) (positions (observation_sources Q) entity) (all_observation entity))
