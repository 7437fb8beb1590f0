-- Frozen presentations hold at answers, and the keys of a sound query lead from answers to answers.
use Rattle.std.proofs.Common.{ℕ, zero, suc, List, [], ◌∷◌, ◌++◌, Option, Some, ◌≡◌, ◌<◌, ◌+◌, if◌then◌else◌, inl, inr, map, length, refl, sym, ap, subst, ◌∙◌, arith, eq-eqb}
use Rattle.std.specs.Prelude.{slice_get, slice_index_or}
use Rattle.std.specs.List.{flat_map}
use Rattle.std.proofs.lemmas.Bool.{cases_eq, ne_eqb}
use Rattle.std.proofs.lemmas.List.{length-map}
use Rattle.std.proofs.lemmas.Option.{slice_get_within, get_or_from_slice_get}
use Rattle.cq_base.specs.declared.name.Name.{Name}
use Rattle.cq_theory.specs.declared.presentation.Equation.{Equation}
use Rattle.cq_theory.specs.declared.presentation.Sort.{Sort}
use Rattle.cq_theory.specs.declared.presentation.Sort.TheVariants.{Entity}
use Rattle.cq_theory.specs.declared.schema.Edge.{Edge}
use Rattle.cq_theory.specs.declared.schema.PathEq.{PathEq}
use Rattle.cq_theory.specs.declared.schema.ObsEq.{ObsEq}
use Rattle.cq_theory.specs.Derivation.{left_of, right_of}
use Rattle.cq_theory.specs.Sorts.{entity_of}
use Rattle.cq_theory.specs.Tables.{Tables, AtRow, count_of, row_of, meaning_of, HasSort, IsWellFormed, Satisfies, Holds}
use Rattle.cq_theory.proofs.Faults.{made_of}
use Rattle.cq_theory.proofs.Sound.{row_of-within, meaning_of-derived}
use Rattle.cq_query.specs.QueryData.{QueryData as Query}
use Rattle.cq_theory.specs.Groups.{positions_from, positions}
use Rattle.cq_query.specs.Puts.{put_equation}
use Rattle.cq_query.specs.Translation.{key_sources, path_sources, observation_sources, variables_at, tests_at, assigned}
use Rattle.cq_query.specs.Duties.{frozen, key_duties, path_duties, observation_duties, duties, Sound}
use Rattle.cq_query.specs.IsQuery.{IsQuery}
use Rattle.cq_query.specs.Answers.{IsTuple, variable_counts, stands}
use Rattle.cq_query.specs.Leading.{IsAnswer, led}
use Rattle.cq_query.proofs.Answering.{IsIn, later, in_front, in_back, cases_in, no_member}
use Rattle.cq_query.proofs.Standing.{Stand, generators_at, assigned_stand}
use Rattle.cq_query.proofs.Meaning.{put_holds}

-- members of lists
pub in_map : {X Y : Type 0} (f : X → Y) (xs : List X) (n : ℕ) (x : X) → slice_get xs n ≡ Some x → IsIn (f x) (map f xs)
in_map f [] n x h = cc
in_map f (y ∷ xs) zero x h = let same : y ≡ x = cc in (0, ap (λ z. Some (f z)) same)
in_map f (y ∷ xs) (suc n) x h = later (f x) (f y) (map f xs) (in_map f xs n x h)

pub in_flat_map : {X Y : Type 0} (f : X → List Y) (x : X) (xs : List X) (y : Y) → IsIn x xs → IsIn y (f x) → IsIn y (flat_map f xs)
in_flat_map f x [] y h i = absurd (no_member x h)
in_flat_map f x (z ∷ xs) y h i = cases_in (IsIn y (flat_map f (z ∷ xs))) x z xs h
    (λ same. in_front y (f z) (flat_map f xs) (subst (λ w. IsIn y (f w)) (sym same) i))
    (λ rest. in_back y (f z) (flat_map f xs) (in_flat_map f x xs y rest i))

-- the number of a member is among its positions
position_in : (s : ℕ) (xs : List ℕ) (e n : ℕ) → slice_get xs n ≡ Some e → IsIn (s + n) (positions_from s xs e)
position_in s [] e n h = cc
position_in s (x ∷ xs) e zero h =
    let same : x ≡ e = cc in
    let here : s ≡ s + 0 = omega arith in
    subst (IsIn (s + 0)) (ap (λ b. if b then s ∷ positions_from (s + 1) xs e else positions_from (s + 1) xs e) (sym (eq-eqb x e same))) (0, ap (λ m. Some m) here)
position_in s (x ∷ xs) e (suc n) h =
    let there : s + 1 + n ≡ s + suc n = omega arith in
    let rest : IsIn (s + suc n) (positions_from (s + 1) xs e) = subst (λ m. IsIn m (positions_from (s + 1) xs e)) there (position_in (s + 1) xs e n h) in
    elim (cases_eq x e) [
      | inl same ↦
          subst (IsIn (s + suc n)) (ap (λ b. if b then s ∷ positions_from (s + 1) xs e else positions_from (s + 1) xs e) (sym (eq-eqb x e same)))
          (later (s + suc n) s (positions_from (s + 1) xs e) rest)
      | inr other ↦ subst (IsIn (s + suc n)) (ap (λ b. if b then s ∷ positions_from (s + 1) xs e else positions_from (s + 1) xs e) (sym (ne_eqb x e other))) rest
    ]

pub position_of_member : {X : Type 0} (source : X → ℕ) (xs : List X) (n : ℕ) (x : X) → slice_get xs n ≡ Some x → IsIn n (positions (map source xs) (source x))
position_of_member source xs n x h =
    let found = in_map_at source xs n x h in
    let here : 0 + n ≡ n = omega arith in
    subst (λ m. IsIn m (positions (map source xs) (source x))) here (position_in 0 (map source xs) (source x) n found)
  where
    in_map_at : {X Y : Type 0} (f : X → Y) (xs : List X) (n : ℕ) (x : X) → slice_get xs n ≡ Some x → slice_get (map f xs) n ≡ Some (f x)
    in_map_at f [] n x h = cc
    in_map_at f (y ∷ xs) zero x h = let same : y ≡ x = cc in ap (λ z. Some (f z)) same
    in_map_at f (y ∷ xs) (suc n) x h = in_map_at f xs n x h

-- the duties of each key, path equation and observation equation are duties of its entity
module _ (Q : Query) where
  pub key_duty_in : (k : ℕ) (edge : Edge) → slice_get Q.target.keys k ≡ Some edge → (e : Equation) → IsIn e (key_duties Q k (Some edge)) → IsIn e (duties Q edge.from)
  key_duty_in k edge is e h =
      let parts = flat_map (λ k. key_duties Q k (slice_get Q.target.keys k)) (positions (key_sources Q) edge.from) in
      let paths = flat_map (λ n. path_duties Q edge.from (slice_get Q.target.path_eqs n)) (positions (path_sources Q) edge.from) in
      let rest = flat_map (λ n. observation_duties Q edge.from (slice_get Q.target.obs_eqs n)) (positions (observation_sources Q) edge.from) in
      in_front e (parts ++ paths) rest (in_front e parts paths
      (in_flat_map (λ k. key_duties Q k (slice_get Q.target.keys k)) k (positions (key_sources Q) edge.from) e (position_of_member (λ (x : Edge). x.from) Q.target.keys k edge is)
      (subst (λ (o : Option Edge). IsIn e (key_duties Q k o)) (sym is) h)))

  pub path_duty_in : (n : ℕ) (p : PathEq) → slice_get Q.target.path_eqs n ≡ Some p → (e : Equation) → IsIn e (path_duties Q p.entity (Some p)) → IsIn e (duties Q p.entity)
  path_duty_in n p is e h =
      let parts = flat_map (λ k. key_duties Q k (slice_get Q.target.keys k)) (positions (key_sources Q) p.entity) in
      let paths = flat_map (λ n. path_duties Q p.entity (slice_get Q.target.path_eqs n)) (positions (path_sources Q) p.entity) in
      let rest = flat_map (λ n. observation_duties Q p.entity (slice_get Q.target.obs_eqs n)) (positions (observation_sources Q) p.entity) in
      in_front e (parts ++ paths) rest (in_back e parts paths
      (in_flat_map (λ n. path_duties Q p.entity (slice_get Q.target.path_eqs n)) n (positions (path_sources Q) p.entity) e (position_of_member (λ (x : PathEq). x.entity) Q.target.path_eqs n p is)
      (subst (λ (o : Option PathEq). IsIn e (path_duties Q p.entity o)) (sym is) h)))

  pub observation_duty_in : (n : ℕ) (o : ObsEq) → slice_get Q.target.obs_eqs n ≡ Some o → (e : Equation) → IsIn e (observation_duties Q o.entity (Some o)) → IsIn e (duties Q o.entity)
  observation_duty_in n o is e h =
      let parts = flat_map (λ k. key_duties Q k (slice_get Q.target.keys k)) (positions (key_sources Q) o.entity) in
      let paths = flat_map (λ n. path_duties Q o.entity (slice_get Q.target.path_eqs n)) (positions (path_sources Q) o.entity) in
      let rest = flat_map (λ n. observation_duties Q o.entity (slice_get Q.target.obs_eqs n)) (positions (observation_sources Q) o.entity) in
      in_back e (parts ++ paths) rest
      (in_flat_map (λ n. observation_duties Q o.entity (slice_get Q.target.obs_eqs n)) n (positions (observation_sources Q) o.entity) e (position_of_member (λ (x : ObsEq). x.entity) Q.target.obs_eqs n o is)
      (subst (λ (x : Option ObsEq). IsIn e (observation_duties Q o.entity x)) (sym is) h))

-- tuples by their members
pub tuple_length : (rows counts : List ℕ) → IsTuple rows counts → length rows ≡ length counts
tuple_length [] [] h = refl
tuple_length [] (count ∷ counts) h = absurd h
tuple_length (row ∷ rows) [] h = absurd h
tuple_length (row ∷ rows) (count ∷ counts) h = ap suc (tuple_length rows counts h.1)

pub tuple_at : (rows counts : List ℕ) → IsTuple rows counts → (n count : ℕ) → slice_get counts n ≡ Some count → (row : ℕ) × (slice_get rows n ≡ Some row) × (row < count)
tuple_at [] [] h n count is = cc
tuple_at [] (c ∷ counts) h n count is = absurd h
tuple_at (row ∷ rows) [] h n count is = absurd h
tuple_at (row ∷ rows) (c ∷ counts) h zero count is = let same : c ≡ count = cc in (row, refl, subst (λ m. row < m) same h.0)
tuple_at (row ∷ rows) (c ∷ counts) h (suc n) count is = tuple_at rows counts h.1 n count is

pub tuple_from : (rows counts : List ℕ) → length rows ≡ length counts → ((n row count : ℕ) → slice_get rows n ≡ Some row → slice_get counts n ≡ Some count → row < count) → IsTuple rows counts
tuple_from [] [] same h = tt
tuple_from [] (count ∷ counts) same h = absurd (omega arith)
tuple_from (row ∷ rows) [] same h = absurd (omega arith)
tuple_from (row ∷ rows) (count ∷ counts) same h = (h zero row count refl refl, tuple_from rows counts (omega arith) (λ n r c is at. h (suc n) r c is at))

module _ (Q : Query) (M : Tables) where
  counted : (entity n : ℕ) (v : Name × ℕ) → slice_get (variables_at Q entity) n ≡ Some v → slice_get (variable_counts Q M entity) n ≡ Some (count_of M v.1)
  counted entity n v h = go (variables_at Q entity) n h
    where
      go : (vs : List (Name × ℕ)) (n : ℕ) → slice_get vs n ≡ Some v → slice_get (map (λ w. count_of M w.1) vs) n ≡ Some (count_of M v.1)
      go [] n h = cc
      go (w ∷ vs) zero h = let same : w ≡ v = cc in ap (λ (x : Name × ℕ). Some (count_of M x.1)) same
      go (w ∷ vs) (suc n) h = go vs n h

  standing : (rows : List ℕ) (n row : ℕ) → slice_get rows n ≡ Some row → slice_index_or (map AtRow rows) n (AtRow 0) ≡ AtRow row
  standing [] n row h = cc
  standing (r ∷ rows) zero row h = let same : r ≡ row = cc in ap AtRow same
  standing (r ∷ rows) (suc n) row h = standing rows n row h

  -- what the variables stand for is of their entities
  pub rows_sorted : (entity : ℕ) (rows : List ℕ) → IsTuple rows (variable_counts Q M entity) → (n : ℕ) (g : Name × Sort) → slice_get (generators_at Q entity) n ≡ Some g
      → HasSort Q.source M g.1 (slice_index_or (stands Q M rows) n (AtRow 0))
  rows_sorted entity rows tuple n g is =
      let v = made_of (λ (v : Name × ℕ). (v.0, Entity v.1)) (variables_at Q entity) n g is in
      let row = tuple_at rows (variable_counts Q M entity) tuple n (count_of M v.0.1) (counted entity n v.0 v.1) in
      subst (λ (s : Sort). HasSort Q.source M s (slice_index_or (stands Q M rows) n (AtRow 0))) (ap (λ (x : Name × Sort). x.1) (sym v.2))
      (subst (HasSort Q.source M (Entity v.0.1)) (sym (standing rows n row.0 row.1)) row.2)

  pub variable_count : (entity : ℕ) (rows : List ℕ) → IsTuple rows (variable_counts Q M entity) → length rows ≡ length (variables_at Q entity)
  variable_count entity rows tuple = tuple_length rows (variable_counts Q M entity) tuple ∙ length-map (variables_at Q entity) (λ v. count_of M v.1)

  module _ (query : IsQuery Q) (well : IsWellFormed Q.source M) (satisfies : Satisfies Q.source M) where
    pub frozen_holds : (entity : ℕ) (rows : List ℕ) → IsAnswer Q M entity rows → Holds Q.source (frozen Q entity) M (stands Q M rows)
    frozen_holds entity rows answer = record {
      well_formed = well;
      count = length-map rows AtRow ∙ variable_count entity rows answer.0 ∙ sym (length-map (variables_at Q entity) (λ v. (v.0, Entity v.1)));
      sorts = rows_sorted entity rows answer.0;
      schema = satisfies;
      equations = answer.1;
    }

    module _ (sound : Sound Q) where
      -- a duty has equal sides at each answer
      pub duty_holds : (entity : ℕ) (rows : List ℕ) → entity < length Q.target.entities → IsAnswer Q M entity rows → (e : Equation) → IsIn e (duties Q entity)
          → meaning_of M (stands Q M rows) (left_of e) ≡ meaning_of M (stands Q M rows) (right_of e)
      duty_holds entity rows within answer e is =
          meaning_of-derived Q.source (frozen Q entity) M (stands Q M rows) query.source (frozen_holds entity rows answer) (left_of e) (right_of e) (sound entity is.0 e within is.1)

      key_ends : (k : ℕ) (edge : Edge) → slice_get Q.target.keys k ≡ Some edge → (edge.from < length Q.target.entities) × (edge.to < length Q.target.entities)
      key_ends k edge is =
          subst (λ (e : Edge). (e.from < length Q.target.entities) × (e.to < length Q.target.entities)) (get_or_from_slice_get Q.target.keys k edge edge is) (query.target.keys k edge (slice_get_within Q.target.keys k edge is))

      module _ (k : ℕ) (edge : Edge) (is : slice_get Q.target.keys k ≡ Some edge) (rows : List ℕ) (answer : IsAnswer Q M edge.from rows) where
        key : Stand Q (generators_at Q edge.from) (assigned Q k) edge.to
        key = assigned_stand Q query k edge is

        led_row : (n row count : ℕ) → slice_get (led Q M k rows) n ≡ Some row → slice_get (variable_counts Q M edge.to) n ≡ Some count → row < count
        led_row n row count at counts =
            let t = made_of (row_of M (stands Q M rows)) (assigned Q k) n row at in
            let v = made_of (λ (v : Name × ℕ). count_of M v.1) (variables_at Q edge.to) n count counts in
            let sorted : entity_of Q.source (generators_at Q edge.from) t.0 ≡ Some v.0.1 = key.each n t.0 v.0 t.1 v.1 in
            let inside : row_of M (stands Q M rows) t.0 < count_of M v.0.1 = row_of-within Q.source (frozen Q edge.from) M (stands Q M rows) (frozen_holds edge.from rows answer) t.0 v.0.1 sorted in
            subst (λ m. m < count) (sym t.2) (subst (λ m. row_of M (stands Q M rows) t.0 < m) (sym v.2) inside)

        led_test : (n : ℕ) (e : Equation) → slice_get (tests_at Q edge.to) n ≡ Some e → meaning_of M (stands Q M (led Q M k rows)) (left_of e) ≡ meaning_of M (stands Q M (led Q M k rows)) (right_of e)
        led_test n e at =
            let ends = key_ends k edge is in
            let test = (query.each_frozen edge.to ends.1).equations n e at in
            let duty = key_duty_in Q k edge is (put_equation (assigned Q k) e) (in_map (put_equation (assigned Q k)) (tests_at Q edge.to) n e at) in
            put_holds Q M (stands Q M rows) (assigned Q k) edge.to key.count e (test.sort, test.left, test.right) (duty_holds edge.from rows ends.0 answer (put_equation (assigned Q k) e) duty)

        pub led_answer : IsAnswer Q M edge.to (led Q M k rows)
        led_answer = (
          tuple_from (led Q M k rows) (variable_counts Q M edge.to)
              (length-map (assigned Q k) (row_of M (stands Q M rows)) ∙ key.count ∙ sym (length-map (variables_at Q edge.to) (λ v. count_of M v.1)))
              led_row,
          led_test,
        )
