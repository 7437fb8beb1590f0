-- Levels by the terms that lead to their rows.
use Rattle.std.proofs.Common.{ℕ, Bool, true, List, [], ◌∷◌, ◌++◌, Option, Some, None, ◌≡◌, ◌<◌, ◌≤◌, ◌+◌, inl, inr, length, map, refl, sym, ap, subst, ◌∙◌, arith, length-append}
use Rattle.std.specs.Prelude.{slice_get, slice_index, option_and_then}
use Rattle.std.proofs.lemmas.Option.{option_and_then_some, slice_get_within}
use Rattle.cq_base.specs.declared.name.Name.{Name}
use Rattle.cq_tables.specs.Content.{Content, keys_of, live_of, cell_of, step_of, end_of, trace_of, IsWhole}
use Rattle.cq_tables.specs.Content.{entity_of as row_entity}
use Rattle.cq_rows.specs.Plain.{ends_of, theory_of}
use Rattle.cq_rows.specs.Rows.{row_of_term}
use Rattle.cq_rows.specs.Saturated.{HasEntries}
use Rattle.cq_rows.proofs.Bridge.{sort_same, end_same}
use Rattle.cq_rows.proofs.Cells.{below_or_at}
use Rattle.cq_rows.proofs.Sorts.{sorted_at, sort_from, sort-along, end_one, end_split}
use Rattle.cq_rows.proofs.Tracing.{trace_append, trace_one, one_trace, trace_split, trace_leads}
use Rattle.cq_theory.specs.declared.presentation.Presentation.{Presentation}
use Rattle.cq_theory.specs.declared.presentation.Sort.{Sort}
use Rattle.cq_theory.specs.declared.term.EntTerm.{EntTerm}
use Rattle.cq_theory.specs.EntTerm.{alone, depth_of}
use Rattle.cq_theory.specs.SchemaData.{SchemaData as Schema}
use Rattle.cq_theory.specs.Sorts.{entity_of, entity_at, target_of}
use Rattle.cq_growth.specs.declared.levels.Member.{Member}
use Rattle.cq_growth.specs.Levels.{IsReached, HasBegun, IsNext, LeadsAt, IsLevel, one_further}

empty_path : (xs : List ℕ) → length xs ≤ 0 → xs ≡ []
empty_path [] h = refl
empty_path (x ∷ xs) h = absurd (omega arith)

-- the last key of a path, and those before it
pub last_key : (xs : List ℕ) (d : ℕ) → length xs ≡ d + 1 → (ys : List ℕ) × (k : ℕ) × (xs ≡ ys ++ k ∷ [])
last_key [] d h = absurd (omega arith)
last_key (x ∷ []) d h = ([], x, refl)
last_key (x ∷ y ∷ ys) d h =
    let rest = last_key (y ∷ ys) (length ys) (omega arith) in
    (x ∷ rest.0, rest.1, ap (λ l. x ∷ l) rest.2)

module _ (S : Schema) (P : Presentation) (m : Content) (entries : List ℕ) (whole : IsWhole m) (keys : keys_of m ≡ map ends_of S.keys) (has : HasEntries P m entries) where
  -- a term's row is live, and of its entity
  pub row_sort : (t : EntTerm) (e r : ℕ) → entity_of S P.generators t ≡ Some e → row_of_term m entries t ≡ Some r → (live_of m r ≡ true) × (row_entity m r ≡ e)
  row_sort t e r sort leads = option_and_then_some (target_of S.keys t.path) (entity_at (slice_get P.generators t.generator)) e sort (λ start first rest.
      let row = slice_index entries t.generator in
      let entry = has.entity t.generator start first in
      let end = trace_leads m row r t.path whole entry.0 leads in
      let same : Some (row_entity m r) ≡ Some e =
      sym end.end ∙ (λ i. end_of (keys i) (entry.1 i) t.path) ∙ end_same S P t.path start ∙ rest in
      let one : row_entity m r ≡ e = cc in
      (end.live, one))

  -- a term and one key more
  pub further_row : (t : EntTerm) (r s k : ℕ) → row_of_term m entries t ≡ Some r → cell_of m r k ≡ Some s → row_of_term m entries (one_further t k) ≡ Some s
  further_row t r s k leads cell = trace_append m (slice_index entries t.generator) r t.path (k ∷ []) leads ∙ trace_one m r k s cell

  pub further_sort : (t : EntTerm) (r d k : ℕ) → entity_of S P.generators t ≡ Some (row_entity m r) → step_of (keys_of m) (row_entity m r) k ≡ Some d
      → entity_of S P.generators (one_further t k) ≡ Some d
  further_sort t r d k sort step =
      let by_keys : step_of (map ends_of S.keys) (row_entity m r) k ≡ Some d = ap (λ (l : List (ℕ × ℕ)). step_of l (row_entity m r) k) (sym keys) ∙ step in
      sym (sort_same S P (one_further t k))
      ∙ sort-along (theory_of S P) t (row_entity m r) d (k ∷ []) (sort_same S P t ∙ sort) (end_one (map ends_of S.keys) (row_entity m r) k d by_keys)

  -- the level of the generators
  module _ (members : List Member) (reached : List Bool) (begun : HasBegun P m entries (length P.generators) members reached) where
    started : (n : ℕ) (x : Member) → slice_get members n ≡ Some x → LeadsAt S P m entries 0 x.row x.name
    started n x there =
        let from = begun.member n x there in
        let g = from.0 in
        let e = from.1 in
        let entry = has.entity g e from.2 in
        let sort : entity_of S P.generators (alone g) ≡ Some e = ap (option_and_then (target_of S.keys [])) from.2 in
        let kind : row_entity m x.row ≡ e = ap (row_entity m) from.3 ∙ entry.1 in
        record {
          entity = ap (entity_of S P.generators) from.4 ∙ sort ∙ ap (λ n. Some n) (sym kind);
          depth = ap depth_of from.4;
          leads = ap (row_of_term m entries) from.4 ∙ ap (λ n. Some n) (sym from.3);
          live = ap (live_of m) from.3 ∙ entry.0;
        }

    all_started : (t : EntTerm) (e r : ℕ) → entity_of S P.generators t ≡ Some e → depth_of t ≤ 0 → row_of_term m entries t ≡ Some r → IsReached reached r
    all_started t e r sort short leads = option_and_then_some (target_of S.keys t.path) (entity_at (slice_get P.generators t.generator)) e sort (λ start first rest.
        let none = empty_path t.path short in
        let row = slice_index entries t.generator in
        let here : Some row ≡ Some r = ap (trace_of m row) (sym none) ∙ leads in
        let same : row ≡ r = cc in
        subst (IsReached reached) same (begun.generators t.generator start (inside t.generator start first) first))
      where
        inside : (i start : ℕ) → entity_at (slice_get P.generators i) ≡ Some start → i < length P.generators
        inside i start first = found (slice_get P.generators i) refl first
          where
            found : (o : Option (Name × Sort)) → slice_get P.generators i ≡ o → entity_at o ≡ Some start → i < length P.generators
            found None h none = cc
            found (Some x) h some = slice_get_within P.generators i x h

    pub level_begun : IsLevel S P m entries 0 members reached
    level_begun = record {
      marks = begun.marks;
      member = started;
      listed = λ r h. inl (begun.listed r h);
      all = all_started;
    }

  -- the level after one
  module _ (d : ℕ) (old new : List Member) (marks marks' : List Bool) (level : IsLevel S P m entries d old marks) (next : IsNext m old marks new marks') where
    stepped : (n : ℕ) (x : Member) → slice_get new n ≡ Some x → LeadsAt S P m entries (d + 1) x.row x.name
    stepped n x there =
        let step = next.steps n x there in
        let from = step.1 in
        let lead = level.member step.0 from step.2 in
        let along = step.3 in
        let held = whole.held from.row along.key x.row lead.live along.cell in
        let size : depth_of x.name ≡ d + 1 = ap depth_of along.named ∙ length-append from.name.path (along.key ∷ []) ∙ ap (λ n. n + 1) lead.depth in
        record {
          entity = ap (entity_of S P.generators) along.named ∙ further_sort from.name from.row (row_entity m x.row) along.key lead.entity held.step;
          depth = size;
          leads = ap (row_of_term m entries) along.named ∙ further_row from.name from.row x.row along.key lead.leads along.cell;
          live = held.live;
        }

    older : (r : ℕ) → IsReached marks r → (t : EntTerm) × (c : ℕ) × (c < d + 1) × LeadsAt S P m entries c r t
    older r h = elim (level.listed r h) [
      | inl y ↦ (y.1.name, d, omega arith, subst (λ n. LeadsAt S P m entries d n y.1.name) y.3 (level.member y.0 y.1 y.2))
      | inr l ↦ (l.0, l.1, omega (arith, l.2), l.3)
    ]

    -- a row to which a key leads from a row that is reached
    along_reached : (q k r : ℕ) → IsReached marks q → live_of m q ≡ true → cell_of m q k ≡ Some r → IsReached marks' r
    along_reached q k r h live cell = elim (level.listed q h) [
      | inl y ↦ next.cells y.0 k r y.1 (slice_get_within old y.0 y.1 y.2) y.2 (ap (λ n. cell_of m n k) y.3 ∙ cell)
      | inr l ↦
          let u = l.0 in
          let lead = l.3 in
          let sort = further_sort u q (row_entity m r) k lead.entity (whole.held q k r live cell).step in
          let size : depth_of (one_further u k) ≡ l.1 + 1 = length-append u.path (k ∷ []) ∙ ap (λ n. n + 1) lead.depth in
          next.kept r (level.all (one_further u k) (row_entity m r) r sort (omega (arith, size, l.2)) (further_row u q r k lead.leads cell))
    ]

    longer : (t : EntTerm) (e r : ℕ) → entity_of S P.generators t ≡ Some e → depth_of t ≡ d + 1 → row_of_term m entries t ≡ Some r → IsReached marks' r
    longer t e r sort size leads =
        let cut = last_key t.path d size in
        let k = cut.1 in
        let front : EntTerm = record { generator = t.generator; path = cut.0 } in
        let row = slice_index entries t.generator in
        let way = trace_split m row r cut.0 (k ∷ []) (ap (trace_of m row) (sym cut.2) ∙ leads) in
        let q = way.0 in
        let cell = one_trace m q k r way.2 in
        let at = sorted_at (theory_of S P) t e (sort_same S P t ∙ sort) in
        let parts = end_split (map ends_of S.keys) at.start e cut.0 (k ∷ []) (ap (λ (l : List ℕ). end_of (map ends_of S.keys) at.start l) (sym cut.2) ∙ at.end) in
        let front_sort : entity_of S P.generators front ≡ Some parts.0 = sym (sort_same S P front) ∙ sort_from (theory_of S P) front at.start parts.0 at.found parts.1 in
        let short : depth_of front ≡ d = omega (arith, size, ap length cut.2, length-append cut.0 (k ∷ [])) in
        let there = level.all front parts.0 q front_sort (omega (arith, short)) way.1 in
        along_reached q k r there (row_sort front parts.0 q front_sort way.1).0 cell

    pub level_next : IsLevel S P m entries (d + 1) new marks'
    level_next = record {
      marks = next.marked ∙ level.marks;
      member = stepped;
      listed = λ r h. elim (next.listed r h) [ inl a ↦ inr (older r a) | inr a ↦ inl a ];
      all = λ t e r sort bound leads. elim (below_or_at (depth_of t) (d + 1) (omega (arith, bound))) [
        | inl a ↦ next.kept r (level.all t e r sort (omega (arith, a)) leads)
        | inr b ↦ longer t e r sort b leads
      ];
    }
