-- The rows of a finished walk, sorted to their entities, are numbered by their least names.
use Rattle.std.proofs.Common.{ℕ, true, List, [], Some, None, ◌≡◌, ◌<◌, ◌≤◌, inl, inr, map, length, sym, ap, subst, ◌∙◌, arith}
use Rattle.std.specs.Prelude.{slice_get, slice_index}
use Rattle.std.proofs.lemmas.Bool.{cases_lt}
use Rattle.std.proofs.lemmas.List.{length-map}
use Rattle.std.proofs.lemmas.List.FromFn.{length-map-range_with_len, get_or-map-range_with_len}
use Rattle.std.proofs.lemmas.Option.{slice_get_within, slice_get-get_or, get_or_from_slice_get, same_Some}
use Rattle.std.proofs.lemmas.List.{get_or_past}
use Rattle.cq_tables.specs.Content.{Content, live_of}
use Rattle.cq_tables.specs.Content.{entity_of as row_entity}
use Rattle.cq_rows.specs.Rows.{row_of_term}
use Rattle.cq_theory.specs.declared.presentation.Presentation.{Presentation}
use Rattle.cq_theory.specs.SchemaData.{SchemaData as Schema}
use Rattle.cq_theory.specs.declared.term.EntTerm.{EntTerm}
use Rattle.cq_theory.specs.Sorts.{entity_of}
use Rattle.cq_theory.specs.Groups.{positions}
use Rattle.cq_names.specs.Ranks.{rank}
use Rattle.cq_names.specs.Closed.{AreClosed}
use Rattle.cq_names.specs.LeastNames.{rows_at, terms_at, IsLeast, AreNumbered}
use Rattle.cq_instance.specs.TermOrder.{IsUpTo}
use Rattle.cq_names.specs.Walking.{Listing, IsNamedUpTo, IsListing, IsWalked, IsWalkOf}
use Rattle.cq_names.specs.RowNumbers.{name_in, row_entities, rows_by, names_by, AreNumbers}
use Rattle.cq_instance.proofs.Lists.{get-map, get-map_from}
use Rattle.cq_names.proofs.Ranks.{positions_at, positions_rank, positions-increasing}
use Rattle.cq_instance.proofs.TermOrder.{is_lt-before, is_gt-up_to}
use Rattle.cq_names.proofs.Walked.{covered}

module _ (S : Schema) (P : Presentation) (m : Content) (entries : List ℕ) (closed : AreClosed S P m entries)
    (rows : List ℕ) (names : List EntTerm) (walk : IsWalkOf S P m entries rows names) where
  w : Listing
  w = walk.0

  walked : IsWalked S P m entries (walk.0) (length P.generators) (length walk.0.rows) 0
  walked = walk.1

  l : IsListing S P m entries (walk.0)
  l = walk.1.listing

  to_row : (i r : ℕ) → slice_get rows i ≡ Some r → slice_get walk.0.rows i ≡ Some r
  to_row i r h = ap (λ (xs : List ℕ). slice_get xs i) walk.2 ∙ h

  to_name : (i : ℕ) (t : EntTerm) → slice_get names i ≡ Some t → slice_get walk.0.names i ≡ Some t
  to_name i t h = ap (λ (xs : List EntTerm). slice_get xs i) walk.3 ∙ h

  same_length : length names ≡ length rows
  same_length = ap length (sym walk.3) ∙ l.same_length ∙ ap length walk.2

  pub walk_row : (i r : ℕ) → slice_get rows i ≡ Some r → slice_get walk.0.rows i ≡ Some r
  walk_row = to_row

  pub walk_name : (i : ℕ) (t : EntTerm) → slice_get names i ≡ Some t → slice_get walk.0.names i ≡ Some t
  walk_name = to_name

  pub walk_lengths : length names ≡ length rows
  walk_lengths = same_length

  pub walk_leads : (i r : ℕ) (t : EntTerm) → slice_get rows i ≡ Some r → slice_get names i ≡ Some t → row_of_term m entries t ≡ Some r
  walk_leads i r t row name = l.leads i r t (to_row i r row) (to_name i t name)

  pub walk_entity : (i r : ℕ) (t : EntTerm) → slice_get rows i ≡ Some r → slice_get names i ≡ Some t → entity_of S P.generators t ≡ Some (row_entity m r)
  walk_entity i r t row name = l.entity i r t (to_row i r row) (to_name i t name)

  pub walk_live : (i r : ℕ) → slice_get rows i ≡ Some r → live_of m r ≡ true
  walk_live i r row = l.live i r (to_row i r row)

  pub walk_once : (i j r : ℕ) → slice_get rows i ≡ Some r → slice_get rows j ≡ Some r → i ≡ j
  walk_once i j r a b = l.once i j r (to_row i r a) (to_row j r b)

  -- a name is the least one of its row
  least : (i r : ℕ) (t : EntTerm) → slice_get rows i ≡ Some r → slice_get names i ≡ Some t → IsLeast S P m entries r t
  least i r t row name = record {
    entity = l.entity i r t (to_row i r row) (to_name i t name);
    row = l.leads i r t (to_row i r row) (to_name i t name);
    least = λ u e sort leads.
        let found : IsNamedUpTo walk.0 r u = covered S P m entries closed.whole closed.keys walk.0 (length P.generators) walked (omega arith) u e r sort leads in
        let same : found.at ≡ i = l.once found.at i r found.is_row (to_row i r row) in
        let name_is : found.name ≡ t = same_Some found.name t (sym found.is_name ∙ ap (slice_get walk.0.names) same ∙ to_name i t name) in
        is_gt-up_to t u (subst (λ (x : EntTerm). IsUpTo x u) name_is found.up_to);
  }

  -- each live row is among the rows
  pub listed : (r : ℕ) → live_of m r ≡ true → (i : ℕ) × (slice_get rows i ≡ Some r)
  listed r live =
      let t = closed.named.1 r live in
      let found : IsNamedUpTo walk.0 r t.0 = covered S P m entries closed.whole closed.keys walk.0 (length P.generators) walked (omega arith) t.0 (row_entity m r) r t.1.entity t.1.row in
      (found.at, ap (λ (xs : List ℕ). slice_get xs found.at) (sym walk.2) ∙ found.is_row)

  abbrev members : List ℕ
  members = row_entities m rows

  module _ (entities : ℕ) (count : entities ≡ length S.entities) (order : List (List ℕ)) (named : List (List EntTerm)) (numbers : List ℕ)
      (order_is : order ≡ rows_by (row_entities m rows) entities rows) (named_is : named ≡ names_by (row_entities m rows) entities names)
      (numbered : AreNumbers (row_entities m rows) rows numbers) where
    rows_in : (e : ℕ) → e < entities → rows_at order e ≡ map (slice_index rows) (positions members e)
    rows_in e within = ap (λ (x : List (List ℕ)). rows_at x e) order_is ∙ get_or-map-range_with_len (λ e'. map (slice_index rows) (positions members e')) 0 entities e e [] within (omega arith)

    rows_past : (e : ℕ) → entities ≤ e → rows_at order e ≡ []
    rows_past e past =
        let whole : length (rows_by members entities rows) ≡ entities = length-map-range_with_len (λ e'. map (slice_index rows) (positions members e')) 0 entities in
        ap (λ (x : List (List ℕ)). rows_at x e) order_is ∙ get_or_past (rows_by members entities rows) e [] (omega arith)

    names_in : (e : ℕ) → e < entities → terms_at named e ≡ map (name_in names) (positions members e)
    names_in e within = ap (λ (x : List (List EntTerm)). terms_at x e) named_is ∙ get_or-map-range_with_len (λ e'. map (name_in names) (positions members e')) 0 entities e e [] within (omega arith)

    names_past : (e : ℕ) → entities ≤ e → terms_at named e ≡ []
    names_past e past =
        let whole : length (names_by members entities names) ≡ entities = length-map-range_with_len (λ e'. map (name_in names) (positions members e')) 0 entities in
        ap (λ (x : List (List EntTerm)). terms_at x e) named_is ∙ get_or_past (names_by members entities names) e [] (omega arith)

    -- the place in the walk of a row of an entity
    place_of_row : (e n r : ℕ) → slice_get (rows_at order e) n ≡ Some r → (p : ℕ) × (slice_get (positions members e) n ≡ Some p) × (slice_get rows p ≡ Some r) × (row_entity m r ≡ e)
    place_of_row e n r h = elim (cases_lt e entities) [
      | inl within ↦
          let at = get-map_from (slice_index rows) (positions members e) n r (ap (λ (x : List ℕ). slice_get x n) (sym (rows_in e within)) ∙ h) in
          let member : slice_get members at.0 ≡ Some e = (positions_at members e n at.0 at.1).0 in
          let inside : at.0 < length rows = omega (arith, slice_get_within members at.0 e member, length-map rows (row_entity m)) in
          let row : slice_get rows at.0 ≡ Some r = slice_get-get_or rows at.0 0 inside ∙ ap (λ x. Some x) at.2 in
          let kind : row_entity m r ≡ e = same_Some (row_entity m r) e (sym (get-map (row_entity m) rows at.0 r row) ∙ member) in
          (at.0, at.1, row, kind)
      | inr past ↦ (let none : None ≡ Some r = ap (λ (x : List ℕ). slice_get x n) (sym (rows_past e past)) ∙ h in cc)
    ]

    place_of_name : (e n : ℕ) (t : EntTerm) → slice_get (terms_at named e) n ≡ Some t → (p : ℕ) × (slice_get (positions members e) n ≡ Some p) × (slice_get names p ≡ Some t)
    place_of_name e n t h = elim (cases_lt e entities) [
      | inl within ↦
          let at = get-map_from (name_in names) (positions members e) n t (ap (λ (x : List EntTerm). slice_get x n) (sym (names_in e within)) ∙ h) in
          let member : slice_get members at.0 ≡ Some e = (positions_at members e n at.0 at.1).0 in
          let inside : at.0 < length names = omega (arith, slice_get_within members at.0 e member, length-map rows (row_entity m), same_length) in
          (at.0, at.1, slice_get-get_or names at.0 (record { generator = 0; path = [] }) inside ∙ ap (λ (x : EntTerm). Some x) at.2)
      | inr past ↦ (let none : None ≡ Some t = ap (λ (x : List EntTerm). slice_get x n) (sym (names_past e past)) ∙ h in cc)
    ]

    same_place : (e n p q : ℕ) → slice_get (positions members e) n ≡ Some p → slice_get (positions members e) n ≡ Some q → p ≡ q
    same_place e n p q a b = same_Some p q (sym a ∙ b)

    pub are_numbered : AreNumbered S P m entries order named numbers
    are_numbered = record {
      entities = ap length order_is ∙ length-map-range_with_len (λ e'. map (slice_index rows) (positions members e')) 0 entities ∙ count;
      names_entities = ap length named_is ∙ length-map-range_with_len (λ e'. map (name_in names) (positions members e')) 0 entities ∙ count;
      counted = λ e. elim (cases_lt e entities) [
        | inl within ↦ ap length (names_in e within) ∙ length-map (positions members e) (name_in names) ∙ sym (length-map (positions members e) (slice_index rows)) ∙ ap length (sym (rows_in e within))
        | inr past ↦ ap length (names_past e past) ∙ ap length (sym (rows_past e past))
      ];
      live = λ e n r h. let p = place_of_row e n r h in (l.live p.0 r (to_row p.0 r p.2), p.3);
      numbered = λ e n r h. let p = place_of_row e n r h in
          ap (slice_index numbers) (sym (get_or_from_slice_get rows p.0 r 0 p.2)) ∙ numbered e n p.0 p.1;
      all = λ r live.
          let at = listed r live in
          let e : ℕ = row_entity m r in
          let member : slice_get members at.0 ≡ Some e = get-map (row_entity m) rows at.0 r at.1 in
          let here : slice_get (positions members e) (rank members e at.0) ≡ Some at.0 = positions_rank members e at.0 member in
          let row_is : slice_index rows at.0 ≡ r = get_or_from_slice_get rows at.0 r 0 at.1 in
          let number : slice_index numbers r ≡ rank members e at.0 = ap (slice_index numbers) (sym row_is) ∙ numbered e (rank members e at.0) at.0 here in
          let within : e < entities = omega (arith, count, closed.entities, closed.whole.kind r (closed.whole.made r live)) in
          ap (slice_get (rows_at order e)) number ∙ ap (λ (x : List ℕ). slice_get x (rank members e at.0)) (rows_in e within)
          ∙ get-map (slice_index rows) (positions members e) (rank members e at.0) at.0 here ∙ ap (λ x. Some x) row_is;
      named = λ e n r t row name.
          let p = place_of_row e n r row in
          let q = place_of_name e n t name in
          least p.0 r t p.2 (ap (slice_get names) (same_place e n p.0 q.0 p.1 q.1) ∙ q.2);
      ordered = λ e n next t u less a b.
          let p = place_of_name e n t a in
          let q = place_of_name e next u b in
          is_lt-before t u (l.sorted p.0 q.0 t u (positions-increasing members e n next p.0 q.0 less p.1 q.1) (to_name p.0 t p.2) (to_name q.0 u q.2));
    }
