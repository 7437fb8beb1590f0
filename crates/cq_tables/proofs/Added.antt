-- A row is added.
use Rattle.std.proofs.Common.{◌≡◌, ◌≢◌, ℕ, ◌+◌, ◌-◌, ◌<◌, ◌≤◌, ◌^◌, Bool, true, false, List, [], ◌∷◌, ◌++◌, length, replicate, get_or, Option, Some, None, cond, eqb, refl, sym, ◌∙◌, ap, arith, ⊎_elim, inl, inr, length-append, add-one}
use Rattle.std.proofs.lemmas.Bool.{cases_lt, cases_eq, cases_Bool, eq-eqb, ne_eqb}
use Rattle.std.proofs.lemmas.List.{get_or_past, get_or_push, get_or_append_left, get_or-append_right, get_or-replicate, length-replicate}
use Rattle.std.proofs.lemmas.Option.{none-some}
use Rattle.std.specs.Option.{is_some}
use Rattle.cq_tables.specs.Content.{Content, entities_of, keys_of, made_of, live_of, entity_of, cell_of, step_of, IsHeld, IsWhole}
use Rattle.cq_tables.specs.Changes.{AddsRow}
use Rattle.cq_tables.specs.Places.{start_of, place_of, width_of}
use Rattle.cq_tables.specs.Tables.{content, IsLaid}
use Rattle.cq_tables.proofs.Placing.{start_same, start_suc, place_is, place_in, place_from}
use Rattle.cq_tables.proofs.Stored.{cell_at, cell_not, cell_unmade}

-- one more at the end of a list, read at any other place
read_push : {A : Type 0} (xs : List A) (x d : A) (n r : ℕ) → length xs ≡ n → r ≢ n → get_or (xs ++ x ∷ []) r d ≡ get_or xs r d
read_push xs x d n r e ne =
    elim (cases_lt r n) as (λ _. get_or (xs ++ x ∷ []) r d ≡ get_or xs r d) [
      | inl l ↦ get_or_append_left xs (x ∷ []) d r (omega arith)
      | inr g ↦ get_or_past (xs ++ x ∷ []) r d (omega (arith, length-append xs (x ∷ []))) ∙ sym (get_or_past xs r d (omega arith))
    ]

-- empty cells at the end of a list, read past its own end
read_empty : (xs : List (Option ℕ)) (n i : ℕ) → length xs ≤ i → get_or (xs ++ replicate n None) i None ≡ None
read_empty xs n i g =
    elim (cases_lt (i - length xs) n) as (λ _. get_or (xs ++ replicate n None) i None ≡ None) [
      | inl l ↦ get_or-append_right xs (replicate n None) (length xs) i None refl g ∙ get_or-replicate n (i - length xs) None None l
      | inr h ↦ get_or-append_right xs (replicate n None) (length xs) i None refl g ∙ get_or_past (replicate n None) (i - length xs) None (omega (arith, length-replicate {A = Option ℕ} n None))
    ]

module _ (e : ℕ) (keys : List (ℕ × ℕ)) (kinds : List ℕ) (alive : List Bool) (starts : List ℕ) (cells : List (Option ℕ)) (counts : List ℕ)
    (laid : IsLaid keys kinds alive starts cells counts) (w : IsWhole (content e keys kinds alive cells)) (d : ℕ) (in_range : d < e) where
  abbrev more : List ℕ
  more = kinds ++ d ∷ []

  abbrev filler : List (Option ℕ)
  filler = replicate (width_of keys d) None

  abbrev old : Content
  old = content e keys kinds alive cells

  abbrev new : Content
  new = content e keys more (alive ++ true ∷ []) (cells ++ filler)

  same_kind : (r : ℕ) → r < length kinds → get_or more r 0 ≡ get_or kinds r 0
  same_kind r l = get_or_append_left kinds (d ∷ []) 0 r l

  same_start : (r : ℕ) → r ≤ length kinds → start_of keys more r ≡ start_of keys kinds r
  same_start r l = start_same keys more kinds r (λ k h. same_kind k (omega arith))

  same_place : (r k : ℕ) → r < length kinds → place_of keys more r k ≡ place_of keys kinds r k
  same_place r k l = place_is keys more r k ∙ rw (same_start r (omega arith), same_kind r l) (sym (place_is keys kinds r k))

  made_more : length more ≡ length kinds + 1
  made_more = length-append kinds (d ∷ [])

  cell_old : (r k : ℕ) → r < length kinds → cell_of new r k ≡ cell_of old r k
  cell_old r k l = ⊎_elim
      (λ g. cell_at e keys more (alive ++ true ∷ []) (cells ++ filler) r k (omega (arith, made_more)) (rw (same_kind r l) g)
      ∙ ap (λ p. get_or (cells ++ filler) p None) (same_place r k l)
      ∙ get_or_append_left cells filler None (place_of keys kinds r k) (omega (arith, laid.all, place_in keys kinds r k (length kinds) l g))
      ∙ sym (cell_at e keys kinds alive cells r k l g))
      (λ n. cell_not e keys more (alive ++ true ∷ []) (cells ++ filler) r k (rw (same_kind r l) n) ∙ sym (cell_not e keys kinds alive cells r k n))
      (cases_Bool (is_some (step_of keys (get_or kinds r 0) k)))

  cell_new : (k : ℕ) → cell_of new (length kinds) k ≡ None
  cell_new k = ⊎_elim
      (λ g. cell_at e keys more (alive ++ true ∷ []) (cells ++ filler) (length kinds) k (omega (arith, made_more)) g
      ∙ read_empty cells (width_of keys d) (place_of keys more (length kinds) k)
      (omega (arith, laid.all, same_start (length kinds) (omega arith), (place_from keys more (length kinds) k g).0)))
      (λ n. cell_not e keys more (alive ++ true ∷ []) (cells ++ filler) (length kinds) k n)
      (cases_Bool (is_some (step_of keys (get_or more (length kinds) 0) k)))

  added_cell : (r k : ℕ) → cell_of new r k ≡ cond (eqb r (length kinds)) None (cell_of old r k)
  added_cell r k = elim (cases_eq r (length kinds)) as (λ _. cell_of new r k ≡ cond (eqb r (length kinds)) None (cell_of old r k)) [
    | inl q ↦ rw (eq-eqb r (length kinds) q) (rw q (cell_new k))
    | inr n ↦ rw (ne_eqb r (length kinds) n) (⊎_elim (cell_old r k)
        (λ g. cell_unmade e keys more (alive ++ true ∷ []) (cells ++ filler) r k (omega (arith, made_more)) ∙ sym (cell_unmade e keys kinds alive cells r k g))
        (cases_lt r (length kinds)))
  ]

  added_live : (r : ℕ) → live_of new r ≡ cond (eqb r (length kinds)) true (live_of old r)
  unfolding live_of
  added_live r = elim (cases_eq r (length kinds)) as (λ _. live_of new r ≡ cond (eqb r (length kinds)) true (live_of old r)) [
    | inl q ↦ rw (eq-eqb r (length kinds) q) (get_or_push alive true false r (omega (arith, laid.one_flag)))
    | inr n ↦ rw (ne_eqb r (length kinds) n) (read_push alive true false (length kinds) r laid.one_flag n)
  ]

  added_kind : (r : ℕ) → entity_of new r ≡ cond (eqb r (length kinds)) d (entity_of old r)
  unfolding entity_of
  added_kind r = elim (cases_eq r (length kinds)) as (λ _. entity_of new r ≡ cond (eqb r (length kinds)) d (entity_of old r)) [
    | inl q ↦ rw (eq-eqb r (length kinds) q) (get_or_push kinds d 0 r (sym q))
    | inr n ↦ rw (ne_eqb r (length kinds) n) (read_push kinds d 0 (length kinds) r refl n)
  ]

  adds : AddsRow old new d (length kinds)
  unfolding made_of keys_of entities_of
  adds = record {
    number = refl;
    keys = refl;
    entities = refl;
    made = made_more;
    live = added_live;
    kind = added_kind;
    cell = added_cell;
  }

  live_other : (r : ℕ) → r ≢ length kinds → live_of new r ≡ live_of old r
  live_other r n = added_live r ∙ rw (ne_eqb r (length kinds) n) refl

  kind_other : (r : ℕ) → r ≢ length kinds → entity_of new r ≡ entity_of old r
  kind_other r n = added_kind r ∙ rw (ne_eqb r (length kinds) n) refl

  cell_other : (r k : ℕ) → r ≢ length kinds → cell_of new r k ≡ cell_of old r k
  cell_other r k n = added_cell r k ∙ rw (ne_eqb r (length kinds) n) refl

  live_apart : (r : ℕ) → live_of old r ≡ true → r ≢ length kinds
  unfolding made_of
  live_apart r l q = omega (arith, w.made r l)

  held_old : (r k s : ℕ) → r ≢ length kinds → live_of new r ≡ true → cell_of new r k ≡ Some s → IsHeld new r k s
  unfolding keys_of
  held_old r k s n l h =
      let before = w.held r k s (sym (live_other r n) ∙ l) (sym (cell_other r k n) ∙ h) in
      let apart = live_apart s before.live in
      record { live = live_other s apart ∙ before.live; step = rw (kind_other r n, kind_other s apart) before.step }

  whole : IsWhole new
  unfolding made_of entities_of
  whole = record {
    made = λ r l. elim (cases_eq r (length kinds)) as (λ _. r < length more) [
      | inl q ↦ omega (arith, made_more)
      | inr n ↦ omega (arith, made_more, w.made r (sym (live_other r n) ∙ l))
    ];
    kind = λ r l. elim (cases_eq r (length kinds)) as (λ _. entity_of new r < e) [
      | inl q ↦ rw (added_kind r, eq-eqb r (length kinds) q) in_range
      | inr n ↦ rw (kind_other r n) (w.kind r (omega (arith, made_more, l)))
    ];
    filled = λ r k s h. elim (cases_eq r (length kinds)) as (λ _. live_of new r ≡ true) [
      | inl q ↦ added_live r ∙ rw (eq-eqb r (length kinds) q) refl
      | inr n ↦ live_other r n ∙ w.filled r k s (sym (cell_other r k n) ∙ h)
    ];
    held = λ r k s l h. elim (cases_eq r (length kinds)) as (λ _. IsHeld new r k s) [
      | inl q ↦ absurd (none-some s (sym (added_cell r k ∙ rw (eq-eqb r (length kinds) q) refl) ∙ h))
      | inr n ↦ held_old r k s n l h
    ];
  }

  laid_out : length (cells ++ filler) < 2 ^ 64 → IsLaid keys more (alive ++ true ∷ []) (starts ++ length cells ∷ []) (cells ++ filler) (counts ++ 0 ∷ [])
  laid_out fits = record {
    one_flag = omega (arith, length-append alive (true ∷ []), made_more, laid.one_flag);
    one_start = omega (arith, length-append starts (length cells ∷ []), made_more, laid.one_start);
    one_count = omega (arith, length-append counts (0 ∷ []), made_more, laid.one_count);
    all = rw (made_more, add-one, start_suc keys more (length kinds), get_or_push kinds d 0 (length kinds) refl)
        (omega (arith, length-append cells filler, length-replicate {A = Option ℕ} (width_of keys d) None, laid.all, same_start (length kinds) (omega arith)));
    begins = λ r l. elim (cases_eq r (length kinds)) as (λ _. get_or (starts ++ length cells ∷ []) r 0 ≡ start_of keys more r) [
      | inl q ↦ get_or_push starts (length cells) 0 r (laid.one_start ∙ sym q) ∙ laid.all ∙ sym (same_start (length kinds) (omega arith)) ∙ ap (start_of keys more) (sym q)
      | inr n ↦
          let below : r < length kinds = omega (arith, made_more) in
          get_or_append_left starts (length cells ∷ []) 0 r (omega (arith, laid.one_start)) ∙ laid.begins r below ∙ sym (same_start r (omega arith))
    ];
    fits = fits;
  }

-- what holds after the row is added
pub record IsAdded (old new : Content) (keys : List (ℕ × ℕ)) (kinds : List ℕ) (alive : List Bool) (starts : List ℕ) (cells : List (Option ℕ)) (counts : List ℕ) (d row : ℕ) : Type 0 where
  pub adds : AddsRow old new d row
  pub whole : IsWhole new
  pub laid : IsLaid keys kinds alive starts cells counts

-- the same, with lists that equal those
pub added_as : (e : ℕ) (keys : List (ℕ × ℕ)) (kinds kinds' : List ℕ) (alive alive' : List Bool) (starts starts' : List ℕ) (cells cells' : List (Option ℕ)) (counts counts' : List ℕ) (d row start : ℕ)
    → IsLaid keys kinds alive starts cells counts → IsWhole (content e keys kinds alive cells) → d < e
    → row ≡ length kinds → start ≡ length cells → kinds' ≡ kinds ++ d ∷ [] → alive' ≡ alive ++ true ∷ [] → starts' ≡ starts ++ start ∷ []
    → cells' ≡ cells ++ replicate (width_of keys d) None → counts' ≡ counts ++ 0 ∷ [] → length cells' < 2 ^ 64
    → IsAdded (content e keys kinds alive cells) (content e keys kinds' alive' cells') keys kinds' alive' starts' cells' counts' d row
added_as e keys kinds kinds' alive alive' starts starts' cells cells' counts counts' d row start laid w in_range er es ek ea et ec en fits =
    let fit = rw ec at fits in
    rw (er, et, es, ek, ea, ec, en) (record {
      adds = adds e keys kinds alive starts cells counts laid w d in_range;
      whole = whole e keys kinds alive starts cells counts laid w d in_range;
      laid = laid_out e keys kinds alive starts cells counts laid w d in_range fit;
    })
