-- A row is renamed.
use Rattle.std.proofs.Common.{◌≡◌, ◌≢◌, ℕ, zero, suc, ◌+◌, ◌<◌, ◌≤◌, Bool, true, false, List, [], ◌++◌, length, get_or, Option, Some, None, IsSome, cond, eqb, add-one, add-zero, refl, sym, ◌∙◌, ap, arith, ⊎_elim, ◌⊎◌, inl, inr}
use Rattle.std.proofs.Math.ListN.{set}
use Rattle.std.proofs.lemmas.List.{append-nil, length-set, get_or-set_same, get_or-set_other}
use Rattle.std.proofs.lemmas.Bool.{cases_lt, cases_eq, cases_Bool, false≢true, eq-eqb, ne_eqb}
use Rattle.std.proofs.lemmas.Option.{none-some, same_Some}
use Rattle.std.specs.Option.{is_some}
use Rattle.cq_tables.specs.Content.{Content, entities_of, keys_of, made_of, live_of, entity_of, cell_of, step_of, IsHeld, IsWhole}
use Rattle.cq_tables.specs.Changes.{Renames, moved, moved_cell, first_of, pair_of, given_pairs}
use Rattle.cq_tables.specs.Places.{rank_of, width_of, start_of, place_of, pairs_at}
use Rattle.cq_tables.specs.Tables.{content, IsLaid}
use Rattle.cq_tables.proofs.Placing.{place_is, place_apart, slot_below}
use Rattle.cq_tables.proofs.Stored.{cell_at, cell_not, cell_unmade}

-- one key more: it has a pair, or it is none of the entity's
pairs_more : (b : Bool) (walked : List (Option ℕ)) (into out s : ℕ) (before pair : List (ℕ × ℕ)) → pairs_at walked into out s ≡ before
    → (b ≡ true → pair ≡ pair_of (get_or walked (into + s) None) (get_or walked (out + s) None)) → (b ≡ false → pair ≡ [])
    → pairs_at walked into out (s + cond b 1 0) ≡ before ++ pair
pairs_more true walked into out s before pair h p q = rw (add-one, h, p refl) refl
pairs_more false walked into out s before pair h p q = rw (add-zero, q refl) (h ∙ sym (append-nil before))

-- of the first n keys, those that go from the entity give their pairs, and the others give none
pub pairs_by_key : (e : ℕ) (keys : List (ℕ × ℕ)) (kinds : List ℕ) (alive : List Bool) (cells walked : List (Option ℕ)) (from to n : ℕ)
    → from < length kinds → to < length kinds → get_or kinds from 0 ≡ get_or kinds to 0
    → ((i : ℕ) → get_or walked i None ≡ moved_cell from to (get_or cells i None))
    → pairs_at walked (start_of keys kinds to) (start_of keys kinds from) (rank_of keys (get_or kinds to 0) n) ≡ given_pairs (content e keys kinds alive cells) from to n
unfolding rank_of
pairs_by_key e keys kinds alive cells walked from to zero bf bt same all = refl
pairs_by_key e keys kinds alive cells walked from to (suc n) bf bt same all =
    pairs_more (is_some (step_of keys (get_or kinds to 0) n)) walked (start_of keys kinds to) (start_of keys kinds from) (rank_of keys (get_or kinds to 0) n)
    (given_pairs (content e keys kinds alive cells) from to n)
    (pair_of (moved_cell from to (cell_of (content e keys kinds alive cells) to n)) (moved_cell from to (cell_of (content e keys kinds alive cells) from n)))
    (pairs_by_key e keys kinds alive cells walked from to n bf bt same all)
    (λ g. two (there to bt g) (there from bf (rw same g) ∙ ap (λ x. get_or walked (start_of keys kinds from + rank_of keys x n) None) same))
    (λ f. rw (cell_not e keys kinds alive cells to n f) refl)
  where
    there : (r : ℕ) → r < length kinds → IsSome (step_of keys (get_or kinds r 0) n)
        → moved_cell from to (cell_of (content e keys kinds alive cells) r n) ≡ get_or walked (start_of keys kinds r + rank_of keys (get_or kinds r 0) n) None
    there r b g = ap (moved_cell from to) (cell_at e keys kinds alive cells r n b g ∙ ap (λ p. get_or cells p None) (place_is keys kinds r n))
        ∙ sym (all (start_of keys kinds r + rank_of keys (get_or kinds r 0) n))

    two : {a b c d : Option ℕ} → a ≡ c → b ≡ d → pair_of a b ≡ pair_of c d
    two p q = rw (p, q) refl

module _ (e : ℕ) (keys : List (ℕ × ℕ)) (kinds : List ℕ) (alive : List Bool) (starts : List ℕ) (cells : List (Option ℕ)) (counts : List ℕ)
    (laid : IsLaid keys kinds alive starts cells counts) (w : IsWhole (content e keys kinds alive cells)) (from to : ℕ)
    (lf : live_of (content e keys kinds alive cells) from ≡ true) (lt : live_of (content e keys kinds alive cells) to ≡ true) (ne : from ≢ to)
    (same : get_or kinds from 0 ≡ get_or kinds to 0)
    (walked cells' : List (Option ℕ))
    (all : (i : ℕ) → get_or walked i None ≡ moved_cell from to (get_or cells i None))
    (into : (s : ℕ) → s < width_of keys (get_or kinds to 0) → get_or cells' (start_of keys kinds to + s) None
    ≡ first_of (get_or walked (start_of keys kinds to + s) None) (get_or walked (start_of keys kinds from + s) None))
    (emptied : (s : ℕ) → s < width_of keys (get_or kinds to 0) → get_or cells' (start_of keys kinds from + s) None ≡ None)
    (rest : (i : ℕ) → (i < start_of keys kinds to) ⊎ (start_of keys kinds to + width_of keys (get_or kinds to 0) ≤ i)
    → (i < start_of keys kinds from) ⊎ (start_of keys kinds from + width_of keys (get_or kinds to 0) ≤ i) → get_or cells' i None ≡ get_or walked i None) where
  abbrev old : Content
  old = content e keys kinds alive cells

  abbrev new : Content
  new = content e keys kinds (set alive from false) cells'

  made : (r : ℕ) → live_of old r ≡ true → r < length kinds
  unfolding made_of
  made r l = w.made r l

  renamed_live : (r : ℕ) → live_of new r ≡ cond (eqb r from) false (live_of old r)
  unfolding live_of
  renamed_live r = elim (cases_eq r from) as (λ _. live_of new r ≡ cond (eqb r from) false (live_of old r)) [
    | inl q ↦ rw (eq-eqb r from q, q) (get_or-set_same alive from false false (omega (arith, laid.one_flag, made from lf)))
    | inr n ↦ rw (ne_eqb r from n) (get_or-set_other alive from r false false n)
  ]

  renamed_kind : (r : ℕ) → entity_of new r ≡ entity_of old r
  unfolding entity_of
  renamed_kind r = refl

  kinds_same : entity_of old from ≡ entity_of old to
  unfolding entity_of
  kinds_same = same

  -- a cell of `to`, by the list
  at_to : (k : ℕ) → IsSome (step_of keys (get_or kinds to 0) k) → cell_of new to k
      ≡ first_of (get_or walked (start_of keys kinds to + rank_of keys (get_or kinds to 0) k) None) (get_or walked (start_of keys kinds from + rank_of keys (get_or kinds to 0) k) None)
  at_to k g = cell_at e keys kinds (set alive from false) cells' to k (made to lt) g ∙ ap (λ p. get_or cells' p None) (place_is keys kinds to k)
      ∙ into (rank_of keys (get_or kinds to 0) k) (slot_below keys (get_or kinds to 0) k g)

  was : (r k : ℕ) → live_of old r ≡ true → IsSome (step_of keys (get_or kinds r 0) k) → get_or walked (start_of keys kinds r + rank_of keys (get_or kinds r 0) k) None ≡ moved_cell from to (cell_of old r k)
  was r k l g = all (start_of keys kinds r + rank_of keys (get_or kinds r 0) k)
      ∙ ap (moved_cell from to) (ap (λ p. get_or cells p None) (sym (place_is keys kinds r k)) ∙ sym (cell_at e keys kinds alive cells r k (made r l) g))

  joined : (k : ℕ) → cell_of new to k ≡ first_of (moved_cell from to (cell_of old to k)) (moved_cell from to (cell_of old from k))
  joined k = ⊎_elim
      (λ g. at_to k g ∙ both (was to k lt g) (ap (λ x. get_or walked (start_of keys kinds from + rank_of keys x k) None) (sym same) ∙ was from k lf (rw same g)))
      (λ f. cell_not e keys kinds (set alive from false) cells' to k f
      ∙ rw (cell_not e keys kinds alive cells to k f, cell_not e keys kinds alive cells from k (rw same f)) refl)
      (cases_Bool (is_some (step_of keys (get_or kinds to 0) k)))
    where
      both : {a b c d : Option ℕ} → a ≡ c → b ≡ d → first_of a b ≡ first_of c d
      both p q = rw (p, q) refl

  gone : (k : ℕ) → cell_of new from k ≡ None
  gone k = ⊎_elim
      (λ g. cell_at e keys kinds (set alive from false) cells' from k (made from lf) (rw same g) ∙ ap (λ p. get_or cells' p None) (place_is keys kinds from k)
      ∙ ap (λ x. get_or cells' (start_of keys kinds from + rank_of keys x k) None) same
      ∙ emptied (rank_of keys (get_or kinds to 0) k) (slot_below keys (get_or kinds to 0) k g))
      (λ f. cell_not e keys kinds (set alive from false) cells' from k (rw same f))
      (cases_Bool (is_some (step_of keys (get_or kinds to 0) k)))

  others : (r k : ℕ) → r ≢ from → r ≢ to → cell_of new r k ≡ moved_cell from to (cell_of old r k)
  others r k nf nt = ⊎_elim
      (λ l. ⊎_elim
      (λ g. cell_at e keys kinds (set alive from false) cells' r k l g
      ∙ rest (place_of keys kinds r k) (place_apart keys kinds r k to nt g) (rw (← same) (place_apart keys kinds r k from nf g))
      ∙ all (place_of keys kinds r k) ∙ ap (moved_cell from to) (sym (cell_at e keys kinds alive cells r k l g)))
      (λ f. cell_not e keys kinds (set alive from false) cells' r k f ∙ rw (cell_not e keys kinds alive cells r k f) refl)
      (cases_Bool (is_some (step_of keys (get_or kinds r 0) k))))
      (λ g. cell_unmade e keys kinds (set alive from false) cells' r k g ∙ rw (cell_unmade e keys kinds alive cells r k g) refl)
      (cases_lt r (length kinds))

  pub renames : Renames old new from to
  unfolding made_of keys_of entities_of
  renames = record {
    keys = refl;
    entities = refl;
    made = refl;
    kind = renamed_kind;
    live = renamed_live;
    joined = joined;
    gone = gone;
    others = others;
  }

  still_live : (r : ℕ) → r ≢ from → live_of old r ≡ true → live_of new r ≡ true
  still_live r n l = renamed_live r ∙ rw (ne_eqb r from n) l

  was_live : (r : ℕ) → live_of new r ≡ true → (r ≢ from) × (live_of old r ≡ true)
  was_live r l = elim (cases_eq r from) as (λ _. (r ≢ from) × (live_of old r ≡ true)) [
    | inl q ↦ absurd (false≢true (sym (renamed_live r ∙ rw (eq-eqb r from q) refl) ∙ l))
    | inr n ↦ (n, sym (renamed_live r ∙ rw (ne_eqb r from n) refl) ∙ l)
  ]

  moved_row : (s : ℕ) → live_of old s ≡ true → (live_of new (moved from to s) ≡ true) × (entity_of new (moved from to s) ≡ entity_of old s)
  moved_row s l = elim (cases_eq s from) as (λ _. (live_of new (moved from to s) ≡ true) × (entity_of new (moved from to s) ≡ entity_of old s)) [
    | inl q ↦ rw (eq-eqb s from q) (still_live to (λ x. ne (sym x)) lt, renamed_kind to ∙ sym kinds_same ∙ ap (entity_of old) (sym q))
    | inr n ↦ rw (ne_eqb s from n) (still_live s n l, renamed_kind s)
  ]

  -- a cell of a row of the same entity, as it stands after the renaming
  held_moved : (r q k : ℕ) (o : Option ℕ) (s : ℕ) → live_of old q ≡ true → entity_of old q ≡ entity_of old r → cell_of old q k ≡ o → moved_cell from to o ≡ Some s → IsHeld new r k s
  unfolding keys_of
  held_moved r q k None s l x c h = absurd (none-some s h)
  held_moved r q k (Some t) s l x c h =
      let before = w.held q k t l c in
      let is = same_Some (moved from to t) s h in
      let row = moved_row t before.live in
      record {
        live = rw (← is) row.0;
        step = rw (← is, row.1, renamed_kind r, ← x) before.step;
      }

  first_moved : (k : ℕ) (a b : Option ℕ) (s : ℕ) → cell_of old to k ≡ a → cell_of old from k ≡ b → first_of (moved_cell from to a) (moved_cell from to b) ≡ Some s → IsHeld new to k s
  first_moved k None b s ca cb h = held_moved to from k b s lf kinds_same cb h
  first_moved k (Some t) b s ca cb h = held_moved to to k (Some t) s lt refl ca h

  moved_some : (o : Option ℕ) (s : ℕ) → moved_cell from to o ≡ Some s → (t : ℕ) × (o ≡ Some t)
  moved_some None s h = absurd (none-some s h)
  moved_some (Some t) s h = (t, refl)

  still_filled : (r k s : ℕ) → cell_of new r k ≡ Some s → live_of new r ≡ true
  still_filled r k s h = elim (cases_eq r from) as (λ _. live_of new r ≡ true) [
    | inl q ↦ absurd (none-some s (sym (gone k) ∙ ap (λ x. cell_of new x k) (sym q) ∙ h))
    | inr n ↦ elim (cases_eq r to) as (λ _. live_of new r ≡ true) [
      | inl q ↦ rw q (still_live to (λ x. ne (sym x)) lt)
      | inr nt ↦
          let t = moved_some (cell_of old r k) s (sym (others r k n nt) ∙ h) in
          still_live r n (w.filled r k t.0 t.1)
    ]
  ]

  pub whole : IsWhole new
  unfolding made_of entities_of
  whole = record {
    made = λ r l. made r (was_live r l).1;
    kind = λ r l. rw (renamed_kind r) (w.kind r l);
    filled = still_filled;
    held = λ r k s l h. elim (cases_eq r to) as (λ _. IsHeld new r k s) [
      | inl q ↦ rw q (first_moved k (cell_of old to k) (cell_of old from k) s refl refl (sym (joined k) ∙ (rw (← q) h)))
      | inr nt ↦
          let b = was_live r l in
          held_moved r r k (cell_of old r k) s b.1 refl refl (sym (others r k b.0 nt) ∙ h)
    ];
  }

-- what the walks over the cells do, as the one list becomes the other
pub record Walks (keys : List (ℕ × ℕ)) (kinds : List ℕ) (cells walked last : List (Option ℕ)) (from to into out width : ℕ) : Type 0 where
  pub start_to : into ≡ start_of keys kinds to
  pub start_from : out ≡ start_of keys kinds from
  pub wide : width ≡ width_of keys (get_or kinds to 0)
  pub all : (i : ℕ) → get_or walked i None ≡ moved_cell from to (get_or cells i None)
  pub joined : (s : ℕ) → s < width → get_or last (into + s) None ≡ first_of (get_or walked (into + s) None) (get_or walked (out + s) None)
  pub emptied : (s : ℕ) → s < width → get_or last (out + s) None ≡ None
  pub rest : (i : ℕ) → (i < into) ⊎ (into + width ≤ i) → (i < out) ⊎ (out + width ≤ i) → get_or last i None ≡ get_or walked i None
  pub len : length last ≡ length cells

pub walks_as : (keys : List (ℕ × ℕ)) (kinds : List ℕ) (alive : List Bool) (starts : List ℕ) (cells reserved walked last : List (Option ℕ)) (counts : List ℕ) (from to kind into out width : ℕ)
    → IsLaid keys kinds alive starts cells counts → from < length kinds → to < length kinds
    → kind ≡ get_or kinds to 0 → width ≡ width_of keys kind → into ≡ get_or starts to 0 → out ≡ get_or starts from 0
    → reserved ≡ cells → ((i : ℕ) → get_or walked i None ≡ moved_cell from to (get_or reserved i None)) → length walked ≡ length reserved
    → ((s : ℕ) → s < width → get_or last (into + s) None ≡ first_of (get_or walked (into + s) None) (get_or walked (out + s) None))
    → ((s : ℕ) → s < width → get_or last (out + s) None ≡ None)
    → ((i : ℕ) → (i < into) ⊎ (into + width ≤ i) → (i < out) ⊎ (out + width ≤ i) → get_or last i None ≡ get_or walked i None)
    → length last ≡ length walked → Walks keys kinds cells walked last from to into out width
walks_as keys kinds alive starts cells reserved walked last counts from to kind into out width laid made_from made_to ek ew ei eo same all len joined emptied rest lens = record {
  start_to = ei ∙ laid.begins to made_to;
  start_from = eo ∙ laid.begins from made_from;
  wide = ew ∙ ap (width_of keys) ek;
  all = rw (← same) all;
  joined = joined;
  emptied = emptied;
  rest = rest;
  len = lens ∙ len ∙ ap length same;
}

-- what holds after the row is renamed
pub record IsRenamed (old new : Content) (keys : List (ℕ × ℕ)) (kinds : List ℕ) (alive : List Bool) (starts : List ℕ) (cells : List (Option ℕ)) (counts : List ℕ) (from to : ℕ) : Type 0 where
  pub renames : Renames old new from to
  pub whole : IsWhole new
  pub laid : IsLaid keys kinds alive starts cells counts

pub renamed_as : (e : ℕ) (keys : List (ℕ × ℕ)) (kinds : List ℕ) (alive alive' : List Bool) (starts : List ℕ) (cells walked last : List (Option ℕ)) (counts counts' : List ℕ) (from to into out width : ℕ)
    → IsLaid keys kinds alive starts cells counts → IsWhole (content e keys kinds alive cells)
    → live_of (content e keys kinds alive cells) from ≡ true → live_of (content e keys kinds alive cells) to ≡ true → from ≢ to
    → entity_of (content e keys kinds alive cells) from ≡ entity_of (content e keys kinds alive cells) to
    → Walks keys kinds cells walked last from to into out width → alive' ≡ set alive from false → length counts' ≡ length counts
    → IsRenamed (content e keys kinds alive cells) (content e keys kinds alive' last) keys kinds alive' starts last counts' from to
unfolding entity_of
renamed_as e keys kinds alive alive' starts cells walked last counts counts' from to into out width laid w lf lt ne same walks ea en =
    let joined = rw (walks.start_to, walks.start_from, walks.wide) at walks.joined in
    let emptied = rw (walks.start_from, walks.wide) at walks.emptied in
    let rest = rw (walks.start_to, walks.start_from, walks.wide) at walks.rest in
    rw ea (record {
      renames = renames e keys kinds alive starts cells counts laid w from to lf lt ne same walked last walks.all joined emptied rest;
      whole = whole e keys kinds alive starts cells counts laid w from to lf lt ne same walked last walks.all joined emptied rest;
      laid = record {
        one_flag = length-set alive from false ∙ laid.one_flag;
        one_start = laid.one_start;
        one_count = en ∙ laid.one_count;
        all = walks.len ∙ laid.all;
        begins = laid.begins;
        fits = rw walks.len laid.fits;
      };
    })

pub given_as : (e : ℕ) (keys : List (ℕ × ℕ)) (kinds : List ℕ) (alive : List Bool) (cells walked last : List (Option ℕ)) (from to into out width : ℕ)
    → from < length kinds → to < length kinds → entity_of (content e keys kinds alive cells) from ≡ entity_of (content e keys kinds alive cells) to
    → Walks keys kinds cells walked last from to into out width
    → pairs_at walked into out width ≡ given_pairs (content e keys kinds alive cells) from to (length (keys_of (content e keys kinds alive cells)))
unfolding entity_of keys_of width_of
given_as e keys kinds alive cells walked last from to into out width bf bt same walks =
    rw (walks.start_to, walks.start_from, walks.wide) (pairs_by_key e keys kinds alive cells walked from to (length keys) bf bt same walks.all)
