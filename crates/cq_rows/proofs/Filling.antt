-- Empty cells are filled with new rows.
use Rattle.std.proofs.Common.{◌≡◌, ◌≢◌, ℕ, ◌+◌, ◌<◌, ◌≤◌, Bool, true, false, List, [], ◌∷◌, length, get_or, Option, Some, None, cond, not, eqb, refl, sym, ◌∙◌, ap, subst, arith, ⊎_elim, ◌⊎◌, inl, inr}
use Rattle.std.proofs.lemmas.Bool.{cases_eq, eq-eqb, ne_eqb, false≢true}
use Rattle.std.proofs.lemmas.Option.{none-some, same_Some, slice_get-get_or}
use Rattle.std.proofs.lemmas.List.{get_or_default}
use Rattle.std.proofs.lemmas.List.Elements.{All-get_or}
use Rattle.std.specs.Prelude.{All, slice_index, IsSome, is_some}
use Rattle.cq_tables.specs.Content.{Content, made_of, live_of, entity_of, cell_of, step_of, IsWhole, keys_of}
use Rattle.cq_tables.specs.Changes.{AddsRow, SetsCell}
use Rattle.cq_rows.specs.Theory.{Term, Theory, reflexive, along, sort_of, Derives}
use Rattle.cq_rows.specs.Rows.{IsSound, Extends, KeepsSound, FillsCell, FillsRow, RowFilled, IsCellOf}
use Rattle.cq_rows.proofs.Cells.{live_made, below_or_at}
use Rattle.cq_tables.specs.Places.{keys_from}
use Rattle.cq_tables.proofs.Placing.{goes_below, step_below}
use Rattle.cq_tables.proofs.Starting.{next_key, listed_goes, at_first, at_next, at_end}
use Rattle.cq_rows.proofs.Sorts.{sort-along, end_one}

-- the new row
pub added_live : (old mid : Content) (e n : ℕ) → AddsRow old mid e n → live_of mid n ≡ true
added_live old mid e n a = a.live n ∙ rw (eq-eqb n n refl) refl

pub added_kind : (old mid : Content) (e n : ℕ) → AddsRow old mid e n → entity_of mid n ≡ e
added_kind old mid e n a = a.kind n ∙ rw (eq-eqb n n refl) refl

module _ (old mid : Content) (e n : ℕ) (a : AddsRow old mid e n) (w : IsWhole old) where
  not_new : (r : ℕ) → live_of old r ≡ true → r ≢ n
  not_new r l q = omega (arith, live_made old r w l, a.number, q)

  pub added_old : (r : ℕ) → live_of old r ≡ true → (live_of mid r ≡ true) × (entity_of mid r ≡ entity_of old r)
  added_old r l = (a.live r ∙ rw (ne_eqb r n (not_new r l)) l, a.kind r ∙ rw (ne_eqb r n (not_new r l)) refl)

  pub added_empty : (r k : ℕ) → live_of old r ≡ true → cell_of old r k ≡ None → cell_of mid r k ≡ None
  added_empty r k l c = a.cell r k ∙ rw (ne_eqb r n (not_new r l)) c

  pub added_step : (row key : ℕ) → live_of old row ≡ true → step_of (keys_of old) (entity_of old row) key ≡ Some e → step_of (keys_of mid) (entity_of mid row) key ≡ Some (entity_of mid n)
  added_step row key l s = rw ((added_old row l).1, added_kind old mid e n a, a.keys) s

  pub FillsCell-set : (m : Content) (row key : ℕ) → SetsCell mid m row key n → FillsCell old m row key e
  FillsCell-set m row key s = record {
    keys = s.keys ∙ a.keys;
    entities = s.entities ∙ a.entities;
    made = s.made ∙ a.made;
    live = λ r. s.live r ∙ rw (← a.number) (a.live r);
    kind = λ r. s.kind r ∙ rw (← a.number) (a.kind r);
    there = s.there ∙ ap (λ x. Some x) a.number;
    others = λ r k h. s.others r k h ∙ rw (← a.number) (a.cell r k);
  }

module _ (old m : Content) (row key to : ℕ) (f : FillsCell old m row key to) (w : IsWhole old) (lr : live_of old row ≡ true) (st : step_of (keys_of old) (entity_of old row) key ≡ Some to) (empty : cell_of old row key ≡ None) where
  old_row : (r : ℕ) → live_of old r ≡ true → r ≢ made_of old
  old_row r l q = omega (arith, live_made old r w l, q)

  fill_live : (r : ℕ) → live_of old r ≡ true → live_of m r ≡ true
  fill_live r l = f.live r ∙ rw (ne_eqb r (made_of old) (old_row r l)) l

  fill_kind : (r : ℕ) → live_of old r ≡ true → entity_of m r ≡ entity_of old r
  fill_kind r l = f.kind r ∙ rw (ne_eqb r (made_of old) (old_row r l)) refl

  fill_was : (r : ℕ) → r ≢ made_of old → live_of m r ≡ true → live_of old r ≡ true
  fill_was r n l = sym (f.live r ∙ rw (ne_eqb r (made_of old) n) refl) ∙ l

  fill_cells : (r k q : ℕ) → live_of old r ≡ true → cell_of old r k ≡ Some q → cell_of m r k ≡ Some q
  fill_cells r k q l c = f.others r k (λ er ek. none-some q (sym empty ∙ (rw (er, ek) at c))) ∙ rw (ne_eqb r (made_of old) (old_row r l)) c

  pub Extends-fill : Extends old m
  Extends-fill = record {
    keys = f.keys;
    entities = f.entities;
    made = omega (arith, f.made);
    live = fill_live;
    kind = fill_kind;
    cell = fill_cells;
    fresh = λ r h l. fill_was r (λ q. omega (arith, q)) l;
  }

  pub origin-fill : (r : ℕ) → live_of m r ≡ true → (live_of old r ≡ true) ⊎ IsCellOf m row r
  origin-fill r l = elim (cases_eq r (made_of old)) as (λ _. (live_of old r ≡ true) ⊎ IsCellOf m row r) [
    | inl q ↦ inr (record { key = key; cell = f.there ∙ ap (λ x. Some x) (sym q) })
    | inr n ↦ inl (fill_was r n l)
  ]

  -- the term of the new row
  abbrev with_term : (ℕ → Term) → ℕ → Term
  with_term terms r = cond (eqb r (made_of old)) (along (terms row) (key ∷ [])) (terms r)

  term_new : (terms : ℕ → Term) (r : ℕ) → r ≡ made_of old → with_term terms r ≡ along (terms row) (key ∷ [])
  term_new terms r q = rw (eq-eqb r (made_of old) q) refl

  term_old : (terms : ℕ → Term) (r : ℕ) → r ≢ made_of old → with_term terms r ≡ terms r
  term_old terms r n = rw (ne_eqb r (made_of old) n) refl

  module _ (s : Theory) (rows : List ℕ) (terms : ℕ → Term) (h : IsSound s old rows terms) where
    new_sort : sort_of s (along (terms row) (key ∷ [])) ≡ Some to
    new_sort = sort-along s (terms row) (entity_of old row) to (key ∷ []) (h.sorts row lr) (end_one s.keys (entity_of old row) key to (rw (← h.keys) st))

    sorts : (r : ℕ) → live_of m r ≡ true → sort_of s (with_term terms r) ≡ Some (entity_of m r)
    sorts r l = elim (cases_eq r (made_of old)) as (λ _. sort_of s (with_term terms r) ≡ Some (entity_of m r)) [
      | inl q ↦ rw (term_new terms r q) (new_sort ∙ ap (λ x. Some x) (sym (f.kind r ∙ rw (eq-eqb r (made_of old) q) refl)))
      | inr n ↦ rw (term_old terms r n) (h.sorts r (fill_was r n l) ∙ ap (λ x. Some x) (sym (fill_kind r (fill_was r n l))))
    ]

    old_cell : (r k q : ℕ) → live_of old r ≡ true → cell_of old r k ≡ Some q → Derives s (along (with_term terms r) (k ∷ [])) (with_term terms q)
    old_cell r k q l c = rw (term_old terms r (old_row r l), term_old terms q (old_row q (w.held r k q l c).live)) (h.cells r k q l c)

    cells_other : (r k q : ℕ) → live_of m r ≡ true → (r ≡ row → k ≡ key → ⊥) → cell_of m r k ≡ Some q → Derives s (along (with_term terms r) (k ∷ [])) (with_term terms q)
    cells_other r k q l n c = elim (cases_eq r (made_of old)) as (λ _. Derives s (along (with_term terms r) (k ∷ [])) (with_term terms q)) [
      | inl e ↦ absurd (none-some q (sym (f.others r k n ∙ rw (eq-eqb r (made_of old) e) refl) ∙ c))
      | inr ne ↦ old_cell r k q (fill_was r ne l) (sym (f.others r k n ∙ rw (ne_eqb r (made_of old) ne) refl) ∙ c)
    ]

    cells_new : (q : ℕ) → cell_of m row key ≡ Some q → Derives s (along (with_term terms row) (key ∷ [])) (with_term terms q)
    cells_new q c = rw (term_old terms row (old_row row lr), term_new terms q (same_Some q (made_of old) (sym c ∙ f.there))) (reflexive to new_sort tt)

    pub IsSound-fill : IsSound s m rows (with_term terms)
    IsSound-fill = record {
      keys = f.keys ∙ h.keys;
      entities = f.entities ∙ h.entities;
      sorts = sorts;
      cells = λ r k q l c. elim (cases_eq r row) as (λ _. Derives s (along (with_term terms r) (k ∷ [])) (with_term terms q)) [
        | inl er ↦ elim (cases_eq k key) as (λ _. Derives s (along (with_term terms r) (k ∷ [])) (with_term terms q)) [
          | inl ek ↦ rw (er, ek) (cells_new q (rw (er, ek) at c))
          | inr nk ↦ cells_other r k q l (λ _ y. nk y) c
        ]
        | inr nr ↦ cells_other r k q l (λ x _. nr x) c
      ];
      generators = λ g e found.
          let o = h.generators g e found in
          let r = slice_index rows g in
          record {
            live = fill_live r o.live;
            kind = fill_kind r o.live ∙ o.kind;
            equal = rw (term_old terms r (old_row r o.live)) o.equal;
          };
    }

  pub KeepsSound-fill : KeepsSound old m
  KeepsSound-fill s rows terms h = (with_term terms, IsSound-fill s rows terms h)

pub Extends-same : (m : Content) → Extends m m
Extends-same m = record { keys = refl; entities = refl; made = omega arith; live = λ r l. l; kind = λ r l. refl; cell = λ r k q l c. c; fresh = λ r h l. l }

pub Extends-then : (a b c : Content) → IsWhole b → Extends a b → Extends b c → Extends a c
Extends-then a b c w x y = record {
  keys = y.keys ∙ x.keys;
  entities = y.entities ∙ x.entities;
  made = omega (arith, x.made, y.made);
  live = λ r l. y.live r (x.live r l);
  kind = λ r l. y.kind r (x.live r l) ∙ x.kind r l;
  cell = λ r k q l e. y.cell r k q (x.live r l) (x.cell r k q l e);
  fresh = λ r h l. x.fresh r h (y.fresh r (omega (arith, x.made)) l);
}

pub KeepsSound-then : (a b c : Content) → KeepsSound a b → KeepsSound b c → KeepsSound a c
KeepsSound-then a b c x y s rows terms h = let o = x s rows terms h in y s rows o.0 o.1

-- the cells of a row below key i are filled
pub record IsFillingRow (old m : Content) (row i : ℕ) : Type 0 where
  pub whole : IsWhole m
  pub extends : Extends old m
  pub origin : (r : ℕ) → live_of m r ≡ true → (live_of old r ≡ true) ⊎ IsCellOf m row r
  pub filled : (k d : ℕ) → k < i → step_of (keys_of m) (entity_of m row) k ≡ Some d → IsSome (cell_of m row k)
  pub sound : KeepsSound old m

pub IsFillingRow-start : (m : Content) (row : ℕ) → IsWhole m → IsFillingRow m m row 0
IsFillingRow-start m row w = record { whole = w; extends = Extends-same m; origin = λ r l. inl l; filled = λ k d h. absurd (omega arith); sound = λ s rows terms h. (terms, h) }

-- this cell needs no row
pub IsFillingRow-skip : (old m : Content) (row i : ℕ) → IsFillingRow old m row i → ((d : ℕ) → step_of (keys_of m) (entity_of m row) i ≡ Some d → IsSome (cell_of m row i)) → IsFillingRow old m row (i + 1)
IsFillingRow-skip old m row i h x = record {
  whole = h.whole;
  extends = h.extends;
  origin = h.origin;
  filled = λ k d l s. ⊎_elim (λ p. h.filled k d p s) (λ q. rw q (x d (rw q at s))) (below_or_at k i l);
  sound = h.sound;
}

some_filled : (o : Option ℕ) (q : ℕ) → o ≡ Some q → IsSome o
some_filled o q e = rw e refl

is_filled : (o p : Option ℕ) → ((q : ℕ) → o ≡ Some q → p ≡ Some q) → IsSome o → IsSome p
is_filled None p h x = absurd (false≢true x)
is_filled (Some q) p h x = some_filled p q (h q refl)

pub RowFilled-extends : (old new : Content) (r k d : ℕ) → Extends old new → live_of old r ≡ true → (step_of (keys_of old) (entity_of old r) k ≡ Some d → IsSome (cell_of old r k)) → step_of (keys_of new) (entity_of new r) k ≡ Some d → IsSome (cell_of new r k)
RowFilled-extends old new r k d x l h s = is_filled (cell_of old r k) (cell_of new r k) (λ q e. x.cell r k q l e) (h (rw (x.kind r l, x.keys) at s))

moved_origin : (a b : Content) (row r : ℕ) → Extends a b → live_of a row ≡ true → IsCellOf a row r → IsCellOf b row r
moved_origin a b row r x l o = record { key = o.key; cell = x.cell row o.key r l o.cell }

pub IsFillingRow-fill : (old m m' : Content) (row i to : ℕ) → live_of old row ≡ true → IsFillingRow old m row i → IsWhole m' → FillsCell m m' row i to → step_of (keys_of m) (entity_of m row) i ≡ Some to → cell_of m row i ≡ None → IsFillingRow old m' row (i + 1)
IsFillingRow-fill old m m' row i to l h w' f st e =
    let lm = h.extends.live row l in
    let x = Extends-fill m m' row i to f h.whole lm st e in
    record {
      whole = w';
      extends = Extends-then old m m' h.whole h.extends x;
      origin = λ r lr. ⊎_elim (λ p. ⊎_elim (λ q. inl q) (λ q. inr (moved_origin m m' row r x lm q)) (h.origin r p)) (λ q. inr q) (origin-fill m m' row i to f h.whole lm st e r lr);
      filled = λ k d b s. ⊎_elim (λ p. RowFilled-extends m m' row k d x lm (h.filled k d p) s) (λ q. rw q (some_filled (cell_of m' row i) (made_of m) f.there)) (below_or_at k i b);
      sound = KeepsSound-then old m m' h.sound (KeepsSound-fill m m' row i to f h.whole lm st e);
    }

-- the cells of the rows below i are filled
pub record IsFilling (old m : Content) (i : ℕ) : Type 0 where
  pub whole : IsWhole m
  pub extends : Extends old m
  pub origin : (r : ℕ) → live_of m r ≡ true → (live_of old r ≡ true) ⊎ ((q : ℕ) × (live_of old q ≡ true) × IsCellOf m q r)
  pub filled : (r : ℕ) → r < i → live_of old r ≡ true → RowFilled m r
  pub sound : KeepsSound old m

pub IsFilling-start : (m : Content) → IsWhole m → IsFilling m m 0
IsFilling-start m w = record { whole = w; extends = Extends-same m; origin = λ r l. inl l; filled = λ r h l. absurd (omega arith); sound = λ s rows terms h. (terms, h) }

pub IsFilling-skip : (old m : Content) (i : ℕ) → IsFilling old m i → live_of m i ≡ false → IsFilling old m (i + 1)
IsFilling-skip old m i h n = record {
  whole = h.whole;
  extends = h.extends;
  origin = h.origin;
  filled = λ r l lr. ⊎_elim (λ p. h.filled r p lr) (λ q. absurd (false≢true (sym n ∙ h.extends.live i (rw q at lr)))) (below_or_at r i l);
  sound = h.sound;
}

pub IsFilling-fill : (old m m' : Content) (i : ℕ) → live_of old i ≡ true → IsFilling old m i → IsWhole m' → FillsRow m m' i → IsFilling old m' (i + 1)
IsFilling-fill old m m' i l h w' f = record {
  whole = w';
  extends = Extends-then old m m' h.whole h.extends f.extends;
  origin = λ r lr. ⊎_elim
      (λ p. ⊎_elim (λ q. inl q) (λ q. inr (q.0, q.1, moved_origin m m' q.0 r f.extends (h.extends.live q.0 q.1) q.2)) (h.origin r p))
      (λ q. inr (i, l, q))
      (f.origin r lr);
  filled = λ r b lr. ⊎_elim
      (λ p k d s. RowFilled-extends m m' r k d f.extends (h.extends.live r lr) (λ z. h.filled r p lr k d z) s)
      (λ q. rw q f.filled)
      (below_or_at r i b);
  sound = KeepsSound-then old m m' h.sound f.sound;
}

only_some : (b : Bool) (d : ℕ) → IsSome (cond b (Some d) None) → cond b (Some d) None ≡ Some d
only_some true d h = refl
only_some false d h = absurd (false≢true h)

-- where a key leads that goes from an entity
pub goes_to : (keys : List (ℕ × ℕ)) (e k : ℕ) → IsSome (step_of keys e k) → step_of keys e k ≡ Some (get_or keys k (0, 0)).1
unfolding step_of
goes_to keys e k h =
    let found = slice_get-get_or keys k (0, 0) (goes_below keys e k h) in
    rw found (only_some (eqb (get_or keys k (0, 0)).0 e) (get_or keys k (0, 0)).1 (rw found at h))

-- A loop over the keys that go from a row's entity: the key at a place of their list, or past all keys where there is none.
module _ (m : Content) (row e : ℕ) (is : e ≡ entity_of m row) where
  pub listed_step : (list : List ℕ) (i key d : ℕ) → list ≡ keys_from (keys_of m) e → i < length list → key ≡ get_or list i d → IsSome (step_of (keys_of m) (entity_of m row) key)
  listed_step list i key d are within read =
      let there : key ≡ get_or (keys_from (keys_of m) e) i d = read ∙ ap (λ (l : List ℕ). get_or l i d) are in
      subst (λ x. IsSome (step_of (keys_of m) x key)) is
      (subst (λ x. IsSome (step_of (keys_of m) e x)) (sym there) (listed_goes (keys_of m) e i d (omega (arith, ap length are))))

  pub listed_key : (list : List ℕ) (i key d : ℕ) → list ≡ keys_from (keys_of m) e → i < length list → key ≡ get_or list i d → key ≡ next_key (keys_of m) e i
  listed_key list i key d are within read =
      read ∙ ap (λ (l : List ℕ). get_or l i d) are ∙ get_or_default (keys_from (keys_of m) e) i d (length (keys_of m)) (omega (arith, ap length are))

  -- the cells below a key are filled
  abbrev pub FilledBelow : ℕ → Type 0
  FilledBelow i = (k d : ℕ) → k < i → step_of (keys_of m) (entity_of m row) k ≡ Some d → IsSome (cell_of m row k)

  filled_skip : (i : ℕ) → ((d : ℕ) → step_of (keys_of m) e i ≡ Some d → ⊥) → FilledBelow i → FilledBelow (i + 1)
  filled_skip i none h k d l s = ⊎_elim (λ p. h k d p s) (λ q. absurd (none d (rw is (rw q at s)))) (below_or_at k i l)

  pub filled_first : FilledBelow (next_key (keys_of m) e 0)
  filled_first = at_first (keys_of m) e FilledBelow filled_skip (λ k d l. absurd (omega arith))

  pub filled_next : (i k : ℕ) → i < length (keys_from (keys_of m) e) → k ≡ next_key (keys_of m) e i → IsSome (cell_of m row k) → FilledBelow (next_key (keys_of m) e i)
      → FilledBelow (next_key (keys_of m) e (i + 1))
  filled_next i k within key filled h =
      at_next (keys_of m) e FilledBelow filled_skip i k within key (λ j d l s. ⊎_elim (λ p. h j d (omega (arith, p, key)) s) (λ q. rw q filled) (below_or_at j k l))

  pub filled_all : (i : ℕ) → length (keys_from (keys_of m) e) ≤ i → FilledBelow (next_key (keys_of m) e i) → RowFilled m row
  filled_all i past h k d s = at_end (keys_of m) e FilledBelow i past h k d (step_below (keys_of m) (entity_of m row) k d s) s

  module _ (old : Content) where
    row_skip : (i : ℕ) → ((d : ℕ) → step_of (keys_of m) e i ≡ Some d → ⊥) → IsFillingRow old m row i → IsFillingRow old m row (i + 1)
    row_skip i none h = IsFillingRow-skip old m row i h (λ d s. absurd (none d (rw is s)))

    row_next : (i k : ℕ) → i < length (keys_from (keys_of m) e) → k ≡ next_key (keys_of m) e i → IsFillingRow old m row (k + 1) → IsFillingRow old m row (next_key (keys_of m) e (i + 1))
    row_next i k = at_next (keys_of m) e (IsFillingRow old m row) row_skip i k

    pub row_passed : (i k : ℕ) → i < length (keys_from (keys_of m) e) → k ≡ next_key (keys_of m) e i → IsSome (cell_of m row k) → IsFillingRow old m row (next_key (keys_of m) e i)
        → IsFillingRow old m row (next_key (keys_of m) e (i + 1))
    row_passed i k within key filled h = row_next i k within key (IsFillingRow-skip old m row k (subst (IsFillingRow old m row) (sym key) h) (λ d s. filled))

    pub row_done : (i : ℕ) → length (keys_from (keys_of m) e) ≤ i → IsFillingRow old m row (next_key (keys_of m) e i) → FillsRow old m row
    row_done i past h = record { extends = h.extends; origin = h.origin; filled = filled_all i past h.filled; sound = h.sound }

  pub row_first : IsWhole m → IsFillingRow m m row (next_key (keys_of m) e 0)
  row_first whole = at_first (keys_of m) e (IsFillingRow m m row) (row_skip m) (IsFillingRow-start m row whole)

pub kind_kept : (old m : Content) (row e : ℕ) → Extends old m → live_of old row ≡ true → e ≡ entity_of old row → e ≡ entity_of m row
kind_kept old m row e x live is = is ∙ sym (x.kind row live)

-- the key that a loop reads
pub record IsAtKey (m : Content) (row e i key : ℕ) (keys : List (ℕ × ℕ)) : Type 0 where
  pub within : i < length (keys_from (keys_of m) e)
  pub at : key ≡ next_key (keys_of m) e i
  pub goes : IsSome (step_of (keys_of m) (entity_of m row) key)
  pub step : step_of (keys_of m) (entity_of m row) key ≡ Some (get_or keys key (0, 0)).1
  pub below : key < length keys

pub at_key : (old m : Content) (row e : ℕ) (keys : List (ℕ × ℕ)) (first list : List ℕ) (i : ℕ) → keys_of old ≡ keys → Extends old m → live_of old row ≡ true → e ≡ entity_of old row
    → first ≡ keys_from (keys_of old) e → list ≡ keys_from (keys_of m) e → i < length first → IsAtKey m row e i (get_or list i 0) keys
at_key old m row e keys first list i given extends live is first_is list_is h =
    let kind = kind_kept old m row e extends live is in
    let same : keys_of m ≡ keys = extends.keys ∙ given in
    let size : length list ≡ length first = ap length (list_is ∙ ap (λ (ks : List (ℕ × ℕ)). keys_from ks e) extends.keys ∙ sym first_is) in
    let within : i < length list = omega arith in
    let goes = listed_step m row e kind list i (get_or list i 0) 0 list_is within refl in
    record {
      within = omega (arith, within, ap length list_is);
      at = listed_key m row e kind list i (get_or list i 0) 0 list_is within refl;
      goes = goes;
      step = goes_to (keys_of m) (entity_of m row) (get_or list i 0) goes ∙ ap (λ (ks : List (ℕ × ℕ)). Some (get_or ks (get_or list i 0) (0, 0)).1) same;
      below = omega (arith, goes_below (keys_of m) (entity_of m row) (get_or list i 0) goes, ap length same);
    }

pub row_made : (old m m' : Content) (row e i key to : ℕ) → live_of old row ≡ true → e ≡ entity_of old row → i < length (keys_from (keys_of m) e) → key ≡ next_key (keys_of m) e i
    → IsFillingRow old m row (next_key (keys_of m) e i) → IsWhole m' → FillsCell m m' row key to → step_of (keys_of m) (entity_of m row) key ≡ Some to → cell_of m row key ≡ None
    → IsFillingRow old m' row (next_key (keys_of m') e (i + 1))
row_made old m m' row e i key to live is within at_key h whole f step empty =
    let filled = IsFillingRow-fill old m m' row key to live (subst (IsFillingRow old m row) (sym at_key) h) whole f step empty in
    row_next m' row e (kind_kept old m' row e filled.extends live is) old i key (omega (arith, within, ap (λ (keys : List (ℕ × ℕ)). length (keys_from keys e)) f.keys))
    (at_key ∙ ap (λ (keys : List (ℕ × ℕ)). next_key keys e i) (sym f.keys)) filled

-- the entity to which a key leads
pub read_target : (keys : List (ℕ × ℕ)) (n m key : ℕ) → All (λ (k : ℕ × ℕ). (k.0 < n) × (k.1 < n)) keys → m ≡ n → key < length keys → (get_or keys key (0, 0)).1 < m
read_target keys n m key range same h = rw same (All-get_or (λ (k : ℕ × ℕ). (k.0 < n) × (k.1 < n)) keys key (0, 0) h range).1

pub none_if : (o : Option ℕ) (b : Bool) → b ≡ is_some o → b ≡ false → o ≡ None
none_if None b e f = refl
none_if (Some x) b e f = absurd (false≢true (sym f ∙ e))

pub no_cell : (o : Option ℕ) (b : Bool) → is_some o ≡ not b → b ≡ true → IsSome o → ⊥
no_cell o b e f h = false≢true (sym (ap not f) ∙ sym e ∙ h)
