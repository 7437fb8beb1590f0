-- One row for each generator of an entity.
use Rattle.std.proofs.Common.{◌≡◌, ◌≢◌, ℕ, ◌+◌, ◌<◌, true, List, [], ◌∷◌, ◌++◌, length, get_or, Some, None, cond, eqb, refl, sym, ◌∙◌, ap, subst, arith, map, ⊎_elim, length-append}
use Rattle.std.proofs.lemmas.Bool.{cases_eq, eq-eqb, ne_eqb}
use Rattle.std.proofs.lemmas.List.{get_or_append_left, get_or_push}
use Rattle.std.proofs.lemmas.Option.{same_Some, none-some}
use Rattle.std.specs.Prelude.{slice_get, slice_index}
use Rattle.cq_tables.specs.Content.{Content, keys_of, entities_of, made_of, live_of, entity_of, cell_of, IsWhole}
use Rattle.cq_tables.specs.Changes.{AddsRow}
use Rattle.cq_base.specs.declared.name.Name.{Name}
use Rattle.cq_theory.specs.declared.presentation.Sort.{Sort}
use Rattle.cq_theory.specs.declared.presentation.Sort.TheVariants.{Plain, Entity}
use Rattle.cq_rows.specs.Plain.{generator_entity, entity_in}
use Rattle.cq_rows.specs.Theory.{Theory}
use Rattle.cq_rows.specs.Rows.{no_row, HasRows, IsOwner}
use Rattle.cq_rows.proofs.Cells.{live_made, below_or_at, read_mapped}

pub HasRows-none : (s : Theory) (m : Content) (rows : List ℕ) → IsWhole m → keys_of m ≡ s.keys → entities_of m ≡ s.entities → made_of m ≡ 0 → rows ≡ [] → HasRows s m rows 0
HasRows-none s m rows w k e n r = record {
  whole = w;
  keys = k;
  entities = e;
  count = ap length r;
  cell = λ q k l. absurd (omega (arith, live_made m q w l, n));
  rowless = λ g h f. absurd (omega arith);
  owned = (
    λ q. q,
    record {
      below = λ q l. absurd (omega (arith, live_made m q w l, n));
      kind = λ q l. absurd (omega (arith, live_made m q w l, n));
      row = λ q l. absurd (omega (arith, live_made m q w l, n));
      live = λ g d h f. absurd (omega arith);
      entity = λ g d h f. absurd (omega arith);
      own = λ g d h f. absurd (omega arith);
    },
  );
}

-- a generator of a type has no row
module _ (s : Theory) (m : Content) (rows : List ℕ) (n x : ℕ) (h : HasRows s m rows n) (found : slice_get s.generators n ≡ Some None) where
  kept_row : (g : ℕ) → g < n → slice_index (rows ++ x ∷ []) g ≡ slice_index rows g
  kept_row g l = get_or_append_left rows (x ∷ []) 0 g (omega (arith, h.count))

  earlier : (g e : ℕ) → g < n + 1 → slice_get s.generators g ≡ Some (Some e) → g < n
  earlier g e b f = ⊎_elim (λ l. l) (λ q. absurd (none-some e (same_Some None (Some e) (sym found ∙ (rw q at f))))) (below_or_at g n b)

  pub HasRows-other : x ≡ no_row → HasRows s m (rows ++ x ∷ []) (n + 1)
  HasRows-other last =
      let owner = h.owned.0 in
      let o = h.owned.1 in
      record {
        whole = h.whole;
        keys = h.keys;
        entities = h.entities;
        count = length-append rows (x ∷ []) ∙ ap (λ y. y + 1) h.count;
        cell = h.cell;
        rowless = λ g b f. ⊎_elim (λ l. kept_row g l ∙ h.rowless g l f) (λ q. get_or_push rows x 0 g (h.count ∙ sym q) ∙ last) (below_or_at g n b);
        owned = (
          owner,
          record {
            below = λ r l. omega (arith, o.below r l);
            kind = o.kind;
            row = λ r l. kept_row (owner r) (o.below r l) ∙ o.row r l;
            live = λ g e b f. let l = earlier g e b f in rw (kept_row g l) (o.live g e l f);
            entity = λ g e b f. let l = earlier g e b f in rw (kept_row g l) (o.entity g e l f);
            own = λ g e b f. let l = earlier g e b f in rw (kept_row g l) (o.own g e l f);
          },
        );
      }

-- a generator of an entity has a new row
module _ (s : Theory) (m m' : Content) (rows : List ℕ) (n e row : ℕ) (h : HasRows s m rows n) (a : AddsRow m m' e row) (w' : IsWhole m') (found : slice_get s.generators n ≡ Some (Some e)) where
  live_at : (r : ℕ) → r ≢ row → live_of m' r ≡ live_of m r
  live_at r ne = a.live r ∙ rw (ne_eqb r row ne) refl

  live_last : (r : ℕ) → r ≡ row → live_of m' r ≡ true
  live_last r q = a.live r ∙ rw (eq-eqb r row q) refl

  kind_at : (r : ℕ) → r ≢ row → entity_of m' r ≡ entity_of m r
  kind_at r ne = a.kind r ∙ rw (ne_eqb r row ne) refl

  kind_last : (r : ℕ) → r ≡ row → entity_of m' r ≡ e
  kind_last r q = a.kind r ∙ rw (eq-eqb r row q) refl

  not_new : (r : ℕ) → live_of m r ≡ true → r ≢ row
  not_new r l q = omega (arith, live_made m r h.whole l, a.number, q)

  row_before : (g : ℕ) → g < n → slice_index (rows ++ row ∷ []) g ≡ slice_index rows g
  row_before g l = get_or_append_left rows (row ∷ []) 0 g (omega (arith, h.count))

  row_last : (g : ℕ) → g ≡ n → slice_index (rows ++ row ∷ []) g ≡ row
  row_last g q = get_or_push rows row 0 g (h.count ∙ sym q)

  old_owner : ℕ → ℕ
  old_owner = h.owned.0

  old_owns : IsOwner s m rows n old_owner
  unfolding old_owner
  old_owns = h.owned.1

  owner : ℕ → ℕ
  owner r = cond (eqb r row) n (old_owner r)

  owner_at : (r : ℕ) → r ≢ row → owner r ≡ old_owner r
  unfolding owner
  owner_at r ne = rw (ne_eqb r row ne) refl

  owner_last : (r : ℕ) → r ≡ row → owner r ≡ n
  unfolding owner
  owner_last r q = rw (eq-eqb r row q) refl

  owner_below : (r : ℕ) → live_of m' r ≡ true → owner r < n + 1
  owner_below r l = ⊎_elim
      (λ q. omega (arith, owner_last r q))
      (λ ne. omega (arith, owner_at r ne, old_owns.below r (sym (live_at r ne) ∙ l)))
      (cases_eq r row)

  owner_kind : (r : ℕ) → live_of m' r ≡ true → slice_get s.generators (owner r) ≡ Some (Some (entity_of m' r))
  owner_kind r l = ⊎_elim
      (λ q. rw (owner_last r q, kind_last r q) found)
      (λ ne. rw (owner_at r ne, kind_at r ne) (old_owns.kind r (sym (live_at r ne) ∙ l)))
      (cases_eq r row)

  owner_row : (r : ℕ) → live_of m' r ≡ true → slice_index (rows ++ row ∷ []) (owner r) ≡ r
  owner_row r l = ⊎_elim
      (λ q. row_last (owner r) (owner_last r q) ∙ sym q)
      (λ ne. ap (slice_index (rows ++ row ∷ [])) (owner_at r ne) ∙ row_before (old_owner r) (old_owns.below r (sym (live_at r ne) ∙ l)) ∙ old_owns.row r (sym (live_at r ne) ∙ l))
      (cases_eq r row)

  row_live : (g d : ℕ) → g < n + 1 → slice_get s.generators g ≡ Some (Some d) → live_of m' (slice_index (rows ++ row ∷ []) g) ≡ true
  row_live g d b f = ⊎_elim
      (λ l. let old = old_owns.live g d l f in rw (row_before g l) (live_at (slice_index rows g) (not_new (slice_index rows g) old) ∙ old))
      (λ q. rw (row_last g q) (live_last row refl))
      (below_or_at g n b)

  row_kind : (g d : ℕ) → g < n + 1 → slice_get s.generators g ≡ Some (Some d) → entity_of m' (slice_index (rows ++ row ∷ []) g) ≡ d
  row_kind g d b f = ⊎_elim
      (λ l. let old = old_owns.live g d l f in rw (row_before g l) (kind_at (slice_index rows g) (not_new (slice_index rows g) old) ∙ old_owns.entity g d l f))
      (λ q. rw (row_last g q) (kind_last row refl ∙ same_Some e d (same_Some (Some e) (Some d) (sym found ∙ (rw q at f)))))
      (below_or_at g n b)

  row_own : (g d : ℕ) → g < n + 1 → slice_get s.generators g ≡ Some (Some d) → owner (slice_index (rows ++ row ∷ []) g) ≡ g
  row_own g d b f = ⊎_elim
      (λ l. let old = old_owns.live g d l f in rw (row_before g l) (owner_at (slice_index rows g) (not_new (slice_index rows g) old) ∙ old_owns.own g d l f))
      (λ q. rw (row_last g q) (owner_last row refl ∙ sym q))
      (below_or_at g n b)

  empty_under : (r k : ℕ) → live_of m' r ≡ true → cell_of m' r k ≡ None
  empty_under r k l = ⊎_elim
      (λ q. a.cell r k ∙ rw (eq-eqb r row q) refl)
      (λ ne. a.cell r k ∙ rw (ne_eqb r row ne) (h.cell r k (sym (live_at r ne) ∙ l)))
      (cases_eq r row)

  pub HasRows-more : HasRows s m' (rows ++ row ∷ []) (n + 1)
  HasRows-more = record {
    whole = w';
    keys = a.keys ∙ h.keys;
    entities = a.entities ∙ h.entities;
    count = length-append rows (row ∷ []) ∙ ap (λ x. x + 1) h.count;
    cell = empty_under;
    rowless = λ g b f. ⊎_elim (λ l. row_before g l ∙ h.rowless g l f) (λ q. absurd (none-some e (same_Some None (Some e) (sym (rw q at f) ∙ found)))) (below_or_at g n b);
    owned = (owner, record { below = owner_below; kind = owner_kind; row = owner_row; live = row_live; entity = row_kind; own = row_own });
  }

-- the sort of a generator, as a loop reads it
pub found_entity : (xs : List (Name × Sort)) (ys : List (Name × Sort)) (i e : ℕ) (x : Name × Sort) → xs ≡ ys → i < length xs → x ≡ get_or xs i x → x.1 ≡ Entity e → slice_get (map generator_entity ys) i ≡ Some (Some e)
found_entity xs ys i e x same l is sort = rw (← same) (read_mapped generator_entity xs i x l is ∙ ap (λ y. Some (entity_in y)) sort)

no_entity : (y : Sort) → ((e : ℕ) → y ≡ Entity e → ⊥) → entity_in y ≡ None
no_entity (Plain n) h = refl
no_entity (Entity n) h = absurd (h n refl)

pub found_type : (xs : List (Name × Sort)) (ys : List (Name × Sort)) (i : ℕ) (x : Name × Sort) → xs ≡ ys → i < length xs → x ≡ get_or xs i x → ((e : ℕ) → x.1 ≡ Entity e → ⊥) → slice_get (map generator_entity ys) i ≡ Some None
found_type xs ys i x same l is other = rw (← same) (read_mapped generator_entity xs i x l is ∙ ap (λ y. Some y) (no_entity x.1 other))

-- all generators have been read
pub HasRows-all : (s : Theory) (m : Content) (rows : List ℕ) (n : ℕ) → HasRows s m rows n → n ≡ length s.generators → HasRows s m rows (length s.generators)
HasRows-all s m rows n h q = subst (λ (k : ℕ). HasRows s m rows k) q h
