-- A cell is filled.
use Rattle.std.proofs.Common.{◌≡◌, ℕ, ◌<◌, Bool, true, List, length, get_or, Option, Some, None, IsSome, refl, sym, ◌∙◌, ⊎_elim, inl, inr, arith}
use Rattle.std.proofs.Math.ListN.{set}
use Rattle.std.proofs.lemmas.List.{length-set, get_or-set_same, get_or-set_other}
use Rattle.std.proofs.lemmas.Bool.{cases_lt, cases_eq, cases_Bool}
use Rattle.std.proofs.lemmas.Option.{same_Some}
use Rattle.std.specs.Option.{is_some}
use Rattle.cq_tables.specs.Content.{Content, entities_of, keys_of, made_of, live_of, entity_of, cell_of, step_of, IsHeld, IsWhole}
use Rattle.cq_tables.specs.Changes.{SetsCell}
use Rattle.cq_tables.specs.Places.{place_of}
use Rattle.cq_tables.specs.Tables.{content, IsLaid}
use Rattle.cq_tables.proofs.Placing.{place_in, place_same}
use Rattle.cq_tables.proofs.Stored.{cell_at, cell_not, cell_unmade}

module _ (e : ℕ) (keys : List (ℕ × ℕ)) (kinds : List ℕ) (alive : List Bool) (starts : List ℕ) (cells : List (Option ℕ)) (counts : List ℕ)
    (laid : IsLaid keys kinds alive starts cells counts) (w : IsWhole (content e keys kinds alive cells)) (row key to : ℕ)
    (lr : live_of (content e keys kinds alive cells) row ≡ true) (lt : live_of (content e keys kinds alive cells) to ≡ true)
    (st : step_of keys (get_or kinds row 0) key ≡ Some (get_or kinds to 0)) where
  abbrev after : List (Option ℕ)
  after = set cells (place_of keys kinds row key) (Some to)

  abbrev old : Content
  old = content e keys kinds alive cells

  abbrev new : Content
  new = content e keys kinds alive after

  row_made : row < length kinds
  unfolding made_of
  row_made = w.made row lr

  goes : IsSome (step_of keys (get_or kinds row 0) key)
  goes = rw st refl

  there : cell_of new row key ≡ Some to
  there = cell_at e keys kinds alive after row key row_made goes
      ∙ get_or-set_same cells (place_of keys kinds row key) (Some to) None (omega (arith, laid.all, place_in keys kinds row key (length kinds) row_made goes))

  others : (r k : ℕ) → (r ≡ row → k ≡ key → ⊥) → cell_of new r k ≡ cell_of old r k
  others r k n = ⊎_elim
      (λ l. ⊎_elim
      (λ g. cell_at e keys kinds alive after r k l g
      ∙ get_or-set_other cells (place_of keys kinds row key) (place_of keys kinds r k) (Some to) None
      (λ q. let p = place_same keys kinds r k row key g goes q in n p.0 p.1)
      ∙ sym (cell_at e keys kinds alive cells r k l g))
      (λ g. cell_not e keys kinds alive after r k g ∙ sym (cell_not e keys kinds alive cells r k g))
      (cases_Bool (is_some (step_of keys (get_or kinds r 0) k))))
      (λ g. cell_unmade e keys kinds alive after r k g ∙ sym (cell_unmade e keys kinds alive cells r k g))
      (cases_lt r (length kinds))

  pub sets : SetsCell old new row key to
  unfolding made_of live_of entity_of keys_of entities_of
  sets = record {
    keys = refl;
    entities = refl;
    made = refl;
    live = λ r. refl;
    kind = λ r. refl;
    there = there;
    others = others;
  }

  same_live : (r : ℕ) → live_of new r ≡ live_of old r
  unfolding live_of
  same_live r = refl

  same_kind : (r : ℕ) → entity_of new r ≡ entity_of old r
  unfolding entity_of
  same_kind r = refl

  held_at : (r k s : ℕ) → IsHeld old r k s → IsHeld new r k s
  unfolding keys_of
  held_at r k s h = record { live = same_live s ∙ h.live; step = rw (same_kind r, same_kind s) h.step }

  held_there : IsHeld old row key to
  unfolding keys_of entity_of
  held_there = record { live = lt; step = st }

  pub whole : IsWhole new
  unfolding made_of entities_of
  whole = record {
    made = λ r l. w.made r (sym (same_live r) ∙ l);
    kind = λ r l. rw (same_kind r) (w.kind r l);
    filled = λ r k s h. elim (cases_eq r row) as (λ _. live_of new r ≡ true) [
      | inl p ↦ rw p (same_live row ∙ lr)
      | inr n ↦ same_live r ∙ w.filled r k s (sym (others r k (λ x _. n x)) ∙ h)
    ];
    held = λ r k s l h.
        let before : live_of old r ≡ true = sym (same_live r) ∙ l in
        elim (cases_eq r row) as (λ _. IsHeld new r k s) [
          | inl p ↦ elim (cases_eq k key) as (λ _. IsHeld new r k s) [
            | inl q ↦
                let is : Some to ≡ Some s = sym there ∙ (rw (p, q) at h) in
                rw (p, q, ← same_Some to s is) (held_at row key to held_there)
            | inr n ↦ held_at r k s (w.held r k s before (sym (others r k (λ _ y. n y)) ∙ h))
          ]
          | inr n ↦ held_at r k s (w.held r k s before (sym (others r k (λ x _. n x)) ∙ h))
        ];
  }

-- what holds after the cell is filled
pub record IsSet (old new : Content) (keys : List (ℕ × ℕ)) (kinds : List ℕ) (alive : List Bool) (starts : List ℕ) (cells : List (Option ℕ)) (counts : List ℕ) (row key to : ℕ) : Type 0 where
  pub sets : SetsCell old new row key to
  pub whole : IsWhole new
  pub laid : IsLaid keys kinds alive starts cells counts

pub set_as : (e : ℕ) (keys : List (ℕ × ℕ)) (kinds : List ℕ) (alive : List Bool) (starts : List ℕ) (cells cells' : List (Option ℕ)) (counts counts' : List ℕ) (row key to place : ℕ)
    → IsLaid keys kinds alive starts cells counts → IsWhole (content e keys kinds alive cells)
    → live_of (content e keys kinds alive cells) row ≡ true → live_of (content e keys kinds alive cells) to ≡ true
    → step_of (keys_of (content e keys kinds alive cells)) (entity_of (content e keys kinds alive cells) row) key ≡ Some (entity_of (content e keys kinds alive cells) to)
    → place ≡ place_of keys kinds row key → cells' ≡ set cells place (Some to) → length counts' ≡ length counts
    → IsSet (content e keys kinds alive cells) (content e keys kinds alive cells') keys kinds alive starts cells' counts' row key to
unfolding keys_of entity_of
set_as e keys kinds alive starts cells cells' counts counts' row key to place laid w lr lt st ep ec en =
    rw (ec, ep) (record {
      sets = sets e keys kinds alive starts cells counts laid w row key to lr lt st;
      whole = whole e keys kinds alive starts cells counts laid w row key to lr lt st;
      laid = record {
        one_flag = laid.one_flag;
        one_start = laid.one_start;
        one_count = en ∙ laid.one_count;
        all = length-set cells (place_of keys kinds row key) (Some to) ∙ laid.all;
        begins = laid.begins;
        fits = rw (length-set cells (place_of keys kinds row key) (Some to)) laid.fits;
      };
    })
