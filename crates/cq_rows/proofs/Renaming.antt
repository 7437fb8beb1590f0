-- What one renaming keeps.
use Rattle.std.proofs.Common.{◌≡◌, ◌≢◌, ℕ, zero, suc, ◌+◌, ◌<◌, ◌≤◌, true, false, List, [], ◌∷◌, ◌++◌, length, Option, Some, None, refl, sym, ◌∙◌, ap, arith, ⊎_elim, inl, inr, map}
use Rattle.std.proofs.lemmas.Bool.{cases_eq, eq-eqb, ne_eqb, false≢true}
use Rattle.std.proofs.lemmas.Option.{none-some, same_Some, slice_get_within}
use Rattle.std.proofs.lemmas.List.Elements.{Contains-append_left, Contains-append_cases, Contains-push_cases}
use Rattle.std.specs.Prelude.{Contains, slice_index}
use Rattle.cq_tables.specs.Content.{Content, made_of, live_of, entity_of, cell_of, step_of, IsWhole, keys_of}
use Rattle.cq_tables.specs.Changes.{Renames, moved, moved_cell, first_of, given_pairs}
use Rattle.cq_rows.specs.Theory.{Term, Theory, reflexive, symmetric, transitive, key, along, Derives}
use Rattle.cq_rows.specs.Rows.{moved_pair, IsSound, IsImage, live_below, live_count}
use Rattle.cq_rows.proofs.Cells.{filled_below, live_made}
use Rattle.cq_rows.proofs.Pairs.{Joined, same, pair, via, Joined-map, Contains-map, IsMoved-contains, IsGiven-contains, given_joins, Joined-append_right}

-- both rows of a pair are live and of one entity
pub record IsPair (m : Content) (a b : ℕ) : Type 0 where
  pub left : live_of m a ≡ true
  pub right : live_of m b ≡ true
  pub kinds : entity_of m a ≡ entity_of m b

abbrev pub ArePairs : Content → List (ℕ × ℕ) → Type 0
ArePairs m pairs = (a b : ℕ) → Contains pairs (a, b) → IsPair m a b

abbrev pub PairsDerive : Theory → (ℕ → Term) → List (ℕ × ℕ) → Type 0
PairsDerive s terms pairs = (a b : ℕ) → Contains pairs (a, b) → Derives s (terms a) (terms b)

pub moved_from : (from to r : ℕ) → r ≡ from → moved from to r ≡ to
moved_from from to r e = rw (eq-eqb r from e) refl

pub moved_other : (from to r : ℕ) → r ≢ from → moved from to r ≡ r
moved_other from to r n = rw (ne_eqb r from n) refl

module _ (m m' : Content) (x y : ℕ) (ren : Renames m m' x y) (w : IsWhole m) (lx : live_of m x ≡ true) (ly : live_of m y ≡ true) (ne : x ≢ y) (kinds : entity_of m x ≡ entity_of m y) where
  pub still_live : (r : ℕ) → r ≢ x → live_of m r ≡ true → live_of m' r ≡ true
  still_live r n l = ren.live r ∙ rw (ne_eqb r x n) l

  pub was_live : (r : ℕ) → live_of m' r ≡ true → (r ≢ x) × (live_of m r ≡ true)
  was_live r l = elim (cases_eq r x) as (λ _. (r ≢ x) × (live_of m r ≡ true)) [
    | inl e ↦ absurd (false≢true (sym (ren.live r ∙ rw (eq-eqb r x e) refl) ∙ l))
    | inr n ↦ (n, sym (ren.live r ∙ rw (ne_eqb r x n) refl) ∙ l)
  ]

  pub moved_live : (r : ℕ) → live_of m r ≡ true → live_of m' (moved x y r) ≡ true
  moved_live r l = elim (cases_eq r x) as (λ _. live_of m' (moved x y r) ≡ true) [
    | inl e ↦ rw (moved_from x y r e) (still_live y (λ q. ne (sym q)) ly)
    | inr n ↦ rw (moved_other x y r n) (still_live r n l)
  ]

  pub moved_kind : (r : ℕ) → entity_of m' (moved x y r) ≡ entity_of m r
  moved_kind r = elim (cases_eq r x) as (λ _. entity_of m' (moved x y r) ≡ entity_of m r) [
    | inl e ↦ rw (moved_from x y r e) (ren.kind y ∙ sym kinds ∙ ap (entity_of m) (sym e))
    | inr n ↦ rw (moved_other x y r n) (ren.kind r)
  ]

  -- a filled cell stays filled, with the row to which its own is joined

  kept_from : (k q : ℕ) (o : Option ℕ) → cell_of m y k ≡ o → cell_of m x k ≡ Some q → (row : ℕ) × (cell_of m' y k ≡ Some row) × Joined (given_pairs m x y (length (keys_of m))) row (moved x y q)
  kept_from k q None co cq = (moved x y q, ren.joined k ∙ rw (co, cq) refl, same)
  kept_from k q (Some s) co cq = (moved x y s, ren.joined k ∙ rw co refl, given_joins m x y (length (keys_of m)) k s q (filled_below m x k q w cq) co cq)

  pub kept : (r k q : ℕ) → cell_of m r k ≡ Some q → (row : ℕ) × (cell_of m' (moved x y r) k ≡ Some row) × Joined (given_pairs m x y (length (keys_of m))) row (moved x y q)
  kept r k q c = elim (cases_eq r x) as (λ _. (row : ℕ) × (cell_of m' (moved x y r) k ≡ Some row) × Joined (given_pairs m x y (length (keys_of m))) row (moved x y q)) [
    | inl e ↦ rw (moved_from x y r e) (kept_from k q (cell_of m y k) refl (rw e at c))
    | inr n ↦ elim (cases_eq r y) as (λ _. (row : ℕ) × (cell_of m' (moved x y r) k ≡ Some row) × Joined (given_pairs m x y (length (keys_of m))) row (moved x y q)) [
      | inl e ↦ rw (moved_other x y r n) (moved x y q, rw e (ren.joined k ∙ rw (rw e at c) refl), same)
      | inr ny ↦ rw (moved_other x y r n) (moved x y q, ren.others r k n ny ∙ rw c refl, same)
    ]
  ]

  -- the pairs that wait
  module _ (rest : List (ℕ × ℕ)) where
    abbrev pub waiting : List (ℕ × ℕ)
    waiting = map (moved_pair x y) rest ++ given_pairs m x y (length (keys_of m))

    held_pair : (k s t : ℕ) → cell_of m y k ≡ Some s → cell_of m x k ≡ Some t → (live_of m s ≡ true) × (live_of m t ≡ true) × (entity_of m s ≡ entity_of m t)
    held_pair k s t cs ct =
        let hs = w.held y k s ly cs in
        let ht = w.held x k t lx ct in
        (hs.live, ht.live, same_Some (entity_of m s) (entity_of m t) (sym hs.step ∙ rw (← kinds) ht.step))

    pair_moved : (a b l r : ℕ) → a ≡ moved x y l → b ≡ moved x y r → live_of m l ≡ true → live_of m r ≡ true → entity_of m l ≡ entity_of m r → IsPair m' a b
    pair_moved a b l r ea eb ll lr k = record { left = rw ea (moved_live l ll); right = rw eb (moved_live r lr); kinds = rw (ea, eb, moved_kind l, moved_kind r) k }

    pub ArePairs-waiting : ArePairs m (rest ++ (x, y) ∷ []) → ArePairs m' waiting
    ArePairs-waiting h a b c =
        ⊎_elim
        (λ p. let i = IsMoved-contains x y rest a b p in
        let o = h i.left i.right (Contains-append_left rest ((x, y) ∷ []) (i.left, i.right) i.found) in
        pair_moved a b i.left i.right i.left_moved i.right_moved o.left o.right o.kinds)
        (λ p. let i = IsGiven-contains m x y (length (keys_of m)) a b p in
        let o = held_pair i.key i.there i.here i.there_cell i.here_cell in
        pair_moved a b i.there i.here i.left_moved i.right_moved o.0 o.1 o.2)
        (Contains-append_cases (map (moved_pair x y) rest) (given_pairs m x y (length (keys_of m))) (a, b) c)

    last_moved : (a b : ℕ) → ◌≡◌ {A = ℕ × ℕ} (x, y) (a, b) → moved x y a ≡ moved x y b
    last_moved a b e =
        let ea = ap (λ (p : ℕ × ℕ). p.0) e in
        let eb = ap (λ (p : ℕ × ℕ). p.1) e in
        moved_from x y a (sym ea) ∙ sym (moved_other x y b (λ q. ne (sym (eb ∙ q))) ∙ sym eb)

    -- what was joined is joined after the renaming
    pub Joined-waiting : {a b : ℕ} → Joined (rest ++ (x, y) ∷ []) a b → Joined waiting (moved x y a) (moved x y b)
    Joined-waiting j = Joined-map (moved x y) (rest ++ (x, y) ∷ []) waiting
        (λ a b c. ⊎_elim
        (λ p. pair (Contains-append_left (map (moved_pair x y) rest) (given_pairs m x y (length (keys_of m))) (moved x y a, moved x y b) (Contains-map (moved_pair x y) rest (a, b) p)))
        (λ e. rw (last_moved a b e) same)
        (Contains-push_cases rest (x, y) (a, b) c))
        j

    pub IsImage-waiting : (old : Content) (rows_old rows rows' : List ℕ) (rep : ℕ → ℕ) → IsImage old m rows_old rows rep (Joined (rest ++ (x, y) ∷ []))
        → ((g : ℕ) → g < length rows → slice_index rows' g ≡ moved x y (slice_index rows g)) → length rows' ≡ length rows
        → IsImage old m' rows_old rows' (λ r. moved x y (rep r)) (Joined waiting)
    IsImage-waiting old rows_old rows rows' rep i hr hl = record {
      keys = ren.keys ∙ i.keys;
      entities = ren.entities ∙ i.entities;
      made = ren.made ∙ i.made;
      live = λ r l. moved_live (rep r) (i.live r l);
      kind = λ r l. moved_kind (rep r) ∙ i.kind r l;
      cell = λ r k q l c.
          let h = i.cell r k q l c in
          let n = kept (rep r) k h.row h.cell in
          record {
            row = n.0;
            cell = n.1;
            joined = via (Joined-append_right (map (moved_pair x y) rest) (given_pairs m x y (length (keys_of m))) n.2) (Joined-waiting h.joined);
          };
      onto = λ r l.
          let b = was_live r l in
          let o = i.onto r b.1 in
          (o.0, ap (moved x y) o.1 ∙ moved_other x y r b.0);
      unmade = λ r h. ap (moved x y) (i.unmade r h) ∙ moved_other x y r (λ e. omega (arith, live_made m x w lx, i.made, e, h));
      rows = λ g h. hr g (rw i.count h) ∙ ap (moved x y) (i.rows g h);
      count = hl ∙ i.count;
    }

  -- soundness
  module _ (s : Theory) (terms : ℕ → Term) (equal : Derives s (terms x) (terms y)) where
    to_moved : (rows : List ℕ) → IsSound s m rows terms → (r : ℕ) → live_of m r ≡ true → Derives s (terms r) (terms (moved x y r))
    to_moved rows h r l = elim (cases_eq r x) as (λ _. Derives s (terms r) (terms (moved x y r))) [
      | inl e ↦ rw (moved_from x y r e, e) equal
      | inr n ↦ rw (moved_other x y r n) (reflexive (entity_of m r) (h.sorts r l) tt)
    ]

    -- the key k at two rows with equal terms
    key_at : (rows : List ℕ) → IsSound s m rows terms → (a b k d : ℕ) → live_of m a ≡ true → Derives s (terms a) (terms b) → step_of (keys_of m) (entity_of m a) k ≡ Some d → Derives s (along (terms a) (k ∷ [])) (along (terms b) (k ∷ []))
    key_at rows h a b k d l e st = key k (entity_of m a) d e (h.sorts a l) (rw (← h.keys) st) tt tt

    sound_moved : (rows : List ℕ) → IsSound s m rows terms → (a r k q : ℕ) (o : Option ℕ) → live_of m a ≡ true → Derives s (terms r) (terms a) → live_of m r ≡ true → entity_of m r ≡ entity_of m a → cell_of m a k ≡ o → moved_cell x y o ≡ Some q → Derives s (along (terms r) (k ∷ [])) (terms q)
    sound_moved rows h a r k q None la e lr en c f = absurd (none-some q f)
    sound_moved rows h a r k q (Some t) la e lr en c f =
        let held = w.held a k t la c in
        transitive (key_at rows h r a k (entity_of m t) lr e (rw en held.step))
        (transitive (h.cells a k t la c) (rw (← same_Some (moved x y t) q f) (to_moved rows h t held.live)))

    sound_joined : (rows : List ℕ) → IsSound s m rows terms → (k q : ℕ) (o p : Option ℕ) → cell_of m y k ≡ o → cell_of m x k ≡ p → first_of (moved_cell x y o) (moved_cell x y p) ≡ Some q → Derives s (along (terms y) (k ∷ [])) (terms q)
    sound_joined rows h k q None p co cp f = sound_moved rows h x y k q p lx (symmetric equal) ly (sym kinds) cp f
    sound_joined rows h k q (Some t) p co cp f = sound_moved rows h y y k q (Some t) ly (reflexive (entity_of m y) (h.sorts y ly) tt) ly refl co f

    pub IsSound-renamed : (rows rows' : List ℕ) → IsSound s m rows terms
        → ((g : ℕ) → g < length rows → slice_index rows' g ≡ moved x y (slice_index rows g)) → length s.generators ≡ length rows
        → IsSound s m' rows' terms
    IsSound-renamed rows rows' h hr hl = record {
      keys = ren.keys ∙ h.keys;
      entities = ren.entities ∙ h.entities;
      sorts = λ r l. let b = was_live r l in h.sorts r b.1 ∙ ap (λ e. Some e) (sym (ren.kind r));
      cells = λ r k q l c.
          let b = was_live r l in
          elim (cases_eq r y) as (λ _. Derives s (along (terms r) (k ∷ [])) (terms q)) [
            | inl e ↦ rw e (sound_joined rows h k q (cell_of m y k) (cell_of m x k) refl refl (sym (ren.joined k) ∙ (rw e at c)))
            | inr n ↦ sound_moved rows h r r k q (cell_of m r k) b.1 (reflexive (entity_of m r) (h.sorts r b.1) tt) b.1 refl refl (sym (ren.others r k b.0 n) ∙ c)
          ];
      generators = λ g e f.
          let o = h.generators g e f in
          let at = hr g (rw (← hl) (slice_get_within s.generators g (Some e) f)) in
          record {
            live = rw at (moved_live (slice_index rows g) o.live);
            kind = rw at (moved_kind (slice_index rows g) ∙ o.kind);
            equal = rw at (transitive o.equal (to_moved rows h (slice_index rows g) o.live));
          };
    }

    derive_moved : (rows : List ℕ) → IsSound s m rows terms → (a b l r : ℕ) → a ≡ moved x y l → b ≡ moved x y r → live_of m l ≡ true → live_of m r ≡ true → Derives s (terms l) (terms r) → Derives s (terms a) (terms b)
    derive_moved rows h a b l r ea eb ll lr d = rw (ea, eb) (transitive (symmetric (to_moved rows h l ll)) (transitive d (to_moved rows h r lr)))

    pub PairsDerive-waiting : (rows : List ℕ) (rest : List (ℕ × ℕ)) → IsSound s m rows terms → ArePairs m rest → PairsDerive s terms rest → PairsDerive s terms (map (moved_pair x y) rest ++ given_pairs m x y (length (keys_of m)))
    PairsDerive-waiting rows rest h ok d a b c =
        ⊎_elim
        (λ p. let i = IsMoved-contains x y rest a b p in
        let o = ok i.left i.right i.found in
        derive_moved rows h a b i.left i.right i.left_moved i.right_moved o.left o.right (d i.left i.right i.found))
        (λ p. let i = IsGiven-contains m x y (length (keys_of m)) a b p in
        let hs = w.held y i.key i.there ly i.there_cell in
        let ht = w.held x i.key i.here lx i.here_cell in
        let eq = key_at rows h y x i.key (entity_of m i.there) ly (symmetric equal) hs.step in
        derive_moved rows h a b i.there i.here i.left_moved i.right_moved hs.live ht.live
        (transitive (symmetric (h.cells y i.key i.there ly i.there_cell)) (transitive eq (h.cells x i.key i.here lx i.here_cell))))
        (Contains-append_cases (map (moved_pair x y) rest) (given_pairs m x y (length (keys_of m))) (a, b) c)

-- one live row less
same_below : (m m' : Content) (from n : ℕ) → ((r : ℕ) → r ≢ from → live_of m' r ≡ live_of m r) → n ≤ from → live_below m' n ≡ live_below m n
same_below m m' from zero h l = refl
same_below m m' from (suc n) h l = rw (same_below m m' from n h (omega arith), h n (omega arith)) refl

pub one_less : (m m' : Content) (from n : ℕ) → ((r : ℕ) → r ≢ from → live_of m' r ≡ live_of m r) → live_of m from ≡ true → live_of m' from ≡ false → from < n → live_below m n ≡ live_below m' n + 1
one_less m m' from zero h lt lf l = absurd (omega arith)
one_less m m' from (suc n) h lt lf l = elim (cases_eq n from) as (λ _. live_below m (suc n) ≡ live_below m' (suc n) + 1) [
  | inl e ↦ rw (e, lt, lf, same_below m m' from from h (omega arith)) (omega arith)
  | inr ne ↦ rw (h n ne) (omega (arith, one_less m m' from n h lt lf (omega arith)))
]

pub live_count-renamed : (m m' : Content) (x y : ℕ) → Renames m m' x y → IsWhole m → live_of m x ≡ true → live_count m ≡ live_count m' + 1
live_count-renamed m m' x y ren w lx =
    rw ren.made (one_less m m' x (made_of m) (λ r n. ren.live r ∙ rw (ne_eqb r x n) refl) lx (ren.live x ∙ rw (eq-eqb x x refl) refl) (live_made m x w lx))
