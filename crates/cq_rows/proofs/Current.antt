-- The row that each row is now.
use Rattle.std.proofs.Common.{◌≡◌, ◌≢◌, ℕ, ◌+◌, ◌<◌, ◌≤◌, true, List, [], ◌∷◌, ◌++◌, length, get_or, map, refl, sym, ◌∙◌, ap, arith, inl, inr, length-append}
use Rattle.std.proofs.lemmas.Bool.{cases_lt}
use Rattle.std.proofs.lemmas.List.{get_or-map, length-map, get_or_default, get_or_past, map-append, ext_get_or, get_or_append_left, get_or_push}
use Rattle.std.proofs.lemmas.List.Elements.{Contains-append_right}
use Rattle.std.specs.Prelude.{Contains, slice_index}
use Rattle.cq_tables.specs.Content.{Content, made_of, live_of, entity_of, IsWhole}
use Rattle.cq_tables.specs.Changes.{Renames, moved}
use Rattle.cq_rows.specs.declared.entries.Entries.{Entries}
use Rattle.cq_rows.specs.Entries.{row_now, rows_of, pair_now, pairs_now, IsCurrent, IsBehind}
use Rattle.cq_rows.specs.Rows.{moved_pair, Extends}
use Rattle.cq_rows.proofs.Renaming.{moved_other, was_live}

pub row_now-past : (now : List ℕ) (r : ℕ) → length now ≤ r → row_now now r ≡ r
unfolding row_now
row_now-past now r h = get_or_past now r r h

pub row_now-listed : (now : List ℕ) (r : ℕ) → r < length now → row_now now r ≡ get_or now r 0
unfolding row_now
row_now-listed now r h = get_or_default now r r 0 h

-- a row after one more renaming
pub row_now-moved : (now : List ℕ) (from to : ℕ) → from < length now → (r : ℕ) → row_now (map (moved from to) now) r ≡ moved from to (row_now now r)
row_now-moved now from to h r = elim (cases_lt r (length now)) as (λ _. row_now (map (moved from to) now) r ≡ moved from to (row_now now r)) [
  | inl l ↦ row_now-listed (map (moved from to) now) r (rw length-map l) ∙ get_or-map (moved from to) now r 0 0 l ∙ ap (moved from to) (sym (row_now-listed now r l))
  | inr g ↦ row_now-past (map (moved from to) now) r (rw length-map g) ∙ sym (ap (moved from to) (row_now-past now r g) ∙ moved_other from to r (λ e. omega (arith, e, h, g)))
]

-- one more row, which stands for itself
pub row_now-pushed : (now : List ℕ) (r : ℕ) → row_now (now ++ length now ∷ []) r ≡ row_now now r
row_now-pushed now r = elim (cases_lt r (length now)) as (λ _. row_now (now ++ length now ∷ []) r ≡ row_now now r) [
  | inl l ↦ row_now-listed (now ++ length now ∷ []) r (omega (arith, l, length-append now (length now ∷ []))) ∙ get_or_append_left now (length now ∷ []) 0 r l ∙ sym (row_now-listed now r l)
  | inr g ↦ elim (cases_lt r (length now + 1)) as (λ _. row_now (now ++ length now ∷ []) r ≡ row_now now r) [
    | inl l ↦
        let e : length now ≡ r = omega (arith, l, g) in
        row_now-listed (now ++ length now ∷ []) r (omega (arith, l, length-append now (length now ∷ []))) ∙ get_or_push now (length now) 0 r e ∙ e ∙ sym (row_now-past now r g)
    | inr p ↦ row_now-past (now ++ length now ∷ []) r (omega (arith, p, length-append now (length now ∷ []))) ∙ sym (row_now-past now r g)
  ]
]

-- pairs after one more renaming
pub pairs_now-moved : (now : List ℕ) (from to : ℕ) → from < length now → (pairs : List (ℕ × ℕ)) → pairs_now (map (moved from to) now) pairs ≡ map (moved_pair from to) (pairs_now now pairs)
pairs_now-moved now from to h [] = refl
pairs_now-moved now from to h (p ∷ ps) = rw (row_now-moved now from to h p.0, row_now-moved now from to h p.1, pairs_now-moved now from to h ps) refl

pub pairs_now-append : (now : List ℕ) (ps qs : List (ℕ × ℕ)) → pairs_now now (ps ++ qs) ≡ pairs_now now ps ++ pairs_now now qs
pairs_now-append now ps qs = map-append (pair_now now) ps qs

-- rows that stand for themselves
pub pairs_now-live : (now : List ℕ) (pairs : List (ℕ × ℕ)) → ((a b : ℕ) → Contains pairs (a, b) → (row_now now a ≡ a) × (row_now now b ≡ b)) → pairs_now now pairs ≡ pairs
pairs_now-live now [] h = refl
pairs_now-live now ((a, b) ∷ ps) h =
    let o = h a b (0, omega arith, refl) in
    rw (o.0, o.1, pairs_now-live now ps (λ c d f. h c d (Contains-append_right ((a, b) ∷ []) ps (c, d) f))) refl

-- the rows of generators

pub length-rows_of : (e : Entries) → length (rows_of e) ≡ length e.first.items
unfolding rows_of
length-rows_of e = length-map e.first.items (row_now e.renamings)

pub rows_of-is : (e : Entries) → rows_of e ≡ map (row_now e.renamings) e.first.items
unfolding rows_of
rows_of-is e = refl

pub rows_of-at : (e : Entries) (g : ℕ) → g < length e.first.items → slice_index (rows_of e) g ≡ row_now e.renamings (slice_index e.first.items g)
unfolding rows_of
rows_of-at e g h = get_or-map (row_now e.renamings) e.first.items g 0 0 h

pub rows_of-none : (e : Entries) → e.renamings ≡ [] → rows_of e ≡ e.first.items
unfolding rows_of
rows_of-none e h = ext_get_or 0 (rows_of e) e.first.items (length-rows_of e)
    (λ g l. let k : g < length e.first.items = omega (arith, l, length-rows_of e) in
    rows_of-at e g k ∙ ap (λ n. row_now n (slice_index e.first.items g)) h ∙ row_now-past [] (slice_index e.first.items g) (omega arith))

pub rows_of-same : (e f : Entries) → f.first ≡ e.first → ((r : ℕ) → row_now f.renamings r ≡ row_now e.renamings r) → rows_of f ≡ rows_of e
unfolding rows_of
rows_of-same e f h same =
    let items : f.first.items ≡ e.first.items = ap (λ v. v.items) h in
    ext_get_or 0 (rows_of f) (rows_of e) (length-rows_of f ∙ ap length items ∙ sym (length-rows_of e))
    (λ g l. let k : g < length f.first.items = omega (arith, l, length-rows_of f) in
    rows_of-at f g k ∙ same (slice_index f.first.items g) ∙ ap (λ xs. row_now e.renamings (slice_index xs g)) items ∙ sym (rows_of-at e g (rw (← items) k)))

module _ (e f : Entries) (from to : ℕ) (first : f.first ≡ e.first) (renamed : f.renamings ≡ map (moved from to) e.renamings) (listed : from < length e.renamings) where
  row_now-renamed : (r : ℕ) → row_now f.renamings r ≡ moved from to (row_now e.renamings r)
  row_now-renamed r = rw renamed (row_now-moved e.renamings from to listed r)

  pub rows_of-moved : (g : ℕ) → g < length (rows_of e) → slice_index (rows_of f) g ≡ moved from to (slice_index (rows_of e) g)
  rows_of-moved g l =
      let k : g < length e.first.items = omega (arith, l, length-rows_of e) in
      let items : f.first.items ≡ e.first.items = ap (λ v. v.items) first in
      rows_of-at f g (rw items k) ∙ ap (λ xs. row_now f.renamings (slice_index xs g)) items ∙ row_now-renamed (slice_index e.first.items g) ∙ ap (moved from to) (sym (rows_of-at e g k))

  pub rows_of-count : length (rows_of f) ≡ length (rows_of e)
  rows_of-count = length-rows_of f ∙ ap (λ v. length v.items) first ∙ sym (length-rows_of e)

  pub IsCurrent-renamed : (m m' : Content) → Renames m m' from to → IsWhole m → live_of m from ≡ true → live_of m to ≡ true → from ≢ to → entity_of m from ≡ entity_of m to → IsCurrent m e → IsCurrent m' f
  IsCurrent-renamed m m' ren w lf lt ne kinds c = record {
    count = ap length renamed ∙ length-map e.renamings (moved from to) ∙ c.count ∙ sym ren.made;
    live = λ r l. let b = was_live m m' from to ren w lf lt ne kinds r l in row_now-renamed r ∙ ap (moved from to) (c.live r b.1) ∙ moved_other from to r b.0;
  }

-- rows that were added are behind
pub IsBehind-start : (m : Content) (e : Entries) → e.renamings ≡ [] → IsBehind m e
IsBehind-start m e h = record { count = rw h (omega arith); live = λ r l. rw h (row_now-past [] r (omega arith)) }

pub IsBehind-extended : (old m : Content) (e : Entries) → Extends old m → IsCurrent old e → IsBehind m e
IsBehind-extended old m e x c = record {
  count = omega (arith, c.count, x.made);
  live = λ r l. elim (cases_lt r (made_of old)) as (λ _. row_now e.renamings r ≡ r) [
    | inl h ↦ c.live r (x.fresh r h l)
    | inr g ↦ row_now-past e.renamings r (omega (arith, g, c.count))
  ];
}

pub IsCurrent-covered : (m : Content) (e f : Entries) → length f.renamings ≡ made_of m → ((r : ℕ) → row_now f.renamings r ≡ row_now e.renamings r) → IsBehind m e → IsCurrent m f
IsCurrent-covered m e f n same b = record { count = n; live = λ r l. same r ∙ b.live r l }
