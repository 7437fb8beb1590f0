-- The loop that merges two rows and the pairs that follow.
use Rattle.std.proofs.Common.{◌≡◌, ◌≢◌, ℕ, zero, suc, ◌+◌, ◌*◌, ◌<◌, ◌≤◌, true, List, [], ◌∷◌, ◌++◌, length, Option, Some, None, refl, sym, ◌∙◌, ap, arith, ⊎_elim, ◌⊎◌, inl, inr, map, length-append}
use Rattle.std.proofs.lemmas.Bool.{cases_eq, eq-eqb, ne_eqb}
use Rattle.std.proofs.lemmas.List.Elements.{Contains-append_left, Contains-push_cases, Contains-push}
use Rattle.std.specs.Prelude.{Contains, slice_index}
use Rattle.cq_tables.specs.Content.{Content, made_of, live_of, entity_of, cell_of, IsWhole, keys_of}
use Rattle.cq_tables.specs.Changes.{Renames, moved, given_pairs, moved_cell, pair_of}
use Rattle.cq_rows.specs.Theory.{Term, Theory, Derives, symmetric}
use Rattle.cq_rows.specs.Rows.{moved_pair, IsSound, IsImage, IsSame, live_count}
use Rattle.cq_rows.specs.declared.entries.Entries.{Entries}
use Rattle.cq_rows.specs.Entries.{row_now, rows_of, pairs_now, IsCurrent}
use Rattle.cq_rows.proofs.Cells.{live_made}
use Rattle.cq_rows.proofs.Current.{pairs_now-append, pairs_now-live, pairs_now-moved, rows_of-moved, rows_of-count, IsCurrent-renamed}
use Rattle.cq_rows.proofs.Pairs.{Joined, same, pair, back, Joined-map, Joined-none, contains_none}
use Rattle.cq_rows.proofs.Renaming.{IsPair, ArePairs, PairsDerive, IsImage-waiting, ArePairs-waiting, IsSound-renamed, PairsDerive-waiting, live_count-renamed}

-- some pair is of two rows
pub record IsApartIn (pairs : List (ℕ × ℕ)) : Type 0 where
  pub left : ℕ
  pub right : ℕ
  pub found : Contains pairs (left, right)
  pub differ : left ≢ right

pub record IsMerging (old m : Content) (rows_old rows : List ℕ) (pending : List (ℕ × ℕ)) (a b : ℕ) : Type 0 where
  pub whole : IsWhole m
  pub pairs : ArePairs m pending
  pub image : (rep : ℕ → ℕ) × IsImage old m rows_old rows rep (Joined pending)
  pub sound : (s : Theory) (terms : ℕ → Term) → IsSound s old rows_old terms → length s.generators ≡ length rows_old → Derives s (terms a) (terms b) → IsSound s m rows terms × PairsDerive s terms pending
  pub fewer : ((live_count m ≡ live_count old) × IsApartIn pending) ⊎ (live_count m < live_count old)

only_pair : (x y a b : ℕ) → Contains {X = ℕ × ℕ} ((x, y) ∷ []) (a, b) → (a ≡ x) × (b ≡ y)
only_pair x y a b c = ⊎_elim (λ h. absurd (contains_none (a, b) h)) (λ (e : ◌≡◌ {A = ℕ × ℕ} (x, y) (a, b)). (sym (ap (λ (p : ℕ × ℕ). p.0) e), sym (ap (λ (p : ℕ × ℕ). p.1) e))) (Contains-push_cases [] (x, y) (a, b) c)

-- rows renamed to themselves
image_none : (old : Content) (rows : List ℕ) (pending : List (ℕ × ℕ)) → IsImage old old rows rows (λ r. r) (Joined pending)
image_none old rows pending = record {
  keys = refl;
  entities = refl;
  made = refl;
  live = λ r l. l;
  kind = λ r l. refl;
  cell = λ r k q l c. record { row = q; cell = c; joined = same };
  onto = λ r l. (l, refl);
  unmade = λ r h. refl;
  rows = λ g h. refl;
  count = refl;
}

pub IsMerging-start : (m : Content) (rows : List ℕ) (a b : ℕ) → IsWhole m → live_of m a ≡ true → live_of m b ≡ true → entity_of m a ≡ entity_of m b → a ≢ b → IsMerging m m rows rows ((a, b) ∷ []) a b
IsMerging-start m rows a b w la lb k ne = record {
  whole = w;
  pairs = λ x y c. let o = only_pair a b x y c in record { left = rw o.0 la; right = rw o.1 lb; kinds = rw (o.0, o.1) k };
  image = (λ r. r, image_none m rows ((a, b) ∷ []));
  sound = λ s terms h l d. (h, λ x y c. let o = only_pair a b x y c in rw (o.0, o.1) d);
  fewer = inl (refl, record { left = a; right = b; found = Contains-push [] (a, b); differ = ne });
}

image_less : (old m : Content) (rows_old rows : List ℕ) (rep : ℕ → ℕ) (E F : ℕ → ℕ → Type 0) → ((a b : ℕ) → E a b → F a b) → IsImage old m rows_old rows rep E → IsImage old m rows_old rows rep F
image_less old m rows_old rows rep E F h i = record {
  keys = i.keys;
  entities = i.entities;
  made = i.made;
  live = i.live;
  kind = i.kind;
  cell = λ r k q l c. let o = i.cell r k q l c in record { row = o.row; cell = o.cell; joined = h o.row (rep q) o.joined };
  onto = i.onto;
  unmade = i.unmade;
  rows = i.rows;
  count = i.count;
}

-- a pair of one row with itself
pub IsMerging-same : (old m : Content) (rows_old rows : List ℕ) (pending rest : List (ℕ × ℕ)) (x y a b : ℕ) → pending ≡ rest ++ (x, y) ∷ [] → x ≡ y → IsMerging old m rows_old rows pending a b → IsMerging old m rows_old rows rest a b
IsMerging-same old m rows_old rows pending rest x y a b e q h = record {
  whole = h.whole;
  pairs = λ c d f. h.pairs c d (rw e (Contains-append_left rest ((x, y) ∷ []) (c, d) f));
  image = (
    h.image.0,
    image_less old m rows_old rows h.image.0 (Joined pending) (Joined rest)
        (λ c d j. Joined-map (λ z. z) pending rest
        (λ c d f. ⊎_elim (λ p. pair p) (λ (p : ◌≡◌ {A = ℕ × ℕ} (x, y) (c, d)). rw (sym (ap (λ (p : ℕ × ℕ). p.0) p) ∙ q ∙ ap (λ (p : ℕ × ℕ). p.1) p) same) (Contains-push_cases rest (x, y) (c, d) (rw e at f)))
        j)
        h.image.1,
  );
  sound = λ s terms i l d. let o = h.sound s terms i l d in (o.0, λ c f g. o.1 c f (rw e (Contains-append_left rest ((x, y) ∷ []) (c, f) g)));
  fewer = ⊎_elim (λ p. inl (p.0, still_apart p.1)) inr h.fewer;
} where
  still_apart : IsApartIn pending → IsApartIn rest
  still_apart p = record {
    left = p.left;
    right = p.right;
    found = ⊎_elim (λ f. f) (λ (f : ◌≡◌ {A = ℕ × ℕ} (x, y) (p.left, p.right)). absurd (p.differ (sym (ap (λ (z : ℕ × ℕ). z.0) f) ∙ q ∙ ap (λ (z : ℕ × ℕ). z.1) f))) (Contains-push_cases rest (x, y) (p.left, p.right) (rw e at p.found));
    differ = p.differ;
  }

-- the last pair, the other way round
pub IsMerging-turned : (old m : Content) (rows_old rows : List ℕ) (rest : List (ℕ × ℕ)) (x y a b : ℕ) → IsMerging old m rows_old rows (rest ++ (x, y) ∷ []) a b → IsMerging old m rows_old rows (rest ++ (y, x) ∷ []) a b
IsMerging-turned old m rows_old rows rest x y a b h = record {
  whole = h.whole;
  pairs = λ c d f. ⊎_elim (λ p. h.pairs c d p) (λ p. let o = h.pairs d c p in record { left = o.right; right = o.left; kinds = sym o.kinds }) (turned c d f);
  image = (
    h.image.0,
    image_less old m rows_old rows h.image.0 (Joined (rest ++ (x, y) ∷ [])) (Joined (rest ++ (y, x) ∷ []))
        (λ c d j. Joined-map (λ z. z) (rest ++ (x, y) ∷ []) (rest ++ (y, x) ∷ [])
        (λ c d f. ⊎_elim (λ p. pair p) (λ p. back (pair p)) (turned_from c d f))
        j)
        h.image.1,
  );
  sound = λ s terms i l d. let o = h.sound s terms i l d in (o.0, λ c f g. ⊎_elim (λ p. o.1 c f p) (λ p. symmetric (o.1 f c p)) (turned c f g));
  fewer = ⊎_elim (λ p. inl (p.0, apart_turned p.1)) inr h.fewer;
} where
  turn : (x y c d : ℕ) → Contains (rest ++ (y, x) ∷ []) (c, d) → Contains (rest ++ (x, y) ∷ []) (c, d) ⊎ Contains (rest ++ (x, y) ∷ []) (d, c)
  turn x y c d f = ⊎_elim (λ p. inl (Contains-append_left rest ((x, y) ∷ []) (c, d) p))
      (λ (p : ◌≡◌ {A = ℕ × ℕ} (y, x) (c, d)). inr (rw (sym (ap (λ (z : ℕ × ℕ). z.1) p), sym (ap (λ (z : ℕ × ℕ). z.0) p)) (Contains-push rest (x, y))))
      (Contains-push_cases rest (y, x) (c, d) f)

  turned : (c d : ℕ) → Contains (rest ++ (y, x) ∷ []) (c, d) → Contains (rest ++ (x, y) ∷ []) (c, d) ⊎ Contains (rest ++ (x, y) ∷ []) (d, c)
  turned = turn x y

  turned_from : (c d : ℕ) → Contains (rest ++ (x, y) ∷ []) (c, d) → Contains (rest ++ (y, x) ∷ []) (c, d) ⊎ Contains (rest ++ (y, x) ∷ []) (d, c)
  turned_from = turn y x

  apart_turned : IsApartIn (rest ++ (x, y) ∷ []) → IsApartIn (rest ++ (y, x) ∷ [])
  apart_turned p = ⊎_elim (λ f. record { left = p.left; right = p.right; found = f; differ = p.differ }) (λ f. record { left = p.right; right = p.left; found = f; differ = λ e. p.differ (sym e) }) (turned_from p.left p.right p.found)

pub IsMerging-renamed : (old m m' : Content) (rows_old rows rows' : List ℕ) (pending rest next : List (ℕ × ℕ)) (x y a b : ℕ) → pending ≡ rest ++ (x, y) ∷ [] → x ≢ y → Renames m m' x y → IsWhole m'
    → next ≡ map (moved_pair x y) rest ++ given_pairs m x y (length (keys_of m))
    → ((g : ℕ) → g < length rows → slice_index rows' g ≡ moved x y (slice_index rows g)) → length rows' ≡ length rows
    → IsMerging old m rows_old rows pending a b → IsMerging old m' rows_old rows' next a b
IsMerging-renamed old m m' rows_old rows rows' pending rest next x y a b e ne ren w' en hr hl h =
    let ok = h.pairs x y (rw e (Contains-push rest (x, y))) in
    let before = rw e at h.pairs in
    let im = rw e at h.image.1 in
    record {
      whole = w';
      pairs = rw en (ArePairs-waiting m m' x y ren h.whole ok.left ok.right ne ok.kinds rest before);
      image = (λ r. moved x y (h.image.0 r), rw en (IsImage-waiting m m' x y ren h.whole ok.left ok.right ne ok.kinds rest old rows_old rows rows' h.image.0 im hr hl));
      sound = λ s terms i l d.
          let o = h.sound s terms i l d in
          let eq = o.1 x y (rw e (Contains-push rest (x, y))) in
          let rest_ok : ArePairs m rest = λ c f g. before c f (Contains-append_left rest ((x, y) ∷ []) (c, f) g) in
          let rest_eq : PairsDerive s terms rest = λ c f g. o.1 c f (rw e (Contains-append_left rest ((x, y) ∷ []) (c, f) g)) in (
            IsSound-renamed m m' x y ren h.whole ok.left ok.right ne ok.kinds s terms eq rows rows' o.0 hr (l ∙ sym h.image.1.count),
            rw en (PairsDerive-waiting m m' x y ren h.whole ok.left ok.right ne ok.kinds s terms eq rows rest o.0 rest_ok rest_eq),
          );
      fewer = inr (⊎_elim (λ p. omega (arith, p.0, live_count-renamed m m' x y ren h.whole ok.left)) (λ p. omega (arith, p, live_count-renamed m m' x y ren h.whole ok.left)) h.fewer);
    }

-- when no pair waits, some row was renamed
pub IsMerging-fewer : (old m : Content) (rows_old rows : List ℕ) (a b : ℕ) → IsMerging old m rows_old rows [] a b → live_count m < live_count old
IsMerging-fewer old m rows_old rows a b h = ⊎_elim (λ p. absurd (contains_none (p.1.left, p.1.right) p.1.found)) (λ p. p) h.fewer

pub IsMerging-end : (old m : Content) (rows_old rows : List ℕ) (a b : ℕ) → IsMerging old m rows_old rows [] a b → (rep : ℕ → ℕ) × IsImage old m rows_old rows rep IsSame
IsMerging-end old m rows_old rows a b h = (h.image.0, image_less old m rows_old rows h.image.0 (Joined []) IsSame (λ c d j. Joined-none j) h.image.1)

pair_few : (o p : Option ℕ) → length (pair_of o p) ≤ 1
pair_few None p = omega arith
pair_few (Some a) None = omega arith
pair_few (Some a) (Some b) = elim (cases_eq a b) as (λ _. length (pair_of (Some a) (Some b)) ≤ 1) [
  | inl e ↦ rw (eq-eqb a b e) (omega arith)
  | inr n ↦ rw (ne_eqb a b n) (omega arith)
]

given_few : (m : Content) (x y n : ℕ) → length (given_pairs m x y n) ≤ n
given_few m x y zero = omega arith
given_few m x y (suc n) = omega (arith, length-append (given_pairs m x y n) (pair_of (moved_cell x y (cell_of m y n)) (moved_cell x y (cell_of m x n))), given_few m x y n, pair_few (moved_cell x y (cell_of m y n)) (moved_cell x y (cell_of m x n)))

falls_numbers : (c c' w w' n g l l' : ℕ) → c ≡ c' + 1 → w' ≡ w → g ≤ w → l ≡ n + 1 → l' ≡ n + g → c' * (w' + 1) + l' < c * (w + 1) + l
falls_numbers c c' w w' n g l l' e f h p q = rw (e, f, p, q) (omega (arith, h))

-- the measure falls
pub falls_renamed : (m m' : Content) (x y : ℕ) (pending rest next : List (ℕ × ℕ)) (l r : ℕ) → pending ≡ rest ++ (l, r) ∷ [] → Renames m m' x y → IsWhole m → live_of m x ≡ true → next ≡ rest ++ given_pairs m x y (length (keys_of m))
    → live_count m' * (length (keys_of m') + 1) + length next < live_count m * (length (keys_of m) + 1) + length pending
falls_renamed m m' x y pending rest next l r e ren w lx en =
    falls_numbers (live_count m) (live_count m') (length (keys_of m)) (length (keys_of m')) (length rest) (length (given_pairs m x y (length (keys_of m)))) (length pending) (length next)
    (live_count-renamed m m' x y ren w lx) (ap length ren.keys) (given_few m x y (length (keys_of m)))
    (ap length e ∙ length-append rest ((l, r) ∷ []))
    (ap length en ∙ length-append rest (given_pairs m x y (length (keys_of m))))

-- pairs as they are now

module _ (old m m' : Content) (e_old e e' : Entries) (rest : List (ℕ × ℕ)) (a b : ℕ) where
  pub given_now : (x y : ℕ) → Renames m m' x y → IsWhole m → IsPair m x y → x ≢ y → IsCurrent m' e' → pairs_now e'.renamings (given_pairs m x y (length (keys_of m))) ≡ given_pairs m x y (length (keys_of m))
  given_now x y ren w p ne c = pairs_now-live e'.renamings (given_pairs m x y (length (keys_of m)))
      (λ u v f. let o = ArePairs-waiting m m' x y ren w p.left p.right ne p.kinds [] (λ g h i. let q = only_pair x y g h i in rw (q.0, q.1) p) u v f in (c.live u o.left, c.live v o.right))

  pub IsMerging-next : (x y : ℕ) (next : List (ℕ × ℕ)) → IsMerging old m (rows_of e_old) (rows_of e) (pairs_now e.renamings rest ++ (x, y) ∷ []) a b → x ≢ y → Renames m m' x y → IsWhole m'
      → next ≡ rest ++ given_pairs m x y (length (keys_of m)) → e'.first ≡ e.first → e'.renamings ≡ map (moved x y) e.renamings → IsCurrent m e
      → IsMerging old m' (rows_of e_old) (rows_of e') (pairs_now e'.renamings next) a b × IsCurrent m' e'
  IsMerging-next x y next h ne ren w' en first renamed c =
      let p = h.pairs x y (Contains-push (pairs_now e.renamings rest) (x, y)) in
      let listed : x < length e.renamings = omega (arith, live_made m x h.whole p.left, c.count) in
      let c' = IsCurrent-renamed e e' x y first renamed listed m m' ren h.whole p.left p.right ne p.kinds c in (
        IsMerging-renamed old m m' (rows_of e_old) (rows_of e) (rows_of e') (pairs_now e.renamings rest ++ (x, y) ∷ []) (pairs_now e.renamings rest) (pairs_now e'.renamings next) x y a b refl ne ren w'
            (ap (pairs_now e'.renamings) en ∙ pairs_now-append e'.renamings rest (given_pairs m x y (length (keys_of m)))
            ∙ both (pairs_now e'.renamings rest) (map (moved_pair x y) (pairs_now e.renamings rest)) (pairs_now e'.renamings (given_pairs m x y (length (keys_of m)))) (given_pairs m x y (length (keys_of m)))
            (ap (λ n. pairs_now n rest) renamed ∙ pairs_now-moved e.renamings x y listed rest) (given_now x y ren h.whole p ne c'))
            (rows_of-moved e e' x y first renamed listed) (rows_of-count e e' x y first renamed listed) h,
        c',
      )
    where
      both : (p q r s : List (ℕ × ℕ)) → p ≡ q → r ≡ s → p ++ r ≡ q ++ s
      both p q r s d f = rw (d, f) refl

-- the last pair, in the direction that was chosen
pub directed : (old m : Content) (rows_old rows : List ℕ) (rest : List (ℕ × ℕ)) (x y from to a b : ℕ) → ((from ≡ x) × (to ≡ y)) ⊎ ((from ≡ y) × (to ≡ x)) → IsMerging old m rows_old rows (rest ++ (x, y) ∷ []) a b → IsMerging old m rows_old rows (rest ++ (from, to) ∷ []) a b
directed old m rows_old rows rest x y from to a b d h = ⊎_elim (λ o. rw (o.0, o.1) h) (λ o. rw (o.0, o.1) (IsMerging-turned old m rows_old rows rest x y a b h)) d

pub directed_apart : (x y from to : ℕ) → ((from ≡ x) × (to ≡ y)) ⊎ ((from ≡ y) × (to ≡ x)) → x ≢ y → from ≢ to
directed_apart x y from to d ne e = ⊎_elim (λ o. ne (sym o.0 ∙ e ∙ o.1)) (λ o. ne (sym o.1 ∙ sym e ∙ o.0)) d

-- a popped pair, as it is now, is the last that waits
pub record IsPopped (old m : Content) (e_old e : Entries) (rest : List (ℕ × ℕ)) (x y a b : ℕ) : Type 0 where
  pub merging : IsMerging old m (rows_of e_old) (rows_of e) (pairs_now e.renamings rest ++ (x, y) ∷ []) a b
  pub current : IsCurrent m e

pub popped : (old m : Content) (e_old e one other : Entries) (pending rest : List (ℕ × ℕ)) (l r x y a b : ℕ) → pending ≡ rest ++ (l, r) ∷ [] → x ≡ row_now e.renamings l → one ≡ e → y ≡ row_now one.renamings r → other ≡ one
    → IsMerging old m (rows_of e_old) (rows_of e) (pairs_now e.renamings pending) a b → IsCurrent m e → IsPopped old m e_old other rest x y a b
popped old m e_old e one other pending rest l r x y a b h ex f ey g i c =
    let q : pairs_now e.renamings pending ≡ pairs_now e.renamings rest ++ (x, y) ∷ [] = rw (h, ex, ey, f) (pairs_now-append e.renamings rest ((l, r) ∷ [])) in
    rw (g, f) (record { merging = rw q at i; current = c })

pub IsPopped-pair : {old m : Content} {e_old e : Entries} {rest : List (ℕ × ℕ)} {x y a b : ℕ} → IsPopped old m e_old e rest x y a b → IsPair m x y
IsPopped-pair {old} {m} {e_old} {e} {rest} {x} {y} {a} {b} p = p.merging.pairs x y (Contains-push (pairs_now e.renamings rest) (x, y))

pub IsPopped-made : {old m : Content} {e_old e : Entries} {rest : List (ℕ × ℕ)} {x y a b : ℕ} → IsPopped old m e_old e rest x y a b → (x < made_of m) × (y < made_of m)
IsPopped-made {old} {m} {e_old} {e} {rest} {x} {y} {a} {b} p = let o = IsPopped-pair p in (live_made m x p.merging.whole o.left, live_made m y p.merging.whole o.right)

pub IsPopped-directed : {old m : Content} {e_old e : Entries} {rest : List (ℕ × ℕ)} {x y a b : ℕ} (from to : ℕ) → ((from ≡ x) × (to ≡ y)) ⊎ ((from ≡ y) × (to ≡ x)) → IsPopped old m e_old e rest x y a b → IsPopped old m e_old e rest from to a b
IsPopped-directed {old} {m} {e_old} {e} {rest} {x} {y} {a} {b} from to d p =
    record { merging = directed old m (rows_of e_old) (rows_of e) (pairs_now e.renamings rest) x y from to a b d p.merging; current = p.current }

pub IsPopped-same : {old m : Content} {e_old e : Entries} {rest : List (ℕ × ℕ)} {x y a b : ℕ} → x ≡ y → IsPopped old m e_old e rest x y a b → IsMerging old m (rows_of e_old) (rows_of e) (pairs_now e.renamings rest) a b
IsPopped-same {old} {m} {e_old} {e} {rest} {x} {y} {a} {b} q p = IsMerging-same old m (rows_of e_old) (rows_of e) (pairs_now e.renamings rest ++ (x, y) ∷ []) (pairs_now e.renamings rest) x y a b refl q p.merging
