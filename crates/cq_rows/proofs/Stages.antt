-- What stands at the end of each stage.
use Rattle.std.proofs.Common.{◌≡◌, ℕ, zero, suc, ◌+◌, ◌<◌, ◌≤◌, Bool, true, false, List, [], ◌∷◌, ◌++◌, length, Option, Some, None, refl, sym, ◌∙◌, ap, arith, ⊎_elim, inl, inr, length-append}
use Rattle.std.proofs.lemmas.Bool.{false≢true, cases_lt}
use Rattle.std.proofs.lemmas.Option.{none-some, same_Some, slice_get_within, option_and_then_some}
use Rattle.std.specs.Prelude.{slice_get, slice_index, option_and_then, IsSome, MatchBool}
use Rattle.cq_tables.specs.Content.{Content, made_of, live_of, entity_of, cell_of, step_of, end_of, trace_of, IsWhole, keys_of, entities_of}
use Rattle.cq_rows.specs.Theory.{Term, Theory, Proves, reflexive, symmetric, transitive, key, given, rule, along, generator_term, sort_of, Within, Closes, IsTheory}
use Rattle.cq_rows.specs.Rows.{no_row, IsSound, HaveRows, IsImage, IsSame, FillsAll, AllFilled, IsCellOf, row_of_term, RulesHold, GivenHold, HasBegun, IsName, OneRowIsEqual}
use Rattle.cq_rows.specs.Stage.{IsGrown, IsStage}
use Rattle.cq_rows.proofs.Cells.{below_or_at, live_made}
use Rattle.cq_rows.proofs.Sorts.{sorted_at, sort_from, sort-along, end_one, one_end, end_split, generator_sort}
use Rattle.cq_rows.proofs.Tracing.{trace_append, trace-append, trace_leads, trace_image, trace_extends, trace_one, one_trace, same_row}

pub have_rows : (s : Theory) (m : Content) (rows : List ℕ) (j : ℕ) → IsGrown s m rows j → HaveRows s m rows
have_rows s m rows j g x e f = let o = g.sound.1.generators x e f in (o.live, o.kind)

pub some_of : (o : Option ℕ) → IsSome o → (a : ℕ) × (o ≡ Some a)
some_of None h = absurd (false≢true h)
some_of (Some a) h = (a, refl)

some_is : (o : Option ℕ) (a : ℕ) → o ≡ Some a → IsSome o
some_is o a e = rw e refl

-- a term's generator has a row
pub record AtRow (s : Theory) (m : Content) (rows : List ℕ) (t : Term) (e : ℕ) : Type 0 where
  pub start : ℕ
  pub below : t.generator < length rows
  pub live : live_of m (slice_index rows t.generator) ≡ true
  pub kind : entity_of m (slice_index rows t.generator) ≡ start
  pub end : end_of s.keys start t.path ≡ Some e

pub at_row : (s : Theory) (m : Content) (rows : List ℕ) (j : ℕ) → IsGrown s m rows j → (t : Term) (e : ℕ) → sort_of s t ≡ Some e → AtRow s m rows t e
at_row s m rows j g t e q =
    let a = sorted_at s t e q in
    let o = g.sound.1.generators t.generator a.start a.found in
    record { start = a.start; below = rw g.count (slice_get_within s.generators t.generator (Some a.start) a.found); live = o.live; kind = o.kind; end = a.end }

same_end : (a b : List (ℕ × ℕ)) (c d : ℕ) (p : List ℕ) (e : ℕ) → a ≡ b → c ≡ d → end_of b d p ≡ Some e → end_of a c p ≡ Some e
same_end a b c d p e f g h = rw (f, g) h

-- the row of a term is live and of its entity
pub term_leads : (s : Theory) (m : Content) (rows : List ℕ) (j : ℕ) → IsGrown s m rows j → (t : Term) (e a : ℕ) → sort_of s t ≡ Some e → row_of_term m rows t ≡ Some a → (live_of m a ≡ true) × (entity_of m a ≡ e)
term_leads s m rows j g t e a q f =
    let r = at_row s m rows j g t e q in
    let l = trace_leads m (slice_index rows t.generator) a t.path g.whole r.live f in
    (l.live, same_Some (entity_of m a) e (sym l.end ∙ same_end (keys_of m) s.keys (entity_of m (slice_index rows t.generator)) r.start t.path e g.sound.1.keys r.kind r.end))

same_step : (a b : List (ℕ × ℕ)) (c d k : ℕ) (o : Option ℕ) → a ≡ b → c ≡ d → step_of a c k ≡ o → step_of b d k ≡ o
same_step a b c d k o e f h = rw (← e, ← f) h

-- stage 0
pub IsGrown-begun : (s : Theory) (m : Content) (rows : List ℕ) → HasBegun s m rows → IsGrown s m rows 0
IsGrown-begun s m rows b =
    let owner = b.owned.0 in
    let o = b.owned.1 in
    record {
      whole = b.whole;
      count = b.count;
      rowless = λ g f. b.rowless g (slice_get_within s.generators g None f) f;
      sound = (
        λ r. generator_term (owner r),
        record {
          keys = b.keys;
          entities = b.entities;
          sorts = λ r l. generator_sort s (owner r) (entity_of m r) (o.kind r l);
          cells = λ r k q l c. absurd (none-some q (sym (b.cell r k l) ∙ c));
          generators = λ g e f.
              let lt = slice_get_within s.generators g (Some e) f in
              record {
                live = o.live g e lt f;
                kind = o.entity g e lt f;
                equal = rw (o.own g e lt f) (reflexive e (generator_sort s g e f) tt);
              };
        },
      );
      named = λ r l. (generator_term (owner r), record { sort = generator_sort s (owner r) (entity_of m r) (o.kind r l); depth = omega arith; row = ap (λ x. Some x) (o.row r l) });
      traced = λ t e q h. traced_none t.path (slice_index rows t.generator) h;
    }
  where
    traced_none : (p : List ℕ) (r : ℕ) → length p ≤ 0 → IsSome (trace_of m r p)
    traced_none [] r h = refl
    traced_none (k ∷ ks) r h = absurd (omega arith)

-- merging keeps it
pub IsGrown-image : (s : Theory) (m m' : Content) (rows rows' : List ℕ) (j : ℕ) → IsGrown s m rows j → made_of m ≤ no_row → IsWhole m' → (rep : ℕ → ℕ) × IsImage m m' rows rows' rep IsSame → ((terms : ℕ → Term) → IsSound s m rows terms → IsSound s m' rows' terms) → IsGrown s m' rows' j
IsGrown-image s m m' rows rows' j g few w' (rep, i) snd = record {
  whole = w';
  count = i.count ∙ g.count;
  rowless = λ x f. i.rows x (rw g.count (slice_get_within s.generators x None f)) ∙ ap rep (g.rowless x f) ∙ i.unmade no_row few;
  sound = (g.sound.0, snd g.sound.0 g.sound.1);
  named = λ r l.
      let o = i.onto r l in
      let n = g.named r o.0 in
      let at = at_row s m rows j g n.0 (entity_of m r) n.1.sort in
      let tr = image_trace n.0.generator n.0.path r at.below at.live n.1.row in (
        n.0,
        record {
          sort = n.1.sort ∙ ap (λ x. Some x) (sym (i.kind r o.0) ∙ ap (entity_of m') o.1);
          depth = n.1.depth;
          row = tr ∙ ap (λ x. Some x) o.1;
        },
      );
  traced = λ t e q h.
      let at = at_row s m rows j g t e q in
      let a = some_of (row_of_term m rows t) (g.traced t e q h) in
      some_is (row_of_term m' rows' t) (rep a.0) (image_trace t.generator t.path a.0 at.below at.live a.1);
} where
  image_trace : (x : ℕ) (p : List ℕ) (a : ℕ) → x < length rows → live_of m (slice_index rows x) ≡ true → trace_of m (slice_index rows x) p ≡ Some a → trace_of m' (slice_index rows' x) p ≡ Some (rep a)
  image_trace x p a b l f = rw (i.rows x b) (trace_image m m' rows rows' rep i g.whole (slice_index rows x) a p l f)

-- the last key of a path
pub last_key : (p : List ℕ) (n : ℕ) → length p ≡ suc n → (q : List ℕ) × (k : ℕ) × (p ≡ q ++ k ∷ []) × (length q ≡ n)
last_key [] n h = absurd (omega arith)
last_key (k ∷ []) n h = ([], k, refl, omega arith)
last_key (k ∷ x ∷ xs) zero h = absurd (omega arith)
last_key (k ∷ x ∷ xs) (suc n) h = let o = last_key (x ∷ xs) n (omega arith) in (k ∷ o.0, o.1, ap (λ z. k ∷ z) o.2, omega (arith, o.3))

-- filling: stage j + 1 before its merging
pub IsGrown-filled : (s : Theory) (m m' : Content) (rows : List ℕ) (j : ℕ) → IsGrown s m rows j → IsWhole m' → FillsAll m m' → IsGrown s m' rows (j + 1)
IsGrown-filled s m m' rows j g w' f = record {
  whole = w';
  count = g.count;
  rowless = g.rowless;
  sound = f.sound s rows g.sound.0 g.sound.1;
  named = λ r l. ⊎_elim (λ o. old_name r o) (λ o. new_name r l o) (f.origin r l);
  traced = λ t e q h. elim (cases_lt j (length t.path)) as (λ _. IsSome (row_of_term m' rows t)) [
    | inl lt ↦ (let o = sorted_at s t e q in deep t.generator o.start e t.path o.found o.end (last_key t.path j (omega arith)))
    | inr le ↦
        let a = some_of (row_of_term m rows t) (g.traced t e q le) in
        some_is (row_of_term m' rows t) a.0 (kept t e a.0 q a.1)
  ];
} where
  kept : (t : Term) (e a : ℕ) → sort_of s t ≡ Some e → row_of_term m rows t ≡ Some a → row_of_term m' rows t ≡ Some a
  kept t e a q h = let at = at_row s m rows j g t e q in trace_extends m m' f.extends g.whole (slice_index rows t.generator) a t.path at.live h

  old_name : (r : ℕ) → live_of m r ≡ true → (t : Term) × IsName s m' rows (j + 1) r t
  old_name r l =
      let n = g.named r l in (
        n.0,
        record {
          sort = n.1.sort ∙ ap (λ x. Some x) (sym (f.extends.kind r l));
          depth = omega (arith, n.1.depth);
          row = kept n.0 (entity_of m r) r n.1.sort n.1.row;
        },
      )

  new_name : (r : ℕ) → live_of m' r ≡ true → (q : ℕ) × (live_of m q ≡ true) × IsCellOf m' q r → (t : Term) × IsName s m' rows (j + 1) r t
  new_name r l o =
      let q = o.0 in
      let c = o.2 in
      let n = g.named q o.1 in
      let held = w'.held q c.key r (f.extends.live q o.1) c.cell in
      let st : step_of s.keys (entity_of m q) c.key ≡ Some (entity_of m' r) = same_step (keys_of m') s.keys (entity_of m' q) (entity_of m q) c.key (Some (entity_of m' r)) (f.extends.keys ∙ g.sound.1.keys) (f.extends.kind q o.1) held.step in (
        along n.0 (c.key ∷ []),
        record {
          sort = sort-along s n.0 (entity_of m q) (entity_of m' r) (c.key ∷ []) n.1.sort (end_one s.keys (entity_of m q) c.key (entity_of m' r) st);
          depth = omega (arith, n.1.depth, length-append n.0.path (c.key ∷ []));
          row = trace_append m' (slice_index rows n.0.generator) q n.0.path (c.key ∷ []) (kept n.0 (entity_of m q) q n.1.sort n.1.row) ∙ trace_one m' q c.key r c.cell;
        },
      )

  deep : (x st e : ℕ) (path : List ℕ) → slice_get s.generators x ≡ Some (Some st) → end_of s.keys st path ≡ Some e → (q : List ℕ) × (k : ℕ) × (path ≡ q ++ k ∷ []) × (length q ≡ j) → IsSome (trace_of m' (slice_index rows x) path)
  deep x st e path found h (p, k, is, len) =
      let parts = end_split s.keys st e p (k ∷ []) (rw is at h) in
      let u : Term = record { generator = x; path = p } in
      let qu = sort_from s u st parts.0 found parts.1 in
      let a = some_of (row_of_term m rows u) (g.traced u parts.0 qu (omega (arith, len))) in
      let leads = term_leads s m rows j g u parts.0 a.0 qu a.1 in
      let st1 = one_end s.keys parts.0 k e parts.2 in
      let c = some_of (cell_of m' a.0 k) (f.filled a.0 leads.0 k e (same_step s.keys (keys_of m') parts.0 (entity_of m' a.0) k (Some e) (sym (f.extends.keys ∙ g.sound.1.keys)) (sym (f.extends.kind a.0 leads.0 ∙ leads.1)) st1)) in
      rw is (some_is (trace_of m' (slice_index rows x) (p ++ k ∷ [])) c.0 (trace_append m' (slice_index rows x) a.0 p (k ∷ []) (kept u parts.0 a.0 qu a.1) ∙ trace_one m' a.0 k c.0 c.1))

from_row : (m : Content) (rows : List ℕ) (t : Term) (x a : ℕ) (p : List ℕ) → row_of_term m rows t ≡ Some x → row_of_term m rows (along t p) ≡ Some a → trace_of m x p ≡ Some a
from_row m rows t x a p f g = sym (trace_append m (slice_index rows t.generator) x t.path p f) ∙ g

-- budget: terms that are equal within j lead to one row
row_along : (m : Content) (rows : List ℕ) (t : Term) (p : List ℕ) → row_of_term m rows (along t p) ≡ option_and_then (λ a. trace_of m a p) (row_of_term m rows t)
row_along m rows t p = trace-append m (slice_index rows t.generator) t.path p

pub within_one_row : (s : Theory) (m : Content) (rows : List ℕ) (j : ℕ) → IsTheory s → IsStage s m rows j → {t u : Term} → Within s j t u → row_of_term m rows t ≡ row_of_term m rows u
within_one_row s m rows j th h (reflexive e q b) = refl
within_one_row s m rows j th h (symmetric d) = sym (within_one_row s m rows j th h d)
within_one_row s m rows j th h (transitive d e) = within_one_row s m rows j th h d ∙ within_one_row s m rows j th h e
within_one_row s m rows j th h (key {t} {u} k e d i q st bt bu) =
    row_along m rows t (k ∷ []) ∙ ap (option_and_then (λ a. trace_of m a (k ∷ []))) (within_one_row s m rows j th h i) ∙ sym (row_along m rows u (k ∷ []))
within_one_row s m rows j th h (given {t} {u} i f bt bu) =
    let q = th.given i t u f in
    let a = some_of (row_of_term m rows t) (h.grown.traced t q.target q.left bt) in
    let b = some_of (row_of_term m rows u) (h.grown.traced u q.target q.right bu) in
    a.1 ∙ ap (λ x. Some x) (h.given i t u f a.0 b.0 a.1 b.1) ∙ sym b.1
within_one_row s m rows j th h (rule i r t f q bt bl br) =
    let e = th.rules i r f in
    let x = some_of (row_of_term m rows t) (h.grown.traced t r.entity q bt) in
    let leads = term_leads s m rows j h.grown t r.entity x.0 q x.1 in
    let a = some_of (row_of_term m rows (along t r.left)) (h.grown.traced (along t r.left) e.target (sort-along s t r.entity e.target r.left q e.left) bl) in
    let b = some_of (row_of_term m rows (along t r.right)) (h.grown.traced (along t r.right) e.target (sort-along s t r.entity e.target r.right q e.right) br) in
    let ta = from_row m rows t x.0 a.0 r.left x.1 a.1 in
    let tb = from_row m rows t x.0 b.0 r.right x.1 b.1 in
    a.1 ∙ ap (λ z. Some z) (h.rules x.0 i r leads.0 f leads.1 a.0 b.0 ta tb) ∙ sym b.1

-- equal terms have one entity
pub same_sort : (s : Theory) (bound : Option ℕ) → IsTheory s → {t u : Term} → Proves s bound t u → sort_of s t ≡ sort_of s u
same_sort s bound th (reflexive e q b) = refl
same_sort s bound th (symmetric d) = sym (same_sort s bound th d)
same_sort s bound th (transitive d e) = same_sort s bound th d ∙ same_sort s bound th e
same_sort s bound th (key {t} {u} k e d i q st bt bu) =
    sort-along s t e d (k ∷ []) q (end_one s.keys e k d st) ∙ sym (sort-along s u e d (k ∷ []) (sym (same_sort s bound th i) ∙ q) (end_one s.keys e k d st))
same_sort s bound th (given {t} {u} i f bt bu) = let q = th.given i t u f in q.left ∙ sym q.right
same_sort s bound th (rule i r t f q bt bl br) =
    let e = th.rules i r f in
    sort-along s t r.entity e.target r.left q e.left ∙ sym (sort-along s t r.entity e.target r.right q e.right)

-- where a depth closes, all cells are filled at the end of its stage
pub closes_filled : (s : Theory) (m : Content) (rows : List ℕ) (j : ℕ) → IsTheory s → IsStage s m rows j → Closes s j → AllFilled m
closes_filled s m rows j th h c r k d l st =
    let n = h.grown.named r l in
    let ss = same_step (keys_of m) s.keys (entity_of m r) (entity_of m r) k (Some d) h.grown.sound.1.keys refl st in
    let o = c n.0 (entity_of m r) k d n.1.sort n.1.depth ss in
    let u = o.0 in
    let qu = sym (same_sort s (Some j) th o.2) ∙ n.1.sort in
    let ru = sym (within_one_row s m rows j th h o.2) ∙ n.1.row in
    let a = some_of (row_of_term m rows (along u (k ∷ []))) (h.grown.traced (along u (k ∷ [])) d (sort-along s u (entity_of m r) d (k ∷ []) qu (end_one s.keys (entity_of m r) k d ss)) (omega (arith, length-append u.path (k ∷ []), o.1))) in
    some_is (cell_of m r k) a.0 (one_trace m r k a.0 (from_row m rows u r a.0 (k ∷ []) ru a.1))

-- where all cells are filled, each term is traced
filled_trace : (m : Content) (r d : ℕ) (p : List ℕ) → IsWhole m → AllFilled m → live_of m r ≡ true → end_of (keys_of m) (entity_of m r) p ≡ Some d → IsSome (trace_of m r p)
filled_trace m r d [] w f l e = refl
filled_trace m r d (k ∷ ks) w f l e = option_and_then_some (λ x. end_of (keys_of m) x ks) (step_of (keys_of m) (entity_of m r) k) d e (λ x st g.
    let c = some_of (cell_of m r k) (f r k x l st) in
    let held = w.held r k c.0 l c.1 in
    let kind = same_Some x (entity_of m c.0) (sym st ∙ held.step) in
    rw c.1 (filled_trace m c.0 d ks w f held.live (rw kind at g)))

-- and the rows are those of every later stage
pub stage_closed : (s : Theory) (m : Content) (rows : List ℕ) (j k : ℕ) → IsStage s m rows j → AllFilled m → j ≤ k → IsStage s m rows k
stage_closed s m rows j k h f le = record {
  grown = record {
    whole = h.grown.whole;
    rowless = h.grown.rowless;
    count = h.grown.count;
    sound = h.grown.sound;
    named = λ r l. let n = h.grown.named r l in (n.0, record { sort = n.1.sort; depth = omega (arith, n.1.depth); row = n.1.row });
    traced = λ t e q b.
        let at = at_row s m rows j h.grown t e q in
        filled_trace m (slice_index rows t.generator) e t.path h.grown.whole f at.live (same_end (keys_of m) s.keys (entity_of m (slice_index rows t.generator)) at.start t.path e h.grown.sound.1.keys at.kind at.end);
  };
  rules = h.rules;
  given = h.given;
}

-- terms of one row are derivably equal
pub stage_sound : (s : Theory) (m : Content) (rows : List ℕ) (j : ℕ) → IsGrown s m rows j → OneRowIsEqual s m rows
stage_sound s m rows j g t u d e a qt qu ft fu = same_row s m rows g.sound.0 g.sound.1 g.whole t u d e a qt qu ft fu

-- what merging asks
pub record MaySettle (s : Theory) (m : Content) (rows : List ℕ) : Type 0 where
  pub keys : (keys_of m) ≡ s.keys
  pub entities : (entities_of m) ≡ s.entities
  pub whole : IsWhole m
  pub have : HaveRows s m rows
  pub count : length rows ≡ length s.generators

pub may_settle : (s : Theory) (m : Content) (rows given_rows : List ℕ) (j : ℕ) → given_rows ≡ rows → IsGrown s m rows j → MaySettle s m given_rows
may_settle s m rows given_rows j e g = record {
  keys = g.sound.1.keys;
  entities = g.sound.1.entities;
  whole = g.whole;
  have = rw e (have_rows s m rows j g);
  count = rw e g.count;
}

-- and what it leaves: `rows` are those before, and `after` those after it
pub stage_settled : (s : Theory) (m m' : Content) (rows taken left after : List ℕ) (j : ℕ) → taken ≡ rows → after ≡ left → IsGrown s m rows j
    → made_of m ≤ no_row → IsWhole m' → (rep : ℕ → ℕ) × IsImage m m' taken left rep IsSame → ((terms : ℕ → Term) → IsSound s m taken terms → IsSound s m' left terms) → RulesHold s m' → GivenHold s m' left
    → IsStage s m' after j
stage_settled s m m' rows taken left after j e f g few w i snd ru gi = rw f (record { grown = IsGrown-image s m m' taken left j (rw e g) few w i snd; rules = ru; given = gi })

-- no depth up to j closes, where some cell is empty at the end of stage j
pub one_more_open : (s : Theory) (m : Content) (rows : List ℕ) (j : ℕ) → IsTheory s → IsStage s m rows j → (AllFilled m → ⊥) → ((i : ℕ) → i < j → Closes s i → ⊥) → (i : ℕ) → i < j + 1 → Closes s i → ⊥
one_more_open s m rows j th h empty before i b c = ⊎_elim (λ l. before i l c) (λ q. empty (closes_filled s m rows j th h (rw q at c))) (below_or_at i j b)

-- the last stage is the depth
pub as_stage : (s : Theory) (m : Content) (rows : List ℕ) (j k : ℕ) → j ≡ k → IsStage s m rows j → IsStage s m rows k
as_stage s m rows j k e h = rw (← e) h

pub not_filled : (m : Content) (b : Bool) → b ≡ false → MatchBool b (AllFilled m) (AllFilled m → ⊥) → AllFilled m → ⊥
not_filled m true e h = absurd (false≢true (sym e))
not_filled m false e h = h

-- where a cell is empty there are rows
pub some_made : (m : Content) → IsWhole m → (AllFilled m → ⊥) → 0 < made_of m
some_made m w empty = ⊎_elim (λ some. some) (λ none. absurd (empty (λ r k d live e. absurd (omega (arith, live_made m r w live, none))))) (cases_lt 0 (made_of m))
