-- Paths in tables, and what they say of terms.
use Rattle.std.proofs.Common.{◌≡◌, ℕ, true, List, [], ◌∷◌, ◌++◌, Option, Some, None, refl, sym, ◌∙◌, ap, append_assoc}
use Rattle.std.proofs.lemmas.List.{append-nil}
use Rattle.std.proofs.lemmas.Option.{same_Some, option_and_then_some}
use Rattle.std.specs.Prelude.{slice_index, option_and_then}
use Rattle.cq_tables.specs.Content.{Content, live_of, entity_of, cell_of, step_of, end_of, trace_of, IsWhole, keys_of}
use Rattle.cq_rows.specs.Theory.{Term, Theory, reflexive, symmetric, transitive, key, given, rule, along, generator_term, sort_of, Derives, IsTheory}
use Rattle.cq_rows.specs.Rows.{IsSound, IsImage, IsSame, Extends, row_of_term, RuleJoins, GivenJoins}
use Rattle.cq_rows.proofs.Sorts.{sorted_at, sort-along, end_one, generator_sort}

pub trace_append : (m : Content) (r a : ℕ) (p q : List ℕ) → trace_of m r p ≡ Some a → trace_of m r (p ++ q) ≡ trace_of m a q
trace_append m r a [] q h = ap (λ x. trace_of m x q) (same_Some r a h)
trace_append m r a (k ∷ ks) q h = option_and_then_some (λ x. trace_of m x ks) (cell_of m r k) a h (λ x f g. rw f (trace_append m x a ks q g))

bind_trace : (m : Content) (o : Option ℕ) (p q : List ℕ) → ((x : ℕ) → trace_of m x (p ++ q) ≡ option_and_then (λ a. trace_of m a q) (trace_of m x p)) → option_and_then (λ x. trace_of m x (p ++ q)) o ≡ option_and_then (λ a. trace_of m a q) (option_and_then (λ x. trace_of m x p) o)
bind_trace m None p q h = refl
bind_trace m (Some x) p q h = h x

pub trace-append : (m : Content) (r : ℕ) (p q : List ℕ) → trace_of m r (p ++ q) ≡ option_and_then (λ a. trace_of m a q) (trace_of m r p)
trace-append m r [] q = refl
trace-append m r (k ∷ ks) q = bind_trace m (cell_of m r k) ks q (λ x. trace-append m x ks q)

pub trace_split : (m : Content) (r b : ℕ) (p q : List ℕ) → trace_of m r (p ++ q) ≡ Some b → (a : ℕ) × (trace_of m r p ≡ Some a) × (trace_of m a q ≡ Some b)
trace_split m r b [] q h = (r, refl, h)
trace_split m r b (k ∷ ks) q h = option_and_then_some (λ x. trace_of m x (ks ++ q)) (cell_of m r k) b h (λ x f g. let o = trace_split m x b ks q g in (o.0, rw f o.1, o.2))

pub trace_one : (m : Content) (r k a : ℕ) → cell_of m r k ≡ Some a → trace_of m r (k ∷ []) ≡ Some a
trace_one m r k a h = rw h refl

pub one_trace : (m : Content) (r k a : ℕ) → trace_of m r (k ∷ []) ≡ Some a → cell_of m r k ≡ Some a
one_trace m r k a h = option_and_then_some (λ x. Some x) (cell_of m r k) a h (λ x f g. f ∙ g)

-- where a path leads
pub record LeadsTo (m : Content) (r : ℕ) (p : List ℕ) (a : ℕ) : Type 0 where
  pub live : live_of m a ≡ true
  pub end : end_of (keys_of m) (entity_of m r) p ≡ Some (entity_of m a)

pub trace_leads : (m : Content) (r a : ℕ) (p : List ℕ) → IsWhole m → live_of m r ≡ true → trace_of m r p ≡ Some a → LeadsTo m r p a
trace_leads m r a [] w l h = record { live = rw (← same_Some r a h) l; end = ap (λ x. Some (entity_of m x)) (same_Some r a h) }
trace_leads m r a (k ∷ ks) w l h = option_and_then_some (λ x. trace_of m x ks) (cell_of m r k) a h (λ x f g.
    let held = w.held r k x l f in
    let rest = trace_leads m x a ks w held.live g in
    record { live = rest.live; end = rw held.step rest.end })

-- rows are renamed
pub trace_image : (old new : Content) (rows rows' : List ℕ) (rep : ℕ → ℕ) → IsImage old new rows rows' rep IsSame → IsWhole old → (r a : ℕ) (p : List ℕ) → live_of old r ≡ true → trace_of old r p ≡ Some a → trace_of new (rep r) p ≡ Some (rep a)
trace_image old new rows rows' rep i w r a [] l h = ap (λ x. Some (rep x)) (same_Some r a h)
trace_image old new rows rows' rep i w r a (k ∷ ks) l h = option_and_then_some (λ x. trace_of old x ks) (cell_of old r k) a h (λ x f g.
    let o = i.cell r k x l f in
    rw o.cell (rw o.joined (trace_image old new rows rows' rep i w x a ks (w.held r k x l f).live g)))

-- rows and cells are added
pub trace_extends : (old new : Content) → Extends old new → IsWhole old → (r a : ℕ) (p : List ℕ) → live_of old r ≡ true → trace_of old r p ≡ Some a → trace_of new r p ≡ Some a
trace_extends old new e w r a [] l h = h
trace_extends old new e w r a (k ∷ ks) l h = option_and_then_some (λ x. trace_of old x ks) (cell_of old r k) a h (λ x f g.
    rw (e.cell r k x l f) (trace_extends old new e w x a ks (w.held r k x l f).live g))

pub along_nil : (t : Term) → along t [] ≡ t
along_nil t = ap (λ (p : List ℕ). record { generator = t.generator; path = p }) (append-nil t.path)

pub along_step : (t : Term) (k : ℕ) (ks : List ℕ) → along t (k ∷ ks) ≡ along (along t (k ∷ [])) ks
along_step t k ks = ap (λ (p : List ℕ). record { generator = t.generator; path = p }) (sym (append_assoc t.path (k ∷ []) ks))

-- equal terms stay equal along a path
pub derives_along : (s : Theory) (t u : Term) (e d : ℕ) (p : List ℕ) → Derives s t u → sort_of s t ≡ Some e → end_of s.keys e p ≡ Some d → Derives s (along t p) (along u p)
derives_along s t u e d [] h q f = rw (along_nil t, along_nil u) h
derives_along s t u e d (k ∷ ks) h q f = option_and_then_some (λ x. end_of s.keys x ks) (step_of s.keys e k) d f (λ x g r.
    rw (along_step t k ks, along_step u k ks)
    (derives_along s (along t (k ∷ [])) (along u (k ∷ [])) x d ks (key k e x h q g tt tt) (sort-along s t e x (k ∷ []) q (end_one s.keys e k x g)) r))

-- a row that a path leads to has the term along the path
pub trace_sound : (s : Theory) (m : Content) (rows : List ℕ) (terms : ℕ → Term) → IsSound s m rows terms → IsWhole m → (r a : ℕ) (p : List ℕ) → live_of m r ≡ true → trace_of m r p ≡ Some a → Derives s (along (terms r) p) (terms a)
trace_sound s m rows terms h w r a [] l q = rw (along_nil (terms r), ← same_Some r a q) (reflexive (entity_of m r) (h.sorts r l) tt)
trace_sound s m rows terms h w r a (k ∷ ks) l q = option_and_then_some (λ x. trace_of m x ks) (cell_of m r k) a q (λ x f g.
    let held = w.held r k x l f in
    let leads = trace_leads m x a ks w held.live g in
    let st : step_of s.keys (entity_of m r) k ≡ Some (entity_of m x) = rw (← h.keys) held.step in
    rw (along_step (terms r) k ks)
    (transitive
    (derives_along s (along (terms r) (k ∷ [])) (terms x) (entity_of m x) (entity_of m a) ks (h.cells r k x l f)
    (sort-along s (terms r) (entity_of m r) (entity_of m x) (k ∷ []) (h.sorts r l) (end_one s.keys (entity_of m r) k (entity_of m x) st))
    (rw (← h.keys) leads.end))
    (trace_sound s m rows terms h w x a ks held.live g)))

-- a term is derivably equal to the term of its row
pub term_sound : (s : Theory) (m : Content) (rows : List ℕ) (terms : ℕ → Term) → IsSound s m rows terms → IsWhole m → (t : Term) (e a : ℕ) → sort_of s t ≡ Some e → row_of_term m rows t ≡ Some a → Derives s t (terms a)
term_sound s m rows terms h w t e a q f =
    let o = sorted_at s t e q in
    let g = h.generators t.generator o.start o.found in
    transitive
    (derives_along s (generator_term t.generator) (terms (slice_index rows t.generator)) o.start e t.path g.equal (generator_sort s t.generator o.start o.found) o.end)
    (trace_sound s m rows terms h w (slice_index rows t.generator) a t.path g.live f)

-- terms of one row are derivably equal
pub same_row : (s : Theory) (m : Content) (rows : List ℕ) (terms : ℕ → Term) → IsSound s m rows terms → IsWhole m → (t u : Term) (d e a : ℕ) → sort_of s t ≡ Some d → sort_of s u ≡ Some e → row_of_term m rows t ≡ Some a → row_of_term m rows u ≡ Some a → Derives s t u
same_row s m rows terms h w t u d e a qt qu ft fu = transitive (term_sound s m rows terms h w t d a qt ft) (symmetric (term_sound s m rows terms h w u e a qu fu))

-- what an equation joins is derivably equal
pub rule_derives : (s : Theory) (m : Content) (rows : List ℕ) (terms : ℕ → Term) → IsSound s m rows terms → IsWhole m → (a b : ℕ) → RuleJoins s m a b → Derives s (terms a) (terms b)
rule_derives s m rows terms h w a b j =
    transitive (symmetric (trace_sound s m rows terms h w j.row a j.rule.left j.live j.apart.left_end))
    (transitive (rule j.place j.rule (terms j.row) j.found (h.sorts j.row j.live ∙ ap (λ e. Some e) j.kind) tt tt tt)
    (trace_sound s m rows terms h w j.row b j.rule.right j.live j.apart.right_end))

pub given_derives : (s : Theory) (m : Content) (rows : List ℕ) (terms : ℕ → Term) → IsTheory s → IsSound s m rows terms → IsWhole m → (a b : ℕ) → GivenJoins s m rows a b → Derives s (terms a) (terms b)
given_derives s m rows terms th h w a b j =
    let q = th.given j.place j.left j.right j.found in
    transitive (symmetric (term_sound s m rows terms h w j.left q.target a q.left j.apart.left_end))
    (transitive (given j.place j.found tt tt)
    (term_sound s m rows terms h w j.right q.target b q.right j.apart.right_end))
