-- The entities of terms.
use Rattle.std.proofs.Common.{◌≡◌, ℕ, ◌<◌, true, List, [], ◌∷◌, ◌++◌, length, Option, Some, None, refl, ◌∙◌, ap}
use Rattle.std.proofs.lemmas.Option.{none-some, same_Some, slice_get_within, option_and_then_some}
use Rattle.std.specs.Prelude.{slice_get, slice_index, option_and_then}
use Rattle.cq_tables.specs.Content.{Content, live_of, entity_of, step_of, end_of, keys_of}
use Rattle.cq_rows.specs.Theory.{Term, Theory, along, generator_term, sort_of}
use Rattle.cq_rows.specs.Rows.{HaveRows}

-- a generator's entity, and the entity at the end of the path
pub record SortedAt (s : Theory) (t : Term) (d : ℕ) : Type 0 where
  pub start : ℕ
  pub found : slice_get s.generators t.generator ≡ Some (Some start)
  pub end : end_of s.keys start t.path ≡ Some d

sorted_from : (s : Theory) (t : Term) (d : ℕ) (o : Option (Option ℕ)) → slice_get s.generators t.generator ≡ o → option_and_then (λ e. end_of s.keys e t.path) (option_and_then (λ e. e) o) ≡ Some d → SortedAt s t d
sorted_from s t d None f h = absurd (none-some d h)
sorted_from s t d (Some None) f h = absurd (none-some d h)
sorted_from s t d (Some (Some e)) f h = record { start = e; found = f; end = h }

pub sorted_at : (s : Theory) (t : Term) (d : ℕ) → sort_of s t ≡ Some d → SortedAt s t d
unfolding sort_of
sorted_at s t d h = sorted_from s t d (slice_get s.generators t.generator) refl h

pub sort_from : (s : Theory) (t : Term) (e d : ℕ) → slice_get s.generators t.generator ≡ Some (Some e) → end_of s.keys e t.path ≡ Some d → sort_of s t ≡ Some d
unfolding sort_of
sort_from s t e d f h = rw f h

-- a path in two parts
pub end_append : (keys : List (ℕ × ℕ)) (e d : ℕ) (p q : List ℕ) → end_of keys e p ≡ Some d → end_of keys e (p ++ q) ≡ end_of keys d q
end_append keys e d [] q h = ap (λ x. end_of keys x q) (same_Some e d h)
end_append keys e d (k ∷ ks) q h = option_and_then_some (λ x. end_of keys x ks) (step_of keys e k) d h (λ x f g. rw f (end_append keys x d ks q g))

pub end_split : (keys : List (ℕ × ℕ)) (e d : ℕ) (p q : List ℕ) → end_of keys e (p ++ q) ≡ Some d → (x : ℕ) × (end_of keys e p ≡ Some x) × (end_of keys x q ≡ Some d)
end_split keys e d [] q h = (e, refl, h)
end_split keys e d (k ∷ ks) q h = option_and_then_some (λ x. end_of keys x (ks ++ q)) (step_of keys e k) d h (λ x f g. let r = end_split keys x d ks q g in (r.0, rw f r.1, r.2))

-- one key
pub end_one : (keys : List (ℕ × ℕ)) (e k d : ℕ) → step_of keys e k ≡ Some d → end_of keys e (k ∷ []) ≡ Some d
end_one keys e k d h = rw h refl

pub one_end : (keys : List (ℕ × ℕ)) (e k d : ℕ) → end_of keys e (k ∷ []) ≡ Some d → step_of keys e k ≡ Some d
one_end keys e k d h = option_and_then_some (λ x. Some x) (step_of keys e k) d h (λ x f g. f ∙ g)

pub sort-along : (s : Theory) (t : Term) (e d : ℕ) (p : List ℕ) → sort_of s t ≡ Some e → end_of s.keys e p ≡ Some d → sort_of s (along t p) ≡ Some d
sort-along s t e d p h q =
    let a = sorted_at s t e h in
    sort_from s (along t p) a.start d a.found (end_append s.keys a.start e t.path p a.end ∙ q)

pub generator_sort : (s : Theory) (g e : ℕ) → slice_get s.generators g ≡ Some (Some e) → sort_of s (generator_term g) ≡ Some e
generator_sort s g e f = sort_from s (generator_term g) e e f refl

-- what holds of a term over the presentation, at its generator's row
pub record IsSide (m : Content) (rows : List ℕ) (t : Term) (d : ℕ) : Type 0 where
  pub below : t.generator < length rows
  pub live : live_of m (slice_index rows t.generator) ≡ true
  pub end : end_of (keys_of m) (entity_of m (slice_index rows t.generator)) t.path ≡ Some d

pub side_of : (s : Theory) (m : Content) (rows : List ℕ) (t : Term) (d : ℕ) → HaveRows s m rows → (keys_of m) ≡ s.keys → length rows ≡ length s.generators → sort_of s t ≡ Some d → IsSide m rows t d
side_of s m rows t d h k n q =
    let a = sorted_at s t d q in
    let r = h t.generator a.start a.found in
    record {
      below = rw n (slice_get_within s.generators t.generator (Some a.start) a.found);
      live = r.0;
      end = rw (r.1, k) a.end;
    }
