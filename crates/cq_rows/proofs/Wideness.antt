-- Many live rows are many terms of which no two are equal.
use Rattle.std.proofs.Common.{◌≡◌, ℕ, zero, suc, ◌<◌, Bool, true, false, List, [], ◌∷◌, ◌++◌, length, Some, cond, refl, sym, ◌∙◌, ap, arith, ⊎_elim, ◌⊎◌, inl, inr, length-append}
use Rattle.std.proofs.lemmas.Bool.{false≢true, cases_Bool}
use Rattle.std.proofs.lemmas.List.{append-nil}
use Rattle.std.proofs.lemmas.Option.{none-some, same_Some}
use Rattle.std.specs.Prelude.{slice_get}
use Rattle.cq_tables.specs.Content.{Content, made_of, live_of, entity_of}
use Rattle.cq_rows.specs.Theory.{Term, Theory, IsTheory, IsWide, generator_term}
use Rattle.cq_rows.specs.Rows.{IsName, live_below, live_count}
use Rattle.cq_rows.specs.Stage.{IsStage}
use Rattle.cq_rows.proofs.Stages.{within_one_row}

pick : (P : Term → Type 0) (b : Bool) → (b ≡ true → (t : Term) × P t) → Term
pick P true h = (h refl).0
pick P false h = generator_term 0

pick_ok : (P : Term → Type 0) (b : Bool) (h : b ≡ true → (t : Term) × P t) → b ≡ true → P (pick P b h)
unfolding pick
pick_ok P true h e = (h refl).1
pick_ok P false h e = absurd (false≢true e)

terms_below : (ℕ → Term) → Content → ℕ → List Term
terms_below f m zero = []
terms_below f m (suc n) = terms_below f m n ++ cond (live_of m n) (f n ∷ []) []

terms_live : (f : ℕ → Term) (m : Content) (n : ℕ) → live_of m n ≡ true → terms_below f m (suc n) ≡ terms_below f m n ++ f n ∷ []
unfolding terms_below
terms_live f m n l = rw l refl

terms_dead : (f : ℕ → Term) (m : Content) (n : ℕ) → live_of m n ≡ false → terms_below f m (suc n) ≡ terms_below f m n
unfolding terms_below
terms_dead f m n l = rw l (append-nil (terms_below f m n))

terms_none : (f : ℕ → Term) (m : Content) → terms_below f m zero ≡ []
unfolding terms_below
terms_none f m = refl

length-terms : (f : ℕ → Term) (m : Content) (n : ℕ) → length (terms_below f m n) ≡ live_below m n
length-terms f m zero = ap length (terms_none f m)
length-terms f m (suc n) = elim (cases_Bool (live_of m n)) as (λ _. length (terms_below f m (suc n)) ≡ live_below m (suc n)) [
  | inl l ↦ ap length (terms_live f m n l) ∙ length-append (terms_below f m n) (f n ∷ []) ∙ rw (l, length-terms f m n) refl
  | inr l ↦ ap length (terms_dead f m n l) ∙ length-terms f m n ∙ rw l (omega arith)
]

slice_push : {A : Type 0} (xs : List A) (y t : A) (i : ℕ) → slice_get (xs ++ y ∷ []) i ≡ Some t → (slice_get xs i ≡ Some t) ⊎ ((i ≡ length xs) × (t ≡ y))
slice_push [] y t zero h = inr (refl, sym (same_Some y t h))
slice_push [] y t (suc i) h = absurd (none-some t h)
slice_push (x ∷ xs) y t zero h = inl h
slice_push (x ∷ xs) y t (suc i) h = ⊎_elim (λ p. inl p) (λ q. inr (ap suc q.0, q.1)) (slice_push xs y t i h)

-- the row of a term of the list
record IsTermOf (f : ℕ → Term) (m : Content) (i : ℕ) (t : Term) : Type 0 where
  row : ℕ
  live : live_of m row ≡ true
  is : t ≡ f row
  place : i ≡ live_below m row

term_at : (f : ℕ → Term) (m : Content) (n i : ℕ) (t : Term) → slice_get (terms_below f m n) i ≡ Some t → IsTermOf f m i t
term_at f m zero i t h = absurd (none-some t (rw (terms_none f m) at h))
term_at f m (suc n) i t h = elim (cases_Bool (live_of m n)) as (λ _. IsTermOf f m i t) [
  | inl l ↦ ⊎_elim (term_at f m n i t) (λ q. record { row = n; live = l; is = q.1; place = q.0 ∙ length-terms f m n }) (slice_push (terms_below f m n) (f n) t i (rw (terms_live f m n l) at h))
  | inr l ↦ term_at f m n i t (rw (terms_dead f m n l) at h)
]

pub wide_from_rows : (s : Theory) (m : Content) (rows : List ℕ) (j n : ℕ) → IsTheory s → IsStage s m rows j → n < live_count m → IsWide s j n
wide_from_rows s m rows j n th h many =
    let names = λ (r : ℕ). pick (IsName s m rows j r) (live_of m r) (h.grown.named r) in
    let name = λ (r : ℕ) (l : live_of m r ≡ true). pick_ok (IsName s m rows j r) (live_of m r) (h.grown.named r) l in
    wide_from_names names name
  where
    name_as : (r : ℕ) (t u : Term) → t ≡ u → IsName s m rows j r u → IsName s m rows j r t
    name_as r t u e n = record { sort = rw e n.sort; depth = rw e n.depth; row = rw e n.row }

    wide_from_names : (f : ℕ → Term) → ((r : ℕ) → live_of m r ≡ true → IsName s m rows j r (f r)) → IsWide s j n
    wide_from_names f name = record {
      terms = terms_below f m (made_of m);
      many = rw (length-terms f m (made_of m)) many;
      sorts = λ i t e. let o = term_at f m (made_of m) i t e in let k = name_as o.row t (f o.row) o.is (name o.row o.live) in (entity_of m o.row, k.sort, k.depth);
      apart = λ i k t u ei ek ne d.
          let o = term_at f m (made_of m) i t ei in
          let p = term_at f m (made_of m) k u ek in
          let rt = (name_as o.row t (f o.row) o.is (name o.row o.live)).row in
          let ru = (name_as p.row u (f p.row) p.is (name p.row p.live)).row in
          ne (o.place ∙ ap (live_below m) (same_Some o.row p.row (sym rt ∙ within_one_row s m rows j th h d ∙ ru)) ∙ sym p.place);
    }
