-- Pairs of one class are skipped.
use Rattle.std.proofs.Common.{◌≡◌, ◌≢◌, ℕ, List, [], ◌∷◌, ◌++◌, Option, Some, None, sym, ◌∙◌, ap, refl, ◌⊎◌, inl, inr, ⊎_elim}
use Rattle.std.proofs.lemmas.List.Elements.{Contains-append_left, Contains-push, Contains-push_cases}
use Rattle.std.proofs.lemmas.Option.{some_pair_parts}
use Rattle.std.specs.Prelude.{Contains}
use Rattle.cq_flat.specs.Closing.{Skips}

-- so far only pairs of one class were taken out
pub record IsSkipping (class : ℕ → ℕ) (old pending : List (ℕ × ℕ)) : Type 0 where
  pub fewer : (a b : ℕ) → Contains {X = ℕ × ℕ} pending (a, b) → Contains {X = ℕ × ℕ} old (a, b)
  pub skipped : (a b : ℕ) → Contains {X = ℕ × ℕ} old (a, b) → Contains {X = ℕ × ℕ} pending (a, b) ⊎ (class a ≡ class b)

pub skipping_none : (class : ℕ → ℕ) (old : List (ℕ × ℕ)) → IsSkipping class old old
skipping_none class old = record { fewer = λ a b c. c; skipped = λ a b c. inl c }

module _ (class : ℕ → ℕ) (old pending rest : List (ℕ × ℕ)) (a b : ℕ) (e : pending ≡ rest ++ (a, b) ∷ []) (s : IsSkipping class old pending) where
  still : (c d : ℕ) → Contains {X = ℕ × ℕ} rest (c, d) → Contains {X = ℕ × ℕ} old (c, d)
  still c d h = s.fewer c d (rw e (Contains-append_left rest ((a, b) ∷ []) (c, d) h))

  -- a pair that waited waits, or is the one that was taken out
  cases : (c d : ℕ) → Contains {X = ℕ × ℕ} pending (c, d) → Contains {X = ℕ × ℕ} rest (c, d) ⊎ ((a ≡ c) × (b ≡ d))
  cases c d h = ⊎_elim inl (λ (i : ◌≡◌ {A = ℕ × ℕ} (a, b) (c, d)). inr (ap (λ (z : ℕ × ℕ). z.0) i, ap (λ (z : ℕ × ℕ). z.1) i)) (Contains-push_cases rest (a, b) (c, d) (rw e at h))

  pub taken : Contains {X = ℕ × ℕ} old (a, b)
  taken = s.fewer a b (rw e (Contains-push rest (a, b)))

  pub skipping_more : class a ≡ class b → IsSkipping class old rest
  skipping_more same = record {
    fewer = still;
    skipped = λ c d h. ⊎_elim (λ o. ⊎_elim inl (λ i. inr (ap class (sym i.0) ∙ same ∙ ap class i.1)) (cases c d o)) inr (s.skipped c d h);
  }

  pub skips_pair : class a ≢ class b → Skips class old rest (Some (class a, class b))
  skips_pair differ = record {
    fewer = still;
    skipped = λ c d h. ⊎_elim (λ o. ⊎_elim inl (λ i. inr (inr (ap Some (both i.0 i.1)))) (cases c d o)) (λ o. inr (inl o)) (s.skipped c d h);
    next = λ x y i. let j = parts x y i in (λ q. differ (j.0 ∙ q ∙ sym j.1), (a, b, taken, j.0, j.1));
    none = λ i. absurd (cc);
  } where
    both : {c d : ℕ} → a ≡ c → b ≡ d → ◌≡◌ {A = ℕ × ℕ} (class a, class b) (class c, class d)
    both i j = rw (i, j) refl

    parts : (x y : ℕ) → ◌≡◌ {A = Option (ℕ × ℕ)} (Some (class a, class b)) (Some (x, y)) → (class a ≡ x) × (class b ≡ y)
    parts x y i = some_pair_parts (class a) x (class b) y i

pub skips_none : (class : ℕ → ℕ) (old pending : List (ℕ × ℕ)) → pending ≡ [] → IsSkipping class old pending → Skips class old pending None
skips_none class old pending e s = record {
  fewer = s.fewer;
  skipped = λ a b h. ⊎_elim inl (λ o. inr (inl o)) (s.skipped a b h);
  next = λ x y i. absurd (cc);
  none = λ i. e;
}
