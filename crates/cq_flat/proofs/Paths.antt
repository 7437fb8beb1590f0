-- Ways from one node to another.
use Rattle.std.proofs.Common.{◌≡◌, ◌≢◌, ℕ, subst, ◌⊎◌, inl, inr, ⊎_elim}
use Rattle.std.proofs.lemmas.Bool.{cases_eq}
use Rattle.cq_flat.specs.Partition.{Through, here, on}

pub through_start : (P : ℕ → Type 0) (follow : ℕ → ℕ) {a b : ℕ} → Through P follow a b → P a
through_start P follow (here p) = p
through_start P follow (on p r) = p

pub through_both : (P : ℕ → Type 0) (follow : ℕ → ℕ) {a b c : ℕ} → Through P follow a b → Through P follow b c → Through P follow a c
through_both P follow (here p) s = s
through_both P follow (on p r) s = on p (through_both P follow r s)

-- where all on the way are of another kind, and are followed by the same as before
pub through_map : (P Q : ℕ → Type 0) (follow other : ℕ → ℕ) → ((k : ℕ) → P k → Q k) → ((k : ℕ) → P k → other k ≡ follow k) → {a b : ℕ} → Through P follow a b → Through Q other a b
through_map P Q follow other f g (here {a} p) = here (f a p)
through_map P Q follow other f g (on {a} {b} p r) = on (f a p) (rw (g a p) (through_map P Q follow other f g r))

-- up to the first time at z, what follows z doesn't matter
pub through_until : (P Q : ℕ → Type 0) (follow other : ℕ → ℕ) (z : ℕ) → ((k : ℕ) → P k → Q k) → ((k : ℕ) → P k → k ≢ z → other k ≡ follow k) → {a b : ℕ} → Through P follow a b → b ≡ z → Through Q other a z
through_until P Q follow other z f g (here {a} p) e = let h : Through Q other a a = here (f a p) in subst (Through Q other a) e h
through_until P Q follow other z f g (on {a} {b} p r) e = elim (cases_eq a z) as (λ _. Through Q other a z) [
  | inl i ↦ rw i (here (rw i at (f a p)))
  | inr n ↦ on (f a p) (rw (g a p n) (through_until P Q follow other z f g r e))
]

abbrev pub Besides : (ℕ → Type 0) → ℕ → ℕ → Type 0
Besides P z k = P k × (k ≢ z)

-- after the last time at z, one doesn't come to z
pub through_after : (P : ℕ → Type 0) (follow : ℕ → ℕ) (z : ℕ) {a b : ℕ} → b ≢ z → Through P follow a b → Through (Besides P z) follow a b ⊎ Through (Besides P z) follow (follow z) b
through_after P follow z n (here p) = inl (here (p, n))
through_after P follow z n (on {a} {b} p r) = ⊎_elim
    (λ o. elim (cases_eq a z) as (λ _. Through (Besides P z) follow a b ⊎ Through (Besides P z) follow (follow z) b) [
      | inl i ↦ inr (rw i at o)
      | inr m ↦ inl (on (p, m) o)
    ])
    inr
    (through_after P follow z n r)
