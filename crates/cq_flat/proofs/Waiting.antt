-- Nodes that are joined once the pairs that wait are.
use Rattle.std.proofs.Common.{◌≡◌, ℕ, ◌<◌, List, sym, ◌∙◌}
use Rattle.std.specs.Prelude.{Contains}
use Rattle.cq_flat.specs.Closing.{Joined, same, waiting, symmetric, transitive}

module _ (n : ℕ) (class class' : ℕ → ℕ) (pending pending' : List (ℕ × ℕ))
    (now : (a b : ℕ) → a < n → b < n → class a ≡ class b → Joined n class' pending' a b)
    (later : (a b : ℕ) → Contains {X = ℕ × ℕ} pending (a, b) → Joined n class' pending' a b) where
  pub Joined-map : {a b : ℕ} → Joined n class pending a b → Joined n class' pending' a b
  Joined-map (same {a} {b} la lb e) = now a b la lb e
  Joined-map (waiting {a} {b} w) = later a b w
  Joined-map (symmetric j) = symmetric (Joined-map j)
  Joined-map (transitive i j) = transitive (Joined-map i) (Joined-map j)

-- more pairs wait
pub Joined-more : (n : ℕ) (class : ℕ → ℕ) (pending pending' : List (ℕ × ℕ)) → ((a b : ℕ) → Contains {X = ℕ × ℕ} pending (a, b) → Contains {X = ℕ × ℕ} pending' (a, b)) → (a b : ℕ) → Joined n class pending a b → Joined n class pending' a b
Joined-more n class pending pending' kept a b j = Joined-map n class class pending pending' (λ a b la lb e. same la lb e) (λ a b w. waiting (kept a b w)) j

-- each pair that waits is of one class
pub Joined-done : (n : ℕ) (class : ℕ → ℕ) (pending : List (ℕ × ℕ)) → ((a b : ℕ) → Contains {X = ℕ × ℕ} pending (a, b) → class a ≡ class b) → {a b : ℕ} → Joined n class pending a b → class a ≡ class b
Joined-done n class pending done (same la lb e) = e
Joined-done n class pending done (waiting {a} {b} w) = done a b w
Joined-done n class pending done (symmetric j) = sym (Joined-done n class pending done j)
Joined-done n class pending done (transitive i j) = Joined-done n class pending done i ∙ Joined-done n class pending done j
