-- What uses a member of a class becomes stale, while the ring of the class is gone round.
use Rattle.std.proofs.Common.{◌≡◌, ◌≢◌, ℕ, List, [], ◌++◌, get_or, map, sym, ◌∙◌, ap, ◌⊎◌, inl, inr, ⊎_elim}
use Rattle.std.proofs.Math.ListN.{set}
use Rattle.std.proofs.lemmas.Bool.{cases_eq}
use Rattle.std.proofs.lemmas.List.{get_or-map, get_or-set_other}
use Rattle.cq_flat.specs.Partition.{Has, IsIn, joined}
use Rattle.cq_flat.specs.Closing.{Stales}
use Rattle.cq_flat.proofs.Members.{has_left, has_right, has_cases}
use Rattle.cq_flat.proofs.Relabelling.{joined_differs}

pub record AreStaling (old now : List ℕ) (uses : List (List ℕ)) (class : ℕ) (first stale : List ℕ) : Type 0 where
  pub kept : (a : ℕ) → Has first a → Has stale a
  pub added : (x a : ℕ) → IsIn old class x → Has (get_or uses x []) a → (get_or now x 0 ≡ class) ⊎ Has stale a
  pub fewer : (a : ℕ) → Has stale a → Has first a ⊎ ((x : ℕ) × Has (get_or uses x []) a)

pub staling_start : (old : List ℕ) (uses : List (List ℕ)) (class : ℕ) (first : List ℕ) → AreStaling old old uses class first first
staling_start old uses class first = record { kept = λ a h. h; added = λ x a i h. inl i.1; fewer = λ a h. inl h }

module _ (old now : List ℕ) (uses : List (List ℕ)) (class to : ℕ) (first stale : List ℕ) (s : AreStaling old now uses class first stale) where
  pub staling_more : (node : ℕ) → AreStaling old (set now node to) uses class first (stale ++ get_or uses node [])
  staling_more node = record {
    kept = λ a h. has_left stale (get_or uses node []) a (s.kept a h);
    added = λ x a i h. elim (cases_eq x node) as (λ _. (get_or (set now node to) x 0 ≡ class) ⊎ Has (stale ++ get_or uses node []) a) [
      | inl e ↦ inr (has_right stale (get_or uses node []) a (rw e at h))
      | inr n ↦ ⊎_elim (λ o. inl (get_or-set_other now node x to 0 n ∙ o)) (λ o. inr (has_left stale (get_or uses node []) a o)) (s.added x a i h)
    ];
    fewer = λ a h. ⊎_elim (s.fewer a) (λ o. inr (node, o)) (has_cases stale (get_or uses node []) a h);
  }

  pub staled : class ≢ to → now ≡ map (joined class to) old → Stales old uses class first stale
  staled ne e = record {
    kept = s.kept;
    added = λ x a i h. ⊎_elim
        (λ o. absurd (joined_differs class to (get_or old x 0) ne (sym (ap (λ z. get_or z x 0) e ∙ get_or-map (joined class to) old x 0 0 i.0) ∙ o)))
        (λ o. o)
        (s.added x a i h);
    fewer = s.fewer;
  }
