-- The numbers of the edges that begin at an entity.
use Rattle.std.proofs.Common.{ℕ, Bool, true, false, List, [], ◌∷◌, ◌≡◌, ◌+◌, cond, map, filter, refl, ◌∙◌}
use Rattle.std.specs.Prelude.{◌==◌, if◌then◌else◌}
use Rattle.std.specs.List.{enumerate_from}
use Rattle.cq_theory.specs.declared.schema.Edge.{Edge}
use Rattle.cq_theory.specs.Groups.{positions_from}

-- the numbers of the edges from an entity are the positions of the entity among the sources
pub edge_numbers : (s : ℕ) (edges : List Edge) (e : ℕ)
    → map (λ (p : ℕ × Edge). p.0) (filter (λ (p : ℕ × Edge). p.1.from == e) (enumerate_from s edges)) ≡ positions_from s (map (λ (edge : Edge). edge.from) edges) e
edge_numbers s [] e = refl
edge_numbers s (edge ∷ edges) e =
    let rest = edge_numbers (s + 1) edges e in
    kept (edge.from == e) (filter (λ (p : ℕ × Edge). p.1.from == e) (enumerate_from (s + 1) edges))
    ∙ (λ i. if edge.from == e then s ∷ rest i else rest i)
  where
    kept : (b : Bool) (ps : List (ℕ × Edge)) → map (λ (p : ℕ × Edge). p.0) (cond b ((s, edge) ∷ ps) ps) ≡ (if b then s ∷ map (λ (p : ℕ × Edge). p.0) ps else map (λ (p : ℕ × Edge). p.0) ps)
    kept true ps = refl
    kept false ps = refl
