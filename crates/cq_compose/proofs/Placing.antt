-- What stands at the place of an edge in a block.
use Rattle.std.proofs.Common.{ℕ, Bool, true, false, List, [], ◌∷◌, Option, Some, ◌≡◌, ◌+◌, cond, map, filter, length, refl, sym, ap, ◌∙◌}
use Rattle.std.specs.Prelude.{◌==◌, if◌then◌else◌, slice_get, option_and_then, option_map}
use Rattle.std.specs.List.{enumerate_from}
use Rattle.std.proofs.lemmas.Option.{slice_get-map, slice_get_within}
use Rattle.cq_theory.specs.declared.schema.Edge.{Edge}
use Rattle.cq_theory.specs.Groups.{positions_from, positions, place_of, places, edge_sources}
use Rattle.cq_theory.proofs.Grouped.{made_at}
use Rattle.cq_blocks.specs.declared.block.Block.{Block}
use Rattle.cq_query.specs.QueryData.{QueryData as Query}
use Rattle.cq_query.specs.Translation.{at_edge}
use Rattle.cq_query.proofs.Parted.{place_read}

-- what is made of the numbers of the edges from an entity
pub numbers_from : {X : Type 0} (f : ℕ → X) (s : ℕ) (edges : List Edge) (e : ℕ)
    → map (λ (p : ℕ × Edge). f p.0) (filter (λ (p : ℕ × Edge). p.1.from == e) (enumerate_from s edges)) ≡ map f (positions_from s (map (λ (edge : Edge). edge.from) edges) e)
numbers_from f s [] e = refl
numbers_from {X} f s (edge ∷ edges) e =
    step (edge.from == e) (filter (λ (p : ℕ × Edge). p.1.from == e) (enumerate_from (s + 1) edges)) (positions_from (s + 1) (map (λ (x : Edge). x.from) edges) e) (numbers_from f (s + 1) edges e)
  where
    step : (b : Bool) (ps : List (ℕ × Edge)) (qs : List ℕ) → map (λ (p : ℕ × Edge). f p.0) ps ≡ map f qs
        → map (λ (p : ℕ × Edge). f p.0) (cond b ((s, edge) ∷ ps) ps) ≡ map f (if b then s ∷ qs else qs)
    step true ps qs h = ap (λ l. f s ∷ l) h
    step false ps qs h = h

module _ {X : Type 0} (Q : Query) (edges : List Edge) (part : Block → List X) (n : ℕ) (edge : Edge) (at : slice_get edges n ≡ Some edge)
    (block : Block) (there : slice_get Q.blocks edge.from ≡ Some block) where
  source_at : slice_get (edge_sources edges) n ≡ Some edge.from
  source_at = slice_get-map (λ (x : Edge). x.from) edges n ∙ ap (option_map (λ (x : Edge). x.from)) at

  pub at_edge-in_block : at_edge Q edges part n ≡ slice_get (part block) (place_of (edge_sources edges) n)
  at_edge-in_block =
      ap (option_and_then (λ (x : Edge). option_and_then (λ (b : Block). option_and_then (slice_get (part b)) (slice_get (places (edge_sources edges)) n)) (slice_get Q.blocks x.from))) at
      ∙ ap (option_and_then (λ (b : Block). option_and_then (slice_get (part b)) (slice_get (places (edge_sources edges)) n))) there
      ∙ ap (option_and_then (slice_get (part block))) (made_at (place_of (edge_sources edges)) (length (edge_sources edges)) n (slice_get_within (edge_sources edges) n edge.from source_at))

  -- where the block has what f gives of each edge from the entity, it is what f gives of this one
  pub at_edge-listed : (f : ℕ → X) → part block ≡ map f (positions (edge_sources edges) edge.from) → at_edge Q edges part n ≡ Some (f n)
  at_edge-listed f are =
      at_edge-in_block ∙ ap (λ l. slice_get l (place_of (edge_sources edges) n)) are
      ∙ slice_get-map f (positions (edge_sources edges) edge.from) (place_of (edge_sources edges) n) ∙ ap (option_map f) (place_read (edge_sources edges) edge.from n source_at)
