-- Constants that are named by their nodes.
use Rattle.std.proofs.Common.{◌≡◌, ℕ, ◌<◌, List, length, get_or, replicate, Option, None, sym, ◌∙◌, ap, arith}
use Rattle.std.proofs.Math.ListN.{set}
use Rattle.std.proofs.lemmas.List.{map-set, get_or-map, length-map, length-replicate, get_or-replicate, ext_get_or}
use Rattle.std.proofs.lemmas.Option.{slice_get_past}
use Rattle.cq_theory.specs.declared.constant.Con.{Con}
use Rattle.cq_flat.specs.declared.node.Node.{Node}
use Rattle.cq_flat.specs.Constants.{own_constant, constant_at, constants_at}

pub placed_none : (nodes : List Node) (n : ℕ) → constants_at nodes (replicate n (length nodes)) ≡ replicate n None
placed_none nodes n = ext_get_or None (constants_at nodes (replicate n (length nodes))) (replicate n None)
    (length-map (replicate n (length nodes)) (constant_at nodes) ∙ length-replicate n (length nodes) ∙ sym (length-replicate n None))
    (λ k h.
    let l : k < length (replicate n (length nodes)) = rw length-map at h in
    let m : k < n = omega (arith, l, length-replicate n (length nodes)) in
    get_or-map (constant_at nodes) (replicate n (length nodes)) k (length nodes) None l
    ∙ ap (constant_at nodes) (get_or-replicate n k (length nodes) (length nodes) m)
    ∙ ap own_constant (slice_get_past nodes (length nodes) (omega arith))
    ∙ sym (get_or-replicate n k None None m))

pub placed_set : (nodes : List Node) (places : List ℕ) (k place : ℕ) (o : Option Con) → constant_at nodes place ≡ o → constants_at nodes (set places k place) ≡ set (constants_at nodes places) k o
placed_set nodes places k place o e = map-set (constant_at nodes) places k place ∙ ap (set (constants_at nodes places) k) e

pub placed_at : (nodes : List Node) (places : List ℕ) (k d : ℕ) → k < length places → get_or (constants_at nodes places) k None ≡ constant_at nodes (get_or places k d)
placed_at nodes places k d l = get_or-map (constant_at nodes) places k d None l

pub placed_count : (nodes : List Node) (places : List ℕ) → length (constants_at nodes places) ≡ length places
placed_count nodes places = length-map places (constant_at nodes)
