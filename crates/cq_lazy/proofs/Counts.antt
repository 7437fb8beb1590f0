-- The weights of a composite's blocks, and which widths pass the limit.
use Rattle.std.proofs.Common.{ℕ, zero, suc, Bool, true, false, List, [], ◌∷◌, ◌++◌, Some, ◌≡◌, ◌+◌, ◌||◌, map, sum, length, take, get_or, min, ◌<◌, refl, sym, ap, ◌∙◌, arith}
use Rattle.std.specs.Prelude.{slice_get, slice_index, nat_lt, codes, decimal}
use Rattle.std.specs.List.{flat_map, enumerate_from, list_any}
use Rattle.std.proofs.lemmas.List.{map-append, length-map, take_more}
use Rattle.std.proofs.lemmas.List.FromFn.{length-enumerate_from}
use Rattle.std.proofs.lemmas.List.Sums.{sum_by-append, sum_by-cons}
use Rattle.std.proofs.lemmas.Bool.Decides.{nat_tests}
use Rattle.cq_base.specs.declared.name.Name.{Name}
use Rattle.cq_theory.specs.EntTerm as ent
use Rattle.cq_theory.specs.TypeTerm as typ
use Rattle.cq_theory.specs.Presentation.{has_long_side}
use Rattle.cq_blocks.specs.declared.block.Block.{Block}
use Rattle.cq_query.specs.QueryData.{QueryData as Query}
use Rattle.cq_query.specs.Translation.{variables_at, variables_in}
use Rattle.cq_compose.specs.Composite.{component_entities, composite_block, composite, is_large_block, is_large}
use Rattle.cq_compose.proofs.Places.{length-flat}
use Rattle.cq_lazy.specs.Widths.{capped, widths_of, weight_of, weighed}

-- it makes no difference whether the summands are capped
capped-sum : {X : Type 0} (f : X → ℕ) (xs : List X) → capped (sum (map (λ x. capped (f x)) xs)) ≡ capped (sum (map f xs))
capped-sum f [] = refl
capped-sum f (x ∷ xs) =
    let rest : min (sum (map (λ y. capped (f y)) xs)) 16000001 ≡ min (sum (map f xs)) 16000001 = capped-sum f xs in
    let one : sum (map (λ y. capped (f y)) (x ∷ xs)) ≡ min (f x) 16000001 + sum (map (λ y. capped (f y)) xs) = sum_by-cons (λ n. n) (capped (f x)) (map (λ y. capped (f y)) xs) in
    let all : sum (map f (x ∷ xs)) ≡ f x + sum (map f xs) = sum_by-cons (λ n. n) (f x) (map f xs) in
    omega (arith, rest, one, all)

numbered_weights : (w : ℕ → ℕ) (s : ℕ) (entities : List ℕ)
    → map (λ (v : Name × ℕ). w v.1) (map (λ (p : ℕ × ℕ). let v : Name × ℕ = (codes "x" ++ decimal p.0, p.1) in v) (enumerate_from s entities)) ≡ map w entities
numbered_weights w s [] = refl
numbered_weights w s (e ∷ entities) = ap (λ l. w e ∷ l) (numbered_weights w (s + 1) entities)

entity_weights : (w : ℕ → ℕ) (vs : List (Name × ℕ)) → map w (map (λ (v : Name × ℕ). v.1) vs) ≡ map (λ (v : Name × ℕ). w v.1) vs
entity_weights w [] = refl
entity_weights w (v ∷ vs) = ap (λ l. w v.1 ∷ l) (entity_weights w vs)

component_weights : (Q : Query) (w : ℕ → ℕ) (vs : List (Name × ℕ)) → sum (map w (flat_map (λ (y : Name × ℕ). map (λ (v : Name × ℕ). v.1) (variables_at Q y.1)) vs))
    ≡ sum (map (λ (y : Name × ℕ). sum (map (λ (v : Name × ℕ). w v.1) (variables_at Q y.1))) vs)
component_weights Q w [] = refl
component_weights Q w (y ∷ vs) =
    let own : List ℕ = map (λ (v : Name × ℕ). v.1) (variables_at Q y.1) in
    let others : List ℕ = flat_map (λ (z : Name × ℕ). map (λ (v : Name × ℕ). v.1) (variables_at Q z.1)) vs in
    let weight : Name × ℕ → ℕ = λ z. sum (map (λ (v : Name × ℕ). w v.1) (variables_at Q z.1)) in
    ap sum (map-append w own others) ∙ sum_by-append (λ n. n) (map w own) (map w others)
    ∙ (λ i. sum (entity_weights w (variables_at Q y.1) i) + component_weights Q w vs i)
    ∙ sym (sum_by-cons (λ n. n) (weight y) (map weight vs))

weight_at : (weights : List ℕ) (bs : List Block) (t : ℕ) → slice_index (map (λ (b : Block). weight_of weights b.vars) bs) t ≡ weight_of weights (variables_in (slice_get bs t))
weight_at weights [] t = refl
weight_at weights (b ∷ bs) zero = refl
weight_at weights (b ∷ bs) (suc t) = weight_at weights bs t

width_at : (bs : List Block) (t : ℕ) → slice_index (map (λ (b : Block). capped (length b.vars)) bs) t ≡ capped (length (variables_in (slice_get bs t)))
width_at [] t = refl
width_at (b ∷ bs) zero = refl
width_at (b ∷ bs) (suc t) = width_at bs t

same_sums : {X : Type 0} (f g : X → ℕ) → ((x : X) → f x ≡ g x) → (xs : List X) → map f xs ≡ map g xs
same_sums f g h [] = refl
same_sums f g h (x ∷ xs) = λ i. h x i ∷ same_sums f g h xs i

module _ (Q W : Query) where
  -- a number for each block of W is one for each block of the composite
  blocks_twice : (f g : Block → ℕ) → ((u : ℕ) (b : Block) → slice_get W.blocks u ≡ Some b → f b ≡ g (composite_block Q W (u, b))) → map f W.blocks ≡ map g (composite Q W).blocks
  blocks_twice f g h = go 0 W.blocks (λ n b at. let here : n ≡ 0 + n = omega arith in h n b at ∙ ap (λ m. g (composite_block Q W (m, b))) here)
    where
      go : (s : ℕ) (bs : List Block) → ((n : ℕ) (b : Block) → slice_get bs n ≡ Some b → f b ≡ g (composite_block Q W (s + n, b)))
          → map f bs ≡ map g (map (composite_block Q W) (enumerate_from s bs))
      go s [] each = refl
      go s (b ∷ bs) each =
          let here : s + 0 ≡ s = omega arith in
          let first : f b ≡ g (composite_block Q W (s, b)) = each 0 b refl ∙ ap (λ m. g (composite_block Q W (m, b))) here in
          let rest = go (s + 1) bs (λ n c at. let there : s + suc n ≡ s + 1 + n = omega arith in each (suc n) c at ∙ ap (λ m. g (composite_block Q W (m, c))) there) in
          λ i. first i ∷ rest i

  -- the weights of the blocks of W, by the weights of those of Q, are those of the composite's
  pub weighed_twice : (weights : List ℕ) → weighed W (weighed Q weights) ≡ weighed (composite Q W) weights
  weighed_twice weights = blocks_twice (λ b. weight_of (weighed Q weights) b.vars) (λ b. weight_of weights b.vars) (λ u b at.
      let w : ℕ → ℕ = slice_index weights in
      let inner : Name × ℕ → ℕ = λ v. sum (map (λ (z : Name × ℕ). w z.1) (variables_at Q v.1)) in
      ap (λ l. capped (sum l)) (same_sums (λ (v : Name × ℕ). slice_index (weighed Q weights) v.1) (λ v. capped (inner v)) (λ v. weight_at weights Q.blocks v.1) b.vars)
      ∙ capped-sum inner b.vars
      ∙ ap capped (sym (component_weights Q w b.vars))
      ∙ ap (λ o. capped (sum (map w (flat_map (λ (y : Name × ℕ). map (λ (v : Name × ℕ). v.1) (variables_at Q y.1)) (variables_in o))))) (sym at)
      ∙ ap (λ l. capped (sum l)) (sym (numbered_weights w 1 (component_entities Q W u))))

  -- and the widths of the composite by the widths of Q
  pub widths_composed : weighed W (widths_of Q) ≡ widths_of (composite Q W)
  widths_composed = blocks_twice (λ b. weight_of (widths_of Q) b.vars) (λ b. capped (length b.vars)) (λ u b at.
      let inner : Name × ℕ → ℕ = λ v. length (variables_at Q v.1) in
      ap (λ l. capped (sum l)) (same_sums (λ (v : Name × ℕ). slice_index (widths_of Q) v.1) (λ v. capped (inner v)) (λ v. width_at Q.blocks v.1) b.vars)
      ∙ capped-sum inner b.vars
      ∙ ap capped (sym (length-flat (λ (y : Name × ℕ). map (λ (v : Name × ℕ). v.1) (variables_at Q y.1)) inner b.vars inner (λ y. length-map (variables_at Q y.1) (λ (v : Name × ℕ). v.1))))
      ∙ ap (λ o. capped (length (flat_map (λ (y : Name × ℕ). map (λ (v : Name × ℕ). v.1) (variables_at Q y.1)) (variables_in o)))) (sym at)
      ∙ ap capped (sym (length-map (enumerate_from 1 (component_entities Q W u)) (λ (p : ℕ × ℕ). let v : Name × ℕ = (codes "x" ++ decimal p.0, p.1) in v) ∙ length-enumerate_from 1 (component_entities Q W u))))

-- the weight of one variable more
pub weight_more : (weights : List ℕ) (vs : List (Name × ℕ)) (i : ℕ) (d : Name × ℕ) (total : ℕ) → i < length vs → total ≡ weight_of weights (take i vs)
    → capped (total + slice_index weights (get_or vs i d).1) ≡ weight_of weights (take (i + 1) vs)
weight_more weights vs i d total within is =
    let f : Name × ℕ → ℕ = λ v. slice_index weights v.1 in
    let so_far : ℕ = sum (map f (take i vs)) in
    let more : sum (map f (take (i + 1) vs)) ≡ sum (map f (take i vs)) + sum (f (get_or vs i d) ∷ []) =
    ap (λ l. sum (map f l)) (take_more vs i d within) ∙ ap sum (map-append f (take i vs) (get_or vs i d ∷ [])) ∙ sum_by-append (λ n. n) (map f (take i vs)) (f (get_or vs i d) ∷ []) in
    let one : sum (f (get_or vs i d) ∷ []) ≡ f (get_or vs i d) + sum [] = sum_by-cons (λ n. n) (f (get_or vs i d)) [] in
    let none : sum [] ≡ 0 = refl in
    let before : total ≡ min (sum (map f (take i vs))) 16000001 = is in
    omega (arith, more, one, none, before)

-- a capped number is above the limit where the number is
over : (n : ℕ) → nat_lt 16000000 (capped n) ≡ nat_lt 16000000 n
over n = grind (arith, nat_tests)

or_right : (c d : Bool) → d ≡ true → (c || d) ≡ true
or_right true d h = refl
or_right false d h = h

or_none : (c d : Bool) → (c || d) ≡ false → (c ≡ false) × (d ≡ false)
or_none true d h = cc
or_none false d h = (refl, h)

-- a block that has too many variables, or else one behind it
large_head : (b : Block) (bs : List Block) (c : Bool) → nat_lt 16000000 (length b.vars) ≡ c → (rest : Bool) → (rest ≡ true → list_any is_large_block bs ≡ true) → (c || rest) ≡ true
    → (is_large_block b || list_any is_large_block bs) ≡ true
large_head b bs true is rest later h =
    ap (λ c. c || list_any has_long_side b.tests || list_any (λ t. nat_lt 1024 (typ.symbols_of t)) b.attributes || list_any (list_any (λ t. nat_lt 1024 (ent.symbols_of t))) b.keys
    || list_any is_large_block bs) is
large_head b bs false is rest later h = or_right (is_large_block b) (list_any is_large_block bs) (later h)

-- some block has too many variables
pub many_large : (Q : Query) → list_any (nat_lt 16000000) (widths_of Q) ≡ true → is_large Q ≡ true
many_large Q = go Q.blocks
  where
    go : (bs : List Block) → list_any (nat_lt 16000000) (map (λ (b : Block). capped (length b.vars)) bs) ≡ true → list_any is_large_block bs ≡ true
    go [] h = h
    go (b ∷ bs) h =
        large_head b bs (nat_lt 16000000 (length b.vars)) refl (list_any (nat_lt 16000000) (map (λ (c : Block). capped (length c.vars)) bs)) (go bs)
        (ap (λ c. c || list_any (nat_lt 16000000) (map (λ (c : Block). capped (length c.vars)) bs)) (sym (over (length b.vars))) ∙ h)

-- no block has too many variables
pub few_variables : (Q : Query) → list_any (nat_lt 16000000) (widths_of Q) ≡ false → (u : ℕ) (b : Block) → slice_get Q.blocks u ≡ Some b → nat_lt 16000000 (length b.vars) ≡ false
few_variables Q = go Q.blocks
  where
    go : (bs : List Block) → list_any (nat_lt 16000000) (map (λ (b : Block). capped (length b.vars)) bs) ≡ false → (u : ℕ) (b : Block) → slice_get bs u ≡ Some b → nat_lt 16000000 (length b.vars) ≡ false
    go [] h u b at = cc
    go (c ∷ bs) h zero b at =
        let same : c ≡ b = cc in
        sym (over (length b.vars)) ∙ ap (λ (d : Block). nat_lt 16000000 (capped (length d.vars))) (sym same) ∙ (or_none (nat_lt 16000000 (capped (length c.vars))) (list_any (nat_lt 16000000) (map (λ (b : Block). capped (length b.vars)) bs)) h).0
    go (c ∷ bs) h (suc u) b at = go bs (or_none (nat_lt 16000000 (capped (length c.vars))) (list_any (nat_lt 16000000) (map (λ (b : Block). capped (length b.vars)) bs)) h).1 u b at
