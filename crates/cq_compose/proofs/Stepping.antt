-- The blocks of a composite, one after another.
use Rattle.std.proofs.Common.{ℕ, zero, suc, Bool, true, false, List, [], ◌∷◌, ◌++◌, Some, ◌≡◌, ◌<◌, ◌≤◌, ◌+◌, ◌||◌, map, take, drop, length, get_or, refl, sym, ap, ◌∙◌, arith}
use Rattle.std.specs.Prelude.{slice_get, option_map}
use Rattle.std.specs.List.{enumerate_from, list_any}
use Rattle.std.proofs.Math.Seq.{drop-cons}
use Rattle.std.proofs.lemmas.List.{length-map, take_more, take_all}
use Rattle.std.proofs.lemmas.List.Folds.{list_any_at}
use Rattle.std.proofs.lemmas.List.FromFn.{length-enumerate_from}
use Rattle.std.proofs.lemmas.Option.{slice_get-map, slice_get_within, slice_get_read, get_or_from_slice_get}
use Rattle.cq_theory.proofs.Every.{enumerated}
use Rattle.cq_blocks.specs.declared.block.Block.{Block}
use Rattle.cq_query.specs.QueryData.{QueryData as Query}
use Rattle.cq_compose.specs.Composite.{composite_block, composite, is_large_block, is_large}

-- a block of a list at hand
pub block_there : (items blocks : List Block) → items ≡ blocks → (i : ℕ) (b : Block) → i < length items → b ≡ get_or items i b → slice_get blocks i ≡ Some b
block_there items blocks same i b within is = ap (λ l. slice_get l i) (sym same) ∙ slice_get_read items (length items) i b refl within is

drop_past : (xs : List Block) (n : ℕ) → length xs ≤ n → drop n xs ≡ []
drop_past [] zero h = refl
drop_past [] (suc n) h = refl
drop_past (x ∷ xs) zero h = absurd (omega arith)
drop_past (x ∷ xs) (suc n) h = drop_past xs n (omega arith)

blocks_count : (Q W : Query) → length (composite Q W).blocks ≡ length W.blocks
blocks_count Q W = length-map (enumerate_from 0 W.blocks) (composite_block Q W) ∙ length-enumerate_from 0 W.blocks

-- behind all blocks
pub all_passed : (Q W : Query) (items : List Block) → items ≡ W.blocks → (n : ℕ) → length items ≤ n → list_any is_large_block (drop n (composite Q W).blocks) ≡ false
all_passed Q W items same n past = ap (list_any is_large_block) (drop_past (composite Q W).blocks n (omega (arith, blocks_count Q W, ap length same)))

pub all_taken : (Q W : Query) (items : List Block) → items ≡ W.blocks → (n : ℕ) → length items ≤ n → take n (composite Q W).blocks ≡ (composite Q W).blocks
all_taken Q W items same n past = take_all n (composite Q W).blocks (omega (arith, blocks_count Q W, ap length same))

module _ (Q W : Query) (i : ℕ) (b : Block) (there : slice_get W.blocks i ≡ Some b) where
  block_read : (d : Block) → get_or (composite Q W).blocks i d ≡ composite_block Q W (i, b)
  block_read d =
      let here : 0 + i ≡ i = omega arith in
      get_or_from_slice_get (composite Q W).blocks i (composite_block Q W (i, b)) d
      (slice_get-map (composite_block Q W) (enumerate_from 0 W.blocks) i
      ∙ ap (option_map (composite_block Q W)) (enumerated 0 W.blocks i b there ∙ ap (λ n. let p : ℕ × Block = (n, b) in Some p) here))

  within : i < length (composite Q W).blocks
  within =
      omega (arith, slice_get_within W.blocks i b there, length-map (enumerate_from 0 W.blocks) (composite_block Q W), length-enumerate_from 0 W.blocks)

  -- a block that is too large
  pub found_large : is_large_block (composite_block Q W (i, b)) ≡ true → is_large (composite Q W) ≡ true
  found_large h = list_any_at is_large_block (composite Q W).blocks i (composite_block Q W (i, b)) within (ap is_large_block (block_read (composite_block Q W (i, b))) ∙ h)

  -- one block more that is not
  pub passed_small : is_large_block (composite_block Q W (i, b)) ≡ false → list_any is_large_block (drop (i + 1) (composite Q W).blocks) ≡ list_any is_large_block (drop i (composite Q W).blocks)
  passed_small h =
      let next : suc i ≡ i + 1 = omega arith in
      sym (ap (list_any is_large_block) (drop-cons (composite Q W).blocks i (composite_block Q W (i, b)) within ∙ ap (λ n. get_or (composite Q W).blocks i (composite_block Q W (i, b)) ∷ drop n (composite Q W).blocks) next)
      ∙ ap (λ c. c || list_any is_large_block (drop (i + 1) (composite Q W).blocks)) (ap is_large_block (block_read (composite_block Q W (i, b))) ∙ h))

  pub one_more : (made : List Block) → made ≡ take i (composite Q W).blocks → made ++ composite_block Q W (i, b) ∷ [] ≡ take (i + 1) (composite Q W).blocks
  one_more made are =
      ap (λ l. l ++ composite_block Q W (i, b) ∷ []) are
      ∙ sym (take_more (composite Q W).blocks i (composite_block Q W (i, b)) within ∙ ap (λ c. take i (composite Q W).blocks ++ c ∷ []) (block_read (composite_block Q W (i, b))))
