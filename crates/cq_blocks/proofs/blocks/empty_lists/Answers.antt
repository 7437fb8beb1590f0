use Rattle.std.proofs.Common.{ℕ, List, [], ◌∷◌, ◌++◌, map, sym, ap, ◌∙◌, arith}
use Rattle.std.proofs.lemmas.List.{map-append}
use Rattle.std.proofs.lemmas.List.FromFn.{map-range_with_len_more}
use Rattle.cq_theory.specs.declared.presentation.Equation.{Equation}
use Rattle.cq_blocks.proofs.blocks.empty_lists.Goals as goal

pub loop-number-preserved : goal.loop-number-preserved
loop-number-preserved c =
    ap (map (λ list. list.items)) c.in_ok-push.ensures.items
    ∙ map-append (λ list. list.items) c.loop-number.lists.items (c.new.result ∷ [])
    ∙ (λ i. c.loop-number.invariant i ++ c.new.ensures.items i ∷ [])
    ∙ sym (map-range_with_len_more (λ (n : ℕ). let none : List Equation = [] in none) 0 c.loop-number._number c.loop-number._number (omega arith))
