use Rattle.std.proofs.Common.{ℕ, List, [], ◌∷◌, ◌++◌, sym, ◌∙◌, arith}
use Rattle.std.proofs.lemmas.List.FromFn.{map-range_with_len_more}
use Rattle.cq_base.specs.declared.name.Name.{Name}
use Rattle.cq_blocks.proofs.scopes.empty_tables.Goals as goal

pub loop-number-preserved : goal.loop-number-preserved
loop-number-preserved c =
    c.in_ok-push.ensures.items ∙ (λ i. c.loop-number.invariant i ++ c.new.ensures i ∷ [])
    ∙ sym (map-range_with_len_more (λ (n : ℕ). let none : List Name = [] in none) 0 c.loop-number._number c.loop-number._number (omega arith))
