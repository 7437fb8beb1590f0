use Rattle.std.proofs.Common.{ℕ, List, [], ◌∷◌, ◌++◌, Option, None, sym, ap, ◌∙◌, arith}
use Rattle.std.proofs.lemmas.List.FromFn.{map-range_with_len_more}
use Rattle.cq_theory.specs.declared.term.TypeTerm.{TypeTerm}
use Rattle.cq_instance.proofs.null_terms.known.nothing_known.Goals as goal

pub loop-null-preserved : goal.loop-null-preserved
loop-null-preserved c =
    let n : ℕ = c.loop-null._null in
    c.in_ok-push.ensures.items ∙ ap (λ (l : List (Option TypeTerm)). l ++ None ∷ []) c.loop-null.invariant
    ∙ sym (map-range_with_len_more (λ (_ : ℕ). let none : Option TypeTerm = None in none) 0 n n (omega arith))
